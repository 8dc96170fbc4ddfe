-- The offending token of a text that is none, and the kind of its refusal.
use Rattle.std.specs.Prelude.{◌≡◌, ℕ, true, false, ◌⊎◌, List, [], ◌∷◌, ◌++◌, codes}
use Rattle.pddl_forms.specs.declared.stop.Why.{Why}
use Rattle.pddl_forms.specs.declared.stop.Why.TheVariants.{Shape, Unsupported}
use Rattle.pddl_forms.specs.Lexemes.{Lexeme, name, keyword, equal, gap}
use Rattle.pddl_forms.specs.Forms.{is_one_of, is_reserved}

-- some lexemes make a text of those that stand already
abbrev pub Begins : {A : Type 0} → (List Lexeme → A → List Lexeme → Type 0) → List Lexeme → Type 0
Begins {A} Text front = (more : List Lexeme) × (text : A) × Text (front ++ more) text []

-- the keywords of the sections of a domain
abbrev pub domain_keywords : List (List ℕ)
domain_keywords = codes ":requirements" ∷ codes ":types" ∷ codes ":constants" ∷ codes ":predicates" ∷ codes ":action" ∷ []

-- the keywords of the sections of a problem
abbrev pub problem_keywords : List (List ℕ)
problem_keywords = codes ":domain" ∷ codes ":requirements" ∷ codes ":objects" ∷ codes ":init" ∷ codes ":goal" ∷ []

-- the words of `:requirements`
abbrev pub requirement_keywords : List (List ℕ)
requirement_keywords = codes ":strips" ∷ codes ":typing" ∷ []

-- the keywords of the parts of an action
abbrev pub part_keywords : List (List ℕ)
part_keywords = codes ":parameters" ∷ codes ":precondition" ∷ codes ":effect" ∷ []

-- a keyword that is none of these, where one of these may stand; one that stands already may not, so that a second one is
-- no such keyword
abbrev pub IsOtherKeyword : List (List ℕ) → (Lexeme → Type 0) → Lexeme → Type 0
IsOtherKeyword keys May t =
    ((text : List ℕ) × (at : ℕ) × (t ≡ keyword text at) × (is_one_of keys text ≡ false)) × ((text : List ℕ) × (at : ℕ) × (is_one_of keys text ≡ true) × May (keyword text at))

-- a reserved name, or the equality sign
abbrev pub IsReservedHead : Lexeme → Type 0
IsReservedHead t = ((text : List ℕ) × (at : ℕ) × (t ≡ name text at) × (is_reserved text ≡ true)) ⊎ ((at : ℕ) × (t ≡ equal at))

-- a HEAD may stand: every name that is not reserved may. In the place of any NAME these may stand too, but there `or` may
-- as well, which it never may beside a HEAD, while `and` and `not` do in formulas and effects
abbrev pub MayHead : (Lexeme → Type 0) → Type 0
MayHead May = ((text : List ℕ) (at : ℕ) → is_reserved text ≡ false → May (name text at)) × ((at : ℕ) → May (name (codes "or") at) → ⊥)

-- What this grammar leaves out, by what may stand in its place: another keyword in the place of a keyword of a section
-- (of these sections), of `:requirements` or of a part; a reserved name or `=` in the place of a HEAD; and `either` in the
-- place of a gap, so after a dash and a left parenthesis.
pub data IsUnsupported (sections : List (List ℕ)) (May : Lexeme → Type 0) (t : Lexeme) : Type 0 where
  other_section : IsOtherKeyword sections May t → IsUnsupported sections May t
  other_requirement : IsOtherKeyword requirement_keywords May t → IsUnsupported sections May t
  other_part : IsOtherKeyword part_keywords May t → IsUnsupported sections May t
  reserved_head : IsReservedHead t → MayHead May → IsUnsupported sections May t
  either_type : {at : ℕ} → t ≡ name (codes "either") at → ((gap_at : ℕ) → May (gap gap_at)) → IsUnsupported sections May t

-- the kind of a refusal, where this is what the grammar leaves out
abbrev pub IsKind : Why → Type 0 → Type 0
IsKind Unsupported LeavesOut = LeavesOut
IsKind Shape LeavesOut = LeavesOut → ⊥

-- Where no text can be read any further: the lexemes from the offending one on are left over. Those before it begin a
-- text, and with it they do not. Where all lexemes begin a text and are none, the end offends, and nothing is left over. What
-- may stand in the place of the offending lexeme gives the kind.
abbrev pub Offends : {A : Type 0} → List (List ℕ) → (List Lexeme → A → List Lexeme → Type 0) → List Lexeme → Why → List Lexeme → Type 0
Offends {A} sections Text ts why [] = Begins Text ts × ((text : A) → Text ts text [] → ⊥) × (why ≡ Shape)
Offends sections Text ts why (t ∷ left_over) =
    (front : List Lexeme) × (ts ≡ front ++ t ∷ left_over) × Begins Text front × (Begins Text (front ++ t ∷ []) → ⊥) × IsKind why (IsUnsupported sections (λ u. Begins Text (front ++ u ∷ [])) t)

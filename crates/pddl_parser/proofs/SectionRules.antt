-- Actions in parts, the sections of a domain, and whole domains are read as the grammar says.
use Rattle.std.proofs.Common.{◌≡◌, ℕ, Bool, true, false, cond, ◌&&◌, ◌⊎◌, inl, inr, List, [], ◌∷◌, Option, Some, None, codes, refl, sym, ap, ◌∙◌, subst}
use Rattle.pddl_lexer.specs.declared.lexer.Kind.TheVariants.{RightParen, Variable}
use Rattle.pddl_parser.specs.declared.texts.ActionText.{ActionText}
use Rattle.pddl_forms.specs.declared.formulas.Terms.TheVariants.{NamesAndVariables}
use Rattle.pddl_forms.specs.Lexemes.{Lexeme, left, right, keyword}
use Rattle.pddl_parser.specs.Grammar.{is_part}
use Rattle.pddl_forms.specs.Inner.Reading.{Read, got, stuck, and_then, comes, in_list}
use Rattle.pddl_forms.specs.Offending.{domain_keywords, part_keywords}
use Rattle.pddl_parser.specs.Grammar
use Rattle.pddl_forms.specs.Forms.{IsVariables}
use Rattle.pddl_parser.specs.Grammar.{Opened, opened, ActionParts, no_parts, IsParts, IsAction, is_action}
use Rattle.pddl_forms.specs.Inner.TypedReading.{typed_list}
use Rattle.pddl_parser.specs.Inner.Choosing.{is_keyword, why_no_keyword, Choice, any_may, takes_key, after_key, choice_of}
use Rattle.pddl_parser.specs.Inner.SectionReading.{is_none, part_choices, parts, action}
use Rattle.pddl_forms.proofs.Fronts.{and_then-cases, same_got, mark-left}
use Rattle.pddl_forms.proofs.ItemSteps.{Parses}
use Rattle.pddl_forms.proofs.Exact.{parses_name_word}
use Rattle.pddl_forms.proofs.ConjunctionRules.{parses_formula, parses_effect}
use Rattle.pddl_forms.proofs.TypedRules.{parses_variables}
use Rattle.pddl_parser.proofs.Choices.{keyword_found}
use Rattle.pddl_parser.proofs.Turns.{turn-is, turn-got, turns-sound}
use Rattle.pddl_parser.proofs.SectionReaders.{parts-step}

-- a body within parentheses
pub parses_opened : {A : Type 0} (Body : List Lexeme → A → List Lexeme → Type 0) (body : List Lexeme → Read A) → Parses Body body → Parses (Opened Body) (in_list body)
unfolding and_then
parses_opened {A} Body body parses = record { sound = sound; complete = complete }
  where
    opened_at : (a b rest : List Lexeme) (value : A) (p : ℕ) → a ≡ left p ∷ b → Body b value rest → Opened Body a value rest
    opened_at a b rest value p i d = rw i (opened d)

    sound : (ts rest : List Lexeme) (value : A) → in_list body ts ≡ got value rest → Opened Body ts value rest
    sound ts rest value e =
        let a = and_then-cases _ _ _ _ e in
        let p = mark-left ts _ _ a.2 in
        opened_at ts _ rest value _ p.1 (parses.sound _ _ _ a.3)

    complete : (ts rest : List Lexeme) (value : A) → Opened Body ts value rest → in_list body ts ≡ got value rest
    complete ts rest value (opened {ts = after} d) = parses.complete after rest value d

-- what a choice read: its keyword, and its body
abbrev pub IsChoice : {S : Type 0} → List (Choice S) → S → List Lexeme → S → List Lexeme → Type 0
IsChoice [] seen ts next rest = ⊥
IsChoice (c ∷ choices) seen ts next rest = ((p : ℕ) × (us : List Lexeme) × (ts ≡ keyword c.key p ∷ us) × (c.may seen ≡ true) × (c.body seen us ≡ got next rest)) ⊎ IsChoice choices seen ts next rest

after-choice : {S : Type 0} (choices : List (Choice S)) (seen next : S) (t : Lexeme) (ts rest : List Lexeme) → after_key choices seen t ts ≡ got next rest → IsChoice choices seen (t ∷ ts) next rest
after-choice [] seen next t ts rest e = absurd cc
after-choice (c ∷ choices) seen next t ts rest e = go (after-choice choices seen next t ts rest) (is_keyword c.key t) (c.may seen) refl refl e
  where
    go : (after_key choices seen t ts ≡ got next rest → IsChoice choices seen (t ∷ ts) next rest) → (a b : Bool) → is_keyword c.key t ≡ a → c.may seen ≡ b → cond (a && b) (c.body seen ts) (after_key choices seen t ts) ≡ got next rest → IsChoice (c ∷ choices) seen (t ∷ ts) next rest
    go further true true is may e = let found = keyword_found c.key t is in inl (found.0, ts, ap (λ u. u ∷ ts) found.1, may, e)
    go further true false is may e = inr (further e)
    go further false b is may e = inr (further e)

pub choice-sound : {S : Type 0} (keys : List (List ℕ)) (choices : List (Choice S)) (seen next : S) (ts rest : List Lexeme) → choice_of keys choices seen ts ≡ got next rest → IsChoice choices seen ts next rest
unfolding choice_of
choice-sound keys choices seen next [] rest e = absurd cc
choice-sound keys choices seen next (t ∷ ts) rest e = go (takes_key choices seen t) e
  where
    go : (b : Bool) → cond b (after_key choices seen t ts) (stuck (why_no_keyword keys (any_may choices seen) t) (t ∷ ts)) ≡ got next rest → IsChoice choices seen (t ∷ ts) next rest
    go true e = after-choice choices seen next t ts rest e
    go false e = absurd cc

pub none_is : {A : Type 0} (o : Option A) → is_none o ≡ true → o ≡ None
none_is None e = refl
none_is (Some a) e = absurd cc

-- the parts of an action
part_turn : (seen next all : ActionParts) (ts mid rest : List Lexeme) → choice_of part_keywords part_choices seen ts ≡ got next mid → IsParts next mid all rest → IsParts seen ts all rest
part_turn seen next all ts mid rest e ds = go (choice-sound part_keywords part_choices seen next ts mid e)
  where
    variables : Parses (Opened IsVariables) (in_list (typed_list Variable))
    variables = parses_opened IsVariables (typed_list Variable) parses_variables

    go : IsChoice part_choices seen ts next mid → IsParts seen ts all rest
    go (inl (p, us, is, may, e)) =
        let one = and_then-cases _ _ _ _ e in let same = same_got one.3 in
        Grammar.parameters (none_is seen.params may) (rw is (is_part (variables.sound us one.1 one.0 one.2))) (subst (λ s. IsParts s one.1 all rest) (sym same.0) (subst (λ l. IsParts next l all rest) (sym same.1) ds))
    go (inr (inl (p, us, is, may, e))) =
        let one = and_then-cases _ _ _ _ e in let same = same_got one.3 in
        Grammar.precondition (none_is seen.pre may) (rw is (is_part ((parses_formula NamesAndVariables).sound us one.1 one.0 one.2))) (subst (λ s. IsParts s one.1 all rest) (sym same.0) (subst (λ l. IsParts next l all rest) (sym same.1) ds))
    go (inr (inr (inl (p, us, is, may, e)))) =
        let one = and_then-cases _ _ _ _ e in let same = same_got one.3 in
        Grammar.effect (none_is seen.changes may) (rw is (is_part (parses_effect.sound us one.1 one.0 one.2))) (subst (λ s. IsParts s one.1 all rest) (sym same.0) (subst (λ l. IsParts next l all rest) (sym same.1) ds))
    go (inr (inr (inr none))) = absurd none

parts-sound : (seen all : ActionParts) (ts rest : List Lexeme) → parts seen ts ≡ got all rest → IsParts seen ts all rest
parts-sound = turns-sound domain_keywords (λ _. true) (choice_of part_keywords part_choices) parts-step IsParts (λ seen p rest e. Grammar.no_more_parts) part_turn

one_part : (seen next : ActionParts) (ts mid : List Lexeme) → comes RightParen ts ≡ false → choice_of part_keywords part_choices seen ts ≡ got next mid → parts seen ts ≡ parts next mid
one_part = turn-got domain_keywords (λ _. true) (choice_of part_keywords part_choices) parts-step

parts-complete : (seen all : ActionParts) (ts rest : List Lexeme) → IsParts seen ts all rest → parts seen ts ≡ got all rest
unfolding choice_of and_then
parts-complete seen all ts rest (Grammar.no_more_parts {p = p}) = turn-is domain_keywords (λ _. true) (choice_of part_keywords part_choices) parts-step seen (right p ∷ rest)
parts-complete seen all ts rest (Grammar.parameters {mid = mid} {params = params} none (is_part {p = p} {ts = us} d) ds) =
    one_part seen (record seen { params = Some params }) (keyword (codes ":parameters") p ∷ us) mid refl (rw none (ap (λ r. and_then r (λ v rest. got (record seen { params = Some v }) rest)) ((parses_opened IsVariables (typed_list Variable) parses_variables).complete us mid params d))) ∙ parts-complete (record seen { params = Some params }) all mid rest ds
parts-complete seen all ts rest (Grammar.precondition {mid = mid} {pre = pre} none (is_part {p = p} {ts = us} d) ds) =
    one_part seen (record seen { pre = Some pre }) (keyword (codes ":precondition") p ∷ us) mid refl (rw none (ap (λ r. and_then r (λ v rest. got (record seen { pre = Some v }) rest)) ((parses_formula NamesAndVariables).complete us mid pre d))) ∙ parts-complete (record seen { pre = Some pre }) all mid rest ds
parts-complete seen all ts rest (Grammar.effect {mid = mid} {changes = changes} none (is_part {p = p} {ts = us} d) ds) =
    one_part seen (record seen { changes = Some changes }) (keyword (codes ":effect") p ∷ us) mid refl (rw none (ap (λ r. and_then r (λ v rest. got (record seen { changes = Some v }) rest)) (parses_effect.complete us mid changes d))) ∙ parts-complete (record seen { changes = Some changes }) all mid rest ds

-- NAME part* )
action-sound : (ts rest : List Lexeme) (a : ActionText) → action ts ≡ got a rest → IsAction ts a rest
unfolding action
action-sound ts rest a e =
    let own = and_then-cases _ _ _ _ e in
    let all = and_then-cases _ _ _ _ own.3 in
    let same = same_got all.3 in
    subst (λ a. IsAction ts a rest) same.0 (is_action (parses_name_word.sound _ _ _ own.2) (parts-sound no_parts all.0 own.1 rest (all.2 ∙ ap (got all.0) same.1)))

action-complete : (ts rest : List Lexeme) (a : ActionText) → IsAction ts a rest → action ts ≡ got a rest
unfolding action and_then
action-complete ts rest a (is_action {mid = mid} {own = own} {parts = all} d ds) = rw (parses_name_word.complete ts mid own d, parts-complete no_parts all mid rest ds) refl

pub parses_action_of_parts : Parses IsAction action
parses_action_of_parts = record { sound = action-sound; complete = action-complete }

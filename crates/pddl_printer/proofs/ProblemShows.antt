-- Lexemes that show a problem are those of a problem that says the same.
use Rattle.std.proofs.Common.{◌≡◌, ℕ, List, [], ◌∷◌, ◌++◌, Some, codes, refl, sym, ap, subst, ◌∙◌}
use Rattle.std.specs.Prelude.{All}
use Rattle.std.specs.List.{flat_map}
use Rattle.flag_rules.specs.Name.{IsName}
use Rattle.pddl_forms.specs.declared.texts.Word.{Word}
use Rattle.pddl_forms.specs.declared.texts.AtomText.{AtomText}
use Rattle.pddl_parser.specs.declared.texts.ProblemText.{ProblemText}
use Rattle.pddl_parser.specs.Sections.{ProblemSections}
use Rattle.pddl_forms.specs.Lexemes.{Lexeme, right}
use Rattle.pddl_forms.specs.Forms.{Many, Closed, Conjunction, IsNameWord, IsGroundAtom}
use Rattle.pddl_parser.specs.Grammar.{IsSection, IsProblemSections, all_stand, of_domain, needs, objects, init, goal, IsProblem, is_problem}
use Rattle.pddl_parser.specs.Spelled.{IsAtomSpelled, IsProblemSpelled}
use Rattle.pddl_printer.specs.Printing.{section, texts_of, typed_words, atom_words, formula_words, problem_section_words, problem_words}
use Rattle.pddl_printer.specs.Alike.{AlikeWord, AlikeAtom, AlikeProblem, AreAlike}
use Rattle.pddl_printer.proofs.Lines.{Shown, all_shown}
use Rattle.pddl_printer.proofs.Shows.{Reads, read-name, read-many, read-atom, read-formula}
use Rattle.pddl_printer.proofs.ActionShows.{closing, read-closed}
use Rattle.pddl_printer.proofs.SectionShows.{sections-apart, read-opening, read-listed, read-requirements, read-names}

read-domain_name : (own : Word) → IsName own.text → (ws : List (List ℕ)) (ts : List Lexeme) → Shown (section (codes ":domain") (own.text ∷ []) ++ ws) ts → Reads (IsSection (codes ":domain") (Closed IsNameWord)) (AlikeWord own) ws ts
read-domain_name own is = read-listed (Closed IsNameWord) (AlikeWord own) (codes "domain") (own.text ∷ []) (λ ws ts shows. read-closed IsNameWord (AlikeWord own) ws ts (read-name own is (codes ")" ∷ ws) ts shows))

read-init : (atoms : List AtomText) → All (IsAtomSpelled IsName) atoms → (ws : List (List ℕ)) (ts : List Lexeme) → Shown (section (codes ":init") (flat_map atom_words atoms) ++ ws) ts → Reads (IsSection (codes ":init") (Many IsGroundAtom)) (AreAlike AlikeAtom atoms) ws ts
read-init atoms all = read-listed (Many IsGroundAtom) (AreAlike AlikeAtom atoms) (codes "init") (flat_map atom_words atoms) (read-many IsGroundAtom AlikeAtom atom_words (IsAtomSpelled IsName) (read-atom IsNameWord IsName read-name) atoms all)

read-goal : (atoms : List AtomText) → All (IsAtomSpelled IsName) atoms → (ws : List (List ℕ)) (ts : List Lexeme) → Shown (section (codes ":goal") (formula_words atoms) ++ ws) ts → Reads (IsSection (codes ":goal") (Closed (Conjunction IsGroundAtom))) (AreAlike AlikeAtom atoms) ws ts
read-goal atoms all =
    read-listed (Closed (Conjunction IsGroundAtom)) (AreAlike AlikeAtom atoms) (codes "goal") (formula_words atoms)
    (λ ws ts shows. read-closed (Conjunction IsGroundAtom) (AreAlike AlikeAtom atoms) ws ts (read-formula IsNameWord IsName read-name atoms all (codes ")" ∷ ws) ts shows))

-- where no words are left, no lexemes are
none-left : (ts : List Lexeme) → Shown [] ts → ts ≡ []
none-left _ all_shown = refl

-- a problem that says the same as another is spelled by these lexemes
pub record ReadsProblem (problem : ProblemText) (ts : List Lexeme) : Type 0 where
  pub item : ProblemText
  pub alike : AlikeProblem problem item
  pub rule : IsProblem ts item []

pub read-problem : (problem : ProblemText) → IsProblemSpelled problem → (ts : List Lexeme) → Shown (problem_words problem) ts → ReadsProblem problem ts
unfolding problem_words problem_section_words
read-problem problem is ts shows =
    let a = section (codes ":domain") (problem.domain.text ∷ []) in
    let b = section (codes ":requirements") (texts_of problem.requirements) in
    let c = section (codes ":objects") (typed_words problem.objects) in
    let d = section (codes ":init") (flat_map atom_words problem.init) in
    let e = section (codes ":goal") (formula_words problem.goal) in
    let end = codes ")" ∷ [] in
    let P : List (List ℕ) → Type 0 = λ l. Shown (codes "(" ∷ codes "define" ∷ (section (codes "problem") (problem.name.text ∷ []) ++ l)) ts in
    let apart = subst P (sections-apart a b c d e end) shows in
    let own = read-opening (codes "problem") refl problem.name is.own (a ++ (b ++ (c ++ (d ++ (e ++ end))))) ts apart in
    let dom = read-domain_name problem.domain is.domain (b ++ (c ++ (d ++ (e ++ end)))) own.rest own.shows in
    let reqs = read-requirements problem.requirements is.requirements (c ++ (d ++ (e ++ end))) dom.rest dom.shows in
    let objs = read-names (codes "objects") problem.objects is.objects (d ++ (e ++ end)) reqs.rest reqs.shows in
    let starts = read-init problem.init is.init (e ++ end) objs.rest objs.shows in
    let goals = read-goal problem.goal is.goal end starts.rest starts.shows in
    let last = closing [] goals.rest goals.shows in
    let all : ProblemSections = record { domain = Some dom.item; requirements = Some reqs.item; objects = Some objs.item; init = Some starts.item; goal = Some goals.item } in
    let Q : List Lexeme → Type 0 = λ mid. IsProblemSections all mid all [] in
    let ends : goals.rest ≡ right last.place ∷ [] = last.is ∙ ap (λ (l : List Lexeme). right last.place ∷ l) (none-left last.rest last.shows) in
    record {
      item = record { name = own.item; domain = dom.item; requirements = reqs.item; objects = objs.item; init = starts.item; goal = goals.item };
      alike = record { name = own.alike; domain = dom.alike; requirements = reqs.alike; objects = objs.alike; init = starts.alike; goal = goals.alike };
      rule = is_problem own.rule (of_domain refl dom.rule (needs refl reqs.rule (objects refl objs.rule (init refl starts.rule (goal refl goals.rule (subst Q (sym ends) (all_stand refl refl))))))) refl;
    }

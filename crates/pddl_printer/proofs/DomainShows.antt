-- Lexemes that show a domain are those of a domain that says the same.
use Rattle.std.proofs.Common.{ℕ, List, [], ◌∷◌, ◌++◌, Some, codes, refl, sym, subst, append_assoc}
use Rattle.std.proofs.lemmas.List.{append-nil}
use Rattle.std.specs.Prelude.{All}
use Rattle.std.specs.List.{flat_map}
use Rattle.pddl_parser.specs.declared.texts.PredText.{PredText}
use Rattle.pddl_parser.specs.declared.texts.ActionText.{ActionText}
use Rattle.pddl_parser.specs.declared.texts.DomainText.{DomainText}
use Rattle.pddl_parser.specs.Sections.{DomainSections}
use Rattle.pddl_forms.specs.Lexemes.{Lexeme, right}
use Rattle.pddl_forms.specs.Forms.{Many}
use Rattle.pddl_parser.specs.Grammar.{IsPredicate, IsSection, IsDomainSections, no_more_sections, requirements, types, constants, predicates, action, domain_of, IsDomain, is_domain}
use Rattle.pddl_parser.specs.Spelled.{IsPredicateSpelled, IsActionSpelled, IsDomainSpelled}
use Rattle.pddl_printer.specs.Printing.{section, texts_of, typed_words, predicate_words, action_words, domain_section_words, domain_words}
use Rattle.pddl_printer.specs.Alike.{AlikePredicate, AlikeAction, AlikeDomain, AreAlike}
use Rattle.pddl_printer.proofs.Lines.{Shown, all_shown, shown}
use Rattle.pddl_printer.proofs.Nesting.{all-first, all-rest}
use Rattle.pddl_printer.proofs.Shows.{Reads, regroup, read-many}
use Rattle.pddl_printer.proofs.TypedShows.{read-predicate}
use Rattle.pddl_printer.proofs.ActionShows.{read-action}
use Rattle.pddl_printer.proofs.SectionShows.{sections-apart, read-opening, read-listed, read-requirements, read-names}

read-predicates : (all : List PredText) → All IsPredicateSpelled all → (ws : List (List ℕ)) (ts : List Lexeme) → Shown (section (codes ":predicates") (flat_map predicate_words all) ++ ws) ts → Reads (IsSection (codes ":predicates") (Many IsPredicate)) (AreAlike AlikePredicate all) ws ts
read-predicates all are = read-listed (Many IsPredicate) (AreAlike AlikePredicate all) (codes "predicates") (flat_map predicate_words all) (read-many IsPredicate AlikePredicate predicate_words IsPredicateSpelled read-predicate all are)

-- the actions after other sections, up to the end of a domain
record ReadsActions (seen : DomainSections) (actions : List ActionText) (ts : List Lexeme) : Type 0 where
  items : List ActionText
  rule : IsDomainSections seen ts (record seen { actions = seen.actions ++ items }) []
  alike : AreAlike AlikeAction actions items

read-actions : (actions : List ActionText) → All IsActionSpelled actions → (seen : DomainSections) (ts : List Lexeme) → Shown (flat_map action_words actions ++ codes ")" ∷ []) ts → ReadsActions seen actions ts
read-actions [] all seen _ (shown p all_shown) =
    let P : List ActionText → Type 0 = λ l. IsDomainSections seen (right p ∷ []) (record seen { actions = l }) [] in
    record { items = []; rule = subst P (sym (append-nil seen.actions)) no_more_sections; alike = tt }
read-actions (a ∷ actions) all seen ts shows =
    let first = read-action a (all-first IsActionSpelled a actions all) (flat_map action_words actions ++ codes ")" ∷ []) ts (regroup (action_words a) (flat_map action_words actions) (codes ")" ∷ []) ts shows) in
    let others = read-actions actions (all-rest IsActionSpelled a actions all) (record seen { actions = seen.actions ++ first.item ∷ [] }) first.rest first.shows in
    let P : List ActionText → Type 0 = λ l. IsDomainSections seen ts (record seen { actions = l }) [] in
    record {
      items = first.item ∷ others.items;
      rule = subst P (append_assoc seen.actions (first.item ∷ []) others.items) (action first.rule others.rule);
      alike = (first.alike, others.alike);
    }

-- a domain that says the same as another is spelled by these lexemes
pub record ReadsDomain (domain : DomainText) (ts : List Lexeme) : Type 0 where
  pub item : DomainText
  pub alike : AlikeDomain domain item
  pub rule : IsDomain ts item []

pub read-domain : (domain : DomainText) → IsDomainSpelled domain → (ts : List Lexeme) → Shown (domain_words domain) ts → ReadsDomain domain ts
unfolding domain_words domain_section_words
read-domain domain is ts shows =
    let a = section (codes ":requirements") (texts_of domain.requirements) in
    let b = section (codes ":types") (typed_words domain.types) in
    let c = section (codes ":constants") (typed_words domain.constants) in
    let d = section (codes ":predicates") (flat_map predicate_words domain.predicates) in
    let e = flat_map action_words domain.actions in
    let end = codes ")" ∷ [] in
    let P : List (List ℕ) → Type 0 = λ l. Shown (codes "(" ∷ codes "define" ∷ (section (codes "domain") (domain.name.text ∷ []) ++ l)) ts in
    let apart = subst P (sections-apart a b c d e end) shows in
    let own = read-opening (codes "domain") refl domain.name is.own (a ++ (b ++ (c ++ (d ++ (e ++ end))))) ts apart in
    let reqs = read-requirements domain.requirements is.requirements (b ++ (c ++ (d ++ (e ++ end)))) own.rest own.shows in
    let tys = read-names (codes "types") domain.types is.types (c ++ (d ++ (e ++ end))) reqs.rest reqs.shows in
    let cons = read-names (codes "constants") domain.constants is.constants (d ++ (e ++ end)) tys.rest tys.shows in
    let preds = read-predicates domain.predicates is.predicates (e ++ end) cons.rest cons.shows in
    let seen : DomainSections = record { requirements = Some reqs.item; types = Some tys.item; constants = Some cons.item; predicates = Some preds.item; actions = [] } in
    let acts = read-actions domain.actions is.actions seen preds.rest preds.shows in
    let all : DomainSections = record seen { actions = acts.items } in
    record {
      item = domain_of own.item all;
      alike = record { name = own.alike; requirements = reqs.alike; types = tys.alike; constants = cons.alike; predicates = preds.alike; actions = acts.alike };
      rule = is_domain own.rule (requirements refl reqs.rule (types refl tys.rule (constants refl cons.rule (predicates refl preds.rule acts.rule))));
    }

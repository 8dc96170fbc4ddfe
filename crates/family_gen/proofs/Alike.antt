-- What texts that say the same have in common: their words, types, parts and limits.
use Rattle.std.proofs.Common.{◌≡◌, ℕ, suc, ◌+◌, List, [], ◌∷◌, ◌++◌, map, length, Option, Some, None, option_map, unwrap_or, find, cond, Bool, true, false, bytes_eq, refl, sym, ap, ◌∙◌}
use Rattle.std.specs.Prelude.{All}
use Rattle.std.proofs.lemmas.List.Elements.{All-nil, All-cons, All-head, All-tail}
use Rattle.pddl_forms.specs.declared.texts.Word.{Word}
use Rattle.pddl_forms.specs.declared.texts.Typed.{Typed}
use Rattle.pddl_parser.specs.declared.texts.PredText.{PredText}
use Rattle.pddl_parser.specs.declared.texts.ActionText.{ActionText}
use Rattle.pddl_printer.specs.Alike.{AlikeType, AlikeTyped, AlikePredicate, AlikeAction, AreAlike}
use Rattle.pddl_task.specs.Types.{root, text_of, names_of, type_of}
use Rattle.pddl_task.specs.Faults.{action_word, arity_named}
use Rattle.pddl_task.specs.Parts.{heads_of}

-- lists of items that say the same
module _ {X : Type 0} (Alike : X → X → Type 0) where
  pub alike_map : {Y : Type 0} (f : X → Y) → ((x y : X) → Alike x y → f x ≡ f y) → (xs ys : List X) → AreAlike Alike xs ys → map f xs ≡ map f ys
  alike_map f same [] [] alike = refl
  alike_map f same [] (y ∷ ys) alike = absurd alike
  alike_map f same (x ∷ xs) [] alike = absurd alike
  alike_map f same (x ∷ xs) (y ∷ ys) alike = λ i. same x y alike.0 i ∷ alike_map f same xs ys alike.1 i

  pub alike_all : (P Q : X → Type 0) → ((x y : X) → Alike x y → P x → Q y) → (xs ys : List X) → AreAlike Alike xs ys → All P xs → All Q ys
  alike_all P Q gives [] [] alike all = All-nil Q
  alike_all P Q gives [] (y ∷ ys) alike all = absurd alike
  alike_all P Q gives (x ∷ xs) [] alike all = absurd alike
  alike_all P Q gives (x ∷ xs) (y ∷ ys) alike all = All-cons Q y ys (gives x y alike.0 (All-head P x xs all)) (alike_all P Q gives xs ys alike.1 (All-tail P x xs all))

  pub alike_length : (xs ys : List X) → AreAlike Alike xs ys → length xs ≡ length ys
  alike_length [] [] alike = refl
  alike_length [] (y ∷ ys) alike = absurd alike
  alike_length (x ∷ xs) [] alike = absurd alike
  alike_length (x ∷ xs) (y ∷ ys) alike = ap suc (alike_length xs ys alike.1)

  pub alike_nothing : (xs ys : List X) → xs ≡ [] → AreAlike Alike xs ys → ys ≡ []
  alike_nothing [] [] is alike = refl
  alike_nothing [] (y ∷ ys) is alike = absurd alike
  alike_nothing (x ∷ xs) ys is alike = absurd (cc)

  pub alike_append : (xs ys us vs : List X) → AreAlike Alike xs ys → AreAlike Alike us vs → AreAlike Alike (xs ++ us) (ys ++ vs)
  alike_append [] [] us vs alike also = also
  alike_append [] (y ∷ ys) us vs alike also = absurd alike
  alike_append (x ∷ xs) [] us vs alike also = absurd alike
  alike_append (x ∷ xs) (y ∷ ys) us vs alike also = (alike.0, alike_append xs ys us vs alike.1 also)

-- the types that a typed list gives are the same, since `object` is that of a word to which it gives none
type_of_alike : (a b : Option Word) → AlikeType a b → unwrap_or (option_map text_of a) root ≡ unwrap_or (option_map text_of b) root
type_of_alike None None alike = refl
type_of_alike None (Some b) alike = sym alike
type_of_alike (Some a) None alike = absurd alike
type_of_alike (Some a) (Some b) alike = alike

pub alike_type : (x y : Typed) → AlikeTyped x y → type_of x ≡ type_of y
alike_type x y alike = type_of_alike x.of y.of alike.of

pub alike_names : (xs ys : List Typed) → AreAlike AlikeTyped xs ys → names_of xs ≡ names_of ys
alike_names [] [] alike = refl
alike_names [] (y ∷ ys) alike = absurd alike
alike_names (x ∷ xs) [] alike = absurd alike
alike_names (x ∷ xs) (y ∷ ys) alike = λ i. alike.0.word i ∷ alike_names xs ys alike.1 i

pub alike_heads : (xs ys : List PredText) → AreAlike AlikePredicate xs ys → heads_of xs ≡ heads_of ys
alike_heads [] [] alike = refl
alike_heads [] (y ∷ ys) alike = absurd alike
alike_heads (x ∷ xs) [] alike = absurd alike
alike_heads (x ∷ xs) (y ∷ ys) alike = λ i. alike.0.head i ∷ alike_heads xs ys alike.1 i

pub alike_actions : (xs ys : List ActionText) → AreAlike AlikeAction xs ys → map text_of (map action_word xs) ≡ map text_of (map action_word ys)
alike_actions [] [] alike = refl
alike_actions [] (y ∷ ys) alike = absurd alike
alike_actions (x ∷ xs) [] alike = absurd alike
alike_actions (x ∷ xs) (y ∷ ys) alike = λ i. alike.0.name i ∷ alike_actions xs ys alike.1 i

-- the number of parameters of a predicate if it is the one that is looked for, or else that of the name among others
abbrev arity_of : List ℕ → Bool → PredText → List PredText → Option ℕ
arity_of name here predicate others = option_map (λ (p : PredText). length p.params) (cond here (Some predicate) (find (λ (p : PredText). bytes_eq name p.head.text) others))

-- a name has the same number of parameters
pub alike_arity : (name : List ℕ) (xs ys : List PredText) → AreAlike AlikePredicate xs ys → arity_named xs name ≡ arity_named ys name
alike_arity name [] [] alike = refl
alike_arity name [] (y ∷ ys) alike = absurd alike
alike_arity name (x ∷ xs) [] alike = absurd alike
alike_arity name (x ∷ xs) (y ∷ ys) alike =
    by (bytes_eq name x.head.text) (alike_arity name xs ys alike.1) ∙ ap (λ text. arity_of name (bytes_eq name text) y ys) alike.0.head
  where
    by : (b : Bool) → arity_named xs name ≡ arity_named ys name → arity_of name b x xs ≡ arity_of name b y ys
    by true rest = ap Some (alike_length AlikeTyped x.params y.params alike.0.params)
    by false rest = rest

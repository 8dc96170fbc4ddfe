-- Lines of text, one after another.
use Rattle.std.proofs.Common.{◌≡◌, ℕ, List, [], ◌∷◌, ◌++◌, append_assoc, refl, sym, ◌∙◌, ap}
use Rattle.flag_rules.specs.Line.{line, lines_of}

pub lines_of-append : (xs ys : List (List ℕ)) → lines_of (xs ++ ys) ≡ lines_of xs ++ lines_of ys
lines_of-append [] ys = refl
lines_of-append (x ∷ xs) ys = ap (λ (l : List ℕ). line x ++ l) (lines_of-append xs ys) ∙ sym (append_assoc (line x) (lines_of xs) (lines_of ys))

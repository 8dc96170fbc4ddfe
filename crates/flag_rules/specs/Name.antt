-- Names as PDDL text has them, in lower case: a letter or a digit, and then letters, digits, dashes and underscores.
use Rattle.std.specs.Prelude.{ℕ, Bool, false, ◌&&◌, ◌||◌, ◌==◌, nat_le, List, [], ◌∷◌, IsTrue}
use Rattle.std.specs.List.{list_all}

abbrev pub is_digit : ℕ → Bool
is_digit b = nat_le 48 b && nat_le b 57

abbrev pub is_capital : ℕ → Bool
is_capital b = nat_le 65 b && nat_le b 90

abbrev pub is_small : ℕ → Bool
is_small b = nat_le 97 b && nat_le b 122

-- the bytes that may begin a name, in either case
abbrev pub begins_name : ℕ → Bool
begins_name b = is_small b || is_capital b || is_digit b

-- the bytes of which a name is built, in either case: 45 is the dash, 95 the underscore
abbrev pub is_name_byte : ℕ → Bool
is_name_byte b = begins_name b || b == 45 || b == 95

-- a name that is read in lower case
abbrev pub is_lower_name : List ℕ → Bool
is_lower_name [] = false
is_lower_name (b ∷ bs) = (is_small b || is_digit b) && list_all (λ x. is_small x || is_digit x || x == 45 || x == 95) bs

abbrev pub IsName : List ℕ → Type 0
IsName text = IsTrue (is_lower_name text)

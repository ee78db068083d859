-- Words.
use Rattle.std.specs.Prelude.{ℕ, nat_le, Bool, false, ◌&&◌, ◌||◌, List, [], ◌∷◌}
use Rattle.std.specs.List.{list_all}

abbrev pub is_capital : ℕ → Bool
is_capital b = nat_le 65 b && nat_le b 90

abbrev pub is_letter_or_digit : ℕ → Bool
is_letter_or_digit b = is_capital b || ((nat_le 97 b && nat_le b 122) || (nat_le 48 b && nat_le b 57))

-- a word of ASCII letters and digits that begins with a capital
abbrev pub is_con : List ℕ → Bool
is_con [] = false
is_con (b ∷ bs) = is_capital b && list_all is_letter_or_digit bs

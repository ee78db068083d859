-- Names by their places in a list of names.
use Rattle.std.specs.Prelude.{ℕ, ◌≡◌, true, List, [], ◌∷◌, Option, Some, None, nat_eq, position}
use Rattle.std.specs.List.{flat_map, list_any}

-- the name stands in the list
abbrev pub HasName : List ℕ → ℕ → Type 0
HasName keys x = list_any (nat_eq x) keys ≡ true

-- the first place of a name
abbrev pub number : List ℕ → ℕ → Option ℕ
number keys x = position (nat_eq x) keys

abbrev pub one_number : Option ℕ → List ℕ
one_number (Some k) = k ∷ []
one_number None = []

-- the first places of those of the names xs that stand in the list
abbrev pub numbers_in : List ℕ → List ℕ → List ℕ
numbers_in keys xs = flat_map (λ x. one_number (number keys x)) xs

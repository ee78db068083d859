-- Which binding depends on which; a binding is its place in the list.
use Rattle.std.specs.Prelude.{ℕ, List, [], get_or, map, if◌then◌else◌}
use Rattle.std.specs.List.{Contains}
use Rattle.bind_groups.specs.declared.binding.Binding.{Binding}

-- the names that a binding binds without a signature
abbrev pub unsigned_names : Binding → List ℕ
unsigned_names b = if b.signed then [] else b.names

-- the names that a binding uses
abbrev pub used_names : Binding → List ℕ
used_names b = b.uses

-- binding i uses a name that binding j binds without a signature; a place past the last binding neither uses nor binds
abbrev pub Depends : List Binding → ℕ → ℕ → Type 0
Depends bs i j = (x : ℕ) × Contains (get_or (map used_names bs) i []) x × Contains (get_or (map unsigned_names bs) j []) x

-- Pairs of kinds, as a reader would solve them by hand.
use Rattle.std.specs.Prelude.{ℕ, Bool, false, ◌≡◌, nat_eq, List, [], ◌∷◌, map, Some, None}
use Rattle.std.specs.declared.option.Option.{Option}
use Rattle.std.specs.Option.{option_map}
use Rattle.mk_base.specs.declared.name.Name.{Name}
use Rattle.mk_base.specs.declared.name.Space.TheVariants.{Ty}
use Rattle.unifiers.specs.Term.{Term}
use Rattle.unifiers.specs.Term.Term.{var, con, app}
use Rattle.unifiers.specs.Solver.{solve}
use Rattle.unifiers.specs.Reading.{solved_closed}

abbrev pub named : ℕ → Name
named c = record { unit = record { text = [] }; «module» = record { text = [] }; occ = record { space = Ty; text = c ∷ [] } }

-- `*`, and `k -> l`
abbrev pub star : Term
star = con (named 42)

abbrev pub to : Term → Term → Term
to k l = app (app (con (named 62)) k) l

abbrev pub values : Option (ℕ → Term) → Option (List Term)
values o = option_map (λ s. map s (0 ∷ 1 ∷ 2 ∷ 3 ∷ 4 ∷ [])) o

abbrev pub none_rigid : ℕ → Bool
none_rigid n = false

abbrev pub pairs : List (Term × Term)
pairs = (var 0, to (var 1) (var 2)) ∷ (to (var 1) (var 3), to star (var 4)) ∷ []

-- one solution with what is free, the kind that is read, a rigid variable that a flexible one holds, and three with no solution
abbrev pub WorkedExample : Type 0
WorkedExample = (values (solve none_rigid pairs) ≡ Some (to star (var 2) ∷ star ∷ var 2 ∷ var 4 ∷ var 4 ∷ []))
    × (solved_closed none_rigid pairs star (var 0) ≡ Some (to star star))
    × (values (solve (nat_eq 2) ((var 2, var 0) ∷ pairs)) ≡ None)
    × (values (solve (nat_eq 4) pairs) ≡ Some (to star (var 2) ∷ star ∷ var 2 ∷ var 4 ∷ var 4 ∷ []))
    × (values (solve (nat_eq 4) ((var 4, star) ∷ [])) ≡ None)
    × (values (solve none_rigid ((var 0, to (var 1) star) ∷ (var 1, var 0) ∷ [])) ≡ None)

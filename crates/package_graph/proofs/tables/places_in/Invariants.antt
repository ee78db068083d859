use Rattle.std.proofs.Common.{◌≡◌, ◌++◌, drop}
use Rattle.package_graph.specs.Targets.{is_state, state_places}
use Rattle.package_graph.proofs.tables.places_in.Given as goal

abbrev pub invariant-loop-place : goal.invariant-loop-place
invariant-loop-place l = l.places.items ++ state_places (is_state l.state) l.place (drop l.place l.modules) ≡ state_places (is_state l.state) 0 l.modules

use Rattle.std.proofs.Common.{◌≡◌, ℕ, List, take}
use Rattle.package_graph.specs.Packages.{in_package}
use Rattle.package_graph.specs.Targets.{home_in}
use Rattle.package_graph.proofs.tables.homes_of.Given as goal

abbrev pub invariant-loop-place : goal.invariant-loop-place
invariant-loop-place l = (u m : List ℕ) → home_in l.homes u m ≡ in_package (take l.place l.modules) u m

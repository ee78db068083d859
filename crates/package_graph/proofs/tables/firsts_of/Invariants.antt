use Rattle.std.proofs.Common.{◌≡◌, ℕ, List, take}
use Rattle.indexmap.specs.IndexMap.{get}
use Rattle.mk_base.specs.Texts.{same_text}
use Rattle.package_graph.specs.Packages.{first_package}
use Rattle.package_graph.proofs.tables.firsts_of.Given as goal

abbrev pub invariant-loop-place : goal.invariant-loop-place
invariant-loop-place l = (m : List ℕ) → get same_text l.firsts m ≡ first_package (take l.place l.modules) m

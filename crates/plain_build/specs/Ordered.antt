-- The order of the diagnostics of a build.
use Rattle.std.specs.Prelude.{List}
use Rattle.std.specs.List.{AllByRecursion}
use Rattle.mk_base.specs.Order.{AreInOrder}
use Rattle.mk_base.specs.declared.name.Node.{Node}
use Rattle.mk_base.specs.declared.diag.Diag.{Diag}
use Rattle.build_theory.specs.Build.{Outcome, Failed}
use Rattle.plain_scope.specs.declared.scope.Content.{Content}
use Rattle.plain_build.specs.declared.build.PlainBuild.{PlainBuild}
use Rattle.plain_build.specs.Result.{PlainJudged, built}

abbrev pub HasOrdered : Outcome Node Content (List Diag) → Type 0
HasOrdered (Failed ds) = AreInOrder ds
HasOrdered o = Unit {0}

-- The diagnostics of each node stand in the order of their places, numbers and texts, no two alike.
abbrev pub BuildsAreOrdered : Type 0
BuildsAreOrdered = (input : PlainBuild) → AllByRecursion (λ (j : Node × PlainJudged). HasOrdered j.1.outcome) (built input)

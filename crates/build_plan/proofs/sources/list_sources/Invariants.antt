use Rattle.std.proofs.Common.{◌≡◌, ◌++◌, drop}
use Rattle.build_plan.specs.Tree.{sources_of}
use Rattle.build_plan.specs.Positions.{pairs}
use Rattle.build_plan.proofs.sources.list_sources.Given as goal

abbrev pub invariant-loop-file : goal.invariant-loop-file
invariant-loop-file l = pairs l.sources.items ++ sources_of (drop l.file-index l.files) ≡ sources_of l.files

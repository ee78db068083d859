use Rattle.std.proofs.Common.{◌≡◌, ◌++◌, drop}
use Rattle.std.specs.Prelude.{filter}
use Rattle.unbuilt_forms.specs.Unbuilt.{is_told}
use Rattle.unbuilt_forms.proofs.told.told.Given as goal

abbrev pub invariant-loop-diag : goal.invariant-loop-diag
invariant-loop-diag l = l.told ++ filter (is_told l.node) (drop l.diag-index l.diags) ≡ filter (is_told l.node) l.diags

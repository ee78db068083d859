use Rattle.std.proofs.Common.{◌≡◌, ◌≤◌, drop}
use Rattle.hs_nesting.specs.Nesting.{depth, first_over, nesting}
use Rattle.hs_nesting.proofs.nesting.nesting.Given as goal

abbrev pub invariant-loop-token : goal.invariant-loop-token
invariant-loop-token l = (first_over l.quoted l.levels (drop l.token-index l.tokens) ≡ nesting l.tokens) × (depth l.levels ≤ 500)

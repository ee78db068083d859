use Rattle.std.proofs.Common.{◌≡◌, ◌++◌, take}
use Rattle.std.specs.Prelude.{map}
use Rattle.hs_layout.specs.Braced.{put_token}
use Rattle.hs_layout.proofs.braced.put_signs.Given as goal

abbrev pub invariant-loop-sign : goal.invariant-loop-sign
invariant-loop-sign l = l.out ≡ l.fn.out ++ map (put_token l.spot) (take l.sign-index l.signs)

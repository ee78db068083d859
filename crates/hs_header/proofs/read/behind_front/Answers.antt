use Rattle.hs_header.specs.Gathering.{conclusion, rest_of}
use Rattle.hs_header.proofs.Gathered.{tells_rest, told_as}
use Rattle.hs_header.proofs.read.behind_front.Goals as goal

pub returns-in-Ok : goal.returns-in-Ok
returns-in-Ok c =
    told_as c.conclude.result (conclusion c.args.front.flags c.in-Ok.gathered) (rest_of c.args.source.now c.args.front) (tells_rest c.args.source.now c.args.front c.in-Ok.gathered c.in-Ok.ensures) c.conclude.ensures

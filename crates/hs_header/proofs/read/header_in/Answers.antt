use Rattle.std.proofs.Common.{◌∙◌, refl}
use Rattle.hs_header.specs.Gathering.{rest_of}
use Rattle.hs_header.specs.Reading.{header_of}
use Rattle.hs_header.proofs.Gathered.{all_is, told_as, fault_as}
use Rattle.hs_header.proofs.read.header_in.Goals as goal

pub returns-in-Ok : goal.returns-in-Ok
returns-in-Ok c =
    told_as c.behind_front.result (rest_of c.args.source.now c.in-Ok.front) (header_of c.args.source.now) (c.in-Ok.ensures.1 ∙ all_is c.args.source.now _ c.start.ensures.is refl refl) c.behind_front.ensures

pub returns-in-Err : goal.returns-in-Err
returns-in-Err c = fault_as c.in-Err.error _ (header_of c.args.source.now) (all_is c.args.source.now _ c.start.ensures.is refl refl) c.in-Err.ensures

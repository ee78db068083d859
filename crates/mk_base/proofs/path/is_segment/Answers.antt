use Rattle.std.proofs.Common.{ap, ◌∙◌, chars}
use Rattle.mk_base.specs.Paths.{is_conid}
use Rattle.mk_base.proofs.Segments.{segment_of_text, no_segment}
use Rattle.mk_base.proofs.path.is_segment.Goals as goal

pub returns-in-Ok : goal.returns-in-Ok
returns-in-Ok c = segment_of_text c.args.part.now c.is_conid.result c.in-Ok.ensures.cases.1
    (c.is_conid.ensures ∙ ap (λ t. is_conid (chars t)) c.in-Ok.ensures.cases.0)

pub returns-in-Err : goal.returns-in-Err
returns-in-Err c = no_segment c.args.part.now c.in-Err.ensures.cases.0

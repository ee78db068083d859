use Rattle.std.proofs.Common.{◌∙◌}
use Rattle.report.proofs.Rows.{all_named, named_by}
use Rattle.report_tests.proofs.tests.build_of_one.Goals as goal

pub returns : goal.returns
returns c =
    let rs = c.from_vec.result in
    all_named rs _ (c.from_vec.ensures ∙ c.in_ok-nodes.ensures.items) (named_by rs c.sound-entry.result _ c.sound-entry.ensures (c.in_ok-how.ensures rs), tt)

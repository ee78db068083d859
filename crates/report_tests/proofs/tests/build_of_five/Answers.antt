use Rattle.std.proofs.Common.{◌≡◌, ◌∙◌, length, ap, arith}
use Rattle.report.proofs.Rows.{all_named, named_by}
use Rattle.report_tests.proofs.tests.build_of_five.Goals as goal

pub returns : goal.returns
returns c =
    let rs = c.from_vec.result in
    let is = c.from_vec.ensures ∙ c.in_ok-nodes.ensures.items in
    let five : length rs ≡ 5 = ap length is in
    all_named rs _ is (
      named_by rs c.sound-a.result _ c.sound-a.ensures (c.in_ok-new.ensures rs),
      (
        named_by rs c.failed-b.result _ c.failed-b.ensures tt,
        (
          named_by rs c.failed-c.result _ c.failed-c.ensures (c.in_ok-changed.ensures rs),
          (
            named_by rs c.failed-d.result _ c.failed-d.ensures (omega (arith, five)),
            (
              named_by rs c.sound-e.result _ c.sound-e.ensures tt,
              tt,
            ),
          ),
        ),
      ),
    )

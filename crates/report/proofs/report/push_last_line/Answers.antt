use Rattle.std.proofs.Common.{append_assoc}
use Rattle.report.proofs.report.push_last_line.Goals as goal

pub returns : goal.returns
returns c =
    simp append_assoc (simp (
      c.in_ok-push_count-3.ensures,
      c.in_ok-push_count-2.ensures,
      c.in_ok-push_count.ensures,
      c.in_ok-extend.ensures.ok,
      c.count_sound.ensures,
      c.count_checked.ensures,
      c.count_failed.ensures,
      c.count_blocked.ensures,
      append_assoc,
    ) at c.push_count-4.ensures)

use Rattle.std.proofs.Common.{◌<◌, length, append_assoc}
use Rattle.std.proofs.lemmas.Option.{slice_get-get_or}
use Rattle.report.proofs.report.push_standing.Goals as goal

pub returns-in_ok-extend-in-Blocked : goal.returns-in_ok-extend-in-Blocked
returns-in_ok-extend-in-Blocked c =
    let within : c.in-Blocked.need.0 < length c.args.nodes.now = rw c.in-Blocked.is at c.requires in
    let found = slice_get-get_or c.args.nodes.now c.in-Blocked.need.0 c.index-nodes-need.result within in
    rw (c.in-Blocked.is, found) (simp (c.in_ok-extend-in-Blocked.ensures.ok, append_assoc) at c.push_node.ensures)

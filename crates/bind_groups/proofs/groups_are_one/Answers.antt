use Rattle.std.proofs.Common.{length}
use Rattle.node_groups.proofs.OneList.{one_list}
use Rattle.bind_groups.specs.Depends.{Depends}
use Rattle.bind_groups.proofs.groups_are_one.Goals as goal

pub returns : goal.returns
returns c = record { one = λ bs. one_list (Depends bs) (length bs) }

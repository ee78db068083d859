use Rattle.std.proofs.Common.{◌<◌, ◌^◌, ℕ, List, sym, subst}
use Rattle.std.specs.List.{All}
use Rattle.numbered_nodes.proofs.Rows.{row_in_range}
use Rattle.bind_groups.proofs.rows.number_lists.Goals as goal

pub numbers-requires : goal.numbers-requires
numbers-requires c = subst (λ (xs : List ℕ). All (λ b. b < 2 ^ 32) xs) (sym c.deref.ensures.value) (row_in_range c.args.rows.now (2 ^ 32) c.loop-row.row-index c.row-item.result c.requires c.loop-row-test.true c.row-item.is)

use Rattle.std.proofs.Common.{sym}
use Rattle.hs_layout.proofs.Stacks.{below_top}
use Rattle.hs_layout.proofs.stack.Stack.get.Goals as goal

pub returns-then-at-count : goal.returns-then-at-count
returns-then-at-count g c = below_top _ _ _ _ _ c.as_slice-items.ensures.value c.self.view_is c.if-at-count.true (sym c.index-items-count.is)

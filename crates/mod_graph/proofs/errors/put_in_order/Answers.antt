use Rattle.std.proofs.Common.{◌≡◌, true, rules}
use Rattle.std.proofs.lemmas.List.Filters.{dedup_is}
use Rattle.mk_base.specs.declared.diag.Diag.{Diag}
use Rattle.mk_base.specs.contracts.diag.DiagPartialEq.TheImpl.{eq-value}
use Rattle.mod_graph.proofs.SortedOnce.{sorted_once}
use Rattle.mod_graph.proofs.errors.put_in_order.Goals as goal

tells : (c d : Diag) → eq-value.it c d ≡ true → c ≡ d
tells c d h = search rules

itself : (d : Diag) → eq-value.it d d ≡ true
itself d = search rules

pub returns : goal.returns
returns c = sorted_once eq-value.it tells itself c.args.diags.now.items c.sort_unstable.new.self.items c.dedup.new.self.items c.sort_unstable.ensures.permutation c.sort_unstable.ensures.sorted (dedup_is _ _ _ c.dedup.ensures.filtered)

use Rattle.std.proofs.Common.{◌≡◌, ◌++◌, [], drop, take, map}
use Rattle.std.proofs.Common.{List as Row}
use Rattle.plain_scope.specs.Scope.{Pair, datas_diags, resolved}
use Rattle.plain_scope.specs.Table.{IsTable, HasSeen}
use Rattle.plain_scope.proofs.lines.check_datas.Given as goal

abbrev pub invariant-loop-item : goal.invariant-loop-item
invariant-loop-item l = record {
  seen : HasSeen l.seen (take l.item-index l.datas);
  diags : (pairs : Row Pair) → IsTable l.types pairs → l.diags ++ datas_diags pairs (take l.item-index l.datas) (drop l.item-index l.datas) ≡ l.initial.diags ++ datas_diags pairs [] l.datas;
  decls : (pairs : Row Pair) → IsTable l.types pairs → l.decls ≡ map (resolved pairs) (take l.item-index l.datas);
}

use Rattle.std.proofs.Common.{◌∙◌, sym, subst, List, take}
use Rattle.mk_base.specs.declared.name.Name.{Name}
use Rattle.class_env.specs.Supers.{Grown}
use Rattle.class_env.proofs.NameSets.{grown_by}
use Rattle.class_env.proofs.Sweeping.{take_next}
use Rattle.class_env.proofs.names.put_all.Goals as goal

pub loop-name-preserved : goal.loop-name-preserved
loop-name-preserved c =
    let more = c.args.more.now in
    let i = c.loop-name.name-index in
    let x = c.in_ok-copy.field-0 in
    let front = take_next more i c.name-item.result x c.loop-name-test.true (sym c.name-item.is ∙ sym c.in_ok-copy.ensures) in
    subst (λ (m : List Name). Grown c.args.names.now.keys m c.insert.new.self.keys) (sym front)
    (grown_by c.args.names.now.keys (take i more) c.loop-name.names.keys x c.insert.new.self.keys c.loop-name.invariant c.in_ok-insert.ensures.keys)

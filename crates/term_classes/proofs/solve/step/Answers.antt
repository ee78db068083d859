use Rattle.std.proofs.Common.{sym, ap, ◌∙◌}
use Rattle.term_classes.proofs.Merge.{fits_root, same_united, from_roots}
use Rattle.term_classes.proofs.solve.step.Goals as goal

pub returns-then-x-y-clause-united : goal.returns-then-x-y-clause-united
returns-then-x-y-clause-united c _ =
    same_united c.args.nodes.now c.args.slots.now c.args.ceilings.now c.args.saved.now.items c.args.todo.now.items c.args.left c.args.right c.requires.sound c.requires.left c.requires.right
    (let e = c.find-x.ensures.root in let f = c.find-y.ensures.root in let s = c.if-x-y.true in cc)

pub returns-clause-united : goal.returns-clause-united
returns-clause-united c r =
    from_roots c.args.nodes.now c.args.slots.now c.unite.new.slots c.args.ceilings.now c.unite.new.ceilings c.args.saved.now.items c.unite.new.saved.items c.args.todo.now.items c.unite.new.todo.items c.args.left c.args.right c.find-x.result c.find-y.result
    c.requires.sound c.requires.left c.requires.right c.find-x.ensures.root c.find-y.ensures.root (c.unite.ensures.united r)

pub returns-clause-clash : goal.returns-clause-clash
returns-clause-clash c r q f e =
    let slots = c.args.slots.now in
    let nodes = c.args.nodes.now in
    let x = fits_root nodes slots q c.requires.sound.linked f c.args.left c.requires.left in
    let y = fits_root nodes slots q c.requires.sound.linked f c.args.right c.requires.right in
    c.unite.ensures.clash r q f (ap q c.find-x.ensures.root ∙ sym x ∙ e ∙ y ∙ ap q (sym c.find-y.ensures.root))

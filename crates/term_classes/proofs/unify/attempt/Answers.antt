use Rattle.std.proofs.Common.{List, ap, sym, subst, Ok, Bool}
use Rattle.term_classes.specs.declared.node.Saved.{Saved}
use Rattle.term_classes.specs.Undo.{IsPlace}
use Rattle.term_classes.proofs.Todo.{equal_alone, alone_equal}
use Rattle.term_classes.proofs.Caps.{capped_all}
use Rattle.term_classes.proofs.unify.attempt.Goals as goal

pub returns-then-not-branch-2-clause-none_fits : goal.returns-then-not-branch-2-clause-none_fits
returns-then-not-branch-2-clause-none_fits c r q f e =
    let s = c.in_ok-solve.ensures.fits (ap (λ (b : Bool). Ok b) c.if-not-branch.false) q in
    c.in_ok-settle.ensures.part_of_itself (ap (λ (b : Bool). Ok b) c.if-not-branch-2.true) q
    (s.1 (f, equal_alone c.new-todo.result.items c.push.new.self.items (record { left = c.args.a; right = c.args.b }) q c.new-todo.ensures.items c.in_ok-push.ensures.items e))

pub returns-clause-capped : goal.returns-clause-capped
returns-clause-capped c r =
    let yes = ap (λ (b : Bool). Ok b) c.if-not-branch.false in
    let settled = ap (λ (b : Bool). Ok b) c.if-not-branch-2.false in
    capped_all c.args.nodes.now c.solve.new.slots c.settle.new.slots c.solve.new.saved.items c.settle.new.saved.items c.solve.new.ceilings c.cap_saved.new.ceilings
    (c.in_ok-solve.ensures.capped yes) c.in_ok-settle.ensures.kept (c.in_ok-settle.ensures.same settled) c.cap_saved.ensures.lowered
    (λ i p. c.cap_saved.ensures.capped i (subst (λ (s : List Saved). IsPlace s i) (sym c.deref.ensures.value) p))

pub returns-clause-fits : goal.returns-clause-fits
returns-clause-fits c r q =
    let s = c.in_ok-solve.ensures.fits (ap (λ (b : Bool). Ok b) c.if-not-branch.false) q in
    let t = c.in_ok-settle.ensures.fits (ap (λ (b : Bool). Ok b) c.if-not-branch-2.false) q in (
      (λ g. let u = s.0 (t.0 g) in (u.0, alone_equal c.new-todo.result.items c.push.new.self.items (record { left = c.args.a; right = c.args.b }) q c.in_ok-push.ensures.items u.1)),
      (λ p. t.1 (s.1 (p.0, equal_alone c.new-todo.result.items c.push.new.self.items (record { left = c.args.a; right = c.args.b }) q c.new-todo.ensures.items c.in_ok-push.ensures.items p.1))),
    )

use Rattle.std.proofs.Common.{◌≡◌, ◌<◌, get_or, sym, ap, subst, arith, Ok, Bool, inl, inr}
use Rattle.std.proofs.lemmas.Bool.{cases_lt}
use Rattle.term_classes.specs.Settle.{mark_of}
use Rattle.term_classes.proofs.Undone.{kept_on}
use Rattle.term_classes.proofs.Steps.{turned_on, no_grey}
use Rattle.term_classes.proofs.settle.walk_all.Goals as goal

pub loop-start-preserved : goal.loop-start-preserved
loop-start-preserved c =
    let inv = c.loop-start.invariant in
    let e = c.in_ok-walk_new.ensures in
    let yes = ap (λ (b : Bool). Ok b) c.if-not-branch.false in
    let t = e.turned yes in
    record {
      kept = kept_on c.args.slots.now c.loop-start.slots c.walk_new.new.slots c.args.saved.now.items c.loop-start.saved.items c.walk_new.new.saved.items inv.kept e.kept;
      turned = turned_on c.args.nodes.now c.args.slots.now c.loop-start.slots c.walk_new.new.slots c.args.marks.now c.loop-start.marks c.walk_new.new.marks c.args.starts.now c.loop-start.path.items c.walk_new.new.path.items c.args.clock c.args.low c.loop-start.next c.walk_new.new.next inv.turned t;
      none = e.none yes;
      base = e.base yes;
      done = λ k l. elim (cases_lt k c.loop-start.start-index) [
        | inl a ↦
            let d = inv.done k a in
            let s = t.seen (get_or c.args.starts.now k 0) (omega arith) in
            let r = (c.requires.starts k (let x = c.loop-start-test.true in omega arith)).0 in
            no_grey c.args.nodes.now c.walk_new.new.slots c.walk_new.new.marks c.walk_new.new.path.items c.args.clock (get_or c.args.starts.now k 0) t.on (e.none yes)
            (let n = t.same.len in let m = inv.turned.same.len in omega arith) s
        | inr a ↦
            let k' : k ≡ c.loop-start.start-index = omega arith in
            subst (λ z. c.args.clock < mark_of c.walk_new.new.marks (get_or c.args.starts.now z 0)) (sym k') (e.finished yes)
      ];
      bounded = λ h. e.bounded (inv.bounded h);
    }

pub returns-in_err-walk_new-clause-kept : goal.returns-in_err-walk_new-clause-kept
returns-in_err-walk_new-clause-kept c = kept_on c.args.slots.now c.loop-start.slots c.walk_new.new.slots c.args.saved.now.items c.loop-start.saved.items c.walk_new.new.saved.items c.loop-start.invariant.kept c.walk_new.ensures.kept

pub returns-then-not-branch-clause-kept : goal.returns-then-not-branch-clause-kept
returns-then-not-branch-clause-kept c = kept_on c.args.slots.now c.loop-start.slots c.walk_new.new.slots c.args.saved.now.items c.loop-start.saved.items c.walk_new.new.saved.items c.loop-start.invariant.kept c.walk_new.ensures.kept

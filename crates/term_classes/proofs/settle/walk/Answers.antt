use Rattle.std.proofs.Common.{ℕ, ◌<◌, ◌≤◌, List, length, sym, ap, subst, arith, Ok, Bool, inl, inr, refl, slice_set}
use Rattle.term_classes.specs.Settle.{Turned, mark_of}
use Rattle.term_classes.proofs.Undone.{kept_on, kept_same}
use Rattle.term_classes.proofs.Marks.{mark_set}
use Rattle.term_classes.proofs.Steps.{went_down, turned_on}
use Rattle.term_classes.proofs.settle.walk.Goals as goal

pub loop-slots-init : goal.loop-slots-init
loop-slots-init c =
    let nodes = c.args.nodes.now in
    let slots = c.args.slots.now in
    let marks = c.args.marks.now in
    let path = c.args.path.now.items in
    let starts = c.args.starts.now in
    let e = c.in_ok-go_down.ensures in
    let lm : c.args.start < length marks = let n = c.requires.walk.len in let l = c.requires.start.0 in omega arith in
    let t = went_down nodes slots marks starts path c.args.clock c.args.low c.args.next.now c.requires.walk c.requires.on c.args.start c.requires.start.0 c.requires.start.1 c.requires.start.2
    (λ k l. let n = ap length c.requires.none in absurd (omega arith)) in
    record {
      kept = kept_same slots c.args.saved.now.items;
      turned = subst (λ (m : List ℕ). Turned nodes slots slots marks m starts c.args.clock c.args.low c.args.next.now c.go_down.new.path.items) (sym e.marks)
          (subst (λ (p : List ℕ). Turned nodes slots slots marks (slice_set marks c.args.start c.args.clock) starts c.args.clock c.args.low c.args.next.now p) (sym e.path) t);
      base = c.requires.base;
      start = subst (λ (m : List ℕ). c.args.clock ≤ mark_of m c.args.start) (sym e.marks)
          (elim (mark_set marks c.args.start c.args.clock c.args.start lm) [ inl p ↦ let z = p.1 in omega arith | inr p ↦ absurd (p.0 refl) ]);
      bounded = e.bounded;
    }

pub returns-in_err-turn-clause-kept : goal.returns-in_err-turn-clause-kept
returns-in_err-turn-clause-kept c = kept_on c.args.slots.now c.loop-slots.slots c.turn.new.slots c.args.saved.now.items c.loop-slots.saved.items c.turn.new.saved.items c.loop-slots.invariant.kept c.turn.ensures.kept

pub returns-then-not-branch-clause-kept : goal.returns-then-not-branch-clause-kept
returns-then-not-branch-clause-kept c = kept_on c.args.slots.now c.loop-slots.slots c.turn.new.slots c.args.saved.now.items c.loop-slots.saved.items c.turn.new.saved.items c.loop-slots.invariant.kept c.turn.ensures.kept

pub loop-slots-preserved : goal.loop-slots-preserved
loop-slots-preserved c =
    let inv = c.loop-slots.invariant in
    let e = c.in_ok-turn.ensures in
    let t = e.turned (ap (λ (b : Bool). Ok b) c.if-not-branch.false) in
    record {
      kept = kept_on c.args.slots.now c.loop-slots.slots c.turn.new.slots c.args.saved.now.items c.loop-slots.saved.items c.turn.new.saved.items inv.kept e.kept;
      turned = turned_on c.args.nodes.now c.args.slots.now c.loop-slots.slots c.turn.new.slots c.args.marks.now c.loop-slots.marks c.turn.new.marks c.args.starts.now c.loop-slots.path.items c.turn.new.path.items c.args.clock c.args.low c.loop-slots.next c.turn.new.next inv.turned t;
      base = e.base (ap (λ (b : Bool). Ok b) c.if-not-branch.false);
      start = t.seen c.args.start inv.start;
      bounded = λ h. e.bounded (inv.bounded h);
    }

pub returns-in_err-turn-clause-bounded : goal.returns-in_err-turn-clause-bounded
returns-in_err-turn-clause-bounded c h = c.turn.ensures.bounded (c.loop-slots.invariant.bounded h)

pub returns-then-not-branch-clause-bounded : goal.returns-then-not-branch-clause-bounded
returns-then-not-branch-clause-bounded c h = c.turn.ensures.bounded (c.loop-slots.invariant.bounded h)

pub returns-then-not-branch-clause-part_of_itself : goal.returns-then-not-branch-clause-part_of_itself
returns-then-not-branch-clause-part_of_itself c r q f = c.in_ok-turn.ensures.part_of_itself (ap (λ (b : Bool). Ok b) c.if-not-branch.true) q ((c.loop-slots.invariant.turned.fits q).1 f)

use Rattle.std.proofs.Common.{◌≡◌, ◌<◌, List, [], ◌∷◌, ◌++◌, length, sym, ap, ◌∙◌, subst, arith, Ok, Bool}
use Rattle.term_classes.specs.declared.node.Pair.{Pair}
use Rattle.term_classes.specs.Fits.{AreEqual, ArePairsOf}
use Rattle.term_classes.proofs.Undone.{kept_on}
use Rattle.term_classes.proofs.Caps.{lowered_on}
use Rattle.term_classes.proofs.Todo.{equal_more, equal_front, equal_last, pairs_front, pairs_last}
use Rattle.term_classes.proofs.solve.solve.Goals as goal

pub step-requires-clause-left : goal.step-requires-clause-left
step-requires-clause-left c =
    let s = c.in-Some.field-0 in
    let rest = c.pop.new.self.items in
    let n = length c.args.nodes.now in
    let e : c.loop-left.todo.items ≡ rest ++ s ∷ [] = c.in-Some.ensures.items in
    let p : (s.left < n) × (s.right < n) = pairs_last n rest s (subst (λ (l : List Pair). ArePairsOf n l) e c.loop-left.invariant.pairs) in
    let k = c.loop-left.invariant.sound.len in
    let lt = p.0 in
    omega arith

pub step-requires-clause-right : goal.step-requires-clause-right
step-requires-clause-right c =
    let s = c.in-Some.field-0 in
    let rest = c.pop.new.self.items in
    let n = length c.args.nodes.now in
    let e : c.loop-left.todo.items ≡ rest ++ s ∷ [] = c.in-Some.ensures.items in
    let p : (s.left < n) × (s.right < n) = pairs_last n rest s (subst (λ (l : List Pair). ArePairsOf n l) e c.loop-left.invariant.pairs) in
    let k = c.loop-left.invariant.sound.len in
    let lt = p.1 in
    omega arith

pub returns-then-not-branch-clause-clash : goal.returns-then-not-branch-clause-clash
returns-then-not-branch-clause-clash c _ q f g =
    let s = c.in-Some.field-0 in
    let rest = c.pop.new.self.items in
    let e : c.loop-left.todo.items ≡ rest ++ s ∷ [] = c.in-Some.ensures.items in
    let r = (c.loop-left.invariant.fits q).1 (f, g) in
    c.in_ok-step.ensures.clash (ap (λ (b : Bool). Ok b) c.if-not-branch.true) q r.0 (equal_last rest s q (subst (λ (l : List Pair). AreEqual l q) e r.1))

pub loop-left-preserved : goal.loop-left-preserved
loop-left-preserved c =
    let s = c.in-Some.field-0 in
    let rest = c.pop.new.self.items in
    let n = length c.args.nodes.now in
    let inv = c.loop-left.invariant in
    let e : c.loop-left.todo.items ≡ rest ++ s ∷ [] = c.in-Some.ensures.items in
    let u = c.in_ok-step.ensures.united (ap (λ (b : Bool). Ok b) c.if-not-branch.false) in
    record {
      kept = kept_on c.args.slots.now c.loop-left.slots c.step.new.slots c.args.saved.now.items c.loop-left.saved.items c.step.new.saved.items inv.kept c.in_ok-step.ensures.kept;
      sound = u.sound;
      pairs = u.within (pairs_front n rest s (subst (λ (l : List Pair). ArePairsOf n l) e inv.pairs));
      order = u.order inv.order inv.capped;
      capped = u.capped inv.capped;
      lowered = lowered_on c.args.ceilings.now c.loop-left.ceilings c.step.new.ceilings inv.lowered u.lowered;
      len = u.lowered.len ∙ inv.len ∙ sym c.in_ok-step.ensures.kept.len;
      fits = λ q. (
        (λ p. let r = (u.fits q).0 p in (inv.fits q).0 (r.0, subst (λ (l : List Pair). AreEqual l q) (sym e) (equal_more rest s q r.1 r.2))),
        (λ p.
            let r = (inv.fits q).1 p in
            let r' = subst (λ (l : List Pair). AreEqual l q) e r.1 in
            (u.fits q).1 (r.0, equal_front rest s q r', equal_last rest s q r')),
      );
    }

use Rattle.std.proofs.Common.{◌≡◌, ◌⊎◌, ◌<◌, ◌+◌, ℕ, List, Vec, get_or, length, arith, subst, sym, ap, ◌∙◌, refl}
use Rattle.std.specs.Global.{Global}
use Rattle.std.specs.List.{Contains}
use Rattle.numbered_nodes.specs.Away.{LeadsAway}
use Rattle.numbered_nodes.proofs.StepRows.{in_hubs, more_kept, away_pushed, away_same, sound_pushed}
use Rattle.numbered_nodes.proofs.steps.node_row.Goals as goal
use Rattle.numbered_nodes.proofs.steps.node_row.Goals.{then-theirs-own+in_ok-push, else-theirs-own}

pub returns : goal.returns
returns c = let inv = c.loop-z.invariant in in_hubs c.args.targets.now c.args.loops.now c.loop-z.row.items c.args.own c.loop-z.z-index (omega arith) inv.kept inv.sound inv.away

pub loop-z-preserved : goal.loop-z-preserved
loop-z-preserved c =
    let inv = c.loop-z.invariant in
    let targets = c.args.targets.now in
    let loops = c.args.loops.now in
    let i = c.loop-z.z-index in
    let row = c.loop-z.row.items in
    let z = get_or targets i 0 in
    let lt = c.loop-z-test.true in
    let theirs = get_or loops z 0 in
    let at : theirs ≡ get_or loops z 0 = refl in
    elim c.if-theirs-own.branch [
      | then-theirs-own+in_ok-push w ↦
          let is = ap (λ (v : Vec ℕ Global). v.items) w.row-is in
          let new = c.if-theirs-own.row.items in
          let push = is ∙ w.in_ok-push.ensures.items in
          record {
            kept = λ y h. more_kept row new (length loops + theirs) push y (inv.kept y h);
            sound = sound_pushed targets loops row c.args.own i theirs lt at inv.away new w.if-theirs-own.true push inv.sound;
            away = away_pushed targets loops row c.args.own i theirs lt at inv.away new push;
          }
      | else-theirs-own w ↦
          let is = ap (λ (v : Vec ℕ Global). v.items) w.row-is in
          record {
            kept = subst (λ (r : List ℕ). (y : ℕ) → Contains targets y → Contains r y) (sym is) inv.kept;
            sound = subst (λ (r : List ℕ). (y : ℕ) → Contains r y → Contains targets y ⊎ LeadsAway targets loops c.args.own y) (sym is) inv.sound;
            away = subst (λ (r : List ℕ). (j : ℕ) → j < i + 1 → (c.args.own ≡ get_or loops (get_or targets j 0) 0 → ⊥) → Contains r (length loops + get_or loops (get_or targets j 0) 0)) (sym is)
                (away_same targets loops row c.args.own i theirs lt at inv.away w.if-theirs-own.false);
          }
    ]

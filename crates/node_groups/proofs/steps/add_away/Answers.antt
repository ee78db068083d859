use Rattle.std.proofs.Common.{◌⊎◌, ◌↔◌, ◌+◌, ℕ, List, Vec, arith, sym, subst}
use Rattle.std.specs.Global.{Global}
use Rattle.std.specs.List.{Contains}
use Rattle.node_groups.proofs.Stepping.{Upto, away_pushed, away_same, away_end}
use Rattle.node_groups.proofs.steps.add_away.Goals as goal
use Rattle.node_groups.proofs.steps.add_away.Goals.{then-theirs-own+in_ok-push, else-theirs-own}

pub loop-target-preserved : goal.loop-target-preserved
loop-target-preserved c =
    let first : List ℕ = c.args.row.now.items in
    let row : List ℕ = c.loop-target.row.items in
    let targets = c.args.targets.now in
    let loops = c.args.loops.now in
    let own = c.args.own in
    let i = c.loop-target.target-index in
    elim c.if-theirs-own.branch [
      | then-theirs-own+in_ok-push w ↦
          subst (λ (v : Vec ℕ Global). (y : ℕ) → Contains v.items y ↔ (Contains first y ⊎ Upto targets loops own (i + 1) y)) (sym w.row-is)
          (away_pushed first row targets loops own i c.loop-target.invariant w.push.new.self.items w.if-theirs-own.true w.in_ok-push.ensures.items)
      | else-theirs-own w ↦
          subst (λ (v : Vec ℕ Global). (y : ℕ) → Contains v.items y ↔ (Contains first y ⊎ Upto targets loops own (i + 1) y)) (sym w.row-is)
          (away_same first row targets loops own i c.loop-target.invariant w.if-theirs-own.false)
    ]

pub returns : goal.returns
returns c = away_end c.args.row.now.items c.loop-target.row.items c.args.targets.now c.args.loops.now c.args.own c.loop-target.target-index (omega arith) c.loop-target.invariant

use Rattle.std.proofs.Common.{◌≡◌, ◌<◌, ◌+◌, ◌≤◌, ℕ, List, [], ◌∷◌, get_or, length, length-append, ap, sym, ◌∙◌, subst, arith, set, Vec}
use Rattle.std.specs.Global.{Global}
use Rattle.numbered_nodes.specs.Edges.{lists}
use Rattle.node_groups.specs.Marks.{IsSearch, unmarked, AreKept}
use Rattle.node_groups.proofs.Searching.{row_here, target_here, edges_within, mark_next, set_grows, kept_set, one_less, targets_next, settled_all}
use Rattle.std.proofs.lemmas.List.{get_or-set_same}
use Rattle.node_groups.proofs.search.scan.Goals as goal
use Rattle.node_groups.proofs.search.scan.Goals.{then-keys-y+then-marks-y+in_ok-push, else-keys-y, else-keys-y-via-then-keys-y+else-marks-y, else-keys-y-via-else-keys-y}

pub loop-y-preserved : goal.loop-y-preserved
loop-y-preserved c =
    let g = lists c.args.graph.now in
    let n = length c.args.graph.now in
    let x = c.args.x in
    let from = c.args.from in
    let keys = c.args.keys.now in
    let key = c.args.key in
    let items = c.deref-y-items.result.now in
    let i = c.loop-y.y-index in
    let inv = c.loop-y.invariant in
    let marks = c.loop-y.marks in
    let left : List ℕ = c.loop-y.left.items in
    let here : get_or g x [] ≡ items = row_here c.args.graph.now x c.index-graph-x.result items c.requires.x c.index-graph-x.is c.deref-y-items.ensures.value in
    let e = target_here g x i items here c.loop-y-test.true in
    let y = get_or items i 0 in
    let lt : y < length marks = (let w = (edges_within c.args.graph.now n c.requires.range x y e).1 in omega arith) in
    elim c.if-keys-y.branch [
      | then-keys-y+then-marks-y+in_ok-push w ↦
          let push = w.in_ok-push.ensures.items in
          let more : List ℕ = w.push.new.self.items in
          let next = mark_next g keys key from marks left more x y inv.search c.requires.found e w.if-keys-y.true lt push in
          let long : length more ≡ length left + 1 = ap length push ∙ length-append left (y ∷ []) in
          let less = one_less marks y from lt w.if-marks-y.true in
          let before = inv.fewer in
          record {
            kept = subst (λ (m : List ℕ). AreKept from c.args.marks.now m) (sym w.marks-is) (kept_set c.args.marks.now marks y from inv.kept lt);
            fewer = subst (λ (m : List ℕ). unmarked from m + length c.if-keys-y.left.items ≤ unmarked from c.args.marks.now + length c.args.left.now.items) (sym w.marks-is)
                (subst (λ (v : Vec ℕ Global). unmarked from (set marks y from) + length v.items ≤ unmarked from c.args.marks.now + length c.args.left.now.items) (sym w.left-is) (omega arith));
            search = subst (λ (m : List ℕ). IsSearch g keys key from m c.if-keys-y.left.items x) (sym w.marks-is)
                (subst (λ (v : Vec ℕ Global). IsSearch g keys key from (set marks y from) v.items x) (sym w.left-is) next);
            targets = subst (λ (m : List ℕ). (j : ℕ) → j < i + 1 → get_or keys (get_or (get_or g x []) j 0) 0 ≡ key → get_or m (get_or (get_or g x []) j 0) 0 ≡ from) (sym w.marks-is)
                (targets_next keys marks (set marks y from) (get_or g x []) items key from i here c.loop-y-test.true (set_grows marks y from lt) (λ o. get_or-set_same marks y from 0 lt) inv.targets);
          }
      | else-keys-y w ↦
          let known : get_or keys y 0 ≡ key → get_or marks y 0 ≡ from = λ o. elim w.else-keys-y.branch [
            | else-keys-y-via-then-keys-y+else-marks-y v ↦ v.if-marks-y.false
            | else-keys-y-via-else-keys-y v ↦ absurd (v.if-keys-y.false o)
          ] in
          record {
            kept = subst (λ (m : List ℕ). AreKept from c.args.marks.now m) (sym w.marks-is) inv.kept;
            fewer = subst (λ (m : List ℕ). unmarked from m + length c.if-keys-y.left.items ≤ unmarked from c.args.marks.now + length c.args.left.now.items) (sym w.marks-is)
                (subst (λ (v : Vec ℕ Global). unmarked from marks + length v.items ≤ unmarked from c.args.marks.now + length c.args.left.now.items) (sym w.left-is) inv.fewer);
            search = subst (λ (m : List ℕ). IsSearch g keys key from m c.if-keys-y.left.items x) (sym w.marks-is)
                (subst (λ (v : Vec ℕ Global). IsSearch g keys key from marks v.items x) (sym w.left-is) inv.search);
            targets = subst (λ (m : List ℕ). (j : ℕ) → j < i + 1 → get_or keys (get_or (get_or g x []) j 0) 0 ≡ key → get_or m (get_or (get_or g x []) j 0) 0 ≡ from) (sym w.marks-is)
                (targets_next keys marks marks (get_or g x []) items key from i here c.loop-y-test.true (λ a p. p) known inv.targets);
          }
    ]

pub returns-clause-settled : goal.returns-clause-settled
returns-clause-settled c =
    let here = row_here c.args.graph.now c.args.x c.index-graph-x.result c.deref-y-items.result.now c.requires.x c.index-graph-x.is c.deref-y-items.ensures.value in
    let end : length (get_or (lists c.args.graph.now) c.args.x []) ≤ c.loop-y.y-index = omega (arith, ap (λ (xs : List ℕ). length xs) here) in
    settled_all (lists c.args.graph.now) c.args.keys.now c.loop-y.marks c.args.key c.args.from c.args.x c.loop-y.y-index end c.loop-y.invariant.targets

use Rattle.std.proofs.Common.{◌≡◌, ◌<◌, ◌+◌, ◌↔◌, ◌⊎◌, ◌||◌, nat_eq, false, Vec, subst, ℕ, List, [], true, get_or, length, ◌≤◌, ap, sym, ◌∙◌, refl, arith, inl, inr}
use Rattle.numbered_nodes.proofs.Booleans.{or_right, is_same}
use Rattle.numbered_nodes.specs.Bits.{has, room}
use Rattle.numbered_nodes.specs.Edges.{lists}
use Rattle.numbered_nodes.proofs.Searches.{took, put, moved, row_here, target_here, target_in, targets_next, scan_start, length_lists, settled_all}
use Rattle.std.proofs.lemmas.List.{get_or_default}
use Rattle.std.specs.Global.{Global}
use Rattle.numbered_nodes.proofs.search.scan.Goals as goal
use Rattle.numbered_nodes.proofs.search.scan.Goals.{then-not-contains+then-done-y, then-not-contains+else-done-y+in_ok-push, else-not-contains}

pub loop-y-preserved : goal.loop-y-preserved
loop-y-preserved c =
    let g = lists c.args.graph.now in
    let items = c.deref-y-items.result.now in
    let i = c.loop-y.y-index in
    let inv = c.loop-y.invariant in
    let row = c.loop-y.row in
    let here : get_or g c.args.x [] ≡ items = row_here c.args.graph.now c.args.x c.index-graph-x.result items c.requires.x c.index-graph-x.is c.deref-y-items.ensures.value in
    let e = target_here g c.args.x i items here c.loop-y-test.true in
    let y = get_or items i 0 in
    let wide : length c.args.graph.now ≡ length g = sym (length_lists c.args.graph.now) in
    let xlt : c.args.x < length g = omega (arith, c.requires.x) in
    let lt : y < length c.args.graph.now = target_in g (length c.args.graph.now) c.args.x i items c.requires.range xlt here c.loop-y-test.true in
    let lt' : y < length g = omega arith in
    elim c.if-not-contains.branch [
      | then-not-contains+then-done-y w ↦
          let out : has row y ≡ false = sym c.contains.ensures ∙ w.if-not-contains.true in
          let at : w.index-rows-y.result ≡ get_or c.args.rows.now y [] = w.index-rows-y.is ∙ get_or_default c.args.rows.now y w.index-rows-y.result [] (omega arith) in
          let step = subst (λ (r : List ℕ). (k : ℕ) → (has w.take_over.new.row k ≡ true) ↔ ((has row k ≡ true) ⊎ ((k ≡ y) ⊎ (has r k ≡ true)))) at w.take_over.ensures.has in
          let next = took g c.args.x c.args.row.now c.args.left.now.items row c.loop-y.left.items inv.scanned c.args.rows.now c.args.done.now y w.take_over.new.row c.requires.exact e w.if-done-y.true lt' out step in
          record {
            room = ap room w.row-is ∙ w.take_over.ensures.room ∙ inv.room;
            scanned = moved g c.args.x c.args.row.now c.args.left.now.items w.take_over.new.row c.loop-y.left.items c.if-not-contains.row c.if-not-contains.left.items w.row-is (ap (λ (v : Vec ℕ Global). v.items) w.left-is) next;
            targets = subst (λ (r : List ℕ). (j d : ℕ) → j < i + 1 → has r (get_or (get_or g c.args.x []) j d) ≡ true) (sym w.row-is)
                (targets_next row w.take_over.new.row (get_or g c.args.x []) items i here c.loop-y-test.true (λ b p. (step b).1 (inl p)) ((step y).1 (inr (inl refl))) inv.targets);
          }
      | then-not-contains+else-done-y+in_ok-push w ↦
          let out : has row y ≡ false = sym c.contains.ensures ∙ w.if-not-contains.true in
          let next = put g c.args.x c.args.row.now c.args.left.now.items row c.loop-y.left.items inv.scanned y w.insert.new.self w.push.new.self.items e lt' out w.insert.ensures.has w.in_ok-push.ensures.items in
          record {
            room = ap room w.row-is ∙ w.insert.ensures.room ∙ inv.room;
            scanned = moved g c.args.x c.args.row.now c.args.left.now.items w.insert.new.self w.push.new.self.items c.if-not-contains.row c.if-not-contains.left.items w.row-is (ap (λ (v : Vec ℕ Global). v.items) w.left-is) next;
            targets = subst (λ (r : List ℕ). (j d : ℕ) → j < i + 1 → has r (get_or (get_or g c.args.x []) j d) ≡ true) (sym w.row-is)
                (targets_next row w.insert.new.self (get_or g c.args.x []) items i here c.loop-y-test.true (λ b p. w.insert.ensures.has b ∙ or_right (nat_eq b y) (has row b) p) (w.insert.ensures.has y ∙ ap (λ b. b || has row y) (is_same y y refl)) inv.targets);
          }
      | else-not-contains w ↦
          let in_ : has row y ≡ true = sym c.contains.ensures ∙ w.if-not-contains.false in
          record {
            room = ap room w.row-is ∙ inv.room;
            scanned = moved g c.args.x c.args.row.now c.args.left.now.items row c.loop-y.left.items c.if-not-contains.row c.if-not-contains.left.items w.row-is (ap (λ (v : Vec ℕ Global). v.items) w.left-is) inv.scanned;
            targets = subst (λ (r : List ℕ). (j d : ℕ) → j < i + 1 → has r (get_or (get_or g c.args.x []) j d) ≡ true) (sym w.row-is)
                (targets_next row row (get_or g c.args.x []) items i here c.loop-y-test.true (λ b p. p) in_ inv.targets);
          }
    ]

pub loop-y-init : goal.loop-y-init
loop-y-init c = record {
  room = refl;
  scanned = scan_start (lists c.args.graph.now) c.args.x c.args.row.now c.args.left.now.items;
  targets = λ j d h. absurd (omega arith);
}

pub returns-clause-targets : goal.returns-clause-targets
returns-clause-targets c =
    let here = row_here c.args.graph.now c.args.x c.index-graph-x.result c.deref-y-items.result.now c.requires.x c.index-graph-x.is c.deref-y-items.ensures.value in
    let end : length (get_or (lists c.args.graph.now) c.args.x []) ≤ c.loop-y.y-index = omega (arith, ap (λ (xs : List ℕ). length xs) here) in
    settled_all (lists c.args.graph.now) c.loop-y.row c.args.x c.loop-y.y-index end c.loop-y.invariant.targets

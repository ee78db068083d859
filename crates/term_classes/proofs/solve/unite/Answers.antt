use Rattle.std.proofs.Common.{ℕ, ◌≡◌, ◌⊎◌, ◌<◌, ◌≤◌, ◌+◌, ◌↔◌, List, [], ◌∷◌, ◌++◌, length, sym, ap, ◌∙◌, inl, inr, subst, arith, refl}
use Rattle.std.proofs.lemmas.List.{length-append}
use Rattle.unifiers.specs.Term.{Term}
use Rattle.term_classes.specs.declared.node.Slot.{Slot}
use Rattle.term_classes.specs.declared.node.Saved.{Saved}
use Rattle.term_classes.specs.declared.node.Pair.{Pair}
use Rattle.term_classes.specs.declared.node.Node.{Node}
use Rattle.term_classes.specs.Slots.{link_of, shape_of, AreLinked}
use Rattle.term_classes.specs.Undo.{IsPlace}
use Rattle.term_classes.specs.Ceilings.{AreJoined, BothLow, IsFit}
use Rattle.term_classes.specs.Press.{RoomJoined}
use Rattle.term_classes.proofs.Pressing.{pressed_united}
use Rattle.term_classes.specs.Fits.{FitsNode, node_at, AreEqual, ArePairsOf, Sound}
use Rattle.term_classes.specs.Meets.{United}
use Rattle.term_classes.proofs.Merge.{united, swapped}
use Rattle.term_classes.proofs.Todo.{equal_more, equal_front, equal_last, pairs_more}
use Rattle.term_classes.proofs.solve.unite.Goals as goal

both_swapped : (old new : List ℕ) (x y : ℕ) → BothLow old new x y → BothLow old new y x
both_swapped old new x y b = record { lowered = b.lowered; first = (b.second.1, b.second.0); second = (b.first.1, b.first.0) }

fit_swapped : (slots : List Slot) (ceilings : List ℕ) (x y r : ℕ) → IsFit slots ceilings x y r → IsFit slots ceilings y x r
fit_swapped slots ceilings x y r f k p = f k (elim p [ inl a ↦ inr a | inr a ↦ inl a ])

either_way : (nodes : List Node) (old new : List Slot) (ceilings lower : List ℕ) (x y s : ℕ) (before after : List Saved) (todo later : List Pair) (Extra : (ℕ → Term) → Type 0) → Sound nodes old → AreLinked new
    → (x < length old) × (link_of old x ≡ x) → (y < length old) × (link_of old y ≡ y) → (x ≡ y → ⊥)
    → ((i : ℕ) → IsPlace before i → IsPlace after i)
    → AreJoined old new ceilings x y s after → BothLow ceilings lower x y
    → (s ≡ shape_of old x) ⊎ (s ≡ shape_of old y)
    → ((q : ℕ → Term) (t : Term) → (FitsNode (node_at nodes (shape_of old x)) q t × FitsNode (node_at nodes (shape_of old y)) q t) ↔ (FitsNode (node_at nodes s) q t × Extra q))
    → ((q : ℕ → Term) → AreEqual later q ↔ (AreEqual todo q × Extra q))
    → (ArePairsOf (length nodes) todo → ArePairsOf (length nodes) later)
    → length later ≤ length todo + 2
    → United nodes old new ceilings lower before after todo later x y
either_way nodes old new ceilings lower x y s before after todo later Extra h h' px py ne more jo low which meet eqs pairs fewer = elim jo.1.0 [
  | inl a ↦ united nodes old new ceilings lower x y s jo.0 h h' a.joined px.0 py.0 px.1 py.1 ne jo.1.1 low before after todo later Extra more a.place which meet eqs pairs fewer
  | inr a ↦
      swapped nodes old new ceilings lower before after todo later x y
      (united nodes old new ceilings lower y x s jo.0 h h' a.joined py.0 px.0 py.1 px.1 (λ e. ne (sym e)) (fit_swapped old ceilings x y jo.0 jo.1.1) (both_swapped ceilings lower x y low) before after todo later Extra more a.place
      (elim which [ inl e ↦ inr e | inr e ↦ inl e ]) (λ q t. ((λ (b, d). (meet q t).0 (d, b)), (λ z. let r = (meet q t).1 z in (r.1, r.0)))) eqs pairs fewer)
]

-- the same after ranks were lowered
with_room : (nodes : List Node) (old new : List Slot) (ceilings lower : List ℕ) (x y s : ℕ) (before after : List Saved) (todo later : List Pair) (Extra : (ℕ → Term) → Type 0) → AreLinked new
    → (x < length old) × (link_of old x ≡ x) → (y < length old) × (link_of old y ≡ y) → (x ≡ y → ⊥)
    → RoomJoined nodes old new ceilings before after x y s → BothLow ceilings lower x y
    → (s ≡ shape_of old x) ⊎ (s ≡ shape_of old y)
    → ((q : ℕ → Term) (t : Term) → (FitsNode (node_at nodes (shape_of old x)) q t × FitsNode (node_at nodes (shape_of old y)) q t) ↔ (FitsNode (node_at nodes s) q t × Extra q))
    → ((q : ℕ → Term) → AreEqual later q ↔ (AreEqual todo q × Extra q))
    → (ArePairsOf (length nodes) todo → ArePairsOf (length nodes) later)
    → length later ≤ length todo + 2
    → United nodes old new ceilings lower before after todo later x y
with_room nodes old new ceilings lower x y s before after todo later Extra h' px py ne jo low which meet eqs pairs fewer =
    let mid = jo.0 in
    let between = jo.1.0 in
    let p = jo.1.1.0 in
    let k = jo.1.1.1.0 in
    pressed_united nodes old mid new ceilings lower before between after todo later x y p
    (either_way nodes mid new ceilings lower x y s between after todo later Extra p.sound h'
    ((let n = p.same.len in let l = px.0 in omega arith), p.same.link x ∙ px.1) ((let n = p.same.len in let l = py.0 in omega arith), p.same.link y ∙ py.1) ne k.more jo.1.1.1.1 low
    (elim which [ inl e ↦ inl (e ∙ sym (p.shape x)) | inr e ↦ inr (e ∙ sym (p.shape y)) ])
    (λ q t. subst (λ u. (FitsNode (node_at nodes u) q t × FitsNode (node_at nodes (shape_of mid y)) q t) ↔ (FitsNode (node_at nodes s) q t × Extra q)) (sym (p.shape x))
    (subst (λ u. (FitsNode (node_at nodes (shape_of old x)) q t × FitsNode (node_at nodes u) q t) ↔ (FitsNode (node_at nodes s) q t × Extra q)) (sym (p.shape y)) (meet q t)))
    eqs pairs fewer)

pub returns-in_ok-join_with_room-in-Same-clause-united : goal.returns-in_ok-join_with_room-in-Same-clause-united
returns-in_ok-join_with_room-in-Same-clause-united c _ =
    let m = c.in-Same.ensures in
    let e = c.in_ok-join_with_room-in-Same.ensures in
    with_room c.args.nodes.now c.args.slots.now c.join_with_room.new.slots c.args.ceilings.now c.join_with_room.new.ceilings c.args.x c.args.y c.in-Same.shape c.args.saved.now.items c.join_with_room.new.saved.items c.args.todo.now.items c.args.todo.now.items (λ _. Unit {0})
    e.linked c.requires.x c.requires.y c.requires.other e.joined e.low m.0
    (λ q t. ((λ p. ((m.1 q t).0 p, tt)), (λ p. (m.1 q t).1 p.0)))
    (λ q. ((λ p. (p, tt)), (λ p. p.0)))
    (λ p. p) (omega arith)

pub returns-in_ok-push-in-Parts-2-clause-united : goal.returns-in_ok-push-in-Parts-2-clause-united
returns-in_ok-push-in-Parts-2-clause-united c _ =
    let m = c.in-Parts.ensures in
    let e = c.in_ok-join_with_room-in-Parts.ensures in
    let one = c.in-Parts.one in
    let two = c.in-Parts.two in
    let todo = c.args.todo.now.items in
    let later = c.push-in-Parts.new.self.items in
    let grown : later ≡ (todo ++ one ∷ []) ++ two ∷ [] = c.in_ok-push-in-Parts-2.ensures.items ∙ ap (λ (l : List Pair). l ++ two ∷ []) c.in_ok-push-in-Parts.ensures.items in
    with_room c.args.nodes.now c.args.slots.now c.join_with_room-in-Parts.new.slots c.args.ceilings.now c.join_with_room-in-Parts.new.ceilings c.args.x c.args.y (shape_of c.args.slots.now c.args.x) c.args.saved.now.items c.join_with_room-in-Parts.new.saved.items todo later (λ q. (q one.left ≡ q one.right) × (q two.left ≡ q two.right))
    e.linked c.requires.x c.requires.y c.requires.other e.joined e.low (inl refl)
    (λ q t. ((λ p. let r = (m.1 q t).0 p in (r.0, (r.1, r.2))), (λ p. (m.1 q t).1 (p.0, p.1.0, p.1.1))))
    (λ q. (
      (λ p. let p' = subst (λ (l : List Pair). AreEqual l q) grown p in
          let f = equal_front (todo ++ one ∷ []) two q p' in
          (equal_front todo one q f, (equal_last todo one q f, equal_last (todo ++ one ∷ []) two q p'))),
      (λ p. subst (λ (l : List Pair). AreEqual l q) (sym grown) (equal_more (todo ++ one ∷ []) two q (equal_more todo one q p.0 p.1.0) p.1.1)),
    ))
    (λ p. subst (λ (l : List Pair). ArePairsOf (length c.args.nodes.now) l) (sym grown)
    (pairs_more (length c.args.nodes.now) (todo ++ one ∷ []) two (pairs_more (length c.args.nodes.now) todo one p m.0.0) m.0.1))
    (omega (arith, ap length grown, length-append (todo ++ one ∷ []) (two ∷ []), length-append todo (one ∷ [])))

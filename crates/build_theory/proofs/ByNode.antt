-- Where each node needs smaller ones alone, the order is that of the nodes.
use Rattle.std.proofs.Common.{◌≡◌, true, not, ◌||◌, List, [], ◌∷◌, ◌++◌, length, map, remove, slice_get, refl, ap, sym, ◌∙◌, subst, inl, inr, append_assoc}
use Rattle.std.specs.Option.{option_map_or}
use Rattle.std.specs.List.{AllByRecursion}
use Rattle.std.proofs.lemmas.List.{map-append}
use Rattle.build_theory.specs.Build.{Tree, Language, insert, by_node, sorted, is_need, has, is_ready, next_at, order_from, order}
use Rattle.build_theory.specs.Laws.{IsIn, IsOrdered, IsExact, AreDistinct, IsDownward, OrderIsByNode}
use Rattle.build_theory.proofs.Lists.{both_ways, differ, or_left, or_right, all_of, all_at, all_map, all_shuffled, in_either}
use Rattle.build_theory.proofs.Files.{put_first, put_later, sorting_shuffles}

module _ {G N S B K E R : Type 0} (l : Language G N S B K E R) (o : IsOrdered l) (x : IsExact l) where
  not_less : (a : N) → l.less a a ≡ true → ⊥
  not_less a h = differ (sym h ∙ o.apart a a h)

  not_both : (a b : N) → l.less a b ≡ true → l.less b a ≡ true → ⊥
  not_both a b p q = differ (sym q ∙ o.apart a b p)

  abbrev IsSorted : List (N × S) → Type 0
  IsSorted [] = Unit {0}
  IsSorted (f ∷ fs) = AllByRecursion (λ g. l.less f.0 g.0 ≡ true) fs × IsSorted fs

  all_insert : (P : N × S → Type 0) (f : N × S) (gs : List (N × S)) → P f → AllByRecursion P gs → AllByRecursion P (insert l f gs)
  all_insert P f [] p h = (p, tt)
  all_insert P f (g ∷ gs) p h =
      both_ways (l.less f.0 g.0)
      (λ y. subst (AllByRecursion P) (sym (put_first l f g gs y)) (p, h))
      (λ y. subst (AllByRecursion P) (sym (put_later l f g gs y)) (h.0, all_insert P f gs p h.1))

  sorted_insert : (f : N × S) (gs : List (N × S)) → AllByRecursion (λ g. f.0 ≡ g.0 → ⊥) gs → IsSorted gs → IsSorted (insert l f gs)
  sorted_insert f [] d s = (tt, tt)
  sorted_insert f (g ∷ gs) d s =
      both_ways (l.less f.0 g.0)
      (λ y. subst IsSorted (sym (put_first l f g gs y)) ((y, all_map (λ h. l.less g.0 h.0 ≡ true) (λ h. l.less f.0 h.0 ≡ true) gs (λ h z. o.chain f.0 g.0 h.0 y z) s.0), s))
      (λ y.
      let back : l.less g.0 f.0 ≡ true = both_ways (l.less g.0 f.0) (λ z. z) (λ z. absurd (d.0 (o.total f.0 g.0 y z))) in
      subst IsSorted (sym (put_later l f g gs y)) (all_insert (λ h. l.less g.0 h.0 ≡ true) f gs back s.0, sorted_insert f gs d.1 s.1))

  by_node_sorted : (fs : List (N × S)) → AreDistinct l fs → IsSorted (by_node l fs)
  by_node_sorted [] d = tt
  by_node_sorted (f ∷ fs) d = sorted_insert f (by_node l fs) (all_shuffled (λ g. f.0 ≡ g.0 → ⊥) (sorting_shuffles l fs) d.0) (by_node_sorted fs d.1)

  after_greater : (ks bs : List (N × S)) (q : N × S) → IsSorted (ks ++ q ∷ bs) → AllByRecursion (λ g. l.less q.0 g.0 ≡ true) bs
  after_greater [] bs q s = s.0
  after_greater (a ∷ ks) bs q s = after_greater ks bs q s.1

  module _ (t : Tree G N S) (down : IsDownward l t) (stand : IsSorted t.sources) where
    -- what q needs doesn't stand at q or behind it
    not_behind : (ks bs : List (N × S)) (q : N × S) → t.sources ≡ ks ++ q ∷ bs → (p : N × S) → IsIn p (q ∷ bs) → l.less p.0 q.0 ≡ true → ⊥
    not_behind ks bs q e p i h = elim i [
      | inl k ↦ not_less q.0 (subst (λ z. l.less z.0 q.0 ≡ true) k h)
      | inr j ↦ not_both p.0 q.0 h (all_at (λ g. l.less q.0 g.0 ≡ true) bs p j (after_greater ks bs q (subst IsSorted e stand)))
    ]

    has_node : (ks : List (N × S)) (p : N × S) → IsIn p ks → has l (map (λ q. q.0) ks) p.0 ≡ true
    has_node [] p i = absurd i
    has_node (a ∷ ks) p i = elim i [
      | inl e ↦ or_left (l.same a.0 p.0) (has l (map (λ q. q.0) ks) p.0) (subst (λ z. l.same a.0 z.0 ≡ true) (sym e) (x.itself a.0))
      | inr j ↦ or_right (l.same a.0 p.0) (has l (map (λ q. q.0) ks) p.0) (has_node ks p j)
    ]

    is_ready_at : (ks bs : List (N × S)) (q : N × S) → t.sources ≡ ks ++ q ∷ bs → is_ready l t (map (λ q. q.0) ks) q.0 ≡ true
    is_ready_at ks bs q e =
        all_of (λ p. not (is_need l t q.0 p.0) || has l (map (λ q. q.0) ks) p.0) t.sources (λ p i.
        elim (in_either ks (q ∷ bs) p (subst (IsIn p) e i)) [
          | inl j ↦ or_right (not (is_need l t q.0 p.0)) (has l (map (λ q. q.0) ks) p.0) (has_node ks p j)
          | inr j ↦ both_ways (is_need l t q.0 p.0)
              (λ y. absurd (not_behind ks bs q e p j (down q.0 p.0 y)))
              (λ y. or_left (not (is_need l t q.0 p.0)) (has l (map (λ q. q.0) ks) p.0) (ap not y))
        ])

    order_rest : (left ks : List (N × S)) → t.sources ≡ ks ++ left → order_from l (length left) t (map (λ q. q.0) ks) left ≡ left
    order_rest [] ks e = refl
    order_rest (q ∷ qs) ks e =
        let listed = map (λ (q : N × S). q.0) ks in
        let ready : is_ready l t listed q.0 ≡ true = is_ready_at ks qs q e in
        let first : next_at l t listed (q ∷ qs) ≡ 0 = rw ready refl in
        let step : order_from l (length (q ∷ qs)) t listed (q ∷ qs) ≡ q ∷ order_from l (length qs) t (listed ++ q.0 ∷ []) qs =
        ap (λ k. option_map_or (λ (r : N × S). r ∷ order_from l (length qs) t (listed ++ r.0 ∷ []) (remove (q ∷ qs) k)) (slice_get (q ∷ qs) k) []) first in
        let told : listed ++ q.0 ∷ [] ≡ map (λ (q : N × S). q.0) (ks ++ q ∷ []) = sym (map-append (λ (q : N × S). q.0) ks (q ∷ [])) in
        step ∙ ap (λ d. q ∷ order_from l (length qs) t d qs) told ∙ ap (λ z. q ∷ z) (order_rest qs (ks ++ q ∷ []) (e ∙ sym (append_assoc ks (q ∷ []) qs)))

    stays : order l t ≡ t.sources
    stays = order_rest t.sources [] refl

pub order_is_by_node : {G N S B K E R : Type 0} (l : Language G N S B K E R) → OrderIsByNode l
order_is_by_node l o x t d down = stays l o x (sorted l t) down (by_node_sorted l o x t.sources d)

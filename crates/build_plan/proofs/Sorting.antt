-- A sorted list of the same sources is the list by node.
use Rattle.std.proofs.Common.{◌≡◌, ℕ, zero, suc, ◌+◌, ◌<◌, Bool, true, false, List, [], ◌∷◌, length, get_or, set, refl, ap, sym, ◌∙◌, subst, arith, inl, inr}
use Rattle.std.specs.List.{swap, AllByRecursion}
use Rattle.std.specs.List.Sorted.{IsPermutation, IsSortedBy}
use Rattle.std.proofs.lemmas.List.Sorted.{IsPermutation-keeps, IsPermutation-map}
use Rattle.mk_base.specs.declared.name.Node.{Node}
use Rattle.build_theory.specs.Build.{insert, by_node}
use Rattle.build_theory.specs.Laws.{Shuffles, none, skip, then_, AreDistinct, IsIn}
use Rattle.build_theory.specs.Laws as laws
use Rattle.build_theory.proofs.Lists.{both_ways, same_shuffled, all_shuffled, all_at, all_map, in_shuffled, shuffled_back, clash}
use Rattle.build_theory.proofs.Files.{put_first, put_later, sorting_shuffles, distinct_shuffled}
use Rattle.build_plan.specs.declared.sources.Source.{Source}
use Rattle.mod_graph.specs.Names.{less_node}
use Rattle.build_plan.specs.Tree.{planning}
use Rattle.build_plan.specs.Plan.{AreRising}
use Rattle.build_plan.specs.Positions.{pairs}
use Rattle.build_plan.proofs.Order.{planning_ordered, not_less}

module _ {X : Type 0} where
  -- the first element changes places with one behind it
  front_swap : (x d : X) (xs : List X) (k : ℕ) → k < length xs → Shuffles (x ∷ xs) (get_or xs k d ∷ set xs k x)
  front_swap x d [] k h = absurd (omega arith)
  front_swap x d (y ∷ ys) zero h = laws.swap
  front_swap x d (y ∷ ys) (suc k) h = then_ laws.swap (then_ (skip (front_swap x d ys k (omega arith))) laws.swap)

  swap_shuffles : (xs : List X) (i j : ℕ) (d : X) → i < length xs → j < length xs → Shuffles xs (set (set xs i (get_or xs j d)) j (get_or xs i d))
  swap_shuffles [] i j d h k = absurd (omega arith)
  swap_shuffles (x ∷ xs) zero zero d h k = same_shuffled (x ∷ xs)
  swap_shuffles (x ∷ xs) zero (suc j) d h k = front_swap x d xs j (omega arith)
  swap_shuffles (x ∷ xs) (suc i) zero d h k = front_swap x d xs i (omega arith)
  swap_shuffles (x ∷ xs) (suc i) (suc j) d h k = skip (swap_shuffles xs i j d (omega arith) (omega arith))

  swapped : (xs : List X) (i j : ℕ) → i < length xs → j < length xs → Shuffles xs (swap xs i j)
  swapped [] i j h k = absurd (omega arith)
  swapped (d ∷ ys) i j h k = swap_shuffles (d ∷ ys) i j d h k

  pub shuffles_from : (xs ys : List X) → IsPermutation xs ys → Shuffles xs ys
  shuffles_from xs ys p = IsPermutation-keeps xs (λ l. Shuffles xs l) (same_shuffled xs) (λ l i j h k s. then_ s (swapped l i j h k)) ys p

abbrev Sources : Type 0
Sources = List (Node × List ℕ)

all_insert : (P : Node × List ℕ → Type 0) (f : Node × List ℕ) (gs : Sources) → P f → AllByRecursion P gs → AllByRecursion P (insert planning f gs)
all_insert P f [] p h = (p, tt)
all_insert P f (g ∷ gs) p h =
    both_ways (less_node f.0 g.0)
    (λ y. subst (AllByRecursion P) (sym (put_first planning f g gs y)) (p, h))
    (λ y. subst (AllByRecursion P) (sym (put_later planning f g gs y)) (h.0, all_insert P f gs p h.1))

rising_insert : (f : Node × List ℕ) (gs : Sources) → AllByRecursion (λ g. f.0 ≡ g.0 → ⊥) gs → AreRising gs → AreRising (insert planning f gs)
rising_insert f [] d s = (tt, tt)
rising_insert f (g ∷ gs) d s =
    both_ways (less_node f.0 g.0)
    (λ y. subst AreRising (sym (put_first planning f g gs y)) ((y, all_map (λ h. less_node g.0 h.0 ≡ true) (λ h. less_node f.0 h.0 ≡ true) gs (λ h z. planning_ordered.chain f.0 g.0 h.0 y z) s.0), s))
    (λ y.
    let back : less_node g.0 f.0 ≡ true = both_ways (less_node g.0 f.0) (λ z. z) (λ z. absurd (d.0 (planning_ordered.total f.0 g.0 y z))) in
    subst AreRising (sym (put_later planning f g gs y)) (all_insert (λ h. less_node g.0 h.0 ≡ true) f gs back s.0, rising_insert f gs d.1 s.1))

pub by_node_rising : (fs : Sources) → AreDistinct planning fs → AreRising (by_node planning fs)
by_node_rising [] d = tt
by_node_rising (f ∷ fs) d = rising_insert f (by_node planning fs) (all_shuffled (λ g. f.0 ≡ g.0 → ⊥) (sorting_shuffles planning fs) d.0) (by_node_rising fs d.1)

-- no source is less than the one before it
abbrev AreLevel : Sources → Type 0
AreLevel [] = Unit {0}
AreLevel (f ∷ []) = Unit {0}
AreLevel (f ∷ g ∷ gs) = (less_node g.0 f.0 ≡ false) × AreLevel (g ∷ gs)

level_rising : (fs : Sources) → AreDistinct planning fs → AreLevel fs → AreRising fs
level_rising [] d s = tt
level_rising (f ∷ []) d s = (tt, tt)
level_rising (f ∷ g ∷ gs) d s =
    let rest : AreRising (g ∷ gs) = level_rising (g ∷ gs) d.1 s.1 in
    let up : less_node f.0 g.0 ≡ true = both_ways (less_node f.0 g.0) (λ e. e) (λ e. absurd (d.0.0 (planning_ordered.total f.0 g.0 e s.0))) in
    ((up, all_map (λ h. less_node g.0 h.0 ≡ true) (λ h. less_node f.0 h.0 ≡ true) gs (λ h z. planning_ordered.chain f.0 g.0 h.0 up z) rest.0), rest)

-- two rising lists of the same sources are the same
one_rising : (xs ys : Sources) → AreRising xs → AreRising ys → ((z : Node × List ℕ) → IsIn z xs → IsIn z ys) → ((z : Node × List ℕ) → IsIn z ys → IsIn z xs) → xs ≡ ys
one_rising [] [] r s f b = refl
one_rising [] (y ∷ ys) r s f b = absurd (b y (inl refl))
one_rising (x ∷ xs) [] r s f b = absurd (f x (inl refl))
one_rising (x ∷ xs) (y ∷ ys) r s f b =
    let heads : x ≡ y = elim (f x (inl refl)) [
      | inl e ↦ e
      | inr j ↦ elim (b y (inl refl)) [
        | inl e ↦ sym e
        | inr k ↦
            let up : less_node y.0 x.0 ≡ true = all_at (λ h. less_node y.0 h.0 ≡ true) ys x j s.0 in
            let down : less_node x.0 y.0 ≡ true = all_at (λ h. less_node x.0 h.0 ≡ true) xs y k r.0 in
            absurd (clash (less_node x.0 y.0) down (planning_ordered.apart y.0 x.0 up))
      ]
    ] in
    let forth : (z : Node × List ℕ) → IsIn z xs → IsIn z ys = λ z i. elim (f z (inr i)) [
      | inl e ↦ absurd (not_less x.0 (subst (λ (w : Node × List ℕ). less_node x.0 w.0 ≡ true) (e ∙ sym heads) (all_at (λ h. less_node x.0 h.0 ≡ true) xs z i r.0)))
      | inr j ↦ j
    ] in
    let back : (z : Node × List ℕ) → IsIn z ys → IsIn z xs = λ z i. elim (b z (inr i)) [
      | inl e ↦ absurd (not_less y.0 (subst (λ (w : Node × List ℕ). less_node y.0 w.0 ≡ true) (e ∙ heads) (all_at (λ h. less_node y.0 h.0 ≡ true) ys z i s.0)))
      | inr j ↦ j
    ] in
    ap (λ z. z ∷ xs) heads ∙ ap (λ l. y ∷ l) (one_rising xs ys r.1 s.1 forth back)

sorted_by_node : (xs ys : Sources) → AreDistinct planning xs → IsPermutation xs ys → AreLevel ys → ys ≡ by_node planning xs
sorted_by_node xs ys d p s =
    let sh = shuffles_from xs ys p in
    let sorting = sorting_shuffles planning xs in
    one_rising ys (by_node planning xs) (level_rising ys (distinct_shuffled planning sh d) s) (by_node_rising xs d)
    (λ z i. in_shuffled z sorting (in_shuffled z (shuffled_back sh) i)) (λ z i. in_shuffled z sh (in_shuffled z (shuffled_back sorting) i))

abbrev less_source : Source → Source → Bool
less_source a b = less_node a.node b.node

tail_sorted : (f : Source) (fs : List Source) → IsSortedBy less_source (f ∷ fs) → IsSortedBy less_source fs
tail_sorted f fs s = λ k d h m.
    let e : suc k + 1 ≡ suc (k + 1) = omega arith in
    subst (λ i. less_source (get_or (f ∷ fs) i d) (get_or fs k d) ≡ false) e (s (suc k) d (omega arith) (omega arith))

level_pairs : (sources : List Source) → IsSortedBy less_source sources → AreLevel (pairs sources)
level_pairs [] s = tt
level_pairs (x ∷ []) s = tt
level_pairs (x ∷ y ∷ ys) s = (s 0 x (omega arith) (omega arith), level_pairs (y ∷ ys) (tail_sorted x (y ∷ ys) s))

pub sorted_sources : (old new : List Source) → AreDistinct planning (pairs old) → IsPermutation old new → IsSortedBy (λ (a : Source) (b : Source). less_node a.node b.node) new → pairs new ≡ by_node planning (pairs old)
sorted_sources old new d p s = sorted_by_node (pairs old) (pairs new) d (IsPermutation-map (λ (s : Source). (s.node, s.bytes.now)) old new p) (level_pairs new s)

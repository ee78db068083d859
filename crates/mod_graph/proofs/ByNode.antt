-- Headers that are sorted by their nodes are the headers by node.
use Rattle.std.proofs.Common.{◌≡◌, ℕ, zero, suc, ◌+◌, ◌<◌, ◌⊎◌, Bool, true, false, List, [], ◌∷◌, length, get_or, refl, ap, sym, ◌∙◌, subst, arith, inl, inr}
use Rattle.std.specs.List.{AllByRecursion, Contains, IsDistinct}
use Rattle.std.specs.List.Sorted.{IsPermutation, IsSortedBy}
use Rattle.std.proofs.lemmas.Bool.{cond-true, cond-false, false≢true}
use Rattle.std.proofs.lemmas.List.Sorted.{IsPermutation-map, IsPermutation-sym, Contains-permutation}
use Rattle.std.proofs.lemmas.Map.Keys.{IsDistinct-IsPermutation}
use Rattle.mod_graph.specs.declared.input.HeaderOf.{HeaderOf}
use Rattle.mod_graph.specs.declared.entries.Ranked.{Ranked}
use Rattle.mod_graph.specs.Names.{same_node, less_node}
use Rattle.mod_graph.specs.Entries.{insert, by_node}
use Rattle.mod_graph.specs.Graph.{AreDistinct}
use Rattle.mod_graph.specs.Ranked.{headers_in}
use Rattle.mod_graph.proofs.NodeNames.{either, nodes_tell, node_itself, nodes_turn, not_less, not_both, total, chain}

module _ {X : Type 0} where
  all_map : (P Q : X → Type 0) (xs : List X) → ((x : X) → P x → Q x) → AllByRecursion P xs → AllByRecursion Q xs
  all_map P Q [] f h = h
  all_map P Q (x ∷ xs) f h = (f x h.0, all_map P Q xs f h.1)

  abbrev IsIn : X → List X → Type 0
  IsIn z [] = ⊥
  IsIn z (x ∷ xs) = (z ≡ x) ⊎ IsIn z xs

  all_at : (P : X → Type 0) (xs : List X) (x : X) → IsIn x xs → AllByRecursion P xs → P x
  all_at P [] x i h = absurd i
  all_at P (y ∷ ys) x i h = elim i [ inl e ↦ subst P (sym e) h.0 | inr j ↦ all_at P ys x j h.1 ]

  to_in : (xs : List X) (z : X) (k : ℕ) → k < length xs → get_or xs k z ≡ z → IsIn z xs
  to_in [] z k h e = absurd (omega arith)
  to_in (x ∷ xs) z zero h e = inl (sym e)
  to_in (x ∷ xs) z (suc k) h e = inr (to_in xs z k (omega arith) e)

  from_in : (xs : List X) (z : X) → IsIn z xs → Contains xs z
  from_in [] z i = absurd i
  from_in (x ∷ xs) z i = elim i [
    | inl e ↦ (zero, omega arith, sym e)
    | inr j ↦ let s = from_in xs z j in (suc s.0, omega (arith, s.1), s.2)
  ]

  in_moved : (xs ys : List X) (z : X) → IsPermutation xs ys → IsIn z xs → IsIn z ys
  in_moved xs ys z p i = let s = Contains-permutation xs ys z p (from_in xs z i) in to_in ys z s.0 s.1 s.2

abbrev Headers : Type 0
Headers = List HeaderOf

abbrev less : HeaderOf → HeaderOf → Bool
less f g = less_node f.node g.node

-- each header is less than all behind it
abbrev AreRising : Headers → Type 0
AreRising [] = Unit {0}
AreRising (f ∷ fs) = AllByRecursion (λ g. less f g ≡ true) fs × AreRising fs

put_first : (f g : HeaderOf) (gs : Headers) → less f g ≡ true → insert f (g ∷ gs) ≡ f ∷ g ∷ gs
put_first f g gs e = cond-true (less f g) (f ∷ g ∷ gs) (g ∷ insert f gs) e

put_later : (f g : HeaderOf) (gs : Headers) → less f g ≡ false → insert f (g ∷ gs) ≡ g ∷ insert f gs
put_later f g gs e = cond-false (less f g) (f ∷ g ∷ gs) (g ∷ insert f gs) e

all_insert : (P : HeaderOf → Type 0) (f : HeaderOf) (gs : Headers) → P f → AllByRecursion P gs → AllByRecursion P (insert f gs)
all_insert P f [] p h = (p, tt)
all_insert P f (g ∷ gs) p h =
    either (less f g)
    (λ y. subst (AllByRecursion P) (sym (put_first f g gs y)) (p, h))
    (λ y. subst (AllByRecursion P) (sym (put_later f g gs y)) (h.0, all_insert P f gs p h.1))

all_by_node : (P : HeaderOf → Type 0) (fs : Headers) → AllByRecursion P fs → AllByRecursion P (by_node fs)
all_by_node P [] h = h
all_by_node P (f ∷ fs) h = all_insert P f (by_node fs) h.0 (all_by_node P fs h.1)

rising_insert : (f : HeaderOf) (gs : Headers) → AllByRecursion (λ g. f.node ≡ g.node → ⊥) gs → AreRising gs → AreRising (insert f gs)
rising_insert f [] d s = (tt, tt)
rising_insert f (g ∷ gs) d s =
    either (less f g)
    (λ y. subst AreRising (sym (put_first f g gs y)) ((y, all_map (λ h. less g h ≡ true) (λ h. less f h ≡ true) gs (λ h z. chain f.node g.node h.node y z) s.0), s))
    (λ y.
    let back : less g f ≡ true = either (less g f) (λ z. z) (λ z. absurd (d.0 (total f.node g.node y z))) in
    subst AreRising (sym (put_later f g gs y)) (all_insert (λ h. less g h ≡ true) f gs back s.0, rising_insert f gs d.1 s.1))

by_node_rising : (fs : Headers) → AreDistinct fs → AreRising (by_node fs)
by_node_rising [] d = tt
by_node_rising (f ∷ fs) d = rising_insert f (by_node fs) (all_by_node (λ g. f.node ≡ g.node → ⊥) fs d.0) (by_node_rising fs d.1)

-- what is inserted is there, and so is what was there
in_insert : (f z : HeaderOf) (gs : Headers) → IsIn z (f ∷ gs) → IsIn z (insert f gs)
in_insert f z [] i = i
in_insert f z (g ∷ gs) i =
    either (less f g)
    (λ y. subst (IsIn z) (sym (put_first f g gs y)) i)
    (λ y. subst (IsIn z) (sym (put_later f g gs y)) (elim i [
      | inl e ↦ inr (in_insert f z gs (inl e))
      | inr j ↦ elim j [ inl e ↦ inl e | inr k ↦ inr (in_insert f z gs (inr k)) ]
    ]))

in_by_node : (z : HeaderOf) (fs : Headers) → IsIn z fs → IsIn z (by_node fs)
in_by_node z [] i = i
in_by_node z (f ∷ fs) i = in_insert f z (by_node fs) (elim i [ inl e ↦ inl e | inr j ↦ inr (in_by_node z fs j) ])

from_insert : (f z : HeaderOf) (gs : Headers) → IsIn z (insert f gs) → IsIn z (f ∷ gs)
from_insert f z [] i = i
from_insert f z (g ∷ gs) i =
    either (less f g)
    (λ y. subst (IsIn z) (put_first f g gs y) i)
    (λ y.
    let j : IsIn z (g ∷ insert f gs) = subst (IsIn z) (put_later f g gs y) i in
    elim j [
      | inl e ↦ inr (inl e)
      | inr k ↦ elim (from_insert f z gs k) [ inl e ↦ inl e | inr l ↦ inr (inr l) ]
    ])

from_by_node : (z : HeaderOf) (fs : Headers) → IsIn z (by_node fs) → IsIn z fs
from_by_node z [] i = i
from_by_node z (f ∷ fs) i = elim (from_insert f z (by_node fs) i) [ inl e ↦ inl e | inr j ↦ inr (from_by_node z fs j) ]

-- two rising lists of the same headers are the same
one_rising : (xs ys : Headers) → AreRising xs → AreRising ys → ((z : HeaderOf) → IsIn z xs → IsIn z ys) → ((z : HeaderOf) → IsIn z ys → IsIn z xs) → xs ≡ ys
one_rising [] [] r s f b = refl
one_rising [] (y ∷ ys) r s f b = absurd (b y (inl refl))
one_rising (x ∷ xs) [] r s f b = absurd (f x (inl refl))
one_rising (x ∷ xs) (y ∷ ys) r s f b =
    let heads : x ≡ y = elim (f x (inl refl)) [
      | inl e ↦ e
      | inr j ↦ elim (b y (inl refl)) [
        | inl e ↦ sym e
        | inr k ↦ absurd (not_both y.node x.node (all_at (λ h. less y h ≡ true) ys x j s.0) (all_at (λ h. less x h ≡ true) xs y k r.0))
      ]
    ] in
    let forth : (z : HeaderOf) → IsIn z xs → IsIn z ys = λ z i. elim (f z (inr i)) [
      | inl e ↦ absurd (not_less x.node (subst (λ (w : HeaderOf). less x w ≡ true) (e ∙ sym heads) (all_at (λ h. less x h ≡ true) xs z i r.0)))
      | inr j ↦ j
    ] in
    let back : (z : HeaderOf) → IsIn z ys → IsIn z xs = λ z i. elim (b z (inr i)) [
      | inl e ↦ absurd (not_less y.node (subst (λ (w : HeaderOf). less y w ≡ true) (e ∙ heads) (all_at (λ h. less y h ≡ true) ys z i s.0)))
      | inr j ↦ j
    ] in
    ap (λ z. z ∷ xs) heads ∙ ap (λ l. y ∷ l) (one_rising xs ys r.1 s.1 forth back)

abbrev alike : HeaderOf → HeaderOf → Bool
alike f g = same_node f.node g.node

told_apart : (f g : HeaderOf) → (f.node ≡ g.node → ⊥) → alike f g ≡ false
told_apart f g h = either (alike f g) (λ e. absurd (h (nodes_tell f.node g.node e))) (λ e. e)

distinct_by_test : (fs : Headers) → AreDistinct fs → IsDistinct alike fs
unfolding IsDistinct
distinct_by_test [] d = tt
distinct_by_test (f ∷ fs) d = (all_map (λ g. f.node ≡ g.node → ⊥) (λ g. alike f g ≡ false) fs (told_apart f) d.0, distinct_by_test fs d.1)

not_alike : (f g : HeaderOf) → alike f g ≡ false → f.node ≡ g.node → ⊥
not_alike f g h e = false≢true (sym h ∙ ap (same_node f.node) (sym e) ∙ node_itself f.node)

distinct_from_test : (fs : Headers) → IsDistinct alike fs → AreDistinct fs
unfolding IsDistinct
distinct_from_test [] d = tt
distinct_from_test (f ∷ fs) d = (all_map (λ g. alike f g ≡ false) (λ g. f.node ≡ g.node → ⊥) fs (not_alike f) d.0, distinct_from_test fs d.1)

-- no header is less than the one before it
abbrev AreLevel : Headers → Type 0
AreLevel [] = Unit {0}
AreLevel (f ∷ []) = Unit {0}
AreLevel (f ∷ g ∷ gs) = (less g f ≡ false) × AreLevel (g ∷ gs)

level_rising : (fs : Headers) → AreDistinct fs → AreLevel fs → AreRising fs
level_rising [] d s = tt
level_rising (f ∷ []) d s = (tt, tt)
level_rising (f ∷ g ∷ gs) d s =
    let rest : AreRising (g ∷ gs) = level_rising (g ∷ gs) d.1 s.1 in
    let up : less f g ≡ true = either (less f g) (λ e. e) (λ e. absurd (d.0.0 (total f.node g.node e s.0))) in
    ((up, all_map (λ h. less g h ≡ true) (λ h. less f h ≡ true) gs (λ h z. chain f.node g.node h.node up z) rest.0), rest)

sorted_by_node : (xs ys : Headers) → AreDistinct xs → IsPermutation xs ys → AreLevel ys → ys ≡ by_node xs
sorted_by_node xs ys d p s =
    let apart : AreDistinct ys = distinct_from_test ys (IsDistinct-IsPermutation alike (λ f g. nodes_turn f.node g.node) xs ys p (distinct_by_test xs d)) in
    one_rising ys (by_node xs) (level_rising ys apart s) (by_node_rising xs d)
    (λ z i. in_by_node z xs (in_moved ys xs z (IsPermutation-sym xs ys p) i)) (λ z i. in_moved xs ys z p (from_by_node z xs i))

abbrev ranks_less : Ranked → Ranked → Bool
ranks_less a b = less a.header.now b.header.now

tail_sorted : (r : Ranked) (rs : List Ranked) → IsSortedBy ranks_less (r ∷ rs) → IsSortedBy ranks_less rs
tail_sorted r rs s = λ k d h m.
    let e : suc k + 1 ≡ suc (k + 1) = omega arith in
    subst (λ i. ranks_less (get_or (r ∷ rs) i d) (get_or rs k d) ≡ false) e (s (suc k) d (omega arith) (omega arith))

level_headers : (rs : List Ranked) → IsSortedBy ranks_less rs → AreLevel (headers_in rs)
level_headers [] s = tt
level_headers (x ∷ []) s = tt
level_headers (x ∷ y ∷ ys) s = (s 0 x (omega arith) (omega arith), level_headers (y ∷ ys) (tail_sorted x (y ∷ ys) s))

pub sorted_headers : (old new : List Ranked) → AreDistinct (headers_in old) → IsPermutation old new → IsSortedBy (λ (a : Ranked) (b : Ranked). less_node a.header.now.node b.header.now.node) new → headers_in new ≡ by_node (headers_in old)
sorted_headers old new d p s = sorted_by_node (headers_in old) (headers_in new) d (IsPermutation-map (λ (r : Ranked). r.header.now) old new p) (level_headers new s)

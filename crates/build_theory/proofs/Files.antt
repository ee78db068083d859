-- The files may stand in any order: they are sorted by node.
use Rattle.std.proofs.Common.{◌≡◌, Bool, true, false, List, [], ◌∷◌, refl, ap, sym, ◌∙◌}
use Rattle.build_theory.specs.Build.{Language, insert, by_node, results, order, clean_results}
use Rattle.build_theory.specs.Laws.{Shuffles, none, skip, swap, then_, IsOrdered, AreDistinct, OrderOfFilesIsNothing}
use Rattle.build_theory.proofs.Lists.{both_ways, all_shuffled, same_shuffled}

module _ {G N S B K E R : Type 0} (l : Language G N S B K E R) where
  pub put_first : (f g : N × S) (gs : List (N × S)) → l.less f.0 g.0 ≡ true → insert l f (g ∷ gs) ≡ f ∷ g ∷ gs
  put_first f g gs e = rw e refl

  pub put_later : (f g : N × S) (gs : List (N × S)) → l.less f.0 g.0 ≡ false → insert l f (g ∷ gs) ≡ g ∷ insert l f gs
  put_later f g gs e = rw e refl

  pub distinct_shuffled : {xs ys : List (N × S)} → Shuffles xs ys → AreDistinct l xs → AreDistinct l ys
  distinct_shuffled none h = h
  distinct_shuffled (skip {x = x} s) h = (all_shuffled (λ g. x.0 ≡ g.0 → ⊥) s h.0, distinct_shuffled s h.1)
  distinct_shuffled swap h = (((λ e. h.0.0 (sym e)), h.1.0), (h.0.1, h.1.1))
  distinct_shuffled (then_ s t) h = distinct_shuffled t (distinct_shuffled s h)

  insert_shuffles : (f : N × S) (gs : List (N × S)) → Shuffles (f ∷ gs) (insert l f gs)
  insert_shuffles f [] = same_shuffled (f ∷ [])
  insert_shuffles f (g ∷ gs) =
      both_ways (l.less f.0 g.0)
      (λ y. rw (put_first f g gs y) (same_shuffled (f ∷ g ∷ gs)))
      (λ y. rw (put_later f g gs y) (then_ swap (skip (insert_shuffles f gs))))

  -- sorting is a shuffle
  pub sorting_shuffles : (fs : List (N × S)) → Shuffles fs (by_node l fs)
  sorting_shuffles [] = none
  sorting_shuffles (f ∷ fs) = then_ (skip (sorting_shuffles fs)) (insert_shuffles f (by_node l fs))

  module _ (o : IsOrdered l) where
    -- two files that both belong in front of r
    heads : (f g : N × S) (r : List (N × S)) → (f.0 ≡ g.0 → ⊥) → insert l f r ≡ f ∷ r → insert l g r ≡ g ∷ r → (b c : Bool) → l.less f.0 g.0 ≡ b → l.less g.0 f.0 ≡ c → insert l f (g ∷ r) ≡ insert l g (f ∷ r)
    heads f g r ne ef eg true true p q = absurd (let k : true ≡ false = sym q ∙ o.apart f.0 g.0 p in cc)
    heads f g r ne ef eg true false p q = put_first f g r p ∙ ap (λ x. f ∷ x) (sym eg) ∙ sym (put_later g f r q)
    heads f g r ne ef eg false true p q = put_later f g r p ∙ ap (λ x. g ∷ x) ef ∙ sym (put_first g f r q)
    heads f g r ne ef eg false false p q = absurd (ne (o.total f.0 g.0 p q))

    -- where g belongs before h and f doesn't, f comes behind both
    behind : (f g h : N × S) → l.less g.0 h.0 ≡ true → l.less f.0 h.0 ≡ false → (b : Bool) → l.less f.0 g.0 ≡ b → l.less f.0 g.0 ≡ false
    behind f g h p q false e = e
    behind f g h p q true e = absurd (let k : true ≡ false = sym (o.chain f.0 g.0 h.0 e p) ∙ q in cc)

    one_behind : (f g h : N × S) (hs : List (N × S)) → l.less g.0 h.0 ≡ true → l.less f.0 h.0 ≡ false → insert l f (insert l g (h ∷ hs)) ≡ insert l g (insert l f (h ∷ hs))
    one_behind f g h hs p q =
        ap (insert l f) (put_first g h hs p) ∙ put_later f g (h ∷ hs) (behind f g h p q (l.less f.0 g.0) refl) ∙ ap (λ x. g ∷ x) (put_later f h hs q)
        ∙ sym (put_first g h (insert l f hs) p) ∙ ap (insert l g) (sym (put_later f h hs q))

    insert_swap : (f g : N × S) (fs : List (N × S)) → (f.0 ≡ g.0 → ⊥) → insert l f (insert l g fs) ≡ insert l g (insert l f fs)
    insert_swap f g [] ne = heads f g [] ne refl refl (l.less f.0 g.0) (l.less g.0 f.0) refl refl
    insert_swap f g (h ∷ hs) ne =
        let rest = insert_swap f g hs ne in
        let P : Bool → Bool → Type 0 = λ b c. l.less g.0 h.0 ≡ b → l.less f.0 h.0 ≡ c → insert l f (insert l g (h ∷ hs)) ≡ insert l g (insert l f (h ∷ hs)) in
        let all : (b c : Bool) → P b c = λ b c. elim b as (λ b. P b c) [
          | true ↦ elim c as (λ c. P true c) [
            | true ↦ λ p q. ap (insert l f) (put_first g h hs p) ∙ heads f g (h ∷ hs) ne (put_first f h hs q) (put_first g h hs p) (l.less f.0 g.0) (l.less g.0 f.0) refl refl ∙ ap (insert l g) (sym (put_first f h hs q))
            | false ↦ λ p q. one_behind f g h hs p q
          ]
          | false ↦ elim c as (λ c. P false c) [
            | true ↦ λ p q. sym (one_behind g f h hs q p)
            | false ↦ λ p q. ap (insert l f) (put_later g h hs p) ∙ put_later f h (insert l g hs) q ∙ ap (λ x. h ∷ x) rest ∙ sym (put_later g h (insert l f hs) p) ∙ ap (insert l g) (sym (put_later f h hs q))
          ]
        ] in
        all (l.less g.0 h.0) (l.less f.0 h.0) refl refl

    same_sorted : {xs ys : List (N × S)} → Shuffles xs ys → AreDistinct l xs → by_node l xs ≡ by_node l ys
    same_sorted none d = refl
    same_sorted (skip {x = x} s) d = ap (insert l x) (same_sorted s d.1)
    same_sorted (swap {x = x} {y = y} {xs = xs}) d = insert_swap x y (by_node l xs) d.0.0
    same_sorted (then_ s t) d = same_sorted s d ∙ same_sorted t (distinct_shuffled s d)

  pub order_is_nothing : OrderOfFilesIsNothing l
  order_is_nothing o g files others store d s =
      let e = same_sorted o s d in (
        ap (λ fs. clean_results l (record { settings = g; sources = fs }) [] (order l (record { settings = g; sources = fs }))) e,
        ap (λ fs. results l (record { settings = g; sources = fs }) store [] (order l (record { settings = g; sources = fs }))) e,
      )

-- What a build leaves in a store.
use Rattle.std.proofs.Common.{◌≡◌, true, false, List, [], ◌∷◌, ◌++◌, map, refl, ap, sym, ◌∙◌, subst, append_assoc, append-nil}
use Rattle.std.specs.Map.{lookup}
use Rattle.std.specs.List.{AllByRecursion}
use Rattle.std.proofs.lemmas.List.{map-append}
use Rattle.build_theory.specs.Build.{Tree, Language, Outcome, Sound, Failed, Blocked, Judged, outcomes, sorted, order, step, results, incremental, kept_at, kept_of}
use Rattle.build_theory.specs.Laws.{IsExact, AreDistinct}
use Rattle.build_theory.proofs.Lists.{both_ways, look_yes, look_no}
use Rattle.build_theory.proofs.Files.{sorting_shuffles, distinct_shuffled}
use Rattle.build_theory.proofs.Whole.{order_is_whole}
use Rattle.build_theory.specs.Judging.{kept_from, kept_or, StoreAfterBuild}

abbrev keys_of : {N X : Type 0} → List (N × X) → List N
keys_of es = map (λ e. e.0) es

-- no element stands twice
abbrev AreApart : {X : Type 0} → List X → Type 0
AreApart [] = Unit {0}
AreApart (x ∷ xs) = AllByRecursion (λ y. x ≡ y → ⊥) xs × AreApart xs

module _ {G N S B K E R : Type 0} (l : Language G N S B K E R) where
  all_keys : (n : N) (fs : List (N × S)) → AllByRecursion (λ g. n ≡ g.0 → ⊥) fs → AllByRecursion (λ y. n ≡ y → ⊥) (keys_of fs)
  all_keys n [] h = h
  all_keys n (f ∷ fs) h = (h.0, all_keys n fs h.1)

  apart_of : (fs : List (N × S)) → AreDistinct l fs → AreApart (keys_of fs)
  apart_of [] d = tt
  apart_of (f ∷ fs) d = (all_keys f.0 fs d.0, apart_of fs d.1)

  keys_of_results : (t : Tree G N S) (store : List (N × K)) (qs : List (N × S)) (done : List (N × Judged N B E R)) → keys_of (results l t store done qs) ≡ keys_of done ++ keys_of qs
  keys_of_results t store [] done = sym (append-nil (keys_of done))
  keys_of_results t store (q ∷ qs) done =
      let j : N × Judged N B E R = (q.0, step l t store (outcomes done) q) in
      keys_of_results t store qs (done ++ j ∷ []) ∙ ap (λ ks. ks ++ keys_of qs) (map-append (λ (r : N × Judged N B E R). r.0) done (j ∷ [])) ∙ append_assoc (keys_of done) (q.0 ∷ []) (keys_of qs)

  module _ (exact : IsExact l) (store : List (N × K)) (m : N) where
    at_it : (n : N) (o : Outcome N B E) (rest : List (N × K)) → l.same m n ≡ true → lookup (l.same m) (kept_at l n o ++ rest) ≡ kept_from l o (lookup (l.same m) rest)
    at_it n (Sound b) rest h = look_yes (l.same m) (n, l.keep b) rest h
    at_it n (Failed e) rest h = refl
    at_it n (Blocked p) rest h = refl

    past_it : (n : N) (o : Outcome N B E) (rest : List (N × K)) → l.same m n ≡ false → lookup (l.same m) (kept_at l n o ++ rest) ≡ lookup (l.same m) rest
    past_it n (Sound b) rest h = look_no (l.same m) (n, l.keep b) rest h
    past_it n (Failed e) rest h = refl
    past_it n (Blocked p) rest h = refl

    not_same : (n : N) → (m ≡ n → ⊥) → l.same m n ≡ false
    not_same n h = both_ways (l.same m n) (λ y. absurd (h (exact.tells m n y))) (λ y. y)

    nothing_new : (rs : List (N × Judged N B E R)) → AllByRecursion (λ y. m ≡ y → ⊥) (keys_of rs) → lookup (l.same m) (kept_of l rs ++ store) ≡ lookup (l.same m) store
    nothing_new [] h = refl
    nothing_new (r ∷ rs) h =
        ap (lookup (l.same m)) (append_assoc (kept_at l r.0 r.1.outcome) (kept_of l rs) store) ∙ past_it r.0 r.1.outcome (kept_of l rs ++ store) (not_same r.0 h.0) ∙ nothing_new rs h.1

    all_kept : (rs : List (N × Judged N B E R)) → AreApart (keys_of rs) → lookup (l.same m) (kept_of l rs ++ store) ≡ kept_or l (lookup (l.same m) rs) (lookup (l.same m) store)
    all_kept [] d = refl
    all_kept (r ∷ rs) d =
        let joined = ap (lookup (l.same m)) (append_assoc (kept_at l r.0 r.1.outcome) (kept_of l rs) store) in
        both_ways (l.same m r.0)
        (λ y.
        let others : AllByRecursion (λ y. m ≡ y → ⊥) (keys_of rs) = subst (λ n. AllByRecursion (λ y. n ≡ y → ⊥) (keys_of rs)) (sym (exact.tells m r.0 y)) d.0 in
        joined ∙ at_it r.0 r.1.outcome (kept_of l rs ++ store) y ∙ ap (kept_from l r.1.outcome) (nothing_new rs others) ∙ ap (λ o. kept_or l o (lookup (l.same m) store)) (sym (look_yes (l.same m) r rs y)))
        (λ y. joined ∙ past_it r.0 r.1.outcome (kept_of l rs ++ store) y ∙ all_kept rs d.1 ∙ ap (λ o. kept_or l o (lookup (l.same m) store)) (sym (look_no (l.same m) r rs y)))

  pub store_after_build : StoreAfterBuild l
  store_after_build exact store t d m =
      let once : AreApart (keys_of (incremental l store t)) =
      subst AreApart (sym (keys_of_results (sorted l t) store (order l (sorted l t)) []))
      (apart_of (order l (sorted l t)) (distinct_shuffled l (order_is_whole l (sorted l t)) (distinct_shuffled l (sorting_shuffles l t.sources) d))) in
      all_kept exact store m (incremental l store t) once

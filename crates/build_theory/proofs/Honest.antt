-- Stores stay honest, and so builds after any history are clean.
use Rattle.std.proofs.Common.{◌≡◌, ◌⊎◌, List, [], ◌∷◌, ◌++◌, map, refl, ap, sym, ◌∙◌, subst, Some, None, inl, inr, append_assoc, append-nil}
use Rattle.std.specs.declared.option.Option.{Option}
use Rattle.std.specs.List.{AllByRecursion}
use Rattle.std.specs.Map.{lookup}
use Rattle.std.proofs.lemmas.List.{map-append}
use Rattle.build_theory.specs.Build.{Tree, Language, Outcome, Sound, Failed, Blocked, Judged, outcomes, sorted, order, clean, clean_step, clean_results, incremental, kept_at, kept_of, store_after, history_store}
use Rattle.build_theory.specs.Laws.{IsIn, IsExact, AreDistinct, AllDistinct, LawOfReading, IsHonest, WasKept, IsRefused, StoresStayHonest, HistoriesAreClean}
use Rattle.build_theory.proofs.Lists.{both_ways, look_yes, look_no, lookup_in, found_front, not_in_front, all_at}
use Rattle.build_theory.proofs.Files.{sorting_shuffles, distinct_shuffled}
use Rattle.build_theory.proofs.Whole.{order_is_whole}
use Rattle.build_theory.proofs.Stores.{change_nothing}

-- no element stands twice
abbrev AreApart : {X : Type 0} → List X → Type 0
AreApart [] = Unit {0}
AreApart (x ∷ xs) = AllByRecursion (λ y. x ≡ y → ⊥) xs × AreApart xs

abbrev keys_of : {N X : Type 0} → List (N × X) → List N
keys_of es = map (λ e. e.0) es

in_keys : {N X : Type 0} (es : List (N × X)) (e : N × X) → IsIn e es → IsIn e.0 (keys_of es)
in_keys [] e i = absurd i
in_keys {N = N} {X = X} (d ∷ es) e i = elim i [ inl h ↦ inl (ap (λ (e : N × X). e.0) h) | inr j ↦ inr (in_keys es e j) ]

module _ {G N S B K E R : Type 0} (l : Language G N S B K E R) where
  all_keys : (n : N) (fs : List (N × S)) → AllByRecursion (λ g. n ≡ g.0 → ⊥) fs → AllByRecursion (λ y. n ≡ y → ⊥) (keys_of fs)
  all_keys n [] h = h
  all_keys n (f ∷ fs) h = (h.0, all_keys n fs h.1)

  apart_of : (fs : List (N × S)) → AreDistinct l fs → AreApart (keys_of fs)
  apart_of [] d = tt
  apart_of (f ∷ fs) d = (all_keys f.0 fs d.0, apart_of fs d.1)

  keys_of_clean : (t : Tree G N S) (qs : List (N × S)) (done : List (N × Outcome N B E)) → keys_of (clean_results l t done qs) ≡ keys_of done ++ keys_of qs
  keys_of_clean t [] done = sym (append-nil (keys_of done))
  keys_of_clean t (q ∷ qs) done =
      let j : N × Outcome N B E = (q.0, clean_step l t done q) in
      keys_of_clean t qs (done ++ j ∷ []) ∙ ap (λ ks. ks ++ keys_of qs) (map-append (λ (r : N × Outcome N B E). r.0) done (j ∷ [])) ∙ append_assoc (keys_of done) (q.0 ∷ []) (keys_of qs)

  -- a node stands once in a clean build
  clean_apart : (t : Tree G N S) → AreDistinct l t.sources → AreApart (keys_of (clean l t))
  clean_apart t d =
      subst AreApart (sym (keys_of_clean (sorted l t) (order l (sorted l t)) []))
      (apart_of (order l (sorted l t)) (distinct_shuffled l (order_is_whole l (sorted l t)) (distinct_shuffled l (sorting_shuffles l t.sources) d)))

  module _ (exact : IsExact l) (m : N) (k : K) where
    -- what was kept at m is of a sound interface
    abbrev IsFoundIn : List (N × Outcome N B E) → Type 0
    IsFoundIn outs = (b : B) × (lookup (l.same m) outs ≡ Some (Sound b)) × (k ≡ l.keep b)

    behind_it : (n : N) (o : Outcome N B E) (outs : List (N × Outcome N B E)) → AllByRecursion (λ y. n ≡ y → ⊥) (keys_of outs) → IsFoundIn outs → IsFoundIn ((n, o) ∷ outs)
    behind_it n o outs d h =
        both_ways (l.same m n)
        (λ y.
        let found = lookup_in (l.same m) outs (Sound h.0) h.1 in
        let e : n ≡ found.0.0 = sym (exact.tells m n y) ∙ exact.tells m found.0.0 found.2 in
        absurd (all_at (λ y. n ≡ y → ⊥) (keys_of outs) found.0.0 (in_keys outs found.0 found.1) d e))
        (λ y. (h.0, look_no (l.same m) (n, o) outs y ∙ h.1, h.2))

    at_one : (n : N) (o : Outcome N B E) (rest : List (N × K)) (outs : List (N × Outcome N B E)) → AllByRecursion (λ y. n ≡ y → ⊥) (keys_of outs)
        → (lookup (l.same m) rest ≡ Some k → IsFoundIn outs) → lookup (l.same m) (kept_at l n o ++ rest) ≡ Some k → IsFoundIn ((n, o) ∷ outs)
    at_one n (Sound b) rest outs d h e =
        both_ways (l.same m n)
        (λ y.
        let f : Some (l.keep b) ≡ Some k = sym (look_yes (l.same m) (n, l.keep b) rest y) ∙ e in
        (b, look_yes (l.same m) (n, Sound b) outs y, (let g : k ≡ l.keep b = cc in g)))
        (λ y. behind_it n (Sound b) outs d (h (sym (look_no (l.same m) (n, l.keep b) rest y) ∙ e)))
    at_one n (Failed x) rest outs d h e = behind_it n (Failed x) outs d (h e)
    at_one n (Blocked x) rest outs d h e = behind_it n (Blocked x) outs d (h e)

    kept_found : (rs : List (N × Judged N B E R)) → AreApart (keys_of (outcomes rs)) → lookup (l.same m) (kept_of l rs) ≡ Some k → IsFoundIn (outcomes rs)
    kept_found [] d e = absurd (let h : ⊥ = cc in h)
    kept_found (r ∷ rs) d e = at_one r.0 r.1.outcome (kept_of l rs) (outcomes rs) d.0 (λ f. kept_found rs d.1 f) e

  module _ (exact : IsExact l) (trees : List (Tree G N S)) (apart : AllDistinct l trees) (law : LawOfReading l trees) where
    from_either : (store : List (N × K)) (t : Tree G N S) → IsIn t trees → IsHonest l trees store → (m : N) (k : K) (rs : List (N × Judged N B E R)) → outcomes rs ≡ clean l t → (o : Option K) → lookup (l.same m) (kept_of l rs) ≡ o
        → lookup (l.same m) (kept_of l rs ++ store) ≡ Some k → WasKept l trees m k ⊎ IsRefused l trees m k
    from_either store t i honest m k rs same None f e = honest m k (sym (not_in_front (l.same m) (kept_of l rs) store f) ∙ e)
    from_either store t i honest m k rs same (Some j) f e =
        let g : Some j ≡ Some k = sym (found_front (l.same m) (kept_of l rs) store j f) ∙ e in
        let once : AreApart (keys_of (outcomes rs)) =
        subst (λ o. AreApart (keys_of o)) (sym same) (clean_apart t (all_at (λ (t : Tree G N S). AreDistinct l t.sources) trees t i apart)) in
        let found = kept_found exact m k rs once (f ∙ g) in
        inl (record { tree = t; among = i; interface = found.0; sound = ap (lookup (l.same m)) (sym same) ∙ found.1; kept = found.2 })

    one_honest : (store : List (N × K)) (t : Tree G N S) → IsIn t trees → IsHonest l trees store → IsHonest l trees (store_after l store t)
    one_honest store t i honest m k e =
        from_either store t i honest m k (incremental l store t) (change_nothing l trees law store t i honest) (lookup (l.same m) (kept_of l (incremental l store t))) refl e

    stays_honest : (ts : List (Tree G N S)) (store : List (N × K)) → AllByRecursion (λ t. IsIn t trees) ts → IsHonest l trees store → IsHonest l trees (history_store l store ts)
    stays_honest [] store i honest = honest
    stays_honest (t ∷ ts) store i honest = stays_honest ts (store_after l store t) i.1 (one_honest store t i.0 honest)

    empty_honest : IsHonest l trees []
    empty_honest m k e = absurd (let h : ⊥ = cc in h)

  pub stay_honest : StoresStayHonest l
  stay_honest o exact trees apart law store ts i honest = stays_honest exact trees apart law ts store i honest

  pub histories_clean : HistoriesAreClean l
  histories_clean o exact trees apart law ts t i j =
      change_nothing l trees law (history_store l [] ts) t j (stays_honest exact trees apart law ts [] i (empty_honest exact trees apart law))

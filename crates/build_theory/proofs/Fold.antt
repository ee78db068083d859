-- What the builds' folds keep: the results of a front stay, and each node has its step's result.
use Rattle.std.proofs.Common.{◌≡◌, Bool, true, false, List, [], ◌∷◌, ◌++◌, refl, ap, sym, ◌∙◌, Some, None}
use Rattle.std.specs.declared.option.Option.{Option}
use Rattle.std.specs.Option.{option_map_or}
use Rattle.std.specs.List.{list_any, AllByRecursion}
use Rattle.std.specs.Map.{lookup}
use Rattle.build_theory.specs.Build.{Tree, Language, Outcome, Judged, outcomes, is_sound, clean_step, clean_results, step, results}
use Rattle.build_theory.proofs.Lists.{both_ways, differ, or_false, look_yes, look_no, found_front, not_in_front}

module _ {N B E R : Type 0} where
  pub lookup_outcomes : (test : N → Bool) (rs : List (N × Judged N B E R)) (j : Judged N B E R) → lookup test rs ≡ Some j → lookup test (outcomes rs) ≡ Some j.outcome
  lookup_outcomes test [] j e = absurd (let h : ⊥ = cc in h)
  lookup_outcomes test (r ∷ rs) j e =
      both_ways (test r.0)
      (λ y. let k : Some r.1 ≡ Some j = sym (look_yes test r rs y) ∙ e in let i : r.1 ≡ j = cc in look_yes test (r.0, r.1.outcome) (outcomes rs) y ∙ ap (λ (x : Judged N B E R). Some x.outcome) i)
      (λ y. look_no test (r.0, r.1.outcome) (outcomes rs) y ∙ lookup_outcomes test rs j (sym (look_no test r rs y) ∙ e))

  pub none_judged : (test : N → Bool) (rs : List (N × Judged N B E R)) → lookup test rs ≡ None → lookup test (outcomes rs) ≡ None
  none_judged test [] e = refl
  none_judged test (r ∷ rs) e =
      both_ways (test r.0)
      (λ y. let k : Some r.1 ≡ None = sym (look_yes test r rs y) ∙ e in cc)
      (λ y. look_no test (r.0, r.1.outcome) (outcomes rs) y ∙ none_judged test rs (sym (look_no test r rs y) ∙ e))

  pub judged_found : (test : N → Bool) (rs : List (N × Judged N B E R)) → option_map_or is_sound (lookup test (outcomes rs)) false ≡ true → (j : Judged N B E R) × (lookup test rs ≡ Some j)
  judged_found test [] e = absurd (differ (sym e))
  judged_found test (r ∷ rs) e =
      both_ways (test r.0)
      (λ y. (r.1, look_yes test r rs y))
      (λ y.
      let s = judged_found test rs (ap (λ o. option_map_or is_sound o false) (sym (look_no test (r.0, r.1.outcome) (outcomes rs) y)) ∙ e) in
      (s.0, look_no test r rs y ∙ s.1))

module _ {G N S B K E R : Type 0} (l : Language G N S B K E R) (t : Tree G N S) where
  pub clean_app : (done : List (N × Outcome N B E)) (xs ys : List (N × S)) → clean_results l t done (xs ++ ys) ≡ clean_results l t (clean_results l t done xs) ys
  clean_app done [] ys = refl
  clean_app done (q ∷ xs) ys = clean_app (done ++ (q.0, clean_step l t done q) ∷ []) xs ys

module _ {G N S B K E R : Type 0} (l : Language G N S B K E R) (t : Tree G N S) (store : List (N × K)) where
  pub results_app : (done : List (N × Judged N B E R)) (xs ys : List (N × S)) → results l t store done (xs ++ ys) ≡ results l t store (results l t store done xs) ys
  results_app done [] ys = refl
  results_app done (q ∷ xs) ys = results_app (done ++ (q.0, step l t store (outcomes done) q) ∷ []) xs ys

  pub results_keep : (qs : List (N × S)) (done : List (N × Judged N B E R)) (k : N) (r : Judged N B E R) → lookup (l.same k) done ≡ Some r → lookup (l.same k) (results l t store done qs) ≡ Some r
  results_keep [] done k r e = e
  results_keep (q ∷ qs) done k r e =
      let j : N × Judged N B E R = (q.0, step l t store (outcomes done) q) in
      results_keep qs (done ++ j ∷ []) k r (found_front (l.same k) done (j ∷ []) r e)

  pub results_none : (qs : List (N × S)) (done : List (N × Judged N B E R)) (k : N) → lookup (l.same k) done ≡ None → AllByRecursion (λ p. l.same k p.0 ≡ false) qs → lookup (l.same k) (results l t store done qs) ≡ None
  results_none [] done k e h = e
  results_none (q ∷ qs) done k e h =
      let j : N × Judged N B E R = (q.0, step l t store (outcomes done) q) in
      results_none qs (done ++ j ∷ []) k (not_in_front (l.same k) done (j ∷ []) e ∙ look_no (l.same k) j [] h.0) h.1

  pub results_some : (qs : List (N × S)) (done : List (N × Judged N B E R)) (n : N) → list_any (λ p. l.same n p.0) qs ≡ true → (r : Judged N B E R) × (lookup (l.same n) (results l t store done qs) ≡ Some r)
  results_some [] done n h = absurd (differ (sym h))
  results_some (q ∷ qs) done n h =
      let j : N × Judged N B E R = (q.0, step l t store (outcomes done) q) in
      both_ways (l.same n q.0)
      (λ y.
      let by : (o : Option (Judged N B E R)) → lookup (l.same n) done ≡ o → (r : Judged N B E R) × (lookup (l.same n) (done ++ j ∷ []) ≡ Some r) =
      λ o. elim o as (λ o. lookup (l.same n) done ≡ o → (r : Judged N B E R) × (lookup (l.same n) (done ++ j ∷ []) ≡ Some r)) [
        | None ↦ λ e. (j.1, not_in_front (l.same n) done (j ∷ []) e ∙ look_yes (l.same n) j [] y)
        | Some x ↦ λ e. (x, found_front (l.same n) done (j ∷ []) x e)
      ] in
      let s = by (lookup (l.same n) done) refl in
      (s.0, results_keep qs (done ++ j ∷ []) n s.0 s.1))
      (λ y. results_some qs (done ++ j ∷ []) n (or_false (l.same n q.0) (list_any (λ p. l.same n p.0) qs) y h))

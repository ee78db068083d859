-- What is kept changes nothing.
use Rattle.std.proofs.Common.{◌≡◌, ◌⊎◌, List, [], ◌∷◌, ◌++◌, refl, ap, sym, ◌∙◌, subst, Some, None, Ok, Err, inl, inr, append_assoc}
use Rattle.std.specs.Prelude.{Result}
use Rattle.std.specs.declared.option.Option.{Option}
use Rattle.std.specs.Map.{lookup}
use Rattle.std.specs.Option.{option_map_or}
use Rattle.std.proofs.lemmas.List.{map-append}
use Rattle.build_theory.specs.Build.{Tree, Language, Outcome, Failed, Blocked, Judged, Graph, Behind, outcomes, of_check, sorted, order, first_bad, environment, clean, clean_step, clean_results, reused, decided, checked, step, results, incremental}
use Rattle.build_theory.specs.Laws.{IsIn, LawOfReading, WasKept, IsRefused, IsUnblocked, StoresChangeNothing, EmptyStoreIsClean}
use Rattle.build_theory.proofs.Fold.{clean_app}

module _ {N B E R : Type 0} where
  -- a step and a clean step that differ in what they do of an unblocked node alone
  by_stage : (x : Option E) (y : Option N) (r : Judged N B E R) (c : Outcome N B E) → (x ≡ None → y ≡ None → r.outcome ≡ c)
      → (option_map_or (λ e. record { how = Graph; outcome = Failed e }) x (option_map_or (λ n. record { how = Behind n; outcome = Blocked n }) y r)).outcome ≡ option_map_or Failed x (option_map_or Blocked y c)
  by_stage (Some e) y r c h = refl
  by_stage None (Some n) r c h = refl
  by_stage None None r c h = h refl refl

module _ {G N S B K E R : Type 0} (l : Language G N S B K E R) where
  -- at each place of the order the step has the clean step's outcome
  abbrev StepsAgree : Tree G N S → List (N × K) → Type 0
  StepsAgree t store = (before : List (N × S)) (q : N × S) (after : List (N × S)) → order l t ≡ before ++ q ∷ after
      → (step l t store (clean_results l t [] before) q).outcome ≡ clean_step l t (clean_results l t [] before) q

  -- where each step agrees, the builds do
  agree : (t : Tree G N S) (store : List (N × K)) → StepsAgree t store
      → (qs before : List (N × S)) (done : List (N × Judged N B E R)) → order l t ≡ before ++ qs → outcomes done ≡ clean_results l t [] before → outcomes (results l t store done qs) ≡ clean_results l t (outcomes done) qs
  agree t store h [] before done e d = refl
  agree t store h (q ∷ qs) before done e d =
      let j : Judged N B E R = step l t store (outcomes done) q in
      let now : List (N × Judged N B E R) = done ++ (q.0, j) ∷ [] in
      let same : j.outcome ≡ clean_step l t (outcomes done) q = subst (λ o. (step l t store o q).outcome ≡ clean_step l t o q) (sym d) (h before q qs e) in
      let told : outcomes now ≡ outcomes done ++ (q.0, clean_step l t (outcomes done) q) ∷ [] =
      map-append (λ (r : N × Judged N B E R). (r.0, r.1.outcome)) done ((q.0, j) ∷ []) ∙ ap (λ o. outcomes done ++ (q.0, o) ∷ []) same in
      let whole : order l t ≡ (before ++ q ∷ []) ++ qs = e ∙ sym (append_assoc before (q ∷ []) qs) in
      let kept : outcomes now ≡ clean_results l t [] (before ++ q ∷ []) =
      told ∙ ap (λ o. o ++ (q.0, clean_step l t o q) ∷ []) d ∙ sym (clean_app l t [] before (q ∷ [])) in
      agree t store h qs (before ++ q ∷ []) now whole kept ∙ ap (λ o. clean_results l t o qs) told

  builds_agree : (t : Tree G N S) (store : List (N × K)) → StepsAgree (sorted l t) store → outcomes (incremental l store t) ≡ clean l t
  builds_agree t store h = agree (sorted l t) store h (order l (sorted l t)) [] [] refl refl

  pub empty_is_clean : EmptyStoreIsClean l
  empty_is_clean t =
      builds_agree t [] (λ before q after e.
      let done = clean_results l (sorted l t) [] before in
      let env = environment l (sorted l t) q.0 done (sorted l t).sources in
      by_stage (l.errors (sorted l t) q.0 q.1) (first_bad l (sorted l t) q.0 done (order l (sorted l t))) (checked l (sorted l t) q env l.missing) (of_check (l.check (sorted l t) q.0 q.1 env)) (λ x y. refl))

  module _ (trees : List (Tree G N S)) (law : LawOfReading l trees) (t : Tree G N S) (i : IsIn t trees) (q : N × S) (env : List (N × B)) (free : IsUnblocked l t q env) where
    by_decision : (k : K) (d : Result B R) → l.decide (sorted l t) q.0 q.1 k env ≡ d → WasKept l trees q.0 k ⊎ IsRefused l trees q.0 k → (decided l (sorted l t) q env d).outcome ≡ of_check (l.check (sorted l t) q.0 q.1 env)
    by_decision k (Ok b) e h = elim h [
      | inl kept ↦ sym (ap of_check (law t i q env free k b kept e))
      | inr refused ↦ absurd (refused t q.1 env b i e)
    ]
    by_decision k (Err r) e h = refl

    by_store : (k : Option K) → ((j : K) → k ≡ Some j → WasKept l trees q.0 j ⊎ IsRefused l trees q.0 j) → (reused l (sorted l t) q env k).outcome ≡ of_check (l.check (sorted l t) q.0 q.1 env)
    by_store None h = refl
    by_store (Some k) h = by_decision k (l.decide (sorted l t) q.0 q.1 k env) refl (h k refl)

  pub change_nothing : StoresChangeNothing l
  change_nothing trees law store t i honest =
      builds_agree t store (λ before q after e.
      let done = clean_results l (sorted l t) [] before in
      let env = environment l (sorted l t) q.0 done (sorted l t).sources in
      by_stage (l.errors (sorted l t) q.0 q.1) (first_bad l (sorted l t) q.0 done (order l (sorted l t))) (reused l (sorted l t) q env (lookup (l.same q.0) store)) (of_check (l.check (sorted l t) q.0 q.1 env)) (λ x y.
      by_store trees law t i q env (record { before = before; after = after; whole = e; no_errors = x; no_bad = y; env_is = refl }) (lookup (l.same q.0) store) (λ j f. honest q.0 j f)))

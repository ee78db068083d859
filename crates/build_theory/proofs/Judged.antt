-- How a node came to its result.
use Rattle.std.proofs.Common.{◌≡◌, ◌⊎◌, Bool, true, false, not, ◌&&◌, List, [], ◌∷◌, ◌++◌, refl, ap, sym, ◌∙◌, subst, cond, Some, None, Ok, Err, inl, inr, append_assoc, append-nil}
use Rattle.std.specs.Prelude.{Result}
use Rattle.std.specs.declared.option.Option.{Option}
use Rattle.std.specs.Map.{lookup}
use Rattle.std.specs.Option.{option_map_or}
use Rattle.std.specs.List.{AllByRecursion}
use Rattle.build_theory.specs.Build.{Tree, Language, Outcome, Sound, Failed, Blocked, Judged, Current, Checked, Graph, Behind, outcomes, is_sound, of_check, sorted, order, is_need, is_sound_in, interface_in, first_bad, environment, clean, clean_step, clean_results, decided, reused, step, results, incremental, kept_of, store_after, history_store}
use Rattle.build_theory.specs.Laws.{IsIn}
use Rattle.build_theory.specs.Judging.{WasChecked, SoundWasChecked, EnvironmentIsWhole, StoresByLookup, WasJudged, ResultsAreSteps, env_of, CurrentIsKept, CheckedHasReason}
use Rattle.build_theory.proofs.Lists.{both_ways, differ, all_at, lookup_in, in_shuffled, found_front, not_in_front}
use Rattle.build_theory.proofs.Whole.{order_is_whole}
use Rattle.build_theory.proofs.Fold.{clean_app}

all_add : {X : Type 0} (P : X → Type 0) (xs : List X) (x : X) → AllByRecursion P xs → P x → AllByRecursion P (xs ++ x ∷ [])
all_add P [] x h p = (p, tt)
all_add P (y ∷ xs) x h p = (h.0, all_add P xs x h.1 p)

sound_if : (b c : Bool) → b ≡ true → (b && not c) ≡ false → c ≡ true
sound_if true true e h = refl
sound_if true false e h = absurd (differ h)
sound_if false c e h = absurd (differ (sym e))

abbrev with_one : {N J : Type 0} → List (N × J) → N → J → List (N × J)
with_one done n j = done ++ (n, j) ∷ []

abbrev after_stages : {N B E R : Type 0} → Option E → Option N → Judged N B E R → Judged N B E R
after_stages x y r = option_map_or (λ e. record { how = Graph; outcome = Failed e }) x (option_map_or (λ n. record { how = Behind n; outcome = Blocked n }) y r)

module _ {N B E : Type 0} where
  from_check : (r : Result B E) (b : B) → of_check {N = N} r ≡ Sound b → r ≡ Ok b
  from_check (Ok c) b e = let k : c ≡ b = cc in ap (λ x. Ok x) k
  from_check (Err c) b e = absurd (let h : ⊥ = cc in h)

  stages_passed : (x : Option E) (y : Option N) (r : Result B E) (b : B) → option_map_or Failed x (option_map_or Blocked y (of_check r)) ≡ Sound b → (x ≡ None) × (y ≡ None) × (r ≡ Ok b)
  stages_passed (Some e) y r b h = absurd (let k : ⊥ = cc in k)
  stages_passed None (Some n) r b h = absurd (let k : ⊥ = cc in k)
  stages_passed None None r b h = (refl, refl, from_check r b h)

module _ {G N S B K E R : Type 0} (l : Language G N S B K E R) (t : Tree G N S) where
  abbrev IsChecked : N × Outcome N B E → Type 0
  IsChecked r = (b : B) → r.1 ≡ Sound b → WasChecked l t r.0 b

  all_checked : (qs before : List (N × S)) (done : List (N × Outcome N B E)) → order l (sorted l t) ≡ before ++ qs → done ≡ clean_results l (sorted l t) [] before → AllByRecursion IsChecked done
      → AllByRecursion IsChecked (clean_results l (sorted l t) done qs)
  all_checked [] before done whole is h = h
  all_checked (q ∷ qs) before done whole is h =
      let so_far = clean_results l (sorted l t) [] before in
      let now : List (N × Outcome N B E) = done ++ (q.0, clean_step l (sorted l t) done q) ∷ [] in
      let told : now ≡ clean_results l (sorted l t) [] (before ++ q ∷ []) =
      ap (λ o. o ++ (q.0, clean_step l (sorted l t) o q) ∷ []) is ∙ sym (clean_app l (sorted l t) [] before (q ∷ [])) in
      all_checked qs (before ++ q ∷ []) now (whole ∙ sym (append_assoc before (q ∷ []) qs)) told
      (all_add IsChecked done (q.0, clean_step l (sorted l t) done q) h (λ b e.
      let env = environment l (sorted l t) q.0 so_far (sorted l t).sources in
      let p =
      stages_passed (l.errors (sorted l t) q.0 q.1) (first_bad l (sorted l t) q.0 so_far (order l (sorted l t))) (l.check (sorted l t) q.0 q.1 env) b
      (ap (λ o. clean_step l (sorted l t) o q) (sym is) ∙ e) in
      record { source = q.1; env = env; free = record { before = before; after = qs; whole = whole; no_errors = p.0; no_bad = p.1; env_is = refl }; made = p.2 }))

pub sound_was_checked : {G N S B K E R : Type 0} (l : Language G N S B K E R) → SoundWasChecked l
sound_was_checked l exact t m b e =
    let f = lookup_in (l.same m) (clean l t) (Sound b) e in
    subst (λ n. WasChecked l t n b) (sym (exact.tells m f.0.0 f.2)) (all_at (IsChecked l t) (clean l t) f.0 f.1 (all_checked l t (order l (sorted l t)) [] [] refl refl tt) b f.3)

module _ {G N S B K E R : Type 0} (l : Language G N S B K E R) where
  pub none_bad : (t : Tree G N S) (m : N) (done : List (N × Outcome N B E)) (qs : List (N × S)) → first_bad l t m done qs ≡ None → (q : N × S) → IsIn q qs → is_need l t m q.0 ≡ true → is_sound_in l done q.0 ≡ true
  none_bad t m done [] e q i need = absurd i
  none_bad t m done (p ∷ qs) e q i need =
      both_ways (is_need l t m p.0 && not (is_sound_in l done p.0))
      (λ y.
      let f : first_bad l t m done (p ∷ qs) ≡ Some p.0 = rw y refl in
      let g : Some p.0 ≡ None = sym f ∙ e in
      absurd (let k : ⊥ = cc in k))
      (λ y.
      let f : first_bad l t m done (p ∷ qs) ≡ first_bad l t m done qs = rw y refl in
      elim i [
        | inl h ↦ sound_if (is_need l t m q.0) (is_sound_in l done q.0) need (ap (λ (z : N × S). is_need l t m z.0 && not (is_sound_in l done z.0)) h ∙ y)
        | inr j ↦ none_bad t m done qs (sym f ∙ e) q j need
      ])

  same_there : (m : N) (done more : List (N × Outcome N B E)) (o : Option (Outcome N B E)) → lookup (l.same m) done ≡ o → option_map_or is_sound o false ≡ true → lookup (l.same m) (done ++ more) ≡ lookup (l.same m) done
  same_there m done more (Some x) e h = found_front (l.same m) done more x e ∙ sym e
  same_there m done more None e h = absurd (differ (sym h))

  whole_at : (t : Tree G N S) (m : N) (done more : List (N × Outcome N B E)) (qs : List (N × S)) → ((q : N × S) → IsIn q qs → is_need l t m q.0 ≡ true → is_sound_in l done q.0 ≡ true)
      → environment l t m done qs ≡ environment l t m (done ++ more) qs
  whole_at t m done more [] h = refl
  whole_at t m done more (q ∷ qs) h =
      let rest = whole_at t m done more qs (λ p i. h p (inr i)) in
      let one : cond (is_need l t m q.0) (interface_in l q.0 (lookup (l.same q.0) done)) [] ≡ cond (is_need l t m q.0) (interface_in l q.0 (lookup (l.same q.0) (done ++ more))) [] =
      both_ways (is_need l t m q.0)
      (λ y. ap (λ o. cond (is_need l t m q.0) (interface_in l q.0 o) []) (sym (same_there q.0 done more (lookup (l.same q.0) done) refl (h q (inl refl) y))))
      (λ y. rw y refl) in
      ap (λ es. es ++ environment l t m done qs) one ∙ ap (λ es. cond (is_need l t m q.0) (interface_in l q.0 (lookup (l.same q.0) (done ++ more))) [] ++ es) rest

  grown : (t : Tree G N S) (qs : List (N × S)) (done : List (N × Outcome N B E)) → (more : List (N × Outcome N B E)) × (clean_results l t done qs ≡ done ++ more)
  grown t [] done = ([], sym (append-nil done))
  grown t (q ∷ qs) done =
      let j : N × Outcome N B E = (q.0, clean_step l t done q) in
      let g = grown t qs (done ++ j ∷ []) in
      (j ∷ g.0, g.1 ∙ append_assoc done (j ∷ []) g.0)

  pub environment_whole : EnvironmentIsWhole l
  environment_whole exact t q env free =
      let s = sorted l t in
      let done = clean_results l s [] free.before in
      let g = grown s (q ∷ free.after) done in
      let all : clean l t ≡ done ++ g.0 = ap (clean_results l s []) free.whole ∙ clean_app l s [] free.before (q ∷ free.after) ∙ g.1 in
      free.env_is ∙ whole_at s q.0 done g.0 s.sources (λ p i need. none_bad s q.0 done (order l s) free.no_bad p (in_shuffled p (order_is_whole l s) i) need)
      ∙ ap (λ o. environment l s q.0 o s.sources) (sym all)

  -- stores by their look-ups
  same_steps : (t : Tree G N S) (store others : List (N × K)) → ((m : N) → lookup (l.same m) store ≡ lookup (l.same m) others) → (qs : List (N × S)) (done : List (N × Judged N B E R)) → results l t store done qs ≡ results l t others done qs
  same_steps t store others h [] done = refl
  same_steps t store others h (q ∷ qs) done =
      let o = outcomes done in
      let one : step l t store o q ≡ step l t others o q =
      ap (λ k. option_map_or (λ e. record { how = Graph; outcome = Failed e }) (l.errors t q.0 q.1)
      (option_map_or (λ n. record { how = Behind n; outcome = Blocked n }) (first_bad l t q.0 o (order l t)) (reused l t q (environment l t q.0 o t.sources) k))) (h q.0) in
      ap (λ j. results l t store (with_one done q.0 j) qs) one ∙ same_steps t store others h qs (done ++ (q.0, step l t others o q) ∷ [])

  same_behind : (m : N) (front store others : List (N × K)) → lookup (l.same m) store ≡ lookup (l.same m) others → (o : Option K) → lookup (l.same m) front ≡ o → lookup (l.same m) (front ++ store) ≡ lookup (l.same m) (front ++ others)
  same_behind m front store others h (Some k) e = found_front (l.same m) front store k e ∙ sym (found_front (l.same m) front others k e)
  same_behind m front store others h None e = not_in_front (l.same m) front store e ∙ h ∙ sym (not_in_front (l.same m) front others e)

  same_histories : (ts : List (Tree G N S)) (store others : List (N × K)) → ((m : N) → lookup (l.same m) store ≡ lookup (l.same m) others) → (m : N) → lookup (l.same m) (history_store l store ts) ≡ lookup (l.same m) (history_store l others ts)
  same_histories [] store others h m = h m
  same_histories (t ∷ ts) store others h m =
      let same : incremental l store t ≡ incremental l others t = same_steps (sorted l t) store others h (order l (sorted l t)) [] in
      same_histories ts (store_after l store t) (store_after l others t)
      (λ n. ap (λ rs. lookup (l.same n) (kept_of l rs ++ store)) same ∙ same_behind n (kept_of l (incremental l others t)) store others (h n) (lookup (l.same n) (kept_of l (incremental l others t))) refl) m

  pub stores_by_lookup : StoresByLookup l
  stores_by_lookup store others h = (λ t. same_steps (sorted l t) store others h (order l (sorted l t)) [], λ ts m. same_histories ts store others h m)

  -- results are steps
  results_app_at : (t : Tree G N S) (store : List (N × K)) (done : List (N × Judged N B E R)) (xs ys : List (N × S)) → results l t store done (xs ++ ys) ≡ results l t store (results l t store done xs) ys
  results_app_at t store done [] ys = refl
  results_app_at t store done (q ∷ xs) ys = results_app_at t store (done ++ (q.0, step l t store (outcomes done) q) ∷ []) xs ys

  module _ (store : List (N × K)) (t : Tree G N S) where
    abbrev IsStep : N × Judged N B E R → Type 0
    IsStep r = WasJudged l store t r.0 r.1

    all_steps : (qs before : List (N × S)) (done : List (N × Judged N B E R)) → order l (sorted l t) ≡ before ++ qs → done ≡ results l (sorted l t) store [] before → AllByRecursion IsStep done
        → AllByRecursion IsStep (results l (sorted l t) store done qs)
    all_steps [] before done whole is h = h
    all_steps (q ∷ qs) before done whole is h =
        let now : List (N × Judged N B E R) = done ++ (q.0, step l (sorted l t) store (outcomes done) q) ∷ [] in
        let told : now ≡ results l (sorted l t) store [] (before ++ q ∷ []) =
        ap (λ o. o ++ (q.0, step l (sorted l t) store (outcomes o) q) ∷ []) is ∙ sym (results_app_at (sorted l t) store [] before (q ∷ [])) in
        all_steps qs (before ++ q ∷ []) now (whole ∙ sym (append_assoc before (q ∷ []) qs)) told
        (all_add IsStep done (q.0, step l (sorted l t) store (outcomes done) q) h
        (record { source = q.1; before = before; after = qs; whole = whole; judged = ap (λ o. step l (sorted l t) store (outcomes o) q) is }))

  pub results_are_steps : ResultsAreSteps l
  results_are_steps exact store t m j e =
      let f = lookup_in (l.same m) (incremental l store t) j e in
      let at = all_at (IsStep store t) (incremental l store t) f.0 f.1 (all_steps store t (order l (sorted l t)) [] [] refl refl tt) in
      subst (λ j. WasJudged l store t m j) f.3 (subst (λ n. WasJudged l store t n f.0.1) (sym (exact.tells m f.0.0 f.2)) at)

  module _ (t : Tree G N S) (q : N × S) (env : List (N × B)) where
    abbrev IsOld : Option K → Judged N B E R → Type 0
    IsOld kept j = (k : K) × (b : B) × (kept ≡ Some k) × (l.decide t q.0 q.1 k env ≡ Ok b) × (j.outcome ≡ Sound b)

    abbrev IsNew : Option K → R → Judged N B E R → Type 0
    IsNew kept r j = (j.outcome ≡ of_check (l.check t q.0 q.1 env)) × (((kept ≡ None) × (r ≡ l.missing)) ⊎ ((k : K) × (kept ≡ Some k) × (l.decide t q.0 q.1 k env ≡ Err r)))

    decided_old : (k : K) (d : Result B R) → l.decide t q.0 q.1 k env ≡ d → (decided l t q env d).how ≡ Current → IsOld (Some k) (decided l t q env d)
    decided_old k (Ok b) e h = (k, b, refl, e, refl)
    decided_old k (Err r) e h = absurd (let x : ⊥ = cc in x)

    reused_old : (kept : Option K) → (reused l t q env kept).how ≡ Current → IsOld kept (reused l t q env kept)
    reused_old None h = absurd (let x : ⊥ = cc in x)
    reused_old (Some k) h = decided_old k (l.decide t q.0 q.1 k env) refl h

    decided_new : (k : K) (d : Result B R) → l.decide t q.0 q.1 k env ≡ d → (r : R) → (decided l t q env d).how ≡ Checked r → IsNew (Some k) r (decided l t q env d)
    decided_new k (Ok b) e r h = absurd (let x : ⊥ = cc in x)
    decided_new k (Err s) e r h = let is : s ≡ r = cc in (refl, inr (k, refl, e ∙ ap (λ r. Err r) is))

    reused_new : (kept : Option K) (r : R) → (reused l t q env kept).how ≡ Checked r → IsNew kept r (reused l t q env kept)
    reused_new None r h = let is : l.missing ≡ r = cc in (refl, inl (refl, sym is))
    reused_new (Some k) r h = decided_new k (l.decide t q.0 q.1 k env) refl r h

    staged_old : (x : Option E) (y : Option N) (kept : Option K) → (after_stages x y (reused l t q env kept)).how ≡ Current → IsOld kept (after_stages x y (reused l t q env kept))
    staged_old (Some e) y kept h = absurd (let x : ⊥ = cc in x)
    staged_old None (Some n) kept h = absurd (let x : ⊥ = cc in x)
    staged_old None None kept h = reused_old kept h

    staged_new : (x : Option E) (y : Option N) (kept : Option K) (r : R) → (after_stages x y (reused l t q env kept)).how ≡ Checked r → IsNew kept r (after_stages x y (reused l t q env kept))
    staged_new (Some e) y kept r h = absurd (let x : ⊥ = cc in x)
    staged_new None (Some n) kept r h = absurd (let x : ⊥ = cc in x)
    staged_new None None kept r h = reused_new kept r h

  pub current_is_kept : CurrentIsKept l
  current_is_kept store t m j w how =
      let s = sorted l t in
      let o = outcomes (results l s store [] w.before) in
      subst (λ j. IsOld s (m, w.source) (env_of l w) (lookup (l.same m) store) j) (sym w.judged)
      (staged_old s (m, w.source) (env_of l w) (l.errors s m w.source) (first_bad l s m o (order l s)) (lookup (l.same m) store) (ap (λ (j : Judged N B E R). j.how) (sym w.judged) ∙ how))

  pub checked_has_reason : CheckedHasReason l
  checked_has_reason store t m j w r how =
      let s = sorted l t in
      let o = outcomes (results l s store [] w.before) in
      subst (λ j. IsNew s (m, w.source) (env_of l w) (lookup (l.same m) store) r j) (sym w.judged)
      (staged_new s (m, w.source) (env_of l w) (l.errors s m w.source) (first_bad l s m o (order l s)) (lookup (l.same m) store) r (ap (λ (j : Judged N B E R). j.how) (sym w.judged) ∙ how))

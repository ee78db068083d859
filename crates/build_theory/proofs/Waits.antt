-- What a sweep that is over leaves waiting.
use Rattle.std.proofs.Common.{◌≡◌, ◌⊎◌, ℕ, Bool, true, false, not, ◌||◌, List, [], ◌∷◌, ◌++◌, refl, ap, sym, ◌∙◌, subst, Some, None, Ok, Err, inl, inr, append_assoc, append-nil}
use Rattle.std.specs.Prelude.{Result}
use Rattle.std.specs.declared.option.Option.{Option}
use Rattle.std.specs.Option.{option_map_or}
use Rattle.std.specs.List.{list_all, AllByRecursion}
use Rattle.std.specs.Map.{lookup}
use Rattle.build_theory.specs.Build.{Tree, Language, Outcome, Failed, Blocked, Judged, Graph, Behind, outcomes, is_sound, of_check, sorted, order, is_need, is_sound_in, first_bad, environment, decided, reused, step, results}
use Rattle.build_theory.specs.Laws.{IsIn, IsExact, AreDistinct}
use Rattle.build_theory.specs.Machine.{Event, Claim, Finish, Refuse, State, opening, failed_at, failed_from, without, IsReady, IsWaiting, Step, Run, IsOver, IsBehindRefused, needs_refused, needs_behind, IsBlockedIn, WaitingAtTheEnd}
use Rattle.build_theory.proofs.Lists.{both_ways, differ, clash, any_in, any_of, all_holds, then_holds, and_both, all_at, in_back, split_at, in_either, in_shuffled, shuffled_back, look_yes, look_no}
use Rattle.build_theory.proofs.Files.{sorting_shuffles, distinct_shuffled}
use Rattle.build_theory.proofs.Whole.{order_is_whole}
use Rattle.build_theory.proofs.Fold.{lookup_outcomes, none_judged, judged_found, results_app, results_keep, results_none}
use Rattle.build_theory.proofs.Places.{built, none_bad, at_split, once_before}
use Rattle.build_theory.proofs.Behind.{fails_in, fails_both}
use Rattle.build_theory.proofs.Judged as told
use Rattle.build_theory.proofs.Made.{all_add}
use Rattle.build_theory.proofs.Sweep.{left_in, failed_found, IsOnCourse, opens, finished_right, still_ready, step_keeps}

by_option : {X : Type 0} {G : Type 0} (o : Option X) → (o ≡ None → G) → ((x : X) → o ≡ Some x → G) → G
by_option None f g = f refl
by_option (Some x) f g = g x refl

no_value : {X : Type 0} (o : Option X) → ((x : X) → o ≡ Some x → ⊥) → o ≡ None
no_value None h = refl
no_value (Some x) h = absurd (h x refl)

apart : {X : Type 0} {o : Option X} {x : X} → o ≡ None → o ≡ Some x → ⊥
apart {x} e f = let k : None ≡ Some x = sym e ∙ f in cc

front_all : {X : Type 0} (P : X → Type 0) (xs ys : List X) → AllByRecursion P (xs ++ ys) → AllByRecursion P xs
front_all P [] ys h = tt
front_all P (x ∷ xs) ys h = (h.0, front_all P xs ys h.1)

abbrev IsFree : {N B E R : Type 0} → Judged N B E R → Type 0
IsFree {N} j = (n : N) → j.outcome ≡ Blocked n → ⊥

free_check : {N B E : Type 0} (r : Result B E) (n : N) → of_check {N = N} r ≡ Blocked n → ⊥
free_check (Ok b) n e = cc
free_check (Err x) n e = cc

module _ {G N S B K E R : Type 0} (l : Language G N S B K E R) where
  free_decided : (t : Tree G N S) (q : N × S) (env : List (N × B)) (d : Result B R) → IsFree (decided l t q env d)
  free_decided t q env (Ok b) n e = let h : ⊥ = cc in h
  free_decided t q env (Err r) n e = free_check (l.check t q.0 q.1 env) n e

  free_reused : (t : Tree G N S) (q : N × S) (env : List (N × B)) (k : Option K) → IsFree (reused l t q env k)
  free_reused t q env None n e = free_check (l.check t q.0 q.1 env) n e
  free_reused t q env (Some k) n e = free_decided t q env (l.decide t q.0 q.1 k env) n e

  abbrev stage : Option E → Option N → Judged N B E R → Judged N B E R
  stage x y r = option_map_or (λ e. record { how = Graph; outcome = Failed e }) x (option_map_or (λ n. record { how = Behind n; outcome = Blocked n }) y r)

  free_stage : (x : Option E) (y : Option N) (r : Judged N B E R) → y ≡ None → IsFree r → IsFree (stage x y r)
  free_stage (Some e) y r h f n b = let k : ⊥ = cc in k
  free_stage None None r h f n b = f n b
  free_stage None (Some m) r h f n b = absurd (apart h refl)

  -- a step of a node whose needs are sound doesn't block it
  free_step : (t : Tree G N S) (store : List (N × K)) (done : List (N × Outcome N B E)) (q : N × S) → ((n : N) → is_need l t q.0 n ≡ true → is_sound_in l done n ≡ true) → IsFree (step l t store done q)
  free_step t store done q h = free_stage (l.errors t q.0 q.1) (first_bad l t q.0 done (order l t)) (reused l t q (environment l t q.0 done t.sources) (lookup (l.same q.0) store)) (none_bad l t store done q.0 (order l t) h)
      (free_reused t q (environment l t q.0 done t.sources) (lookup (l.same q.0) store))

  -- one node has one source
  one_source : (qs : List (N × S)) → AreDistinct l qs → (p q : N × S) → IsIn p qs → IsIn q qs → p.0 ≡ q.0 → p ≡ q
  one_source [] d p q i j e = absurd i
  one_source (x ∷ xs) d p q i j e = elim i [
    | inl a ↦ elim j [
      | inl b ↦ a ∙ sym b
      | inr b ↦ absurd (all_at (λ g. x.0 ≡ g.0 → ⊥) xs q b d.0 (ap (λ (z : N × S). z.0) (sym a) ∙ e))
    ]
    | inr a ↦ elim j [
      | inl b ↦ absurd (all_at (λ g. x.0 ≡ g.0 → ⊥) xs p a d.0 (ap (λ (z : N × S). z.0) (sym b) ∙ sym e))
      | inr b ↦ one_source xs d.1 p q a b e
    ]
  ]

module _ {G N S B K E R : Type 0} (l : Language G N S B K E R) (exact : IsExact l) where
  left_out : (m : N) (cs : List (N × ℕ)) (k : N) → lookup (l.same k) cs ≡ None → lookup (l.same k) (without l m cs) ≡ None
  left_out m cs k e = no_value (lookup (l.same k) (without l m cs)) (λ w h. apart e (left_in l exact m cs k w h).1)

  gone : (m : N) (cs : List (N × ℕ)) (k : N) → l.same k m ≡ true → lookup (l.same k) (without l m cs) ≡ None
  gone m cs k e = no_value (lookup (l.same k) (without l m cs)) (λ w h. clash (l.same k m) e (left_in l exact m cs k w h).0)

  module _ (t : Tree G N S) where
    at_first : (q : N × S) (o : Option E) (e : E) → o ≡ Some e → (rest : List (N × Judged N B E R)) → (r : Judged N B E R) × (lookup (l.same q.0) (failed_at l q o ++ rest) ≡ Some r)
    at_first q None e h rest = absurd (apart refl h)
    at_first q (Some x) e h rest = let a : N × Judged N B E R = (q.0, record { how = Graph; outcome = Failed x }) in (a.1, look_yes (l.same q.0) a rest (exact.itself q.0))

    at_later : (m : N) (q : N × S) (o : Option E) (rest : List (N × Judged N B E R)) (r : Judged N B E R) → lookup (l.same m) rest ≡ Some r → (r : Judged N B E R) × (lookup (l.same m) (failed_at l q o ++ rest) ≡ Some r)
    at_later m q None rest r h = (r, h)
    at_later m q (Some x) rest r h =
        let a : N × Judged N B E R = (q.0, record { how = Graph; outcome = Failed x }) in
        both_ways (l.same m q.0) (λ y. (a.1, look_yes (l.same m) a rest y)) (λ y. (r, look_no (l.same m) a rest y ∙ h))

    -- a node with graph errors is finished from the start
    failed_there : (qs : List (N × S)) (q : N × S) (e : E) → IsIn q qs → l.errors t q.0 q.1 ≡ Some e → (r : Judged N B E R) × (lookup (l.same q.0) (failed_from l t qs) ≡ Some r)
    failed_there [] q e i h = absurd i
    failed_there (p ∷ ps) q e i h = elim i [
      | inl k ↦ subst (λ (z : N × S). (r : Judged N B E R) × (lookup (l.same z.0) (failed_from l t (p ∷ ps)) ≡ Some r)) (sym k) (at_first p (l.errors t p.0 p.1) e (sym (ap (λ (z : N × S). l.errors t z.0 z.1) k) ∙ h) (failed_from l t ps))
      | inr k ↦ let s = failed_there ps q e k h in at_later q.0 p (l.errors t p.0 p.1) (failed_from l t ps) s.0 s.1
    ]

  module _ (t : Tree G N S) (store : List (N × K)) (distinct : AreDistinct l t.sources) where
    -- a node with graph errors
    record IsMarked (m : N) : Type 0 where
      source : N × S
      among : IsIn source t.sources
      at : source.0 ≡ m
      error : E
      told : l.errors t source.0 source.1 ≡ Some error

    -- what is finished was ready or has graph errors, and isn't blocked; what was given up was ready, and is neither
    -- finished nor claimed; and what has graph errors is finished
    record IsKnown (s : State N (Judged N B E R)) : Type 0 where
      finished : (m : N) (r : Judged N B E R) → lookup (l.same m) s.finished ≡ Some r → IsFree r × (IsMarked m ⊎ IsReady l t s.finished m)
      refused : (k : N) (w : ℕ) → lookup (l.same k) s.refused ≡ Some w → IsReady l t s.finished k × (lookup (l.same k) s.finished ≡ None) × (lookup (l.same k) s.claimed ≡ None)
      marked : (q : N × S) (e : E) → IsIn q t.sources → l.errors t q.0 q.1 ≡ Some e → (r : Judged N B E R) × (lookup (l.same q.0) s.finished ≡ Some r)

    known_first : IsKnown (opening l t)
    known_first = record {
      finished = λ m r e.
          let s = failed_found l exact t m r t.sources e in
          let mark : IsMarked m = record { source = s.0; among = s.1; at = sym (exact.tells m s.0.0 s.3); error = s.2; told = s.4 } in
          let free : IsFree r = λ n b. let k : Failed s.2 ≡ Blocked n = ap (λ (j : Judged N B E R). j.outcome) (sym s.5) ∙ b in cc in
          (free, inl mark);
      refused = λ k w e. absurd (apart refl e);
      marked = λ q e i h. failed_there t t.sources q e i h;
    }

    known_step : (s next : State N (Judged N B E R)) (e : Event N (Judged N B E R)) → IsOnCourse l exact t store distinct s → IsKnown s → Step l t store s e next → IsKnown next
    known_step s next (Claim w m) c i h =
        subst IsKnown (sym h.3) (record {
          finished = i.finished;
          refused = λ k v e.
              let old = i.refused k v e in (
                old.0,
                old.1,
                both_ways (l.same k m)
                    (λ y. absurd (apart (subst (λ x. lookup (l.same x) s.refused ≡ None) (sym (exact.tells k m y)) h.1.2) e))
                    (λ y. look_no (l.same k) (m, w) s.claimed y ∙ old.2),
              );
          marked = i.marked;
        })
    known_step s next (Finish w m r) c i h =
        let q = h.0 in
        let d = c.claims m w h.3 in
        let ready : IsReady l t s.finished q.0 = subst (IsReady l t s.finished) (sym h.2) d.0 in
        let free : IsFree r = subst IsFree (sym h.4) (free_step l t store (outcomes s.finished) q ready) in
        subst IsKnown (sym h.5) (record {
          finished = λ k x e. both_ways (l.same k m)
              (λ y.
              let b : Some r ≡ Some x = sym (look_yes (l.same k) (m, r) s.finished y) ∙ e in
              let same : r ≡ x = cc in
              (subst IsFree same free, inr (subst (IsReady l t ((m, r) ∷ s.finished)) (sym (exact.tells k m y)) (still_ready l exact t store distinct m m r s.finished d.1 d.0))))
              (λ y.
              let old = i.finished k x (sym (look_no (l.same k) (m, r) s.finished y) ∙ e) in
              (old.0, elim old.1 [ inl a ↦ inl a | inr a ↦ inr (still_ready l exact t store distinct k m r s.finished d.1 a) ]));
          refused = λ k v e.
              let old = i.refused k v e in
              let other : l.same k m ≡ false = both_ways (l.same k m)
              (λ y. absurd (apart (subst (λ x. lookup (l.same x) s.claimed ≡ None) (exact.tells k m y) old.2) h.3))
              (λ y. y) in
              (still_ready l exact t store distinct k m r s.finished d.1 old.0, look_no (l.same k) (m, r) s.finished other ∙ old.1, left_out m s.claimed k old.2);
          marked = λ p e j f.
              let old = i.marked p e j f in
              both_ways (l.same p.0 m)
              (λ y. (r, look_yes (l.same p.0) (m, r) s.finished y))
              (λ y. (old.0, look_no (l.same p.0) (m, r) s.finished y ∙ old.1));
        })
    known_step s next (Refuse w m) c i h =
        let d = c.claims m w h.0 in
        subst IsKnown (sym h.1) (record {
          finished = i.finished;
          refused = λ k v e. both_ways (l.same k m)
              (λ y.
              let a = sym (exact.tells k m y) in
              (subst (IsReady l t s.finished) a d.0, subst (λ x. lookup (l.same x) s.finished ≡ None) a d.1, gone m s.claimed k y))
              (λ y.
              let old = i.refused k v (sym (look_no (l.same k) (m, w) s.refused y) ∙ e) in
              (old.0, old.1, left_out m s.claimed k old.2));
          marked = i.marked;
        })

    known_run : (es : List (Event N (Judged N B E R))) (s last : State N (Judged N B E R)) → IsOnCourse l exact t store distinct s → IsKnown s → Run l t store s es last → IsOnCourse l exact t store distinct last × IsKnown last
    known_run [] s last c i h = (subst (IsOnCourse l exact t store distinct) (sym h) c, subst IsKnown (sym h) i)
    known_run (e ∷ es) s last c i h = known_run es h.0 last (step_keeps l exact t store distinct s h.0 e c h.1) (known_step s h.0 e c i h.1) h.2

    module _ (s : State N (Judged N B E R)) (c : IsOnCourse l exact t store distinct s) (i : IsKnown s) where
      unsound : (n : N) → lookup (l.same n) s.finished ≡ None → is_sound_in l (outcomes s.finished) n ≡ false
      unsound n e = ap (λ o. option_map_or is_sound o false) (none_judged (l.same n) s.finished e)

      -- a node that is ready and not finished isn't blocked in the build
      free_ready : (q : N × S) → IsIn q t.sources → IsReady l t s.finished q.0 → lookup (l.same q.0) s.finished ≡ None → IsBlockedIn l (built l t store) q.0 → ⊥
      free_ready q j ready none b =
          let right = finished_right l exact t store distinct s c q j ready none in
          let same : Some (step l t store (outcomes s.finished) q) ≡ Some b.judged = sym right.1 ∙ b.there in
          let one : step l t store (outcomes s.finished) q ≡ b.judged = cc in
          free_step l t store (outcomes s.finished) q ready b.by (ap (λ (j : Judged N B E R). j.outcome) one ∙ b.blocked)

      waits_blocked : (q : N × S) → IsIn q t.sources → IsBlockedIn l (built l t store) q.0 → IsWaiting l s q.0
      waits_blocked q j b = (
        no_value (lookup (l.same q.0) s.finished) (λ r e.
            let same : Some r ≡ Some b.judged = sym (c.good q.0 r e) ∙ b.there in
            let one : r ≡ b.judged = cc in
            (i.finished q.0 r e).0 b.by (ap (λ (j : Judged N B E R). j.outcome) one ∙ b.blocked)),
        no_value (lookup (l.same q.0) s.claimed) (λ w e. let d = c.claims q.0 w e in free_ready q j d.0 d.1 b),
        no_value (lookup (l.same q.0) s.refused) (λ w e. let d = i.refused q.0 w e in free_ready q j d.0 d.1 b),
      )

      unready : (m : N) → IsBehindRefused l t s m → IsReady l t s.finished m → ⊥
      unready m (needs_refused n w need e) ready = clash (is_sound_in l (outcomes s.finished) n) (ready n need) (unsound n (i.refused n w e).1)
      unready m (needs_behind n need b) ready = unready n b (c.closed n (ready n need)).1

      waits_behind : (q : N × S) → IsIn q t.sources → l.errors t q.0 q.1 ≡ None → IsBehindRefused l t s q.0 → IsWaiting l s q.0
      waits_behind q j none b = (
        no_value (lookup (l.same q.0) s.finished) (λ r e. elim (i.finished q.0 r e).1 [
          | inl m ↦ apart (ap (λ (z : N × S). l.errors t z.0 z.1) (one_source l t.sources distinct m.source q m.among j m.at) ∙ none) m.told
          | inr ready ↦ unready q.0 b ready
        ]),
        no_value (lookup (l.same q.0) s.claimed) (λ w e. unready q.0 b (c.claims q.0 w e).0),
        no_value (lookup (l.same q.0) s.refused) (λ w e. unready q.0 b (i.refused q.0 w e).0),
      )

      abbrev Waits : N × S → Type 0
      Waits q = l.errors t q.0 q.1 ≡ None → IsWaiting l s q.0 → IsBlockedIn l (built l t store) q.0 ⊎ IsBehindRefused l t s q.0

      module _ (over : IsOver l t store s) where
        -- a node of the tree that waits isn't ready
        not_ready : (q : N × S) → IsIn q t.sources → IsWaiting l s q.0 → IsReady l t s.finished q.0 → ⊥
        not_ready q j waits ready = over (Claim 0 q.0) _ (any_of (λ (p : N × S). l.same q.0 p.0) t.sources q j (exact.itself q.0), waits, ready, refl)

        not_claimed : (q : N × S) → IsIn q t.sources → lookup (l.same q.0) s.claimed ≡ None
        not_claimed q j = no_value (lookup (l.same q.0) s.claimed) (λ w e. over (Finish w q.0 (step l t store (outcomes s.finished) q)) _ (q, j, refl, e, refl, refl))

        -- of a node that waits some need isn't sound
        lacks : (q : N × S) → IsIn q t.sources → IsWaiting l s q.0 → (p : N × S) × IsIn p t.sources × (is_need l t q.0 p.0 ≡ true) × (is_sound_in l (outcomes s.finished) p.0 ≡ false)
        lacks q j waits =
            let test : N × S → Bool = λ p. not (is_need l t q.0 p.0) || is_sound_in l (outcomes s.finished) p.0 in
            both_ways (list_all test t.sources)
            (λ all. absurd (not_ready q j waits (λ n need.
            let parts = and_both _ _ need in
            let p = any_in (λ (p : N × S). l.same n p.0) t.sources parts.0 in
            let at = exact.tells n p.0.0 p.2 in
            let sound = then_holds (is_need l t q.0 p.0.0) (is_sound_in l (outcomes s.finished) p.0.0) (all_holds test t.sources p.0 p.1 all) (subst (λ k. is_need l t q.0 k ≡ true) at need) in
            subst (λ k. is_sound_in l (outcomes s.finished) k ≡ true) (sym at) sound)))
            (λ some.
            let f = fails_in test t.sources some in
            let g = fails_both (is_need l t q.0 f.0.0) (is_sound_in l (outcomes s.finished) f.0.0) f.2 in
            (f.0, f.1, g.0, g.1))

        in_tree : (q : N × S) → IsIn q (order l t) → IsIn q t.sources
        in_tree q j = in_shuffled q (shuffled_back (order_is_whole l t)) j

        module _ (done : List (N × S)) (q : N × S) (after : List (N × S)) (whole : order l t ≡ done ++ q ∷ after) where
          -- what has a result before q stands before it
          stands_before : (p : N × S) (r : Judged N B E R) → IsIn p (order l t) → lookup (l.same p.0) (results l t store [] done) ≡ Some r → IsIn p done
          stands_before p r j e = elim (in_either done (q ∷ after) p (subst (IsIn p) whole j)) [
            | inl k ↦ k
            | inr k ↦
                let f = split_at (q ∷ after) p k in
                let all : order l t ≡ (done ++ f.0) ++ p ∷ f.1 = whole ∙ ap (λ z. done ++ z) f.2 ∙ sym (append_assoc done f.0 (p ∷ f.1)) in
                absurd (apart (results_none l t store done [] p.0 refl (front_all (λ x. l.same p.0 x.0 ≡ false) done f.0 (once_before l t store exact distinct (done ++ f.0) p f.1 all))) e)
          ]

          -- q waits, its needs are sound in the build, and one of them isn't finished
          behind : AllByRecursion Waits done → IsWaiting l s q.0 → first_bad l t q.0 (outcomes (results l t store [] done)) (order l t) ≡ None → IsBehindRefused l t s q.0
          behind all waits none =
              let there : IsIn q t.sources = in_tree q (subst (IsIn q) (sym whole) (in_back done q after)) in
              let p = lacks q there waits in
              let placed : IsIn p.0 (order l t) = in_shuffled p.0 (order_is_whole l t) p.1 in
              let sound = told.none_bad l t q.0 (outcomes (results l t store [] done)) (order l t) none p.0 placed p.2 in
              let j = judged_found (l.same p.0.0) (results l t store [] done) sound in
              let all_of : built l t store ≡ results l t store (results l t store [] done) (q ∷ after) = ap (results l t store []) whole ∙ results_app l t store [] done (q ∷ after) in
              let kept : lookup (l.same p.0.0) (built l t store) ≡ Some j.0 = ap (lookup (l.same p.0.0)) all_of ∙ results_keep l t store (q ∷ after) (results l t store [] done) p.0.0 j.0 j.1 in
              let good : is_sound j.0.outcome ≡ true = sym (ap (λ o. option_map_or is_sound o false) (lookup_outcomes (l.same p.0.0) (results l t store [] done) j.0 j.1)) ∙ sound in
              let unfinished : lookup (l.same p.0.0) s.finished ≡ None = no_value (lookup (l.same p.0.0) s.finished) (λ r e.
              let same : Some r ≡ Some j.0 = sym (c.good p.0.0 r e) ∙ kept in
              let one : j.0 ≡ r = cc in
              clash (is_sound_in l (outcomes s.finished) p.0.0) (ap (λ o. option_map_or is_sound o false) (lookup_outcomes (l.same p.0.0) s.finished r e) ∙ ap (λ (k : Judged N B E R). is_sound k.outcome) (sym one) ∙ good) p.3) in
              by_option (lookup (l.same p.0.0) s.refused)
              (λ e.
              let clear : l.errors t p.0.0 p.0.1 ≡ None = no_value (l.errors t p.0.0 p.0.1) (λ x f. apart unfinished (i.marked p.0 x p.1 f).1) in
              elim (all_at Waits done p.0 (stands_before p.0 j.0 placed j.1) all clear (unfinished, not_claimed p.0 p.1, e)) [
                | inl b ↦
                    let same : Some j.0 ≡ Some b.judged = sym kept ∙ b.there in
                    let one : j.0 ≡ b.judged = cc in
                    absurd (differ (sym good ∙ ap is_sound (ap (λ (k : Judged N B E R). k.outcome) one ∙ b.blocked)))
                | inr b ↦ needs_behind p.0.0 p.2 b
              ])
              (λ w e. needs_refused p.0.0 w p.2 e)

          here : AllByRecursion Waits done → Waits q
          here all clear waits =
              let P = outcomes (results l t store [] done) in
              let at = at_split l t store exact done q after whole (once_before l t store exact distinct done q after whole) in
              by_option (first_bad l t q.0 P (order l t))
              (λ none. inr (behind all waits none))
              (λ n e.
              let is : step l t store P q ≡ record { how = Behind n; outcome = Blocked n } =
              ap (λ x. stage l x (first_bad l t q.0 P (order l t)) (reused l t q (environment l t q.0 P t.sources) (lookup (l.same q.0) store))) clear
              ∙ ap (λ y. stage l None y (reused l t q (environment l t q.0 P t.sources) (lookup (l.same q.0) store))) e in
              inl (record { judged = step l t store P q; by = n; there = at; blocked = ap (λ (j : Judged N B E R). j.outcome) is }))

        walk : (qs done : List (N × S)) → order l t ≡ done ++ qs → AllByRecursion Waits done → AllByRecursion Waits (order l t)
        walk [] done e all = subst (AllByRecursion Waits) (sym (e ∙ append-nil done)) all
        walk (q ∷ qs) done e all = walk qs (done ++ q ∷ []) (e ∙ sym (append_assoc done (q ∷ []) qs)) (all_add Waits done q all (here done q qs e all))

        waits_why : (q : N × S) → IsIn q t.sources → IsWaiting l s q.0 → IsBlockedIn l (built l t store) q.0 ⊎ ((l.errors t q.0 q.1 ≡ None) × IsBehindRefused l t s q.0)
        waits_why q j waits =
            let clear : l.errors t q.0 q.1 ≡ None = no_value (l.errors t q.0 q.1) (λ x f. apart waits.0 (i.marked q x j f).1) in
            elim (all_at Waits (order l t) q (in_shuffled q (order_is_whole l t) j) (walk (order l t) [] refl tt) clear waits) [ inl b ↦ inl b | inr b ↦ inr (clear, b) ]

module _ {G N S B K E R : Type 0} (l : Language G N S B K E R) where
  pub over_leaves_the_blocked : WaitingAtTheEnd l
  over_leaves_the_blocked o exact t store d es s run over q j =
      let t' = sorted l t in
      let shuffles = sorting_shuffles l t.sources in
      let apart' = distinct_shuffled l shuffles d in
      let there = in_shuffled q shuffles j in
      let k = known_run l exact t' store apart' es (opening l t') s (opens l exact t' store apart') (known_first l exact t' store apart') run in (
        waits_why l exact t' store apart' s k.0 k.1 over q there,
        λ x. elim x [ inl b ↦ waits_blocked l exact t' store apart' s k.0 k.1 q there b | inr b ↦ waits_behind l exact t' store apart' s k.0 k.1 q there b.0 b.1 ],
      )

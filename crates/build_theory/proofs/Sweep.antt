-- Any run of the machine gives the results of the incremental build.
use Rattle.std.proofs.Common.{◌≡◌, ◌⊎◌, ℕ, true, false, List, [], ◌∷◌, ◌++◌, refl, ap, sym, ◌∙◌, subst, Some, None, inl, inr}
use Rattle.std.specs.declared.option.Option.{Option}
use Rattle.std.specs.Option.{option_map_or}
use Rattle.std.specs.Map.{lookup}
use Rattle.build_theory.specs.Build.{Tree, Language, Judged, Graph, Failed, outcomes, is_sound, is_sound_in, sorted, step}
use Rattle.build_theory.specs.Laws.{IsIn, IsExact, AreDistinct}
use Rattle.build_theory.specs.Machine.{Event, Claim, Finish, Refuse, State, opening, failed_at, failed_from, without, IsReady, Step, Run, EverySweepAgrees, SweepAgrees, SweepAgreesDownward}
use Rattle.build_theory.proofs.Lists.{both_ways, differ, look_yes, look_no}
use Rattle.build_theory.proofs.Files.{sorting_shuffles, distinct_shuffled}
use Rattle.build_theory.proofs.Fold.{lookup_outcomes, judged_found, none_judged}
use Rattle.build_theory.proofs.Places.{built, at_place, graph_at, has_place}
use Rattle.build_theory.proofs.Behind.{IsPlaced, IsClosed, stands_behind}

module _ {G N S B K E R : Type 0} (l : Language G N S B K E R) (exact : IsExact l) where
  pub left_in : (m : N) (cs : List (N × ℕ)) (k : N) (w : ℕ) → lookup (l.same k) (without l m cs) ≡ Some w → (l.same k m ≡ false) × (lookup (l.same k) cs ≡ Some w)
  left_in m [] k w e = absurd (let h : ⊥ = cc in h)
  left_in m (c ∷ cs) k w e =
      both_ways (l.same m c.0)
      (λ y.
      let f : without l m (c ∷ cs) ≡ without l m cs = rw y refl in
      let i = left_in m cs k w (sym (ap (lookup (l.same k)) f) ∙ e) in
      both_ways (l.same k c.0)
      (λ z.
      let a : k ≡ m = exact.tells k c.0 z ∙ sym (exact.tells m c.0 y) in
      absurd (differ (sym (subst (λ x. l.same x m ≡ true) (sym a) (exact.itself m)) ∙ i.0)))
      (λ z. (i.0, look_no (l.same k) c cs z ∙ i.1)))
      (λ y.
      let f : without l m (c ∷ cs) ≡ c ∷ without l m cs = rw y refl in
      let g = sym (ap (lookup (l.same k)) f) ∙ e in
      both_ways (l.same k c.0)
      (λ z. (
        both_ways (l.same k m)
            (λ v. let a : m ≡ c.0 = sym (exact.tells k m v) ∙ exact.tells k c.0 z in absurd (differ (sym (subst (λ x. l.same m x ≡ true) a (exact.itself m)) ∙ y)))
            (λ v. v),
        look_yes (l.same k) c cs z ∙ sym (look_yes (l.same k) c (without l m cs) z) ∙ g,
      ))
      (λ z.
      let i = left_in m cs k w (sym (look_no (l.same k) c (without l m cs) z) ∙ g) in
      (i.0, look_no (l.same k) c cs z ∙ i.1)))

  module _ (t : Tree G N S) where
    at_failed : (m : N) (j : Judged N B E R) (q : N × S) (o : Option E) → l.errors t q.0 q.1 ≡ o → (rest : List (N × Judged N B E R)) → lookup (l.same m) (failed_at l q o ++ rest) ≡ Some j
        → ((e : E) × (l.same m q.0 ≡ true) × (l.errors t q.0 q.1 ≡ Some e) × (j ≡ record { how = Graph; outcome = Failed e })) ⊎ (lookup (l.same m) rest ≡ Some j)
    at_failed m j q None f rest e = inr e
    at_failed m j q (Some x) f rest e =
        let a : N × Judged N B E R = (q.0, record { how = Graph; outcome = Failed x }) in
        both_ways (l.same m q.0)
        (λ y. let g : Some a.1 ≡ Some j = sym (look_yes (l.same m) a rest y) ∙ e in inl (x, y, f, (let h : j ≡ a.1 = cc in h)))
        (λ y. inr (sym (look_no (l.same m) a rest y) ∙ e))

    -- what is finished from the start has graph errors
    pub failed_found : (m : N) (j : Judged N B E R) (qs : List (N × S)) → lookup (l.same m) (failed_from l t qs) ≡ Some j
        → (q : N × S) × IsIn q qs × (e : E) × (l.same m q.0 ≡ true) × (l.errors t q.0 q.1 ≡ Some e) × (j ≡ record { how = Graph; outcome = Failed e })
    failed_found m j [] e = absurd (let h : ⊥ = cc in h)
    failed_found m j (q ∷ qs) e = elim (at_failed m j q (l.errors t q.0 q.1) refl (failed_from l t qs) e) [
      | inl s ↦ (q, inl refl, s.0, s.1, s.2, s.3)
      | inr f ↦ let s = failed_found m j qs f in (s.0, inr s.1, s.2, s.3, s.4, s.5)
    ]

  module _ (t : Tree G N S) (store : List (N × K)) (distinct : AreDistinct l t.sources) where
    -- what is finished is the build's, what is claimed is ready and not finished,
    -- and what is sound stands behind its needs, which are sound
    pub record IsOnCourse (s : State N (Judged N B E R)) : Type 0 where
      pub good : (m : N) (r : Judged N B E R) → lookup (l.same m) s.finished ≡ Some r → lookup (l.same m) (built l t store) ≡ Some r
      pub claims : (k : N) (w : ℕ) → lookup (l.same k) s.claimed ≡ Some w → IsReady l t s.finished k × (lookup (l.same k) s.finished ≡ None)
      pub closed : IsClosed l t (is_sound_in l (outcomes s.finished))

    pub opens : IsOnCourse (opening l t)
    opens = record {
      good = λ m r e.
          let s = failed_found t m r t.sources e in
          let there : lookup (l.same s.0.0) (built l t store) ≡ Some r = graph_at l t store exact distinct s.0 s.2 s.1 s.4 ∙ ap (λ j. Some j) (sym s.5) in
          subst (λ n. lookup (l.same n) (built l t store) ≡ Some r) (sym (exact.tells m s.0.0 s.3)) there;
      claims = λ k w f. absurd (let h : ⊥ = cc in h);
      closed = λ m h.
          let j = judged_found (l.same m) (failed_from l t t.sources) h in
          let s = failed_found t m j.0 t.sources j.1 in
          let found : lookup (l.same m) (outcomes (failed_from l t t.sources)) ≡ Some (Failed s.2) = lookup_outcomes (l.same m) (failed_from l t t.sources) j.0 j.1 ∙ ap (λ (j : Judged N B E R). Some j.outcome) s.5 in
          absurd (differ (sym h ∙ ap (λ o. option_map_or is_sound o false) found));
    }

    pub finished_right : (s : State N (Judged N B E R)) → IsOnCourse s → (q : N × S) → IsIn q t.sources → IsReady l t s.finished q.0 → lookup (l.same q.0) s.finished ≡ None
        → IsPlaced l t q.0 × (lookup (l.same q.0) (built l t store) ≡ Some (step l t store (outcomes s.finished) q))
    finished_right s c q i ready none =
        let other : is_sound_in l (outcomes s.finished) q.0 ≡ false = ap (λ o. option_map_or is_sound o false) (none_judged (l.same q.0) s.finished none) in
        let placed = stands_behind l exact t (is_sound_in l (outcomes s.finished)) c.closed q.0 other ready in
        (placed, at_place l t store exact q s.finished (has_place l t store exact distinct q i placed) c.good ready)

    -- a step of another node leaves what is ready
    pub still_ready : (k m : N) (j : Judged N B E R) (done : List (N × Judged N B E R)) → lookup (l.same m) done ≡ None → IsReady l t done k → IsReady l t ((m, j) ∷ done) k
    still_ready k m j done none ready n need =
        both_ways (l.same n m)
        (λ y.
        let o = judged_found (l.same n) done (ready n need) in
        let gone : lookup (l.same n) done ≡ None = subst (λ x. lookup (l.same x) done ≡ None) (sym (exact.tells n m y)) none in
        let k : Some o.0 ≡ None = sym o.1 ∙ gone in cc)
        (λ y. ap (λ x. option_map_or is_sound x false) (look_no (l.same n) (m, j.outcome) (outcomes done) y) ∙ ready n need)

    pub step_keeps : (s next : State N (Judged N B E R)) (e : Event N (Judged N B E R)) → IsOnCourse s → Step l t store s e next → IsOnCourse next
    step_keeps s next (Claim w m) i h =
        subst IsOnCourse (sym h.3) (record {
          good = i.good;
          claims = λ k v e. both_ways (l.same k m)
              (λ y.
              let a = exact.tells k m y in
              (subst (IsReady l t s.finished) (sym a) h.2, subst (λ x. lookup (l.same x) s.finished ≡ None) (sym a) h.1.0))
              (λ y. i.claims k v (sym (look_no (l.same k) (m, w) s.claimed y) ∙ e));
          closed = i.closed;
        })
    step_keeps s next (Finish w m r) i h =
        let q = h.0 in
        let c = i.claims m w h.3 in
        let ready : IsReady l t s.finished q.0 = subst (IsReady l t s.finished) (sym h.2) c.0 in
        let none : lookup (l.same q.0) s.finished ≡ None = subst (λ x. lookup (l.same x) s.finished ≡ None) (sym h.2) c.1 in
        let right = finished_right s i q h.1 ready none in
        let done : lookup (l.same q.0) (built l t store) ≡ Some r = right.1 ∙ ap (λ x. Some x) (sym h.4) in
        subst IsOnCourse (sym h.5) (record {
          good = λ k x e. both_ways (l.same k m)
              (λ y.
              let a : q.0 ≡ k = h.2 ∙ sym (exact.tells k m y) in
              let b : Some r ≡ Some x = sym (look_yes (l.same k) (m, r) s.finished y) ∙ e in
              subst (λ z. lookup (l.same z) (built l t store) ≡ Some r) a done ∙ b)
              (λ y. i.good k x (sym (look_no (l.same k) (m, r) s.finished y) ∙ e));
          claims = λ k v e.
              let f = left_in m s.claimed k v e in
              let d = i.claims k v f.1 in
              (still_ready k m r s.finished c.1 d.0, look_no (l.same k) (m, r) s.finished f.0 ∙ d.1);
          closed = λ k e. both_ways (l.same k m)
              (λ y.
              let a : q.0 ≡ k = h.2 ∙ sym (exact.tells k m y) in
              (subst (IsPlaced l t) a right.0, still_ready k m r s.finished c.1 (subst (IsReady l t s.finished) a ready)))
              (λ y.
              let b = i.closed k (sym (ap (λ x. option_map_or is_sound x false) (look_no (l.same k) (m, r.outcome) (outcomes s.finished) y)) ∙ e) in
              (b.0, still_ready k m r s.finished c.1 b.1));
        })
    step_keeps s next (Refuse w m) i h =
        subst IsOnCourse (sym h.1) (record {
          good = i.good;
          claims = λ k v e. i.claims k v (left_in m s.claimed k v e).1;
          closed = i.closed;
        })

    run_keeps : (es : List (Event N (Judged N B E R))) (s last : State N (Judged N B E R)) → IsOnCourse s → Run l t store s es last → IsOnCourse last
    run_keeps [] s last i h = subst IsOnCourse (sym h) i
    run_keeps (e ∷ es) s last i h = run_keeps es h.0 last (step_keeps s h.0 e i h.1) h.2

    agrees : (es : List (Event N (Judged N B E R))) (s : State N (Judged N B E R)) → Run l t store (opening l t) es s
        → (m : N) (j : Judged N B E R) → lookup (l.same m) s.finished ≡ Some j → lookup (l.same m) (built l t store) ≡ Some j
    agrees es s run m j e = (run_keeps es (opening l t) s opens run).good m j e

module _ {G N S B K E R : Type 0} (l : Language G N S B K E R) where
  pub every_sweep_agrees : EverySweepAgrees l
  every_sweep_agrees o exact t store d es s run = agrees l exact (sorted l t) store (distinct_shuffled l (sorting_shuffles l t.sources) d) es s run

  pub sweep_agrees : SweepAgrees l
  sweep_agrees o exact t store d first es s run = every_sweep_agrees o exact t store d es s run

  pub sweep_agrees_downward : SweepAgreesDownward l
  sweep_agrees_downward o exact t store d down es s run = every_sweep_agrees o exact t store d es s run

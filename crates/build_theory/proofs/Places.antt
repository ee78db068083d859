-- What a fold's result at a node is: by where the node stands in the order, and from any results of its needs.
use Rattle.std.proofs.Common.{◌≡◌, true, false, List, [], ◌∷◌, ◌++◌, refl, ap, sym, ◌∙◌, subst, cond, Some, None}
use Rattle.std.specs.declared.option.Option.{Option}
use Rattle.std.specs.Option.{option_map_or}
use Rattle.std.specs.List.{AllByRecursion}
use Rattle.std.specs.Map.{lookup}
use Rattle.build_theory.specs.Build.{Tree, Language, Outcome, Blocked, Failed, Judged, Graph, Behind, outcomes, is_sound, is_need, is_sound_in, interface_in, environment, first_bad, order, reused, step, results}
use Rattle.build_theory.specs.Laws.{IsIn, IsExact, AreDistinct}
use Rattle.build_theory.specs.Machine.{IsReady, HasPlace}
use Rattle.build_theory.proofs.Lists.{both_ways, same_if, passed, look_yes, not_in_front, all_at, all_map, in_back, split_at, in_shuffled}
use Rattle.build_theory.proofs.Files.{distinct_shuffled}
use Rattle.build_theory.proofs.Whole.{order_is_whole}
use Rattle.build_theory.proofs.Behind.{IsPlaced}
use Rattle.build_theory.proofs.Fold.{lookup_outcomes, judged_found, results_app, results_keep, results_none, results_some}

module _ {G N S B K E R : Type 0} (l : Language G N S B K E R) (t : Tree G N S) (store : List (N × K)) where
  -- the incremental build of the tree as it stands
  abbrev pub built : List (N × Judged N B E R)
  built = results l t store [] (order l t)

  environment_same : (P D : List (N × Outcome N B E)) (m : N) (qs : List (N × S)) → ((n : N) → is_need l t m n ≡ true → lookup (l.same n) P ≡ lookup (l.same n) D) → environment l t m P qs ≡ environment l t m D qs
  environment_same P D m [] h = refl
  environment_same P D m (q ∷ qs) h =
      let head : cond (is_need l t m q.0) (interface_in l q.0 (lookup (l.same q.0) P)) [] ≡ cond (is_need l t m q.0) (interface_in l q.0 (lookup (l.same q.0) D)) [] =
      same_if (is_need l t m q.0) (interface_in l q.0 (lookup (l.same q.0) P)) (interface_in l q.0 (lookup (l.same q.0) D)) [] (λ y. ap (interface_in l q.0) (h q.0 y)) in
      ap (λ x. x ++ environment l t m P qs) head ∙ ap (λ x. cond (is_need l t m q.0) (interface_in l q.0 (lookup (l.same q.0) D)) [] ++ x) (environment_same P D m qs h)

  pub none_bad : (done : List (N × Outcome N B E)) (m : N) (qs : List (N × S)) → ((n : N) → is_need l t m n ≡ true → is_sound_in l done n ≡ true) → first_bad l t m done qs ≡ None
  none_bad done m [] h = refl
  none_bad done m (q ∷ qs) h = passed (is_need l t m q.0) (is_sound_in l done q.0) (Some q.0) (first_bad l t m done qs) (h q.0) ∙ none_bad done m qs h

  -- a step takes of the results before it the needs' alone
  step_same : (P D : List (N × Outcome N B E)) (q : N × S) → ((n : N) → is_need l t q.0 n ≡ true → lookup (l.same n) P ≡ lookup (l.same n) D)
      → ((n : N) → is_need l t q.0 n ≡ true → is_sound_in l D n ≡ true) → step l t store P q ≡ step l t store D q
  step_same P D q alike sound =
      let first : first_bad l t q.0 P (order l t) ≡ first_bad l t q.0 D (order l t) =
      none_bad P q.0 (order l t) (λ n need. ap (λ o. option_map_or is_sound o false) (alike n need) ∙ sound n need) ∙ sym (none_bad D q.0 (order l t) sound) in
      let stage : Option N → List (N × B) → Judged N B E R = λ b env. option_map_or (λ e. record { how = Graph; outcome = Failed e }) (l.errors t q.0 q.1)
      (option_map_or (λ n. record { how = Behind n; outcome = Blocked n }) b (reused l t q env (lookup (l.same q.0) store))) in
      ap (λ b. stage b (environment l t q.0 P t.sources)) first ∙ ap (λ env. stage (first_bad l t q.0 D (order l t)) env) (environment_same P D q.0 t.sources alike)

  pub at_split : IsExact l → (before : List (N × S)) (q : N × S) (after : List (N × S)) → order l t ≡ before ++ q ∷ after → AllByRecursion (λ p. l.same q.0 p.0 ≡ false) before
      → lookup (l.same q.0) built ≡ Some (step l t store (outcomes (results l t store [] before)) q)
  at_split exact before q after e once =
      let P = results l t store [] before in
      let j = step l t store (outcomes P) q in
      let all : built ≡ results l t store (P ++ (q.0, j) ∷ []) after = ap (results l t store []) e ∙ results_app l t store [] before (q ∷ after) in
      let here : lookup (l.same q.0) (P ++ (q.0, j) ∷ []) ≡ Some j = not_in_front (l.same q.0) P ((q.0, j) ∷ []) (results_none l t store before [] q.0 refl once) ∙ look_yes (l.same q.0) (q.0, j) [] (exact.itself q.0) in
      ap (lookup (l.same q.0)) all ∙ results_keep l t store after (P ++ (q.0, j) ∷ []) q.0 j here

  -- the result of a node whose needs are sound, from any results of theirs that are the build's
  pub at_place : IsExact l → (q : N × S) (D : List (N × Judged N B E R)) → HasPlace l t q → ((m : N) (r : Judged N B E R) → lookup (l.same m) D ≡ Some r → lookup (l.same m) built ≡ Some r) → IsReady l t D q.0
      → lookup (l.same q.0) built ≡ Some (step l t store (outcomes D) q)
  at_place exact q D pl good ready =
      let P = results l t store [] pl.before in
      let all : built ≡ results l t store P (q ∷ pl.after) = ap (results l t store []) pl.whole ∙ results_app l t store [] pl.before (q ∷ pl.after) in
      let alike : (n : N) → is_need l t q.0 n ≡ true → lookup (l.same n) (outcomes P) ≡ lookup (l.same n) (outcomes D) = λ n need.
      let s = results_some l t store pl.before [] n (pl.behind n need) in
      let d = judged_found (l.same n) D (ready n need) in
      let there : lookup (l.same n) built ≡ Some s.0 = ap (lookup (l.same n)) all ∙ results_keep l t store (q ∷ pl.after) P n s.0 s.1 in
      let one : Some s.0 ≡ Some d.0 = sym there ∙ good n d.0 d.1 in
      lookup_outcomes (l.same n) P s.0 s.1 ∙ ap (λ (o : Option (Judged N B E R)). option_map_or (λ j. Some j.outcome) o None) one ∙ sym (lookup_outcomes (l.same n) D d.0 d.1) in
      at_split exact pl.before q pl.after pl.whole pl.once ∙ ap (λ j. Some j) (step_same (outcomes P) (outcomes D) q alike ready)

  distinct_front : (ks bs : List (N × S)) (q : N × S) → AreDistinct l (ks ++ q ∷ bs) → AllByRecursion (λ p. p.0 ≡ q.0 → ⊥) ks
  distinct_front [] bs q d = tt
  distinct_front (k ∷ ks) bs q d = (all_at (λ g. k.0 ≡ g.0 → ⊥) (ks ++ q ∷ bs) q (in_back ks q bs) d.0, distinct_front ks bs q d.1)

  -- a node stands once in the order
  pub once_before : IsExact l → AreDistinct l t.sources → (before : List (N × S)) (q : N × S) (after : List (N × S)) → order l t ≡ before ++ q ∷ after → AllByRecursion (λ p. l.same q.0 p.0 ≡ false) before
  once_before exact d before q after e =
      all_map (λ p. p.0 ≡ q.0 → ⊥) (λ p. l.same q.0 p.0 ≡ false) before
      (λ p h. both_ways (l.same q.0 p.0) (λ y. absurd (h (sym (exact.tells q.0 p.0 y)))) (λ y. y))
      (distinct_front before after q (subst (AreDistinct l) e (distinct_shuffled l (order_is_whole l t) d)))

  -- a node that stands behind its needs wherever it stands has its place
  pub has_place : IsExact l → AreDistinct l t.sources → (q : N × S) → IsIn q t.sources → IsPlaced l t q.0 → HasPlace l t q
  has_place exact d q i placed =
      let s = split_at (order l t) q (in_shuffled q (order_is_whole l t) i) in
      record { before = s.0; after = s.1; whole = s.2; once = once_before exact d s.0 q s.1 s.2; behind = λ n need. placed s.0 q s.1 s.2 refl n need }

  -- a node with graph errors fails by them
  pub graph_at : IsExact l → AreDistinct l t.sources → (q : N × S) (e : E) → IsIn q t.sources → l.errors t q.0 q.1 ≡ Some e → lookup (l.same q.0) built ≡ Some (record { how = Graph; outcome = Failed e })
  graph_at exact d q e i f =
      let s = split_at (order l t) q (in_shuffled q (order_is_whole l t) i) in
      let P = outcomes (results l t store [] s.0) in
      let told : step l t store P q ≡ record { how = Graph; outcome = Failed e } =
      ap (λ x. option_map_or (λ e. record { how = Graph; outcome = Failed e }) x
      (option_map_or (λ n. record { how = Behind n; outcome = Blocked n }) (first_bad l t q.0 P (order l t)) (reused l t q (environment l t q.0 P t.sources) (lookup (l.same q.0) store)))) f in
      at_split exact s.0 q s.1 s.2 (once_before exact d s.0 q s.1 s.2) ∙ ap (λ j. Some j) told

-- What the imports of a node offer, once all its needs are sound.
use Rattle.std.proofs.Common.{◌≡◌, ℕ, zero, suc, ◌<◌, ◌≤◌, Bool, true, false, ◌||◌, cond, List, [], ◌∷◌, ◌++◌, length, refl, ap, sym, ◌∙◌, subst, inl, inr, Some, None, append_assoc, arith, nat_lt}
use Rattle.std.specs.Prelude.{slice_get, position}
use Rattle.std.specs.declared.option.Option.{Option}
use Rattle.std.specs.Option.{option_map, option_map_or, option_to_list}
use Rattle.std.specs.List.{list_any, AllByRecursion}
use Rattle.std.specs.Map.{lookup}
use Rattle.std.proofs.lemmas.Bool.Decides.{nat_tests}
use Rattle.std.proofs.lemmas.Option.{same_Some, slice_get-map}
use Rattle.mk_base.specs.declared.name.Node.{Node}
use Rattle.mk_base.specs.declared.diag.Diag.{Diag}
use Rattle.hs_syntax.specs.declared.header.ImportItem.{ImportItem}
use Rattle.build_theory.specs.Build.{Outcome, Sound, Failed, Blocked, outcomes, is_sound, is_need, is_sound_in, interface_in, environment}
use Rattle.build_theory.specs.Laws.{IsIn, AreDistinct}
use Rattle.build_theory.proofs.Lists.{both_ways, differ, or_false, look_yes, look_no}
use Rattle.mod_graph.specs.Names.{same_node}
use Rattle.mod_graph.specs.Graph.{Input, View, Tree, Package, Prim, view_of}
use Rattle.mod_graph.proofs.NodeTests.{node_itself, nodes_tell}
use Rattle.mod_graph.proofs.Numbering.{any_with, finds, found_at}
use Rattle.plain_scope.specs.declared.scope.Content.{Content}
use Rattle.plain_scope.specs.Scope.{contents_at}
use Rattle.build_plan.specs.Tree.{planning, input_of, nodes_of}
use Rattle.build_plan.specs.Positions.{before_place, import_places, node_place, one_place, seen_place, view_by}
use Rattle.plain_build.specs.Plain.{PlainTree, plain, imported, content_seen}
use Rattle.plain_build.specs.Result.{PlainJudged}
use Rattle.plain_build.specs.Done.{AreContents, IsContent}
use Rattle.plain_build.proofs.Needs.{Stands, standing, not_yet}
use Rattle.build_plan.proofs.Ordering.{source_from}
use Rattle.build_plan.proofs.Spots.{in_at}

abbrev Sources : Type 0
Sources = List (Node × List ℕ)

abbrev Results : Type 0
Results = List (Node × PlainJudged)

abbrev Outcomes : Type 0
Outcomes = List (Node × Outcome Node Content (List Diag))

abbrev Found : Type 0
Found = Option (Outcome Node Content (List Diag))

passed_by : (n m : Node) (b : Bool) (o : Found) (rest : List (Node × Content)) → same_node n m ≡ false → lookup (same_node n) (cond b (interface_in plain m o) [] ++ rest) ≡ lookup (same_node n) rest
passed_by n m false o rest e = refl
passed_by n m true None rest e = refl
passed_by n m true (Some (Sound c)) rest e = look_no (same_node n) (m, c) rest e
passed_by n m true (Some (Failed ds)) rest e = refl
passed_by n m true (Some (Blocked k)) rest e = refl

-- a need that is sound is in the environment
pub env_at : (t : PlainTree) (m n : Node) (c : Content) (done : Outcomes) (qs : Sources) → list_any (λ q. same_node n q.0) qs ≡ true → is_need plain t m n ≡ true
    → lookup (same_node n) done ≡ Some (Sound c) → lookup (same_node n) (environment plain t m done qs) ≡ Some c
env_at t m n c done [] i need e = absurd (differ (sym i))
env_at t m n c done (q ∷ qs) i need e =
    let rest : List (Node × Content) = environment plain t m done qs in
    both_ways (same_node n q.0)
    (λ h.
    let at : n ≡ q.0 = nodes_tell n q.0 h in
    let here : environment plain t m done (q ∷ qs) ≡ (n, c) ∷ rest =
    sym (ap (λ k. cond (is_need plain t m k) (interface_in plain k (lookup (same_node k) done)) [] ++ rest) at)
    ∙ ap (λ b. cond b (interface_in plain n (lookup (same_node n) done)) [] ++ rest) need
    ∙ ap (λ o. interface_in plain n o ++ rest) e in
    ap (lookup (same_node n)) here ∙ look_yes (same_node n) (n, c) rest (node_itself n))
    (λ h. passed_by n q.0 (is_need plain t m q.0) (lookup (same_node q.0) done) rest h
    ∙ env_at t m n c done qs (or_false (same_node n q.0) (list_any (λ q. same_node n q.0) qs) h i) need e)

no_interface : (b : Bool) (m : Node) (rest : List (Node × Content)) → cond b (interface_in plain m None) [] ++ rest ≡ rest
no_interface true m rest = refl
no_interface false m rest = refl

-- what isn't done isn't in it
env_without : (t : PlainTree) (m n : Node) (done : Outcomes) (qs : Sources) → lookup (same_node n) done ≡ None → lookup (same_node n) (environment plain t m done qs) ≡ None
env_without t m n done [] e = refl
env_without t m n done (q ∷ qs) e =
    let rest : List (Node × Content) = environment plain t m done qs in
    both_ways (same_node n q.0)
    (λ h.
    let gone : lookup (same_node q.0) done ≡ None = subst (λ k. lookup (same_node k) done ≡ None) (nodes_tell n q.0 h) e in
    ap (λ o. lookup (same_node n) (cond (is_need plain t m q.0) (interface_in plain q.0 o) [] ++ rest)) gone
    ∙ ap (lookup (same_node n)) (no_interface (is_need plain t m q.0) q.0 rest)
    ∙ env_without t m n done qs e)
    (λ h. passed_by n q.0 (is_need plain t m q.0) (lookup (same_node q.0) done) rest h ∙ env_without t m n done qs e)

-- a node that isn't in the order isn't done
none_done : (js : Results) (qs : Sources) (n : Node) → Stands js qs → list_any (same_node n) (nodes_of qs) ≡ false → lookup (same_node n) (outcomes js) ≡ None
none_done [] qs n s e = refl
none_done (j ∷ js) [] n s e = absurd s
none_done (j ∷ js) (q ∷ qs) n s e =
    both_ways (same_node n q.0)
    (λ h. absurd (differ (sym (ap (λ b. b || list_any (same_node n) (nodes_of qs)) h) ∙ e)))
    (λ h. look_no (same_node n) (j.0, j.1.outcome) (outcomes js) (ap (same_node n) s.0 ∙ h)
    ∙ none_done js qs n s.1 (sym (ap (λ b. b || list_any (same_node n) (nodes_of qs)) h) ∙ e))

unplaced : (n : Node) (ns : List Node) → position (same_node n) ns ≡ None → list_any (same_node n) ns ≡ false
unplaced n ns e = both_ways (list_any (same_node n) ns)
    (λ h.
    let s = any_with (same_node n) ns h in
    let f = finds (same_node n) ns s.0 s.1 s.2 s.3 in
    absurd (let g : None ≡ Some f.0 = sym e ∙ f.1 in let k : ⊥ = cc in k))
    (λ h. h)

content_of_sound : (c : Content) (o : Outcome Node Content (List Diag)) → IsContent c o → is_sound o ≡ true → o ≡ Sound c
content_of_sound c (Sound b) h e = ap (λ x. Sound x) (sym h)
content_of_sound c (Failed ds) h e = absurd (differ (sym e))
content_of_sound c (Blocked n) h e = absurd (differ (sym e))

-- the content that is kept of a sound node
content_there : (cs : List Content) (js : Results) (k : ℕ) (j : Node × PlainJudged) → AreContents cs js → slice_get js k ≡ Some j → is_sound j.1.outcome ≡ true → (c : Content) × (slice_get cs k ≡ Some c) × (j.1.outcome ≡ Sound c)
content_there [] [] k j a e b = absurd (let h : ⊥ = cc in h)
content_there [] (i ∷ js) k j a e b = absurd a
content_there (c ∷ cs) [] k j a e b = absurd a
content_there (c ∷ cs) (i ∷ js) zero j a e b =
    let at : i ≡ j = same_Some i j e in
    (c, refl, content_of_sound c j.1.outcome (subst (λ (x : Node × PlainJudged). IsContent c x.1.outcome) at a.0) b)
content_there (c ∷ cs) (i ∷ js) (suc k) j a e b = content_there cs js k j a.1 e b

pub contents_count : (cs : List Content) (js : Results) → AreContents cs js → length cs ≡ length js
contents_count [] [] a = refl
contents_count [] (j ∷ js) a = absurd a
contents_count (c ∷ cs) [] a = absurd a
contents_count (c ∷ cs) (j ∷ js) a = ap suc (contents_count cs js a.1)

below_test : (k n : ℕ) → nat_lt k n ≡ true → k < n
below_test k n e = grind (arith, nat_tests)

above_test : (k n : ℕ) → nat_lt k n ≡ false → n ≤ k
above_test k n e = grind (arith, nat_tests)

-- each place that is given is before this one
one_within : (n : ℕ) (o : Option ℕ) → AllByRecursion (λ k. k < n) (one_place (before_place n o))
one_within n None = tt
one_within n (Some k) = both_ways (nat_lt k n)
    (λ e. subst (λ b. AllByRecursion (λ k. k < n) (one_place (cond b (Some k) None))) (sym e) (below_test k n e, tt))
    (λ e. subst (λ b. AllByRecursion (λ k. k < n) (one_place (cond b (Some k) None))) (sym e) tt)

all_join : (P : ℕ → Type 0) (xs ys : List ℕ) → AllByRecursion P xs → AllByRecursion P ys → AllByRecursion P (xs ++ ys)
all_join P [] ys h k = k
all_join P (x ∷ xs) ys h k = (h.0, all_join P xs ys h.1 k)

pub places_within : (i : Input) (ns : List Node) (n : ℕ) (ys : List ImportItem) → AllByRecursion (λ k. k < n) (import_places i ns n ys)
places_within i ns n [] = tt
places_within i ns n (y ∷ ys) =
    all_join (λ k. k < n) (one_place (seen_place i ns n y.module.text)) (import_places i ns n ys) (one_within n (node_place ns (view_by i (slice_get ns n) y.module.text))) (places_within i ns n ys)

contents_join : (cs : List Content) (ps rs : List ℕ) → contents_at cs (ps ++ rs) ≡ contents_at cs ps ++ contents_at cs rs
contents_join cs [] rs = refl
contents_join cs (p ∷ ps) rs = ap (λ l. option_to_list (slice_get cs p) ++ l) (contents_join cs ps rs) ∙ sym (append_assoc (option_to_list (slice_get cs p)) (contents_at cs ps) (contents_at cs rs))

module _ (t : PlainTree) (js : Results) (qs : Sources) (stands : Stands js qs) (apart : AreDistinct planning qs) (whole : (q : Node × List ℕ) → IsIn q qs → list_any (λ (p : Node × List ℕ). same_node q.0 p.0) t.sources ≡ true)
    (cs : List Content) (contents : AreContents cs js) (n : ℕ) (many : length js ≡ n) (a : Node × List ℕ) (here : slice_get qs n ≡ Some a)
    (sound : (q : Node × List ℕ) → IsIn q qs → is_need plain t a.0 q.0 ≡ true → is_sound_in plain (outcomes js) q.0 ≡ true) where
  abbrev env : List (Node × Content)
  env = environment plain t a.0 (outcomes js) t.sources

  abbrev ns : List Node
  ns = nodes_of qs

  -- a node before this one that is needed offers its content
  before_seen : (k : ℕ) (q : Node × List ℕ) → slice_get qs k ≡ Some q → k < n → is_need plain t a.0 q.0 ≡ true → option_to_list (lookup (same_node q.0) env) ≡ contents_at cs (k ∷ [])
  before_seen k q e lt need =
      let j = standing js qs stands apart k q (omega arith) e in
      let good : is_sound j.0.1.outcome ≡ true = sym (ap (λ o. option_map_or is_sound o false) j.2) ∙ sound q (in_at qs k q e) need in
      let c = content_there cs js k j.0 contents j.1 good in
      ap option_to_list (env_at t a.0 q.0 c.0 (outcomes js) t.sources (whole q (in_at qs k q e)) need (j.2 ∙ ap (λ o. Some o) c.2))
      ∙ sym (ap (λ (o : Option Content). option_to_list o ++ []) c.1)

  -- any other node offers nothing
  after_seen : (k : ℕ) (q : Node × List ℕ) → slice_get qs k ≡ Some q → n ≤ k → option_to_list (lookup (same_node q.0) env) ≡ []
  after_seen k q e le = ap option_to_list (env_without t a.0 q.0 (outcomes js) t.sources (not_yet js qs stands apart k q (omega arith) e))

  placed_seen : (d : Node) (k : ℕ) → slice_get ns k ≡ Some d → (k < n → is_need plain t a.0 d ≡ true) → (b : Bool) → nat_lt k n ≡ b → option_to_list (lookup (same_node d) env) ≡ contents_at cs (one_place (cond b (Some k) None))
  placed_seen d k e need true lt =
      let q = source_from qs k d e in
      subst (λ x. option_to_list (lookup (same_node x) env) ≡ contents_at cs (k ∷ [])) q.2
      (before_seen k q.0 q.1 (below_test k n lt) (subst (λ x. is_need plain t a.0 x ≡ true) (sym q.2) (need (below_test k n lt))))
  placed_seen d k e need false ge =
      let q = source_from qs k d e in
      subst (λ x. option_to_list (lookup (same_node x) env) ≡ []) q.2 (after_seen k q.0 q.1 (above_test k n ge))

  tree_seen : (d : Node) (o : Option ℕ) → position (same_node d) ns ≡ o → ((k : ℕ) → slice_get ns k ≡ Some d → k < n → is_need plain t a.0 d ≡ true)
      → option_to_list (lookup (same_node d) env) ≡ contents_at cs (one_place (before_place n o))
  tree_seen d None e need = ap option_to_list (env_without t a.0 d (outcomes js) t.sources (none_done js qs d stands (unplaced d ns e)))
  tree_seen d (Some k) e need =
      let f = found_at (same_node d) ns k e in
      let at : slice_get ns k ≡ Some d = f.1 ∙ ap (λ x. Some x) (sym (nodes_tell d f.0 f.2)) in
      placed_seen d k at (need k at) (nat_lt k n) refl

  view_seen : (v : Option View) → ((d : Node) → v ≡ Some (Tree d) → (k : ℕ) → slice_get ns k ≡ Some d → k < n → is_need plain t a.0 d ≡ true) → content_seen env v ≡ contents_at cs (one_place (before_place n (node_place ns v)))
  view_seen None need = refl
  view_seen (Some (Tree d)) need = tree_seen d (position (same_node d) ns) refl (need d refl)
  view_seen (Some (Package p)) need = refl
  view_seen (Some Prim) need = refl

  -- what the imports of a node offer is kept at their places
  pub imported_is : (ys : List ImportItem)
      → ((y : ImportItem) → IsIn y ys → (d : Node) → view_of (input_of t) a.0 y.module.text ≡ Some (Tree d) → (k : ℕ) → slice_get ns k ≡ Some d → k < n → is_need plain t a.0 d ≡ true)
      → imported t a.0 env ys ≡ contents_at cs (import_places (input_of t) ns n ys)
  imported_is [] need = refl
  imported_is (y ∷ ys) need =
      let own : slice_get ns n ≡ Some a.0 = slice_get-map (λ (q : Node × List ℕ). q.0) qs n ∙ ap (option_map (λ (q : Node × List ℕ). q.0)) here in
      let at : seen_place (input_of t) ns n y.module.text ≡ before_place n (node_place ns (view_of (input_of t) a.0 y.module.text)) =
      ap (λ (o : Option Node). before_place n (node_place ns (view_by (input_of t) o y.module.text))) own in
      let first : content_seen env (view_of (input_of t) a.0 y.module.text) ≡ contents_at cs (one_place (seen_place (input_of t) ns n y.module.text)) =
      view_seen (view_of (input_of t) a.0 y.module.text) (need y (inl refl)) ∙ ap (λ (o : Option ℕ). contents_at cs (one_place o)) (sym at) in
      ap (λ (l : List Content). l ++ imported t a.0 env ys) first
      ∙ ap (λ (l : List Content). contents_at cs (one_place (seen_place (input_of t) ns n y.module.text)) ++ l) (imported_is ys (λ z i. need z (inr i)))
      ∙ sym (contents_join cs (one_place (seen_place (input_of t) ns n y.module.text)) (import_places (input_of t) ns n ys))

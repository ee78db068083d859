-- The build of one more node.
use Rattle.std.proofs.Common.{◌^◌, ◌≡◌, ℕ, zero, suc, ◌+◌, ◌<◌, ◌≤◌, Bool, true, false, ◌&&◌, not, List, [], ◌∷◌, ◌++◌, length, take, refl, ap, sym, ◌∙◌, subst, Some, None, arith, add-one, length-append}
use Rattle.std.specs.Prelude.{slice_get, filter, nat_eq, Result, Ok, Err}
use Rattle.std.specs.declared.option.Option.{Option}
use Rattle.std.specs.Option.{option_map_or, option_map, option_to_list}
use Rattle.std.specs.List.{AllByRecursion}
use Rattle.std.proofs.lemmas.List.{map-append}
use Rattle.std.proofs.lemmas.Option.{same_Some, slice_get-map, slice_get_within}
use Rattle.mk_base.specs.declared.name.Node.{Node}
use Rattle.mk_base.specs.declared.diag.Diag.{Diag}
use Rattle.mk_base.specs.declared.place.NodeId.{NodeId}
use Rattle.hs_syntax.specs.declared.header.ImportItem.{ImportItem}
use Rattle.face_model.specs.declared.result.Reason.TheVariants.{NoInterface}
use Rattle.face_model.specs.declared.result.How.TheVariants as how
use Rattle.face_model.specs.declared.result.NodeResult.{NodeResult}
use Rattle.build_theory.specs.Build.{Sound, Failed, Blocked, Checked, Graph, Behind, outcomes, is_sound, of_check, is_need, is_sound_in, first_bad, environment, order, results}
use Rattle.build_theory.specs.Laws.{IsIn, AreDistinct}
use Rattle.build_theory.proofs.Lists.{both_ways, all_at}
use Rattle.build_theory.proofs.Fold.{results_app}
use Rattle.numbered_nodes.proofs.Booleans.{is_other}
use Rattle.mod_graph.specs.Edges.{needs_node}
use Rattle.mod_graph.specs.Graph.{Tree, entries, ids, needs_in, needs_place, view_of, errors_by}
use Rattle.mod_graph.proofs.Numbering.{element_at}
use Rattle.plain_scope.specs.declared.scope.Content.{Content}
use Rattle.plain_scope.specs.Scope.{contents_at}
use Rattle.plain_scope.specs.Offered.{IsSound, Fits}
use Rattle.plain_build.specs.declared.done.Done.{Done}
use Rattle.unbuilt_forms.specs.Unbuilt.{is_told}
use Rattle.module_check.specs.Check.{check}
use Rattle.module_check.specs.Laws.{IsShortContent}
use Rattle.module_check.proofs.Fitting.{checks_fit}
use Rattle.build_plan.specs.Tree.{planning, imports_of, input_of, graph_errors, unless_none, nodes_of, ordered}
use Rattle.build_plan.specs.Plan.{IsShortNode, IsStanding}
use Rattle.build_plan.specs.Positions.{import_places}
use Rattle.plain_build.specs.Plain.{PlainTree, check_settings, plain, imported}
use Rattle.plain_build.specs.Result.{PlainJudged, IsResult, AreResults, is_checked}
use Rattle.plain_build.specs.Soundness.{first_unsound}
use Rattle.plain_build.specs.NodeResults.{empty_content, checked_how, result_of, HasSound}
use Rattle.plain_build.specs.Done.{IsUnblocked, IsContent, AreContents, IsDone, judged_before, judged_next, soundness}
use Rattle.build_plan.proofs.Alls.{all_join, all_last}
use Rattle.build_plan.proofs.Entries.{source_number}
use Rattle.build_plan.proofs.Ordering.{source_from, ordered_apart, in_sources, is_source}
use Rattle.plain_build.proofs.Order.{order_same}
use Rattle.plain_build.proofs.Env.{contents_count, imported_is, places_within}
use Rattle.plain_build.proofs.Needs.{Stands, none_bad, need_at, first_bad_is, place_node, unsound_within}
use Rattle.build_plan.proofs.NoErrors as faults
use Rattle.build_plan.proofs.Spots.{in_at, at_in}
use Rattle.build_plan.proofs.Views.{seen_needed}

abbrev Sources : Type 0
Sources = List (Node × List ℕ)

abbrev Results : Type 0
Results = List (Node × PlainJudged)

take_next : {X : Type 0} (xs : List X) (n : ℕ) (x : X) → slice_get xs n ≡ Some x → take (suc n) xs ≡ take n xs ++ x ∷ []
take_next [] n x e = absurd (let h : ⊥ = cc in h)
take_next (y ∷ ys) zero x e = ap (λ z. z ∷ []) (same_Some y x e)
take_next (y ∷ ys) (suc n) x e = ap (λ l. y ∷ l) (take_next ys n x e)

pub before_next : (t : PlainTree) (n : ℕ) (a : Node × List ℕ) → slice_get (ordered t) n ≡ Some a → judged_before t (suc n) ≡ judged_before t n ++ (a.0, judged_next t a n) ∷ []
unfolding judged_before judged_next
before_next t n a e = ap (results plain t [] []) (take_next (ordered t) n a e) ∙ results_app plain t [] [] (take n (ordered t)) (a ∷ [])

stands_more : (js : Results) (qs : Sources) (a : Node × List ℕ) (r : PlainJudged) → Stands js qs → slice_get qs (length js) ≡ Some a → Stands (js ++ (a.0, r) ∷ []) qs
stands_more [] [] a r s e = absurd (let h : ⊥ = cc in h)
stands_more [] (q ∷ qs) a r s e = (ap (λ (z : Node × List ℕ). z.0) (sym (same_Some q a e)), tt)
stands_more (j ∷ js) [] a r s e = absurd s
stands_more (j ∷ js) (q ∷ qs) a r s e = (s.0, stands_more js qs a r s.1 e)

pub before_none : (t : PlainTree) → judged_before t zero ≡ []
unfolding judged_before
before_none t = refl

-- as many results as nodes are taken, and of these
pub stood : (t : PlainTree) (n : ℕ) → n ≤ length (ordered t) → (length (judged_before t n) ≡ n) × Stands (judged_before t n) (ordered t)
stood t zero h = (ap length (before_none t), subst (λ js. Stands js (ordered t)) (sym (before_none t)) tt)
stood t (suc n) h =
    let f = element_at (ordered t) n (omega arith) in
    let s = stood t n (omega arith) in
    let e : judged_before t (suc n) ≡ judged_before t n ++ (f.0.0, judged_next t f.0 n) ∷ [] = before_next t n f.0 f.1 in
    let count : length (judged_before t n ++ (f.0.0, judged_next t f.0 n) ∷ []) ≡ length (judged_before t n) + 1 = length-append (judged_before t n) ((f.0.0, judged_next t f.0 n) ∷ []) in
    let all : length (judged_before t (suc n)) ≡ suc n = ap length e ∙ count ∙ ap (λ k. k + 1) s.0 ∙ add-one n in
    (all, subst (λ js. Stands js (ordered t)) (sym e) (stands_more (judged_before t n) (ordered t) f.0 (judged_next t f.0 n) s.1 (subst (λ k. slice_get (ordered t) k ≡ Some f.0) (sym s.0) f.1)))

results_more : (unit : List ℕ) (ns : List Node) (rs : List NodeResult) (js : Results) (r : NodeResult) (j : Node × PlainJudged) → AreResults unit ns rs js → IsResult unit ns r j → AreResults unit ns (rs ++ r ∷ []) (js ++ j ∷ [])
results_more unit ns [] [] r j h k = (k, tt)
results_more unit ns [] (i ∷ js) r j h k = absurd h
results_more unit ns (s ∷ rs) [] r j h k = absurd h
results_more unit ns (s ∷ rs) (i ∷ js) r j h k = (h.0, results_more unit ns rs js r j h.1 k)

contents_more : (cs : List Content) (js : Results) (c : Content) (j : Node × PlainJudged) → AreContents cs js → IsContent c j.1.outcome → AreContents (cs ++ c ∷ []) (js ++ j ∷ [])
contents_more [] [] c j h k = (k, tt)
contents_more [] (i ∷ js) c j h k = absurd h
contents_more (d ∷ cs) [] c j h k = absurd h
contents_more (d ∷ cs) (i ∷ js) c j h k = (h.0, contents_more cs js c j h.1 k)

unless_some : (ds : List Diag) → (ds ≡ [] → ⊥) → unless_none ds ≡ Some ds
unless_some [] h = absurd (h refl)
unless_some (d ∷ ds) h = refl

-- the result of a node that has no graph errors, where this is the order
abbrev behind : (t : PlainTree) → ℕ → Node × List ℕ → Sources → PlainJudged
behind t n a qs = option_map_or (λ n. record { how = Behind n; outcome = Blocked n }) (first_bad plain t a.0 (outcomes (judged_before t n)) qs)
    (record { how = Checked NoInterface; outcome = of_check (check (check_settings t.settings) a.0 a.1 (imported t a.0 (environment plain t a.0 (outcomes (judged_before t n)) t.sources) (imports_of t.settings a.0 a.1))) })

-- where a node has graph errors, and where it has none
step_graph : (t : PlainTree) (n : ℕ) (a : Node × List ℕ) (ds : List Diag) → graph_errors t a.0 ≡ Some ds → judged_next t a n ≡ record { how = Graph; outcome = Failed ds }
unfolding judged_next
step_graph t n a ds e = ap (λ o. option_map_or (λ e. record { how = Graph; outcome = Failed e }) o (behind t n a (order plain t))) e

step_free : (t : PlainTree) (n : ℕ) (a : Node × List ℕ) → graph_errors t a.0 ≡ None → judged_next t a n ≡ behind t n a (ordered t)
unfolding judged_next
step_free t n a e = ap (λ o. option_map_or (λ e. record { how = Graph; outcome = Failed e }) o (behind t n a (order plain t))) e ∙ ap (behind t n a) (order_same t)

abbrev pub ok_content : Content → Result Content (List Diag)
ok_content c = Ok c

abbrev pub err_diags : List Diag → Result Content (List Diag)
err_diags ds = Err ds

short_one : (P : Content → Type 0) (o : Option Content) → ((c : Content) → o ≡ Some c → P c) → AllByRecursion P (option_to_list o)
short_one P None h = tt
short_one P (Some c) h = (h c refl, tt)

short_at : (P : Content → Type 0) (cs : List Content) (places : List ℕ) → AllByRecursion P cs → AllByRecursion P (contents_at cs places)
short_at P cs [] h = tt
short_at P cs (i ∷ is) h = all_join P (option_to_list (slice_get cs i)) (contents_at cs is) (short_one P (slice_get cs i) (λ c e. all_at P cs c (in_at cs i c e) h)) (short_at P cs is h)

module _ (t : PlainTree) (fine : IsStanding t) (n : ℕ) (a : Node × List ℕ) (here : slice_get (ordered t) n ≡ Some a) where
  abbrev before : Results
  before = judged_before t n

  many : length before ≡ n
  many = (stood t n (let h = slice_get_within (ordered t) n a here in omega arith)).0

  stand : Stands before (ordered t)
  stand = (stood t n (let h = slice_get_within (ordered t) n a here in omega arith)).1

  apart : AreDistinct planning (ordered t)
  apart = ordered_apart t fine

  short_name : length a.0.module.text < 2 ^ 32
  short_name = all_at IsShortNode t.sources a (in_sources t a (in_at (ordered t) n a here)) fine.short

  spot : (k : ℕ) × (slice_get t.sources k ≡ Some a)
  spot = at_in t.sources a (in_sources t a (in_at (ordered t) n a here))

  -- the source of a node without graph errors has at most 1 MiB
  pub short_source : graph_errors t a.0 ≡ None → length a.1 ≤ 1048576
  short_source none = faults.small_source t fine.rising spot.0 a spot.1 none

  module _ (old : Done) (done : IsDone t old n) where
    -- the next node is done
    done_next : (new : Done) (r : NodeResult) (c : Content) (b : Bool) (j : PlainJudged) → judged_next t a n ≡ j → IsResult t.settings.unit (nodes_of (ordered t)) r (a.0, j) → IsContent c j.outcome → length c.module < 2 ^ 32
        → b ≡ is_sound j.outcome → new.results ≡ old.results ++ r ∷ [] → new.contents.items ≡ old.contents.items ++ c ∷ [] → new.sound.items ≡ old.sound.items ++ b ∷ [] → IsDone t new (n + 1)
    done_next new r c b j judged result content short kept rs cs bs =
        let e : judged_before t (n + 1) ≡ before ++ (a.0, j) ∷ [] = ap (judged_before t) (add-one n) ∙ before_next t n a here ∙ ap (λ (i : PlainJudged). before ++ (a.0, i) ∷ []) judged in
        record {
          results = subst (λ rs. AreResults t.settings.unit (nodes_of (ordered t)) rs (judged_before t (n + 1))) (sym rs)
              (subst (λ js. AreResults t.settings.unit (nodes_of (ordered t)) (old.results ++ r ∷ []) js) (sym e) (results_more t.settings.unit (nodes_of (ordered t)) old.results before r (a.0, j) done.results result));
          contents = subst (λ xs. AreContents xs (judged_before t (n + 1))) (sym cs) (subst (λ js. AreContents (old.contents.items ++ c ∷ []) js) (sym e) (contents_more old.contents.items before c (a.0, j) done.contents content));
          small = subst (λ xs. AllByRecursion (λ (c : Content). length c.module < 2 ^ 32) xs) (sym cs) (all_last (λ (c : Content). length c.module < 2 ^ 32) old.contents.items c done.small short);
          sound = bs ∙ ap (λ (l : List Bool). l ++ b ∷ []) done.sound ∙ ap (λ (x : Bool). soundness before ++ x ∷ []) kept
              ∙ sym (map-append (λ (j : Node × PlainJudged). is_sound j.1.outcome) before ((a.0, j) ∷ [])) ∙ sym (ap soundness e);
        }

    abbrev IsNext : Done → ℕ → Type 0
    IsNext new k = IsDone t new (n + 1) × (is_checked (judged_next t a n).how ≡ k)

    -- a node with graph errors
    pub next_graph : (new : Done) (ds : List Diag) → ds ≡ filter (is_told a.0) (errors_by (input_of t) a.0) → (ds ≡ [] → ⊥) → new.results ≡ old.results ++ result_of a.0 how.Graph ds None ∷ []
        → new.contents.items ≡ old.contents.items ++ empty_content ∷ [] → new.sound.items ≡ old.sound.items ++ false ∷ [] → IsNext new 0
    next_graph new ds e some rs cs bs =
        let j : PlainJudged = record { how = Graph; outcome = Failed ds } in
        let judged : judged_next t a n ≡ j = step_graph t n a ds (ap unless_none (sym e) ∙ unless_some ds some) in (
          done_next new (result_of a.0 how.Graph ds None) empty_content false j judged (refl, tt, (refl, refl)) tt (omega arith) refl rs cs bs,
          ap (λ (i : PlainJudged). is_checked i.how) judged,
        )

    module _ (needs : List NodeId) (are : ids needs ≡ needs_in (entries (input_of t)) (nodes_of (ordered t)) n a.0) where
      bad_is : first_bad plain t a.0 (outcomes before) (ordered t) ≡ place_node (ordered t) (option_map (λ (n : NodeId). n.0) (first_unsound old.sound.items needs))
      bad_is =
          first_bad_is t before (ordered t) stand apart (is_source t) n a here needs are
          ∙ ap (λ (bs : List Bool). place_node (ordered t) (option_map (λ (n : NodeId). n.0) (first_unsound bs needs))) (sym done.sound)

      -- a node all of whose needs are sound
      pub next_free : graph_errors t a.0 ≡ None → first_unsound old.sound.items needs ≡ None → IsUnblocked t a.0 n
      next_free none sound = record { no_errors = none; no_bad = bad_is ∙ ap (λ (o : Option NodeId). place_node (ordered t) (option_map (λ (n : NodeId). n.0) o)) sound }

      blocked_by : (p : NodeId) → first_unsound old.sound.items needs ≡ Some p → (o : Option (Node × List ℕ)) → slice_get (ordered t) p.0 ≡ o → first_bad plain t a.0 (outcomes before) (ordered t) ≡ option_map_or (λ (q : Node × List ℕ). Some q.0) o None
      blocked_by p sound o e = bad_is ∙ ap (λ (o : Option NodeId). place_node (ordered t) (option_map (λ (n : NodeId). n.0) o)) sound ∙ ap (λ (o : Option (Node × List ℕ)). option_map_or (λ (q : Node × List ℕ). Some q.0) o None) e

      -- a blocked node
      pub next_blocked : (new : Done) (p : NodeId) → graph_errors t a.0 ≡ None → first_unsound old.sound.items needs ≡ Some p → new.results ≡ old.results ++ result_of a.0 (how.Blocked p) [] None ∷ []
          → new.contents.items ≡ old.contents.items ++ empty_content ∷ [] → new.sound.items ≡ old.sound.items ++ false ∷ [] → IsNext new 0
      next_blocked new p none sound rs cs bs =
          let lt = unsound_within t before (ordered t) stand apart (is_source t) n a here needs are p (ap (λ (bs : List Bool). first_unsound bs needs) (sym done.sound) ∙ sound) in
          let k = element_at (ordered t) p.0 lt in
          let j : PlainJudged = record { how = Behind k.0.0; outcome = Blocked k.0.0 } in
          let judged : judged_next t a n ≡ j =
          step_free t n a none
          ∙ ap (λ o. option_map_or (λ n. record { how = Behind n; outcome = Blocked n }) o
          (record { how = Checked NoInterface; outcome = of_check (check (check_settings t.settings) a.0 a.1 (imported t a.0 (environment plain t a.0 (outcomes before) t.sources) (imports_of t.settings a.0 a.1))) })) (blocked_by p sound (Some k.0) k.1) in
          let at : slice_get (nodes_of (ordered t)) p.0 ≡ Some k.0.0 = slice_get-map (λ (q : Node × List ℕ). q.0) (ordered t) p.0 ∙ ap (option_map (λ (q : Node × List ℕ). q.0)) k.1 in (
            done_next new (result_of a.0 (how.Blocked p) [] None) empty_content false j judged (refl, at, (refl, refl)) tt (omega arith) refl rs cs bs,
            ap (λ (i : PlainJudged). is_checked i.how) judged,
          )

    abbrev places : List ℕ
    places = import_places (input_of t) (nodes_of (ordered t)) n (imports_of t.settings a.0 a.1)

    abbrev given : List Content
    given = contents_at old.contents.items places

    -- the places of the imports are those of nodes that are done
    pub imports_within : AllByRecursion (λ i. i < length old.contents.items) places
    imports_within =
        subst (λ m. AllByRecursion (λ i. i < m) places) (sym (contents_count old.contents.items before done.contents ∙ many)) (places_within (input_of t) (nodes_of (ordered t)) n (imports_of t.settings a.0 a.1))

    module _ (free : IsUnblocked t a.0 n) where
      sound_needs : (q : Node × List ℕ) → IsIn q (ordered t) → is_need plain t a.0 q.0 ≡ true → is_sound_in plain (outcomes before) q.0 ≡ true
      sound_needs q i need = none_bad t a.0 (outcomes before) (ordered t) free.no_bad q i need

      needed_at : (k : ℕ) (d : Node) → slice_get (nodes_of (ordered t)) k ≡ Some d → k < n → needs_node (entries (input_of t)) a.0 d ≡ true → is_need plain t a.0 d ≡ true
      needed_at k d e lt need =
          let q = source_from (ordered t) k d e in
          subst (λ x. is_need plain t a.0 x ≡ true) q.2
          (need_at t before (ordered t) stand apart (is_source t) n a here k q.0 q.1
          ∙ ap (λ (o : Option Node). not (nat_eq k n) && needs_place (entries (input_of t)) a.0 o) e
          ∙ ap (λ (b : Bool). not b && needs_node (entries (input_of t)) a.0 d) (is_other k n (λ h. omega arith))
          ∙ need)

      view_needed : a.0.boot ≡ false → (y : ImportItem) → IsIn y (imports_of t.settings a.0 a.1) → (d : Node) → view_of (input_of t) a.0 y.module.text ≡ Some (Tree d) → (k : ℕ) → slice_get (nodes_of (ordered t)) k ≡ Some d → k < n
          → is_need plain t a.0 d ≡ true
      view_needed real y i d v k e lt =
          let f = faults.found t fine.rising spot.0 a spot.1 free.no_errors in
          let s = at_in (faults.entry t fine.rising spot.0 a spot.1 free.no_errors).imports y (subst (IsIn y) (sym (faults.entry_imports t fine.rising spot.0 a spot.1 free.no_errors)) i) in
          let need = seen_needed (input_of t) spot.0 (faults.entry t fine.rising spot.0 a spot.1 free.no_errors) a.0 f.is (source_number t fine.rising spot.0 a spot.1) s.0 y s.1 (faults.faultless t fine.rising spot.0 a spot.1 free.no_errors real y i) d v in
          needed_at k d e lt need

      imported_here : imported t a.0 (environment plain t a.0 (outcomes before) t.sources) (imports_of t.settings a.0 a.1) ≡ given
      imported_here =
          imported_is t before (ordered t) stand apart (is_source t) old.contents.items done.contents n many a here sound_needs (imports_of t.settings a.0 a.1)
          (λ y i d v k e lt. both_ways a.0.boot
          (λ boot. absurd (subst (IsIn y) (faults.boot_imports t a boot) i))
          (λ real. view_needed real y i d v k e lt))

      pub checked_next : (r : Result Content (List Diag)) → r ≡ check (check_settings t.settings) a.0 a.1 given → judged_next t a n ≡ record { how = Checked NoInterface; outcome = of_check r }
      checked_next r e =
          step_free t n a free.no_errors
          ∙ ap (λ o. option_map_or (λ n. record { how = Behind n; outcome = Blocked n }) o
          (record { how = Checked NoInterface; outcome = of_check (check (check_settings t.settings) a.0 a.1 (imported t a.0 (environment plain t a.0 (outcomes before) t.sources) (imports_of t.settings a.0 a.1))) })) free.no_bad
          ∙ ap (λ r. record { how = Checked NoInterface; outcome = of_check r }) (ap (check (check_settings t.settings) a.0 a.1) imported_here ∙ sym e)

      -- what a sound node offers has its interface
      pub has_interface : (c : Content) → ok_content c ≡ check (check_settings t.settings) a.0 a.1 given → IsSound t.settings.unit c × Fits t.settings.unit c × (c.module ≡ a.0.module.text)
      has_interface c e =
          checks_fit (check_settings t.settings) a.0 a.1 given c fine.unit short_name (short_source free.no_errors) (short_at IsShortContent old.contents.items places done.small) (sym e)

      pub next_sound : (new : Done) (c : Content) → ok_content c ≡ check (check_settings t.settings) a.0 a.1 given → HasSound t.settings.unit a.0 c old.results new.results
          → new.contents.items ≡ old.contents.items ++ c ∷ [] → new.sound.items ≡ old.sound.items ++ true ∷ [] → IsNext new 1
      next_sound new c e rs cs bs =
          let j : PlainJudged = record { how = Checked NoInterface; outcome = Sound c } in
          let judged : judged_next t a n ≡ j = checked_next (ok_content c) e in (
            done_next new (result_of a.0 checked_how [] (Some rs.0)) c true j judged (refl, (refl, refl), (refl, rs.1)) refl
                (subst (λ m. length m < 2 ^ 32) (sym (has_interface c e).2) short_name) refl rs.2 cs bs,
            ap (λ (i : PlainJudged). is_checked i.how) judged,
          )

      pub next_wrong : (new : Done) (ds : List Diag) → err_diags ds ≡ check (check_settings t.settings) a.0 a.1 given → new.results ≡ old.results ++ result_of a.0 checked_how ds None ∷ []
          → new.contents.items ≡ old.contents.items ++ empty_content ∷ [] → new.sound.items ≡ old.sound.items ++ false ∷ [] → IsNext new 1
      next_wrong new ds e rs cs bs =
          let j : PlainJudged = record { how = Checked NoInterface; outcome = Failed ds } in
          let judged : judged_next t a n ≡ j = checked_next (err_diags ds) e in (
            done_next new (result_of a.0 checked_how ds None) empty_content false j judged (refl, (refl, refl), (refl, refl)) tt (omega arith) refl rs cs bs,
            ap (λ (i : PlainJudged). is_checked i.how) judged,
          )

-- The diagnostics of a node are in the order of their places.
use Rattle.std.specs.Prelude.{filter, if◌then◌else◌}
use Rattle.std.specs.List.{AllByRecursion}
use Rattle.std.specs.Option.{option_map_or}
use Rattle.std.specs.declared.option.Option.{Option}
use Rattle.std.specs.declared.cmp.Ordering.TheVariants.{Less}
use Rattle.std.proofs.Common.{◌≡◌, ℕ, Bool, true, false, List, [], ◌∷◌, ◌++◌, refl, subst, Some, None, Result, Ok, Err}
use Rattle.mk_base.specs.Order.{AreInOrder, diag_cmp}
use Rattle.mk_base.specs.declared.name.Node.{Node}
use Rattle.mk_base.specs.declared.diag.Diag.{Diag}
use Rattle.mod_graph.specs.Graph.{entries, errors_by}
use Rattle.mod_graph.proofs.InOrder.{errors_rise}
use Rattle.plain_scope.specs.declared.scope.Content.{Content}
use Rattle.face_model.specs.declared.result.Reason.TheVariants.{NoInterface}
use Rattle.build_theory.specs.Build.{Outcome, Failed, Blocked, Checked, Graph, Behind, environment, first_bad, of_check, order, outcomes, results, sorted, step}
use Rattle.unbuilt_forms.specs.Unbuilt.{is_told}
use Rattle.module_check.specs.Check.{check}
use Rattle.module_check.proofs.Ordered.{checks_are_ordered}
use Rattle.build_plan.specs.Tree.{graph_errors, imports_of, input_of, unless_none}
use Rattle.plain_build.specs.Plain.{PlainTree, check_settings, imported, plain}
use Rattle.plain_build.specs.Result.{PlainJudged, tree_of}
use Rattle.plain_build.specs.Ordered.{BuildsAreOrdered, HasOrdered}

-- the diagnostics of the graph stage that are told
one_filtered : (P : List Diag → Type 0) (b : Bool) (d : Diag) (ds : List Diag) → P (d ∷ ds) → P ds → P (if b then d ∷ ds else ds)
one_filtered P true d ds h k = h
one_filtered P false d ds h k = k

all_filtered : (P : Diag → Type 0) (p : Diag → Bool) (ds : List Diag) → AllByRecursion P ds → AllByRecursion P (filter p ds)
all_filtered P p [] h = tt
all_filtered P p (d ∷ ds) h = one_filtered (λ es. AllByRecursion P es) (p d) d (filter p ds) (h.0, all_filtered P p ds h.1) (all_filtered P p ds h.1)

filtered_ordered : (p : Diag → Bool) (ds : List Diag) → AreInOrder ds → AreInOrder (filter p ds)
filtered_ordered p [] h = tt
filtered_ordered p (d ∷ ds) h =
    let rest : AreInOrder (filter p ds) = filtered_ordered p ds h.1 in
    one_filtered AreInOrder (p d) d (filter p ds) (all_filtered (λ (e : Diag). diag_cmp d e ≡ Less) p ds h.0, rest) rest

unless_some : (xs ds : List Diag) → unless_none xs ≡ Some ds → xs ≡ ds
unless_some [] ds h = absurd (let k : ⊥ = cc in k)
unless_some (x ∷ xs) ds h = let k : x ∷ xs ≡ ds = cc in k

graph_ordered : (t : PlainTree) (n : Node) (ds : List Diag) → graph_errors t n ≡ Some ds → AreInOrder ds
graph_ordered t n ds h =
    subst AreInOrder (unless_some (filter (is_told n) (errors_by (input_of t) n)) ds h)
    (filtered_ordered (is_told n) (errors_by (input_of t) n) (errors_rise (entries (input_of t)) [] n))

-- the result of a node
abbrev stages : Option (List Diag) → Option Node → Result Content (List Diag) → PlainJudged
stages e b c = option_map_or (λ (ds : List Diag). record { how = Graph; outcome = Failed ds }) e (option_map_or (λ (n : Node). record { how = Behind n; outcome = Blocked n }) b (record { how = Checked NoInterface; outcome = of_check c }))

stages_ordered : (e : Option (List Diag)) (b : Option Node) (c : Result Content (List Diag)) → ((ds : List Diag) → e ≡ Some ds → AreInOrder ds) → ((ds : List Diag) → c ≡ Err ds → AreInOrder ds)
    → HasOrdered (stages e b c).outcome
stages_ordered (Some ds) b c f g = f ds refl
stages_ordered None (Some n) c f g = tt
stages_ordered None None (Ok c) f g = tt
stages_ordered None None (Err ds) f g = g ds refl

step_ordered : (t : PlainTree) (done : List (Node × Outcome Node Content (List Diag))) (q : Node × List ℕ) → HasOrdered (step plain t [] done q).outcome
step_ordered t done q =
    let cs : List Content = imported t q.0 (environment plain t q.0 done t.sources) (imports_of t.settings q.0 q.1) in
    stages_ordered (graph_errors t q.0) (first_bad plain t q.0 done (order plain t)) (check (check_settings t.settings) q.0 q.1 cs)
    (λ ds. graph_ordered t q.0 ds) (λ ds e. checks_are_ordered (check_settings t.settings) q.0 q.1 cs ds e)

abbrev AllOrdered : List (Node × PlainJudged) → Type 0
AllOrdered js = AllByRecursion (λ (j : Node × PlainJudged). HasOrdered j.1.outcome) js

all_push : (js : List (Node × PlainJudged)) (j : Node × PlainJudged) → AllOrdered js → HasOrdered j.1.outcome → AllOrdered (js ++ j ∷ [])
all_push [] j a h = (h, tt)
all_push (i ∷ js) j a h = (a.0, all_push js j a.1 h)

results_ordered : (t : PlainTree) (done : List (Node × PlainJudged)) (qs : List (Node × List ℕ)) → AllOrdered done → AllOrdered (results plain t [] done qs)
results_ordered t done [] a = a
results_ordered t done (q ∷ qs) a = results_ordered t (done ++ (q.0, step plain t [] (outcomes done) q) ∷ []) qs (all_push done (q.0, step plain t [] (outcomes done) q) a (step_ordered t (outcomes done) q))

pub builds_are_ordered : BuildsAreOrdered
builds_are_ordered input = results_ordered (sorted plain (tree_of input)) [] (order plain (sorted plain (tree_of input))) tt

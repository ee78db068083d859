-- What the exits of the build of a node are about.
use Rattle.std.proofs.Common.{◌≡◌, ℕ, ◌+◌, ◌<◌, Bool, List, [], length, refl, ap, sym, ◌∙◌, Some, None, arith}
use Rattle.std.specs.Prelude.{Result, Ok, Err, OnOk, filter, slice_get}
use Rattle.std.proofs.lemmas.List.{length-map}
use Rattle.std.specs.Option.{option_map}
use Rattle.std.specs.declared.option.Option.{Option}
use Rattle.std.proofs.lemmas.Option.{slice_get-map, slice_get_within}
use Rattle.mk_base.specs.declared.name.Node.{Node}
use Rattle.mk_base.specs.declared.diag.Diag.{Diag}
use Rattle.mod_graph.specs.declared.graph.Graph.{Graph}
use Rattle.mod_graph.specs.Graph.{Input, entries, errors_by, ids, needs_in}
use Rattle.mod_graph.specs.Kept.{IsGraph}
use Rattle.mk_base.specs.declared.place.NodeId.{NodeId}
use Rattle.plain_scope.specs.declared.scope.Content.{Content}
use Rattle.plain_scope.specs.Scope.{contents_at}
use Rattle.unbuilt_forms.specs.Unbuilt.{is_told}
use Rattle.module_check.specs.Check.{check}
use Rattle.module_check.specs.declared.check.CheckSettings.{CheckSettings}
use Rattle.plain_build.specs.declared.build.PlainBuild.{PlainBuild}
use Rattle.build_plan.specs.Tree as plan
use Rattle.build_plan.specs.Tree.{graph_errors, input_of, nodes_of, ordered, unless_none}
use Rattle.build_plan.specs.Plan.{IsPlanned}
use Rattle.plain_build.specs.Plain.{PlainTree, check_settings}
use Rattle.plain_build.specs.Soundness.{first_unsound}
use Rattle.plain_build.specs.Done.{sorted_tree}

pub tree_unit : (input : PlainBuild) → (sorted_tree input).settings.unit ≡ input.unit.text
unfolding plan.sorted_tree
tree_unit input = refl

abbrev pub settings_of : List ℕ → Bool → CheckSettings
settings_of unit restrict = record { unit = record { text = unit }; restrict = restrict }

-- what a check goes by
pub tree_settings : (input : PlainBuild) (unit : List ℕ) → unit ≡ input.unit.text → settings_of unit input.restrict ≡ check_settings (sorted_tree input).settings
unfolding plan.sorted_tree
tree_settings input unit e = ap (λ u. settings_of u input.restrict) e

pub on_any : {X E : Type 0} (r : Result X E) (P : Type 0) → P → OnOk r P
on_any (Ok x) P p = p
on_any (Err e) P p = tt

pub on_three : {X E : Type 0} (r : Result X E) (P Q R S : Type 0) → (P → Q → R → S) → OnOk r P → OnOk r Q → OnOk r R → OnOk r S
on_three (Ok x) P Q R S f p q r = f p q r
on_three (Err e) P Q R S f p q r = tt

pub on_two : {X E : Type 0} (r : Result X E) (P Q S : Type 0) → (P → Q → S) → OnOk r P → OnOk r Q → OnOk r S
on_two (Ok x) P Q S f p q = f p q
on_two (Err e) P Q S f p q = tt

pub none_ticked : (k n : ℕ) → n ≡ 0 → k ≡ k + n
none_ticked k n e = omega arith

pub one_ticked : (k l n : ℕ) → l ≡ k + 1 → n ≡ 1 → l ≡ k + n
one_ticked k l n e f = omega arith

-- what is checked, by what it is made from
pub given_is : (k : Result Content (List Diag)) (g h : CheckSettings) (n : Node) (s : List ℕ) (cs ds : List Content) (is js : List ℕ) → k ≡ check g n s (contents_at cs is) → g ≡ h → cs ≡ ds → is ≡ js → k ≡ check h n s (contents_at ds js)
given_is k g h n s cs ds is js e a d f =
    e ∙ ap (λ x. check x n s (contents_at cs is)) a ∙ ap (λ x. check h n s (contents_at x is)) d ∙ ap (λ x. check h n s (contents_at ds x)) f

-- the place of a node is one of the graph's
pub place_below : (t : PlainTree) (g : Graph) (n : ℕ) (a : Node × List ℕ) → IsPlanned t g → slice_get (ordered t) n ≡ Some a → n < length g.order
place_below t g n a plan here =
    let count : length g.order ≡ length (ordered t) = ap length plan.order ∙ length-map (ordered t) (λ (q : Node × List ℕ). q.0) in
    let lt = slice_get_within (ordered t) n a here in
    omega arith

module _ (t : PlainTree) (g : Graph) (n : ℕ) (a : Node × List ℕ) (plan : IsPlanned t g) (here : slice_get (ordered t) n ≡ Some a) where
  node_here : slice_get g.order n ≡ Some a.0
  node_here = ap (λ (ns : List Node). slice_get ns n) plan.order ∙ slice_get-map (λ (q : Node × List ℕ). q.0) (ordered t) n ∙ ap (option_map (λ (q : Node × List ℕ). q.0)) here

  -- the diagnostics that the graph has of the node
  pub graph_told : (es ds : List Diag) → ((i : Input) (q : Node) → IsGraph i g → slice_get g.order n ≡ Some q → es ≡ errors_by i q) → ds ≡ filter (is_told a.0) es → ds ≡ filter (is_told a.0) (errors_by (input_of t) a.0)
  graph_told es ds are e = e ∙ ap (filter (is_told a.0)) (are (input_of t) a.0 plan.graph node_here)

  pub none_told : (ds : List Diag) → ds ≡ filter (is_told a.0) (errors_by (input_of t) a.0) → ds ≡ [] → graph_errors t a.0 ≡ None
  none_told ds e none = ap unless_none (sym e ∙ none)

  -- the needs that the graph has of it
  pub graph_needs : (needs : List NodeId) → ((i : Input) (q : Node) → IsGraph i g → slice_get g.order n ≡ Some q → ids needs ≡ needs_in (entries i) g.order n q)
      → ids needs ≡ needs_in (entries (input_of t)) (nodes_of (ordered t)) n a.0
  graph_needs needs are = are (input_of t) a.0 plan.graph node_here ∙ ap (λ (ns : List Node). needs_in (entries (input_of t)) ns n a.0) plan.order

-- the first need that isn't sound, by what is kept
pub first_kept : (bs cs : List Bool) (ns ms : List NodeId) (r o : Option NodeId) → r ≡ first_unsound bs ns → bs ≡ cs → ns ≡ ms → r ≡ o → first_unsound cs ms ≡ o
first_kept bs cs ns ms r o e f g h = sym (e ∙ ap (λ (x : List Bool). first_unsound x ns) f ∙ ap (first_unsound cs) g) ∙ h

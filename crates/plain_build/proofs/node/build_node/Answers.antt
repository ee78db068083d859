use Rattle.std.proofs.Common.{◌≡◌, ℕ, ◌+◌, List, [], ◌∷◌, ◌++◌, false, ap, ◌∙◌, Some, None, arith}
use Rattle.std.specs.Prelude.{filter}
use Rattle.mk_base.specs.declared.name.Node.{Node}
use Rattle.mk_base.specs.declared.diag.Diag.{Diag}
use Rattle.mk_base.specs.declared.place.NodeId.{NodeId}
use Rattle.face_model.specs.declared.result.How.TheVariants as how
use Rattle.build_theory.proofs.Lists.{clash}
use Rattle.mod_graph.specs.Graph.{errors_by}
use Rattle.unbuilt_forms.specs.Unbuilt.{is_told}
use Rattle.build_plan.specs.Tree.{graph_errors, input_of}
use Rattle.plain_build.specs.Plain.{PlainTree}
use Rattle.plain_build.specs.Result.{is_checked}
use Rattle.plain_build.specs.Soundness as soundness_spec
use Rattle.plain_build.specs.NodeResults.{empty_content, result_of}
use Rattle.plain_build.specs.Done.{IsDone, judged_next, sorted_tree}
use Rattle.plain_build.proofs.Exits.{first_kept, graph_told, none_told, graph_needs, none_ticked, on_two, on_three, one_ticked, place_below}
use Rattle.plain_build.proofs.Next.{next_graph, next_blocked, next_free}
use Rattle.plain_build.proofs.node.build_node.Goals as goal

pub errors-requires : goal.errors-requires
errors-requires g c = place_below (sorted_tree c.args.building.now.input.now) c.args.building.now.plan.now.graph c.args.place (c.args.source.now.node, c.args.source.now.bytes.now) c.requires.plan.graph c.requires.source

pub needs-needs-requires : goal.needs-needs-requires
needs-needs-requires g c = place_below (sorted_tree c.args.building.now.input.now) c.args.building.now.plan.now.graph c.args.place (c.args.source.now.node, c.args.source.now.bytes.now) c.requires.plan.graph c.requires.source

pub returns-then-not-is_empty : goal.returns-then-not-is_empty
returns-then-not-is_empty g c =
    let t : PlainTree = sorted_tree c.args.building.now.input.now in
    let a : Node × List ℕ = (c.args.source.now.node, c.args.source.now.bytes.now) in
    let old = c.args.done.now in
    let ds : List Diag = c.in_ok-errors.errors in
    let told : ds ≡ filter (is_told a.0) (errors_by (input_of t) a.0) =
    graph_told t c.args.building.now.plan.now.graph c.args.place a c.requires.plan.graph c.requires.source c.errors.result.now ds c.errors.ensures (c.in_ok-errors.ensures ∙ ap (filter (is_told a.0)) c.as_slice.ensures) in
    let some : ds ≡ [] → ⊥ = λ e. clash c.is_empty.result (c.is_empty.ensures.1 e) c.if-not-is_empty.true in
    let new = c.put_unsound.new.done in
    let exit = next_graph t c.requires.plan.graph.standing c.args.place a c.requires.source old c.requires.done new ds told some in
    let R : Type 0 = new.results ≡ old.results ++ result_of a.0 how.Graph ds None ∷ [] in
    let C : Type 0 = new.contents.items ≡ old.contents.items ++ empty_content ∷ [] in
    let B : Type 0 = new.sound.items ≡ old.sound.items ++ false ∷ [] in
    let k : ℕ = is_checked (judged_next t a c.args.place).how in
    record {
      done = on_three c.put_unsound.result R C B (IsDone t new (c.args.place + 1)) (λ x y z. (exit x y z).0) c.put_unsound.ensures.results c.put_unsound.ensures.contents c.put_unsound.ensures.sound;
      checks = on_three c.put_unsound.result R C B (c.args.steps.now ≡ c.args.steps.now + k) (λ x y z. none_ticked c.args.steps.now k (exit x y z).1) c.put_unsound.ensures.results c.put_unsound.ensures.contents c.put_unsound.ensures.sound;
      later = omega arith;
    }

pub returns-in-Some : goal.returns-in-Some
returns-in-Some g c =
    let t : PlainTree = sorted_tree c.args.building.now.input.now in
    let a : Node × List ℕ = (c.args.source.now.node, c.args.source.now.bytes.now) in
    let old = c.args.done.now in
    let ds : List Diag = c.in_ok-errors.errors in
    let told : ds ≡ filter (is_told a.0) (errors_by (input_of t) a.0) =
    graph_told t c.args.building.now.plan.now.graph c.args.place a c.requires.plan.graph c.requires.source c.errors.result.now ds c.errors.ensures (c.in_ok-errors.ensures ∙ ap (filter (is_told a.0)) c.as_slice.ensures) in
    let none : graph_errors t a.0 ≡ None = none_told t c.args.building.now.plan.now.graph c.args.place a c.requires.plan.graph c.requires.source ds told (c.is_empty.ensures.0 c.if-not-is_empty.false) in
    let needs : List NodeId = c.needs-needs.result.now in
    let are = graph_needs t c.args.building.now.plan.now.graph c.args.place a c.requires.plan.graph c.requires.source needs c.needs-needs.ensures in
    let first : soundness_spec.first_unsound old.sound.items needs ≡ Some c.in-Some.need =
    first_kept c.as_slice-3.result.now old.sound.items c.as_slice-2.result.now needs c.first_unsound.result (Some c.in-Some.need) c.first_unsound.ensures c.as_slice-3.ensures.value c.as_slice-2.ensures c.in-Some.is in
    let new = c.put_unsound-in-Some.new.done in
    let exit = next_blocked t c.requires.plan.graph.standing c.args.place a c.requires.source old c.requires.done needs are new c.in-Some.need none first in
    let R : Type 0 = new.results ≡ old.results ++ result_of a.0 (how.Blocked c.in-Some.need) c.new.result None ∷ [] in
    let C : Type 0 = new.contents.items ≡ old.contents.items ++ empty_content ∷ [] in
    let B : Type 0 = new.sound.items ≡ old.sound.items ++ false ∷ [] in
    let own : R → new.results ≡ old.results ++ result_of a.0 (how.Blocked c.in-Some.need) [] None ∷ [] =
    λ x. x ∙ ap (λ ds. old.results ++ result_of a.0 (how.Blocked c.in-Some.need) ds None ∷ []) c.new.ensures in
    let k : ℕ = is_checked (judged_next t a c.args.place).how in
    record {
      done = on_three c.put_unsound-in-Some.result R C B (IsDone t new (c.args.place + 1)) (λ x y z. (exit (own x) y z).0) c.put_unsound-in-Some.ensures.results c.put_unsound-in-Some.ensures.contents c.put_unsound-in-Some.ensures.sound;
      checks = on_three c.put_unsound-in-Some.result R C B (c.args.steps.now ≡ c.args.steps.now + k) (λ x y z. none_ticked c.args.steps.now k (exit (own x) y z).1) c.put_unsound-in-Some.ensures.results c.put_unsound-in-Some.ensures.contents c.put_unsound-in-Some.ensures.sound;
      later = omega arith;
    }

pub build_checked-requires-clause-plan : goal.build_checked-requires-clause-plan
build_checked-requires-clause-plan g c = c.requires.plan

pub build_checked-requires-clause-settings : goal.build_checked-requires-clause-settings
build_checked-requires-clause-settings g c = c.requires.settings

pub build_checked-requires-clause-source : goal.build_checked-requires-clause-source
build_checked-requires-clause-source g c = c.requires.source

pub build_checked-requires-clause-done : goal.build_checked-requires-clause-done
build_checked-requires-clause-done g c = c.requires.done

pub build_checked-requires-clause-free : goal.build_checked-requires-clause-free
build_checked-requires-clause-free g c =
    let t : PlainTree = sorted_tree c.args.building.now.input.now in
    let a : Node × List ℕ = (c.args.source.now.node, c.args.source.now.bytes.now) in
    let old = c.args.done.now in
    let ds : List Diag = c.in_ok-errors.errors in
    let told : ds ≡ filter (is_told a.0) (errors_by (input_of t) a.0) =
    graph_told t c.args.building.now.plan.now.graph c.args.place a c.requires.plan.graph c.requires.source c.errors.result.now ds c.errors.ensures (c.in_ok-errors.ensures ∙ ap (filter (is_told a.0)) c.as_slice.ensures) in
    let none : graph_errors t a.0 ≡ None = none_told t c.args.building.now.plan.now.graph c.args.place a c.requires.plan.graph c.requires.source ds told (c.is_empty.ensures.0 c.if-not-is_empty.false) in
    let needs : List NodeId = c.needs-needs.result.now in
    let are = graph_needs t c.args.building.now.plan.now.graph c.args.place a c.requires.plan.graph c.requires.source needs c.needs-needs.ensures in
    let first : soundness_spec.first_unsound old.sound.items needs ≡ None =
    first_kept c.as_slice-3.result.now old.sound.items c.as_slice-2.result.now needs c.first_unsound.result None c.first_unsound.ensures c.as_slice-3.ensures.value c.as_slice-2.ensures c.in_default.is in
    next_free t c.requires.plan.graph.standing c.args.place a c.requires.source old c.requires.done needs are none first

pub returns : goal.returns
returns g c =
    let t : PlainTree = sorted_tree c.args.building.now.input.now in
    let a : Node × List ℕ = (c.args.source.now.node, c.args.source.now.bytes.now) in
    let k : ℕ = is_checked (judged_next t a c.args.place).how in
    let new : ℕ = c.build_checked.new.steps in
    record {
      done = c.build_checked.ensures.done;
      checks = on_two c.build_checked.result (k ≡ 1) (new ≡ c.args.steps.now + 1) (new ≡ c.args.steps.now + k) (λ e f. one_ticked c.args.steps.now new k f e) c.build_checked.ensures.checked c.build_checked.ensures.ticked;
      later = c.build_checked.ensures.later;
    }

use Rattle.std.proofs.Common.{◌≡◌, ℕ, ◌+◌, ◌<◌, List, length, refl, sym, ap, ◌∙◌, subst, Some, arith}
use Rattle.std.specs.Prelude.{slice_get}
use Rattle.std.proofs.lemmas.List.{length-map}
use Rattle.std.proofs.lemmas.Option.{slice_get_read}
use Rattle.mk_base.specs.declared.name.Node.{Node}
use Rattle.build_plan.specs.declared.plan.PlannedNode.{PlannedNode}
use Rattle.build_plan.specs.Tree.{ordered}
use Rattle.build_plan.proofs.Planning.{node_is, plan_count}
use Rattle.build_plan.proofs.Seen.{planned_few}
use Rattle.plain_build.specs.Plain.{PlainTree}
use Rattle.plain_build.specs.Result.{checks_in, is_checked}
use Rattle.plain_build.specs.Done.{IsDone, judged_before, judged_next, sorted_tree}
use Rattle.plain_build.proofs.Exits.{tree_settings, tree_unit}
use Rattle.plain_build.proofs.Next.{before_none}
use Rattle.plain_build.proofs.Trees.{checks_next, none_done, all_done, all_checks}
use Rattle.plain_build.proofs.build.build_nodes.Goals as goal

pub loop-place-init : goal.loop-place-init
loop-place-init g c =
    let t : PlainTree = sorted_tree c.args.input.now in
    let none : checks_in (judged_before t 0) ≡ 0 = ap checks_in (before_none t) in
    record {
      done = none_done t (record { results = c.new.result; contents = c.new-2.result; sound = c.new-3.result }) c.new.ensures c.new-2.ensures.items c.new-3.ensures.items;
      checks = omega (arith, none);
    }

pub build_node-requires-clause-plan : goal.build_node-requires-clause-plan
build_node-requires-clause-plan g c = c.requires.plan

pub build_node-requires-clause-settings : goal.build_node-requires-clause-settings
build_node-requires-clause-settings g c = tree_settings c.args.input.now _ c.in_ok-copy.ensures

pub build_node-requires-clause-source : goal.build_node-requires-clause-source
build_node-requires-clause-source g c =
    node_is (sorted_tree c.args.input.now) c.args.plan.now c.loop-place.place c.source-item.result c.requires.plan
    (ap (λ (ms : List PlannedNode). slice_get ms c.loop-place.place) (sym c.as_slice-source-items.ensures.value)
    ∙ slice_get_read c.as_slice-source-items.result.now (length c.as_slice-source-items.result.now) c.loop-place.place c.source-item.result refl c.loop-place-test.true c.source-item.is)

pub build_node-requires-clause-done : goal.build_node-requires-clause-done
build_node-requires-clause-done g c = c.loop-place.invariant.done

pub loop-place-preserved : goal.loop-place-preserved
loop-place-preserved g c =
    let t : PlainTree = sorted_tree c.args.input.now in
    let n : ℕ = c.loop-place.place in
    let a : Node × List ℕ = (c.source-item.result.node, c.source-item.result.bytes.now) in
    let at : slice_get (ordered t) n ≡ Some a =
    node_is t c.args.plan.now n c.source-item.result c.requires.plan
    (ap (λ (ms : List PlannedNode). slice_get ms n) (sym c.as_slice-source-items.ensures.value)
    ∙ slice_get_read c.as_slice-source-items.result.now (length c.as_slice-source-items.result.now) n c.source-item.result refl c.loop-place-test.true c.source-item.is) in
    let more : checks_in (judged_before t (n + 1)) ≡ checks_in (judged_before t n) + is_checked (judged_next t a n).how = checks_next t n a at in
    let ticked : c.build_node.new.steps ≡ c.loop-place.steps + is_checked (judged_next t a n).how = c.in_ok-build_node.ensures.checks in
    let before : c.loop-place.steps ≡ c.args.steps.now + checks_in (judged_before t n) = c.loop-place.invariant.checks in
    record {
      done = c.in_ok-build_node.ensures.done;
      checks = omega (arith, more, ticked, before);
    }

pub returns : goal.returns
returns g c =
    let input = c.args.input.now in
    let t : PlainTree = sorted_tree input in
    let count : length c.as_slice-source-items.result.now ≡ length (ordered t) =
    ap length c.as_slice-source-items.ensures.value ∙ sym (length-map c.args.plan.now.nodes.items (λ (m : PlannedNode). (m.node, m.bytes.now))) ∙ ap length c.requires.plan.nodes.sources in
    let all : c.loop-place.place ≡ length (ordered t) = omega arith in
    let done : IsDone t c.loop-place.done (length (ordered t)) = subst (λ n. IsDone t c.loop-place.done n) all c.loop-place.invariant.done in
    let checks : c.loop-place.steps ≡ c.args.steps.now + checks_in (judged_before t c.loop-place.place) = c.loop-place.invariant.checks in
    record {
      build = all_done input c.loop-place.done done (tree_unit input);
      checks = checks ∙ ap (λ n. c.args.steps.now + checks_in (judged_before t n)) all ∙ ap (λ n. c.args.steps.now + n) (all_checks input);
      later = omega (arith, checks);
    }

pub overflow_cast-place : goal.overflow_cast-place
overflow_cast-place g c =
    let few = planned_few (sorted_tree c.args.input.now) c.args.plan.now.graph c.requires.plan.graph in
    let count = plan_count (sorted_tree c.args.input.now) c.args.plan.now c.requires.plan in
    let same : length c.as_slice-source-items.result.now ≡ length c.args.plan.now.nodes.items = ap length c.as_slice-source-items.ensures.value in
    let lt : c.loop-place.place < length c.as_slice-source-items.result.now = c.loop-place-test.true in
    omega (arith, few, count, same, lt)

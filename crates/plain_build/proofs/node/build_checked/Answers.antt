use Rattle.std.proofs.Common.{◌≡◌, ℕ, ◌+◌, ◌<◌, true, false, List, [], ◌∷◌, ◌++◌, length, sym, ap, ◌∙◌, subst, None, arith}
use Rattle.std.specs.List.{AllByRecursion}
use Rattle.mk_base.specs.declared.name.Node.{Node}
use Rattle.plain_scope.specs.declared.scope.Content.{Content}
use Rattle.plain_scope.specs.Scope.{contents_at}
use Rattle.module_check.specs.Check.{check}
use Rattle.plain_scope.specs.Offered.{IsSound, Fits}
use Rattle.build_plan.specs.Positions.{import_places}
use Rattle.build_plan.specs.Tree.{imports_of, input_of, nodes_of, ordered}
use Rattle.build_plan.proofs.Planning.{plan_count}
use Rattle.plain_build.specs.Plain.{PlainTree, check_settings}
use Rattle.plain_build.specs.Result.{is_checked}
use Rattle.plain_build.specs.NodeResults.{empty_content, checked_how, result_of, HasSound}
use Rattle.plain_build.specs.Done.{IsDone, judged_next, sorted_tree}
use Rattle.plain_build.proofs.Exits.{tree_unit, on_any, on_three, given_is, place_below}
use Rattle.plain_build.proofs.Next.{short_source, imports_within, has_interface, next_sound, next_wrong, ok_content, err_diags}
use Rattle.plain_build.proofs.node.build_checked.Goals as goal

pub check-requires-clause-source : goal.check-requires-clause-source
check-requires-clause-source g c =
    short_source (sorted_tree c.args.building.now.input.now) c.requires.plan.graph.standing c.args.place (c.args.source.now.node, c.args.source.now.bytes.now) c.requires.source c.requires.free.no_errors

pub imports_at-requires-clause-plan : goal.imports_at-requires-clause-plan
imports_at-requires-clause-plan g c = (sorted_tree c.args.building.now.input.now, c.requires.plan)

pub imports_at-requires-clause-place : goal.imports_at-requires-clause-place
imports_at-requires-clause-place g c =
    let t : PlainTree = sorted_tree c.args.building.now.input.now in
    let p = c.args.building.now.plan.now in
    let lt = place_below t p.graph c.args.place (c.args.source.now.node, c.args.source.now.bytes.now) c.requires.plan.graph c.requires.source in
    let count = plan_count t p c.requires.plan in
    omega (arith, lt, count)

pub check-requires-clause-within : goal.check-requires-clause-within
check-requires-clause-within g c =
    let t : PlainTree = sorted_tree c.args.building.now.input.now in
    let a : Node × List ℕ = (c.args.source.now.node, c.args.source.now.bytes.now) in
    let old = c.args.done.now in
    let places : c.as_slice.result.now ≡ import_places (input_of t) (nodes_of (ordered t)) c.args.place (imports_of t.settings a.0 a.1) =
    c.as_slice.ensures.value ∙ c.in_ok-places.ensures t a c.requires.plan c.requires.source in
    let all = imports_within t c.requires.plan.graph.standing c.args.place a c.requires.source old c.requires.done in
    subst (λ (l : List ℕ). AllByRecursion (λ i. i < length c.as_slice-contents.result.now) l) (sym places)
    (subst (λ (cs : List Content). AllByRecursion (λ i. i < length cs) (import_places (input_of t) (nodes_of (ordered t)) c.args.place (imports_of t.settings a.0 a.1))) (sym c.as_slice-contents.ensures.value) all)

pub put_sound-requires-clause-sound : goal.put_sound-requires-clause-sound
put_sound-requires-clause-sound g c =
    let t : PlainTree = sorted_tree c.args.building.now.input.now in
    let a : Node × List ℕ = (c.args.source.now.node, c.args.source.now.bytes.now) in
    let old = c.args.done.now in
    let places : c.as_slice.result.now ≡ import_places (input_of t) (nodes_of (ordered t)) c.args.place (imports_of t.settings a.0 a.1) =
    c.as_slice.ensures.value ∙ c.in_ok-places.ensures t a c.requires.plan c.requires.source in
    let unit : c.as_slice-unit.result.now ≡ t.settings.unit = c.as_slice-unit.ensures ∙ sym (tree_unit c.args.building.now.input.now) in
    let given : List Content = contents_at old.contents.items (import_places (input_of t) (nodes_of (ordered t)) c.args.place (imports_of t.settings a.0 a.1)) in
    let told : ok_content c.in-Ok.content ≡ check (check_settings t.settings) a.0 a.1 given =
    sym c.in-Ok.is ∙ given_is c.in_ok-content.field-0 _ _ _ _ _ _ _ _ c.in_ok-content.ensures.check c.requires.settings c.as_slice-contents.ensures.value places in
    subst (λ (u : List ℕ). IsSound u c.in-Ok.content) (sym unit) (has_interface t c.requires.plan.graph.standing c.args.place a c.requires.source old c.requires.done c.requires.free c.in-Ok.content told).0

pub put_sound-requires-clause-fits : goal.put_sound-requires-clause-fits
put_sound-requires-clause-fits g c =
    let t : PlainTree = sorted_tree c.args.building.now.input.now in
    let a : Node × List ℕ = (c.args.source.now.node, c.args.source.now.bytes.now) in
    let old = c.args.done.now in
    let places : c.as_slice.result.now ≡ import_places (input_of t) (nodes_of (ordered t)) c.args.place (imports_of t.settings a.0 a.1) =
    c.as_slice.ensures.value ∙ c.in_ok-places.ensures t a c.requires.plan c.requires.source in
    let unit : c.as_slice-unit.result.now ≡ t.settings.unit = c.as_slice-unit.ensures ∙ sym (tree_unit c.args.building.now.input.now) in
    let given : List Content = contents_at old.contents.items (import_places (input_of t) (nodes_of (ordered t)) c.args.place (imports_of t.settings a.0 a.1)) in
    let told : ok_content c.in-Ok.content ≡ check (check_settings t.settings) a.0 a.1 given =
    sym c.in-Ok.is ∙ given_is c.in_ok-content.field-0 _ _ _ _ _ _ _ _ c.in_ok-content.ensures.check c.requires.settings c.as_slice-contents.ensures.value places in
    subst (λ (u : List ℕ). Fits u c.in-Ok.content) (sym unit) (has_interface t c.requires.plan.graph.standing c.args.place a c.requires.source old c.requires.done c.requires.free c.in-Ok.content told).1

pub returns-in-Ok : goal.returns-in-Ok
returns-in-Ok g c =
    let t : PlainTree = sorted_tree c.args.building.now.input.now in
    let a : Node × List ℕ = (c.args.source.now.node, c.args.source.now.bytes.now) in
    let old = c.args.done.now in
    let places : c.as_slice.result.now ≡ import_places (input_of t) (nodes_of (ordered t)) c.args.place (imports_of t.settings a.0 a.1) =
    c.as_slice.ensures.value ∙ c.in_ok-places.ensures t a c.requires.plan c.requires.source in
    let unit : c.as_slice-unit.result.now ≡ t.settings.unit = c.as_slice-unit.ensures ∙ sym (tree_unit c.args.building.now.input.now) in
    let given : List Content = contents_at old.contents.items (import_places (input_of t) (nodes_of (ordered t)) c.args.place (imports_of t.settings a.0 a.1)) in
    let told : ok_content c.in-Ok.content ≡ check (check_settings t.settings) a.0 a.1 given =
    sym c.in-Ok.is ∙ given_is c.in_ok-content.field-0 _ _ _ _ _ _ _ _ c.in_ok-content.ensures.check c.requires.settings c.as_slice-contents.ensures.value places in
    let new = c.put_sound.new.done in
    let exit = next_sound t c.requires.plan.graph.standing c.args.place a c.requires.source old c.requires.done c.requires.free new c.in-Ok.content told in
    let R : Type 0 = HasSound c.as_slice-unit.result.now a.0 c.in-Ok.content old.results new.results in
    let C : Type 0 = new.contents.items ≡ old.contents.items ++ c.in-Ok.content ∷ [] in
    let B : Type 0 = new.sound.items ≡ old.sound.items ++ true ∷ [] in
    let own : R → HasSound t.settings.unit a.0 c.in-Ok.content old.results new.results = λ r. subst (λ (u : List ℕ). HasSound u a.0 c.in-Ok.content old.results new.results) unit r in
    let ticked : c.check.new.steps ≡ c.args.steps.now + 1 = c.in_ok-content.ensures.ticked in
    record {
      done = on_three c.put_sound.result R C B (IsDone t new (c.args.place + 1)) (λ r x y. (exit (own r) x y).0) c.put_sound.ensures.results c.put_sound.ensures.contents c.put_sound.ensures.kept;
      checked = on_three c.put_sound.result R C B (is_checked (judged_next t a c.args.place).how ≡ 1) (λ r x y. (exit (own r) x y).1) c.put_sound.ensures.results c.put_sound.ensures.contents c.put_sound.ensures.kept;
      ticked = on_any c.put_sound.result (c.check.new.steps ≡ c.args.steps.now + 1) ticked;
      later = omega (arith, ticked);
    }

pub returns : goal.returns
returns g c =
    let t : PlainTree = sorted_tree c.args.building.now.input.now in
    let a : Node × List ℕ = (c.args.source.now.node, c.args.source.now.bytes.now) in
    let old = c.args.done.now in
    let places : c.as_slice.result.now ≡ import_places (input_of t) (nodes_of (ordered t)) c.args.place (imports_of t.settings a.0 a.1) =
    c.as_slice.ensures.value ∙ c.in_ok-places.ensures t a c.requires.plan c.requires.source in
    let unit : c.as_slice-unit.result.now ≡ t.settings.unit = c.as_slice-unit.ensures ∙ sym (tree_unit c.args.building.now.input.now) in
    let given : List Content = contents_at old.contents.items (import_places (input_of t) (nodes_of (ordered t)) c.args.place (imports_of t.settings a.0 a.1)) in
    let told : err_diags c.in-Err.diags ≡ check (check_settings t.settings) a.0 a.1 given =
    sym c.in-Err.is ∙ given_is c.in_ok-content.field-0 _ _ _ _ _ _ _ _ c.in_ok-content.ensures.check c.requires.settings c.as_slice-contents.ensures.value places in
    let new = c.put_unsound.new.done in
    let exit = next_wrong t c.requires.plan.graph.standing c.args.place a c.requires.source old c.requires.done c.requires.free new c.in-Err.diags told in
    let R : Type 0 = new.results ≡ old.results ++ result_of a.0 c.how_checked.result c.in-Err.diags None ∷ [] in
    let C : Type 0 = new.contents.items ≡ old.contents.items ++ empty_content ∷ [] in
    let B : Type 0 = new.sound.items ≡ old.sound.items ++ false ∷ [] in
    let own : R → new.results ≡ old.results ++ result_of a.0 checked_how c.in-Err.diags None ∷ [] = λ r. r ∙ ap (λ h. old.results ++ result_of a.0 h c.in-Err.diags None ∷ []) c.how_checked.ensures in
    let ticked : c.check.new.steps ≡ c.args.steps.now + 1 = c.in_ok-content.ensures.ticked in
    record {
      done = on_three c.put_unsound.result R C B (IsDone t new (c.args.place + 1)) (λ r x y. (exit (own r) x y).0) c.put_unsound.ensures.results c.put_unsound.ensures.contents c.put_unsound.ensures.sound;
      checked = on_three c.put_unsound.result R C B (is_checked (judged_next t a c.args.place).how ≡ 1) (λ r x y. (exit (own r) x y).1) c.put_unsound.ensures.results c.put_unsound.ensures.contents c.put_unsound.ensures.sound;
      ticked = on_any c.put_unsound.result (c.check.new.steps ≡ c.args.steps.now + 1) ticked;
      later = omega (arith, ticked);
    }

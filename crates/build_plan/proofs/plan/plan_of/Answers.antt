use Rattle.std.proofs.Common.{◌≡◌, Bool, false, List, [], length, map, refl, sym, ap, ◌∙◌, subst, arith}
use Rattle.std.proofs.lemmas.List.{length-map}
use Rattle.build_theory.specs.Build.{by_node}
use Rattle.build_theory.specs.Laws as laws
use Rattle.mod_graph.specs.declared.input.HeaderOf.{HeaderOf}
use Rattle.mod_graph.specs.Graph.{AreDistinct}
use Rattle.build_plan.specs.Plan.{AreNodes}
use Rattle.build_plan.specs.Positions.{pairs}
use Rattle.build_plan.specs.Tree.{Settings, SourceTree, header_for, planning, sorted_tree}
use Rattle.build_plan.proofs.Entries.{headers_apart}
use Rattle.build_plan.proofs.Paths.{sources_distinct}
use Rattle.build_plan.proofs.Standing.{standing_tree, sorted_sources_are, slice_kept, graph_planned, tree_prelude}
use Rattle.build_plan.proofs.plan.plan_of.Goals as goal

abbrev any_settings : Bool → Settings
any_settings p = record { unit = []; prelude = p; restrict = false }

pub sort_sources-requires : goal.sort_sources-requires
sort_sources-requires c = subst (laws.AreDistinct planning) (sym (ap pairs c.as_mut_slice.ensures.value ∙ c.in_ok-sources.ensures)) (sources_distinct c.args.files.now c.requires.files)

pub build-requires-clause-distinct : goal.build-requires-clause-distinct
build-requires-clause-distinct c =
    let t : SourceTree = sorted_tree (any_settings c.args.prelude) c.args.files.now in
    let kept : c.as_slice.result.now ≡ c.sort_sources.new.sources = c.as_slice.ensures.value ∙ slice_kept c.sort_sources.new.sources _ _ (c.sort_sources.auto.sources ∙ c.as_mut_slice.ensures.len) in
    let sorted : pairs c.as_slice.result.now ≡ t.sources =
    ap pairs kept ∙ c.sort_sources.ensures ∙ ap (by_node planning) (ap pairs c.as_mut_slice.ensures.value ∙ c.in_ok-sources.ensures) ∙ sorted_sources_are (any_settings c.args.prelude) c.args.files.now in
    let headers : c.in_ok-headers.headers ≡ map header_for t.sources = c.in_ok-headers.ensures ∙ ap (map header_for) sorted in
    subst AreDistinct (sym headers) (headers_apart t.sources (standing_tree (any_settings c.args.prelude) c.args.files.now (omega arith) c.requires.files c.requires.few c.requires.names).rising)

pub build-requires-clause-few : goal.build-requires-clause-few
build-requires-clause-few c =
    let t : SourceTree = sorted_tree (any_settings c.args.prelude) c.args.files.now in
    let kept : c.as_slice.result.now ≡ c.sort_sources.new.sources = c.as_slice.ensures.value ∙ slice_kept c.sort_sources.new.sources _ _ (c.sort_sources.auto.sources ∙ c.as_mut_slice.ensures.len) in
    let sorted : pairs c.as_slice.result.now ≡ t.sources =
    ap pairs kept ∙ c.sort_sources.ensures ∙ ap (by_node planning) (ap pairs c.as_mut_slice.ensures.value ∙ c.in_ok-sources.ensures) ∙ sorted_sources_are (any_settings c.args.prelude) c.args.files.now in
    let headers : c.in_ok-headers.headers ≡ map header_for t.sources = c.in_ok-headers.ensures ∙ ap (map header_for) sorted in
    let count : length c.in_ok-headers.headers ≡ length t.sources = ap length headers ∙ length-map t.sources header_for in
    let few = (standing_tree (any_settings c.args.prelude) c.args.files.now (omega arith) c.requires.files c.requires.few c.requires.names).few in
    omega (arith, few, count)

pub nodes_in_order-requires : goal.nodes_in_order-requires
nodes_in_order-requires c =
    let g : Settings = any_settings c.args.prelude in
    let t : SourceTree = sorted_tree g c.args.files.now in
    let fine = standing_tree g c.args.files.now (omega arith) c.requires.files c.requires.few c.requires.names in
    let listed = ap pairs c.as_mut_slice.ensures.value ∙ c.in_ok-sources.ensures in
    let kept : c.as_slice.result.now ≡ c.sort_sources.new.sources = c.as_slice.ensures.value ∙ slice_kept c.sort_sources.new.sources _ _ (c.sort_sources.auto.sources ∙ c.as_mut_slice.ensures.len) in
    let kept-2 : c.as_slice-2.result.now ≡ c.sort_sources.new.sources = c.as_slice-2.ensures.value ∙ slice_kept c.sort_sources.new.sources _ _ (c.sort_sources.auto.sources ∙ c.as_mut_slice.ensures.len) in
    let sorted : pairs c.sort_sources.new.sources ≡ t.sources = c.sort_sources.ensures ∙ ap (by_node planning) listed ∙ sorted_sources_are g c.args.files.now in
    let headers : c.in_ok-headers.headers ≡ map header_for t.sources = c.in_ok-headers.ensures ∙ ap (map header_for) (ap pairs kept ∙ sorted) in
    record { planned = (t, graph_planned g c.args.files.now c.in_ok-graph.graph c.in_ok-headers.headers c.new.result c.args.prelude fine headers c.new.ensures refl c.in_ok-graph.ensures, ap pairs kept-2 ∙ sorted, c.as_slice-3.ensures ∙ headers) }

pub returns : goal.returns
returns c = λ g unit prelude.
    let t : SourceTree = sorted_tree g c.args.files.now in
    let fine = standing_tree g c.args.files.now unit c.requires.files c.requires.few c.requires.names in
    let listed = ap pairs c.as_mut_slice.ensures.value ∙ c.in_ok-sources.ensures in
    let kept : c.as_slice.result.now ≡ c.sort_sources.new.sources = c.as_slice.ensures.value ∙ slice_kept c.sort_sources.new.sources _ _ (c.sort_sources.auto.sources ∙ c.as_mut_slice.ensures.len) in
    let kept-2 : c.as_slice-2.result.now ≡ c.sort_sources.new.sources = c.as_slice-2.ensures.value ∙ slice_kept c.sort_sources.new.sources _ _ (c.sort_sources.auto.sources ∙ c.as_mut_slice.ensures.len) in
    let sorted : pairs c.sort_sources.new.sources ≡ t.sources = c.sort_sources.ensures ∙ ap (by_node planning) listed ∙ sorted_sources_are g c.args.files.now in
    let headers : c.in_ok-headers.headers ≡ map header_for t.sources = c.in_ok-headers.ensures ∙ ap (map header_for) (ap pairs kept ∙ sorted) in
    let planned = graph_planned g c.args.files.now c.in_ok-graph.graph c.in_ok-headers.headers c.new.result c.args.prelude fine headers c.new.ensures prelude c.in_ok-graph.ensures in
    record {
      graph = planned;
      nodes = subst (λ (hs : List HeaderOf). AreNodes t hs c.in_ok-nodes.nodes.items) c.as_slice-3.ensures (c.in_ok-nodes.ensures t planned (ap pairs kept-2 ∙ sorted) (c.as_slice-3.ensures ∙ headers));
      prelude = sym prelude ∙ sym (tree_prelude g c.args.files.now);
    }

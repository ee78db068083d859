use Rattle.std.proofs.Common.{◌≡◌, ◌<◌, get_or, length, ap, sym, ◌∙◌, subst, arith}
use Rattle.std.proofs.lemmas.List.{get_or_default, length-map}
use Rattle.std.proofs.lemmas.Option.{slice_get_within}
use Rattle.package_graph.specs.declared.modules.PackageModule.{PackageModule}
use Rattle.mod_graph.specs.Errors.{errors_of}
use Rattle.mod_graph.specs.Graph.{entries}
use Rattle.mod_graph.specs.Names.{same_text, node_named}
use Rattle.mod_graph.proofs.Numbering.{found_at, number_below}
use Rattle.mod_graph.proofs.Parts.{order_size, listed_range, needs_are_listed, errors_are_listed, reached_are_listed}
use Rattle.mod_graph.proofs.Views.{loop_within}
use Rattle.mod_graph.proofs.graph.Graph.from_parts.Goals as goal

pub invariant_of-result : goal.invariant_of-result
invariant_of-result c =
    let l = c.args.lists in
    let r = c.args.rows in
    let i = c.requires.parts.0 in
    let parts = c.requires.parts.1 in
    let size = order_size i l c.args.packages c.args.numbers r c.args.tables parts in
    let range = listed_range i l c.args.packages c.args.numbers r c.args.tables parts in
    let lists = parts.lists in
    let rows = parts.rows in
    let count : length r.order.items ≡ length (entries i) = rows.order.0 in
    record {
      needs_count = let e = lists.needs_count in omega arith;
      errors_count = ap length (lists.errors i.packages parts.tables) ∙ length-map r.order.items (errors_of (entries i) i.packages) ∙ count ∙ sym size;
      reached_count = let e = lists.reached_count in omega arith;
      order_count = omega arith;
      order_range = λ k d lt. let less = range k d lt in omega arith;
      loops_count = let e = rows.loops_count in omega arith;
      loops_range = λ k d lt.
          let e = rows.loops_count in
          let here : k < length (entries i) = omega arith in
          let at = get_or_default r.loops.items k d 0 lt ∙ rows.loops k here in
          let less : get_or r.loops.items k d < length (entries i) = subst (λ x. x < length (entries i)) (sym at) (loop_within (entries i) k here) in
          omega arith;
      reach_count = let e = rows.reach_count in omega arith;
      reach_room = λ k d lt. let e = rows.reach_room k d lt in omega arith;
      places_count = let e = lists.place_count in omega arith;
      places_range = λ k d lt. let less = lists.place_range k d lt in omega arith;
      numbers_range = λ boot m k e. let less = number_below (entries i) (node_named m boot) k (sym (parts.numbers.0 boot m) ∙ e) in omega arith;
      firsts_range = λ m k e.
          let s = found_at (λ (p : PackageModule). same_text m p.module.text) i.packages k (sym (parts.tables.first m) ∙ e) in
          let less = slice_get_within i.packages k s.0 s.1 in
          let same : length c.args.packages ≡ length i.packages = ap length parts.packages in
          let few = c.requires.few_packages in
          omega arith;
    }

pub returns : goal.returns
returns c = λ i parts.
    let l = c.args.lists in
    let ps = c.args.packages in
    let n = c.args.numbers in
    let r = c.args.rows in
    let t = c.args.tables in
    let count = parts.rows.order.0 in
    record {
      distinct = parts.distinct;
      nodes = parts.lists.order;
      needs = needs_are_listed i l ps n r t parts;
      errors = errors_are_listed i l ps n r t parts;
      reached = reached_are_listed i l ps n r t parts;
      packages = parts.packages;
      numbers = parts.numbers;
      rows = parts.rows;
      tables = parts.tables;
      place_count = parts.lists.place_count ∙ count;
      places = λ k lt. parts.lists.places k (omega arith);
    }

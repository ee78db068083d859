use Rattle.std.proofs.Common.{◌≡◌, ◌<◌, List, ℕ, [], ◌++◌, get_or, set, length, ap, sym, ◌∙◌, subst, Some, arith, rules}
use Rattle.std.specs.Prelude.{Vec}
use Rattle.std.specs.Option.{IfSome}
use Rattle.std.specs.Global.{Global}
use Rattle.std.proofs.lemmas.List.{get_or-map, map-set, length-map}
use Rattle.numbered_nodes.specs.Edges.{lists}
use Rattle.mod_graph.specs.Places.{module_in}
use Rattle.mod_graph.specs.Targets as spec
use Rattle.mod_graph.proofs.EdgeRows.{imports_added}
use Rattle.mod_graph.proofs.edges.add_imports.Goals as goal

pub returns-in_ok-push_modules-clause-targets : goal.returns-in_ok-push_modules-clause-targets
returns-in_ok-push_modules-clause-targets c =
    let rows : List (Vec ℕ Global) = c.args.rows.now in
    let module_ : ℕ = c.in-Some.module in
    let more : List ℕ = spec.module_targets c.args.numbers.now c.args.entry.now.imports in
    let at : module_in c.args.numbers.now c.args.entry.now.node.module.text ≡ Some module_ = search rules in
    let lt : module_ < length rows = subst (λ o. IfSome o (λ x. x < length rows)) at c.requires in
    let items : Vec ℕ Global → List ℕ = λ v. v.items in
    let row : c.push_modules.new.row.items ≡ get_or (lists rows) module_ [] ++ more =
    c.in_ok-push_modules.ensures
    ∙ ap (λ ys. (get_or rows module_ c.index-rows-module.result).items ++ spec.module_targets c.args.numbers.now ys) c.as_slice.ensures
    ∙ ap (λ r. r ++ more) (sym (get_or-map items rows module_ c.index-rows-module.result [] lt)) in
    imports_added c.args.numbers.now (lists rows) _ module_ c.args.entry.now (omega (arith, length-map rows items)) at
    (map-set items rows module_ c.push_modules.new.row ∙ ap (set (lists rows) module_) row)

use Rattle.std.proofs.Common.{List, ap, ◌∙◌, Some}
use Rattle.mk_base.specs.declared.name.Node.{Node}
use Rattle.build_plan.specs.Positions as positions
use Rattle.build_plan.specs.Tree.{input_of}
use Rattle.build_plan.proofs.Seen.{tree_place, no_place, package_place, prim_place}
use Rattle.build_plan.proofs.imports.seen_place.Goals as goal

pub returns-in-Some-Tree : goal.returns-in-Some-Tree
returns-in-Some-Tree c = λ t plan.
    let g = c.args.graph.now in
    tree_place t g plan c.args.place c.requires.place c.in_ok-copy.field-0 c.view.result c.view.ensures c.in-Some-Tree.seen (c.in-Some-Tree.is ∙ ap (λ v. Some v) c.in-Some-Tree.field-0-is)
    c.before_place.result c.before_place.ensures
    ∙ ap (positions.seen_place (input_of t) g.order c.args.place) c.in_ok-copy.ensures
    ∙ ap (λ (ns : List Node). positions.seen_place (input_of t) ns c.args.place c.args.import.now.module.text) plan.order

pub returns-in-Some-Package : goal.returns-in-Some-Package
returns-in-Some-Package c = λ t plan.
    let g = c.args.graph.now in
    package_place t g plan c.args.place c.requires.place c.in_ok-copy.field-0 c.view.result c.view.ensures _ (c.in-Some-Package.is ∙ ap (λ v. Some v) c.in-Some-Package.field-0-is)
    ∙ ap (positions.seen_place (input_of t) g.order c.args.place) c.in_ok-copy.ensures
    ∙ ap (λ (ns : List Node). positions.seen_place (input_of t) ns c.args.place c.args.import.now.module.text) plan.order

pub returns-in-Some-Prim : goal.returns-in-Some-Prim
returns-in-Some-Prim c = λ t plan.
    let g = c.args.graph.now in
    prim_place t g plan c.args.place c.requires.place c.in_ok-copy.field-0 c.view.result c.view.ensures (c.in-Some-Prim.is ∙ ap (λ v. Some v) c.in-Some-Prim.field-0-is)
    ∙ ap (positions.seen_place (input_of t) g.order c.args.place) c.in_ok-copy.ensures
    ∙ ap (λ (ns : List Node). positions.seen_place (input_of t) ns c.args.place c.args.import.now.module.text) plan.order

pub returns : goal.returns
returns c = λ t plan.
    let g = c.args.graph.now in
    no_place t g plan c.args.place c.requires.place c.in_ok-copy.field-0 c.view.result c.view.ensures c.in-None.is
    ∙ ap (positions.seen_place (input_of t) g.order c.args.place) c.in_ok-copy.ensures
    ∙ ap (λ (ns : List Node). positions.seen_place (input_of t) ns c.args.place c.args.import.now.module.text) plan.order

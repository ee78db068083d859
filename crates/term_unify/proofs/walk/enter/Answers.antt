use Rattle.std.proofs.Common.{ℕ, ◌++◌, ◌∷◌, [], List, slice_set, refl, sym, subst}
use Rattle.term_classes.specs.declared.node.Node.TheVariants.{Free, Rigid, Con, App}
use Rattle.term_unify.specs.declared.walk.Visit.{Visit}
use Rattle.term_unify.specs.declared.walk.Visit.TheVariants.{Enter}
use Rattle.term_unify.specs.Walk.{Visited}
use Rattle.term_unify.proofs.Gather.{within_last, meets_variable, meets_parts, meets_constructor, meets_done}
use Rattle.term_unify.proofs.walk.enter.Goals as goal

pub find-class-requires-clause-from : goal.find-class-requires-clause-from
find-class-requires-clause-from c = within_last c.args.nodes.now c.args.slots.now c.args.todo.now.items (Enter c.args.at) c.requires.gathers.within

pub returns-then-marks-class-clause-visited : goal.returns-then-marks-class-clause-visited
returns-then-marks-class-clause-visited c =
    let l = within_last c.args.nodes.now c.args.slots.now c.args.todo.now.items (Enter c.args.at) c.requires.gathers.within in
    meets_done c.args.nodes.now c.args.slots.now c.args.variables.now c.args.marks.now c.args.clock c.args.found.now.items c.args.todo.now.items c.args.at c.find-class.result c.requires.sound c.requires.order l c.find-class.ensures.root c.if-marks-class.true c.requires.gathers

pub returns-in_ok-find_variable-in-Free-clause-visited : goal.returns-in_ok-find_variable-in-Free-clause-visited
returns-in_ok-find_variable-in-Free-clause-visited c =
    let l = within_last c.args.nodes.now c.args.slots.now c.args.todo.now.items (Enter c.args.at) c.requires.gathers.within in
    let e = c.in_ok-find_variable-in-Free.ensures in
    let todo = c.args.todo.now.items in
    let found = c.args.found.now.items in
    subst (λ (m : List ℕ). Visited c.args.nodes.now c.args.slots.now c.args.variables.now m c.args.clock found c.find_variable.new.found.items (todo ++ Enter c.args.at ∷ []) todo) (sym e.marks)
    (subst (λ (f : List ℕ). Visited c.args.nodes.now c.args.slots.now c.args.variables.now (slice_set c.args.marks.now c.find-class.result c.args.clock) c.args.clock found f (todo ++ Enter c.args.at ∷ []) todo) (sym e.found)
    (meets_variable c.args.nodes.now c.args.slots.now c.args.variables.now c.requires.sound c.requires.order c.requires.numbered c.args.at c.find-class.result c.index-nodes-slots.result (Free c.in-Free.number) l c.find-class.ensures.root c.index-nodes-slots.is c.in-Free.is
    c.in-Free.number c.args.marks.now c.args.clock found todo refl c.if-marks-class.false c.requires.gathers))

pub returns-in_ok-find_variable-in-Rigid-clause-visited : goal.returns-in_ok-find_variable-in-Rigid-clause-visited
returns-in_ok-find_variable-in-Rigid-clause-visited c =
    let l = within_last c.args.nodes.now c.args.slots.now c.args.todo.now.items (Enter c.args.at) c.requires.gathers.within in
    let e = c.in_ok-find_variable-in-Rigid.ensures in
    let todo = c.args.todo.now.items in
    let found = c.args.found.now.items in
    subst (λ (m : List ℕ). Visited c.args.nodes.now c.args.slots.now c.args.variables.now m c.args.clock found c.find_variable-in-Rigid.new.found.items (todo ++ Enter c.args.at ∷ []) todo) (sym e.marks)
    (subst (λ (f : List ℕ). Visited c.args.nodes.now c.args.slots.now c.args.variables.now (slice_set c.args.marks.now c.find-class.result c.args.clock) c.args.clock found f (todo ++ Enter c.args.at ∷ []) todo) (sym e.found)
    (meets_variable c.args.nodes.now c.args.slots.now c.args.variables.now c.requires.sound c.requires.order c.requires.numbered c.args.at c.find-class.result c.index-nodes-slots.result (Rigid c.in-Rigid.number) l c.find-class.ensures.root c.index-nodes-slots.is c.in-Rigid.is
    c.in-Rigid.number c.args.marks.now c.args.clock found todo refl c.if-marks-class.false c.requires.gathers))

pub returns-in-Con-clause-visited : goal.returns-in-Con-clause-visited
returns-in-Con-clause-visited c =
    let l = within_last c.args.nodes.now c.args.slots.now c.args.todo.now.items (Enter c.args.at) c.requires.gathers.within in
    meets_constructor c.args.nodes.now c.args.slots.now c.args.variables.now c.requires.sound c.requires.order c.requires.numbered c.args.at c.find-class.result c.index-nodes-slots.result (Con c.in-Con.field-0) l c.find-class.ensures.root c.index-nodes-slots.is c.in-Con.is
    c.in-Con.field-0 c.args.marks.now c.args.clock c.args.found.now.items c.args.todo.now.items refl c.requires.gathers

pub returns-in_ok-enter_parts-in-App-clause-visited : goal.returns-in_ok-enter_parts-in-App-clause-visited
returns-in_ok-enter_parts-in-App-clause-visited c =
    let l = within_last c.args.nodes.now c.args.slots.now c.args.todo.now.items (Enter c.args.at) c.requires.gathers.within in
    let todo = c.args.todo.now.items in
    let found = c.args.found.now.items in
    subst (λ (t : List Visit). Visited c.args.nodes.now c.args.slots.now c.args.variables.now c.args.marks.now c.args.clock found found (todo ++ Enter c.args.at ∷ []) t) (sym c.in_ok-enter_parts-in-App.ensures.todo)
    (meets_parts c.args.nodes.now c.args.slots.now c.args.variables.now c.requires.sound c.requires.order c.requires.numbered c.args.at c.find-class.result c.index-nodes-slots.result (App c.in-App.f c.in-App.a) l c.find-class.ensures.root c.index-nodes-slots.is c.in-App.is
    c.in-App.f c.in-App.a c.args.marks.now c.args.clock found todo refl c.requires.gathers)

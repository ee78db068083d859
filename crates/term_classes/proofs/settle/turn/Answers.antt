use Rattle.std.proofs.Common.{ℕ, ◌≡◌, ◌<◌, ◌-◌, ◌+◌, List, [], ◌∷◌, ◌++◌, length, get_or, take, sym, ap, ◌∙◌, subst, arith, slice_set, rules}
use Rattle.std.proofs.lemmas.List.{get_or_default}
use Rattle.term_classes.specs.Settle.{Turned, left}
use Rattle.term_classes.proofs.Steps.{next_fits, path_last, around, part_under, went_down, under_all, went_back, back_fewer, at_end}
use Rattle.term_classes.proofs.settle.turn.Goals as goal

pub finish-requires-clause-next : goal.finish-requires-clause-next
finish-requires-clause-next c =
    let h = next_fits c.args.nodes.now c.args.slots.now c.args.marks.now c.args.starts.now c.args.path.now.items c.args.clock c.args.low c.args.next.now c.requires.walk c.requires.on c.requires.some in
    omega arith

pub returns-in-Loop-clause-part_of_itself : goal.returns-in-Loop-clause-part_of_itself
returns-in-Loop-clause-part_of_itself c _ q f =
    let path = c.args.path.now.items in
    let at = c.index-at.result.now in
    let n : c.len.result ≡ length path = search rules in
    let some : 0 < length path = c.requires.some in
    let is : at ≡ get_or path (length path - 1) 0 = c.index-at.ensures ∙ ap (λ k. get_or path (k - 1) at) n ∙ get_or_default path (length path - 1) at 0 (omega arith) in
    let whole : path ≡ take (length path - 1) path ++ at ∷ [] = path_last path some ∙ ap (λ z. take (length path - 1) path ++ z ∷ []) (sym is) in
    let nodes = c.args.nodes.now in
    let slots = c.args.slots.now in
    let marks = c.args.marks.now in
    let starts = c.args.starts.now in
    let clock = c.args.clock in
    let here = at_end nodes slots marks path (take (length path - 1) path) clock at c.requires.on whole in
    let m = c.in-Loop.ensures in
    around nodes slots marks starts path clock c.args.low c.args.next.now c.requires.walk c.requires.on (take (length path - 1) path) at c.in-Loop.field-0 whole
    (part_under nodes slots at c.in-Loop.field-0 c.requires.walk.sound here.0 here.1 m.0) m.1 m.2 q f

pub returns-in_ok-go_down-in-Down-clause-turned : goal.returns-in_ok-go_down-in-Down-clause-turned
returns-in_ok-go_down-in-Down-clause-turned c _ =
    let path = c.args.path.now.items in
    let at = c.index-at.result.now in
    let n : c.len.result ≡ length path = search rules in
    let some : 0 < length path = c.requires.some in
    let is : at ≡ get_or path (length path - 1) 0 = c.index-at.ensures ∙ ap (λ k. get_or path (k - 1) at) n ∙ get_or_default path (length path - 1) at 0 (omega arith) in
    let whole : path ≡ take (length path - 1) path ++ at ∷ [] = path_last path some ∙ ap (λ z. take (length path - 1) path ++ z ∷ []) (sym is) in
    let nodes = c.args.nodes.now in
    let slots = c.args.slots.now in
    let marks = c.args.marks.now in
    let starts = c.args.starts.now in
    let clock = c.args.clock in
    let here = at_end nodes slots marks path (take (length path - 1) path) clock at c.requires.on whole in
    let m = c.in-Down.ensures in
    let d = c.in-Down.d in
    let e = c.in_ok-go_down-in-Down.ensures in
    let t = went_down nodes slots marks starts path clock c.args.low c.args.next.now c.requires.walk c.requires.on d m.1 m.2 m.3
    (under_all nodes slots marks starts path clock c.args.low c.args.next.now c.requires.walk c.requires.on (take (length path - 1) path) at d whole
    (part_under nodes slots at d c.requires.walk.sound here.0 here.1 m.0)) in
    subst (λ (k : List ℕ). Turned nodes slots slots marks k starts clock c.args.low c.args.next.now c.go_down.new.path.items) (sym e.marks)
    (subst (λ (p : List ℕ). Turned nodes slots slots marks (slice_set marks d clock) starts clock c.args.low c.args.next.now p) (sym e.path) t)

pub returns-in_ok-finish-in-Done-clause-turned : goal.returns-in_ok-finish-in-Done-clause-turned
returns-in_ok-finish-in-Done-clause-turned c _ =
    let path = c.args.path.now.items in
    let at = c.index-at.result.now in
    let n : c.len.result ≡ length path = search rules in
    let some : 0 < length path = c.requires.some in
    let is : at ≡ get_or path (length path - 1) 0 = c.index-at.ensures ∙ ap (λ k. get_or path (k - 1) at) n ∙ get_or_default path (length path - 1) at 0 (omega arith) in
    let whole : path ≡ take (length path - 1) path ++ at ∷ [] = path_last path some ∙ ap (λ z. take (length path - 1) path ++ z ∷ []) (sym is) in
    let nodes = c.args.nodes.now in
    let slots = c.args.slots.now in
    let marks = c.args.marks.now in
    let starts = c.args.starts.now in
    let clock = c.args.clock in
    let here = at_end nodes slots marks path (take (length path - 1) path) clock at c.requires.on whole in
    let e = c.in_ok-finish-in-Done.ensures in
    let t = went_back nodes slots marks starts path clock c.args.low c.args.next.now c.requires.walk c.requires.on (take (length path - 1) path) at c.args.base c.finish.new.slots whole e.rank c.requires.base c.in-Done.ensures in
    subst (λ (k : List ℕ). Turned nodes slots c.finish.new.slots marks k starts clock c.args.low c.finish.new.next c.finish.new.path.items) (sym e.marks)
    (subst (λ (p : List ℕ). Turned nodes slots c.finish.new.slots marks (slice_set marks at (clock + 1)) starts clock c.args.low c.finish.new.next p) (sym e.path)
    (subst (λ z. Turned nodes slots c.finish.new.slots marks (slice_set marks at (clock + 1)) starts clock c.args.low z (take (length path - 1) path)) (sym e.next) t))

pub returns-in_ok-finish-in-Done-clause-fewer : goal.returns-in_ok-finish-in-Done-clause-fewer
returns-in_ok-finish-in-Done-clause-fewer c _ =
    let path = c.args.path.now.items in
    let at = c.index-at.result.now in
    let n : c.len.result ≡ length path = search rules in
    let some : 0 < length path = c.requires.some in
    let is : at ≡ get_or path (length path - 1) 0 = c.index-at.ensures ∙ ap (λ k. get_or path (k - 1) at) n ∙ get_or_default path (length path - 1) at 0 (omega arith) in
    let whole : path ≡ take (length path - 1) path ++ at ∷ [] = path_last path some ∙ ap (λ z. take (length path - 1) path ++ z ∷ []) (sym is) in
    let nodes = c.args.nodes.now in
    let slots = c.args.slots.now in
    let marks = c.args.marks.now in
    let starts = c.args.starts.now in
    let clock = c.args.clock in
    let here = at_end nodes slots marks path (take (length path - 1) path) clock at c.requires.on whole in
    let e = c.in_ok-finish-in-Done.ensures in
    subst (λ (k : List ℕ). left clock k < left clock marks) (sym e.marks)
    (back_fewer nodes slots marks starts path clock c.args.low c.args.next.now c.requires.walk c.requires.on (take (length path - 1) path) at c.args.base c.finish.new.slots whole e.rank c.requires.base c.in-Done.ensures)

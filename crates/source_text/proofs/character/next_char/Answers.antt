use Rattle.std.proofs.Common.{◌-◌, length, drop, arith, rules, length-drop, length-take, sym, ◌∙◌}
use Rattle.source_text.proofs.Characters.{good_step, bad_step, bounds, filled, empty}
use Rattle.source_text.proofs.character.next_char.Goals as goal

pub slice_bounds-result-count : goal.slice_bounds-result-count
slice_bounds-result-count c = let b = bounds c.args.bytes.now c.decode.result.1 c.decode.ensures.size (filled _ _ c.is_empty.ensures c.if-is_empty.false) in omega arith

pub slice_bounds-result-start : goal.slice_bounds-result-start
slice_bounds-result-start c = let b = bounds c.args.bytes.now c.decode.result.1 c.decode.ensures.size (filled _ _ c.is_empty.ensures c.if-is_empty.false) in search rules

pub returns-in-Some-default-clause-is : goal.returns-in-Some-default-clause-is
returns-in-Some-default-clause-is c = good_step c.args.bytes.now c.in-Some-default.c c.decode.result.1 (filled _ _ c.is_empty.ensures c.if-is_empty.false) (sym c.decode.ensures.char ∙ c.in-Some-default.is-0) c.decode.ensures.size

pub returns-in-Some-default-clause-less : goal.returns-in-Some-default-clause-less
returns-in-Some-default-clause-less c =
    let b = bounds c.args.bytes.now c.decode.result.1 c.decode.ensures.size (filled _ _ c.is_empty.ensures c.if-is_empty.false) in
    let n = c.decode.result.1 in
    let bs = c.args.bytes.now in
    omega (arith, length-drop n bs, length-take (length bs - n) (drop n bs))

pub returns-in-None-default-clause-is : goal.returns-in-None-default-clause-is
returns-in-None-default-clause-is c = bad_step c.args.bytes.now (filled _ _ c.is_empty.ensures c.if-is_empty.false) (sym c.decode.ensures.char ∙ c.in-None-default.is-0)

pub returns-then-is_empty-clause-is : goal.returns-then-is_empty-clause-is
returns-then-is_empty-clause-is c = empty _ _ c.is_empty.ensures c.if-is_empty.true

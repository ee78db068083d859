use Rattle.std.proofs.Common.{◌<◌, length, get_or, arith}
use Rattle.std.proofs.lemmas.List.{get_or_default}
use Rattle.term_classes.specs.declared.node.Saved.{Saved}
use Rattle.term_classes.proofs.Caps.{lowered_on, all_capped}
use Rattle.term_classes.proofs.ceiling.cap_saved.Goals as goal

pub loop-one-preserved : goal.loop-one-preserved
loop-one-preserved c =
    let saved = c.args.saved.now in
    let n = c.loop-one.one-index in
    let zero : Saved = record { at = 0; slot = record { link = 0; shape = 0; rank = 0; height = 0 } } in
    let s = get_or saved n zero in
    let lt : n < length saved = c.loop-one-test.true in
    let inv = c.loop-one.invariant in
    record {
      lowered = lowered_on c.args.ceilings.now c.loop-one.ceilings c.cap_class.new.ceilings inv.lowered c.cap_class.ensures.lowered;
      capped = all_capped c.args.nodes.now c.args.slots.now c.loop-one.ceilings c.cap_class.new.ceilings saved n s (λ d. get_or_default saved n d zero lt) c.cap_class.ensures.lowered inv.capped c.cap_class.ensures.capped;
    }

pub returns-clause-capped : goal.returns-clause-capped
returns-clause-capped c i p r = c.loop-one.invariant.capped p.0 i (let l = p.1 in omega arith) p.2 r

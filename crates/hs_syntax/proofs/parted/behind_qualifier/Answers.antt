use Rattle.std.proofs.Common.{arith, sym, ◌∙◌}
use Rattle.hs_syntax.proofs.Names.{passed_none, passed_more, behind_last, behind_small}
use Rattle.hs_syntax.proofs.parted.behind_qualifier.Goals as goal

pub loop-piece-init : goal.loop-piece-init
loop-piece-init c = record { passed = passed_none _; less = omega arith }

pub returns-then-not-begins_large-clause-name : goal.returns-then-not-begins_large-clause-name
returns-then-not-begins_large-clause-name c = (behind_small _ _ _ _ c.loop-piece.invariant.passed c.in-Some.ensures.pieces.0 (sym c.begins_large.ensures ∙ c.if-not-begins_large.true)).0

pub returns-then-not-begins_large-clause-qualifier : goal.returns-then-not-begins_large-clause-qualifier
returns-then-not-begins_large-clause-qualifier c = (behind_small _ _ _ _ c.loop-piece.invariant.passed c.in-Some.ensures.pieces.0 (sym c.begins_large.ensures ∙ c.if-not-begins_large.true)).1

pub loop-piece-preserved : goal.loop-piece-preserved
loop-piece-preserved c = record {
  passed = passed_more _ _ _ _ c.loop-piece.invariant.passed c.in-Some.ensures.pieces.0 c.in-Some.ensures.pieces.1 (sym c.begins_large.ensures ∙ c.if-not-begins_large.false);
  less = omega (arith, c.in-Some.ensures.less);
}

pub returns-clause-name : goal.returns-clause-name
returns-clause-name c = (behind_last _ _ c.loop-piece.invariant.passed c.in_default.ensures.pieces).0

pub returns-clause-qualifier : goal.returns-clause-qualifier
returns-clause-qualifier c = (behind_last _ _ c.loop-piece.invariant.passed c.in_default.ensures.pieces).1

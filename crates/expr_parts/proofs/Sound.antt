-- What is read is derived.
use Rattle.std.proofs.Common.{ℕ, suc, zero}
use Rattle.expr_parts.specs.Expressions.{Forms, forms, next_forms}
use Rattle.expr_parts.proofs.PartsSound.{PartsSound}
use Rattle.expr_parts.proofs.Derived.{SoundForms}
use Rattle.expr_parts.proofs.ChainSound.{exp_sound, chain_sound, operand_sound, lambda_sound, let_in_sound, if_sound, case_sound, apply_sound, args_sound}
use Rattle.expr_parts.proofs.AexpSound.{aexp_sound, updates_sound, fbinds_sound, simple_sound, paren_sound, right_sound, exps_sound, bracket_sound, listed_sound, second_sound, limit_sound}
use Rattle.expr_parts.proofs.BlockSound.{alts_sound, alt_sound, stmts_sound, decls_sound, decl_sound, clause_sound, locals_sound, quals_sound, part_sound, let_part_sound, body_sound, arms_sound, arm_sound, guards_sound, guard_sound, let_guard_sound}

next_forms_sound : (q : PartsSound) (n : ℕ) (r : Forms) → SoundForms r → SoundForms (next_forms n r)
next_forms_sound q n r s = record {
  exp = exp_sound q n r s;
  chain = chain_sound q n r s;
  operand = operand_sound n r s;
  lambda = lambda_sound q n r s;
  let_in = let_in_sound n r s;
  if_else = if_sound n r s;
  case_of = case_sound n r s;
  alts = alts_sound n r s;
  alt = alt_sound q n r s;
  stmts = stmts_sound n r s;
  apply = apply_sound n r s;
  args = args_sound n r s;
  aexp = aexp_sound n r s;
  updates = updates_sound n r s;
  fbinds = fbinds_sound q n r s;
  simple = simple_sound q n r s;
  paren = paren_sound q n r s;
  right = right_sound n r s;
  exps = exps_sound n r s;
  bracket = bracket_sound n r s;
  listed = listed_sound n r s;
  second = second_sound n r s;
  limit = limit_sound n r s;
  quals = quals_sound n r s;
  part = part_sound q n r s;
  let_part = let_part_sound n r s;
  body = body_sound n r s;
  arms = arms_sound n r s;
  arm = arm_sound n r s;
  guards = guards_sound n r s;
  guard = guard_sound q n r s;
  let_guard = let_guard_sound n r s;
  locals = locals_sound n r s;
  decls = decls_sound n r s;
  decl = decl_sound q n r s;
  clause = clause_sound q n r s;
}

pub forms_sound : (q : PartsSound) (n : ℕ) → SoundForms (forms n)
unfolding forms
forms_sound q zero = record {
  exp = λ tail ts. tt;
  chain = λ tail at ls ts. tt;
  operand = λ tail ts. tt;
  lambda = λ tail t a g. tt;
  let_in = λ tail t a g. tt;
  if_else = λ tail t a g. tt;
  case_of = λ t a g. tt;
  alts = λ at e put xs ts. tt;
  alt = λ ts. tt;
  stmts = λ at put ss whole ts. tt;
  apply = λ ts. tt;
  args = λ at h xs ts. tt;
  aexp = λ ts. tt;
  updates = λ at x us ts. tt;
  fbinds = λ fs ts. tt;
  simple = λ ts. tt;
  paren = λ t a g. tt;
  right = λ t m a b x g h o. tt;
  exps = λ es ts. tt;
  bracket = λ t a g. tt;
  listed = λ t a b e g d. tt;
  second = λ t m a b e g d i. tt;
  limit = λ t w a b d e x g h i j. tt;
  quals = λ xs ts. tt;
  part = λ ts. tt;
  let_part = λ t a g. tt;
  body = λ s ts. tt;
  arms = λ s xs ts. tt;
  arm = λ s ts. tt;
  guards = λ s xs ts. tt;
  guard = λ s ts. tt;
  let_guard = λ s t a g. tt;
  locals = λ ts. tt;
  decls = λ put xs ts. tt;
  decl = λ ts. tt;
  clause = λ ts. tt;
}
forms_sound q (suc n) = next_forms_sound q n (forms n) (forms_sound q n)

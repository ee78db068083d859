-- What is derived is read.
use Rattle.std.proofs.Common.{ℕ, suc, zero, arith}
use Rattle.expr_parts.specs.Expressions.{Forms, forms, next_forms}
use Rattle.expr_parts.proofs.PartsComplete.{Parts}
use Rattle.expr_parts.proofs.Read.{CompleteForms}
use Rattle.expr_parts.proofs.ChainComplete.{exp_complete, links_complete, closed_complete, opened_complete, lambda_complete, let_in_complete, if_complete, case_complete, apply_complete, args_complete}
use Rattle.expr_parts.proofs.AexpComplete.{aexp_complete, updates_complete, fbinds_complete, simple_complete, tuple_complete, left_complete, section_read, right_complete, exps_complete, list_complete, range_complete, comprehension_complete, listed_more_complete, listed_range_complete, listed_bar_complete, second_more_complete, second_range_complete, limit_complete}
use Rattle.expr_parts.proofs.BlockComplete.{alts_complete, alt_complete, stmts_complete, gaps_complete, quals_complete, part_complete, let_part_complete, body_complete, arms_complete, arm_complete, guards_complete, guard_complete, let_guard_complete, locals_complete, decls_complete, decl_complete, clause_complete}

next_forms_complete : (p : Parts) (n : ℕ) (r : Forms) → CompleteForms n r → CompleteForms (suc n) (next_forms n r)
next_forms_complete p n r c = record {
  exp = exp_complete p n r c;
  links = links_complete p n r c;
  closed = closed_complete n r c;
  opened = opened_complete n r c;
  lambda = lambda_complete p n r c;
  let_in = let_in_complete n r c;
  if_else = if_complete p n r c;
  case_of = case_complete p n r c;
  alts = alts_complete n r c;
  alt = alt_complete p n r c;
  stmts = stmts_complete p n r c;
  gaps = gaps_complete n r c;
  apply = apply_complete n r c;
  args = args_complete n r c;
  aexp = aexp_complete n r c;
  updates = updates_complete n r c;
  fbinds = fbinds_complete p n r c;
  simple = simple_complete p n r c;
  tuple = tuple_complete p n r c;
  left = left_complete p n r c;
  section = section_read p n r c;
  right = right_complete p n r c;
  exps = exps_complete p n r c;
  list = list_complete p n r c;
  range = range_complete p n r c;
  comprehension = comprehension_complete p n r c;
  listed_more = listed_more_complete p n r c;
  listed_range = listed_range_complete n r c;
  listed_bar = listed_bar_complete n r c;
  second_more = second_more_complete p n r c;
  second_range = second_range_complete p n r c;
  limit = limit_complete p n r c;
  quals = quals_complete p n r c;
  part = part_complete p n r c;
  let_part = let_part_complete n r c;
  body = body_complete p n r c;
  arms = arms_complete n r c;
  arm = arm_complete p n r c;
  guards = guards_complete n r c;
  guard = guard_complete p n r c;
  let_guard = let_guard_complete p n r c;
  locals = locals_complete n r c;
  decls = decls_complete n r c;
  decl = decl_complete p n r c;
  clause = clause_complete p n r c;
}

pub forms_complete : (p : Parts) (n : ℕ) → CompleteForms n (forms n)
unfolding forms
forms_complete p zero = record {
  exp = λ tail d ends h. absurd (let x : ⊥ = omega arith in x);
  links = λ tail d ends h at ls. absurd (let x : ⊥ = omega arith in x);
  closed = λ tail d e f h. absurd (let x : ⊥ = omega arith in x);
  opened = λ tail d ends h. absurd (let x : ⊥ = omega arith in x);
  lambda = λ tail d e ends h. absurd (let x : ⊥ = omega arith in x);
  let_in = λ tail d e ends h. absurd (let x : ⊥ = omega arith in x);
  if_else = λ tail d e ends h. absurd (let x : ⊥ = omega arith in x);
  case_of = λ d e h. absurd (let x : ⊥ = omega arith in x);
  alts = λ d h at e ys. absurd (let x : ⊥ = omega arith in x);
  alt = λ d e h. absurd (let x : ⊥ = omega arith in x);
  stmts = λ d h at us whole. absurd (let x : ⊥ = omega arith in x);
  gaps = λ d e h at us. absurd (let x : ⊥ = omega arith in x);
  apply = λ d y e f h. absurd (let x : ⊥ = omega arith in x);
  args = λ d e f h at g ys. absurd (let x : ⊥ = omega arith in x);
  aexp = λ d e h. absurd (let x : ⊥ = omega arith in x);
  updates = λ d e h at y vs. absurd (let x : ⊥ = omega arith in x);
  fbinds = λ d e h gs. absurd (let x : ⊥ = omega arith in x);
  simple = λ d e h. absurd (let x : ⊥ = omega arith in x);
  tuple = λ d e h at. absurd (let x : ⊥ = omega arith in x);
  left = λ d q e h at. absurd (let x : ⊥ = omega arith in x);
  section = λ g q d e h at. absurd (let x : ⊥ = omega arith in x);
  right = λ d e h at q. absurd (let x : ⊥ = omega arith in x);
  exps = λ d ends e h xs. absurd (let x : ⊥ = omega arith in x);
  list = λ d e h at. absurd (let x : ⊥ = omega arith in x);
  range = λ d y e z f h at. absurd (let x : ⊥ = omega arith in x);
  comprehension = λ d e y f h at. absurd (let x : ⊥ = omega arith in x);
  listed_more = λ d e h at y. absurd (let x : ⊥ = omega arith in x);
  listed_range = λ y e z f h at u. absurd (let x : ⊥ = omega arith in x);
  listed_bar = λ m e y f h at u. absurd (let x : ⊥ = omega arith in x);
  second_more = λ d y e h at u. absurd (let x : ⊥ = omega arith in x);
  second_range = λ d e z f h at u. absurd (let x : ⊥ = omega arith in x);
  limit = λ d e h at u y. absurd (let x : ⊥ = omega arith in x);
  quals = λ d e h xs. absurd (let x : ⊥ = omega arith in x);
  part = λ d ends h. absurd (let x : ⊥ = omega arith in x);
  let_part = λ d e ends h. absurd (let x : ⊥ = omega arith in x);
  body = λ d e h. absurd (let x : ⊥ = omega arith in x);
  arms = λ s d e f h ys. absurd (let x : ⊥ = omega arith in x);
  arm = λ s d e h. absurd (let x : ⊥ = omega arith in x);
  guards = λ s d e f h ys. absurd (let x : ⊥ = omega arith in x);
  guard = λ s d e h. absurd (let x : ⊥ = omega arith in x);
  let_guard = λ s d e ends h. absurd (let x : ⊥ = omega arith in x);
  locals = λ d e h. absurd (let x : ⊥ = omega arith in x);
  decls = λ d h xs. absurd (let x : ⊥ = omega arith in x);
  decl = λ d e h. absurd (let x : ⊥ = omega arith in x);
  clause = λ d e h. absurd (let x : ⊥ = omega arith in x);
}
forms_complete p (suc n) = next_forms_complete p n (forms n) (forms_complete p n)

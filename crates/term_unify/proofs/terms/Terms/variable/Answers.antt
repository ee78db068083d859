use Rattle.std.proofs.Common.{◌≡◌, get_or, sym, ap, ◌∙◌, arith, length, ◌<◌}
use Rattle.term_unify.proofs.Solution.{variable_made}
use Rattle.term_unify.specs.Arena.{count_of}
use Rattle.std.proofs.lemmas.List.{get_or_default}
use Rattle.term_unify.proofs.terms.Terms.variable.Goals as goal

pub returns-clause-made : goal.returns-clause-made
returns-clause-made c =
    let in_ = c.self.inside in
    let v : c.args.self.now ≡ record { nodes = in_.nodes.items; slots = in_.slots.items; variables = in_.variables.items } = sym c.self.view_is in
    let l : c.args.number < length in_.variables.items = let e = ap count_of v in let r = c.requires.number in omega arith in
    let i : c.index.result.now ≡ get_or in_.variables.items c.args.number 0 = c.index.ensures ∙ get_or_default in_.variables.items c.args.number c.index.result.now 0 l in
    (variable_made c.args.self.now in_.nodes.items in_.slots.items in_.variables.items v c.self.invariant.numbered c.args.number c.index.result.now l i).1

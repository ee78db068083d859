use Rattle.std.proofs.Common.{sym}
use Rattle.term_unify.proofs.Solution.{solved_of}
use Rattle.term_unify.proofs.terms.Terms.read_back.Goals as goal

pub returns-clause-under : goal.returns-clause-under
returns-clause-under c =
    let in_ = c.self.inside in
    let h = c.self.invariant in
    solved_of c.args.self.now in_.nodes.items in_.slots.items in_.variables.items (sym c.self.view_is) h.sound h.order h.natural h.numbered c.args.t.0 c.requires.t

use Rattle.std.proofs.Common.{◌≡◌, sym}
use Rattle.term_unify.proofs.Solution.{general_of, none_of}
use Rattle.term_unify.proofs.terms.Terms.unify.Goals as goal

pub returns-clause-general : goal.returns-clause-general
returns-clause-general c r pairs m =
    let in_ = c.self.inside in
    let h = c.self.invariant in
    let v : c.args.self.now ≡ record { nodes = in_.nodes.items; slots = in_.slots.items; variables = in_.variables.items } = sym c.self.view_is in
    let u = c.unify_all.ensures in
    general_of c.args.self.now in_.nodes.items c.deref.result.now in_.slots.items c.unify_all.new.slots.items in_.variables.items v c.deref.ensures.value h.sound h.order h.natural h.numbered pairs c.args.a.0 c.args.b.0 c.requires.a c.requires.b m (u.fits r) u.sound u.order

pub returns-clause-none : goal.returns-clause-none
returns-clause-none c r pairs m =
    let in_ = c.self.inside in
    let h = c.self.invariant in
    let v : c.args.self.now ≡ record { nodes = in_.nodes.items; slots = in_.slots.items; variables = in_.variables.items } = sym c.self.view_is in
    let u = c.unify_all.ensures in
    none_of c.args.self.now in_.nodes.items c.deref.result.now in_.slots.items c.unify_all.new.slots.items in_.variables.items v c.deref.ensures.value h.sound h.order h.natural h.numbered pairs c.args.a.0 c.args.b.0 c.requires.a c.requires.b m (u.none_fits r)

use Rattle.std.proofs.Common.{◌≡◌, ◌<◌, sym, arith, length, rules}
use Rattle.term_unify.proofs.Relax.{relaxed_none, relaxed_step}
use Rattle.term_unify.proofs.terms.Terms.relaxed.Goals as goal

pub loop-at-init : goal.loop-at-init
loop-at-init c = record { relaxed = relaxed_none c.args.self.now.nodes c.new-terms.result c.new-terms.ensures.none c.new-terms.ensures.most_general c.new-terms.ensures.rigid }

pub loop-at-preserved : goal.loop-at-preserved
loop-at-preserved c =
    let in_ = c.self.inside in
    let h = c.self.invariant in
    let v : c.args.self.now ≡ record { nodes = in_.nodes.items; slots = in_.slots.items; variables = in_.variables.items } = sym c.self.view_is in
    let l : c.loop-at.at < length in_.nodes.items = let t = c.loop-at-test.true in let e : c.len-at-end.result ≡ length in_.nodes.items = search rules in omega arith in
    record { relaxed = relaxed_step c.args.self.now in_.nodes.items in_.slots.items in_.variables.items c.loop-at.at c.loop-at.terms c.add_like.new.self c.index.result.now v h.sound.parts h.numbered l c.index.ensures c.loop-at.invariant.relaxed c.in_ok-add_like.ensures.grown }

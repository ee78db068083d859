use Rattle.std.proofs.Common.{◌↔◌, IsTrue, List, sym, subst}
use Rattle.face_model.specs.declared.scheme.Constraint.{Constraint}
use Rattle.face_model.specs.Environments.{Faces, insts_of}
use Rattle.class_env.specs.declared.given.Held.{Held}
use Rattle.class_env.specs.Terms.{term_of}
use Rattle.class_env.specs.Supers.{supers_of}
use Rattle.class_env.specs.Entails.{Known, KnownIn, Entails}
use Rattle.class_env.proofs.Entailed.{follows_alike}
use Rattle.class_env.proofs.entail.entails.Goals as goal

pub returns-clause-exact : goal.returns-clause-exact
returns-clause-exact g c =
    let supers = supers_of (g.E.Env.faces c.args.env.now) in
    let held = c.deref.result.now in
    follows_alike (KnownIn held) (Known supers c.args.given.now) (insts_of (g.E.Env.faces c.args.env.now)) c.in_ok-follows.follows c.args.wanted.now.class (term_of c.args.wanted.now.ty)
    (λ n t. subst (λ (l : List Held). KnownIn l n t ↔ Known supers c.args.given.now n t) (sym c.deref.ensures.value)
    (subst (λ (ws : List Constraint). KnownIn c.in_ok-held.held.items n t ↔ Known supers ws n t) c.as_slice.ensures (c.in_ok-held.ensures.known n t)))
    (subst (λ (fs : Faces). IsTrue c.in_ok-follows.follows ↔ Entails (KnownIn held) (insts_of fs) c.args.wanted.now.class (term_of c.args.wanted.now.ty)) c.held_of.ensures.same c.in_ok-follows.ensures.exact)

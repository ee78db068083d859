use Rattle.std.proofs.Common.{ap}
use Rattle.class_env.specs.Terms.{term_of}
use Rattle.class_env.proofs.Types.{one_type}
use Rattle.class_env.proofs.given.gives.Goals as goal

pub returns-then-has_name : goal.returns-then-has_name
returns-then-has_name c = (
  (λ h. (c.has_name.ensures.0 c.if-has_name.true, ap term_of (c.same_ty.ensures.0 h))),
  (λ h. c.same_ty.ensures.1 (one_type c.args.held.now.ty.now c.args.t.now h.1)),
)

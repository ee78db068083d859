use Rattle.std.proofs.Common.{◌≡◌, nat_eq, drop, length, None}
use Rattle.std.specs.List.{filter}
use Rattle.std.specs.Option.{option_map}
use Rattle.class_env.specs.Terms.{term_of}
use Rattle.class_env.specs.Spine.{arguments}
use Rattle.class_env.specs.Instances.{only_after}
use Rattle.class_env.proofs.choice.choose.Given as goal

abbrev pub invariant-loop-i : goal.invariant-loop-i
invariant-loop-i l =
    only_after (option_map (λ b. b.now) l.found) (filter (λ i. nat_eq i.vars (length (arguments (term_of l.t)))) (drop l.i-index l.members))
    ≡ only_after None (filter (λ i. nat_eq i.vars (length (arguments (term_of l.t)))) l.members)

use Rattle.std.proofs.Common.{take}
use Rattle.std.specs.List.{Contains}
use Rattle.class_env.specs.declared.given.Held.{Held}
use Rattle.class_env.specs.Terms.{term_of}
use Rattle.class_env.specs.Entails.{HeldAt}
use Rattle.class_env.proofs.given.is_known.Given as goal

abbrev pub invariant-loop-one : goal.invariant-loop-one
invariant-loop-one l = (h : Held) → Contains (take l.one-index l.held) h → HeldAt h l.class (term_of l.t) → ⊥

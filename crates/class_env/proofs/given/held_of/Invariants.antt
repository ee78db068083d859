use Rattle.std.proofs.Common.{◌≡◌, ◌↔◌, take}
use Rattle.mk_base.specs.declared.name.Name.{Name}
use Rattle.class_env.specs.Terms.{Term}
use Rattle.class_env.specs.Supers.{supers_of}
use Rattle.class_env.specs.Entails.{Known, KnownIn}
use Rattle.class_env.proofs.given.held_of.Given as goal

abbrev pub invariant-loop-one : goal.invariant-loop-one
invariant-loop-one g l = record {
  same : g.E.Env.faces l.env ≡ g.E.Env.faces l.fn.env;
  on : (c : Name) (t : Term) → KnownIn l.held.items c t ↔ Known (supers_of (g.E.Env.faces l.fn.env)) (take l.one-index l.given) c t;
}

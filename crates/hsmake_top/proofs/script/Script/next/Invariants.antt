use Rattle.std.proofs.Common.{◌≡◌, ◌-◌, ℕ, List}
use Rattle.std.specs.Io.KnownBytes.{Consumes}
use Rattle.session_lang.specs.Script.{limit}
use Rattle.hsmake_top.specs.Ahead.{IsLonger, IsWithin, pending, place, seen, ReadsOn}
use Rattle.hsmake_top.proofs.script.Script.next.Given as goal

abbrev pub invariant-loop-command : goal.invariant-loop-command
invariant-loop-command g l = record {
  within : IsWithin l.self;
  read : (bytes : List ℕ) × Consumes (g.S.Source.left l.fn.input) (g.S.Source.left l.input) bytes × IsLonger l.fn.self l.self bytes;
  reads : ReadsOn (g.S.Source.left l.fn.input) (g.S.Source.left l.input) (place l.fn.self) (pending l.fn.self);
  kept : g.S.Source.faults l.input ≡ g.S.Source.faults l.fn.input;
}

abbrev pub decreases-loop-command : goal.decreases-loop-command
decreases-loop-command g l = limit - seen l.self

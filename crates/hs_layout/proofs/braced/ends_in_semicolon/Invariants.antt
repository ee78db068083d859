use Rattle.std.proofs.Common.{◌≡◌, drop, false}
use Rattle.hs_layout.specs.Braced.{ends_in_semicolon}
use Rattle.hs_layout.proofs.braced.ends_in_semicolon.Given as goal

abbrev pub invariant-loop-sign : goal.invariant-loop-sign
invariant-loop-sign l = ends_in_semicolon l.found (drop l.sign-index l.signs) ≡ ends_in_semicolon false l.signs

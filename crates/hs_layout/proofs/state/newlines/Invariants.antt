use Rattle.std.proofs.Common.{◌≡◌, ◌≤◌, ◌+◌, drop, false}
use Rattle.hs_layout.specs.Braced.{newlines}
use Rattle.hs_layout.proofs.state.newlines.Given as goal

abbrev pub invariant-loop-byte : goal.invariant-loop-byte
invariant-loop-byte l = record {
  sum : l.count + newlines l.behind_return (drop l.byte-index l.text) ≡ newlines false l.text;
  most : l.count ≤ l.byte-index;
}

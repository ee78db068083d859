use Rattle.std.proofs.Common.{◌≡◌, ◌≤◌, drop}
use Rattle.std.specs.List.{AllByRecursion}
use Rattle.session_lang.specs.Numbers.{IsDigitByte, value_on}
use Rattle.session_lang.proofs.token.value_within.Given as goal

abbrev pub invariant-loop-b : goal.invariant-loop-b
invariant-loop-b l = record {
  same : value_on l.value (drop l.b-index l.digits) ≡ value_on 0 l.digits;
  low : l.value ≤ l.most;
  digits : AllByRecursion IsDigitByte (drop l.b-index l.digits);
}

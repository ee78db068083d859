use Rattle.std.proofs.Common.{◌≡◌, take}
use Rattle.mod_graph.specs.Ranked.{headers_in}
use Rattle.mod_graph.proofs.entries.rank.Given as goal

abbrev pub invariant-loop-header : goal.invariant-loop-header
invariant-loop-header l = headers_in l.ranked.items ≡ take l.header-index l.headers

-- Headers that are put in order where they stand.
use Rattle.std.specs.Prelude.{List, map, codes, ◌++◌}
use Rattle.hs_syntax.specs.declared.header.Header.{Header}
use Rattle.mk_base.specs.declared.diag.Diag.{Diag}
use Rattle.mod_graph.specs.declared.entries.Ranked.{Ranked as RankedHeader}
use Rattle.mod_graph.specs.declared.input.HeaderOf.{HeaderOf}
use Rattle.mod_graph.specs.Entries.{diag_at}

abbrev pub headers_in : List RankedHeader → List HeaderOf
headers_in rs = map (λ (r : RankedHeader). r.header.now) rs

-- a header that names another module than its file
abbrev pub misnamed : Header → Diag
misnamed h = diag_at h.at 13 (codes "header names " ++ h.name.text)

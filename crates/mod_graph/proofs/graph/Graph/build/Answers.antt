use Rattle.std.proofs.Common.{◌≡◌, length, ap, ◌∙◌, subst, arith}
use Rattle.mod_graph.specs.Entries.{entries_of}
use Rattle.mod_graph.specs.Graph.{Input, entries}
use Rattle.package_graph.specs.Tables.{AreTables}
use Rattle.mod_graph.proofs.Parts.{entries_count, parts_of}
use Rattle.mod_graph.proofs.graph.Graph.build.Goals as goal

pub rows_of-requires-clause-few : goal.rows_of-requires-clause-few
rows_of-requires-clause-few c =
    let count : length c.in_ok-entries.entries.items ≡ length c.args.headers.now = ap length (c.in_ok-entries.ensures ∙ ap (entries_of c.args.prelude) c.as_slice.ensures) ∙ entries_count c.args.prelude c.args.headers.now in
    let same : length c.deref-2.result.now ≡ length c.in_ok-entries.entries.items = ap length c.deref-2.ensures.value in
    let few = c.requires.few in
    omega arith

pub lists_of-requires-clause-few : goal.lists_of-requires-clause-few
lists_of-requires-clause-few c =
    let count : length c.in_ok-entries.entries.items ≡ length c.args.headers.now = ap length (c.in_ok-entries.ensures ∙ ap (entries_of c.args.prelude) c.as_slice.ensures) ∙ entries_count c.args.prelude c.args.headers.now in
    let same : length c.deref-3.result.now ≡ length c.in_ok-entries.entries.items = ap length c.deref-3.ensures.value in
    let few = c.requires.few in
    omega arith

pub lists_of-requires-clause-few_packages : goal.lists_of-requires-clause-few_packages
lists_of-requires-clause-few_packages c =
    let tables = c.in_ok-tables.ensures in
    let count : length c.in_ok-tables.tables.rows.items ≡ length c.as_slice-2.result.now = tables.count in
    let same : length c.as_slice-2.result.now ≡ length c.args.packages.now = ap length c.as_slice-2.ensures in
    let few = c.requires.few_packages in
    omega arith

pub lists_of-requires-clause-made : goal.lists_of-requires-clause-made
lists_of-requires-clause-made c =
    let i : Input = record { headers = c.args.headers.now; packages = c.args.packages.now; prelude = c.args.prelude } in
    let made : c.in_ok-entries.entries.items ≡ entries i = c.in_ok-entries.ensures ∙ ap (entries_of c.args.prelude) c.as_slice.ensures in
    (i, c.deref-3.ensures.value ∙ made, subst (AreTables c.in_ok-tables.tables) c.as_slice-2.ensures c.in_ok-tables.ensures)

pub from_parts-requires-clause-parts : goal.from_parts-requires-clause-parts
from_parts-requires-clause-parts c =
    let i : Input = record { headers = c.args.headers.now; packages = c.args.packages.now; prelude = c.args.prelude } in
    let made : c.in_ok-entries.entries.items ≡ entries i = c.in_ok-entries.ensures ∙ ap (entries_of c.args.prelude) c.as_slice.ensures in (
      i,
      parts_of i c.in_ok-lists.lists c.in_ok-kept.kept c.as_slice-2.result.now c.in_ok-numbers.numbers c.in_ok-rows.rows c.in_ok-tables.tables c.deref.result.now c.deref-2.result.now c.deref-3.result.now
          c.requires.distinct c.in_ok-kept.ensures (c.deref.ensures.value ∙ made) c.in_ok-numbers.ensures (c.deref-2.ensures.value ∙ made) c.in_ok-rows.ensures
          c.as_slice-2.ensures c.in_ok-tables.ensures (c.deref-3.ensures.value ∙ made) c.in_ok-lists.ensures,
    )

pub returns : goal.returns
returns c =
    let i : Input = record { headers = c.args.headers.now; packages = c.args.packages.now; prelude = c.args.prelude } in
    let made : c.in_ok-entries.entries.items ≡ entries i = c.in_ok-entries.ensures ∙ ap (entries_of c.args.prelude) c.as_slice.ensures in
    c.from_parts.ensures i (parts_of i c.in_ok-lists.lists c.in_ok-kept.kept c.as_slice-2.result.now c.in_ok-numbers.numbers c.in_ok-rows.rows c.in_ok-tables.tables c.deref.result.now c.deref-2.result.now c.deref-3.result.now
    c.requires.distinct c.in_ok-kept.ensures (c.deref.ensures.value ∙ made) c.in_ok-numbers.ensures (c.deref-2.ensures.value ∙ made) c.in_ok-rows.ensures
    c.as_slice-2.ensures c.in_ok-tables.ensures (c.deref-3.ensures.value ∙ made) c.in_ok-lists.ensures)

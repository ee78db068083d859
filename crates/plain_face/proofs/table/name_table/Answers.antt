use Rattle.std.proofs.lemmas.List.Filters.{dedup_is}
use Rattle.plain_face.proofs.Tables.{table_sorted, table_whole}
use Rattle.plain_face.proofs.table.name_table.Goals as goal

pub returns-clause-table : goal.returns-clause-table
returns-clause-table c =
    let kept = dedup_is _ _ _ c.dedup.ensures.filtered in
    record {
      sorted = table_sorted _ _ c.sort_unstable.ensures.sorted kept;
      whole = rw (← c.in_ok-names.ensures) (table_whole _ _ _ c.sort_unstable.ensures.permutation kept);
    }

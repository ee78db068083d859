use Rattle.std.proofs.Common.{List, ℕ, subst}
use Rattle.package_graph.specs.declared.modules.PackageState.TheVariants.{Damaged, Dangling}
use Rattle.package_graph.proofs.LeastNames.{AreLeast, as_many_names, names_at}
use Rattle.package_graph.proofs.tables.packages_of.Goals as goal

pub returns : goal.returns
returns c =
    let ps = c.args.modules.now in
    let rows : List (List ℕ) = c.in_ok-rows.rows.items in
    let damaged = c.in_ok-damaged.damaged.items in
    let dangling = c.in_ok-dangling.dangling.items in
    let many = c.in_ok-rows.ensures.count in
    let right = c.in_ok-rows.ensures.rows in
    let of_damaged : AreLeast ps rows Damaged damaged = subst (λ (l : List (List ℕ)). AreLeast ps l Damaged damaged) c.deref.ensures.value c.in_ok-damaged.ensures in
    let of_dangling : AreLeast ps rows Dangling dangling = subst (λ (l : List (List ℕ)). AreLeast ps l Dangling dangling) c.deref-2.ensures.value c.in_ok-dangling.ensures in
    record {
      first = c.in_ok-firsts.ensures;
      count = many;
      room = c.in_ok-rows.ensures.room;
      rows = right;
      damaged_count = as_many_names ps rows Damaged damaged of_damaged many;
      damaged = names_at ps rows Damaged damaged of_damaged many right;
      dangling_count = as_many_names ps rows Dangling dangling of_dangling many;
      dangling = names_at ps rows Dangling dangling of_dangling many right;
    }

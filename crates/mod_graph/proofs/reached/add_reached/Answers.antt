use Rattle.std.proofs.Common.{◌≡◌, ◌∙◌, ◌≤◌, false, length, ap, sym, subst}
use Rattle.numbered_nodes.specs.Bits.{has}
use Rattle.numbered_nodes.proofs.Rows.{beyond}
use Rattle.mod_graph.specs.Environments.{brings_in}
use Rattle.mod_graph.specs.Errors.{Found}
use Rattle.mod_graph.specs.Found.{found_in}
use Rattle.mod_graph.proofs.EnvironmentRows.{adds_none}
use Rattle.mod_graph.proofs.reached.add_reached.Goals as goal

pub returns-in_default-get-clause-has : goal.returns-in_default-get-clause-has
returns-in_default-get-clause-has c = λ k.
    let t = c.args.packages.now in
    let past : length t.rows.items ≤ c.in-Package.place = subst (λ rows. length rows ≤ c.in-Package.place) c.deref.ensures.value c.in_default-get.ensures.lookup.3 in
    let none : brings_in t (found_in c.args.numbers.now t c.args.name.now) k ≡ false =
    ap (λ (f : Found). brings_in t f k) (sym c.in-Package.ensures) ∙ beyond t.rows.items c.in-Package.place k past in
    adds_none (has c.args.row.now k) (brings_in t (found_in c.args.numbers.now t c.args.name.now) k) none

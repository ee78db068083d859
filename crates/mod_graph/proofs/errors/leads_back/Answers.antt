use Rattle.std.proofs.Common.{◌∙◌, ℕ, false, [], get_or, Option, ap, sym}
use Rattle.std.specs.Option.{option_map_or}
use Rattle.numbered_nodes.specs.Bits.{has}
use Rattle.numbered_nodes.proofs.Rows.{beyond}
use Rattle.mod_graph.proofs.errors.leads_back.Goals as goal

pub returns-in-None-get : goal.returns-in-None-get
returns-in-None-get c =
    let reach = c.args.reach.now in
    sym (ap (λ (o : Option ℕ). option_map_or (λ b. has (get_or reach b []) c.args.number) o false) (sym c.in-Some.ensures) ∙ beyond reach c.in-Some.target c.args.number c.in-None-get.ensures.lookup.3)

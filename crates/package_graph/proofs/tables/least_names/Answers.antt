use Rattle.std.proofs.Common.{◌∙◌, ◌<◌, List, ℕ, length, subst, sym, arith}
use Rattle.std.specs.List.{All}
use Rattle.package_graph.specs.Targets.{is_state}
use Rattle.package_graph.proofs.LeastNames.{places_below}
use Rattle.package_graph.proofs.tables.least_names.Goals as goal

pub least_name-requires-clause-places : goal.least_name-requires-clause-places
least_name-requires-clause-places c =
    subst (λ (ks : List ℕ). All (λ k. k < length c.args.modules.now) ks) (sym (c.deref.ensures.value ∙ c.in_ok-places.ensures))
    (places_below (is_state c.args.state) (length c.args.modules.now) 0 c.args.modules.now (omega arith))

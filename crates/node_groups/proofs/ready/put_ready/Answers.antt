use Rattle.std.proofs.Common.{◌≡◌, ◌⊎◌, ◌↔◌, ℕ, List, sym, subst}
use Rattle.std.specs.List.{Contains}
use Rattle.node_groups.proofs.Keys.{keys_more}
use Rattle.node_groups.proofs.ready.put_ready.Goals as goal

pub returns : goal.returns
returns c = λ a. subst (λ (l : List ℕ). Contains l a ↔ (Contains c.args.ready.now.keys a ⊎ (a ≡ c.args.node))) (sym c.in_ok-insert.ensures.keys) (keys_more c.args.ready.now.keys c.args.node a)

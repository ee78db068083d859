use Rattle.std.proofs.Common.{◌∙◌, ◌++◌, ◌∷◌, ℕ, List, [], ap, sym}
use Rattle.numbered_nodes.proofs.Rows.{row_at}
use Rattle.numbered_nodes.proofs.WaitingLists.{set_same, set_other}
use Rattle.numbered_nodes.proofs.waiting.wait_for.Goals as goal

pub returns-clause-more : goal.returns-clause-more
returns-clause-more c =
    let was = row_at c.args.waiting.now c.args.need c.index-waiting-need.result c.requires in
    set_same c.args.waiting.now c.args.need c.push.new.self c.requires ∙ c.in_ok-push.ensures.items ∙ ap (λ (l : List ℕ). l ++ c.args.node ∷ []) (sym was)

pub returns-clause-others : goal.returns-clause-others
returns-clause-others c = λ z other. set_other c.args.waiting.now c.args.need z c.push.new.self other

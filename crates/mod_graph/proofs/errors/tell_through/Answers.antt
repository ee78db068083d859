use Rattle.std.proofs.Common.{List, ℕ, ◌≡◌, [], ◌∷◌, ◌++◌, append-nil, codes, subst}
use Rattle.std.specs.Result.{OnOk}
use Rattle.mod_graph.specs.Entries.{diag_at}
use Rattle.mod_graph.proofs.errors.tell_through.Goals as goal

pub returns : goal.returns
returns c = subst (λ (name : List ℕ). OnOk c.tell.result (c.tell.new.diags.items ≡ c.args.diags.now.items ++ diag_at c.args.at 11 (codes "import cycle through " ++ name) ∷ [])) (append-nil c.args.name.now) c.tell.ensures

use Rattle.std.proofs.Common.{◌≡◌, List, Result, ◌∙◌}
use Rattle.mk_base.specs.declared.diag.Diag.{Diag}
use Rattle.plain_scope.specs.declared.scope.Content.{Content}
use Rattle.plain_scope.specs.Scope.{contents_at}
use Rattle.module_check.specs.Check as spec
use Rattle.module_check.proofs.Checking.{goes_on, stops}
use Rattle.module_check.proofs.Lexing.{if_ok}
use Rattle.module_check.proofs.check.check.Goals as goal

pub returns-in-Ok-clause-check : goal.returns-in-Ok-clause-check
returns-in-Ok-clause-check g c =
    let cs : List Content = contents_at c.args.contents.now c.args.imports.now in
    if_ok (λ (r : Result Content (List Diag)). r ≡ spec.behind_items c.args.settings.now c.args.node.now c.in-Ok.items cs) (λ (r : Result Content (List Diag)). r ≡ spec.check c.args.settings.now c.args.node.now c.args.source.now cs)
    c.behind_items.result (λ r h. h ∙ goes_on c.args.settings.now c.args.node.now c.args.source.now cs c.in_ok-items.field-0 c.in_ok-items.ensures c.in-Ok.items c.in-Ok.is) c.behind_items.ensures

pub returns-in_ok-only-in-Err-clause-check : goal.returns-in_ok-only-in-Err-clause-check
returns-in_ok-only-in-Err-clause-check g c =
    stops c.args.settings.now c.args.node.now c.args.source.now (contents_at c.args.contents.now c.args.imports.now) c.in_ok-items.field-0 c.in_ok-items.ensures c.in_ok-only-in-Err.field-0 c.in-Err.diag c.in_ok-only-in-Err.ensures c.in-Err.is

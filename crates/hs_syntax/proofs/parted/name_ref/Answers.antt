use Rattle.std.proofs.Common.{ap, take, ◌∙◌}
use Rattle.hs_syntax.proofs.Names.{made}
use Rattle.hs_syntax.proofs.parted.name_ref.Goals as goal

pub returns : goal.returns
returns c = made c.args.token.now _ _ c.behind_qualifier-name.result.now c.as_slice-bytes.result.now c.as_slice-bytes.ensures (c.in_ok-qualifier.ensures ∙ ap (λ n. take n c.as_slice-bytes.result.now) c.saturating_sub-end.ensures) c.in_ok-text.ensures (c.behind_qualifier-name.ensures.name, c.behind_qualifier-name.ensures.qualifier)

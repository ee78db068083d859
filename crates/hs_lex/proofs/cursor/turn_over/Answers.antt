use Rattle.std.proofs.Common.{refl, sym, ◌∙◌}
use Rattle.std.proofs.lemmas.Bool.{false≢true}
use Rattle.hs_lex.proofs.Reached.{moved_over}
use Rattle.hs_lex.proofs.cursor.turn_over.Goals as goal

pub returns-then-not-is_token : goal.returns-then-not-is_token
returns-then-not-is_token c = (
  ((λ h. false≢true (sym c.if-not-is_token.true ∙ c.is_token.ensures.1 h)), refl),
  moved_over c.args.cursor c.args.text.now _ _ c.advance-place.ensures.is,
)

pub returns : goal.returns
returns c = (
  (c.is_token.ensures.0 c.if-not-is_token.false, c.kind_of.ensures, c.behind_token-stage.ensures),
  moved_over c.args.cursor c.args.text.now _ _ c.advance-place.ensures.is,
)

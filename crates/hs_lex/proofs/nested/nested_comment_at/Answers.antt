use Rattle.hs_lex.proofs.Insides.{comment_some, comment_open, comment_none, closes_first, other_first, bad_first}
use Rattle.hs_lex.proofs.Sequence.{reads_by}
use Rattle.hs_lex.proofs.nested.nested_comment_at.Goals as goal

pub returns-in-Opens : goal.returns-in-Opens
returns-in-Opens c = let e = c.in-Opens.ensures.tells in reads_by _ _ _ _ _ (λ rest h. comment_some _ _ rest e h) (comment_open _ _ e) c.closing_at.ensures

pub returns-in-Closes : goal.returns-in-Closes
returns-in-Closes c = comment_none _ (closes_first _ _ c.in-Closes.ensures.tells)

pub returns-in-Other : goal.returns-in-Other
returns-in-Other c = let h = c.in-Other.ensures.tells in comment_none _ (other_first _ _ h.2 h.0 h.1 h.3 h.4 h.5)

pub returns-in-Nothing : goal.returns-in-Nothing
returns-in-Nothing c = comment_none _ (bad_first _ c.in-Nothing.ensures.tells)

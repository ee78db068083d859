use Rattle.source_text.proofs.Widths.{text_bytes, text_reads}
use Rattle.source_text.proofs.character.text_between.Goals as goal

pub returns-clause-reads : goal.returns-clause-reads
returns-clause-reads c = λ l e. text_reads l _ _ e

pub returns-clause-spelled : goal.returns-clause-spelled
returns-clause-spelled c = λ l e h. text_bytes l _ _ e h

use Rattle.std.proofs.Common.{refl}
use Rattle.std.specs.Char.{encode_utf8}
use Rattle.mk_base.specs.Classes.{class_of as class_of_char}
use Rattle.source_text.specs.Characters.{past, span}
use Rattle.source_text.specs.Places.{after}
use Rattle.hs_lex.specs.Classes.{in_part, class_of, is_inside}
use Rattle.hs_lex.specs.Kinds.{large_kind}
use Rattle.hs_lex.specs.Lexemes.{closes}
use Rattle.hs_lex.specs.Quoted.{value_from}
use Rattle.hs_lex.specs.Words.{is_word, is_operator_word, is_import}
use Rattle.hs_lex.specs.Deciding.{in_two, is_tail, is_escape, are_pieces, is_list, is_language, is_source}
use Rattle.hs_lex.specs.Slow.{item_from, read_source, read_from}
use Rattle.hs_lex.proofs.lex.short_sources_are_read.Goals as goal

pub returns-clause-name : goal.returns-clause-name
unfolding read_source read_from item_from in_two is_tail is_escape are_pieces is_list is_language is_source in_part class_of class_of_char is_inside closes is_word is_operator_word is_import large_kind value_from past span after encode_utf8
returns-clause-name c = refl

pub returns-clause-string : goal.returns-clause-string
unfolding read_source read_from item_from in_two is_tail is_escape are_pieces is_list is_language is_source in_part class_of class_of_char is_inside closes is_word is_operator_word is_import large_kind value_from past span after encode_utf8
returns-clause-string c = refl

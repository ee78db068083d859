-- What lexing tells of what is read of a source.
use Rattle.std.proofs.Common.{◌≡◌, ℕ, List, ap, sym, ◌∙◌}
use Rattle.std.specs.Prelude.{Result, Ok, Err, IfOk}
use Rattle.mk_base.specs.declared.name.Node.{Node}
use Rattle.mk_base.specs.declared.place.Pos.{Pos}
use Rattle.hs_syntax.specs.declared.token.Token.{Token}
use Rattle.hs_lex.specs.Tokens.{Lexes, IsFirstBad}
use Rattle.hs_lex.specs.Told.{no_lexeme}
use Rattle.hs_lex.proofs.Slow.{lexes_exactly, bad_exactly}
use Rattle.mk_base.specs.declared.diag.Diag.{Diag}
use Rattle.plain_form.specs.declared.form.Written.{Written}
use Rattle.module_check.specs.Check.{of_lexemes, items_of}

-- the source with these lexemes is read as they are
pub lexed : (n : Node) (s : List ℕ) (ts : List Token) (r : Result Written Diag) → Lexes s ts → r ≡ of_lexemes n (Ok ts) → r ≡ items_of n s
lexed n s ts r h e = e ∙ sym (ap (of_lexemes n) ((lexes_exactly s ts).1 h))

abbrev pub refused : Pos → Result Written Diag
refused at = Err (no_lexeme at)

-- the source with this first bad place is refused there
pub unlexed : (n : Node) (s : List ℕ) (at : Pos) → IsFirstBad s at → refused at ≡ items_of n s
unlexed n s at h = sym (ap (of_lexemes n) ((bad_exactly s at).1 h))

pub if_ok : {X E : Type 0} (P Q : X → Type 0) (r : Result X E) → ((x : X) → P x → Q x) → IfOk r P → IfOk r Q
if_ok P Q (Ok x) f p = f x p
if_ok P Q (Err e) f p = tt

-- Reserved words and operators: a text of bytes is one exactly where its characters are.
use Rattle.std.specs.Prelude.{encode_utf8_all, codes, nat_lt, ◌||◌, ◌&&◌}
use Rattle.std.specs.Char.{encode_utf8, IsScalar}
use Rattle.std.specs.Str.{bytes_eq}
use Rattle.std.specs.Bool.{Decides}
use Rattle.std.proofs.Common.{◌≡◌, ℕ, ◌-◌, ◌<◌, Bool, true, false, List, [], ◌∷◌, ◌++◌, length, refl, ap, sym, ◌∙◌, arith, take_all}
use Rattle.std.proofs.lemmas.Bool.{cond-true, and_parts}
use Rattle.std.proofs.lemmas.Bool.Decides.{nat_tests}
use Rattle.std.proofs.lemmas.List.{append-nil}
use Rattle.std.proofs.lemmas.Slice.Eq.{bytes_eq-Decides}
use Rattle.source_text.specs.Characters.{characters, AllCharacters}
use Rattle.source_text.proofs.Characters.{none}
use Rattle.source_text.proofs.Widths.{text_bytes, reads_first}
use Rattle.hs_lex.specs.Words.{is_one_of, words, operator_words, is_word, is_operator_word, is_import}

unfoldable pub is_ascii : List ℕ → Bool
is_ascii [] = true
is_ascii (c ∷ cs) = nat_lt c 128 && is_ascii cs

all_ascii : List (List ℕ) → Bool
all_ascii [] = true
all_ascii (w ∷ ws) = is_ascii w && all_ascii ws

-- what is of ASCII is its own bytes, and reads as itself
one_byte : (c : ℕ) → nat_lt c 128 ≡ true → encode_utf8 c ≡ c ∷ []
unfolding encode_utf8
one_byte c h = cond-true _ _ _ h

scalar : (c : ℕ) → nat_lt c 128 ≡ true → IsScalar c
scalar c h = grind (arith, nat_tests)

ascii_characters : (w : List ℕ) → is_ascii w ≡ true → AllCharacters w
unfolding is_ascii
ascii_characters [] h = tt
ascii_characters (c ∷ w) h = let p = and_parts (nat_lt c 128) (is_ascii w) h in let low : c < 128 = grind (arith, nat_tests) in ((λ e. omega arith), ascii_characters w p.1)

ascii_bytes : (w : List ℕ) → is_ascii w ≡ true → encode_utf8_all w ≡ w
unfolding is_ascii
ascii_bytes [] h = refl
ascii_bytes (c ∷ w) h = let p = and_parts (nat_lt c 128) (is_ascii w) h in ap (λ t. t ++ encode_utf8_all w) (one_byte c p.0) ∙ ap (λ t. c ∷ t) (ascii_bytes w p.1)

pub ascii_reads : (w : List ℕ) → is_ascii w ≡ true → characters w ≡ w
unfolding is_ascii
ascii_reads [] h = none
ascii_reads (c ∷ w) h =
    let p = and_parts (nat_lt c 128) (is_ascii w) h in
    let e = one_byte c p.0 in
    ap (λ t. characters (t ++ w)) (sym e) ∙ reads_first c w (scalar c p.0) (omega (arith, ap length e)) ∙ ap (λ t. c ∷ t) (ascii_reads w p.1)

-- the bytes of a text that reads as a word are those of the word
pub spelled : (bs w : List ℕ) → is_ascii w ≡ true → characters bs ≡ w → bs ≡ w
spelled bs w h e = sym (take_all (length bs - 0) bs (omega arith)) ∙ text_bytes w bs [] (e ∙ sym (append-nil w) ∙ ap (λ t. w ++ t) (sym none)) (ascii_characters w h) ∙ ascii_bytes w h

both : (a b : Bool) (A B : Type 0) → Decides a A → Decides b B → (A → B) → (B → A) → a ≡ b
both true true A B d e f g = refl
both false false A B d e f g = refl
both true false A B d e f g = sym (e.1 (f (d.0 refl)))
both false true A B d e f g = d.1 (g (e.0 refl))

same_word : (bs w : List ℕ) → is_ascii w ≡ true → bytes_eq bs w ≡ bytes_eq (characters bs) w
same_word bs w h = both _ _ (bs ≡ w) (characters bs ≡ w) (bytes_eq-Decides bs w) (bytes_eq-Decides (characters bs) w)
    (λ e. ap characters e ∙ ascii_reads w h) (spelled bs w h)

one_of : (ws : List (List ℕ)) (bs : List ℕ) → all_ascii ws ≡ true → is_one_of ws bs ≡ is_one_of ws (characters bs)
unfolding all_ascii
one_of [] bs h = refl
one_of (w ∷ ws) bs h =
    let p = and_parts (is_ascii w) (all_ascii ws) h in
    ap (λ b. b || is_one_of ws bs) (same_word bs w p.0) ∙ ap (λ b. bytes_eq (characters bs) w || b) (one_of ws bs p.1)

pub word : (bs : List ℕ) → is_one_of words bs ≡ is_word (characters bs)
unfolding is_word all_ascii is_ascii
word bs = one_of words bs refl

pub operator_word : (bs : List ℕ) → is_one_of operator_words bs ≡ is_operator_word (characters bs)
unfolding is_operator_word all_ascii is_ascii
operator_word bs = one_of operator_words bs refl

pub import_word : (bs : List ℕ) → bytes_eq bs (codes "import") ≡ is_import (characters bs)
unfolding is_import is_ascii
import_word bs = same_word bs (codes "import") refl

pub end_word : (bs : List ℕ) → bytes_eq bs (codes "#-}") ≡ bytes_eq (characters bs) (codes "#-}")
unfolding is_ascii
end_word bs = same_word bs (codes "#-}") refl

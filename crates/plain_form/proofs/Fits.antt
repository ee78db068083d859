-- What the tests of a token say of it, and which tests fail where one holds.
use Rattle.std.proofs.Common.{◌≡◌, ◌⊎◌, inl, inr, ℕ, Bool, true, false, cond, ◌&&◌, ◌||◌, not, List, Some, None, Option, refl, sym, ap, ◌∙◌, codes}
use Rattle.std.proofs.lemmas.Slice.Eq.{bytes_eq-Decides}
use Rattle.hs_syntax.specs.declared.token.Token.{Token}
use Rattle.hs_syntax.specs.declared.token.TokenKind.{TokenKind}
use Rattle.hs_syntax.specs.declared.token.PutSign.{PutSign}
use Rattle.hs_syntax.specs.declared.token.PutSign.TheVariants as sign
use Rattle.mk_base.specs.Texts.{same_text}
use Rattle.plain_form.specs.Words.{is_con}
use Rattle.plain_form.specs.Form.{Fixed, Module, Imported, Placed, Open, Next, Close, Fits, is_module_kind, is_written, is_lexeme, is_text, is_word, is_name, is_module_name, is_module, is_import, opened, is_closing, is_semicolon, is_next, ends_part, word_of}

same_of : (a b : List ℕ) → same_text a b ≡ true → a ≡ b
same_of a b h = (bytes_eq-Decides a b).0 h

same_is : (a b : List ℕ) → a ≡ b → same_text a b ≡ true
same_is a b h = (bytes_eq-Decides a b).1 h

left_of : (a b : Bool) → (a && b) ≡ true → a ≡ true
left_of true b h = refl
left_of false b h = absurd (cc)

right_of : (a b : Bool) → (a && b) ≡ true → b ≡ true
right_of true b h = h
right_of false b h = absurd (cc)

both_of : (a b : Bool) → a ≡ true → b ≡ true → (a && b) ≡ true
both_of a b h i = ap (λ c. c && b) h ∙ i

not_both : (a b : Bool) → b ≡ false → (a && b) ≡ false
not_both true b h = h
not_both false b h = refl

of_not : (a : Bool) → not a ≡ true → a ≡ false
of_not true h = absurd (cc)
of_not false h = refl

not_of : (a : Bool) → (a ≡ true → ⊥) → not a ≡ true
not_of true h = absurd (h refl)
not_of false h = refl

-- What a test of a written lexeme says, and what one of a sign that layout put says.

at_written : {A : Type 0} (f : Option PutSign → TokenKind → List ℕ → A) (t : Token) → t.put ≡ None → f t.put t.kind t.text ≡ f None t.kind t.text
at_written f t h = ap (λ s. f s t.kind t.text) h

at_put : {A : Type 0} (f : Option PutSign → TokenKind → List ℕ → A) (t : Token) (s : PutSign) → t.put ≡ Some s → f t.put t.kind t.text ≡ f (Some s) t.kind t.text
at_put f t s h = ap (λ o. f o t.kind t.text) h

written_of : (text : List ℕ) (k : TokenKind) (written : List ℕ) → is_written text k written ≡ true → (is_module_kind k ≡ false) × (written ≡ text)
written_of text k written h = (
  of_not (is_module_kind k) (left_of (not (is_module_kind k)) (same_text written text) h),
  same_of written text (right_of (not (is_module_kind k)) (same_text written text) h),
)

written_is : (text : List ℕ) (k : TokenKind) (written : List ℕ) → is_module_kind k ≡ false → written ≡ text → is_written text k written ≡ true
written_is text k written h i = both_of (not (is_module_kind k)) (same_text written text) (ap not h) (same_is written text i)

written_not : (text other : List ℕ) (k : TokenKind) (written : List ℕ) → written ≡ text → same_text text other ≡ false → is_written other k written ≡ false
written_not text other k written h i = not_both (not (is_module_kind k)) (same_text written other) (ap (λ w. same_text w other) h ∙ i)

-- Lexemes of one text.

lexeme_of : (text : List ℕ) (s : Option PutSign) (k : TokenKind) (written : List ℕ) → is_lexeme text s k written ≡ true → (s ≡ None) × (is_module_kind k ≡ false) × (written ≡ text)
lexeme_of text None k written h = let e : (is_module_kind k ≡ false) × (written ≡ text) = written_of text k written h in (refl, e.0, e.1)
lexeme_of text (Some s) k written h = absurd (cc)

pub fixed_of : (text : List ℕ) (t : Token) → is_text text t ≡ true → Fits (Fixed text) t
fixed_of text t h = lexeme_of text t.put t.kind t.text h

pub fixed_is : (text : List ℕ) (t : Token) → Fits (Fixed text) t → is_text text t ≡ true
fixed_is text t h = at_written (is_lexeme text) t h.0 ∙ written_is text t.kind t.text h.1 h.2

pub fixed_not : (text other : List ℕ) (t : Token) → Fits (Fixed text) t → same_text text other ≡ false → is_text other t ≡ false
fixed_not text other t h i = at_written (is_lexeme other) t h.0 ∙ written_not text other t.kind t.text h.2 i

-- Names.

word_of_name : (s : Option PutSign) (written : List ℕ) → is_word s written ≡ true → (s ≡ None) × (is_con written ≡ true)
word_of_name None written h = (refl, h)
word_of_name (Some s) written h = absurd (cc)

pub placed_of : (t : Token) → is_name t ≡ true → Fits (Placed (word_of t)) t × (is_con t.text ≡ true)
placed_of t h = let f : (t.put ≡ None) × (is_con t.text ≡ true) = word_of_name t.put t.text h in ((f.0, refl), f.1)

pub name_is : (t : Token) → t.put ≡ None → is_con t.text ≡ true → is_name t ≡ true
name_is t h i = ap (λ s. is_word s t.text) h ∙ i

module_name_of : (s : Option PutSign) (k : TokenKind) → is_module_name s k ≡ true → (s ≡ None) × (is_module_kind k ≡ true)
module_name_of None k h = (refl, h)
module_name_of (Some s) k h = absurd (cc)

pub module_of : (t : Token) → is_module t ≡ true → Fits Module t
module_of t h = module_name_of t.put t.kind h

pub module_is : (t : Token) → Fits Module t → is_module t ≡ true
module_is t h = ap (λ s. is_module_name s t.kind) h.0 ∙ h.1

pub import_of : (t : Token) → is_import t ≡ true → Fits Imported t
import_of t h =
    let is_prim : Bool = same_text t.text (codes "Prim") in (
      module_of t (left_of (is_module t) (not is_prim) h),
      λ e. let f : true ≡ false = sym (same_is t.text (codes "Prim") e) ∙ of_not is_prim (right_of (is_module t) (not is_prim) h) in cc,
    )

pub import_is : (t : Token) → Fits Imported t → is_import t ≡ true
import_is t h = both_of (is_module t) (not (same_text t.text (codes "Prim"))) (module_is t h.0) (not_of (same_text t.text (codes "Prim")) (λ e. h.1 (same_of t.text (codes "Prim") e)))

-- Opening braces.

open_here : (b : Bool) (put : Bool) → cond b (Some false) None ≡ Some put → (b ≡ true) × (put ≡ false)
open_here true put h = (refl, cc)
open_here false put h = absurd (cc)

open_cases : (s : Option PutSign) (k : TokenKind) (written : List ℕ) (put : Bool) → opened s k written ≡ Some put
    → ((s ≡ Some sign.Open) × (put ≡ true)) ⊎ (((s ≡ None) × (is_module_kind k ≡ false) × (written ≡ codes "{")) × (put ≡ false))
open_cases (Some sign.Open) k written put h = inl (refl, cc)
open_cases (Some sign.Semicolon) k written put h = absurd (cc)
open_cases (Some sign.Close) k written put h = absurd (cc)
open_cases None k written put h =
    let e : (is_written (codes "{") k written ≡ true) × (put ≡ false) = open_here (is_written (codes "{") k written) put h in
    let f : (is_module_kind k ≡ false) × (written ≡ codes "{") = written_of (codes "{") k written e.0 in inr ((refl, f.0, f.1), e.1)

pub open_of : (put : Bool) (t : Token) → opened t.put t.kind t.text ≡ Some put → Fits (Open put) t
open_of true t h = elim (open_cases t.put t.kind t.text true h) as (λ c. Fits (Open true) t) [ inl e ↦ e.0 | inr e ↦ absurd (let f : true ≡ false = e.1 in cc) ]
open_of false t h = elim (open_cases t.put t.kind t.text false h) as (λ c. Fits (Open false) t) [ inl e ↦ absurd (let f : false ≡ true = e.1 in cc) | inr e ↦ e.0 ]

pub open_is : (put : Bool) (t : Token) → Fits (Open put) t → opened t.put t.kind t.text ≡ Some put
open_is true t h = at_put opened t sign.Open h
open_is false t h = at_written opened t h.0 ∙ ap (λ b. cond b (Some false) None) (written_is (codes "{") t.kind t.text h.1 h.2)

pub open_no_text : (put : Bool) (text : List ℕ) (t : Token) → Fits (Open put) t → same_text (codes "{") text ≡ false → is_text text t ≡ false
open_no_text true text t h i = at_put (is_lexeme text) t sign.Open h
open_no_text false text t h i = fixed_not (codes "{") text t h i

-- Closing braces.

close_put : (s : Option PutSign) (k : TokenKind) (written : List ℕ) → is_closing true s k written ≡ true → s ≡ Some sign.Close
close_put (Some sign.Open) k written h = absurd (cc)
close_put (Some sign.Semicolon) k written h = absurd (cc)
close_put (Some sign.Close) k written h = refl
close_put None k written h = absurd (cc)

close_written : (s : Option PutSign) (k : TokenKind) (written : List ℕ) → is_closing false s k written ≡ true → (s ≡ None) × (is_module_kind k ≡ false) × (written ≡ codes "}")
close_written (Some sign.Open) k written h = absurd (cc)
close_written (Some sign.Semicolon) k written h = absurd (cc)
close_written (Some sign.Close) k written h = absurd (cc)
close_written None k written h = let e : (is_module_kind k ≡ false) × (written ≡ codes "}") = written_of (codes "}") k written h in (refl, e.0, e.1)

pub close_of : (put : Bool) (t : Token) → is_closing put t.put t.kind t.text ≡ true → Fits (Close put) t
close_of true t h = close_put t.put t.kind t.text h
close_of false t h = close_written t.put t.kind t.text h

pub close_is : (put : Bool) (t : Token) → Fits (Close put) t → is_closing put t.put t.kind t.text ≡ true
close_is true t h = at_put (is_closing true) t sign.Close h
close_is false t h = at_written (is_closing false) t h.0 ∙ written_is (codes "}") t.kind t.text h.1 h.2

pub close_no_text : (put : Bool) (text : List ℕ) (t : Token) → Fits (Close put) t → same_text (codes "}") text ≡ false → is_text text t ≡ false
close_no_text true text t h i = at_put (is_lexeme text) t sign.Close h
close_no_text false text t h i = fixed_not (codes "}") text t h i

pub close_no_next : (put : Bool) (t : Token) → Fits (Close put) t → is_next t ≡ false
close_no_next true t h = at_put is_semicolon t sign.Close h
close_no_next false t h = at_written is_semicolon t h.0 ∙ written_not (codes "}") (codes ";") t.kind t.text h.2 refl

name_not : (text : List ℕ) (t : Token) → Fits (Fixed text) t → is_con text ≡ false → is_name t ≡ false
name_not text t h i = ap (λ s. is_word s t.text) h.0 ∙ ap is_con h.2 ∙ i

pub close_no_name : (put : Bool) (t : Token) → Fits (Close put) t → is_name t ≡ false
close_no_name true t h = ap (λ s. is_word s t.text) h
close_no_name false t h = name_not (codes "}") t h refl

-- Semicolons.

next_cases : (s : Option PutSign) (k : TokenKind) (written : List ℕ) → is_semicolon s k written ≡ true → (s ≡ Some sign.Semicolon) ⊎ ((s ≡ None) × (is_module_kind k ≡ false) × (written ≡ codes ";"))
next_cases (Some sign.Open) k written h = absurd (cc)
next_cases (Some sign.Semicolon) k written h = inl refl
next_cases (Some sign.Close) k written h = absurd (cc)
next_cases None k written h = let e : (is_module_kind k ≡ false) × (written ≡ codes ";") = written_of (codes ";") k written h in inr (refl, e.0, e.1)

pub next_of : (t : Token) → is_next t ≡ true → Fits Next t
next_of t h = next_cases t.put t.kind t.text h

pub next_is : (t : Token) → Fits Next t → is_next t ≡ true
next_is t h = elim h as (λ c. is_next t ≡ true) [ inl e ↦ at_put is_semicolon t sign.Semicolon e | inr e ↦ at_written is_semicolon t e.0 ∙ written_is (codes ";") t.kind t.text e.1 e.2 ]

pub next_no_text : (text : List ℕ) (t : Token) → Fits Next t → same_text (codes ";") text ≡ false → is_text text t ≡ false
next_no_text text t h i = elim h as (λ c. is_text text t ≡ false) [ inl e ↦ at_put (is_lexeme text) t sign.Semicolon e | inr e ↦ fixed_not (codes ";") text t e i ]

pub next_no_name : (t : Token) → Fits Next t → is_name t ≡ false
next_no_name t h = elim h as (λ c. is_name t ≡ false) [ inl e ↦ ap (λ s. is_word s t.text) e | inr e ↦ name_not (codes ";") t e refl ]

-- What is no lexeme `import`, no semicolon and no closing brace.

pub module_no_text : (text : List ℕ) (t : Token) → Fits Module t → is_text text t ≡ false
module_no_text text t h = at_written (is_lexeme text) t h.0 ∙ ap (λ b. not b && same_text t.text text) h.1

pub module_no_end : (t : Token) → Fits Module t → ends_part t ≡ false
module_no_end t h =
    let f = λ (s : Option PutSign) (k : TokenKind) (written : List ℕ). is_semicolon s k written || (is_closing true s k written || is_closing false s k written) in
    at_written f t h.0 ∙ ap (λ b. (not b && same_text t.text (codes ";")) || (false || (not b && same_text t.text (codes "}")))) h.1

pub name_no_text : (text : List ℕ) (t : Token) → is_name t ≡ true → is_con text ≡ false → is_text text t ≡ false
name_no_text text t h i =
    elim (is_text text t) as (λ b. is_text text t ≡ b → is_text text t ≡ false)
    [ true ↦ λ e. let f : true ≡ false = sym h ∙ name_not text t (fixed_of text t e) i in cc | false ↦ λ e. e ] refl

pub next_ends : (t : Token) → is_next t ≡ true → ends_part t ≡ true
next_ends t h = ap (λ b. b || (is_closing true t.put t.kind t.text || is_closing false t.put t.kind t.text)) h

or_true : (a b : Bool) → b ≡ true → (a || b) ≡ true
or_true true b h = refl
or_true false b h = h

pub close_ends : (put : Bool) (t : Token) → is_closing put t.put t.kind t.text ≡ true → ends_part t ≡ true
close_ends true t h = or_true (is_next t) _ (ap (λ b. b || is_closing false t.put t.kind t.text) h)
close_ends false t h = or_true (is_next t) _ (or_true (is_closing true t.put t.kind t.text) _ h)

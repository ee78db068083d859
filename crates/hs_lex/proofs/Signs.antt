-- Operators and line comments.
use Rattle.std.proofs.Common.{◌≡◌, ℕ, ◌≤◌, Bool, true, false, List, [], ◌∷◌, ◌++◌, length, refl, ap, sym, ◌∙◌, subst, arith, append_assoc, length-append}
use Rattle.std.proofs.lemmas.Bool.{false≢true}
use Rattle.std.proofs.lemmas.Bool.Decides.{nat_tests}
use Rattle.mk_base.specs.Classes.{class_of as class_of_char}
use Rattle.hs_lex.specs.declared.class.Part.TheVariants as part
use Rattle.hs_lex.specs.declared.class.Class.{Class}
use Rattle.hs_lex.specs.declared.class.Class.TheVariants as class
use Rattle.hs_lex.specs.Classes.{in_part, class_of, in_symbol}
use Rattle.hs_lex.specs.Reading.{AllIn, Ends, Runs, IsLongest, Nothing}
use Rattle.hs_lex.specs.Lexemes.{IsDashes, IsOperator, IsLineComment, EndsLine, BeginsWith}
use Rattle.hs_lex.proofs.Runs.{run_is_longest, same_run, front_of_run}

abbrev pub Dashes : List ℕ → List ℕ → Type 0
Dashes l r = IsDashes l × Ends part.Symbol r

dash_symbol : (c : ℕ) → in_part part.Dash c ≡ true → in_part part.Symbol c ≡ true
unfolding in_part class_of class_of_char
dash_symbol c h = let e : c ≡ 45 = grind (arith, nat_tests) in subst (λ x. in_symbol (class_of x) ≡ true) (sym e) refl

pub dashes_symbols : (l : List ℕ) → AllIn part.Dash l → AllIn part.Symbol l
dashes_symbols [] h = tt
dashes_symbols (c ∷ l) h = (dash_symbol c h.0, dashes_symbols l h.1)

not_dash : (c : ℕ) (b : Bool) → in_part part.Dash c ≡ b → in_part part.Symbol c ≡ false → in_part part.Dash c ≡ false
not_dash c true e h = absurd (false≢true (sym h ∙ dash_symbol c e))
not_dash c false e h = e

pub ends_dash : (r : List ℕ) → Ends part.Symbol r → Ends part.Dash r
ends_dash [] h = tt
ends_dash (c ∷ r) h = not_dash c (in_part part.Dash c) refl h

two : (l rest next after : List ℕ) (c d : ℕ) → l ++ rest ≡ c ∷ next → next ≡ d ∷ after → Ends part.Dash rest → in_part part.Dash c ≡ true → in_part part.Dash d ≡ true → 2 ≤ length l
two [] rest next after c d e f ends h k = absurd (false≢true (sym (let q : in_part part.Dash c ≡ false = subst (Ends part.Dash) e ends in q) ∙ h))
two (x ∷ []) rest next after c d e f ends h k =
    let g : rest ≡ d ∷ after = cc in
    absurd (false≢true (sym (let q : in_part part.Dash d ≡ false = subst (Ends part.Dash) g ends in q) ∙ k))
two (x ∷ y ∷ l) rest next after c d e f ends h k = omega arith

-- the dashes of a text with no symbol behind them are the run of dashes
pub dashes_some : (cs next after rest : List ℕ) (c d : ℕ) → cs ≡ c ∷ next → next ≡ d ∷ after → c ≡ 45 → d ≡ 45 → Runs part.Dash cs rest → Ends part.Symbol rest → IsLongest Dashes cs rest
unfolding in_part
dashes_some cs next after rest c d e f p q run ends =
    let h : in_part part.Dash c ≡ true = grind (arith, nat_tests) in
    let k : in_part part.Dash d ≡ true = grind (arith, nat_tests) in
    run_is_longest part.Dash Dashes (λ l r x. x.0.0) cs rest run ((run.2, two run.0 rest next after c d (sym run.1 ∙ e) f run.3 h k), ends)

pub dashes_symbol : (cs rest : List ℕ) → Runs part.Dash cs rest → (Ends part.Symbol rest → ⊥) → Nothing Dashes cs
dashes_symbol cs rest run ends l r x e =
    let s = same_run part.Dash run.0 rest l r run.2 run.3 x.0.0 (ends_dash r x.1) (sym run.1 ∙ e) in
    ends (subst (Ends part.Symbol) (sym s.1) x.1)

first_dash : (l r next : List ℕ) (c : ℕ) → l ++ r ≡ c ∷ next → IsDashes l → c ≡ 45
unfolding in_part
first_dash [] r next c e h = absurd (omega (arith, h.1))
first_dash (x ∷ l) r next c e h =
    let k : x ≡ c = cc in
    let d : in_part part.Dash x ≡ true = h.0.0 in
    let q : x ≡ 45 = grind (arith, nat_tests) in sym k ∙ q

pub dashes_first : (cs next : List ℕ) (c : ℕ) → cs ≡ c ∷ next → (c ≡ 45 → ⊥) → Nothing Dashes cs
dashes_first cs next c e never l r x f = never (first_dash l r next c (sym f ∙ e) x.0)

second_dash : (l r next after : List ℕ) (c d : ℕ) → l ++ r ≡ c ∷ next → next ≡ d ∷ after → IsDashes l → d ≡ 45
unfolding in_part
second_dash [] r next after c d e f h = absurd (omega (arith, h.1))
second_dash (x ∷ []) r next after c d e f h = absurd (omega (arith, h.1))
second_dash (x ∷ y ∷ l) r next after c d e f h =
    let k : y ≡ d = cc in
    let b : in_part part.Dash y ≡ true = h.0.1.0 in
    let q : y ≡ 45 = grind (arith, nat_tests) in sym k ∙ q

pub dashes_second : (cs next after : List ℕ) (c d : ℕ) → cs ≡ c ∷ next → next ≡ d ∷ after → (d ≡ 45 → ⊥) → Nothing Dashes cs
dashes_second cs next after c d e g never l r x f = never (second_dash l r next after c d (sym f ∙ e) g x.0)

lone : (l r next : List ℕ) (c : ℕ) → l ++ r ≡ c ∷ next → next ≡ [] → IsDashes l → ⊥
lone [] r next c e f h = omega (arith, h.1)
lone (x ∷ []) r next c e f h = omega (arith, h.1)
lone (x ∷ y ∷ l) r next c e f h = cc

pub dashes_lone : (cs next : List ℕ) (c : ℕ) → cs ≡ c ∷ next → next ≡ [] → Nothing Dashes cs
dashes_lone cs next c e g l r x f = lone l r next c (sym f ∙ e) g x.0

-- line comments
newline_ends : (r : List ℕ) → EndsLine r → Ends part.Comment r
unfolding in_part
newline_ends [] h = tt
newline_ends (c ∷ r) h = grind (arith, nat_tests)

-- a comment begins with just these dashes
same_dashes : (cs line l r : List ℕ) (d : IsLongest Dashes cs line) → cs ≡ l ++ r → (x : IsLineComment l r) → (d.text ≡ x.0) × (line ≡ x.1 ++ r)
same_dashes cs line l r d e x =
    let whole : cs ≡ x.0 ++ (x.1 ++ r) = e ∙ ap (λ t. t ++ r) x.2 ∙ append_assoc x.0 x.1 r in
    same_run part.Dash d.text line x.0 (x.1 ++ r) d.is.0.0 (ends_dash line d.is.1) x.3.0 (ends_dash (x.1 ++ r) x.4) (sym d.front ∙ whole)

pub comment_none : (cs : List ℕ) → Nothing Dashes cs → Nothing IsLineComment cs
comment_none cs never l r x e = never x.0 (x.1 ++ r) (x.3, x.4) (e ∙ ap (λ t. t ++ r) x.2 ∙ append_assoc x.0 x.1 r)

pub comment_open : (cs line rest : List ℕ) → IsLongest Dashes cs line → Runs part.Comment line rest → (EndsLine rest → ⊥) → Nothing IsLineComment cs
comment_open cs line rest d run never l r x e =
    let s = same_dashes cs line l r d e x in
    let t = same_run part.Comment run.0 rest x.1 r run.2 run.3 x.5 (newline_ends r x.6) (sym run.1 ∙ s.1) in
    never (subst EndsLine (sym t.1) x.6)

pub comment_some : (cs line rest : List ℕ) → IsLongest Dashes cs line → Runs part.Comment line rest → EndsLine rest → IsLongest IsLineComment cs rest
comment_some cs line rest d run ends = record {
  text = d.text ++ run.0;
  front = d.front ∙ ap (λ t. d.text ++ t) run.1 ∙ sym (append_assoc d.text run.0 rest);
  is = (d.text, run.0, refl, d.is.0, subst (Ends part.Symbol) run.1 d.is.1, run.2, ends);
  longest = λ l r x e.
      let s = same_dashes cs line l r d e x in
      let f = front_of_run part.Comment run.0 rest x.1 r run.2 run.3 x.5 (sym run.1 ∙ s.1) in
      omega (arith, ap length x.2, length-append x.0 x.1, ap length s.0, ap length f.1, length-append x.1 f.0, length-append d.text run.0);
}

-- operators
symbol_class : (c : ℕ) → in_part part.Symbol c ≡ true → class_of c ≡ class.Symbol
unfolding in_part
symbol_class c h = by_class (class_of c) h
  where
    by_class : (k : Class) → in_symbol k ≡ true → k ≡ class.Symbol
    by_class class.Symbol h = refl
    by_class class.Small h = absurd (false≢true h)
    by_class class.Large h = absurd (false≢true h)
    by_class class.Digit h = absurd (false≢true h)
    by_class class.Special h = absurd (false≢true h)
    by_class class.Quote h = absurd (false≢true h)
    by_class class.Tick h = absurd (false≢true h)
    by_class class.White h = absurd (false≢true h)
    by_class class.Other h = absurd (false≢true h)

pub class_symbol : (c : ℕ) → class_of c ≡ class.Symbol → in_part part.Symbol c ≡ true
unfolding in_part
class_symbol c h = ap in_symbol h

begins_symbol : (l r : List ℕ) → AllIn part.Symbol l → (Ends part.Symbol (l ++ r) → ⊥) → Ends part.Symbol r → BeginsWith class.Symbol l
begins_symbol [] r h never ends = never ends
begins_symbol (c ∷ l) r h never ends = symbol_class c h.0

pub operator_some : (cs rest : List ℕ) → (Ends part.Symbol cs → ⊥) → Nothing Dashes cs → Runs part.Symbol cs rest → IsLongest IsOperator cs rest
operator_some cs rest some never run =
    run_is_longest part.Symbol IsOperator (λ l r x. x.1.0) cs rest run
    (begins_symbol run.0 rest run.2 (λ e. some (subst (Ends part.Symbol) (sym run.1) e)) run.3, (run.2, run.3), λ d. never run.0 rest (d, run.3) run.1)

no_begin : (l r : List ℕ) → BeginsWith class.Symbol l → Ends part.Symbol (l ++ r) → ⊥
no_begin [] r b e = b
no_begin (c ∷ l) r b e = false≢true (sym e ∙ class_symbol c b)

pub operator_none : (cs : List ℕ) → Ends part.Symbol cs → Nothing IsOperator cs
operator_none cs ends l r x e = no_begin l r x.0 (subst (Ends part.Symbol) e ends)

pub operator_dashes : (cs line : List ℕ) → IsLongest Dashes cs line → Nothing IsOperator cs
operator_dashes cs line d l r x e =
    let s = same_run part.Symbol d.text line l r (dashes_symbols d.text d.is.0.0) d.is.1 x.1.0 x.1.1 (sym d.front ∙ e) in
    x.2 (subst IsDashes s.0 d.is.0)

pub dashes_end : (cs : List ℕ) → cs ≡ [] → Nothing Dashes cs
dashes_end cs e [] r x f = omega (arith, x.0.1)
dashes_end cs e (c ∷ l) r x f = cc

-- Which kinds begin with which class.
use Rattle.std.proofs.Common.{◌≡◌, ◌⊎◌, inl, inr, ⊎_elim, ℕ, ◌≤◌, Bool, true, false, List, [], ◌∷◌, ◌++◌, length, refl, ap, sym, ◌∙◌, subst, arith, append_assoc, length-append}
use Rattle.std.proofs.lemmas.Bool.{false≢true}
use Rattle.std.proofs.lemmas.Bool.Decides.{nat_tests}
use Rattle.std.proofs.lemmas.List.{append-nil}
use Rattle.mk_base.specs.Classes.{class_of as class_of_char}
use Rattle.hs_lex.specs.declared.class.Part.TheVariants as part
use Rattle.hs_lex.specs.declared.class.Class.{Class}
use Rattle.hs_lex.specs.declared.class.Class.TheVariants as class
use Rattle.hs_lex.specs.declared.item.Kind.{Kind}
use Rattle.hs_lex.specs.declared.item.Kind.TheVariants.{Blank, LineComment, NestedComment, SmallName, LargeName, Operator, Number, Fraction, Quoted, Char, Special}
use Rattle.hs_lex.specs.Classes.{class_of, in_part}
use Rattle.hs_lex.specs.Reading.{IsLongest, Nothing}
use Rattle.hs_lex.specs.declared.number.Form.{Form}
use Rattle.hs_lex.specs.declared.number.Form.TheVariants.{Integer, Float}
use Rattle.hs_lex.specs.Numbers.{IsNumber, IsNumberOf}
use Rattle.hs_lex.specs.Lexemes.{BeginsWith, IsDashes, IsNestedComment, IsSpecial, IsLineComment, IsOperator}
use Rattle.hs_lex.specs.Items.{Is, IsItem, NoItem, number_kind}
use Rattle.hs_lex.proofs.Numbers.{number_begins, forms_apart}
use Rattle.hs_lex.proofs.Plain.{same_class}
use Rattle.hs_lex.proofs.Runs.{same_run}
use Rattle.hs_lex.proofs.Sequence.{shorter}
use Rattle.hs_lex.proofs.Signs.{dashes_symbols}
use Rattle.hs_lex.proofs.Specials.{one_begins}

abbrev pub first : Kind → Class
first Blank = class.White
first LineComment = class.Symbol
first NestedComment = class.Special
first SmallName = class.Small
first LargeName = class.Large
first Operator = class.Symbol
first Number = class.Digit
first Fraction = class.Digit
first Quoted = class.Quote
first Char = class.Tick
first Special = class.Special

begins_append : (k : Class) (l m : List ℕ) → BeginsWith k l → BeginsWith k (l ++ m)
begins_append k [] m h = absurd h
begins_append k (c ∷ l) m h = h

dashes_begin : (l : List ℕ) → IsDashes l → BeginsWith class.Symbol l
unfolding in_part class_of class_of_char
dashes_begin [] h = absurd (omega (arith, h.1))
dashes_begin (c ∷ l) h = let d : in_part part.Dash c ≡ true = h.0.0 in let e : c ≡ 45 = grind (arith, nat_tests) in subst (λ z. class_of z ≡ class.Symbol) (sym e) refl

digit_class : (c : ℕ) → in_part part.Digit c ≡ true → class_of c ≡ class.Digit
unfolding in_part class_of class_of_char
digit_class c h = grind (arith, nat_tests)

number_begin : (l : List ℕ) → IsNumber l → BeginsWith class.Digit l
number_begin l h = let b = number_begins l h in subst (BeginsWith class.Digit) (sym b.2) (digit_class b.0 b.3)

nested_begin : (l : List ℕ) → IsNestedComment l → BeginsWith class.Special l
unfolding class_of class_of_char
nested_begin [] h = h
nested_begin (a ∷ []) h = absurd h
nested_begin (a ∷ b ∷ l) h = subst (λ z. class_of z ≡ class.Special) (sym h.0) refl

quote_class : class_of 34 ≡ class.Quote
unfolding class_of class_of_char
quote_class = refl

tick_class : class_of 39 ≡ class.Tick
unfolding class_of class_of_char
tick_class = refl

pub begins : (k : Kind) (l r : List ℕ) → Is k l r → BeginsWith (first k) l
begins Blank l r h = one_begins class.White l h
begins LineComment l r h = subst (BeginsWith class.Symbol) (sym h.2) (begins_append class.Symbol h.0 h.1 (dashes_begin h.0 h.3))
begins NestedComment l r h = nested_begin l h
begins SmallName l r h = h.0
begins LargeName l r h = subst (BeginsWith class.Large) (sym h.2) (begins_append class.Large h.0 h.1 h.3.0)
begins Operator l r h = h.0
begins Number l r h = number_begin l (Integer, h)
begins Fraction l r h = number_begin l (Float, h)
begins Quoted l r h = subst (BeginsWith class.Quote) (sym h.2) quote_class
begins Char l r h = subst (BeginsWith class.Tick) (sym h.1) tick_class
begins Special l r h = one_begins class.Special l h.0

-- classes with which one kind alone begins
abbrev pub lone : Class → Bool
lone class.Digit = false
lone class.Symbol = false
lone class.Special = false
lone _ = true

abbrev pub kind_of : Class → Kind
kind_of class.White = Blank
kind_of class.Small = SmallName
kind_of class.Large = LargeName
kind_of class.Digit = Number
kind_of class.Symbol = Operator
kind_of class.Special = Special
kind_of class.Quote = Quoted
kind_of class.Tick = Char
kind_of class.Other = Blank

only : (j : Kind) (k : Class) → first j ≡ k → lone k ≡ true → j ≡ kind_of k
only Blank k e h = ap kind_of e
only LineComment k e h = absurd (false≢true (ap lone e ∙ h))
only NestedComment k e h = absurd (false≢true (ap lone e ∙ h))
only SmallName k e h = ap kind_of e
only LargeName k e h = ap kind_of e
only Operator k e h = absurd (false≢true (ap lone e ∙ h))
only Number k e h = absurd (false≢true (ap lone e ∙ h))
only Fraction k e h = absurd (false≢true (ap lone e ∙ h))
only Quoted k e h = ap kind_of e
only Char k e h = ap kind_of e
only Special k e h = absurd (false≢true (ap lone e ∙ h))

-- the class at the front
pub at_front : (j : Kind) (cs next l r : List ℕ) (c : ℕ) → cs ≡ c ∷ next → Is j l r → cs ≡ l ++ r → first j ≡ class_of c
at_front j cs next l r c e h f = same_class (first j) (class_of c) l r (c ∷ []) next (begins j l r h) refl (sym f ∙ e)

symbol_only : (j : Kind) → first j ≡ class.Symbol → (j ≡ LineComment) ⊎ (j ≡ Operator)
symbol_only LineComment e = inl refl
symbol_only Operator e = inr refl
symbol_only Blank e = absurd (let k : ⊥ = cc in k)
symbol_only NestedComment e = absurd (let k : ⊥ = cc in k)
symbol_only SmallName e = absurd (let k : ⊥ = cc in k)
symbol_only LargeName e = absurd (let k : ⊥ = cc in k)
symbol_only Quoted e = absurd (let k : ⊥ = cc in k)
symbol_only Char e = absurd (let k : ⊥ = cc in k)
symbol_only Fraction e = absurd (let k : ⊥ = cc in k)
symbol_only Number e = absurd (let k : ⊥ = cc in k)
symbol_only Special e = absurd (let k : ⊥ = cc in k)

special_only : (j : Kind) → first j ≡ class.Special → (j ≡ NestedComment) ⊎ (j ≡ Special)
special_only NestedComment e = inl refl
special_only Special e = inr refl
special_only Blank e = absurd (let k : ⊥ = cc in k)
special_only LineComment e = absurd (let k : ⊥ = cc in k)
special_only SmallName e = absurd (let k : ⊥ = cc in k)
special_only LargeName e = absurd (let k : ⊥ = cc in k)
special_only Operator e = absurd (let k : ⊥ = cc in k)
special_only Quoted e = absurd (let k : ⊥ = cc in k)
special_only Char e = absurd (let k : ⊥ = cc in k)
special_only Fraction e = absurd (let k : ⊥ = cc in k)
special_only Number e = absurd (let k : ⊥ = cc in k)

digit_only : (j : Kind) → first j ≡ class.Digit → (j ≡ Number) ⊎ (j ≡ Fraction)
digit_only Number e = inl refl
digit_only Fraction e = inr refl
digit_only Blank e = absurd (let k : ⊥ = cc in k)
digit_only LineComment e = absurd (let k : ⊥ = cc in k)
digit_only NestedComment e = absurd (let k : ⊥ = cc in k)
digit_only SmallName e = absurd (let k : ⊥ = cc in k)
digit_only LargeName e = absurd (let k : ⊥ = cc in k)
digit_only Operator e = absurd (let k : ⊥ = cc in k)
digit_only Quoted e = absurd (let k : ⊥ = cc in k)
digit_only Char e = absurd (let k : ⊥ = cc in k)
digit_only Special e = absurd (let k : ⊥ = cc in k)

pub comment_not_operator : (t rest l r : List ℕ) → IsLineComment t rest → IsOperator l r → t ++ rest ≡ l ++ r → ⊥
comment_not_operator t rest l r x o e =
    let s = same_run part.Symbol x.0 (x.1 ++ rest) l r (dashes_symbols x.0 x.3.0) x.4 o.1.0 o.1.1 (sym (append_assoc x.0 x.1 rest) ∙ ap (λ z. z ++ rest) (sym x.2) ∙ e) in
    o.2 (subst IsDashes s.0 x.3)

special_short : (l r : List ℕ) → IsSpecial l r → length l ≤ 1
special_short [] r h = omega arith
special_short (c ∷ []) r h = omega arith
special_short (c ∷ d ∷ l) r h = absurd h.0

nested_long : (l : List ℕ) → IsNestedComment l → 2 ≤ length l
nested_long [] h = absurd h
nested_long (a ∷ []) h = absurd h
nested_long (a ∷ b ∷ l) h = omega arith

module _ (cs next : List ℕ) (c : ℕ) (e : cs ≡ c ∷ next) where
  pub lone_some : (k : Class) → class_of c ≡ k → lone k ≡ true → (rest : List ℕ) → IsLongest (Is (kind_of k)) cs rest → (text : List ℕ) × IsItem (kind_of k) text cs rest
  lone_some k q o rest h = (
    h.text,
    record {
      front = h.front;
      is = h.is;
      longest = λ j l r x f. h.longest l r (subst (λ z. Is z l r) (only j k (at_front j cs next l r c e x f ∙ q) o) x) f;
    },
  )

  pub lone_none : (k : Class) → class_of c ≡ k → lone k ≡ true → Nothing (Is (kind_of k)) cs → NoItem cs
  lone_none k q o never j l r x f = never l r (subst (λ z. Is z l r) (only j k (at_front j cs next l r c e x f ∙ q) o) x) f

  symbols : class_of c ≡ class.Symbol → (j : Kind) (l r : List ℕ) → Is j l r → cs ≡ l ++ r → IsLineComment l r ⊎ IsOperator l r
  symbols q j l r x f = ⊎_elim (λ k. inl (subst (λ z. Is z l r) k x)) (λ k. inr (subst (λ z. Is z l r) k x)) (symbol_only j (at_front j cs next l r c e x f ∙ q))

  pub comment_item : class_of c ≡ class.Symbol → (rest : List ℕ) → IsLongest IsLineComment cs rest → (text : List ℕ) × IsItem LineComment text cs rest
  comment_item q rest h = (
    h.text,
    record {
      front = h.front;
      is = h.is;
      longest = λ j l r x f. ⊎_elim (λ y. h.longest l r y f) (λ y. absurd (comment_not_operator h.text rest l r h.is y (sym h.front ∙ f))) (symbols q j l r x f);
    },
  )

  pub operator_item : class_of c ≡ class.Symbol → (rest : List ℕ) → Nothing IsLineComment cs → IsLongest IsOperator cs rest → (text : List ℕ) × IsItem Operator text cs rest
  operator_item q rest never h = (
    h.text,
    record {
      front = h.front;
      is = h.is;
      longest = λ j l r x f. ⊎_elim (λ y. absurd (never l r y f)) (λ y. h.longest l r y f) (symbols q j l r x f);
    },
  )

  pub symbol_none : class_of c ≡ class.Symbol → Nothing IsLineComment cs → Nothing IsOperator cs → NoItem cs
  symbol_none q a b j l r x f = ⊎_elim (λ y. a l r y f) (λ y. b l r y f) (symbols q j l r x f)

  specials : class_of c ≡ class.Special → (j : Kind) (l r : List ℕ) → Is j l r → cs ≡ l ++ r → IsNestedComment l ⊎ IsSpecial l r
  specials q j l r x f = ⊎_elim (λ k. inl (subst (λ z. Is z l r) k x)) (λ k. inr (subst (λ z. Is z l r) k x)) (special_only j (at_front j cs next l r c e x f ∙ q))

  pub nested_item : class_of c ≡ class.Special → (rest : List ℕ) → IsLongest (λ l r. IsNestedComment l) cs rest → (text : List ℕ) × IsItem NestedComment text cs rest
  nested_item q rest h = (
    h.text,
    record {
      front = h.front;
      is = h.is;
      longest = λ j l r x f. ⊎_elim (λ y. h.longest l r y f) (λ y. omega (arith, special_short l r y, nested_long h.text h.is)) (specials q j l r x f);
    },
  )

  pub special_item : class_of c ≡ class.Special → (rest : List ℕ) → Nothing (λ l r. IsNestedComment l) cs → IsLongest IsSpecial cs rest → (text : List ℕ) × IsItem Special text cs rest
  special_item q rest never h = (
    h.text,
    record {
      front = h.front;
      is = h.is;
      longest = λ j l r x f. ⊎_elim (λ y. absurd (never l r y f)) (λ y. h.longest l r y f) (specials q j l r x f);
    },
  )

  pub special_none : class_of c ≡ class.Special → Nothing (λ l r. IsNestedComment l) cs → Nothing IsSpecial cs → NoItem cs
  special_none q a b j l r x f = ⊎_elim (λ y. a l r y f) (λ y. b l r y f) (specials q j l r x f)

  numbers : class_of c ≡ class.Digit → (j : Kind) (l r : List ℕ) → Is j l r → cs ≡ l ++ r → IsNumber l
  numbers q j l r x f = ⊎_elim (λ k. (Integer, subst (λ z. Is z l r) k x)) (λ k. (Float, subst (λ z. Is z l r) k x)) (digit_only j (at_front j cs next l r c e x f ∙ q))

  pub number_item : class_of c ≡ class.Digit → (form : Form) (k : Kind) → k ≡ number_kind form → (rest : List ℕ) → ((h : IsLongest (λ l r. IsNumber l) cs rest) × IsNumberOf form h.text) → (text : List ℕ) × IsItem k text cs rest
  number_item q form k d rest h = (
    h.0.text,
    record {
      front = h.0.front;
      is = subst (λ z. Is z h.0.text rest) (sym d) (of_form form h.0.text rest h.1);
      longest = λ j l r x f. h.0.longest l r (numbers q j l r x f) f;
    },
  )
    where
      of_form : (form : Form) (l r : List ℕ) → IsNumberOf form l → Is (number_kind form) l r
      of_form Integer l r x = x
      of_form Float l r x = x

  pub number_none : class_of c ≡ class.Digit → Nothing (λ l r. IsNumber l) cs → NoItem cs
  number_none q never j l r x f = never l r (numbers q j l r x f) f

  -- with this class nothing begins
  kindless : (j : Kind) → first j ≡ class.Other → ⊥
  kindless Blank h = cc
  kindless LineComment h = cc
  kindless NestedComment h = cc
  kindless SmallName h = cc
  kindless LargeName h = cc
  kindless Operator h = cc
  kindless Number h = cc
  kindless Fraction h = cc
  kindless Quoted h = cc
  kindless Char h = cc
  kindless Special h = cc

  pub none_begins : class_of c ≡ class.Other → NoItem cs
  none_begins q j l r x f = kindless j (at_front j cs next l r c e x f ∙ q)

no_front : (k : Class) (l r : List ℕ) → BeginsWith k l → [] ≡ l ++ r → ⊥
no_front k [] r h e = h
no_front k (c ∷ l) r h e = cc

pub end_none : (cs : List ℕ) → cs ≡ [] → NoItem cs
end_none cs e j l r x f = no_front (first j) l r (begins j l r x) (sym e ∙ f)

-- laws
one_kind : (k j : Kind) (l r : List ℕ) → Is k l r → Is j l r → (c : ℕ) (next : List ℕ) → l ++ r ≡ c ∷ next → k ≡ j
one_kind k j l r x y c next e = by_class (class_of c) refl
  where
    cs : List ℕ
    cs = l ++ r

    fk : first k ≡ class_of c
    fk = at_front k (l ++ r) next l r c e x refl

    fj : first j ≡ class_of c
    fj = at_front j (l ++ r) next l r c e y refl

    alone : (q : Class) → class_of c ≡ q → lone q ≡ true → k ≡ j
    alone q h o = only k q (fk ∙ h) o ∙ sym (only j q (fj ∙ h) o)

    by_symbol : class_of c ≡ class.Symbol → k ≡ j
    by_symbol h = ⊎_elim
        (λ a. ⊎_elim (λ b. a ∙ sym b) (λ b. absurd (comment_not_operator l r l r (subst (λ z. Is z l r) a x) (subst (λ z. Is z l r) b y) refl)) (symbol_only j (fj ∙ h)))
        (λ a. ⊎_elim (λ b. absurd (comment_not_operator l r l r (subst (λ z. Is z l r) b y) (subst (λ z. Is z l r) a x) refl)) (λ b. a ∙ sym b) (symbol_only j (fj ∙ h)))
        (symbol_only k (fk ∙ h))

    by_special : class_of c ≡ class.Special → k ≡ j
    by_special h = ⊎_elim
        (λ a. ⊎_elim (λ b. a ∙ sym b) (λ b. absurd (omega (arith, nested_long l (subst (λ z. Is z l r) a x), special_short l r (subst (λ z. Is z l r) b y)))) (special_only j (fj ∙ h)))
        (λ a. ⊎_elim (λ b. absurd (omega (arith, nested_long l (subst (λ z. Is z l r) b y), special_short l r (subst (λ z. Is z l r) a x)))) (λ b. a ∙ sym b) (special_only j (fj ∙ h)))
        (special_only k (fk ∙ h))

    by_digit : class_of c ≡ class.Digit → k ≡ j
    by_digit h = ⊎_elim
        (λ a. ⊎_elim (λ b. a ∙ sym b) (λ b. absurd (forms_apart l (subst (λ z. Is z l r) a x) (subst (λ z. Is z l r) b y))) (digit_only j (fj ∙ h)))
        (λ a. ⊎_elim (λ b. absurd (forms_apart l (subst (λ z. Is z l r) b y) (subst (λ z. Is z l r) a x))) (λ b. a ∙ sym b) (digit_only j (fj ∙ h)))
        (digit_only k (fk ∙ h))

    by_class : (q : Class) → class_of c ≡ q → k ≡ j
    by_class class.Symbol h = by_symbol h
    by_class class.Special h = by_special h
    by_class class.White h = alone class.White h refl
    by_class class.Small h = alone class.Small h refl
    by_class class.Large h = alone class.Large h refl
    by_class class.Digit h = by_digit h
    by_class class.Quote h = alone class.Quote h refl
    by_class class.Tick h = alone class.Tick h refl
    by_class class.Other h = alone class.Other h refl

some_front : (k : Class) (l r : List ℕ) → BeginsWith k l → (c : ℕ) × (next : List ℕ) × (l ++ r ≡ c ∷ next)
some_front k [] r h = absurd h
some_front k (c ∷ l) r h = (c, l ++ r, refl)

-- at most one item stands at a place
pub same_item : (k j : Kind) (t u cs a b : List ℕ) → IsItem k t cs a → IsItem j u cs b → (k ≡ j) × (t ≡ u) × (a ≡ b)
same_item k j t u cs a b x y =
    let le : length u ≤ length t = x.longest j u b y.is y.front in
    let ge : length t ≤ length u = y.longest k t a x.is x.front in
    let s = shorter t a u b (sym x.front ∙ y.front) le in
    let z : s.0 ≡ [] = nil_of s.0 (omega (arith, ap length s.1, length-append u s.0)) in
    let tu : t ≡ u = s.1 ∙ ap (λ w. u ++ w) z ∙ append-nil u in
    let ab : b ≡ a = s.2 ∙ ap (λ w. w ++ a) z in
    let f = some_front (first k) t a (begins k t a x.is) in
    let q : Is j t a = subst (λ w. Is j w a) (sym tu) (subst (Is j u) ab y.is) in
    (one_kind k j t a x.is q f.0 f.1 f.2, tu, sym ab)
  where
    nil_of : (w : List ℕ) → length w ≡ 0 → w ≡ []
    nil_of [] h = refl
    nil_of (c ∷ w) h = absurd (omega arith)

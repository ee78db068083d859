-- Tests put together, and the tests of names, operators, comments and numbers decide their languages.
use Rattle.std.specs.Bool.{Decides}
use Rattle.std.specs.Str.{bytes_eq}
use Rattle.std.proofs.Common.{◌≡◌, ◌⊎◌, inl, inr, ⊎_elim, ℕ, zero, suc, ◌<◌, Bool, true, false, not, ◌==◌, ◌||◌, ◌&&◌, List, [], ◌∷◌, ◌++◌, length, refl, ap, sym, ◌∙◌, subst, arith, length-append}
use Rattle.std.proofs.lemmas.Bool.{false≢true}
use Rattle.std.proofs.lemmas.Bool.Decides.{Decides-and, Decides-or, Decides-not, Decides-ltb, Decides-eqb}
use Rattle.std.proofs.lemmas.Slice.Eq.{bytes_eq-Decides}
use Rattle.hs_lex.specs.declared.class.Class.{Class}
use Rattle.hs_lex.specs.declared.class.Class.TheVariants as class
use Rattle.hs_lex.specs.declared.class.Part.{Part}
use Rattle.hs_lex.specs.declared.class.Part.TheVariants as part
use Rattle.hs_lex.specs.declared.number.Base.{Base}
use Rattle.hs_lex.specs.declared.number.Base.TheVariants.{Decimal, Octal, Hexadecimal}
use Rattle.hs_lex.specs.Classes.{class_of, in_part}
use Rattle.hs_lex.specs.Reading.{AllIn, Ends}
use Rattle.hs_lex.specs.Words.{is_reserved}
use Rattle.hs_lex.specs.Numbers.{IsMany, IsDigits, IsFraction, IsExponent, IsFloat, IsMarked, IsInteger, IsNumberOf, unsigned, is_e, digits_of, marks}
use Rattle.hs_lex.specs.declared.number.Form.TheVariants.{Integer}
use Rattle.hs_lex.specs.Lexemes.{BeginsWith, IsOne, IsWhole, IsDashes, IsName, IsOperator, EndsLine, IsLineComment, is_nil, closes, IsNestedComment, IsSpecial, IsPlain, IsTail, IsAnyTail, IsLargeName}
use Rattle.hs_lex.specs.Deciding.{in_two, rank, is_of, all_in, ends, is_whole, is_many, begins_as, is_one, is_name, is_dashes, is_operator, ends_line, is_comment_line, is_line_comment, is_nested_comment, is_special, is_plain, is_tail, is_any_tail, is_large_name, is_fraction, is_exponent, is_behind_digits, is_float, is_in_base, is_integer}

-- tests put together
pub never : Decides false ⊥
never = ((λ h. false≢true h), (λ h. absurd h))

pub always : Decides true (Unit {0})
always = ((λ h. tt), (λ h. refl))

pub itself : (b : Bool) → Decides b (b ≡ true)
itself b = ((λ h. h), (λ h. h))

pub negated : (b : Bool) → Decides (not b) (b ≡ false)
negated true = ((λ h. sym h), (λ h. sym h))
negated false = ((λ h. refl), (λ h. refl))

pub equal : (c d : ℕ) → Decides (c == d) (c ≡ d)
equal c d = Decides-eqb c d

pub via : {P Q : Type 0} (r : Bool) → Decides r P → (P → Q) → (Q → P) → Decides r Q
via r d f g = ((λ h. f (d.0 h)), (λ q. d.1 (g q)))

pub both : {P Q : Type 0} (x y : Bool) → Decides x P → Decides y Q → Decides (x && y) (P × Q)
both x y d k = Decides-and x y d k

pub all_three : {P Q R : Type 0} (x y z : Bool) → Decides x P → Decides y Q → Decides z R → Decides (x && (y && z)) (P × Q × R)
all_three x y z d k m = via (x && (y && z)) (both x (y && z) d (both y z k m)) (λ h. (h.0, h.1.0, h.1.1)) (λ h. (h.0, (h.1, h.2)))

pub either : {P Q : Type 0} (x y : Bool) → Decides x P → Decides y Q → Decides (x || y) (P ⊎ Q)
either x y d k = Decides-or x y d k

pub implies : {P Q : Type 0} (x y : Bool) → Decides x P → Decides y Q → Decides (not x || y) (P → Q)
implies true y d k = ((λ h p. k.0 h), (λ f. k.1 (f (d.0 refl))))
implies false y d k = ((λ h p. absurd (false≢true (d.1 p))), (λ f. refl))

abbrev pub Parted : (List ℕ → List ℕ → Type 0) → List ℕ → Type 0
Parted P l = (a b : List ℕ) × (l ≡ a ++ b) × P a b

nil_parts : (P : List ℕ → List ℕ → Type 0) (a b : List ℕ) → [] ≡ a ++ b → P a b → P [] []
nil_parts P [] b e p = subst (P []) (sym e) p
nil_parts P (c ∷ a) b e p = absurd (let k : ⊥ = cc in k)

cons_parts : (P : List ℕ → List ℕ → Type 0) (c : ℕ) (l a b : List ℕ) → c ∷ l ≡ a ++ b → P a b → P [] (c ∷ l) ⊎ Parted (λ x y. P (c ∷ x) y) l
cons_parts P c l [] b e p = inl (subst (P []) (sym e) p)
cons_parts P c l (d ∷ a) b e p =
    let k : d ≡ c = cc in
    let t : l ≡ a ++ b = cc in
    inr (a, b, t, subst (λ z. P (z ∷ a) b) k p)

pub parted : (f : List ℕ → List ℕ → Bool) (P : List ℕ → List ℕ → Type 0) (l : List ℕ) → ((a b : List ℕ) → l ≡ a ++ b → Decides (f a b) (P a b)) → Decides (in_two f l) (Parted P l)
unfolding in_two
parted f P [] each = via (f [] []) (each [] [] refl) (λ p. ([], [], refl, p)) (λ x. nil_parts P x.0 x.1 x.2 x.3)
parted f P (c ∷ l) each =
    via (f [] (c ∷ l) || in_two (λ a b. f (c ∷ a) b) l)
    (either (f [] (c ∷ l)) (in_two (λ a b. f (c ∷ a) b) l) (each [] (c ∷ l) refl) (parted (λ a b. f (c ∷ a) b) (λ a b. P (c ∷ a) b) l (λ a b e. each (c ∷ a) b (ap (λ z. c ∷ z) e))))
    (λ h. ⊎_elim (λ p. ([], c ∷ l, refl, p)) (λ x. (c ∷ x.0, x.1, ap (λ z. c ∷ z) x.2, x.3)) h)
    (λ x. cons_parts P c l x.0 x.1 x.2 x.3)

-- runs
class_at : ℕ → Class
class_at zero = class.Small
class_at (suc zero) = class.Large
class_at (suc (suc zero)) = class.Digit
class_at (suc (suc (suc zero))) = class.Symbol
class_at (suc (suc (suc (suc zero)))) = class.Special
class_at (suc (suc (suc (suc (suc zero))))) = class.Quote
class_at (suc (suc (suc (suc (suc (suc zero)))))) = class.Tick
class_at (suc (suc (suc (suc (suc (suc (suc zero))))))) = class.White
class_at (suc (suc (suc (suc (suc (suc (suc (suc n)))))))) = class.Other

ranked : (k : Class) → class_at (rank k) ≡ k
unfolding class_at
ranked class.Small = refl
ranked class.Large = refl
ranked class.Digit = refl
ranked class.Symbol = refl
ranked class.Special = refl
ranked class.Quote = refl
ranked class.Tick = refl
ranked class.White = refl
ranked class.Other = refl

of_decides : (k : Class) (c : ℕ) → Decides (is_of k c) (class_of c ≡ k)
of_decides k c = via (is_of k c) (equal (rank (class_of c)) (rank k)) (λ e. sym (ranked (class_of c)) ∙ ap class_at e ∙ ranked k) (λ e. ap rank e)

pub all_decides : (p : Part) (l : List ℕ) → Decides (all_in p l) (AllIn p l)
all_decides p [] = always
all_decides p (c ∷ cs) = both (in_part p c) (all_in p cs) (itself (in_part p c)) (all_decides p cs)

pub ends_decides : (p : Part) (l : List ℕ) → Decides (ends p l) (Ends p l)
ends_decides p [] = always
ends_decides p (c ∷ cs) = negated (in_part p c)

pub whole_decides : (p : Part) (l rest : List ℕ) → Decides (is_whole p l rest) (IsWhole p l rest)
whole_decides p l rest = both (all_in p l) (ends p rest) (all_decides p l) (ends_decides p rest)

pub many_decides : (p : Part) (l : List ℕ) → Decides (is_many p l) (IsMany p l)
many_decides p [] = never
many_decides p (c ∷ cs) = all_decides p (c ∷ cs)

pub begins_decides : (k : Class) (l : List ℕ) → Decides (begins_as k l) (BeginsWith k l)
begins_decides k [] = never
begins_decides k (c ∷ cs) = of_decides k c

pub one_decides : (k : Class) (l : List ℕ) → Decides (is_one k l) (IsOne k l)
one_decides k [] = never
one_decides k (c ∷ []) = of_decides k c
one_decides k (c ∷ d ∷ l) = never

-- names, operators, special characters and comments
pub name_decides : (k : Class) (l rest : List ℕ) → Decides (is_name k l rest) (IsName k l rest)
name_decides k l rest = both (begins_as k l) (is_whole part.Name l rest) (begins_decides k l) (whole_decides part.Name l rest)

dashes_decides : (l : List ℕ) → Decides (is_dashes l) (IsDashes l)
dashes_decides l = via (is_dashes l) (both (all_in part.Dash l) _ (all_decides part.Dash l) (Decides-ltb 1 (length l))) (λ h. (h.0, omega (arith, h.1))) (λ h. (h.0, omega (arith, h.1)))

pub operator_decides : (l rest : List ℕ) → Decides (is_operator l rest) (IsOperator l rest)
operator_decides l rest =
    all_three (begins_as class.Symbol l) (is_whole part.Symbol l rest) (not (is_dashes l)) (begins_decides class.Symbol l) (whole_decides part.Symbol l rest) (Decides-not (is_dashes l) (dashes_decides l))

line_decides : (l : List ℕ) → Decides (ends_line l) (EndsLine l)
line_decides [] = always
line_decides (c ∷ cs) = itself (ends_line (c ∷ cs))

pub comment_decides : (l rest : List ℕ) → Decides (is_line_comment l rest) (IsLineComment l rest)
comment_decides l rest =
    via (is_line_comment l rest)
    (parted (is_comment_line rest) (λ dashes line. (IsDashes dashes × Ends part.Symbol (line ++ rest)) × (AllIn part.Comment line × EndsLine rest)) l
    (λ dashes line e. both (is_dashes dashes && ends part.Symbol (line ++ rest)) (all_in part.Comment line && ends_line rest)
    (both (is_dashes dashes) (ends part.Symbol (line ++ rest)) (dashes_decides dashes) (ends_decides part.Symbol (line ++ rest)))
    (both (all_in part.Comment line) (ends_line rest) (all_decides part.Comment line) (line_decides rest))))
    (λ x. (x.0, x.1, x.2, x.3.0.0, x.3.0.1, x.3.1.0, x.3.1.1)) (λ x. (x.0, x.1, x.2, ((x.3, x.4), (x.5, x.6))))

pub nested_decides : (l : List ℕ) → Decides (is_nested_comment l) (IsNestedComment l)
nested_decides [] = never
nested_decides (a ∷ []) = never
nested_decides (a ∷ b ∷ cs) = all_three (a == 123) (b == 45) (closes 1 cs) (equal a 123) (equal b 45) (itself (closes 1 cs))

pub special_decides : (l rest : List ℕ) → Decides (is_special l rest) (IsSpecial l rest)
special_decides l rest =
    both (is_one class.Special l) (not (bytes_eq l (123 ∷ [])) || ends part.Dash rest) (one_decides class.Special l)
    (implies (bytes_eq l (123 ∷ [])) (ends part.Dash rest) (bytes_eq-Decides l (123 ∷ [])) (ends_decides part.Dash rest))

plain_decides : (l rest : List ℕ) → Decides (is_plain l rest) (IsPlain l rest)
plain_decides l rest =
    both (is_name class.Small l rest || is_operator l rest) (not (is_reserved l))
    (either (is_name class.Small l rest) (is_operator l rest) (name_decides class.Small l rest) (operator_decides l rest)) (negated (is_reserved l))

-- qualified names
abbrev Behind : List ℕ → List ℕ → Type 0
Behind l rest = IsPlain l rest ⊎ Parted (λ q m. IsName class.Large q (m ++ rest) × IsAnyTail m rest) l

tail_of : (c : ℕ) (l rest : List ℕ) → (c ≡ 46) × Behind l rest → IsAnyTail (c ∷ l) rest
tail_of c l rest h = ⊎_elim
    (λ p. ([], inr (l, ap (λ z. z ∷ l) h.0, p)))
    (λ x. (x.0 ∷ x.3.1.0, (x.1, ap (λ z. z ∷ l) h.0 ∙ ap (λ z. 46 ∷ z) x.2, x.3.0, x.3.1.1))) h.1

of_tail : (c : ℕ) (l rest : List ℕ) (qs : List (List ℕ)) → IsTail qs (c ∷ l) rest → (c ≡ 46) × Behind l rest
of_tail c l rest [] h = ⊎_elim
    (λ e. absurd (let k : ⊥ = cc in k))
    (λ p. let e : c ∷ l ≡ 46 ∷ p.0 = p.1 in let k : c ≡ 46 = cc in let t : p.0 ≡ l = cc in (k, inl (subst (λ z. IsPlain z rest) t p.2))) h
of_tail c l rest (q ∷ qs) h =
    let e : c ∷ l ≡ 46 ∷ (q ++ h.0) = h.1 in
    let k : c ≡ 46 = cc in
    let t : l ≡ q ++ h.0 = cc in
    (k, inr (q, h.0, t, (h.2, (qs, h.3))))

tail_decides : (n : ℕ) (l rest : List ℕ) → length l < n → Decides (is_tail n l rest) (IsAnyTail l rest)
unfolding is_tail
tail_decides zero l rest b = absurd (omega arith)
tail_decides (suc n) [] rest b = ((λ h. ([], inl refl)), (λ h. refl))
tail_decides (suc n) (c ∷ l) rest b =
    via (is_tail (suc n) (c ∷ l) rest)
    (both (c == 46) _ (equal c 46)
    (either (is_plain l rest) _ (plain_decides l rest)
    (parted (λ q m. is_name class.Large q (m ++ rest) && is_tail n m rest) (λ q m. IsName class.Large q (m ++ rest) × IsAnyTail m rest) l
    (λ q m e. both (is_name class.Large q (m ++ rest)) (is_tail n m rest) (name_decides class.Large q (m ++ rest)) (tail_decides n m rest (omega (arith, ap length e, length-append q m)))))))
    (tail_of c l rest) (λ h. of_tail c l rest h.0 h.1)

pub large_decides : (l rest : List ℕ) → Decides (is_large_name l rest) (IsLargeName l rest)
large_decides l rest =
    via (is_large_name l rest)
    (parted (λ q m. is_name class.Large q (m ++ rest) && is_any_tail m rest) (λ q m. IsName class.Large q (m ++ rest) × IsAnyTail m rest) l
    (λ q m e. both (is_name class.Large q (m ++ rest)) (is_any_tail m rest) (name_decides class.Large q (m ++ rest)) (tail_decides (suc (length m)) m rest (omega arith))))
    (λ x. (x.0, x.1, x.2, x.3.0, x.3.1)) (λ x. (x.0, x.1, x.2, (x.3, x.4)))

-- numbers
pub nil_decides : (l : List ℕ) → Decides (is_nil l) (l ≡ [])
nil_decides [] = ((λ h. refl), (λ h. refl))
nil_decides (c ∷ l) = ((λ h. absurd (false≢true h)), (λ h. absurd (let k : ⊥ = cc in k)))

fraction_decides : (l : List ℕ) → Decides (is_fraction l) (IsFraction l)
fraction_decides [] = always
fraction_decides (c ∷ cs) = both (c == 46) (is_many part.Digit cs) (equal c 46) (many_decides part.Digit cs)

exponent_decides : (l : List ℕ) → Decides (is_exponent l) (IsExponent l)
exponent_decides [] = always
exponent_decides (c ∷ cs) = both (is_e c) (is_many part.Digit (unsigned cs)) (itself (is_e c)) (many_decides part.Digit (unsigned cs))

abbrev BehindDigits : List ℕ → List ℕ → Type 0
BehindDigits fraction exponent = (IsFraction fraction × IsExponent exponent) × (fraction ++ exponent ≡ [] → ⊥)

behind_digits : (f x : List ℕ) → Decides (is_behind_digits f x) (BehindDigits f x)
behind_digits f x =
    both (is_fraction f && is_exponent x) (not (is_nil (f ++ x))) (both (is_fraction f) (is_exponent x) (fraction_decides f) (exponent_decides x)) (Decides-not (is_nil (f ++ x)) (nil_decides (f ++ x)))

pub float_decides : (l : List ℕ) → Decides (is_float l) (IsFloat l)
float_decides l =
    via (is_float l)
    (parted (λ d m. is_many part.Digit d && in_two is_behind_digits m) (λ d m. IsDigits d × Parted BehindDigits m) l
    (λ d m e. both (is_many part.Digit d) (in_two is_behind_digits m) (many_decides part.Digit d) (parted is_behind_digits BehindDigits m (λ f x g. behind_digits f x))))
    (λ x. (x.0, x.3.1.0, x.3.1.1, x.2 ∙ ap (λ z. x.0 ++ z) x.3.1.2, x.3.0, x.3.1.3.0.0, x.3.1.3.0.1, x.3.1.3.1))
    (λ x. (x.0, x.1 ++ x.2, x.3, (x.4, (x.1, x.2, refl, ((x.5, x.6), x.7)))))

marked_decides : (b : Base) (l : List ℕ) → Decides (is_in_base b l) (IsMarked b l)
marked_decides b [] = ((λ h. absurd (false≢true h)), (λ x. absurd (let e : [] ≡ 48 ∷ x.0 ∷ x.1 = x.2 in let k : ⊥ = cc in k)))
marked_decides b (c ∷ []) = ((λ h. absurd (false≢true h)), (λ x. absurd (let e : c ∷ [] ≡ 48 ∷ x.0 ∷ x.1 = x.2 in let k : ⊥ = cc in k)))
marked_decides b (c ∷ d ∷ m) =
    via (is_in_base b (c ∷ d ∷ m)) (all_three (c == 48) (marks b d) (is_many (digits_of b) m) (equal c 48) (itself (marks b d)) (many_decides (digits_of b) m))
    (λ h. (d, m, ap (λ z. z ∷ d ∷ m) h.0, h.1, h.2)) (λ x. back x.0 x.1 x.2 x.3 x.4)
  where
    back : (y : ℕ) (w : List ℕ) → c ∷ d ∷ m ≡ 48 ∷ y ∷ w → marks b y ≡ true → IsMany (digits_of b) w → (c ≡ 48) × (marks b d ≡ true) × IsMany (digits_of b) m
    back y w e h k =
        let p : c ≡ 48 = cc in
        let q : y ≡ d = cc in
        let t : w ≡ m = cc in
        (p, subst (λ z. marks b z ≡ true) q h, subst (IsMany (digits_of b)) t k)

pub integer_decides : (l : List ℕ) → Decides (is_integer l) (IsNumberOf Integer l)
integer_decides l =
    via (is_integer l)
    (either (is_many part.Digit l) (is_in_base Octal l || is_in_base Hexadecimal l) (many_decides part.Digit l)
    (either (is_in_base Octal l) (is_in_base Hexadecimal l) (marked_decides Octal l) (marked_decides Hexadecimal l)))
    (λ h. ⊎_elim (λ d. (Decimal, d)) (λ m. ⊎_elim (λ o. (Octal, o)) (λ x. (Hexadecimal, x)) m) h) (λ x. by_base x.0 x.1)
  where
    by_base : (b : Base) → IsInteger b l → IsDigits l ⊎ (IsMarked Octal l ⊎ IsMarked Hexadecimal l)
    by_base Decimal h = inl h
    by_base Octal h = inr (inl h)
    by_base Hexadecimal h = inr (inr h)

-- The first sign of some sort at the level of a text: brackets are passed over whole, and a closing one ends the level.
-- By it two readings of one text are told apart, since a derivation is passed over whole where no sign of its own level counts.
use Rattle.std.proofs.Common.{◌≡◌, ℕ, suc, zero, Bool, true, false, cond, List, [], ◌∷◌, ◌++◌, refl, sym, ap, ◌∙◌}
use Rattle.hs_syntax.specs.declared.token.Token.{Token}
use Rattle.hs_syntax.specs.declared.sign.Sign.{Sign}
use Rattle.hs_syntax.specs.declared.sign.Sign.TheVariants.{OpenBrace, CloseBrace, OpenParen, CloseParen, OpenSquare, CloseSquare}
use Rattle.hs_syntax.specs.Signs.{sign_of}

abbrev pub closing : Token → List Token → (ℕ → List Token) → ℕ → List Token
closing t ts rest zero = t ∷ ts
closing t ts rest (suc d) = rest d

abbrev pub plain : Bool → Token → List Token → (ℕ → List Token) → ℕ → List Token
plain b t ts rest zero = cond b (t ∷ ts) (rest zero)
plain b t ts rest (suc d) = rest (suc d)

-- A sort of signs may look at the tokens behind the sign, as a semicolon before `then` is no end of a statement.
abbrev pub cut_by : (Sign → List Token → Bool) → Token → List Token → (ℕ → List Token) → Sign → ℕ → List Token
cut_by p t ts rest (OpenBrace b) d = rest (suc d)
cut_by p t ts rest OpenParen d = rest (suc d)
cut_by p t ts rest OpenSquare d = rest (suc d)
cut_by p t ts rest (CloseBrace b) d = closing t ts rest d
cut_by p t ts rest CloseParen d = closing t ts rest d
cut_by p t ts rest CloseSquare d = closing t ts rest d
cut_by p t ts rest k d = plain (p k ts) t ts rest d

-- the text from the first such sign on, at so many levels down
abbrev pub cut : (Sign → List Token → Bool) → List Token → ℕ → List Token
cut p [] = λ d. []
cut p (t ∷ ts) = λ d. cut_by p t ts (cut p ts) (sign_of t) d

abbrev pub is_opening : Sign → Bool
is_opening (OpenBrace b) = true
is_opening OpenParen = true
is_opening OpenSquare = true
is_opening _ = false

abbrev pub is_closing : Sign → Bool
is_closing (CloseBrace b) = true
is_closing CloseParen = true
is_closing CloseSquare = true
is_closing _ = false

abbrev pub is_plain : Sign → Bool
is_plain (OpenBrace b) = false
is_plain OpenParen = false
is_plain OpenSquare = false
is_plain (CloseBrace b) = false
is_plain CloseParen = false
is_plain CloseSquare = false
is_plain _ = true

plain_pass : (b : Bool) → b ≡ false → (t : Token) (ts : List Token) (rest : ℕ → List Token) (d : ℕ) → plain b t ts rest d ≡ rest d
plain_pass b e t ts rest zero = ap (λ x. cond x (t ∷ ts) (rest zero)) e
plain_pass b e t ts rest (suc d) = refl

pass_by : (p : Sign → List Token → Bool) (t : Token) (ts : List Token) (rest : ℕ → List Token) (k : Sign) → is_plain k ≡ true → p k ts ≡ false → (d : ℕ) → cut_by p t ts rest k d ≡ rest d
pass_by p t ts rest (OpenBrace b) e f d = cc
pass_by p t ts rest OpenParen e f d = cc
pass_by p t ts rest OpenSquare e f d = cc
pass_by p t ts rest (CloseBrace b) e f d = cc
pass_by p t ts rest CloseParen e f d = cc
pass_by p t ts rest CloseSquare e f d = cc
pass_by p t ts rest k e f d = plain_pass (p k ts) f t ts rest d

-- a token that is such a sign is passed over
pub pass : (p : Sign → List Token → Bool) (t : Token) (ts : List Token) (k : Sign) → sign_of t ≡ k → is_plain k ≡ true → p k ts ≡ false → (d : ℕ) → cut p (t ∷ ts) d ≡ cut p ts d
pass p t ts k e f g d = ap (λ x. cut_by p t ts (cut p ts) x d) e ∙ pass_by p t ts (cut p ts) k f g d

inner_by : (p : Sign → List Token → Bool) (t : Token) (ts : List Token) (rest : ℕ → List Token) (k : Sign) → is_plain k ≡ true → (d : ℕ) → cut_by p t ts rest k (suc d) ≡ rest (suc d)
inner_by p t ts rest (OpenBrace b) e d = cc
inner_by p t ts rest OpenParen e d = cc
inner_by p t ts rest OpenSquare e d = cc
inner_by p t ts rest (CloseBrace b) e d = cc
inner_by p t ts rest CloseParen e d = cc
inner_by p t ts rest CloseSquare e d = cc
inner_by p t ts rest k e d = refl

-- in brackets each token but a bracket is passed over
pub inner : (p : Sign → List Token → Bool) (t : Token) (ts : List Token) (k : Sign) → sign_of t ≡ k → is_plain k ≡ true → (d : ℕ) → cut p (t ∷ ts) (suc d) ≡ cut p ts (suc d)
inner p t ts k e f d = ap (λ x. cut_by p t ts (cut p ts) x (suc d)) e ∙ inner_by p t ts (cut p ts) k f d

opens_by : (p : Sign → List Token → Bool) (t : Token) (ts : List Token) (rest : ℕ → List Token) (k : Sign) → is_opening k ≡ true → (d : ℕ) → cut_by p t ts rest k d ≡ rest (suc d)
opens_by p t ts rest (OpenBrace b) e d = refl
opens_by p t ts rest OpenParen e d = refl
opens_by p t ts rest OpenSquare e d = refl
opens_by p t ts rest _ e d = cc

pub opens : (p : Sign → List Token → Bool) (t : Token) (ts : List Token) (k : Sign) → sign_of t ≡ k → is_opening k ≡ true → (d : ℕ) → cut p (t ∷ ts) d ≡ cut p ts (suc d)
opens p t ts k e f d = ap (λ x. cut_by p t ts (cut p ts) x d) e ∙ opens_by p t ts (cut p ts) k f d

closes_by : (p : Sign → List Token → Bool) (t : Token) (ts : List Token) (rest : ℕ → List Token) (k : Sign) → is_closing k ≡ true → (d : ℕ) → cut_by p t ts rest k d ≡ closing t ts rest d
closes_by p t ts rest (CloseBrace b) e d = refl
closes_by p t ts rest CloseParen e d = refl
closes_by p t ts rest CloseSquare e d = refl
closes_by p t ts rest _ e d = cc

pub closes : (p : Sign → List Token → Bool) (t : Token) (ts : List Token) (k : Sign) → sign_of t ≡ k → is_closing k ≡ true → (d : ℕ) → cut p (t ∷ ts) (suc d) ≡ cut p ts d
closes p t ts k e f d = ap (λ x. cut_by p t ts (cut p ts) x (suc d)) e ∙ closes_by p t ts (cut p ts) k f (suc d)

-- a closing bracket ends the level
pub ends : (p : Sign → List Token → Bool) (t : Token) (ts : List Token) → is_closing (sign_of t) ≡ true → cut p (t ∷ ts) 0 ≡ t ∷ ts
ends p t ts f = closes_by p t ts (cut p ts) (sign_of t) f 0

stands_by : (p : Sign → List Token → Bool) (t : Token) (ts : List Token) (rest : ℕ → List Token) (k : Sign) → is_plain k ≡ true → p k ts ≡ true → cut_by p t ts rest k 0 ≡ t ∷ ts
stands_by p t ts rest (OpenBrace b) e f = cc
stands_by p t ts rest OpenParen e f = cc
stands_by p t ts rest OpenSquare e f = cc
stands_by p t ts rest (CloseBrace b) e f = cc
stands_by p t ts rest CloseParen e f = cc
stands_by p t ts rest CloseSquare e f = cc
stands_by p t ts rest k e f = ap (λ x. cond x (t ∷ ts) (rest 0)) f

-- such a sign stands
pub stands : (p : Sign → List Token → Bool) (t : Token) (ts : List Token) → is_plain (sign_of t) ≡ true → p (sign_of t) ts ≡ true → cut p (t ∷ ts) 0 ≡ t ∷ ts
stands p t ts e f = stands_by p t ts (cut p ts) (sign_of t) e f

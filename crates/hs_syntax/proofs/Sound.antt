-- What is read is derived: the parts that every reader's proof uses.
use Rattle.std.proofs.Common.{◌≡◌, Bool, true, false, cond, List, [], ◌∷◌, Option, Some, None, refl}
use Rattle.hs_syntax.specs.declared.token.Token.{Token}
use Rattle.hs_syntax.specs.declared.sign.Sign.{Sign}
use Rattle.hs_syntax.specs.Signs.{sign_of}
use Rattle.hs_syntax.specs.Reading.{Found, and_then, or_else, or_else_by, with_first, begins, behind, and_behind, with_sign}

-- an answer, where there is one, is of this kind
abbrev pub Sound : {X : Type 0} → (List Token → X → Type 0) → Found X → Type 0
Sound P None = Unit {0}
Sound P (Some p) = P p.1 p.0

pub sound_then : {X Y : Type 0} (P : List Token → X → Type 0) (Q : List Token → Y → Type 0) (m : Found X) (f : X → List Token → Found Y)
    → Sound P m → ((x : X) (rest : List Token) → P rest x → Sound Q (f x rest)) → Sound Q (and_then m f)
sound_then P Q None f s h = tt
sound_then P Q (Some p) f s h = h p.0 p.1 s

pub sound_as : {X : Type 0} (P Q : List Token → X → Type 0) (m : Found X)
    → Sound P m → ((rest : List Token) (x : X) → P rest x → Q rest x) → Sound Q m
sound_as P Q None s h = tt
sound_as P Q (Some p) s h = h p.1 p.0 s

pub sound_or : {X : Type 0} (Q : List Token → X → Type 0) (m g : Found X) → Sound Q m → Sound Q g → Sound Q (or_else m g)
sound_or Q None g s h = h
sound_or Q (Some p) g s h = s

pub sound_or_by : {X Y : Type 0} (P : List Token → X → Type 0) (Q : List Token → Y → Type 0) (m : Found X) (f : X → List Token → Found Y) (g : Found Y)
    → Sound P m → ((x : X) (rest : List Token) → P rest x → Sound Q (f x rest)) → Sound Q g → Sound Q (or_else_by m f g)
sound_or_by P Q None f g s h k = k
sound_or_by P Q (Some p) f g s h k = h p.0 p.1 s

pub sound_first : {X : Type 0} (Q : List Token → List Token → X → Type 0) (ts : List Token) (other : Found X) (f : Token → List Token → Sign → Found X)
    → Sound (Q []) other → ((t : Token) (rest : List Token) → Sound (Q (t ∷ rest)) (f t rest (sign_of t))) → Sound (Q ts) (with_first ts other f)
sound_first Q [] other f s h = s
sound_first Q (t ∷ ts) other f s h = h t ts

-- a sign that stands there
by_sign : {X : Type 0} (p : Sign → Bool) (Q : List Token → X → Type 0) (t : Token) (ts : List Token) (f : List Token → Found X) (g : Found X)
    → (p (sign_of t) ≡ true → Sound Q (f ts)) → Sound Q g → (b : Bool) → p (sign_of t) ≡ b → Sound Q (and_behind (cond b (Some ts) None) f g)
by_sign p Q t ts f g h k true e = h e
by_sign p Q t ts f g h k false e = k

pub sound_behind : {X : Type 0} (p : Sign → Bool) (Q : List Token → X → Type 0) (a : List Token) (f : List Token → Found X) (g : Found X)
    → ((t : Token) (ts : List Token) → a ≡ t ∷ ts → p (sign_of t) ≡ true → Sound Q (f ts)) → Sound Q g → Sound Q (and_behind (behind p a) f g)
sound_behind p Q [] f g h k = k
sound_behind p Q (t ∷ ts) f g h k = by_sign p Q t ts f g (h t ts refl) k (p (sign_of t)) refl

with_by : {X : Type 0} (p : Sign → Bool) (Q : List Token → X → Type 0) (t : Token) (ts : List Token) (x : X)
    → (p (sign_of t) ≡ true → Q ts x) → (b : Bool) → p (sign_of t) ≡ b → Sound Q (with_sign (cond b (Some ts) None) x)
with_by p Q t ts x h true e = h e
with_by p Q t ts x h false e = tt

pub sound_sign : {X : Type 0} (p : Sign → Bool) (Q : List Token → X → Type 0) (a : List Token) (x : X)
    → ((t : Token) (ts : List Token) → a ≡ t ∷ ts → p (sign_of t) ≡ true → Q ts x) → Sound Q (with_sign (behind p a) x)
sound_sign p Q [] x h = tt
sound_sign p Q (t ∷ ts) x h = with_by p Q t ts x (h t ts refl) (p (sign_of t)) refl

-- an answer that can be none alone
pub none_of : {X : Type 0} (P : List Token → X → Type 0) (m : Found X) → Sound P m → ((rest : List Token) (x : X) → P rest x → ⊥) → m ≡ None
none_of P None s h = refl
none_of P (Some p) s h = absurd (h p.1 p.0 s)

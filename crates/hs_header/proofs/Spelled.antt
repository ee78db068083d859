-- Readers of parts of the grammar, whatever follows these.
use Rattle.std.proofs.Common.{◌≡◌, ℕ, zero, suc, ◌<◌, ◌≤◌, List, [], ◌∷◌, ◌++◌, length, ap, sym, subst, ◌∙◌, arith, append_assoc}
use Rattle.hs_syntax.specs.declared.token.Token.{Token}
use Rattle.hs_header.specs.Readers.{Answer, and_then, made}
use Rattle.hs_header.proofs.Told.{Tokens, Reader, then, Told, told_then, told_made, told_as, told_over, told_from}

abbrev pub Leads : Type 0 → Type 1
Leads X = Tokens → Tokens → X → Type 0

-- a text is this part, whatever follows
abbrev pub Spells : {X : Type 0} → (Tokens → Tokens → X → Type 0) → Tokens → X → Type 0
Spells P p x = (z : Tokens) → P (p ++ z) z x

abbrev pub Sp : {X : Type 0} → (Tokens → Tokens → X → Type 0) → Tokens → Tokens → X → Type 0
Sp P p b x = Spells P p x

-- a text begins such a part
abbrev pub Be : {X : Type 0} → (Tokens → Tokens → X → Type 0) → Tokens → Type 0
Be {X} P p = (c : Tokens) × (x : X) × Spells P (p ++ c) x

-- what is told of a reader of these parts
abbrev pub Tells : {X : Type 0} → (Tokens → Tokens → X → Type 0) → Reader X → Tokens → Answer X → Type 0
Tells P r a o = Told (Sp P) (Be P) r a o

-- such a reader
abbrev pub Reads : {X : Type 0} → (Tokens → Tokens → X → Type 0) → Reader X → Type 0
Reads P r = (n : ℕ) (a : Tokens) → length a < n → Tells P r a (r n a)

-- a part behind a token
abbrev pub Behind : {X : Type 0} → Token → (Tokens → Tokens → X → Type 0) → Tokens → Tokens → X → Type 0
Behind t P a b x = P (t ∷ a) b x

-- such parts with others before them
abbrev pub Acc : {X : Type 0} → List X → (Tokens → Tokens → List X → Type 0) → Tokens → Tokens → List X → Type 0
Acc {X} before P a b ys = (xs : List X) × (ys ≡ before ++ xs) × P a b xs

module _ {X Y : Type 0} (P : Tokens → Tokens → X → Type 0) (Q : X → Tokens → Tokens → Y → Type 0) (S : Tokens → Tokens → Y → Type 0)
    (joins : (a b c : Tokens) (x : X) (y : Y) → P a b x → Q x b c y → S a c y) (some : (x : X) → Be (Q x) []) (r : Reader X) (f : X → Reader Y) where
  whole : (p q b : Tokens) (x : X) (y : Y) → Spells P p x → Spells (Q x) q y → Spells S (p ++ q) y
  whole p q b x y s u = λ z. subst (λ a. S a z y) (sym (append_assoc p q z)) (joins (p ++ (q ++ z)) (q ++ z) z x y (s (q ++ z)) (u z))

  first : (p : Tokens) → Be P p → Be S p
  first p (c, x, s) =
      let (d, y, u) : Be (Q x) [] = some x in
      (c ++ d, y, λ z. subst (λ a. S a z y) (sym (append_assoc (p ++ c) d z) ∙ ap (λ a. a ++ z) (append_assoc p c d)) (joins (p ++ c ++ (d ++ z)) (d ++ z) z x y (s (d ++ z)) (u z)))

  second : (p q b : Tokens) (x : X) → Spells P p x → Be (Q x) q → Be S (p ++ q)
  second p q b x s (c, y, u) =
      (c, y, λ z. subst (λ a. S a z y) (sym (append_assoc p (q ++ c) z) ∙ ap (λ a. a ++ z) (sym (append_assoc p q c))) (joins (p ++ (q ++ c ++ z)) (q ++ c ++ z) z x y (s (q ++ c ++ z)) (u z)))

  pub then_tells : (n : ℕ) (a : Tokens) (o : Answer X) → Tells P r a o → ((x : X) (b : Tokens) → length b ≤ length a → Tells (Q x) (f x) b (f x n b)) → Tells S (then r f) a (and_then o (λ x b. f x n b))
  then_tells n a o u h = told_then (Sp P) (Be P) (λ x. Sp (Q x)) (λ x. Be (Q x)) (Sp S) (Be S) r f whole first second n a o u h

module _ {X Y : Type 0} (P : Tokens → Tokens → X → Type 0) (S : Tokens → Tokens → Y → Type 0) (g : X → Y) (makes : (a b : Tokens) (x : X) → P a b x → S a b (g x)) (r : Reader X) where
  pub made_tells : (a : Tokens) (o : Answer X) → Tells P r a o → Tells S (λ m z. made g (r m z)) a (made g o)
  made_tells a o u = told_made (Sp P) (Be P) (Sp S) (Be S) r g (λ p b x s z. makes (p ++ z) z x (s z)) (λ p u. (u.0, g u.1, λ z. makes (p ++ u.0 ++ z) z u.1 (u.2 z))) a o u

module _ {X : Type 0} (P S : Tokens → Tokens → X → Type 0) (is : (a b : Tokens) (x : X) → P a b x → S a b x) where
  sp : (p b : Tokens) (x : X) → Sp P p b x → Sp S p b x
  sp p b x s = λ z. is (p ++ z) z x (s z)

  be : (p : Tokens) → Be P p → Be S p
  be p (c, x, s) = (c, x, λ z. is (p ++ c ++ z) z x (s z))

  pub as_tells : (r : Reader X) (a : Tokens) (o : Answer X) → Tells P r a o → Tells S r a o
  as_tells r a o u = told_as (Sp P) (Be P) (Sp S) (Be S) r sp be a o u

  pub from_tells : (r f : Reader X) (t : Token) → ((m : ℕ) (z : Tokens) → 0 < m → r m (t ∷ z) ≡ f m (t ∷ z)) → (ts : Tokens) (o : Answer X) → Tells P f (t ∷ ts) o → Tells S r (t ∷ ts) o
  from_tells r f t e ts o u = told_from (Sp S) (Be S) r (Sp P) (Be P) f t e sp be ts o u

-- behind a token
module _ {X : Type 0} (P : Tokens → Tokens → X → Type 0) (r f : Reader X) (t : Token) where
  pub over_tells : ((m : ℕ) (z : Tokens) → 0 < m → r m (t ∷ z) ≡ f m z) → (ts : Tokens) (o : Answer X) → Tells (Behind t P) f ts o → Tells P r (t ∷ ts) o
  over_tells e ts o u = told_over (Sp P) (Be P) r (Sp (Behind t P)) (Be (Behind t P)) f t (λ m. m) (λ k m l. omega (arith, l)) e (λ p b x s. s) (λ p s. s) ts o u

abbrev pub less_one : ℕ → ℕ
less_one zero = zero
less_one (suc m) = m

pub less : (k m : ℕ) → suc k < m → k < less_one m
less k zero l = absurd (omega arith)
less k (suc m) l = omega (arith, l)

module _ {X : Type 0} (P : Tokens → Tokens → X → Type 0) (r f : Reader X) (t : Token) where
  pub step_tells : ((m : ℕ) (z : Tokens) → 0 < m → r m (t ∷ z) ≡ f (less_one m) z) → (ts : Tokens) (o : Answer X) → Tells (Behind t P) f ts o → Tells P r (t ∷ ts) o
  step_tells e ts o u = told_over (Sp P) (Be P) r (Sp (Behind t P)) (Be (Behind t P)) f t less_one less e (λ p b x s. s) (λ p s. s) ts o u

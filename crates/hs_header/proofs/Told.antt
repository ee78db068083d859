-- What the answer of a reader tells of the tokens. What is read is derived, whatever follows it; tokens up to the one at
-- which a reading stops begin something; and the answer depends on the tokens up to that one alone, or, where something
-- is read, on the first behind it.
use Rattle.std.proofs.Common.{◌≡◌, ℕ, suc, ◌<◌, ◌≤◌, List, [], ◌∷◌, ◌++◌, length, length-append, refl, ap, sym, subst, ◌∙◌, arith, append_assoc}
use Rattle.std.specs.Prelude.{Ok, Err}
use Rattle.mk_base.specs.declared.place.Pos.{Pos}
use Rattle.hs_syntax.specs.declared.token.Token.{Token}
use Rattle.hs_header.specs.declared.expected.Stop.TheVariants.{At, End}
use Rattle.hs_header.specs.Readers.{Answer, and_then, made}

abbrev pub Tokens : Type 0
Tokens = List Token

-- a reader, by the number of steps
abbrev pub Reader : Type 0 → Type 0
Reader X = ℕ → List Token → Answer X

abbrev pub then : {X Y : Type 0} → Reader X → (X → Reader Y) → Reader Y
then r f m z = and_then (r m z) (λ x b. f x m b)

-- Something is read: p is whole, and no token behind the first counts. G says what p with b behind it is.
abbrev pub ToldOk : {X : Type 0} → (Tokens → Tokens → X → Type 0) → Reader X → Tokens → X → Tokens → Type 0
ToldOk G r a x b = (p : Tokens) × (a ≡ p ++ b) × G p b x × ((m : ℕ) (q : Tokens) (t : Token) (s z : Tokens) → b ≡ q ++ t ∷ s → length p < m → r m (p ++ (q ++ t ∷ z)) ≡ Ok (x, q ++ t ∷ z))

-- The reading stops at a token: p begins something, and no token behind that one counts. C says what p begins.
abbrev pub ToldAt : {X : Type 0} → (Tokens → Type 0) → Reader X → Tokens → Pos → Type 0
ToldAt C r a at = (p : Tokens) × (t : Token) × (s : Tokens) × (a ≡ p ++ t ∷ s) × (t.at ≡ at) × C p × ((m : ℕ) (z : Tokens) → length p < m → r m (p ++ t ∷ z) ≡ Err (At at))

abbrev pub Told : {X : Type 0} → (Tokens → Tokens → X → Type 0) → (Tokens → Type 0) → Reader X → Tokens → Answer X → Type 0
Told G C r a (Ok y) = ToldOk G r a y.0 y.1
Told G C r a (Err (At at)) = ToldAt C r a at
Told G C r a (Err End) = C a

-- One reader behind another

module _ {X Y : Type 0} (G1 : Tokens → Tokens → X → Type 0) (C1 : Tokens → Type 0) (G2 : X → Tokens → Tokens → Y → Type 0) (C2 : X → Tokens → Type 0) (G : Tokens → Tokens → Y → Type 0) (C : Tokens → Type 0)
    (r : Reader X) (f : X → Reader Y)
    (whole : (p q b : Tokens) (x : X) (y : Y) → G1 p (q ++ b) x → G2 x q b y → G (p ++ q) b y)
    (first : (p : Tokens) → C1 p → C p)
    (second : (p q b : Tokens) (x : X) → G1 p b x → C2 x q → C (p ++ q)) where
  then_ok : (a b c : Tokens) (x : X) (y : Y) → ToldOk G1 r a x b → ToldOk (G2 x) (f x) b y c → ToldOk G (then r f) a y c
  then_ok a b c x y (p, e, g, k) (q, d, h, l) = (
    p ++ q,
    e ∙ ap (λ z. p ++ z) d ∙ sym (append_assoc p q c),
    whole p q c x y (subst (λ z. G1 p z x) d g) h,
    λ m w t s z n u.
        let i : b ≡ q ++ w ++ t ∷ s = d ∙ ap (λ z. q ++ z) n ∙ sym (append_assoc q w (t ∷ s)) in
        let one : r m (p ++ (q ++ w ++ t ∷ z)) ≡ Ok (x, q ++ w ++ t ∷ z) = k m (q ++ w) t s z i (omega (arith, length-append p q, u)) in
        let two : f x m (q ++ w ++ t ∷ z) ≡ Ok (y, w ++ t ∷ z) = ap (f x m) (append_assoc q w (t ∷ z)) ∙ l m w t s z n (omega (arith, length-append p q, u)) in
        let same : p ++ q ++ (w ++ t ∷ z) ≡ p ++ (q ++ w ++ t ∷ z) = append_assoc p q (w ++ t ∷ z) ∙ ap (λ v. p ++ v) (sym (append_assoc q w (t ∷ z))) in
        ap (then r f m) same ∙ ap (λ o. and_then o (λ x b. f x m b)) one ∙ two,
  )

  then_at : (a b : Tokens) (x : X) (at : Pos) → ToldOk G1 r a x b → ToldAt (C2 x) (f x) b at → ToldAt C (then r f) a at
  then_at a b x at (p, e, g, k) (q, t, s, d, i, h, l) = (
    p ++ q,
    t,
    s,
    e ∙ ap (λ z. p ++ z) d ∙ sym (append_assoc p q (t ∷ s)),
    i,
    second p q b x g h,
    λ m z u.
        let one : r m (p ++ (q ++ t ∷ z)) ≡ Ok (x, q ++ t ∷ z) = k m q t s z d (omega (arith, length-append p q, u)) in
        ap (then r f m) (append_assoc p q (t ∷ z)) ∙ ap (λ o. and_then o (λ x b. f x m b)) one ∙ l m z (omega (arith, length-append p q, u)),
  )

  then_by : (a b : Tokens) (x : X) (o : Answer Y) → ToldOk G1 r a x b → Told (G2 x) (C2 x) (f x) b o → Told G C (then r f) a o
  then_by a b x (Ok y) u v = then_ok a b y.1 x y.0 u v
  then_by a b x (Err (At at)) u v = then_at a b x at u v
  then_by a b x (Err End) u v = subst C (sym u.1) (second u.0 b b x u.2 v)

  pub told_then : (n : ℕ) (a : Tokens) (o : Answer X) → Told G1 C1 r a o → ((x : X) (b : Tokens) → length b ≤ length a → Told (G2 x) (C2 x) (f x) b (f x n b)) → Told G C (then r f) a (and_then o (λ x b. f x n b))
  told_then n a (Ok y) u h = then_by a y.1 y.0 (f y.0 n y.1) u (h y.0 y.1 (omega (arith, ap length u.1, length-append u.0 y.1)))
  told_then n a (Err (At at)) (p, t, s, e, i, g, k) h = (p, t, s, e, i, first p g, λ m z u. ap (λ o. and_then o (λ x b. f x m b)) (k m z u))
  told_then n a (Err End) u h = first a u

-- What is made of what is read

module _ {X Y : Type 0} (G1 : Tokens → Tokens → X → Type 0) (C1 : Tokens → Type 0) (G : Tokens → Tokens → Y → Type 0) (C : Tokens → Type 0) (r : Reader X) (g : X → Y)
    (whole : (p b : Tokens) (x : X) → G1 p b x → G p b (g x)) (front : (p : Tokens) → C1 p → C p) where
  pub told_made : (a : Tokens) (o : Answer X) → Told G1 C1 r a o → Told G C (λ m z. made g (r m z)) a (made g o)
  told_made a (Ok y) (p, e, h, k) = (p, e, whole p y.1 y.0 h, λ m q t s z n u. ap (made g) (k m q t s z n u))
  told_made a (Err (At at)) (p, t, s, e, i, h, k) = (p, t, s, e, i, front p h, λ m z u. ap (made g) (k m z u))
  told_made a (Err End) u = front a u

-- The same reading of another kind

module _ {X : Type 0} (G1 : Tokens → Tokens → X → Type 0) (C1 : Tokens → Type 0) (G : Tokens → Tokens → X → Type 0) (C : Tokens → Type 0) (r : Reader X)
    (whole : (p b : Tokens) (x : X) → G1 p b x → G p b x) (front : (p : Tokens) → C1 p → C p) where
  pub told_as : (a : Tokens) (o : Answer X) → Told G1 C1 r a o → Told G C r a o
  told_as a (Ok y) (p, e, h, k) = (p, e, whole p y.1 y.0 h, k)
  told_as a (Err (At at)) (p, t, s, e, i, h, k) = (p, t, s, e, i, front p h, k)
  told_as a (Err End) u = front a u

-- By the first token

same_head : (t u : Token) (ts s z p : Tokens) → t ∷ ts ≡ p ++ u ∷ s → (w : Tokens) × (p ++ u ∷ z ≡ t ∷ w)
same_head t u ts s z [] e = (z, let h : t ≡ u = cc in ap (λ x. x ∷ z) (sym h))
same_head t u ts s z (x ∷ p) e = (p ++ u ∷ z, let h : t ≡ x = cc in ap (λ y. y ∷ (p ++ u ∷ z)) (sym h))

module _ {X : Type 0} (G : Tokens → Tokens → X → Type 0) (C : Tokens → Type 0) (r : Reader X) where
  -- it is all that is read
  pub told_one : (t : Token) (ts : Tokens) (x : X) → G (t ∷ []) ts x → ((m : ℕ) (z : Tokens) → 0 < m → r m (t ∷ z) ≡ Ok (x, z)) → Told G C r (t ∷ ts) (Ok (x, ts))
  told_one t ts x g k = (t ∷ [], refl, g, λ m q u s z e l. k m (q ++ u ∷ z) (omega (arith, l)))

  -- it isn't read
  pub told_none : (t : Token) (ts : Tokens) (x : X) → G [] (t ∷ ts) x → ((m : ℕ) (z : Tokens) → 0 < m → r m (t ∷ z) ≡ Ok (x, t ∷ z)) → Told G C r (t ∷ ts) (Ok (x, t ∷ ts))
  told_none t ts x g k = (
    [],
    refl,
    g,
    λ m q u s z e l.
        let (w, h) : (w : Tokens) × (q ++ u ∷ z ≡ t ∷ w) = same_head t u ts s z q e in
        ap (r m) h ∙ k m w (omega (arith, l)) ∙ ap (λ v. Ok (x, v)) (sym h),
  )

  -- it stops the reading
  pub told_stop : (t : Token) (ts : Tokens) → C [] → ((m : ℕ) (z : Tokens) → 0 < m → r m (t ∷ z) ≡ Err (At t.at)) → Told G C r (t ∷ ts) (Err (At t.at))
  told_stop t ts c k = ([], t, ts, refl, refl, c, λ m z l. k m z (omega (arith, l)))

  no_token : (q s : Tokens) (t : Token) → [] ≡ q ++ t ∷ s → ⊥
  no_token [] s t e = cc
  no_token (x ∷ q) s t e = cc

  -- there is none
  pub told_empty : (x : X) → G [] [] x → Told G C r [] (Ok (x, []))
  told_empty x g = ([], refl, g, λ m q u s z e l. absurd (no_token q s u e))

  module _ (G1 : Tokens → Tokens → X → Type 0) (C1 : Tokens → Type 0) (f : Reader X) (t : Token) where
    -- another reader reads behind it, with h steps of the number
    pub told_over : (h : ℕ → ℕ) → ((k m : ℕ) → suc k < m → k < h m) → ((m : ℕ) (z : Tokens) → 0 < m → r m (t ∷ z) ≡ f (h m) z)
        → ((p b : Tokens) (x : X) → G1 p b x → G (t ∷ p) b x) → ((p : Tokens) → C1 p → C (t ∷ p))
        → (ts : Tokens) (o : Answer X) → Told G1 C1 f ts o → Told G C r (t ∷ ts) o
    told_over h less is whole front ts (Ok y) (p, e, g, k) =
        (t ∷ p, ap (λ z. t ∷ z) e, whole p y.1 y.0 g, λ m q u s z n l. is m (p ++ (q ++ u ∷ z)) (omega (arith, l)) ∙ k (h m) q u s z n (less (length p) m l))
    told_over h less is whole front ts (Err (At at)) (p, u, s, e, i, g, k) =
        (t ∷ p, u, s, ap (λ z. t ∷ z) e, i, front p g, λ m z l. is m (p ++ u ∷ z) (omega (arith, l)) ∙ k (h m) z (less (length p) m l))
    told_over h less is whole front ts (Err End) u = front ts u

    -- another reader reads from it on
    pub told_from : ((m : ℕ) (z : Tokens) → 0 < m → r m (t ∷ z) ≡ f m (t ∷ z))
        → ((p b : Tokens) (x : X) → G1 p b x → G p b x) → ((p : Tokens) → C1 p → C p)
        → (ts : Tokens) (o : Answer X) → Told G1 C1 f (t ∷ ts) o → Told G C r (t ∷ ts) o
    told_from is whole front ts (Ok y) (p, e, g, k) = (
      p,
      e,
      whole p y.1 y.0 g,
      λ m q u s z n l.
          let i : t ∷ ts ≡ p ++ q ++ u ∷ s = e ∙ ap (λ v. p ++ v) n ∙ sym (append_assoc p q (u ∷ s)) in
          let (w, d) : (w : Tokens) × (p ++ q ++ u ∷ z ≡ t ∷ w) = same_head t u ts s z (p ++ q) i in
          let c : p ++ (q ++ u ∷ z) ≡ t ∷ w = sym (append_assoc p q (u ∷ z)) ∙ d in
          ap (r m) c ∙ is m w (omega (arith, l)) ∙ ap (f m) (sym c) ∙ k m q u s z n l,
    )
    told_from is whole front ts (Err (At at)) (p, u, s, e, i, g, k) = (
      p,
      u,
      s,
      e,
      i,
      front p g,
      λ m z l.
          let (w, d) : (w : Tokens) × (p ++ u ∷ z ≡ t ∷ w) = same_head t u ts s z p e in
          ap (r m) d ∙ is m w (omega (arith, l)) ∙ ap (f m) (sym d) ∙ k m z l,
    )
    told_from is whole front ts (Err End) u = front (t ∷ ts) u

-- Characters in quotes.
use Rattle.std.proofs.Common.{◌≡◌, ◌⊎◌, inl, inr, ⊎_elim, ℕ, List, [], ◌∷◌, ◌++◌, length, refl, ap, sym, ◌∙◌, subst, arith, append_assoc, length-append}
use Rattle.std.specs.Prelude.{Option, Some, None}
use Rattle.std.specs.Borrow.{Bor}
use Rattle.std.proofs.lemmas.Bool.{cases_eq}
use Rattle.std.proofs.lemmas.List.{append_cancel_left}
use Rattle.source_text.specs.Characters.{characters}
use Rattle.hs_lex.specs.Reading.{IsLongest, Nothing, Reads}
use Rattle.hs_lex.specs.Quoted.{Differs, Char, IsEscape, IsGraphic, IsInside, IsChar}
use Rattle.hs_lex.proofs.Escapes.{escape_same}
use Rattle.hs_lex.proofs.Strings.{escape_alike}

-- at most one such text stands at a place
inside_same : (l r m s : List ℕ) → IsInside l r → IsInside m s → l ++ r ≡ m ++ s → l ≡ m
inside_same l r m s x y e = ⊎_elim
    (λ a. ⊎_elim
    (λ b.
    let w : a.0 ∷ r ≡ b.0 ∷ s = ap (λ z. z ++ r) (sym a.1) ∙ e ∙ ap (λ z. z ++ s) b.1 in
    let k : a.0 ≡ b.0 = cc in
    a.1 ∙ ap (λ z. z ∷ []) k ∙ sym b.1)
    (λ b.
    let w : a.0 ∷ r ≡ 92 ∷ (b.0 ++ s) = ap (λ z. z ++ r) (sym a.1) ∙ e ∙ ap (λ z. z ++ s) b.1 in
    absurd (a.2.2 (let k : a.0 ≡ 92 = cc in k))) y)
    (λ a. ⊎_elim
    (λ b.
    let w : 92 ∷ (a.0 ++ r) ≡ b.0 ∷ s = ap (λ z. z ++ r) (sym a.1) ∙ e ∙ ap (λ z. z ++ s) b.1 in
    absurd (b.2.2 (let k : b.0 ≡ 92 = cc in k)))
    (λ b.
    let w : 92 ∷ (a.0 ++ r) ≡ 92 ∷ (b.0 ++ s) = ap (λ z. z ++ r) (sym a.1) ∙ e ∙ ap (λ z. z ++ s) b.1 in
    let t : a.0 ++ r ≡ b.0 ++ s = cc in
    a.1 ∙ ap (λ z. 92 ∷ z) (escape_same a.0 r b.0 s a.2 b.2 t) ∙ sym b.1) y) x

inside_longest : (cs rest t : List ℕ) → IsInside t rest → cs ≡ t ++ rest → IsLongest IsInside cs rest
inside_longest cs rest t h e = record { text = t; front = e; is = h; longest = λ l r x f. omega (arith, ap length (inside_same t rest l r h x (sym e ∙ f))) }

pub inside_end : (cs : List ℕ) → cs ≡ [] → Nothing IsInside cs
inside_end cs e l r x f = ⊎_elim
    (λ a. let w : [] ≡ a.0 ∷ r = sym e ∙ f ∙ ap (λ z. z ++ r) a.1 in cc)
    (λ a. let w : [] ≡ 92 ∷ (a.0 ++ r) = sym e ∙ f ∙ ap (λ z. z ++ r) a.1 in cc) x

-- the empty escape stands before an ampersand
ampersand : (l r next : List ℕ) → IsEscape l r → l ++ r ≡ 38 ∷ next → l ≡ 38 ∷ []
ampersand l r next x e = escape_same l r (38 ∷ []) next x (38, [], refl, Char, (refl, refl)) e

stands : (d : ℕ) (cs : List ℕ) → (Differs d cs → ⊥) → (r : List ℕ) × (cs ≡ d ∷ r)
stands d [] h = absurd (h tt)
stands d (c ∷ r) h = ⊎_elim (λ k. (r, ap (λ z. z ∷ r) k)) (λ n. absurd (h n)) (cases_eq c d)

stands_not : (d : ℕ) (cs r : List ℕ) → Differs d cs → cs ≡ d ∷ r → ⊥
stands_not d [] r h e = cc
stands_not d (c ∷ cs) r h e = h (let k : c ≡ d = cc in k)

module _ (cs next : List ℕ) (c : ℕ) (e : cs ≡ c ∷ next) where
  pub graphic_some : IsGraphic c → IsLongest IsInside cs next
  graphic_some h = inside_longest cs next (c ∷ []) (inl (c, refl, h)) e

  -- which of the two stands there
  which : (l r : List ℕ) → IsInside l r → cs ≡ l ++ r → IsGraphic c ⊎ ((c ≡ 92) × ((m : List ℕ) × (next ≡ m ++ r) × IsEscape m r × (m ≡ 38 ∷ [] → ⊥)))
  which l r x f = ⊎_elim
      (λ a. let w : c ∷ next ≡ a.0 ∷ r = sym e ∙ f ∙ ap (λ z. z ++ r) a.1 in let k : a.0 ≡ c = cc in inl (subst IsGraphic k a.2))
      (λ a.
      let w : c ∷ next ≡ 92 ∷ (a.0 ++ r) = sym e ∙ f ∙ ap (λ z. z ++ r) a.1 in
      inr ((let k : c ≡ 92 = cc in k), (a.0, (let k : next ≡ a.0 ++ r = cc in k), a.2, a.3))) x

  pub inside_other : (IsGraphic c → ⊥) → (c ≡ 92 → ⊥) → Nothing IsInside cs
  inside_other a b l r x f = ⊎_elim a (λ y. b y.0) (which l r x f)

  pub inside_empty : (IsGraphic c → ⊥) → (Differs 38 next → ⊥) → Nothing IsInside cs
  inside_empty a b l r x f = ⊎_elim a (λ y. let s = stands 38 next b in y.1.3 (ampersand y.1.0 r s.0 y.1.2 (sym y.1.1 ∙ s.1))) (which l r x f)

  pub inside_by : (IsGraphic c → ⊥) → c ≡ 92 → Differs 38 next → (answer : Option (Bor (List ℕ))) → Reads IsEscape next answer → Reads IsInside cs answer
  inside_by a k d (Some rest) h =
      inside_longest cs (characters rest.now) (92 ∷ h.text)
      (inr (h.text, refl, h.is, λ q. stands_not 38 next (characters rest.now) d (h.front ∙ ap (λ z. z ++ characters rest.now) q)))
      (e ∙ ap (λ z. z ∷ next) k ∙ ap (λ z. 92 ∷ z) h.front)
  inside_by a k d None never = λ l r x f. ⊎_elim a (λ y. never y.1.0 r y.1.2 y.1.1) (which l r x f)

inside_alike : (m s t : List ℕ) (d : ℕ) → IsInside m (d ∷ s) → IsInside m (d ∷ t)
inside_alike m s t d x = ⊎_elim (λ a. inl a) (λ a. inr (a.0, a.1, escape_alike a.0 [] s t d a.2, a.3)) x

-- a character
pub char_end : (cs : List ℕ) → cs ≡ [] → Nothing (λ l r. IsChar l) cs
char_end cs e l r x f = let w : [] ≡ (39 ∷ (x.0 ++ 39 ∷ [])) ++ r = sym e ∙ f ∙ ap (λ z. z ++ r) x.1 in cc

module _ (cs inside : List ℕ) (c : ℕ) (e : cs ≡ c ∷ inside) where
  char_is : (l r : List ℕ) (x : IsChar l) → cs ≡ l ++ r → (c ≡ 39) × (inside ≡ x.0 ++ 39 ∷ r) × IsInside x.0 (39 ∷ r)
  char_is l r x f =
      let w : c ∷ inside ≡ (39 ∷ (x.0 ++ 39 ∷ [])) ++ r = sym e ∙ f ∙ ap (λ z. z ++ r) x.1 in
      let i : inside ≡ (x.0 ++ 39 ∷ []) ++ r = cc in
      ((let k : c ≡ 39 = cc in k), i ∙ append_assoc x.0 (39 ∷ []) r, inside_alike x.0 [] r 39 x.2)

  pub char_other : (c ≡ 39 → ⊥) → Nothing (λ l r. IsChar l) cs
  char_other never l r x f = never (char_is l r x f).0

  pub char_none : Nothing IsInside inside → Nothing (λ l r. IsChar l) cs
  char_none never l r x f = let i = char_is l r x f in never x.0 (39 ∷ r) i.2 i.1

  same_inside : (rest : List ℕ) (h : IsLongest IsInside inside rest) (l r : List ℕ) (x : IsChar l) → cs ≡ l ++ r → h.text ≡ x.0
  same_inside rest h l r x f = let i = char_is l r x f in inside_same h.text rest x.0 (39 ∷ r) h.is i.2 (sym h.front ∙ i.1)

  pub char_open : (rest : List ℕ) → IsLongest IsInside inside rest → ((r : List ℕ) → rest ≡ 39 ∷ r → ⊥) → Nothing (λ l r. IsChar l) cs
  char_open rest h never l r x f =
      never r (append_cancel_left x.0 _ _ (ap (λ z. z ++ rest) (sym (same_inside rest h l r x f)) ∙ sym h.front ∙ (char_is l r x f).1))

  pub char_some : (rest after : List ℕ) (d : ℕ) → c ≡ 39 → IsLongest IsInside inside rest → rest ≡ d ∷ after → d ≡ 39 → IsLongest (λ l r. IsChar l) cs after
  char_some rest after d k h g q =
      let back : rest ≡ 39 ∷ after = g ∙ ap (λ z. z ∷ after) q in
      record {
        text = 39 ∷ (h.text ++ 39 ∷ []);
        front = e ∙ ap (λ z. z ∷ inside) k ∙ ap (λ z. 39 ∷ z) (h.front ∙ ap (λ z. h.text ++ z) back ∙ sym (append_assoc h.text (39 ∷ []) after));
        is = (h.text, refl, inside_alike h.text after [] 39 (subst (IsInside h.text) back h.is));
        longest = λ l r x f. omega (arith, ap length x.1, ap length (same_inside rest h l r x f), length-append {A = ℕ} h.text (39 ∷ []), length-append {A = ℕ} x.0 (39 ∷ []));
      }

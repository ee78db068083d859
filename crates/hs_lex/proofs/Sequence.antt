-- One language behind another, and a language that may be left out.
use Rattle.std.proofs.Common.{◌≡◌, ℕ, ◌+◌, ◌≤◌, List, [], ◌∷◌, ◌++◌, length, refl, ap, sym, ◌∙◌, subst, arith, append_assoc, length-append}
use Rattle.hs_lex.specs.Reading.{IsLongest, Nothing, Reads}
use Rattle.std.specs.Prelude.{Option, Some, None}
use Rattle.std.specs.Borrow.{Bor}
use Rattle.source_text.specs.Characters.{characters}
use Rattle.hs_lex.specs.Lexemes.{Then}

-- of two fronts the shorter one begins the longer
pub shorter : (a r b s : List ℕ) → a ++ r ≡ b ++ s → length b ≤ length a → (t : List ℕ) × (a ≡ b ++ t) × (s ≡ t ++ r)
shorter a r [] s e h = (a, refl, sym e)
shorter [] r (y ∷ b) s e h = absurd (omega arith)
shorter (x ∷ a) r (y ∷ b) s e h =
    let q = shorter a r b s (let t : a ++ r ≡ b ++ s = cc in t) (omega arith) in
    let k : x ≡ y = cc in
    (q.0, (let w : x ∷ a ≡ (y ∷ b) ++ q.0 = let e0 = q.1 in cc in w), q.2)

-- O is nothing, or one of F with D behind it
module _ (O : List ℕ → Type 0) (F : ℕ → Type 0) (D : List ℕ → Type 0) (nil : O []) (into : (c : ℕ) (m : List ℕ) → F c → D m → O (c ∷ m)) (out : (c : ℕ) (m : List ℕ) → O (c ∷ m) → F c × D m) where
  stays : (cs : List ℕ) → ((c : ℕ) (m r : List ℕ) → O (c ∷ m) → cs ≡ c ∷ (m ++ r) → ⊥) → (l r : List ℕ) → O l → cs ≡ l ++ r → length l ≤ 0
  stays cs never [] r h e = omega arith
  stays cs never (c ∷ m) r h e = absurd (never c m r h e)

  none_there : (cs : List ℕ) → ((c : ℕ) (m r : List ℕ) → O (c ∷ m) → cs ≡ c ∷ (m ++ r) → ⊥) → IsLongest (λ l r. O l) cs cs
  none_there cs never = record { text = []; front = refl; is = nil; longest = stays cs never }

  pub opt_end : (cs : List ℕ) → cs ≡ [] → IsLongest (λ l r. O l) cs cs
  opt_end cs e = none_there cs (λ c m r h f. let x = sym e ∙ f in cc)

  pub opt_other : (cs next : List ℕ) (c : ℕ) → cs ≡ c ∷ next → (F c → ⊥) → IsLongest (λ l r. O l) cs cs
  opt_other cs next c e never = none_there cs (λ d m r h f. never (let k : d ≡ c = cc in subst F k (out d m h).0))

  pub opt_none : (cs next : List ℕ) (c : ℕ) → cs ≡ c ∷ next → Nothing (λ l r. D l) next → IsLongest (λ l r. O l) cs cs
  opt_none cs next c e never = none_there cs (λ d m r h f. never m r (out d m h).1 (let k : next ≡ m ++ r = cc in k))

  no_longer : (cs next t : List ℕ) (c : ℕ) → cs ≡ c ∷ next → ((l r : List ℕ) → D l → next ≡ l ++ r → length l ≤ length t) → (l r : List ℕ) → O l → cs ≡ l ++ r → length l ≤ length (c ∷ t)
  no_longer cs next t c e most [] r h f = omega arith
  no_longer cs next t c e most (d ∷ m) r h f = omega (arith, most m r (out d m h).1 (let k : next ≡ m ++ r = cc in k))

  pub opt_some : (cs next rest : List ℕ) (c : ℕ) → cs ≡ c ∷ next → F c → IsLongest (λ l r. D l) next rest → IsLongest (λ l r. O l) cs rest
  opt_some cs next rest c e f h = record {
    text = c ∷ h.text;
    front = e ∙ ap (λ t. c ∷ t) h.front;
    is = into c h.text f h.is;
    longest = no_longer cs next h.text c e h.longest;
  }

-- M behind L, where no text of M that isn't empty goes on as L does
module _ (L M : List ℕ → Type 0) (apart : (a t : List ℕ) (c : ℕ) → L a → L (a ++ c ∷ t) → (m : List ℕ) → M (c ∷ m) → ⊥) where
  pub then_nothing : (cs : List ℕ) → Nothing (λ l r. L l) cs → Nothing (λ l r. Then L M l) cs
  then_nothing cs never l r h e = never h.0 (h.1 ++ r) h.3 (e ∙ ap (λ t. t ++ r) h.2 ∙ append_assoc h.0 h.1 r)

  by_tail : (cs mid rest : List ℕ) (x : IsLongest (λ l r. L l) cs mid) (y : IsLongest (λ l r. M l) mid rest) → (a b r t : List ℕ) → L a → M b → cs ≡ a ++ (b ++ r) → x.text ≡ a ++ t → b ++ r ≡ t ++ mid
      → length a + length b ≤ length x.text + length y.text
  by_tail cs mid rest x y a [] r t la mb e p q = omega (arith, ap length p, length-append a t)
  by_tail cs mid rest x y a (c ∷ b) r [] la mb e p q = omega (arith, y.longest (c ∷ b) r mb (sym q), ap length p, length-append {A = ℕ} a [])
  by_tail cs mid rest x y a (c ∷ b) r (d ∷ t) la mb e p q =
      let k : c ≡ d = cc in
      absurd (apart a t c la (subst L (p ∙ ap (λ z. a ++ z ∷ t) (sym k)) x.is) b mb)

  pub then_longest : (cs mid rest : List ℕ) → IsLongest (λ l r. L l) cs mid → IsLongest (λ l r. M l) mid rest → IsLongest (λ l r. Then L M l) cs rest
  then_longest cs mid rest x y = record {
    text = x.text ++ y.text;
    front = x.front ∙ ap (λ t. x.text ++ t) y.front ∙ sym (append_assoc x.text y.text rest);
    is = (x.text, y.text, refl, x.is, y.is);
    longest = λ l r h e.
        let whole : cs ≡ h.0 ++ (h.1 ++ r) = e ∙ ap (λ t. t ++ r) h.2 ∙ append_assoc h.0 h.1 r in
        let s = shorter x.text mid h.0 (h.1 ++ r) (sym x.front ∙ whole) (x.longest h.0 (h.1 ++ r) h.3 whole) in
        omega (arith, by_tail cs mid rest x y h.0 h.1 r s.0 h.3 h.4 whole s.1 s.2, ap length h.2, length-append h.0 h.1, length-append x.text y.text);
  }

  pub then_text : (cs mid rest : List ℕ) (x : IsLongest (λ l r. L l) cs mid) (y : IsLongest (λ l r. M l) mid rest) → (then_longest cs mid rest x y).text ≡ x.text ++ y.text
  unfolding then_longest
  then_text cs mid rest x y = refl

-- an answer about one language, as one about another
pub reads_by : (L M : List ℕ → List ℕ → Type 0) (cs ds : List ℕ) (answer : Option (Bor (List ℕ))) → ((rest : List ℕ) → IsLongest L cs rest → IsLongest M ds rest) → (Nothing L cs → Nothing M ds)
    → Reads L cs answer → Reads M ds answer
reads_by L M cs ds (Some rest) some none h = some (characters rest.now) h
reads_by L M cs ds None some none h = none h

-- Nested comments.
use Rattle.std.specs.Prelude.{◌==◌, ◌&&◌}
use Rattle.std.proofs.Common.{◌≡◌, ⊎_elim, ℕ, ◌+◌, ◌-◌, ◌≤◌, true, false, List, [], ◌∷◌, ◌++◌, length, refl, ap, sym, ◌∙◌, subst, arith, append_assoc, length-append}
use Rattle.std.proofs.lemmas.List.{append_cancel_left}
use Rattle.std.proofs.lemmas.Bool.{false≢true, cond-false, eqb-true, cases_Bool}
use Rattle.mk_base.specs.Classes.{class_of as class_of_char}
use Rattle.hs_lex.specs.Classes.{class_of, is_inside}
use Rattle.hs_lex.specs.Reading.{IsLongest, Nothing}
use Rattle.hs_lex.specs.Lexemes.{closes, is_nil, IsNestedComment}
use Rattle.hs_lex.specs.Signs.{is_opening, IsOther}

differs : (a b : ℕ) → (a ≡ b → ⊥) → (a == b) ≡ false
differs a b h = ⊎_elim (λ y. absurd (h (eqb-true a b y))) (λ n. n) (cases_Bool (a == b))

opens_more : (n : ℕ) (m : List ℕ) → closes n (123 ∷ 45 ∷ m) ≡ closes (n + 1) m
unfolding closes
opens_more n m = refl

closes_last : (m : List ℕ) → closes 1 (45 ∷ 125 ∷ m) ≡ is_nil m
unfolding closes
closes_last m = refl

closes_one : (n : ℕ) (m : List ℕ) → (n == 1) ≡ false → closes n (45 ∷ 125 ∷ m) ≡ closes (n - 1) m
unfolding closes
closes_one n m h = cond-false _ _ _ h

goes_on : (n c d : ℕ) (m : List ℕ) → IsOther c d → closes n (c ∷ d ∷ m) ≡ closes n (d ∷ m)
unfolding closes
goes_on n c d m h = cond-false _ _ _ h.0 ∙ cond-false _ _ _ h.1 ∙ ap (λ b. b && closes n (d ∷ m)) h.2

-- what closes has two characters, the first of which is one
closes_two : (n : ℕ) (m : List ℕ) → closes n m ≡ true → (c d : ℕ) × (l : List ℕ) × (m ≡ c ∷ d ∷ l)
unfolding closes
closes_two n [] h = absurd (false≢true h)
closes_two n (c ∷ []) h = absurd (false≢true h)
closes_two n (c ∷ d ∷ l) h = (c, d, l, refl)

-- the signs of a comment may stand in one
brace_inside : is_inside 123 ≡ true
unfolding is_inside class_of class_of_char
brace_inside = refl

dash_inside : is_inside 45 ≡ true
unfolding is_inside class_of class_of_char
dash_inside = refl

outside : (c d : ℕ) → is_inside d ≡ true → is_inside c ≡ false → (c == d) ≡ false
outside c d e f = differs c d (λ q. false≢true (sym f ∙ ap is_inside q ∙ e))

closes_bad : (n c d : ℕ) (l : List ℕ) → is_inside c ≡ false → closes n (c ∷ d ∷ l) ≡ true → ⊥
unfolding closes
closes_bad n c d l f h =
    let whole : closes n (c ∷ d ∷ l) ≡ false =
    cond-false _ _ _ (ap (λ b. b && (d == 45)) (outside c 123 brace_inside f)) ∙ cond-false _ _ _ (ap (λ b. b && (d == 125)) (outside c 45 dash_inside f)) ∙ ap (λ b. b && closes n (d ∷ l)) f in
    false≢true (sym whole ∙ h)

-- the state: done leads to here, and a text that closes goes on from here, where it closes the depth
pub record Inside (cs here : List ℕ) (depth : ℕ) : Type 0 where
  pub done : List ℕ
  pub front : cs ≡ done ++ here
  pub same : (m r : List ℕ) → here ≡ m ++ r → closes 1 (done ++ m) ≡ closes depth m
  pub back : (l r : List ℕ) → closes 1 l ≡ true → cs ≡ l ++ r → (m : List ℕ) × (l ≡ done ++ m) × (here ≡ m ++ r)

pub start : (cs : List ℕ) → Inside cs cs 1
start cs = record { done = []; front = refl; same = λ m r e. refl; back = λ l r h e. (l, refl, e) }

-- one step over the characters w, behind which what closes the old depth closes the new one
module _ (cs here rest w : List ℕ) (depth new : ℕ) (e : here ≡ w ++ rest)
    (keeps : (m r : List ℕ) → rest ≡ m ++ r → closes depth (w ++ m) ≡ closes new m)
    (begins : (m r : List ℕ) → closes depth m ≡ true → here ≡ m ++ r → (t : List ℕ) × (m ≡ w ++ t)) (g : Inside cs here depth) where
  pub step : Inside cs rest new
  step = record {
    done = g.done ++ w;
    front = g.front ∙ ap (λ z. g.done ++ z) e ∙ sym (append_assoc g.done w rest);
    same = λ m r f. ap (closes 1) (append_assoc g.done w m) ∙ g.same (w ++ m) r (e ∙ ap (λ z. w ++ z) f ∙ sym (append_assoc w m r)) ∙ keeps m r f;
    back = λ l r h f.
        let b = g.back l r h f in
        let t = begins b.0 r (sym (g.same b.0 r b.2) ∙ ap (closes 1) (sym b.1) ∙ h) b.2 in (
          t.0,
          b.1 ∙ ap (λ z. g.done ++ z) t.1 ∙ sym (append_assoc g.done w t.0),
          append_cancel_left w rest (t.0 ++ r) (sym e ∙ b.2 ∙ ap (λ z. z ++ r) t.1 ∙ append_assoc w t.0 r),
        );
  }

two_first : (a b : ℕ) (here rest m r : List ℕ) (n : ℕ) → here ≡ a ∷ b ∷ rest → closes n m ≡ true → here ≡ m ++ r → (t : List ℕ) × (m ≡ a ∷ b ∷ t)
two_first a b here rest m r n e h f =
    let t = closes_two n m h in
    let k : a ∷ b ∷ rest ≡ t.0 ∷ t.1 ∷ (t.2 ++ r) = sym e ∙ f ∙ ap (λ z. z ++ r) t.3 in
    (t.2, t.3 ∙ (let w : t.0 ∷ t.1 ∷ t.2 ≡ a ∷ b ∷ t.2 = cc in w))

pub opening : (cs here rest : List ℕ) (depth : ℕ) → here ≡ 123 ∷ 45 ∷ rest → Inside cs here depth → Inside cs rest (depth + 1)
opening cs here rest depth e g = step cs here rest (123 ∷ 45 ∷ []) depth (depth + 1) e (λ m r f. opens_more depth m) (λ m r h f. two_first 123 45 here rest m r depth e h f) g

pub closing : (cs here rest : List ℕ) (depth : ℕ) → (depth ≡ 1 → ⊥) → here ≡ 45 ∷ 125 ∷ rest → Inside cs here depth → Inside cs rest (depth - 1)
closing cs here rest depth never e g = step cs here rest (45 ∷ 125 ∷ []) depth (depth - 1) e (λ m r f. closes_one depth m (differs depth 1 never)) (λ m r h f. two_first 45 125 here rest m r depth e h f) g

one_first : (c d : ℕ) (here rest after m r : List ℕ) (n : ℕ) → here ≡ c ∷ rest → closes n m ≡ true → here ≡ m ++ r → (t : List ℕ) × (m ≡ c ∷ t)
one_first c d here rest after m r n e h f =
    let t = closes_two n m h in
    let k : c ∷ rest ≡ t.0 ∷ t.1 ∷ (t.2 ++ r) = sym e ∙ f ∙ ap (λ z. z ++ r) t.3 in
    (t.1 ∷ t.2, t.3 ∙ (let w : t.0 ∷ t.1 ∷ t.2 ≡ c ∷ t.1 ∷ t.2 = cc in w))

other_keeps : (c d n : ℕ) (rest after m r : List ℕ) → rest ≡ d ∷ after → IsOther c d → rest ≡ m ++ r → closes n (c ∷ m) ≡ closes n m
unfolding closes
other_keeps c d n rest after [] r e h f = refl
other_keeps c d n rest after (x ∷ m) r e h f =
    let k : x ≡ d = cc in
    goes_on n c x m (subst (IsOther c) (sym k) h)

pub other : (cs here rest after : List ℕ) (c d depth : ℕ) → here ≡ c ∷ rest → rest ≡ d ∷ after → IsOther c d → Inside cs here depth → Inside cs rest depth
other cs here rest after c d depth e f h g = step cs here rest (c ∷ []) depth depth e (λ m r q. other_keeps c d depth rest after m r f h q) (λ m r q k. one_first c d here rest after m r depth e q k) g

pub stuck : (cs here : List ℕ) (depth : ℕ) → ((c d : ℕ) (l : List ℕ) → here ≡ c ∷ d ∷ l → is_inside c ≡ false) → Inside cs here depth → Nothing (λ l r. closes 1 l ≡ true) cs
stuck cs here depth never g l r h e =
    let b = g.back l r h e in
    let k : closes depth b.0 ≡ true = sym (g.same b.0 r b.2) ∙ ap (closes 1) (sym b.1) ∙ h in
    let t = closes_two depth b.0 k in
    let q : is_inside t.0 ≡ false = never t.0 t.1 (t.2 ++ r) (b.2 ∙ ap (λ z. z ++ r) t.3) in
    closes_bad depth t.0 t.1 t.2 q (subst (λ z. closes depth z ≡ true) t.3 k)

nil_only : (m : List ℕ) → is_nil m ≡ true → m ≡ []
nil_only [] h = refl
nil_only (c ∷ m) h = absurd (false≢true h)

pub ends : (cs here rest : List ℕ) (depth : ℕ) → depth ≡ 1 → here ≡ 45 ∷ 125 ∷ rest → Inside cs here depth → IsLongest (λ l r. closes 1 l ≡ true) cs rest
ends cs here rest depth one e g = record {
  text = g.done ++ 45 ∷ 125 ∷ [];
  front = g.front ∙ ap (λ z. g.done ++ z) e ∙ sym (append_assoc g.done (45 ∷ 125 ∷ []) rest);
  is = g.same (45 ∷ 125 ∷ []) rest e ∙ ap (λ n. closes n (45 ∷ 125 ∷ [])) one ∙ closes_last [];
  longest = λ l r h f.
      let b = g.back l r h f in
      let k : closes depth b.0 ≡ true = sym (g.same b.0 r b.2) ∙ ap (closes 1) (sym b.1) ∙ h in
      let t = two_first 45 125 here rest b.0 r depth e k b.2 in
      let n : is_nil t.0 ≡ true = sym (closes_last t.0) ∙ ap (λ n. closes n (45 ∷ 125 ∷ t.0)) (sym one) ∙ ap (closes depth) (sym t.1) ∙ k in
      omega (arith, ap length b.1, ap length t.1, ap length (nil_only t.0 n), length-append g.done b.0, length-append {A = ℕ} g.done (45 ∷ 125 ∷ []));
}

-- a nested comment
pub comment_some : (cs inside rest : List ℕ) → cs ≡ 123 ∷ 45 ∷ inside → IsLongest (λ l r. closes 1 l ≡ true) inside rest → IsLongest (λ l r. IsNestedComment l) cs rest
comment_some cs inside rest e h = record {
  text = 123 ∷ 45 ∷ h.text;
  front = e ∙ ap (λ z. 123 ∷ 45 ∷ z) h.front;
  is = (refl, refl, h.is);
  longest = λ l r k f. bound l r k f;
}
  where
    bound : (l r : List ℕ) → IsNestedComment l → cs ≡ l ++ r → length l ≤ length (123 ∷ 45 ∷ h.text)
    bound [] r k f = absurd k
    bound (a ∷ []) r k f = absurd k
    bound (a ∷ b ∷ l) r k f = omega (arith, h.longest l r k.2 (let g : 123 ∷ 45 ∷ inside ≡ a ∷ b ∷ (l ++ r) = sym e ∙ f in let q : inside ≡ l ++ r = cc in q))

pub comment_open : (cs inside : List ℕ) → cs ≡ 123 ∷ 45 ∷ inside → Nothing (λ l r. closes 1 l ≡ true) inside → Nothing (λ l r. IsNestedComment l) cs
comment_open cs inside e never [] r k f = absurd k
comment_open cs inside e never (a ∷ []) r k f = absurd k
comment_open cs inside e never (a ∷ b ∷ l) r k f = never l r k.2 (let g : 123 ∷ 45 ∷ inside ≡ a ∷ b ∷ (l ++ r) = sym e ∙ f in let q : inside ≡ l ++ r = cc in q)

pub comment_none : (cs : List ℕ) → ((c d : ℕ) (l : List ℕ) → cs ≡ c ∷ d ∷ l → c ≡ 123 → d ≡ 45 → ⊥) → Nothing (λ l r. IsNestedComment l) cs
comment_none cs never [] r k f = absurd k
comment_none cs never (a ∷ []) r k f = absurd k
comment_none cs never (a ∷ b ∷ l) r k f = never a b (l ++ r) f k.0 k.1

pub closes_first : (cs rest : List ℕ) → cs ≡ 45 ∷ 125 ∷ rest → (c d : ℕ) (l : List ℕ) → cs ≡ c ∷ d ∷ l → c ≡ 123 → d ≡ 45 → ⊥
closes_first cs rest e c d l f h k = let q : c ≡ 45 = cc in omega arith

pub other_first : (cs rest after : List ℕ) (a b : ℕ) → cs ≡ a ∷ rest → rest ≡ b ∷ after → IsOther a b → (c d : ℕ) (l : List ℕ) → cs ≡ c ∷ d ∷ l → c ≡ 123 → d ≡ 45 → ⊥
other_first cs rest after a b e g o c d l f h k =
    let whole : a ∷ b ∷ after ≡ c ∷ d ∷ l = ap (λ z. a ∷ z) (sym g) ∙ sym e ∙ f in
    let p : a ≡ 123 = cc in
    let q : b ≡ 45 = cc in
    false≢true (sym o.0 ∙ ap (λ x. is_opening x b) p ∙ ap (is_opening 123) q)

pub bad_first : (cs : List ℕ) → ((c d : ℕ) (l : List ℕ) → cs ≡ c ∷ d ∷ l → is_inside c ≡ false) → (c d : ℕ) (l : List ℕ) → cs ≡ c ∷ d ∷ l → c ≡ 123 → d ≡ 45 → ⊥
bad_first cs never c d l f h k = false≢true (sym (never c d l f) ∙ ap is_inside h ∙ brace_inside)

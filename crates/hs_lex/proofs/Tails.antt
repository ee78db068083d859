-- Qualified names.
use Rattle.std.proofs.Common.{◌≡◌, ◌⊎◌, inl, inr, ⊎_elim, ℕ, ◌<◌, ◌≤◌, List, [], ◌∷◌, ◌++◌, length, refl, ap, sym, ◌∙◌, subst, arith, append_assoc, length-append}
use Rattle.std.proofs.lemmas.List.{append-nil, append_cancel_left}
use Rattle.hs_lex.specs.declared.class.Part.TheVariants as part
use Rattle.hs_lex.specs.declared.class.Class.TheVariants as class
use Rattle.hs_lex.specs.Reading.{IsLongest, Nothing}
use Rattle.hs_lex.specs.Lexemes.{IsName, IsPlain, IsTail, IsAnyTail, IsLargeName, BeginsWith}
use Rattle.hs_lex.proofs.Runs.{same_run}
use Rattle.hs_lex.proofs.Plain.{same_class}

plain_class : (q x m r : List ℕ) → BeginsWith class.Large q → IsPlain m r → q ++ x ≡ m ++ r → ⊥
plain_class q x m r b p e = ⊎_elim
    (λ n. let k : class.Large ≡ class.Small = same_class class.Large class.Small q x m r b n.0 e in cc)
    (λ o. let k : class.Large ≡ class.Symbol = same_class class.Large class.Symbol q x m r b o.0 e in cc) p.0

-- a tail is nothing, or begins with a dot
Parts : List ℕ → List ℕ → List ℕ → Type 0
Parts q l r = (l ≡ []) ⊎ ((m : List ℕ) × (l ≡ 46 ∷ (q ++ m)) × IsAnyTail m r)

-- where a conid stands behind the dot, a tail is nothing or goes on with it
by_conid : (here next rest : List ℕ) → here ≡ 46 ∷ next → (q : IsLongest (IsName class.Large) next rest) → (l r : List ℕ) (qs : List (List ℕ)) → IsTail qs l r → here ≡ l ++ r → Parts q.text l r
unfolding Parts
by_conid here next rest e q l r [] h f = ⊎_elim (λ n. inl n)
    (λ p. absurd (plain_class q.text rest p.0 r q.is.0 p.2 (sym q.front ∙ (let k : next ≡ p.0 ++ r = let g : 46 ∷ next ≡ (46 ∷ p.0) ++ r = sym e ∙ f ∙ ap (λ t. t ++ r) p.1 in cc in k)))) h
by_conid here next rest e q l r (p ∷ qs) h f =
    let g : 46 ∷ next ≡ 46 ∷ ((p ++ h.0) ++ r) = sym e ∙ f ∙ ap (λ t. t ++ r) h.1 in
    let k : next ≡ (p ++ h.0) ++ r = cc in
    let s = same_run part.Name q.text rest p (h.0 ++ r) q.is.1.0 q.is.1.1 h.2.1.0 h.2.1.1 (sym q.front ∙ k ∙ append_assoc p h.0 r) in
    inr (h.0, h.1 ∙ ap (λ t. 46 ∷ (t ++ h.0)) (sym s.0), (qs, h.3))

-- where none does, it is nothing or the dot and a plain part
by_plain : (here next : List ℕ) → here ≡ 46 ∷ next → Nothing (IsName class.Large) next → (l r : List ℕ) (qs : List (List ℕ)) → IsTail qs l r → here ≡ l ++ r → (l ≡ []) ⊎ ((m : List ℕ) × (l ≡ 46 ∷ m) × IsPlain m r × (next ≡ m ++ r))
by_plain here next e never l r [] h f = ⊎_elim (λ n. inl n)
    (λ p. let g : 46 ∷ next ≡ 46 ∷ (p.0 ++ r) = sym e ∙ f ∙ ap (λ t. t ++ r) p.1 in inr (p.0, p.1, p.2, (let k : next ≡ p.0 ++ r = cc in k))) h
by_plain here next e never l r (p ∷ qs) h f =
    let g : 46 ∷ next ≡ 46 ∷ ((p ++ h.0) ++ r) = sym e ∙ f ∙ ap (λ t. t ++ r) h.1 in
    let k : next ≡ (p ++ h.0) ++ r = cc in
    absurd (never p (h.0 ++ r) h.2 (k ∙ append_assoc p h.0 r))

-- with no dot it is nothing
no_dot : (here : List ℕ) → ((next : List ℕ) → here ≡ 46 ∷ next → Nothing (IsName class.Large) next × Nothing IsPlain next) → (l r : List ℕ) (qs : List (List ℕ)) → IsTail qs l r → here ≡ l ++ r → l ≡ []
no_dot here never l r [] h f = ⊎_elim (λ n. n) (λ p. absurd ((never (p.0 ++ r) (f ∙ ap (λ t. t ++ r) p.1)).1 p.0 r p.2 refl)) h
no_dot here never l r (q ∷ qs) h f =
    absurd ((never ((q ++ h.0) ++ r) (f ∙ ap (λ t. t ++ r) h.1)).0 q (h.0 ++ r) h.2 (append_assoc q h.0 r))

-- the state of the loop: done leads to here, and every tail is no longer or goes on from here
pub record Going (cs here : List ℕ) : Type 0 where
  pub done : List ℕ
  pub front : cs ≡ done ++ here
  pub on : (m r : List ℕ) → here ≡ m ++ r → IsAnyTail m r → IsAnyTail (done ++ m) r
  pub back : (l r : List ℕ) → IsAnyTail l r → cs ≡ l ++ r → (length l ≤ length done) ⊎ ((m : List ℕ) × (l ≡ done ++ m) × (here ≡ m ++ r) × IsAnyTail m r)

pub start : (cs : List ℕ) → Going cs cs
start cs = record { done = []; front = refl; on = λ m r e h. h; back = λ l r h e. inr (l, refl, e, h) }

pub conid : (cs here next rest : List ℕ) → here ≡ 46 ∷ next → IsLongest (IsName class.Large) next rest → Going cs here → Going cs rest
unfolding Parts
conid cs here next rest e q g =
    let t = q.text in
    let word : List ℕ = 46 ∷ t in
    let whole : here ≡ word ++ rest = e ∙ ap (λ z. 46 ∷ z) q.front in
    record {
      done = g.done ++ word;
      front = g.front ∙ ap (λ z. g.done ++ z) whole ∙ sym (append_assoc g.done word rest);
      on = λ m r f h.
          let n : IsName class.Large t (m ++ r) = subst (IsName class.Large t) f q.is in
          let tail : IsAnyTail (word ++ m) r = (t ∷ h.0, (m, refl, n, h.1)) in
          subst (λ z. IsAnyTail z r) (sym (append_assoc g.done word m)) (g.on (word ++ m) r (whole ∙ ap (λ z. word ++ z) f ∙ sym (append_assoc word m r)) tail);
      back = λ l r h f. ⊎_elim
          (λ le. inl (omega (arith, length-append g.done word)))
          (λ b. ⊎_elim
          (λ n. inl (omega (arith, ap length b.1, ap length n, length-append g.done b.0, length-append g.done word)))
          (λ p. inr (p.0, b.1 ∙ ap (λ z. g.done ++ z) p.1 ∙ sym (append_assoc g.done word p.0), after_word word rest p.0 r (sym whole ∙ b.2 ∙ ap (λ z. z ++ r) p.1), p.2))
          (by_conid here next rest e q b.0 r b.3.0 b.3.1 b.2))
          (g.back l r h f);
    }
  where
    after_word : (w x m r : List ℕ) → w ++ x ≡ (w ++ m) ++ r → x ≡ m ++ r
    after_word w x m r e = append_cancel_left w x (m ++ r) (e ∙ append_assoc w m r)

pub finish : (cs here : List ℕ) → ((next : List ℕ) → here ≡ 46 ∷ next → Nothing (IsName class.Large) next × Nothing IsPlain next) → Going cs here → IsLongest IsAnyTail cs here
finish cs here never g = record {
  text = g.done;
  front = g.front;
  is = subst (λ z. IsAnyTail z here) (append-nil g.done) (g.on [] here refl ([], inl refl));
  longest = λ l r h f. ⊎_elim (λ le. le)
      (λ b. omega (arith, ap length b.1, ap length (no_dot here never b.0 r b.3.0 b.3.1 b.2), length-append g.done b.0)) (g.back l r h f);
}

pub last : (cs here next rest : List ℕ) → here ≡ 46 ∷ next → Nothing (IsName class.Large) next → IsLongest IsPlain next rest → Going cs here → IsLongest IsAnyTail cs rest
last cs here next rest e never p g =
    let word : List ℕ = 46 ∷ p.text in
    let whole : here ≡ word ++ rest = e ∙ ap (λ z. 46 ∷ z) p.front in
    record {
      text = g.done ++ word;
      front = g.front ∙ ap (λ z. g.done ++ z) whole ∙ sym (append_assoc g.done word rest);
      is = g.on word rest whole ([], inr (p.text, refl, p.is));
      longest = λ l r h f. ⊎_elim
          (λ le. omega (arith, length-append g.done word))
          (λ b. ⊎_elim
          (λ n. omega (arith, ap length b.1, ap length n, length-append g.done b.0, length-append g.done word))
          (λ x. omega (arith, ap length b.1, ap length x.1, p.longest x.0 r x.2 x.3, length-append g.done b.0, length-append g.done word))
          (by_plain here next e never b.0 r b.3.0 b.3.1 b.2))
          (g.back l r h f);
    }

-- a conid and its tail
pub large_name : (cs mid rest : List ℕ) → IsLongest (IsName class.Large) cs mid → IsLongest IsAnyTail mid rest → IsLongest IsLargeName cs rest
large_name cs mid rest q t = record {
  text = q.text ++ t.text;
  front = q.front ∙ ap (λ z. q.text ++ z) t.front ∙ sym (append_assoc q.text t.text rest);
  is = (q.text, t.text, refl, subst (IsName class.Large q.text) t.front q.is, t.is);
  longest = λ l r h e.
      let whole : cs ≡ h.0 ++ (h.1 ++ r) = e ∙ ap (λ z. z ++ r) h.2 ∙ append_assoc h.0 h.1 r in
      let s = same_run part.Name q.text mid h.0 (h.1 ++ r) q.is.1.0 q.is.1.1 h.3.1.0 h.3.1.1 (sym q.front ∙ whole) in
      omega (arith, ap length h.2, ap length s.0, t.longest h.1 r h.4 s.1, length-append h.0 h.1, length-append q.text t.text);
}

pub large_none : (cs : List ℕ) → Nothing (IsName class.Large) cs → Nothing IsLargeName cs
large_none cs never l r h e = never h.0 (h.1 ++ r) h.3 (e ∙ ap (λ z. z ++ r) h.2 ∙ append_assoc h.0 h.1 r)

-- the rest is shorter
pub shrinks : (here next rest : List ℕ) → here ≡ 46 ∷ next → IsLongest (IsName class.Large) next rest → length rest < length here
shrinks here next rest e q = omega (arith, ap length e, ap length q.front, length-append q.text rest)

-- Runs.
use Rattle.std.proofs.Common.{◌≡◌, ℕ, true, false, List, [], ◌∷◌, ◌++◌, length, refl, ap, sym, ◌∙◌, subst, arith, append_assoc, length-append}
use Rattle.std.proofs.lemmas.Bool.{false≢true}
use Rattle.hs_lex.specs.declared.class.Part.{Part}
use Rattle.hs_lex.specs.Classes.{in_part}
use Rattle.hs_lex.specs.Reading.{AllIn, Ends, Runs, IsLongest}

pub all_push : (p : Part) (xs : List ℕ) (y : ℕ) → AllIn p xs → in_part p y ≡ true → AllIn p (xs ++ y ∷ [])
all_push p [] y h k = (k, tt)
all_push p (x ∷ xs) y h k = (h.0, all_push p xs y h.1 k)

-- one more character of the run
pub more : (p : Part) (cs rest next : List ℕ) (y : ℕ) → ((t : List ℕ) × (cs ≡ t ++ rest) × AllIn p t) → rest ≡ y ∷ next → in_part p y ≡ true
    → (t : List ℕ) × (cs ≡ t ++ next) × AllIn p t
more p cs rest next y h e k =
    (h.0 ++ y ∷ [], h.1 ∙ ap (λ r. h.0 ++ r) e ∙ sym (append_assoc h.0 (y ∷ []) next), all_push p h.0 y h.2 k)

pub stops : (p : Part) (cs rest next : List ℕ) (y : ℕ) → ((t : List ℕ) × (cs ≡ t ++ rest) × AllIn p t) → rest ≡ y ∷ next → in_part p y ≡ false → Runs p cs rest
stops p cs rest next y h e k = (h.0, h.1, h.2, subst (Ends p) (sym e) k)

pub at_end : (p : Part) (cs rest : List ℕ) → ((t : List ℕ) × (cs ≡ t ++ rest) × AllIn p t) → rest ≡ [] → Runs p cs rest
at_end p cs rest h e = (h.0, h.1, h.2, subst (Ends p) (sym e) tt)

-- A run is no shorter than any other text of the part that stands there, and where that one ends too, it is the run.
pub same_run : (p : Part) (l r m s : List ℕ) → AllIn p l → Ends p r → AllIn p m → Ends p s → l ++ r ≡ m ++ s → (l ≡ m) × (r ≡ s)
same_run p [] r [] s hl hr hm hs e = (refl, e)
same_run p [] r (y ∷ m) s hl hr hm hs e =
    let k : in_part p y ≡ false = subst (Ends p) e hr in
    absurd (false≢true (sym k ∙ hm.0))
same_run p (x ∷ l) r [] s hl hr hm hs e =
    let k : in_part p x ≡ false = subst (Ends p) (sym e) hs in
    absurd (false≢true (sym k ∙ hl.0))
same_run p (x ∷ l) r (y ∷ m) s hl hr hm hs e =
    let t : l ++ r ≡ m ++ s = cc in
    let h : x ≡ y = cc in
    let q = same_run p l r m s hl.1 hr hm.1 hs t in
    ((let w : x ∷ l ≡ y ∷ m = let e0 = q.0 in cc in w), q.1)

-- A text of the part is a front of the run.
pub front_of_run : (p : Part) (l r m s : List ℕ) → AllIn p l → Ends p r → AllIn p m → l ++ r ≡ m ++ s → (t : List ℕ) × (l ≡ m ++ t) × (s ≡ t ++ r)
front_of_run p l r [] s hl hr hm e = (l, refl, sym e)
front_of_run p [] r (y ∷ m) s hl hr hm e =
    let k : in_part p y ≡ false = subst (Ends p) e hr in
    absurd (false≢true (sym k ∙ hm.0))
front_of_run p (x ∷ l) r (y ∷ m) s hl hr hm e =
    let t : l ++ r ≡ m ++ s = cc in
    let h : x ≡ y = cc in
    let q = front_of_run p l r m s hl.1 hr hm.1 t in
    (q.0, (let w : x ∷ l ≡ (y ∷ m) ++ q.0 = let e0 = q.1 in cc in w), q.2)

-- A language all of whose texts are of the part: what the code took as the longest run is the longest lexeme.
pub run_is_longest : (p : Part) (L : List ℕ → List ℕ → Type 0) → ((l r : List ℕ) → L l r → AllIn p l)
    → (cs rest : List ℕ) (run : Runs p cs rest) → L run.0 rest → IsLongest L cs rest
run_is_longest p L all cs rest run is = record {
  text = run.0;
  front = run.1;
  is = is;
  longest = λ l r h e.
      let f = front_of_run p run.0 rest l r run.2 run.3 (all l r h) (sym run.1 ∙ e) in
      omega (arith, ap length f.1, length-append l f.0);
}

begins : (p : Part) (l rest next : List ℕ) (c : ℕ) → l ++ rest ≡ c ∷ next → Ends p rest → in_part p c ≡ true → (t : List ℕ) × (l ≡ c ∷ t) × (next ≡ t ++ rest)
begins p [] rest next c e ends h = absurd (false≢true (sym (let k : in_part p c ≡ false = subst (Ends p) e ends in k) ∙ h))
begins p (d ∷ l) rest next c e ends h = (l, (let k : d ∷ l ≡ c ∷ l = let q : d ≡ c = cc in cc in k), (let k : next ≡ l ++ rest = cc in k))

-- A run where a character of the part stands begins with it.
pub run_begins : (p : Part) (cs rest next : List ℕ) (c : ℕ) (run : Runs p cs rest) → cs ≡ c ∷ next → in_part p c ≡ true → (l : List ℕ) × (run.0 ≡ c ∷ l) × (next ≡ l ++ rest)
run_begins p cs rest next c run e h = begins p run.0 rest next c (sym run.1 ∙ e) run.3 h

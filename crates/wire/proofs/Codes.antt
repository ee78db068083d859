-- Codes: a kind of value, its spelling and its reading, where what is read is spelled so and what is spelled is read again.
use Rattle.std.proofs.Common.{◌≡◌, ℕ, zero, suc, ◌+◌, ◌-◌, ◌*◌, ◌/◌, ◌%◌, ◌^◌, ◌<◌, ◌≤◌, Bool, true, false, ◌&&◌, cond, List, [], ◌∷◌, ◌++◌, length, take, drop, get_or, Option, Some, None, refl, sym, ap, subst, ◌∙◌, append_assoc, arith, ◌⊎◌, inl, inr}
use Rattle.std.specs.Prelude.{nat_lt}
use Rattle.std.specs.List.{flat_map, AllByRecursion}
use Rattle.std.specs.Str.{is_utf8}
use Rattle.std.proofs.lemmas.Bool.{ltb-false, le-ltb, lt-ltb, ltb-true, cases_lt}
use Rattle.std.proofs.lemmas.List.{take_at, drop_at, take-append-drop, length-append, length-take}
use Rattle.std.proofs.lemmas.List.Concat.{flat_map-cons}
use Rattle.std.proofs.lemmas.Str.{IsUtf8-from_is_utf8, is_utf8-from_IsUtf8}
use Rattle.wire.specs.Wire.{num_from, num, IsNum, text, IsText, list_of, AreMembers}
use Rattle.wire.specs.Reading.{◌>>=◌, joined, num_from_at, byte_at, num_at, bytes_at, text_at, times, list_at}

abbrev pub IsBytes : List ℕ → Type 0
IsBytes bytes = (i : ℕ) → get_or bytes i 0 < 256

pub record IsCode {A : Type 0} (Fits : A → Type 0) (spell : A → List ℕ) (read : List ℕ → Option (A × List ℕ)) : Type 0 where
  pub takes : (bytes : List ℕ) (x : A × List ℕ) → IsBytes bytes → read bytes ≡ Some x → Fits x.0 × (bytes ≡ spell x.0 ++ x.1)
  pub again : (a : A) (rest : List ℕ) → Fits a → read (spell a ++ rest) ≡ Some (a, rest)

behind : (text rest : List ℕ) → IsBytes (text ++ rest) → IsBytes rest
behind [] rest h = h
behind (b ∷ text) rest h = behind text rest (λ i. h (suc i))

pub rest_is_bytes : (bytes text rest : List ℕ) → IsBytes bytes → bytes ≡ text ++ rest → IsBytes rest
rest_is_bytes bytes text rest h e = behind text rest (subst IsBytes e h)

-- the value of a step that found something
pub bind_some : {A B : Type 0} (r : Option A) (f : A → Option B) (y : B) → (r >>= f) ≡ Some y → (x : A) × (r ≡ Some x) × (f x ≡ Some y)
bind_some None f y e = absurd (let h : ⊥ = cc in h)
bind_some (Some x) f y e = (x, refl, e)

abbrev some : {A : Type 0} → A → Option A
some x = Some x

pub some_is : {A : Type 0} (x y : A) → some x ≡ some y → x ≡ y
some_is x y e = cc

-- a test that passed
pub tested : {A : Type 0} (b : Bool) (x y : A) → cond b (Some x) None ≡ Some y → (b ≡ true) × (x ≡ y)
tested true x y e = (refl, cc)
tested false x y e = absurd (let h : ⊥ = cc in h)

pub untested : {A : Type 0} (b : Bool) (x y : A) → cond b None (Some x) ≡ Some y → (b ≡ false) × (x ≡ y)
untested true x y e = absurd (let h : ⊥ = cc in h)
untested false x y e = (refl, cc)

-- ---- the laws of a code

-- no spelling begins another
pub no_front : {A : Type 0} {Fits : A → Type 0} {spell : A → List ℕ} {read : List ℕ → Option (A × List ℕ)} → IsCode Fits spell read
    → (a b : A) (x y : List ℕ) → Fits a → Fits b → spell a ++ x ≡ spell b ++ y → (a ≡ b) × (x ≡ y)
no_front {A = A} {read = read} code a b x y p q e =
    let s : (a, x) ≡ (b, y) = some_is (a, x) (b, y) (sym (code.again a x p) ∙ ap read e ∙ code.again b y q) in
    (ap (λ (v : A × List ℕ). v.0) s, ap (λ (v : A × List ℕ). v.1) s)

-- ---- codes from codes

-- the first field of a record, and the others behind it, which may depend on it
pub field : {A B : Type 0} {Fits : A → Type 0} {spell : A → List ℕ} {read : List ℕ → Option (A × List ℕ)} {Rest : A → B → Type 0} {tail : A → B → List ℕ} {next : A → List ℕ → Option (B × List ℕ)}
    (part : B → A) → IsCode Fits spell read → ((a : A) → Fits a → IsCode (Rest a) (tail a) (next a)) → ((a : A) (b : B) → Rest a b → part b ≡ a)
    → IsCode (λ b. Fits (part b) × Rest (part b) b) (λ b. spell (part b) ++ tail (part b) b) (λ bytes. read bytes >>= λ x. next x.0 x.1)
field {A = A} {B = B} {Fits = Fits} {spell = spell} {read = read} {Rest = Rest} {tail = tail} {next = next} part first others is = record {
  takes = λ bytes y fits e.
      let s = bind_some (read bytes) (λ x. next x.0 x.1) y e in
      let t = first.takes bytes s.0 fits s.1 in
      let u = (others s.0.0 t.0).takes s.0.1 y (rest_is_bytes bytes (spell s.0.0) s.0.1 fits t.1) s.2 in
      let p : s.0.0 ≡ part y.0 = sym (is s.0.0 y.0 u.0) in (
        subst (λ a. Fits a × Rest a y.0) p (t.0, u.0),
        t.1 ∙ ap (λ r. spell s.0.0 ++ r) u.1 ∙ sym (append_assoc (spell s.0.0) (tail s.0.0 y.0) y.1) ∙ ap (λ a. (spell a ++ tail a y.0) ++ y.1) p,
      );
  again = λ b rest fits.
      let one : (read ((spell (part b) ++ tail (part b) b) ++ rest) >>= λ x. next x.0 x.1) ≡ next (part b) (tail (part b) b ++ rest) =
      ap (λ s. read s >>= λ x. next x.0 x.1) (append_assoc (spell (part b)) (tail (part b) b) rest) ∙ ap (λ o. o >>= λ x. next x.0 x.1) (first.again (part b) (tail (part b) b ++ rest) fits.0) in
      one ∙ (others (part b) fits.0).again b rest fits.1;
}

-- the last field, from which and from the fields before it the record is made
pub last : {A B : Type 0} {Fits : A → Type 0} {spell : A → List ℕ} {read : List ℕ → Option (A × List ℕ)}
    (part : B → A) (made : A → B) → IsCode Fits spell read → ((a : A) → part (made a) ≡ a)
    → IsCode (λ b. Fits (part b) × (b ≡ made (part b))) (λ b. spell (part b)) (λ bytes. read bytes >>= λ x. Some (made x.0, x.1))
last {A = A} {B = B} {Fits = Fits} {spell = spell} {read = read} part made first is = record {
  takes = λ bytes y fits e.
      let s = bind_some (read bytes) (λ x. Some (made x.0, x.1)) y e in
      let t = first.takes bytes s.0 fits s.1 in
      let p = is s.0.0 in
      subst (λ (z : B × List ℕ). (Fits (part z.0) × (z.0 ≡ made (part z.0))) × (bytes ≡ spell (part z.0) ++ z.1)) (some_is (made s.0.0, s.0.1) y s.2)
      ((subst Fits (sym p) t.0, ap made (sym p)), t.1 ∙ ap (λ a. spell a ++ s.0.1) (sym p));
  again = λ b rest fits. ap (λ o. o >>= λ x. Some (made x.0, x.1)) (first.again (part b) rest fits.0) ∙ ap (λ c. Some (c, rest)) (sym fits.1);
}

-- what passes a test
pub guarded : {A : Type 0} {Fits : A → Type 0} {spell : A → List ℕ} {read : List ℕ → Option (A × List ℕ)} {Passes : A → Type 0}
    (test : A → Bool) → ((a : A) → test a ≡ true → Passes a) → ((a : A) → Passes a → test a ≡ true) → IsCode Fits spell read
    → IsCode (λ a. Fits a × Passes a) spell (λ bytes. read bytes >>= λ x. cond (test x.0) (Some x) None)
guarded {A = A} {Fits = Fits} {spell = spell} {read = read} {Passes = Passes} test to from code = record {
  takes = λ bytes y fits e.
      let s = bind_some (read bytes) (λ x. cond (test x.0) (Some x) None) y e in
      let g = tested (test s.0.0) s.0 y s.2 in
      let t = code.takes bytes s.0 fits s.1 in
      subst (λ (z : A × List ℕ). (Fits z.0 × Passes z.0) × (bytes ≡ spell z.0 ++ z.1)) g.1 ((t.0, to s.0.0 g.0), t.1);
  again = λ a rest fits.
      ap (λ o. o >>= λ x. cond (test x.0) (Some x) None) (code.again a rest fits.0) ∙ ap (λ b. cond b (Some (a, rest)) None) (from a fits.1);
}

-- the same kind by other words
pub by_words : {A : Type 0} {Fits : A → Type 0} {spell : A → List ℕ} {read : List ℕ → Option (A × List ℕ)} {Also : A → Type 0}
    → ((a : A) → Fits a → Also a) → ((a : A) → Also a → Fits a) → IsCode Fits spell read → IsCode Also spell read
by_words to from code = record {
  takes = λ bytes x fits e. let t = code.takes bytes x fits e in (to x.0 t.0, t.1);
  again = λ a rest fits. code.again a rest (from a fits);
}

-- the same reading by other words
pub read_alike : {A : Type 0} {Fits : A → Type 0} {spell : A → List ℕ} {read also : List ℕ → Option (A × List ℕ)} → ((bytes : List ℕ) → also bytes ≡ read bytes) → IsCode Fits spell read → IsCode Fits spell also
read_alike {spell = spell} same code = record {
  takes = λ bytes x fits e. code.takes bytes x fits (sym (same bytes) ∙ e);
  again = λ a rest fits. same (spell a ++ rest) ∙ code.again a rest fits;
}

regroup : {A B C : Type 0} (f : A → Option B) (g : B → Option C) (r : Option A) → (r >>= λ x. f x >>= g) ≡ ((r >>= f) >>= g)
regroup f g None = refl
regroup f g (Some x) = refl

-- ---- lists

module _ {A : Type 0} {Fits : A → Type 0} {spell : A → List ℕ} {read : List ℕ → Option (A × List ℕ)} (code : IsCode Fits spell read) where
  times_take : (n : ℕ) (bytes : List ℕ) (x : List A × List ℕ) → IsBytes bytes → times read n bytes ≡ Some x
      → AllByRecursion Fits x.0 × (length x.0 ≡ n) × (bytes ≡ flat_map spell x.0 ++ x.1)
  unfolding times
  times_take zero bytes x fits e =
      let is : ([], bytes) ≡ x = some_is ([], bytes) x e in
      subst (λ (y : List A × List ℕ). AllByRecursion Fits y.0 × (length y.0 ≡ 0) × (bytes ≡ flat_map spell y.0 ++ y.1)) is (tt, refl, refl)
  times_take (suc n) bytes x fits e =
      let a = bind_some (read bytes) (λ y. times read n y.1 >>= λ ys. Some (y.0 ∷ ys.0, ys.1)) x e in
      let b = bind_some (times read n a.0.1) (λ ys. Some (a.0.0 ∷ ys.0, ys.1)) x a.2 in
      let one = code.takes bytes a.0 fits a.1 in
      let more = times_take n a.0.1 b.0 (rest_is_bytes bytes (spell a.0.0) a.0.1 fits one.1) b.1 in
      let is : (a.0.0 ∷ b.0.0, b.0.1) ≡ x = some_is (a.0.0 ∷ b.0.0, b.0.1) x b.2 in
      let whole : bytes ≡ flat_map spell (a.0.0 ∷ b.0.0) ++ b.0.1 =
      one.1 ∙ ap (λ r. spell a.0.0 ++ r) more.2 ∙ sym (append_assoc (spell a.0.0) (flat_map spell b.0.0) b.0.1) ∙ ap (λ r. r ++ b.0.1) (sym (flat_map-cons spell a.0.0 b.0.0)) in
      subst (λ (y : List A × List ℕ). AllByRecursion Fits y.0 × (length y.0 ≡ suc n) × (bytes ≡ flat_map spell y.0 ++ y.1)) is ((one.0, more.0), ap suc more.1, whole)

  times_again : (xs : List A) (rest : List ℕ) → AllByRecursion Fits xs → times read (length xs) (flat_map spell xs ++ rest) ≡ Some (xs, rest)
  unfolding times
  times_again [] rest fits = refl
  times_again (x ∷ xs) rest fits =
      let regrouped : flat_map spell (x ∷ xs) ++ rest ≡ spell x ++ (flat_map spell xs ++ rest) =
      ap (λ r. r ++ rest) (flat_map-cons spell x xs) ∙ append_assoc (spell x) (flat_map spell xs) rest in
      ap (times read (suc (length xs))) regrouped
      ∙ ap (λ o. o >>= λ y. times read (length xs) y.1 >>= λ ys. Some (y.0 ∷ ys.0, ys.1)) (code.again x (flat_map spell xs ++ rest) fits.0)
      ∙ ap (λ o. o >>= λ ys. Some (x ∷ ys.0, ys.1)) (times_again xs rest fits.1)

  -- so many
  pub counted : (n : ℕ) → IsCode (λ xs. AllByRecursion Fits xs × (length xs ≡ n)) (flat_map spell) (times read n)
  counted n = record {
    takes = λ bytes x fits e. let t = times_take n bytes x fits e in ((t.0, t.1), t.2);
    again = λ xs rest fits. subst (λ k. times read k (flat_map spell xs ++ rest) ≡ Some (xs, rest)) fits.1 (times_again xs rest fits.0);
  }

same_list_at : {A : Type 0} (read : List ℕ → Option (A × List ℕ)) (bytes : List ℕ) → list_at read bytes ≡ (num_at bytes >>= λ n. times read n.0 n.1)
unfolding list_at
same_list_at read bytes = refl

-- ---- numbers

-- what has at most so many bytes more
abbrev room : ℕ → ℕ
room zero = 128
room (suc more) = 128 * room more

room_is : (more : ℕ) → room (suc more) ≡ 128 * room more
room_is more = refl

-- which way a choice went
pub chosen : {A : Type 0} (b : Bool) (x y z : A) → cond b x y ≡ z → ((b ≡ true) × (x ≡ z)) ⊎ ((b ≡ false) × (y ≡ z))
chosen true x y z e = inl (refl, e)
chosen false x y z e = inr (refl, e)

pub both_true : (a b : Bool) → (a && b) ≡ true → (a ≡ true) × (b ≡ true)
both_true true b e = (refl, e)
both_true false b e = absurd (let h : ⊥ = cc in h)

num_takes : (more : ℕ) (bytes : List ℕ) (x : ℕ × List ℕ) → IsBytes bytes → num_from_at more bytes ≡ Some x → (x.0 < 2 ^ 32) × (bytes ≡ num_from more x.0 ++ x.1)
unfolding num_from_at byte_at
num_takes zero [] x fits e = absurd (let h : ⊥ = cc in h)
num_takes (suc more) [] x fits e = absurd (let h : ⊥ = cc in h)
num_takes zero (b ∷ rest) x fits e =
    let g = tested (nat_lt b 128) (b, rest) x e in
    let low : b < 128 = ltb-true b 128 g.0 in
    subst (λ (y : ℕ × List ℕ). (y.0 < 2 ^ 32) × (b ∷ rest ≡ num_from zero y.0 ++ y.1)) g.1 (omega (arith, low), refl)
num_takes (suc more) (b ∷ rest) x fits e =
    elim (chosen (nat_lt b 128) (some (b, rest)) (num_from_at more rest >>= joined b) (Some x) e) [
      | inl c ↦
          let low : b < 128 = ltb-true b 128 c.0 in
          let spelled : b ∷ rest ≡ num_from (suc more) b ++ rest = rw c.0 refl in
          subst (λ (y : ℕ × List ℕ). (y.0 < 2 ^ 32) × (b ∷ rest ≡ num_from (suc more) y.0 ++ y.1)) (some_is (b, rest) x c.1) (omega (arith, low), spelled)
      | inr c ↦
          let s = bind_some (num_from_at more rest) (joined b) x c.1 in
          let g = tested (nat_lt 0 s.0.0 && nat_lt s.0.0 33554432) (b - 128 + 128 * s.0.0, s.0.1) x s.2 in
          let t = both_true (nat_lt 0 s.0.0) (nat_lt s.0.0 33554432) g.0 in
          let least : 0 < s.0.0 = ltb-true 0 s.0.0 t.0 in
          let most : s.0.0 < 33554432 = ltb-true s.0.0 33554432 t.1 in
          let high : 128 ≤ b = ltb-false b 128 c.0 in
          let byte : b < 256 = fits 0 in
          let inner = num_takes more rest s.0 (λ i. fits (suc i)) s.1 in
          let n : ℕ = b - 128 + 128 * s.0.0 in
          let long : nat_lt n 128 ≡ false = le-ltb n 128 (omega (arith, least)) in
          let low_is : n % 128 + 128 ≡ b = omega (arith, high, byte) in
          let high_is : n / 128 ≡ s.0.0 = omega (arith, high, byte) in
          let spelled : b ∷ rest ≡ num_from (suc more) n ++ s.0.1 = rw (long, low_is, high_is) (ap (λ (r : List ℕ). b ∷ r) inner.1) in
          subst (λ (y : ℕ × List ℕ). (y.0 < 2 ^ 32) × (b ∷ rest ≡ num_from (suc more) y.0 ++ y.1)) g.1 (omega (arith, most, byte), spelled)
    ]

num_again : (more n : ℕ) (rest : List ℕ) → n < 2 ^ 32 → n < room more → num_from_at more (num_from more n ++ rest) ≡ Some (n, rest)
unfolding num_from_at byte_at
num_again zero n rest h k = rw (lt-ltb n 128 k) refl
num_again (suc more) n rest h k =
    elim (cases_lt n 128) [
      | inl low ↦ rw (lt-ltb n 128 low, lt-ltb n 128 low) refl
      | inr high ↦
          let first : nat_lt (n % 128 + 128) 128 ≡ false = le-ltb (n % 128 + 128) 128 (omega arith) in
          let fits : n / 128 < room more = omega (arith, k, room_is more) in
          let more_is : num_from_at more (num_from more (n / 128) ++ rest) ≡ Some (n / 128, rest) = num_again more (n / 128) rest (omega (arith, h)) fits in
          let least : nat_lt 0 (n / 128) ≡ true = lt-ltb 0 (n / 128) (omega (arith, high)) in
          let most : nat_lt (n / 128) 33554432 ≡ true = lt-ltb (n / 128) 33554432 (omega (arith, h)) in
          let whole : n % 128 + 128 - 128 + 128 * (n / 128) ≡ n = omega arith in
          rw (le-ltb n 128 high, first, more_is, least, most, whole) refl
    ]

pub num_code : IsCode IsNum num num_at
num_code = record {
  takes = λ bytes x fits e. num_takes 4 bytes x fits e;
  again = λ n rest fits. num_again 4 n rest fits (omega (arith, fits));
}

-- ---- bytes and texts

byte_takes : (bytes : List ℕ) (x : ℕ × List ℕ) → IsBytes bytes → byte_at bytes ≡ Some x → (x.0 < 256) × (bytes ≡ x.0 ∷ x.1)
unfolding byte_at
byte_takes [] x fits e = absurd (let h : ⊥ = cc in h)
byte_takes (b ∷ rest) x fits e =
    subst (λ (y : ℕ × List ℕ). (y.0 < 256) × (b ∷ rest ≡ y.0 ∷ y.1)) (some_is (b, rest) x e) (fits 0, refl)

byte_again : (b : ℕ) (rest : List ℕ) → byte_at (b ∷ rest) ≡ Some (b, rest)
unfolding byte_at
byte_again b rest = refl

pub byte_code : IsCode (λ b. b < 256) (λ b. b ∷ []) byte_at
byte_code = record { takes = λ bytes x fits e. byte_takes bytes x fits e; again = λ b rest fits. byte_again b rest }

bytes_take : (n : ℕ) (bytes : List ℕ) (x : List ℕ × List ℕ) → bytes_at n bytes ≡ Some x → (length x.0 ≡ n) × (bytes ≡ x.0 ++ x.1)
unfolding bytes_at
bytes_take n bytes x e =
    let g = untested (nat_lt (length bytes) n) (take n bytes, drop n bytes) x e in
    let long : n ≤ length bytes = ltb-false _ _ g.0 in
    subst (λ (y : List ℕ × List ℕ). (length y.0 ≡ n) × (bytes ≡ y.0 ++ y.1)) g.1 (omega (arith, length-take n bytes), sym (take-append-drop n bytes))

bytes_again : (n : ℕ) (bytes rest : List ℕ) → length bytes ≡ n → bytes_at n (bytes ++ rest) ≡ Some (bytes, rest)
unfolding bytes_at
bytes_again n bytes rest e =
    let long : nat_lt (length (bytes ++ rest)) n ≡ false = le-ltb _ _ (omega (arith, length-append bytes rest)) in
    rw (long, take_at bytes rest n e, drop_at bytes rest n e) refl

pub bytes_code : (n : ℕ) → IsCode (λ bytes. length bytes ≡ n) (λ bytes. bytes) (bytes_at n)
bytes_code n = record { takes = λ bytes x fits e. bytes_take n bytes x e; again = λ bytes rest fits. bytes_again n bytes rest fits }

-- a length and so many bytes
sized : IsCode (λ bytes. IsNum (length bytes) × (length bytes ≡ length bytes)) text (λ bytes. num_at bytes >>= λ n. bytes_at n.0 n.1)
sized = field (λ bytes. length bytes) num_code (λ n fits. bytes_code n) (λ n bytes e. e)

same_text_at : (bytes : List ℕ) → text_at bytes ≡ ((num_at bytes >>= λ n. bytes_at n.0 n.1) >>= λ t. cond (is_utf8 t.0) (Some t) None)
unfolding text_at
same_text_at bytes = regroup (λ n. bytes_at n.0 n.1) (λ t. cond (is_utf8 t.0) (Some t) None) (num_at bytes)

pub text_code : IsCode IsText text text_at
text_code = read_alike same_text_at (by_words (λ t p. (p.0.0, p.1)) (λ t p. ((p.0, refl), p.1)) (guarded is_utf8 IsUtf8-from_is_utf8 is_utf8-from_IsUtf8 sized))

pub list_code : {A : Type 0} {Fits : A → Type 0} {spell : A → List ℕ} {read : List ℕ → Option (A × List ℕ)} → IsCode Fits spell read → IsCode (AreMembers Fits) (list_of spell) (list_at read)
list_code {A = A} {Fits = Fits} {spell = spell} {read = read} code = by_words (λ xs p. (p.0, p.1.0)) (λ xs p. (p.0, (p.1, refl))) (read_alike (same_list_at read) (field (λ xs. length xs) num_code (λ n fits. counted code n) (λ n xs p. p.1)))

-- Sized bytes and files.
use Rattle.std.proofs.Common.{◌≡◌, ℕ, ◌≤◌, List, [], ◌++◌, length, refl, arith, ◌⊎◌, inl, inr, ◌<◌, ◌+◌}
use Rattle.std.proofs.lemmas.List.{length-replicate}
use Rattle.std.proofs.Math.ListN.{replicate}
use Rattle.std.specs.Fmt.{decimal}
use Rattle.std.proofs.Math.Nat.{eq-or-lt_of_le}
use denote.Bor.{Bor}
use Rattle.session_lang.specs.declared.front.Front.{Front}
use Rattle.session_lang.specs.declared.front.Front.TheVariants.{Whole, More, Bad}
use Rattle.session_lang.specs.Front.{Tells, either_of}
use Rattle.session_lang.specs.Spelling.{Said, Put, Flags, Build, Quit, Del, IsPath, IsCommand, spelling, line, spaced}
use Rattle.session_lang.specs.Meant.{form}
use Rattle.session_lang.proofs.Laws.{path_free, number_free}
use Rattle.session_lang.proofs.Seq as seq

abbrev IsLen : ℕ → Type 0
IsLen n = (0 ≤ n) × (n ≤ 1048576)

abbrev pub IsBody : List ℕ → Type 0
IsBody body = length body ≤ 1048576

abbrev len_line : ℕ → List ℕ
len_line n = line (decimal n)

abbrev pub sized : List ℕ → List ℕ
sized body = line (decimal (length body)) ++ line body

len_free : (a c : ℕ) (x y : List ℕ) → IsLen a → IsLen c → len_line a ++ x ≡ len_line c ++ y → (a ≡ c) × (x ≡ y)
len_free a c x y p q e = number_free 10 (omega arith) a c x y (omega (arith, p.1)) (omega (arith, q.1)) e

pub then_body : (bytes rest : List ℕ) (n : ℕ) → IsLen n → bytes ≡ len_line n ++ rest → (r : Front (Bor (List ℕ))) → Tells (λ (b : List ℕ). length b ≡ n) line (λ b. b.now) rest r → Tells IsBody sized (λ b. b.now) bytes r
then_body bytes rest n ok front (Whole a last) h =
    (omega (arith, h.0, ok.1), seq.second_whole ℕ (List ℕ) IsLen len_line IsBody line length bytes rest last.now n a.now front h.0 h.1)
then_body bytes rest n ok front More h =
    seq.second_more ℕ (List ℕ) IsLen len_line IsBody line length bytes rest n front (h.0, h.1, omega (arith, h.2, ok.1), h.2, h.3, h.4)
then_body bytes rest n ok front Bad h =
    seq.second_bad ℕ (List ℕ) IsLen len_line IsBody line length (λ b w. (omega arith, w)) len_free bytes rest n ok front (λ b more last w same e. h b more last same e)

pub no_len : (bytes : List ℕ) → ((n : ℕ) × (more : List ℕ) × IsLen n × (more ≡ [] → ⊥) × (bytes ++ more ≡ len_line n)) → (b : List ℕ) × (more : List ℕ) × IsBody b × (more ≡ [] → ⊥) × (bytes ++ more ≡ sized b)
no_len bytes h =
    seq.first_more ℕ (List ℕ) IsLen len_line IsBody line length
    (λ n ok. let l : length (replicate n 0) ≡ n = length-replicate n 0 in (replicate n 0, omega (arith, ok.1, l), l)) bytes h

abbrev File : Type 0
File = List ℕ × List ℕ

abbrev IsFile : File → Type 0
IsFile f = IsPath f.0 × IsBody f.1

abbrev after_path : File → List ℕ
after_path f = sized f.1

abbrev path_of : File → List ℕ
path_of f = f.0

abbrev file : File → List ℕ
file f = spaced f.0 ++ sized f.1

word_free : (a c x y : List ℕ) → IsPath a → IsPath c → spaced a ++ x ≡ spaced c ++ y → (a ≡ c) × (x ≡ y)
word_free a c x y p q e = path_free 32 (omega arith) a c x y p q e

pub file_whole : (bytes rest last path body : List ℕ) → bytes ≡ spaced path ++ rest → rest ≡ sized body ++ last → bytes ≡ file (path, body) ++ last
file_whole bytes rest last path body front back = seq.second_whole (List ℕ) File IsPath spaced IsFile after_path path_of bytes rest last path (path, body) front refl back

pub file_more : (bytes rest path : List ℕ) → IsPath path → bytes ≡ spaced path ++ rest → ((b : List ℕ) × (more : List ℕ) × IsBody b × (more ≡ [] → ⊥) × (rest ++ more ≡ sized b))
    → (f : File) × (more : List ℕ) × IsFile f × (more ≡ [] → ⊥) × (bytes ++ more ≡ file f)
file_more bytes rest path ok front h = seq.second_more (List ℕ) File IsPath spaced IsFile after_path path_of bytes rest path front ((path, h.0), h.1, (ok, h.2), refl, h.3, h.4)

pub file_bad : (bytes rest path : List ℕ) → IsPath path → bytes ≡ spaced path ++ rest → ((b : List ℕ) (more last : List ℕ) → IsBody b → rest ++ more ≡ sized b ++ last → ⊥)
    → (f : File) (more last : List ℕ) → IsFile f → bytes ++ more ≡ file f ++ last → ⊥
file_bad bytes rest path ok front h =
    seq.second_bad (List ℕ) File IsPath spaced IsFile after_path path_of (λ f w. w.0) word_free bytes rest path ok front (λ f more last w same e. h f.1 more last w.1 e)

pub path_more : (bytes : List ℕ) → ((p : List ℕ) × (more : List ℕ) × IsPath p × (more ≡ [] → ⊥) × (bytes ++ more ≡ spaced p)) → (f : File) × (more : List ℕ) × IsFile f × (more ≡ [] → ⊥) × (bytes ++ more ≡ file f)
path_more bytes h = seq.first_more (List ℕ) File IsPath spaced IsFile after_path path_of (λ p ok. ((p, []), (ok, omega arith), refl)) bytes h

pub path_bad : (bytes : List ℕ) → ((p : List ℕ) (more rest : List ℕ) → IsPath p → bytes ++ more ≡ spaced p ++ rest → ⊥) → (f : File) (more last : List ℕ) → IsFile f → bytes ++ more ≡ file f ++ last → ⊥
path_bad bytes h = seq.first_bad (List ℕ) File IsPath spaced IsFile after_path path_of (λ f w. w.0) bytes h

-- of two answers
module _ {A T : Type 0} (V W : A → Type 0) (spell : A → List ℕ) (view : T → A) (bytes : List ℕ) where
  pub either_tells : (r q : Front T) → Tells V spell view bytes r → Tells W spell view bytes q → Tells (λ a. V a ⊎ W a) spell view bytes (either_of r q)
  either_tells (Whole a rest) q h g = (inl h.0, h.1)
  either_tells More (Whole a rest) h g = (inr g.0, g.1)
  either_tells More More h g = (h.0, h.1, inl h.2, h.3, h.4)
  either_tells More Bad h g = (h.0, h.1, inl h.2, h.3, h.4)
  either_tells Bad (Whole a rest) h g = (inr g.0, g.1)
  either_tells Bad More h g = (g.0, g.1, inr g.2, g.3, g.4)
  either_tells Bad Bad h g = λ a more rest ok e. elim ok [ inl v ↦ h a more rest v e | inr w ↦ g a more rest w e ]

  pub weaken : ((a : A) → V a → W a) → ((a : A) → W a → V a) → (r : Front T) → Tells V spell view bytes r → Tells W spell view bytes r
  weaken to from (Whole a rest) h = (to (view a) h.0, h.1)
  weaken to from More h = (h.0, h.1, to h.0 h.2, h.3, h.4)
  weaken to from Bad h = λ a more rest ok e. h a more rest (from a ok) e

-- the commands of the first n forms
abbrev pub Below : ℕ → Said → Type 0
Below n c = IsCommand c × (form c < n)

abbrev pub OfForm : ℕ → Said → Type 0
OfForm n c = IsCommand c × (form c ≡ n)

lt_or_eq : (m n : ℕ) → m < n + 1 → (m < n) ⊎ (m ≡ n)
lt_or_eq m n h = elim (eq-or-lt_of_le {n = m} {m = n} (omega (arith, h))) [ inl e ↦ inr e | inr l ↦ inl l ]

form_below : (c : Said) → form c < 5
form_below (Put path body) = omega arith
form_below (Flags words) = omega arith
form_below (Build n) = omega arith
form_below Quit = omega arith
form_below (Del path) = omega arith

module _ {T : Type 0} (view : T → Said) (bytes : List ℕ) where
  -- one form more
  pub and_form : (n : ℕ) (both r q : Front T) → both ≡ either_of r q → Tells (Below n) spelling view bytes r → Tells (OfForm n) spelling view bytes q → Tells (Below (n + 1)) spelling view bytes both
  and_form n both r q e h g =
      rw e
      (weaken (λ c. Below n c ⊎ OfForm n c) (Below (n + 1)) spelling view bytes
      (λ c v. elim v [ inl a ↦ (a.0, omega (arith, a.1)) | inr a ↦ (a.0, omega (arith, a.1)) ])
      (λ c v. elim (lt_or_eq (form c) n v.1) [ inl a ↦ inl (v.0, a) | inr a ↦ inr (v.0, a) ])
      (either_of r q) (either_tells (Below n) (OfForm n) spelling view bytes r q h g))

  pub first_form : (r : Front T) → Tells (OfForm 0) spelling view bytes r → Tells (Below 1) spelling view bytes r
  first_form r h = weaken (OfForm 0) (Below 1) spelling view bytes (λ c v. (v.0, omega (arith, v.1))) (λ c v. (v.0, omega (arith, v.1))) r h

  pub all_forms : (r : Front T) → Tells (Below 5) spelling view bytes r → Tells IsCommand spelling view bytes r
  all_forms r h = weaken (Below 5) IsCommand spelling view bytes (λ c v. v.0) (λ c v. (v, form_below c)) r h

-- No spelling begins another.
use Rattle.std.proofs.Common.{◌≡◌, ℕ, ◌<◌, ◌≤◌, ◌^◌, ◌+◌, ◌*◌, List, [], ◌∷◌, ◌++◌, length, get_or, refl, ap, sym, ◌∙◌, arith, append_assoc}
use Rattle.std.specs.Fmt.{decimal}
use Rattle.std.proofs.lemmas.Fmt.{digits_decimal, digits_value-decimal}
use Rattle.session_lang.specs.Numbers.{IsDigitByte, value_on}
use Rattle.session_lang.specs.Spelling.{Said, Put, Flags, Build, Quit, Del, IsCommand, IsPath, IsFlagWords, IsWordByte, spelling, line, spaced}
use Rattle.session_lang.proofs.Split.{ends, same_len}
use Rattle.session_lang.proofs.Numbers.{own}
use Rattle.session_lang.proofs.Words.{IsTextByte, all_text}

pub path_free : (stop : ℕ) → stop ≤ 32 → (a b x y : List ℕ) → IsPath a → IsPath b → (a ++ stop ∷ []) ++ x ≡ (b ++ stop ∷ []) ++ y → (a ≡ b) × (x ≡ y)
path_free stop low a b x y p q e =
    let out = λ (h : IsWordByte stop). let k : ⊥ = omega (arith, h.0) in k in
    let s = ends IsWordByte stop stop out out a b x y p.2 q.2 (sym (append_assoc a (stop ∷ []) x) ∙ e ∙ append_assoc b (stop ∷ []) y) in
    (sym s.0, s.2)

pub number_free : (stop : ℕ) → stop ≤ 32 → (m n : ℕ) (x y : List ℕ) → m < 2 ^ 64 → n < 2 ^ 64 → (decimal m ++ stop ∷ []) ++ x ≡ (decimal n ++ stop ∷ []) ++ y → (m ≡ n) × (x ≡ y)
number_free stop low m n x y p q e =
    let out = λ (h : IsDigitByte stop). let k : ⊥ = omega (arith, h.0) in k in
    let s = ends IsDigitByte stop stop out out (decimal m) (decimal n) x y (digits_decimal own m p) (digits_decimal own n q) (sym (append_assoc (decimal m) (stop ∷ []) x) ∙ e ∙ append_assoc (decimal n) (stop ∷ []) y) in
    (sym (digits_value-decimal own m p) ∙ ap (value_on 0) (sym s.0) ∙ digits_value-decimal own n q, s.2)

pub sized_free : (a b x y : List ℕ) → length a ≤ 1048576 → length b ≤ 1048576 → (line (decimal (length a)) ++ line a) ++ x ≡ (line (decimal (length b)) ++ line b) ++ y → (a ≡ b) × (x ≡ y)
sized_free a b x y p q e =
    let s = number_free 10 (omega arith) (length a) (length b) (line a ++ x) (line b ++ y) (omega arith) (omega arith)
    (sym (append_assoc (line (decimal (length a))) (line a) x) ∙ e ∙ append_assoc (line (decimal (length b))) (line b) y) in
    let t = same_len a b (10 ∷ x) (10 ∷ y) s.0 (sym (append_assoc a (10 ∷ []) x) ∙ s.1 ∙ append_assoc b (10 ∷ []) y) in
    (t.0, (let k : x ≡ y = cc in k))

pub flags_free : (a b x y : List ℕ) → IsFlagWords a → IsFlagWords b → line a ++ x ≡ line b ++ y → (a ≡ b) × (x ≡ y)
flags_free a b x y p q e =
    let out = λ (h : IsTextByte 10). let k : ⊥ = omega (arith, h) in k in
    let s = ends IsTextByte 10 10 out out a b x y (all_text a p) (all_text b q) (sym (append_assoc a (10 ∷ []) x) ∙ e ∙ append_assoc b (10 ∷ []) y) in
    (sym s.0, s.2)

-- the two bytes that tell a command from the others
abbrev initial : Said → ℕ
initial (Put path body) = 112 * 256 + 117
initial (Flags words) = 102 * 256 + 108
initial (Build n) = 98 * 256 + 117
initial Quit = 113 * 256 + 117
initial (Del path) = 100 * 256 + 101

pub free : (c d : Said) (x y : List ℕ) → IsCommand c → IsCommand d → spelling c ++ x ≡ spelling d ++ y → (c ≡ d) × (x ≡ y)
free (Put a b) (Put c d) x y p q e =
    let f : (spaced a ++ (line (decimal (length b)) ++ line b)) ++ x ≡ (spaced c ++ (line (decimal (length d)) ++ line d)) ++ y = cc in
    let s = path_free 32 (omega arith) a c ((line (decimal (length b)) ++ line b) ++ x) ((line (decimal (length d)) ++ line d) ++ y) p.0 q.0
    (sym (append_assoc (spaced a) (line (decimal (length b)) ++ line b) x) ∙ f ∙ append_assoc (spaced c) (line (decimal (length d)) ++ line d) y) in
    let t = sized_free b d x y p.1 q.1 s.1 in
    ((let h : a ≡ c = s.0 in let g : b ≡ d = t.0 in let k : Put a b ≡ Put c d = cc in k), t.1)
free (Flags a) (Flags b) x y p q e =
    let f : line a ++ x ≡ line b ++ y = cc in
    let s = flags_free a b x y p q f in (ap Flags s.0, s.1)
free (Build m) (Build n) x y p q e =
    let f : line (decimal m) ++ x ≡ line (decimal n) ++ y = cc in
    let s = number_free 10 (omega arith) m n x y (omega (arith, p)) (omega (arith, q)) f in (ap Build s.0, s.1)
free Quit Quit x y p q e = (refl, (let k : x ≡ y = cc in k))
free (Del a) (Del b) x y p q e =
    let f : line a ++ x ≡ line b ++ y = cc in
    let s = path_free 10 (omega arith) a b x y p q f in (ap Del s.0, s.1)
free c d x y p q e = let h : initial c ≡ initial d = ap (λ s. get_or s 0 0 * 256 + get_or s 1 0) e in absurd (omega arith)

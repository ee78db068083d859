-- Where the parts of a command stand in its spelling.
use Rattle.std.proofs.Common.{◌≡◌, ℕ, ◌+◌, ◌-◌, List, [], ◌∷◌, ◌++◌, length, codes, take, drop, refl, ap, sym, ◌∙◌, arith, append_assoc, length-append}
use Rattle.std.specs.List.{slice_range}
use Rattle.std.specs.Fmt.{decimal}
use Rattle.std.proofs.lemmas.List.{append-nil}
use Rattle.std.proofs.Math.Seq.{take-append_seam, drop-append_seam}
use Rattle.session_lang.specs.Spelling.{Said, Put, spelling, line, spaced}

-- what stands between a front and a rest
pub between : (a b d : List ℕ) (start end : ℕ) → start ≡ length a → end ≡ start + length b → slice_range (a ++ (b ++ d)) start end ≡ b
between a b d start end s e =
    let front : drop start (a ++ (b ++ d)) ≡ b ++ d = ap (λ k. drop k (a ++ (b ++ d))) s ∙ drop-append_seam a (b ++ d) in
    let many : end - start ≡ length b = omega (arith, e) in
    ap (λ k. take k (drop start (a ++ (b ++ d)))) many ∙ ap (take (length b)) front ∙ take-append_seam b d

-- a part of a text that is parted otherwise
pub within_text : (text a b d : List ℕ) (start end : ℕ) → text ≡ a ++ (b ++ d) → start ≡ length a → end ≡ start + length b → slice_range text start end ≡ b
within_text text a b d start end t s e = ap (λ x. slice_range x start end) t ∙ between a b d start end s e

put_path : (path body rest : List ℕ) → slice_range (spelling (Put path body) ++ rest) 4 (4 + length path) ≡ path
put_path path body rest =
    let after = line (decimal (length body)) ++ line body in
    within_text (spelling (Put path body) ++ rest) (codes "put ") path (32 ∷ (after ++ rest)) 4 (4 + length path)
    (ap (λ x. codes "put " ++ x) (append_assoc (spaced path) after rest ∙ append_assoc path (32 ∷ []) (after ++ rest))) refl refl

-- what stands in front of a body
abbrev before_body : (path body : List ℕ) → List ℕ
before_body path body = codes "put " ++ (spaced path ++ line (decimal (length body)))

body_in : (path body rest : List ℕ) → spelling (Put path body) ++ rest ≡ before_body path body ++ (body ++ 10 ∷ rest)
body_in path body rest =
    let len = line (decimal (length body)) in
    ap (λ x. codes "put " ++ x)
    (append_assoc (spaced path) (len ++ line body) rest ∙ ap (λ x. spaced path ++ x) (append_assoc len (line body) rest ∙ ap (λ x. len ++ x) (append_assoc body (10 ∷ []) rest)) ∙ sym (append_assoc (spaced path) len (body ++ 10 ∷ rest)))

put_body : (path body rest : List ℕ) (used : ℕ) → used ≡ length (spelling (Put path body)) → slice_range (spelling (Put path body) ++ rest) (used - 1 - length body) (used - 1) ≡ body
put_body path body rest used u =
    let front = before_body path body in
    let whole : used ≡ length front + (length body + 1) =
    u ∙ ap length (sym (append-nil (spelling (Put path body))) ∙ body_in path body []) ∙ length-append front (body ++ 10 ∷ []) ∙ ap (λ n. length front + n) (length-append body (10 ∷ [])) in
    within_text (spelling (Put path body) ++ rest) front body (10 ∷ rest) (used - 1 - length body) (used - 1) (body_in path body rest) (omega (arith, whole)) (omega (arith, whole))

pub put_says : (c : Said) (path body rest : List ℕ) (used : ℕ) → c ≡ Put path body → used ≡ length (spelling c)
    → Put (slice_range (spelling c ++ rest) 4 (4 + length path)) (slice_range (spelling c ++ rest) (used - 1 - length body) (used - 1)) ≡ c
put_says c path body rest used is u =
    rw is
    (ap (λ p. Put p (slice_range (spelling (Put path body) ++ rest) (used - 1 - length body) (used - 1))) (put_path path body rest)
    ∙ ap (λ b. Put path b) (put_body path body rest used (u ∙ ap (λ d. length (spelling d)) is)))

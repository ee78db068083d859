-- How many bytes characters take, and that well-formed ones are their bytes.
use Rattle.std.specs.Prelude.{◌==◌, encode_utf8, encode_utf8_all}
use Rattle.std.specs.Char.{IsScalar}
use Rattle.std.proofs.Common.{◌≡◌, ◌≢◌, ◌⊎◌, inl, inr, ⊎_elim, ℕ, zero, suc, ◌+◌, ◌-◌, ◌<◌, ◌≤◌, false, List, [], ◌∷◌, ◌++◌, length, take, drop, Some, None, refl, ap, sym, ◌∙◌, subst, arith, length-drop, length-append, append_assoc}
use Rattle.std.specs.declared.option.Option.{Option}
use Rattle.std.proofs.lemmas.List.{drop-drop, take-append-drop}
use Rattle.std.proofs.lemmas.Bool.{cond-false, eqb-true, cases_Bool, false≢true}
use Rattle.bstr.specs.Utf8.{Decoded, decoded}
use Rattle.bstr.proofs.lemmas.EncodeLemmas.{decoded-encode}
use Rattle.bstr.proofs.lemmas.PieceLemmas.{piece-bounds}
use Rattle.bstr.proofs.lemmas.SoundLemmas.{SpellsChar-decoded}
use Rattle.source_text.specs.Characters.{characters, no_character, AllCharacters, width, span}
use Rattle.source_text.proofs.Characters.{good, bad, none}

-- the first character of some bytes, with its own bytes
IsGood : List ℕ → ℕ → List ℕ → Type 0
IsGood bs c rest = (bs ≡ encode_utf8 c ++ rest) × (characters bs ≡ c ∷ characters rest) × (0 < length (encode_utf8 c)) × (c ≢ no_character) × IsScalar c

IsBad : List ℕ → List ℕ → Type 0
IsBad bs rest = (length bs ≡ 1 + length rest) × (characters bs ≡ no_character ∷ characters rest) × ((n : ℕ) → drop (1 + n) bs ≡ drop n rest)

not_none : (c : ℕ) → IsScalar c → c ≢ no_character
not_none c h e = absurd (let k : IsScalar no_character = subst IsScalar e h in false≢true k)

first_by : (bs : List ℕ) (o : Option ℕ) → 0 < length bs → (decoded bs).char ≡ o → ((c : ℕ) × (rest : List ℕ) × IsGood bs c rest) ⊎ ((rest : List ℕ) × IsBad bs rest)
unfolding IsGood IsBad
first_by bs (Some c) h e =
    let s = SpellsChar-decoded bs c e in
    inl (c, drop (decoded bs).size bs, (s.bytes, good bs c h e, omega (arith, s.width, (piece-bounds bs h).0), not_none c s.scalar, s.scalar))
first_by bs None h e = inr (drop 1 bs, (omega (arith, length-drop 1 bs), bad bs h e, λ n. sym (drop-drop n 1 bs)))

first : (bs : List ℕ) → 0 < length bs → ((c : ℕ) × (rest : List ℕ) × IsGood bs c rest) ⊎ ((rest : List ℕ) × IsBad bs rest)
first bs h = first_by bs (decoded bs).char h refl

filled : (bs cs : List ℕ) (c : ℕ) → characters bs ≡ c ∷ cs → 0 < length bs
filled [] cs c e = let k = sym none ∙ e in cc
filled (b ∷ bs) cs c e = omega arith

differs : (a b : ℕ) → a ≢ b → (a == b) ≡ false
differs a b h = ⊎_elim (λ y. absurd (h (eqb-true a b y))) (λ n. n) (cases_Bool (a == b))

take_over : (w r : List ℕ) (n : ℕ) → take (length w + n) (w ++ r) ≡ w ++ take n r
take_over [] r n = ap (λ k. take k r) (let e : 0 + n ≡ n = omega arith in e)
take_over (x ∷ w) r n = ap (λ k. take k (x ∷ (w ++ r))) (let e : length (x ∷ w) + n ≡ suc (length w + n) = omega arith in e) ∙ ap (λ t. x ∷ t) (take_over w r n)

drop_over : (w r : List ℕ) (n : ℕ) → drop (length w + n) (w ++ r) ≡ drop n r
drop_over [] r n = ap (λ k. drop k r) (let e : 0 + n ≡ n = omega arith in e)
drop_over (x ∷ w) r n = ap (λ k. drop k (x ∷ (w ++ r))) (let e : length (x ∷ w) + n ≡ suc (length w + n) = omega arith in e) ∙ drop_over w r n

wide : (c : ℕ) → c ≢ no_character → width c ≡ length (encode_utf8 c)
wide c h = cond-false _ _ _ (differs c no_character h)

by_span : (n : ℕ) (bs : List ℕ) → length bs ≤ n → length bs ≡ span (characters bs)
unfolding span IsGood IsBad
by_span n [] h = sym (ap span none)
by_span zero (b ∷ bs) h = absurd (omega arith)
by_span (suc n) (b ∷ bs) h = ⊎_elim
    (λ g.
    let len : length (b ∷ bs) ≡ length (encode_utf8 g.0) + length g.1 = ap length g.2.0 ∙ length-append (encode_utf8 g.0) g.1 in
    let s : length g.1 ≡ span (characters g.1) = by_span n g.1 (omega (arith, g.2.2)) in
    omega (arith, ap span g.2.1, wide g.0 g.2.3))
    (λ d.
    let s : length d.0 ≡ span (characters d.0) = by_span n d.0 (omega (arith, d.1.0)) in
    omega (arith, ap span d.1.1, d.1.0))
    (first (b ∷ bs) (omega arith))

same_length : (a b : List ℕ) → characters a ≡ characters b → length a ≡ length b
same_length a b e = by_span (length a) a (omega arith) ∙ ap span e ∙ sym (by_span (length b) b (omega arith))

longer : (l : List ℕ) (a b : List ℕ) → characters a ≡ l ++ characters b → length b ≤ length a
unfolding IsGood IsBad
longer [] a b e = omega (arith, same_length a b e)
longer (c ∷ l) a b e = ⊎_elim
    (λ g. omega (arith, longer l g.1 b (let k : characters g.1 ≡ l ++ characters b = let f = g.2.1 in cc in k), ap length g.2.0, length-append (encode_utf8 g.0) g.1))
    (λ d. omega (arith, longer l d.0 b (let k : characters d.0 ≡ l ++ characters b = let f = d.1.1 in cc in k), d.1.0))
    (first a (filled a (l ++ characters b) c e))

-- where characters lead from one place to another, the bytes between are theirs
pub text_bytes : (l from to : List ℕ) → characters from ≡ l ++ characters to → AllCharacters l → take (length from - length to) from ≡ encode_utf8_all l
unfolding IsGood IsBad
text_bytes [] from to e h = ap (λ n. take n from) (let k : length from - length to ≡ 0 = omega (arith, same_length from to e) in k)
text_bytes (c ∷ l) from to e h = ⊎_elim
    (λ g.
    let same : g.0 ≡ c = let f = g.2.1 in cc in
    let next : characters g.1 ≡ l ++ characters to = let f = g.2.1 in cc in
    let more : take (length g.1 - length to) g.1 ≡ encode_utf8_all l = text_bytes l g.1 to next h.1 in
    let w = encode_utf8 g.0 in
    let count : length from - length to ≡ length w + (length g.1 - length to) = omega (arith, ap length g.2.0, length-append w g.1, longer l g.1 to next) in
    ap (λ n. take n from) count ∙ ap (take (length w + (length g.1 - length to))) g.2.0 ∙ take_over w g.1 (length g.1 - length to) ∙ ap (λ t. w ++ t) more ∙ ap (λ x. encode_utf8 x ++ encode_utf8_all l) same)
    (λ d. absurd (h.0 (let f = d.1.1 in cc)))
    (first from (filled from (l ++ characters to) c e))

pub ends_before : (l from to : List ℕ) → characters from ≡ l ++ characters to → length to ≤ length from
ends_before = longer

pub span_append : (l m : List ℕ) → span (l ++ m) ≡ span l + span m
unfolding span
span_append [] m = omega arith
span_append (c ∷ l) m = omega (arith, span_append l m)

-- what characters take
pub span_between : (l from to : List ℕ) → characters from ≡ l ++ characters to → length from ≡ span l + length to
span_between l from to e = omega (arith, by_span (length from) from (omega arith), by_span (length to) to (omega arith), ap span e, span_append l (characters to))

-- behind the bytes of some characters stand the others
pub drop_span : (l from rest : List ℕ) → characters from ≡ l ++ rest → characters (drop (span l) from) ≡ rest
unfolding span IsGood IsBad
drop_span [] from rest e = e
drop_span (c ∷ l) from rest e = ⊎_elim
    (λ g.
    let same : g.0 ≡ c = let f = g.2.1 in cc in
    let next : characters g.1 ≡ l ++ rest = let f = g.2.1 in cc in
    let w : width c ≡ length (encode_utf8 g.0) = ap width (sym same) ∙ wide g.0 g.2.3 in
    ap (λ n. characters (drop (n + span l) from)) w ∙ ap (λ z. characters (drop (length (encode_utf8 g.0) + span l) z)) g.2.0 ∙ ap characters (drop_over (encode_utf8 g.0) g.1 (span l)) ∙ drop_span l g.1 rest next)
    (λ d.
    let same : no_character ≡ c = let f = d.1.1 in cc in
    let next : characters d.0 ≡ l ++ rest = let f = d.1.1 in cc in
    ap (λ x. characters (drop (width x + span l) from)) (sym same) ∙ ap characters (d.1.2 (span l)) ∙ drop_span l d.0 rest next)
    (first from (filled from (l ++ rest) c e))

-- what spells a character reads as it, whatever follows
pub reads_first : (c : ℕ) (rest : List ℕ) → IsScalar c → 0 < length (encode_utf8 c) → characters (encode_utf8 c ++ rest) ≡ c ∷ characters rest
reads_first c rest h n =
    let w = encode_utf8 c in
    let d = decoded-encode c rest h in
    let size : (decoded (w ++ rest)).size ≡ length w + 0 = ap (λ (p : Decoded). p.size) d ∙ (let k : length w ≡ length w + 0 = omega arith in k) in
    good (w ++ rest) c (omega (arith, length-append w rest)) (ap (λ (p : Decoded). p.char) d) ∙ ap (λ n. c ∷ characters (drop n (w ++ rest))) size ∙ ap (λ t. c ∷ characters t) (drop_over w rest 0)

-- an ill-formed byte stays one where what follows is cut
bad_front : (b : ℕ) (bs : List ℕ) (n : ℕ) → characters (b ∷ bs) ≡ no_character ∷ characters bs → characters (b ∷ take n bs) ≡ no_character ∷ characters (take n bs)
unfolding IsGood IsBad
bad_front b bs n e = ⊎_elim
    (λ g.
    let whole : b ∷ bs ≡ encode_utf8 g.0 ++ (g.1 ++ drop n bs) = ap (λ t. b ∷ t) (sym (take-append-drop n bs)) ∙ ap (λ t. t ++ drop n bs) g.2.0 ∙ append_assoc (encode_utf8 g.0) g.1 (drop n bs) in
    let k : no_character ∷ characters bs ≡ g.0 ∷ characters (g.1 ++ drop n bs) = sym e ∙ ap characters whole ∙ reads_first g.0 (g.1 ++ drop n bs) g.2.4 g.2.2 in
    absurd (g.2.3 (let q : g.0 ≡ no_character = cc in q)))
    (λ d. d.1.1 ∙ ap (λ t. no_character ∷ characters t) (sym (d.1.2 0)))
    (first (b ∷ take n bs) (omega arith))

-- where characters lead from one place to another, the bytes between read as they
pub text_reads : (l from to : List ℕ) → characters from ≡ l ++ characters to → characters (take (length from - length to) from) ≡ l
unfolding IsGood IsBad
text_reads [] from to e = ap (λ n. characters (take n from)) (let k : length from - length to ≡ 0 = omega (arith, same_length from to e) in k) ∙ none
text_reads (c ∷ l) [] to e = let k = sym none ∙ e in cc
text_reads (c ∷ l) (b ∷ bs) to e = ⊎_elim
    (λ g.
    let same : g.0 ≡ c = let f = g.2.1 in cc in
    let next : characters g.1 ≡ l ++ characters to = let f = g.2.1 in cc in
    let w = encode_utf8 g.0 in
    let n = length g.1 - length to in
    let count : length (b ∷ bs) - length to ≡ length w + n = omega (arith, ap length g.2.0, length-append w g.1, longer l g.1 to next) in
    ap (λ n. characters (take n (b ∷ bs))) count ∙ ap (λ t. characters (take (length w + n) t)) g.2.0 ∙ ap characters (take_over w g.1 n) ∙ reads_first g.0 (take n g.1) g.2.4 g.2.2 ∙ ap (λ t. g.0 ∷ t) (text_reads l g.1 to next) ∙ ap (λ x. x ∷ l) same)
    (λ d.
    let tail : bs ≡ d.0 = d.1.2 0 in
    let front : characters (b ∷ bs) ≡ no_character ∷ characters bs = d.1.1 ∙ ap (λ t. no_character ∷ characters t) (sym tail) in
    let same : no_character ≡ c = cc in
    let next : characters bs ≡ l ++ characters to = cc in
    let n = length bs - length to in
    let count : length (b ∷ bs) - length to ≡ suc n = omega (arith, longer l bs to next) in
    ap (λ n. characters (take n (b ∷ bs))) count ∙ bad_front b bs n front ∙ ap (λ t. no_character ∷ t) (text_reads l bs to next) ∙ ap (λ x. x ∷ l) same)
    (first (b ∷ bs) (omega arith))

-- The sizes of what is read: a source has no more lexemes than bytes, and no lexeme is longer than the source.
use Rattle.std.proofs.Common.{◌≡◌, ℕ, zero, suc, ◌+◌, ◌-◌, ◌<◌, ◌≤◌, Bool, true, false, List, [], ◌∷◌, ◌++◌, length, map, take, drop, ap, cond, Some, None, arith, length-append}
use Rattle.std.specs.Prelude.{Result, Ok, Err, sum_by}
use Rattle.std.specs.declared.option.Option.{Option}
use Rattle.std.specs.List.{AllByRecursion}
use Rattle.std.proofs.lemmas.List.{length-drop, take-append-drop}
use Rattle.std.proofs.lemmas.List.Sums.{sum_by-cons, sum_by-append}
use Rattle.mk_base.specs.declared.place.Pos.{Pos}
use Rattle.hs_syntax.specs.declared.token.Token.{Token}
use Rattle.hs_syntax.specs.declared.token.TokenKind.{TokenKind}
use Rattle.hs_syntax.specs.declared.token.PutSign.{PutSign}
use Rattle.source_text.specs.Characters.{past, more}
use Rattle.bstr.specs.Utf8.{decoded}
use Rattle.hs_lex.specs.declared.item.Kind.{Kind}
use Rattle.hs_lex.specs.declared.cursor.Cursor.{Cursor}
use Rattle.hs_lex.specs.Tokens.{ahead, tokens_at, start as first_cursor}
use Rattle.hs_lex.specs.Lexemes.{is_nil}
use Rattle.hs_lex.specs.Slow.{turn_over, put_before, go_over, item_at, read_from as lex_from, read_source}
use Rattle.hs_layout.specs.declared.state.Spot.{Spot}
use Rattle.hs_layout.specs.declared.state.State.{State as LayoutState}
use Rattle.hs_layout.specs.Roles.{role_of}
use Rattle.hs_layout.specs.Braced.{put_token, spot_of, is_pragma, before, pieces, after, at_end, braced_from, braced, start as layout_start}
use Rattle.module_check.proofs.Alls.{all_join}

-- lexemes of a source
past_short : (bs : List ℕ) (n : ℕ) → length (past n bs) ≤ length bs
unfolding past
past_short [] n = omega arith
past_short (b ∷ bs) zero = let h : length (past (more (decoded (b ∷ bs)).char (decoded (b ∷ bs)).size) bs) ≤ length bs = past_short bs (more (decoded (b ∷ bs)).char (decoded (b ∷ bs)).size) in omega arith
past_short (b ∷ bs) (suc n) = let h : length (past n bs) ≤ length bs = past_short bs n in omega arith

ahead_short : (source : List ℕ) (c : Cursor) → length (ahead source c) ≤ length source
ahead_short source c =
    let h : length (ahead source c) ≤ length (drop c.at source) = past_short (drop c.at source) 0 in
    let d : length (drop c.at source) ≡ length source - c.at = length-drop c.at source in
    omega arith

take_short : (n : ℕ) (xs : List ℕ) → length (take n xs) ≤ length xs
take_short n xs =
    let e : length (take n xs ++ drop n xs) ≡ length xs = ap length (take-append-drop n xs) in
    let f : length (take n xs ++ drop n xs) ≡ length (take n xs) + length (drop n xs) = length-append (take n xs) (drop n xs) in
    omega arith

abbrev pub IsShortToken : ℕ → Token → Type 0
IsShortToken b t = length t.text ≤ b

-- fewer than n lexemes, none longer than b
abbrev pub AreFew : ℕ → ℕ → Result (List Token) Pos → Type 0
AreFew n b (Ok ts) = (length ts < n) × AllByRecursion (IsShortToken b) ts
AreFew n b (Err at) = Unit {0}

abbrev AreOne : ℕ → List Token → Type 0
AreOne b ts = (length ts ≤ 1) × AllByRecursion (IsShortToken b) ts

one_token : (source : List ℕ) (c : Cursor) (k : Option TokenKind) (d : Cursor) → AreOne (length source) (tokens_at source c k d)
one_token source c None d = (omega arith, tt)
one_token source c (Some k) d =
    let t : length (take (d.at - c.at) (drop c.at source)) ≤ length (drop c.at source) = take_short (d.at - c.at) (drop c.at source) in
    let l : length (drop c.at source) ≡ length source - c.at = length-drop c.at source in
    (omega arith, (omega arith, tt))

put_few : (n b : ℕ) (us : List Token) (o : Result (List Token) Pos) → AreOne b us → AreFew n b o → AreFew (suc n) b (put_before us o)
put_few n b us (Err at) h k = tt
put_few n b us (Ok ts) h k =
    let one : length us ≤ 1 = h.0 in
    let few : length ts < n = k.0 in
    let both : length (us ++ ts) ≡ length us + length ts = length-append us ts in
    (omega arith, all_join (IsShortToken b) us ts h.1 k.1)

end_few : (n b : ℕ) (e : Bool) (at : Pos) → AreFew (suc n) b (cond e (Ok []) (Err at))
end_few n b true at = (omega arith, tt)
end_few n b false at = tt

go_few : (n : ℕ) (source : List ℕ) (c : Cursor) (on : Cursor → Result (List Token) Pos) (o : Option (Kind × List ℕ)) → ((d : Cursor) → AreFew n (length source) (on d)) → AreFew (suc n) (length source) (go_over source c on o)
go_few n source c on (Some i) h =
    put_few n (length source) (tokens_at source c (turn_over c i.0 i.1).kind (turn_over c i.0 i.1).to) (on (turn_over c i.0 i.1).to)
    (one_token source c (turn_over c i.0 i.1).kind (turn_over c i.0 i.1).to) (h (turn_over c i.0 i.1).to)
go_few n source c on None h = end_few n (length source) (is_nil (ahead source c)) _

lex_few : (n : ℕ) (source : List ℕ) (c : Cursor) → AreFew n (length source) (lex_from n source c)
unfolding lex_from
lex_few zero source c = tt
lex_few (suc n) source c = go_few n source c (lex_from n source) (item_at (ahead source c)) (λ d. lex_few n source d)

fewer : (m n b : ℕ) (o : Result (List Token) Pos) → m ≤ n → AreFew m b o → AreFew n b o
fewer m n b (Ok ts) l h = let k : length ts < m = h.0 in (omega arith, h.1)
fewer m n b (Err at) l h = tt

pub lexemes_few : (source : List ℕ) → AreFew (suc (length source)) (length source) (read_source source)
unfolding read_source
lexemes_few source =
    let a : length (ahead source (first_cursor source)) ≤ length source = ahead_short source (first_cursor source) in
    fewer (suc (length (ahead source (first_cursor source)))) (suc (length source)) (length source) (lex_from (suc (length (ahead source (first_cursor source)))) source (first_cursor source)) (omega arith)
    (lex_few (suc (length (ahead source (first_cursor source)))) source (first_cursor source))

-- layout puts no lexemes
abbrev pub count_of : Option PutSign → ℕ
count_of None = 1
count_of (Some s) = 0

abbrev pub count : Token → ℕ
count t = count_of t.put

abbrev pub lexemes : List Token → ℕ
lexemes ts = sum_by count ts

abbrev pub AreLaid : ℕ → ℕ → List Token → Type 0
AreLaid n b ts = (lexemes ts ≤ n) × AllByRecursion (IsShortToken b) ts

laid_join : (m n b : ℕ) (ts us : List Token) → AreLaid m b ts → AreLaid n b us → AreLaid (m + n) b (ts ++ us)
laid_join m n b ts us h k =
    let x : lexemes ts ≤ m = h.0 in
    let y : lexemes us ≤ n = k.0 in
    let both : lexemes (ts ++ us) ≡ lexemes ts + lexemes us = sum_by-append count ts us in
    (omega arith, all_join (IsShortToken b) ts us h.1 k.1)

laid_puts : (b : ℕ) (spot : Spot) (ss : List PutSign) → AreLaid 0 b (map (put_token spot) ss)
laid_puts b spot [] = (omega arith, tt)
laid_puts b spot (s ∷ ss) =
    let rest = laid_puts b spot ss in
    let none : lexemes (map (put_token spot) ss) ≤ 0 = rest.0 in
    let sum : lexemes (map (put_token spot) (s ∷ ss)) ≡ 0 + lexemes (map (put_token spot) ss) = sum_by-cons count (put_token spot s) (map (put_token spot) ss) in
    (omega arith, (omega arith, rest.1))

count_one : (o : Option PutSign) → count_of o ≤ 1
count_one None = omega arith
count_one (Some s) = omega arith

laid_one : (b : ℕ) (t : Token) → IsShortToken b t → AreLaid 1 b (t ∷ [])
laid_one b t h =
    let one : count t ≤ 1 = count_one t.put in
    let sum : lexemes (t ∷ []) ≡ count t + 0 = sum_by-cons count t [] in
    (omega arith, (h, tt))

laid_pieces : (b : ℕ) (st : LayoutState) (t : Token) (pragma : Bool) → IsShortToken b t → AreLaid 1 b (cond pragma (t ∷ []) (map (put_token (spot_of t)) (before st t (role_of t)).puts ++ t ∷ []))
laid_pieces b st t true h = laid_one b t h
laid_pieces b st t false h = laid_join 0 1 b (map (put_token (spot_of t)) (before st t (role_of t)).puts) (t ∷ []) (laid_puts b (spot_of t) (before st t (role_of t)).puts) (laid_one b t h)

laid_from : (b : ℕ) (st : LayoutState) (ts : List Token) → AllByRecursion (IsShortToken b) ts → AreLaid (length ts) b (braced_from st ts)
laid_from b st [] h = laid_puts b st.end (at_end st).puts
laid_from b st (t ∷ ts) h =
    let j = laid_join 1 (length ts) b (pieces st t) (braced_from (after st t) ts) (laid_pieces b st t (is_pragma t.kind) h.0) (laid_from b (after st t) ts h.1) in
    let k : lexemes (pieces st t ++ braced_from (after st t) ts) ≤ 1 + length ts = j.0 in
    (omega arith, j.1)

pub laid_out : (b : ℕ) (ts : List Token) → AllByRecursion (IsShortToken b) ts → AreLaid (length ts) b (braced ts)
laid_out b ts h = laid_from b layout_start ts h

-- A lexeme parted into qualifier and name.
use Rattle.std.proofs.Common.{◌≡◌, ℕ, ◌+◌, ◌-◌, suc, ◌<◌, ◌≤◌, Bool, true, false, not, nat_eq, nat_lt, cond, List, [], ◌∷◌, ◌++◌, length, take, drop, Some, None, refl, sym, ap, subst, ◌∙◌, arith, append_assoc, length-append, length-drop, ltb-true, ltb-false}
use Rattle.std.specs.List.{position, position_or_len}
use Rattle.std.proofs.lemmas.List.{take_all}
use Rattle.std.proofs.lemmas.Bool.{eqb-true}
use Rattle.hs_syntax.specs.declared.name_ref.NameRef.{NameRef}
use Rattle.hs_syntax.specs.declared.token.Token.{Token}
use Rattle.mk_base.specs.declared.place.Pos.{Pos}
use Rattle.hs_syntax.specs.Names.{onto, between_dots, dotted, begins_large, qualifier_of, name_of, name_ref}

some_of : (t : Bool) (n i : ℕ) → cond t (Some n) None ≡ Some i → (t ≡ true) × (n ≡ i)
some_of true n i h = (refl, cc)
some_of false n i h = absurd (cc)

none_of : (t : Bool) (n : ℕ) → cond t (Some n) None ≡ None → t ≡ false
none_of true n h = absurd (cc)
none_of false n h = refl

rest_of : (text : List ℕ) (n : ℕ) → take (length text - n) (drop n text) ≡ drop n text
rest_of text n = take_all (length text - n) (drop n text) (omega (arith, length-drop n text))

-- the first piece
abbrev first_dot : List ℕ → ℕ
first_dot bs = position_or_len (λ b. nat_eq b 46) bs

parted_more : (b : ℕ) (bs : List ℕ) (n : ℕ) → between_dots bs ≡ take n bs ∷ between_dots (drop (n + 1) bs) → onto b (between_dots bs) ≡ take (1 + n) (b ∷ bs) ∷ between_dots (drop (1 + n + 1) (b ∷ bs))
parted_more b bs n h =
    ap (onto b) h ∙ ap (λ k. take k (b ∷ bs) ∷ between_dots (drop (n + 1) bs)) (let e : suc n ≡ 1 + n = omega arith in e) ∙ ap (λ k. take (1 + n) (b ∷ bs) ∷ between_dots (drop k (b ∷ bs))) (let e : suc (n + 1) ≡ 1 + n + 1 = omega arith in e)

parted : (bs : List ℕ) → first_dot bs < length bs → between_dots bs ≡ take (first_dot bs) bs ∷ between_dots (drop (first_dot bs + 1) bs)
unfolding between_dots
parted [] h = absurd (omega arith)
parted (b ∷ bs) h =
    elim (nat_eq b 46) as (λ t. cond (not t) (1 + first_dot bs) 0 < length (b ∷ bs) → cond t ([] ∷ between_dots bs) (onto b (between_dots bs)) ≡ take (cond (not t) (1 + first_dot bs) 0) (b ∷ bs) ∷ between_dots (drop (cond (not t) (1 + first_dot bs) 0 + 1) (b ∷ bs))) [
      | true ↦ λ k. refl
      | false ↦ λ k. parted_more b bs (first_dot bs) (parted bs (omega arith))
    ] h

dot_stands : (b : ℕ) (bs : List ℕ) (n : ℕ) → bs ≡ take n bs ++ 46 ∷ drop (n + 1) bs → b ∷ bs ≡ take (1 + n) (b ∷ bs) ++ 46 ∷ drop (1 + n + 1) (b ∷ bs)
dot_stands b bs n h =
    ap (λ t. b ∷ t) h ∙ ap (λ k. take k (b ∷ bs) ++ 46 ∷ drop (n + 1) bs) (let e : suc n ≡ 1 + n = omega arith in e) ∙ ap (λ k. take (1 + n) (b ∷ bs) ++ 46 ∷ drop k (b ∷ bs)) (let e : suc (n + 1) ≡ 1 + n + 1 = omega arith in e)

at_dot : (bs : List ℕ) → first_dot bs < length bs → bs ≡ take (first_dot bs) bs ++ 46 ∷ drop (first_dot bs + 1) bs
at_dot [] h = absurd (omega arith)
at_dot (b ∷ bs) h =
    elim (nat_eq b 46) as (λ t. nat_eq b 46 ≡ t → cond (not t) (1 + first_dot bs) 0 < length (b ∷ bs) → b ∷ bs ≡ take (cond (not t) (1 + first_dot bs) 0) (b ∷ bs) ++ 46 ∷ drop (cond (not t) (1 + first_dot bs) 0 + 1) (b ∷ bs)) [
      | true ↦ λ e k. ap (λ x. x ∷ bs) (eqb-true b 46 e)
      | false ↦ λ e k. dot_stands b bs (first_dot bs) (at_dot bs (omega arith))
    ] refl h

uncut : (bs : List ℕ) → length bs ≤ first_dot bs → between_dots bs ≡ bs ∷ []
unfolding between_dots
uncut [] h = refl
uncut (b ∷ bs) h =
    elim (nat_eq b 46) as (λ t. length (b ∷ bs) ≤ cond (not t) (1 + first_dot bs) 0 → cond t ([] ∷ between_dots bs) (onto b (between_dots bs)) ≡ (b ∷ bs) ∷ []) [
      | true ↦ λ k. absurd (omega arith)
      | false ↦ λ k. ap (onto b) (uncut bs (omega arith))
    ] h

-- what the search for a dot tells
pub piece_none : (bs : List ℕ) → position (λ b. nat_eq b 46) bs ≡ None → between_dots bs ≡ bs ∷ []
piece_none bs h = uncut bs (ltb-false (first_dot bs) (length bs) (none_of (nat_lt (first_dot bs) (length bs)) (first_dot bs) h))

pub piece_some : (bs : List ℕ) (i : ℕ) → position (λ b. nat_eq b 46) bs ≡ Some i
    → (between_dots bs ≡ take i bs ∷ between_dots (take (length bs - (i + 1)) (drop (i + 1) bs))) × (bs ≡ take i bs ++ 46 ∷ take (length bs - (i + 1)) (drop (i + 1) bs))
piece_some bs i h =
    let k = some_of (nat_lt (first_dot bs) (length bs)) (first_dot bs) i h in
    let lt = ltb-true (first_dot bs) (length bs) k.0 in
    let e : between_dots bs ≡ take i bs ∷ between_dots (drop (i + 1) bs) = subst (λ j. between_dots bs ≡ take j bs ∷ between_dots (drop (j + 1) bs)) k.1 (parted bs lt) in
    let f : bs ≡ take i bs ++ 46 ∷ drop (i + 1) bs = subst (λ j. bs ≡ take j bs ++ 46 ∷ drop (j + 1) bs) k.1 (at_dot bs lt) in
    let r = sym (rest_of bs (i + 1)) in
    (e ∙ ap (λ t. take i bs ∷ between_dots t) r, f ∙ ap (λ t. take i bs ++ 46 ∷ t) r)

-- there is a first piece
onto_some : (b : ℕ) (ps : List (List ℕ)) → (p : List ℕ) × (qs : List (List ℕ)) × (onto b ps ≡ p ∷ qs)
onto_some b [] = (b ∷ [], [], refl)
onto_some b (p ∷ ps) = (b ∷ p, ps, refl)

pub some_piece : (bs : List ℕ) → (p : List ℕ) × (qs : List (List ℕ)) × (between_dots bs ≡ p ∷ qs)
unfolding between_dots
some_piece [] = ([], [], refl)
some_piece (b ∷ bs) =
    elim (nat_eq b 46) as (λ t. (p : List ℕ) × (qs : List (List ℕ)) × (cond t ([] ∷ between_dots bs) (onto b (between_dots bs)) ≡ p ∷ qs))
    [ true ↦ ([], between_dots bs, refl) | false ↦ onto_some b (between_dots bs) ]

-- pieces put together are the text
dotted_onto : (b : ℕ) (ps : List (List ℕ)) (p : List ℕ) (qs : List (List ℕ)) → ps ≡ p ∷ qs → dotted (onto b ps) ≡ b ∷ dotted ps
dotted_onto b [] p qs e = absurd (cc)
dotted_onto b (x ∷ []) p qs e = refl
dotted_onto b (x ∷ y ∷ xs) p qs e = refl

dotted_none : (ps : List (List ℕ)) (p : List ℕ) (qs : List (List ℕ)) → ps ≡ p ∷ qs → dotted ([] ∷ ps) ≡ 46 ∷ dotted ps
dotted_none [] p qs e = absurd (cc)
dotted_none (x ∷ xs) p qs e = refl

pub whole : (bs : List ℕ) → dotted (between_dots bs) ≡ bs
unfolding between_dots
whole [] = refl
whole (b ∷ bs) =
    let s = some_piece bs in
    elim (nat_eq b 46) as (λ t. nat_eq b 46 ≡ t → dotted (cond t ([] ∷ between_dots bs) (onto b (between_dots bs))) ≡ b ∷ bs) [
      | true ↦ λ e. dotted_none (between_dots bs) s.0 s.1 s.2 ∙ ap (λ t. 46 ∷ t) (whole bs) ∙ ap (λ x. x ∷ bs) (sym (eqb-true b 46 e))
      | false ↦ λ e. dotted_onto b (between_dots bs) s.0 s.1 s.2 ∙ ap (λ t. b ∷ t) (whole bs)
    ] refl

-- pieces with a dot behind each
pub closed : List (List ℕ) → List ℕ
closed [] = []
closed (p ∷ ps) = p ++ 46 ∷ closed ps

closed_more : (ps : List (List ℕ)) (p rest : List ℕ) → closed ps ++ (p ++ 46 ∷ rest) ≡ closed (ps ++ p ∷ []) ++ rest
unfolding closed
closed_more [] p rest = sym (append_assoc p (46 ∷ []) rest)
closed_more (q ∷ ps) p rest =
    append_assoc q (46 ∷ closed ps) (p ++ 46 ∷ rest) ∙ ap (λ t. q ++ 46 ∷ t) (closed_more ps p rest) ∙ sym (append_assoc q (46 ∷ closed (ps ++ p ∷ [])) rest)

closed_last : (p : List ℕ) (ps : List (List ℕ)) → closed (p ∷ ps) ≡ dotted (p ∷ ps) ++ 46 ∷ []
unfolding closed
closed_last p [] = refl
closed_last p (q ∷ ps) = ap (λ t. p ++ 46 ∷ t) (closed_last q ps) ∙ sym (append_assoc p (46 ∷ dotted (q ∷ ps)) (46 ∷ []))

take_front : (a b : List ℕ) (n : ℕ) → n ≡ length a → take n (a ++ b) ≡ a
take_front [] b n e = ap (λ k. take k b) e
take_front (x ∷ a) b n e = ap (λ k. take k (x ∷ (a ++ b))) e ∙ ap (λ t. x ∷ t) (take_front a b (length a) refl)

front_of : (ps : List (List ℕ)) (rest : List ℕ) → take (length (closed ps ++ rest) - length rest - 1) (closed ps ++ rest) ≡ dotted ps
unfolding closed
front_of [] rest = ap (λ k. take k rest) (let e : length rest - length rest - 1 ≡ 0 = omega arith in e)
front_of (p ∷ ps) rest =
    let e = closed_last p ps in
    let q : closed (p ∷ ps) ++ rest ≡ dotted (p ∷ ps) ++ (46 ∷ rest) = ap (λ t. t ++ rest) e ∙ append_assoc (dotted (p ∷ ps)) (46 ∷ []) rest in
    ap (λ t. take (length t - length rest - 1) t) q ∙ take_front (dotted (p ∷ ps)) (46 ∷ rest) (length (dotted (p ∷ ps) ++ 46 ∷ rest) - length rest - 1) (omega (arith, length-append (dotted (p ∷ ps)) (46 ∷ rest)))

-- pieces of the qualifier are passed
pub record Passed (text rest : List ℕ) : Type 0 where
  pub pieces : List (List ℕ)
  pub front : text ≡ closed pieces ++ rest
  pub qualifier : qualifier_of (between_dots text) ≡ pieces ++ qualifier_of (between_dots rest)
  pub name : name_of (between_dots text) ≡ name_of (between_dots rest)

pub passed_none : (text : List ℕ) → Passed text text
unfolding closed
passed_none text = record { pieces = []; front = refl; qualifier = refl; name = refl }

qualifier_more : (p : List ℕ) (ps : List (List ℕ)) (q : List ℕ) (qs : List (List ℕ)) → ps ≡ q ∷ qs → begins_large p ≡ true → qualifier_of (p ∷ ps) ≡ p ∷ qualifier_of ps
qualifier_more p [] q qs e h = absurd (cc)
qualifier_more p (x ∷ xs) q qs e h = ap (λ t. cond t (p ∷ qualifier_of (x ∷ xs)) []) h

name_more : (p : List ℕ) (ps : List (List ℕ)) (q : List ℕ) (qs : List (List ℕ)) → ps ≡ q ∷ qs → begins_large p ≡ true → name_of (p ∷ ps) ≡ name_of ps
name_more p [] q qs e h = absurd (cc)
name_more p (x ∷ xs) q qs e h = ap (λ t. cond t (name_of (x ∷ xs)) (p ∷ x ∷ xs)) h

pub qualifier_end : (p : List ℕ) (ps : List (List ℕ)) → begins_large p ≡ false → qualifier_of (p ∷ ps) ≡ []
qualifier_end p [] h = refl
qualifier_end p (x ∷ xs) h = ap (λ t. cond t (p ∷ qualifier_of (x ∷ xs)) []) h

pub name_end : (p : List ℕ) (ps : List (List ℕ)) → begins_large p ≡ false → name_of (p ∷ ps) ≡ p ∷ ps
name_end p [] h = refl
name_end p (x ∷ xs) h = ap (λ t. cond t (name_of (x ∷ xs)) (p ∷ x ∷ xs)) h

pub passed_more : (text rest p next : List ℕ) → Passed text rest → between_dots rest ≡ p ∷ between_dots next → rest ≡ p ++ 46 ∷ next → begins_large p ≡ true → Passed text next
passed_more text rest p next h e f large =
    let s = some_piece next in
    record {
      pieces = h.pieces ++ p ∷ [];
      front = h.front ∙ ap (λ t. closed h.pieces ++ t) f ∙ closed_more h.pieces p next;
      qualifier = h.qualifier ∙ ap (λ t. h.pieces ++ qualifier_of t) e ∙ ap (λ t. h.pieces ++ t) (qualifier_more p (between_dots next) s.0 s.1 s.2 large) ∙ sym (append_assoc h.pieces (p ∷ []) (qualifier_of (between_dots next)));
      name = h.name ∙ ap name_of e ∙ name_more p (between_dots next) s.0 s.1 s.2 large;
    }

-- what stands behind the qualifier
abbrev pub IsBehind : List ℕ → List ℕ → Type 0
IsBehind text rest = (rest ≡ dotted (name_of (between_dots text))) × (take (length text - length rest - 1) text ≡ dotted (qualifier_of (between_dots text)))

append_none : (ps : List (List ℕ)) → ps ++ [] ≡ ps
append_none [] = refl
append_none (p ∷ ps) = ap (λ t. p ∷ t) (append_none ps)

behind : (text rest : List ℕ) → Passed text rest → qualifier_of (between_dots rest) ≡ [] → name_of (between_dots rest) ≡ between_dots rest → IsBehind text rest
behind text rest h e f = (
  sym (whole rest) ∙ ap dotted (sym f ∙ sym h.name),
  ap (λ t. take (length t - length rest - 1) t) h.front ∙ front_of h.pieces rest ∙ ap dotted (sym (append_none h.pieces) ∙ ap (λ t. h.pieces ++ t) (sym e) ∙ sym h.qualifier),
)

pub behind_last : (text rest : List ℕ) → Passed text rest → between_dots rest ≡ rest ∷ [] → IsBehind text rest
behind_last text rest h e = behind text rest h (ap qualifier_of e) (ap name_of e ∙ sym e)

pub behind_small : (text rest p next : List ℕ) → Passed text rest → between_dots rest ≡ p ∷ between_dots next → begins_large p ≡ false → IsBehind text rest
behind_small text rest p next h e small = behind text rest h (ap qualifier_of e ∙ qualifier_end p (between_dots next) small) (ap name_of e ∙ name_end p (between_dots next) small ∙ sym e)

named : List ℕ → List ℕ → Pos → NameRef
named q t at = record { qualifier = q; text = t; at = at; to = None }

pub made : (token : Token) (q t name text : List ℕ) → text ≡ token.text → q ≡ take (length text - length name - 1) text → t ≡ name → IsBehind text name → record { qualifier = q; text = t; at = token.at; to = None } ≡ name_ref token
unfolding named name_ref
made token q t name text s e f h =
    ap (λ x. named x t token.at) (e ∙ h.1 ∙ ap (λ b. dotted (qualifier_of (between_dots b))) s) ∙ ap (λ x. named (dotted (qualifier_of (between_dots token.text))) x token.at) (f ∙ h.0 ∙ ap (λ b. dotted (name_of (between_dots b))) s)

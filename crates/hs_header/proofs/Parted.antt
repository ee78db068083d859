-- A lexeme's qualifier and name are the parts that the lexer finds in it.
use Rattle.std.specs.Prelude.{map, encode_utf8_all, if◌then◌else◌}
use Rattle.std.specs.Char.{IsScalar, encode_utf8}
use Rattle.std.proofs.Common.{◌≡◌, ◌⊎◌, inl, inr, ⊎_elim, ℕ, ◌+◌, ◌-◌, ◌/◌, ◌%◌, ◌≤◌, Bool, true, false, nat_eq, nat_lt, cond, List, [], ◌∷◌, ◌++◌, length, refl, sym, ap, subst, ◌∙◌, arith, append_assoc, take_all}
use Rattle.std.proofs.lemmas.List.{append-nil}
use Rattle.std.proofs.lemmas.Bool.{false≢true, cond-false, eqb-true, cases_Bool}
use Rattle.std.proofs.lemmas.Bool.Decides.{nat_tests}
use Rattle.mk_base.specs.Classes.{class_of as class_of_char}
use Rattle.source_text.specs.Characters.{characters, AllCharacters, no_character}
use Rattle.source_text.proofs.Characters.{none}
use Rattle.source_text.proofs.Widths.{text_bytes, reads_first}
use Rattle.hs_lex.specs.declared.class.Class.{Class}
use Rattle.hs_lex.specs.declared.class.Class.TheVariants as class
use Rattle.hs_lex.specs.declared.class.Part.TheVariants as part
use Rattle.hs_lex.specs.Classes.{class_of, in_part, is_character}
use Rattle.hs_lex.specs.Reading.{AllIn}
use Rattle.hs_lex.specs.Lexemes.{BeginsWith, IsName, IsPlain, IsTail, IsLargeName}
use Rattle.hs_lex.proofs.Reached.{some_bytes}
use Rattle.hs_lex.specs.Classes.{of_char_class}
use Rattle.mk_base.specs.declared.char_class.CharClass.{CharClass}
use Rattle.mk_base.specs.declared.char_class.CharClass.TheVariants as char
use Rattle.hs_syntax.specs.Names.{onto, between_dots, dotted, in_large, is_large, first_is_large, begins_large, qualifier_of, name_of, name_ref}
use Rattle.hs_syntax.proofs.Names.{some_piece, whole, qualifier_end, name_end}
use Rattle.hs_header.specs.Names.{AreConids, IsDotted, NamesAreParted}
use Rattle.hs_header.proofs.Words.{all_characters}

-- bytes without a dot
Undotted : List ℕ → Type 0
Undotted [] = Unit {0}
Undotted (b ∷ bs) = (nat_eq b 46 ≡ false) × Undotted bs

undotted_append : (a b : List ℕ) → Undotted a → Undotted b → Undotted (a ++ b)
unfolding Undotted
undotted_append [] b h k = k
undotted_append (x ∷ a) b h k = (h.0, undotted_append a b h.1 k)

either_list : (b : Bool) (l m : List ℕ) → Undotted l → Undotted m → Undotted (if b then l else m)
either_list true l m h k = h
either_list false l m h k = k

high : (b : ℕ) → 128 ≤ b → nat_eq b 46 ≡ false
high b h = grind (arith, nat_tests)

encoded : (c : ℕ) → nat_eq c 46 ≡ false → Undotted (encode_utf8 c)
unfolding encode_utf8 Undotted
encoded c h =
    let four : List ℕ = (240 + c / 262144) ∷ (128 + (c / 4096) % 64) ∷ (128 + (c / 64) % 64) ∷ (128 + c % 64) ∷ [] in
    let three : List ℕ = (224 + c / 4096) ∷ (128 + (c / 64) % 64) ∷ (128 + c % 64) ∷ [] in
    let two : List ℕ = (192 + c / 64) ∷ (128 + c % 64) ∷ [] in
    let a = high (128 + c % 64) (omega arith) in
    let b = high (128 + (c / 64) % 64) (omega arith) in
    let d = high (128 + (c / 4096) % 64) (omega arith) in
    either_list (nat_lt c 128) (c ∷ []) (if nat_lt c 2048 then two else (if nat_lt c 65536 then three else four)) (h, tt)
    (either_list (nat_lt c 2048) two (if nat_lt c 65536 then three else four) (high (192 + c / 64) (omega arith), (a, tt))
    (either_list (nat_lt c 65536) three four (high (224 + c / 4096) (omega arith), (b, (a, tt))) (high (240 + c / 262144) (omega arith), (d, (b, (a, tt))))))

dot_name : in_part part.Name 46 ≡ false
unfolding in_part class_of class_of_char
dot_name = refl

name_char : (c : ℕ) → in_part part.Name c ≡ true → nat_eq c 46 ≡ false
name_char c h = ⊎_elim (λ y. absurd (false≢true (sym dot_name ∙ ap (in_part part.Name) (sym (eqb-true c 46 y)) ∙ h))) (λ n. n) (cases_Bool (nat_eq c 46))

names_undotted : (l : List ℕ) → AllIn part.Name l → Undotted (encode_utf8_all l)
unfolding Undotted
names_undotted [] h = tt
names_undotted (c ∷ l) h = undotted_append (encode_utf8 c) (encode_utf8_all l) (encoded c (name_char c h.0)) (names_undotted l h.1)

-- the pieces of some bytes
before_dot : (a bs : List ℕ) → Undotted a → between_dots (a ++ 46 ∷ bs) ≡ a ∷ between_dots bs
unfolding between_dots Undotted
before_dot [] bs h = refl
before_dot (b ∷ a) bs h = cond-false _ _ _ h.0 ∙ ap (onto b) (before_dot a bs h.1)

alone : (a : List ℕ) → Undotted a → between_dots a ≡ a ∷ []
unfolding between_dots Undotted
alone [] h = refl
alone (b ∷ a) h = cond-false _ _ _ h.0 ∙ ap (onto b) (alone a h.1)

head_same : (p q : List ℕ) (ps qs : List (List ℕ)) → p ∷ ps ≡ q ∷ qs → p ≡ q
head_same p q ps qs e = cc

front_piece : (a x p : List ℕ) (qs : List (List ℕ)) → Undotted a → between_dots (a ++ x) ≡ p ∷ qs → (r : List ℕ) × (p ≡ a ++ r)
unfolding between_dots Undotted
front_piece [] x p qs h e = (p, refl)
front_piece (b ∷ a) x p qs h e =
    let s = some_piece (a ++ x) in
    let r = front_piece a x s.0 s.1 h.1 s.2 in
    let k : (b ∷ s.0) ∷ s.1 ≡ p ∷ qs = ap (onto b) (sym s.2) ∙ sym (cond-false _ _ _ h.0) ∙ e in
    (r.0, sym (head_same (b ∷ s.0) p s.1 qs k) ∙ ap (λ z. b ∷ z) r.1)

pieces_of : (qs : List (List ℕ)) (n : List ℕ) → AreConids qs → between_dots (dotted (map encode_utf8_all qs ++ encode_utf8_all n ∷ [])) ≡ map encode_utf8_all qs ++ between_dots (encode_utf8_all n)
pieces_of [] n h = refl
pieces_of (q ∷ []) n h = before_dot (encode_utf8_all q) (encode_utf8_all n) (names_undotted q h.0.1)
pieces_of (q ∷ r ∷ qs) n h =
    before_dot (encode_utf8_all q) (dotted (map encode_utf8_all (r ∷ qs) ++ encode_utf8_all n ∷ [])) (names_undotted q h.0.1) ∙ ap (λ z. encode_utf8_all q ∷ z) (pieces_of (r ∷ qs) n h.1)

-- spelled part by part
encode_append : (a b : List ℕ) → encode_utf8_all (a ++ b) ≡ encode_utf8_all a ++ encode_utf8_all b
encode_append [] b = refl
encode_append (c ∷ a) b = ap (λ z. encode_utf8 c ++ z) (encode_append a b) ∙ sym (append_assoc (encode_utf8 c) (encode_utf8_all a) (encode_utf8_all b))

encode_dot : (b : List ℕ) → encode_utf8_all (46 ∷ b) ≡ 46 ∷ encode_utf8_all b
unfolding encode_utf8
encode_dot b = refl

spelled : (ps : List (List ℕ)) → encode_utf8_all (dotted ps) ≡ dotted (map encode_utf8_all ps)
spelled [] = refl
spelled (p ∷ []) = refl
spelled (p ∷ q ∷ ps) = encode_append p (46 ∷ dotted (q ∷ ps)) ∙ ap (λ z. encode_utf8_all p ++ z) (encode_dot (dotted (q ∷ ps))) ∙ ap (λ z. encode_utf8_all p ++ 46 ∷ z) (spelled (q ∷ ps))

map_last : (qs : List (List ℕ)) (n : List ℕ) → map encode_utf8_all (qs ++ n ∷ []) ≡ map encode_utf8_all qs ++ encode_utf8_all n ∷ []
map_last [] n = refl
map_last (q ∷ qs) n = ap (λ z. encode_utf8_all q ∷ z) (map_last qs n)

-- which pieces begin large
not_character : (c : ℕ) → is_character c ≡ false → class_of c ≡ class.Other
unfolding class_of
not_character c h = ⊎_elim (λ y. absurd (false≢true (sym h ∙ ap is_character (eqb-true c 34 y)))) (λ n. cond-false _ _ _ n ∙ ⊎_elim (λ y. absurd (false≢true (sym h ∙ ap is_character (eqb-true c 39 y)))) (λ m. cond-false _ _ _ m ∙ cond-false _ _ _ h) (cases_Bool (nat_eq c 39))) (cases_Bool (nat_eq c 34))

character_scalar : (c : ℕ) → is_character c ≡ true → IsScalar c
character_scalar c h = grind (arith, nat_tests)

class_scalar : (c : ℕ) → (class_of c ≡ class.Other → ⊥) → IsScalar c
class_scalar c h = ⊎_elim (λ y. character_scalar c y) (λ n. absurd (h (not_character c n))) (cases_Bool (is_character c))

-- the large characters are those of the lexer
abbrev is_large_class : Class → Bool
is_large_class class.Large = true
is_large_class _ = false

large_kind : (k : CharClass) → in_large k ≡ is_large_class (of_char_class k)
large_kind char.Small = refl
large_kind char.Large = refl
large_kind char.Digit = refl
large_kind char.Symbol = refl
large_kind char.Special = refl
large_kind char.White = refl
large_kind char.Other = refl

quote_is_small : is_large 34 ≡ false
unfolding is_large class_of_char
quote_is_small = refl

tick_is_small : is_large 39 ≡ false
unfolding is_large class_of_char
tick_is_small = refl

large_character : (k : CharClass) (b : Bool) → cond b (in_large k) false ≡ is_large_class (cond b (of_char_class k) class.Other)
large_character k true = large_kind k
large_character k false = refl

large_tick : (c : ℕ) (b : Bool) → nat_eq c 39 ≡ b → is_large c ≡ is_large_class (cond b class.Tick (cond (is_character c) (of_char_class (class_of_char c)) class.Other))
unfolding is_large
large_tick c true e = ap is_large (eqb-true c 39 e) ∙ tick_is_small
large_tick c false e = large_character (class_of_char c) (is_character c)

large_quote : (c : ℕ) (b : Bool) → nat_eq c 34 ≡ b → is_large c ≡ is_large_class (cond b class.Quote (cond (nat_eq c 39) class.Tick (cond (is_character c) (of_char_class (class_of_char c)) class.Other)))
large_quote c true e = ap is_large (eqb-true c 34 e) ∙ quote_is_small
large_quote c false e = large_tick c (nat_eq c 39) refl

large_same : (c : ℕ) → is_large c ≡ is_large_class (class_of c)
unfolding class_of
large_same c = large_quote c (nat_eq c 34) refl

first_large : (c : ℕ) (r : List ℕ) (k : Class) → class_of c ≡ k → (k ≡ class.Other → ⊥) → begins_large (encode_utf8 c ++ r) ≡ is_large_class k
first_large c r k e h = ap first_is_large (reads_first c r (class_scalar c (λ x. h (sym e ∙ x))) (some_bytes c)) ∙ large_same c ∙ ap is_large_class e

large_piece : (q : List ℕ) → BeginsWith class.Large q → begins_large (encode_utf8_all q) ≡ true
large_piece [] h = absurd h
large_piece (c ∷ q) h = first_large c (encode_utf8_all q) class.Large h (λ x. cc)

over_qualifier : (qs : List (List ℕ)) (p : List ℕ) (ps : List (List ℕ)) → AreConids qs
    → (qualifier_of (map encode_utf8_all qs ++ p ∷ ps) ≡ map encode_utf8_all qs ++ qualifier_of (p ∷ ps)) × (name_of (map encode_utf8_all qs ++ p ∷ ps) ≡ name_of (p ∷ ps))
over_qualifier [] p ps h = (refl, refl)
over_qualifier (q ∷ []) p ps h =
    let e = large_piece q h.0.0 in
    (ap (λ t. cond t (encode_utf8_all q ∷ qualifier_of (p ∷ ps)) []) e, ap (λ t. cond t (name_of (p ∷ ps)) (encode_utf8_all q ∷ p ∷ ps)) e)
over_qualifier (q ∷ r ∷ qs) p ps h =
    let e = large_piece q h.0.0 in
    let w = over_qualifier (r ∷ qs) p ps h.1 in
    let rest : List (List ℕ) = map encode_utf8_all (r ∷ qs) ++ p ∷ ps in
    (ap (λ t. cond t (encode_utf8_all q ∷ qualifier_of rest) []) e ∙ ap (λ z. encode_utf8_all q ∷ z) w.0, ap (λ t. cond t (name_of rest) (encode_utf8_all q ∷ rest)) e ∙ w.1)

-- the pieces of the last part
IsEnd : List ℕ → Type 0
IsEnd n = (p : List ℕ) × (ps : List (List ℕ)) × (between_dots (encode_utf8_all n) ≡ p ∷ ps) × (qualifier_of (p ∷ ps) ≡ []) × (name_of (p ∷ ps) ≡ p ∷ ps)

small_end : (n : List ℕ) → ((p : List ℕ) (ps : List (List ℕ)) → between_dots (encode_utf8_all n) ≡ p ∷ ps → begins_large p ≡ false) → IsEnd n
unfolding IsEnd
small_end n h =
    let s = some_piece (encode_utf8_all n) in
    let k = h s.0 s.1 s.2 in
    (s.0, s.1, s.2, qualifier_end s.0 s.1 k, name_end s.0 s.1 k)

nothing_large : begins_large [] ≡ false
nothing_large = ap first_is_large none

by_class : (c : ℕ) (n : List ℕ) (k : Class) → class_of c ≡ k → (k ≡ class.Other → ⊥) → is_large_class k ≡ false → (p : List ℕ) (ps : List (List ℕ)) → between_dots (encode_utf8_all (c ∷ n)) ≡ p ∷ ps → begins_large p ≡ false
unfolding between_dots
by_class c n k e o l p ps f = ⊎_elim
    (λ y.
    let d : c ≡ 46 = eqb-true c 46 y in
    let g : between_dots (46 ∷ encode_utf8_all n) ≡ p ∷ ps = ap between_dots (sym (encode_dot n)) ∙ ap (λ x. between_dots (encode_utf8_all (x ∷ n))) (sym d) ∙ f in
    let q : [] ∷ between_dots (encode_utf8_all n) ≡ p ∷ ps = g in
    ap begins_large (sym (head_same [] p (between_dots (encode_utf8_all n)) ps q)) ∙ nothing_large)
    (λ m.
    let r = front_piece (encode_utf8 c) (encode_utf8_all n) p ps (encoded c m) f in
    ap begins_large r.1 ∙ first_large c r.0 k e o ∙ l)
    (cases_Bool (nat_eq c 46))

plain_end : (n rest : List ℕ) → IsPlain n rest → IsEnd n
plain_end [] rest h = absurd (⊎_elim (λ x. x.0) (λ x. x.0) h.0)
plain_end (c ∷ n) rest h = small_end (c ∷ n) (⊎_elim (λ x. by_class c n class.Small x.0 (λ y. cc) refl) (λ x. by_class c n class.Symbol x.0 (λ y. cc) refl) h.0)

last_end : (n rest : List ℕ) → IsName class.Large n rest ⊎ IsPlain n rest → IsEnd n
unfolding IsEnd
last_end n rest (inl h) = (encode_utf8_all n, [], alone (encode_utf8_all n) (names_undotted n h.1.0), refl, refl)
last_end n rest (inr h) = plain_end n rest h

-- the lexer's parts
dotted_more : (q : List ℕ) (ps : List (List ℕ)) (n : List ℕ) → dotted (q ∷ (ps ++ n ∷ [])) ≡ q ++ 46 ∷ dotted (ps ++ n ∷ [])
dotted_more q [] n = refl
dotted_more q (p ∷ ps) n = refl

tail_parts : (qs : List (List ℕ)) (q m rest : List ℕ) → IsName class.Large q (m ++ rest) → IsTail qs m rest → (ps : List (List ℕ)) × (n : List ℕ) × IsDotted ps n (q ++ m) rest
tail_parts [] q m rest h (inl e) = ([], q, (ap (λ z. q ++ z) e ∙ append-nil q, tt, inl (subst (λ z. IsName class.Large q (z ++ rest)) e h)))
tail_parts [] q m rest h (inr x) = (q ∷ [], x.0, (ap (λ z. q ++ z) x.1, ((h.0, h.1.0), tt), inr x.2))
tail_parts (r ∷ qs) q m rest h x =
    let w = tail_parts qs r x.0 rest x.2 x.3 in
    (q ∷ w.0, w.1, (ap (λ z. q ++ z) x.1 ∙ ap (λ z. q ++ 46 ∷ z) w.2.0 ∙ sym (dotted_more q w.0 w.1), ((h.0, h.1.0), w.2.1), w.2.2))

parts : (l rest : List ℕ) → IsLargeName l rest → (ps : List (List ℕ)) × (n : List ℕ) × IsDotted ps n l rest
parts l rest x =
    let w = tail_parts x.4.0 x.0 x.1 rest x.3 x.4.1 in
    (w.0, w.1, (x.2 ∙ w.2.0, w.2.1, w.2.2))

-- they are characters
characters_append : (a b : List ℕ) → AllCharacters a → AllCharacters b → AllCharacters (a ++ b)
characters_append [] b h k = k
characters_append (c ∷ a) b h k = (h.0, characters_append a b h.1 k)

symbol_is_character : in_part part.Symbol no_character ≡ false
unfolding in_part class_of
symbol_is_character = refl

all_symbols : (l : List ℕ) → AllIn part.Symbol l → AllCharacters l
all_symbols [] h = tt
all_symbols (c ∷ l) h = ((λ e. false≢true (sym symbol_is_character ∙ ap (in_part part.Symbol) (sym e) ∙ h.0)), all_symbols l h.1)

last_characters : (n rest : List ℕ) → IsName class.Large n rest ⊎ IsPlain n rest → AllCharacters n
last_characters n rest (inl h) = all_characters n h.1.0
last_characters n rest (inr h) = ⊎_elim (λ x. all_characters n x.1.0) (λ x. all_symbols n x.1.0) h.0

dotted_characters : (qs : List (List ℕ)) (n : List ℕ) → AreConids qs → AllCharacters n → AllCharacters (dotted (qs ++ n ∷ []))
dotted_characters [] n h k = k
dotted_characters (q ∷ qs) n h k =
    subst AllCharacters (sym (dotted_more q qs n)) (characters_append q (46 ∷ dotted (qs ++ n ∷ [])) (all_characters q h.0.1) ((λ e. absurd (let x : 46 ≡ no_character = e in omega arith)), dotted_characters qs n h.1 k))

all_bytes : (bs : List ℕ) → AllCharacters (characters bs) → bs ≡ encode_utf8_all (characters bs)
all_bytes bs h = sym (take_all (length bs - 0) bs (omega arith)) ∙ text_bytes (characters bs) bs [] (sym (append-nil (characters bs)) ∙ ap (λ z. characters bs ++ z) (sym none)) h

parted : (bs : List ℕ) (qs : List (List ℕ)) (n rest : List ℕ) → IsDotted qs n (characters bs) rest
    → (dotted (qualifier_of (between_dots bs)) ≡ encode_utf8_all (dotted qs)) × (dotted (name_of (between_dots bs)) ≡ encode_utf8_all n)
unfolding IsEnd
parted bs qs n rest h =
    let chars : AllCharacters (characters bs) = subst AllCharacters (sym h.0) (dotted_characters qs n h.1 (last_characters n rest h.2)) in
    let same : bs ≡ dotted (map encode_utf8_all qs ++ encode_utf8_all n ∷ []) = all_bytes bs chars ∙ ap encode_utf8_all h.0 ∙ spelled (qs ++ n ∷ []) ∙ ap dotted (map_last qs n) in
    let end : IsEnd n = last_end n rest h.2 in
    let pieces : between_dots bs ≡ map encode_utf8_all qs ++ end.0 ∷ end.1 = ap between_dots same ∙ pieces_of qs n h.1 ∙ ap (λ z. map encode_utf8_all qs ++ z) end.2 in
    let w = over_qualifier qs end.0 end.1 h.1 in (
      ap (λ z. dotted (qualifier_of z)) pieces ∙ ap dotted (w.0 ∙ ap (λ z. map encode_utf8_all qs ++ z) end.3 ∙ append-nil (map encode_utf8_all qs)) ∙ sym (spelled qs),
      ap (λ z. dotted (name_of z)) pieces ∙ ap dotted (w.1 ∙ end.4 ∙ sym end.2) ∙ whole (encode_utf8_all n),
    )

pub names_are_parted : NamesAreParted
unfolding name_ref
names_are_parted t rest x =
    let p = parts (characters t.text) rest x in
    let w = parted t.text p.0 p.1 rest p.2 in
    (p.0, p.1, p.2, w.0, w.1)

-- Segments: what is in them, and texts with one byte in the place of another.
use Rattle.std.proofs.Common.{◌≡◌, ℕ, ◌<◌, Bool, true, false, not, ◌&&◌, cond, nat_eq, List, [], ◌∷◌, map, get_or, IsUtf8, chars, refl, ap, sym, subst, ◌∙◌, eqb-true, eq-eqb, ne_eqb, inl, inr, arith, lit<}
use Rattle.std.specs.List.{list_all, slice_split, onto_first}
use Rattle.std.specs.Str.{is_utf8, NonePass, NoCharPasses}
use Rattle.std.proofs.lemmas.Bool.{and_parts, and_from, cases_Bool, not-true, both_ways, false_from_ne_true, not_from_false}
use Rattle.std.proofs.lemmas.List.Sums.{list_all-from_AllPass}
use Rattle.std.proofs.lemmas.List.{get_or_default}
use Rattle.std.proofs.lemmas.Str.{IsUtf8-from_is_utf8, is_utf8-from_IsUtf8, encodes-chars, NoCharPasses-byte}
use Rattle.mk_base.specs.Classes.{class_of}
use Rattle.mk_base.specs.Paths.{is_large, is_in_conid, is_conid, is_segment, in_place_of}

-- ---- the code's steps

pub conid_step : (text rest : List ℕ) (c : ℕ) (b : Bool) → chars text ≡ c ∷ chars rest → is_large (class_of c) ≡ true → b ≡ list_all is_in_conid (chars rest) → b ≡ is_conid (chars text)
conid_step text rest c b e l h = h ∙ sym (ap (λ t. t && list_all is_in_conid (chars rest)) l) ∙ ap is_conid (sym e)

pub segment_of_text : (part : List ℕ) (b : Bool) → IsUtf8 part → b ≡ is_conid (chars part) → b ≡ is_segment part
segment_of_text part b u h = h ∙ ap (λ t. t && is_conid (chars part)) (sym (is_utf8-from_IsUtf8 part u))

pub no_segment : (part : List ℕ) → (IsUtf8 part → ⊥) → false ≡ is_segment part
no_segment part h = ap (λ t. t && is_conid (chars part)) (sym (false_from_ne_true (is_utf8 part) (λ e. h (IsUtf8-from_is_utf8 part e))))

-- ---- a byte that no segment has

abbrev pub lacks : ℕ → List ℕ → Bool
lacks b text = list_all (λ x. not (nat_eq x b)) text

none_in_conid : (b : ℕ) (cs : List ℕ) → is_in_conid b ≡ false → list_all is_in_conid cs ≡ true → NonePass (λ d. nat_eq d b) cs
none_in_conid b [] n h = tt
none_in_conid b (c ∷ cs) n h =
    let p : (is_in_conid c ≡ true) × (list_all is_in_conid cs ≡ true) = and_parts (is_in_conid c) (list_all is_in_conid cs) h in
    (ne_eqb c b (λ e. both_ways (is_in_conid b) n (subst (λ x. is_in_conid x ≡ true) e p.0)), none_in_conid b cs n p.1)

none_of_conid : (b : ℕ) (cs : List ℕ) → is_large (class_of b) ≡ false → is_in_conid b ≡ false → is_conid cs ≡ true → NonePass (λ d. nat_eq d b) cs
none_of_conid b [] l n h = tt
none_of_conid b (c ∷ cs) l n h =
    let p : (is_large (class_of c) ≡ true) × (list_all is_in_conid cs ≡ true) = and_parts (is_large (class_of c)) (list_all is_in_conid cs) h in
    (ne_eqb c b (λ e. both_ways (is_large (class_of b)) l (subst (λ x. is_large (class_of x) ≡ true) e p.0)), none_in_conid b cs n p.1)

segment_lacks : (b : ℕ) (part : List ℕ) → b < 128 → is_large (class_of b) ≡ false → is_in_conid b ≡ false → is_segment part ≡ true → lacks b part ≡ true
segment_lacks b part small l n h =
    let p : (is_utf8 part ≡ true) × (is_conid (chars part) ≡ true) = and_parts (is_utf8 part) (is_conid (chars part)) h in
    let none : NoCharPasses (λ d. nat_eq d b) part = (chars part, encodes-chars part (IsUtf8-from_is_utf8 part p.0), none_of_conid b (chars part) l n p.1) in
    list_all-from_AllPass (λ x. not (nat_eq x b)) part (λ k d at.
    let e : get_or part k d ≡ get_or part k 0 = get_or_default part k d 0 at in
    not_from_false (nat_eq (get_or part k d) b) (ne_eqb (get_or part k d) b (λ is.
    let f : get_or part k 0 ≡ b = sym e ∙ is in
    let g : nat_eq (get_or part k 0) b ≡ false = NoCharPasses-byte (λ d. nat_eq d b) part k none at (omega arith) in
    both_ways (nat_eq (get_or part k 0) b) g (eq-eqb (get_or part k 0) b f))))

onto_lacks : (b x : ℕ) (ps : List (List ℕ)) → list_all (lacks b) (onto_first x ps) ≡ true → (not (nat_eq x b) ≡ true) × (list_all (lacks b) ps ≡ true)
onto_lacks b x [] h = ((and_parts (not (nat_eq x b)) true (and_parts (not (nat_eq x b) && true) true h).0).0, refl)
onto_lacks b x (p ∷ ps) h =
    let q : ((not (nat_eq x b) && lacks b p) ≡ true) × (list_all (lacks b) ps ≡ true) = and_parts (not (nat_eq x b) && lacks b p) (list_all (lacks b) ps) h in
    let r : (not (nat_eq x b) ≡ true) × (lacks b p ≡ true) = and_parts (not (nat_eq x b)) (lacks b p) q.0 in
    (r.0, and_from (lacks b p) (list_all (lacks b) ps) r.1 q.1)

-- a text lacks what all its pieces lack
pieces_lack : (a b : ℕ) (text : List ℕ) → nat_eq a b ≡ false → list_all (lacks b) (slice_split (λ x. nat_eq x a) text) ≡ true → lacks b text ≡ true
pieces_lack a b [] n h = refl
pieces_lack a b (x ∷ xs) n h =
    let parts : List (List ℕ) = slice_split (λ x. nat_eq x a) xs in
    let both : (not (nat_eq x b) ≡ true) × (list_all (lacks b) parts ≡ true) =
    elim (cases_Bool (nat_eq x a)) [
      | inl e ↦
          let k : list_all (lacks b) (cond true ([] ∷ parts) (onto_first x parts)) ≡ true = subst (λ t. list_all (lacks b) (cond t ([] ∷ parts) (onto_first x parts)) ≡ true) e h in
          let is : x ≡ a = eqb-true x a e in
          (subst (λ y. not (nat_eq y b) ≡ true) (sym is) (not_from_false (nat_eq a b) n), k)
      | inr e ↦ onto_lacks b x parts (subst (λ t. list_all (lacks b) (cond t ([] ∷ parts) (onto_first x parts)) ≡ true) e h)
    ] in
    and_from (not (nat_eq x b)) (lacks b xs) both.0 (pieces_lack a b xs n both.1)

segments_lack : (b : ℕ) (parts : List (List ℕ)) → b < 128 → is_large (class_of b) ≡ false → is_in_conid b ≡ false → list_all is_segment parts ≡ true → list_all (lacks b) parts ≡ true
segments_lack b [] small l n h = refl
segments_lack b (p ∷ ps) small l n h =
    let q : (is_segment p ≡ true) × (list_all is_segment ps ≡ true) = and_parts (is_segment p) (list_all is_segment ps) h in
    and_from (lacks b p) (list_all (lacks b) ps) (segment_lacks b p small l n q.0) (segments_lack b ps small l n q.1)

-- segments with slashes between them have no dot, and with dots between them no slash
pub no_dot : (text : List ℕ) → list_all is_segment (slice_split (λ x. nat_eq x 47) text) ≡ true → lacks 46 text ≡ true
unfolding class_of
no_dot text h = pieces_lack 47 46 text refl (segments_lack 46 (slice_split (λ x. nat_eq x 47) text) (lit< tt) refl refl h)

pub no_slash : (text : List ℕ) → list_all is_segment (slice_split (λ x. nat_eq x 46) text) ≡ true → lacks 47 text ≡ true
unfolding class_of
no_slash text h = pieces_lack 46 47 text refl (segments_lack 47 (slice_split (λ x. nat_eq x 46) text) (lit< tt) refl refl h)

-- ---- one byte in the place of another

back_at : (a b x : ℕ) → nat_eq x b ≡ false → in_place_of b a (in_place_of a b x) ≡ x
back_at a b x n = elim (cases_Bool (nat_eq x a)) [
  | inl e ↦
      let is : x ≡ a = eqb-true x a e in
      let put : in_place_of a b x ≡ b = ap (λ t. cond t b x) e in
      ap (in_place_of b a) put ∙ ap (λ t. cond t a b) (eq-eqb b b refl) ∙ sym is
  | inr e ↦
      let kept : in_place_of a b x ≡ x = ap (λ t. cond t b x) e in
      ap (in_place_of b a) kept ∙ ap (λ t. cond t a x) n
]

pub back : (a b : ℕ) (text : List ℕ) → lacks b text ≡ true → map (in_place_of b a) (map (in_place_of a b) text) ≡ text
back a b [] h = refl
back a b (x ∷ xs) h =
    let p : (not (nat_eq x b) ≡ true) × (lacks b xs ≡ true) = and_parts (not (nat_eq x b)) (lacks b xs) h in
    let here : in_place_of b a (in_place_of a b x) ≡ x = back_at a b x (not-true (nat_eq x b) p.0) in
    let rest : map (in_place_of b a) (map (in_place_of a b) xs) ≡ xs = back a b xs p.1 in
    cc

-- the pieces stay when the byte at which a text is cut is another, which the text lacks
pub same_pieces : (a b : ℕ) (text : List ℕ) → lacks b text ≡ true → slice_split (λ x. nat_eq x b) (map (in_place_of a b) text) ≡ slice_split (λ x. nat_eq x a) text
same_pieces a b [] h = refl
same_pieces a b (x ∷ xs) h =
    let p : (not (nat_eq x b) ≡ true) × (lacks b xs ≡ true) = and_parts (not (nat_eq x b)) (lacks b xs) h in
    let new : List (List ℕ) = slice_split (λ x. nat_eq x b) (map (in_place_of a b) xs) in
    let old : List (List ℕ) = slice_split (λ x. nat_eq x a) xs in
    let rest : new ≡ old = same_pieces a b xs p.1 in
    let y : ℕ = in_place_of a b x in
    elim (cases_Bool (nat_eq x a)) [
      | inl e ↦
          let put : y ≡ b = ap (λ t. cond t b x) e in
          let cut : nat_eq y b ≡ true = eq-eqb y b put in
          ap (λ t. cond t ([] ∷ new) (onto_first y new)) cut ∙ ap (λ ps. [] ∷ ps) rest ∙ sym (ap (λ t. cond t ([] ∷ old) (onto_first x old)) e)
      | inr e ↦
          let kept : y ≡ x = ap (λ t. cond t b x) e in
          let uncut : nat_eq y b ≡ false = ap (λ z. nat_eq z b) kept ∙ not-true (nat_eq x b) p.0 in
          ap (λ t. cond t ([] ∷ new) (onto_first y new)) uncut ∙ ap (λ z. onto_first z new) kept ∙ ap (onto_first x) rest ∙ sym (ap (λ t. cond t ([] ∷ old) (onto_first x old)) e)
    ]

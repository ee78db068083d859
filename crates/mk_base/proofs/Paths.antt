-- The path of a node, and the node of a path.
use Rattle.std.proofs.Common.{◌≡◌, ◌↔◌, ℕ, ◌-◌, ◌<◌, Bool, true, false, not, ◌&&◌, cond, List, ◌∷◌, ◌++◌, length, take, drop, codes, bytes_eq, Option, Some, None, MatchOption, Result, Ok, Err, IfOk, refl, ap, sym, subst, ◌∙◌, inl, inr, arith, lit<, take-append-drop, append_assoc}
use Rattle.std.specs.List.{list_all}
use Rattle.std.proofs.lemmas.Bool.{and_parts, and_from, cases_Bool, not-true, both_ways, false_from_ne_true, not_from_false}
use Rattle.std.proofs.lemmas.List.{append_cancel_right}
use Rattle.std.proofs.lemmas.List.Prefix.{end_rest}
use Rattle.std.proofs.lemmas.Slice.Eq.{bytes_eq-Decides}
use Rattle.mk_base.specs.declared.name.Node.{Node}
use Rattle.mk_base.specs.Paths.{is_segment, pieces, IsName, IsModule, slashed, dotted, path_end, IsModulePath, iface_end, iface_name, ends_with, stem, node_at, node_of}
use Rattle.mk_base.proofs.Segments.{lacks, no_dot, no_slash, back, same_pieces}

-- ---- ends

parted : (end path : List ℕ) → ends_with end path ≡ true → path ≡ stem end path ++ end
parted end path h =
    let k : ℕ = length path - length end in
    let e : drop k path ≡ end = (bytes_eq-Decides (drop k path) end).0 h in
    sym (take-append-drop k path) ∙ ap (λ r. take k path ++ r) e

has_end : (end path front : List ℕ) → path ≡ front ++ end → ends_with end path ≡ true
has_end end path front e = (bytes_eq-Decides (drop (length path - length end) path) end).1 (end_rest path end front e)

has_stem : (end path front : List ℕ) → path ≡ front ++ end → stem end path ≡ front
has_stem end path front e = append_cancel_right (stem end path) front end (sym (parted end path (has_end end path front e)) ∙ e)

-- no text ends in two ways
apart : (xs ys e f : List ℕ) → length e ≡ length f → xs ++ e ≡ ys ++ f → e ≡ f
apart xs ys e f n h =
    let p : drop (length (xs ++ e) - length e) (xs ++ e) ≡ e = end_rest (xs ++ e) e xs refl in
    let q : drop (length (xs ++ e) - length f) (xs ++ e) ≡ f = end_rest (xs ++ e) f ys h in
    sym p ∙ ap (λ k. drop (length (xs ++ e) - k) (xs ++ e)) n ∙ q

other_first : (x y : ℕ) (xs ys : List ℕ) → x < y → x ∷ xs ≡ y ∷ ys → ⊥
other_first x y xs ys h e =
    let same : x ≡ y = cc in
    omega arith

no_boot : (path front : List ℕ) → path ≡ front ++ codes ".hs" → ends_with (codes ".hs-boot") path ≡ false
no_boot path front e = false_from_ne_true (ends_with (codes ".hs-boot") path) (λ h.
    let s : List ℕ = stem (codes ".hs-boot") path in
    let f : front ++ codes ".hs" ≡ (s ++ codes ".hs-b") ++ codes "oot" = sym e ∙ parted (codes ".hs-boot") path h ∙ sym (append_assoc s (codes ".hs-b") (codes "oot")) in
    other_first 46 111 (codes "hs") (codes "ot") (lit< tt) (apart front (s ++ codes ".hs-b") (codes ".hs") (codes "oot") refl f))

-- ---- the node in front of the end

abbrev node : Bool → List ℕ → Node
node boot front = record { «module» = record { text = dotted front }; boot = boot }

abbrev is_front : List ℕ → Bool
is_front front = list_all is_segment (pieces 47 front) && not (bytes_eq front (codes "Prim"))

module_of_front : (boot : Bool) (front : List ℕ) → is_front front ≡ true → IsModulePath (front ++ path_end boot) (node boot front)
module_of_front boot front h =
    let p : (list_all is_segment (pieces 47 front) ≡ true) × (not (bytes_eq front (codes "Prim")) ≡ true) = and_parts (list_all is_segment (pieces 47 front)) (not (bytes_eq front (codes "Prim"))) h in
    let lacking : lacks 46 front ≡ true = no_dot front p.0 in
    let round : slashed (dotted front) ≡ front = back 47 46 front lacking in
    let name : IsName (dotted front) = ap (list_all is_segment) (same_pieces 47 46 front lacking) ∙ p.0 in (
      (
        name,
        λ e.
            let is : front ≡ codes "Prim" = sym round ∙ ap slashed e in
            both_ways (bytes_eq front (codes "Prim")) (not-true (bytes_eq front (codes "Prim")) p.1) ((bytes_eq-Decides front (codes "Prim")).1 is),
      ),
      sym (ap (λ t. t ++ path_end boot) round),
    )

front_of_module : (n : Node) → IsModule n → node_at n.boot (slashed n.«module».text) ≡ Some n
front_of_module n m =
    let t : List ℕ = n.«module».text in
    let lacking : lacks 47 t ≡ true = no_slash t m.0 in
    let round : dotted (slashed t) ≡ t = back 46 47 t lacking in
    let parts : list_all is_segment (pieces 47 (slashed t)) ≡ true = ap (list_all is_segment) (same_pieces 46 47 t lacking) ∙ m.0 in
    let other : bytes_eq (slashed t) (codes "Prim") ≡ false = false_from_ne_true (bytes_eq (slashed t) (codes "Prim")) (λ h.
    m.1 (sym round ∙ ap dotted ((bytes_eq-Decides (slashed t) (codes "Prim")).0 h))) in
    let test : is_front (slashed t) ≡ true = and_from (list_all is_segment (pieces 47 (slashed t))) (not (bytes_eq (slashed t) (codes "Prim"))) parts (not_from_false (bytes_eq (slashed t) (codes "Prim")) other) in
    let some : node_at n.boot (slashed t) ≡ Some (node n.boot (slashed t)) = ap (λ b. cond b (Some (node n.boot (slashed t))) None) test in
    let same : node n.boot (slashed t) ≡ n = ap (λ (x : List ℕ). let r : Node = record { «module» = record { text = x }; boot = n.boot } in r) round in
    some ∙ ap Some same

is_at : (boot : Bool) (front : List ℕ) (n : Node) → node_at boot front ≡ Some n → IsModulePath (front ++ path_end boot) n
is_at boot front n h = elim (cases_Bool (is_front front)) [
  | inl e ↦
      let some : Some (node boot front) ≡ Some n = sym (ap (λ b. cond b (Some (node boot front)) None) e) ∙ h in
      let same : node boot front ≡ n = cc in
      subst (λ (k : Node). IsModulePath (front ++ path_end boot) k) same (module_of_front boot front e)
  | inr e ↦
      let none : None ≡ Some n = sym (ap (λ b. cond b (Some (node boot front)) None) e) ∙ h in
      absurd (cc)
]

-- ---- the laws

node_is : (path : List ℕ) (n : Node) → node_of path ≡ Some n → IsModulePath path n
unfolding node_of
node_is path n h = elim (cases_Bool (ends_with (codes ".hs-boot") path)) [
  | inl e ↦
      let at : node_at true (stem (codes ".hs-boot") path) ≡ Some n = sym (ap (λ b. cond b (node_at true (stem (codes ".hs-boot") path)) (cond (ends_with (codes ".hs") path) (node_at false (stem (codes ".hs") path)) None)) e) ∙ h in
      subst (λ p. IsModulePath p n) (sym (parted (codes ".hs-boot") path e)) (is_at true (stem (codes ".hs-boot") path) n at)
  | inr e ↦
      let rest : cond (ends_with (codes ".hs") path) (node_at false (stem (codes ".hs") path)) None ≡ Some n = sym (ap (λ b. cond b (node_at true (stem (codes ".hs-boot") path)) (cond (ends_with (codes ".hs") path) (node_at false (stem (codes ".hs") path)) None)) e) ∙ h in
      elim (cases_Bool (ends_with (codes ".hs") path)) [
        | inl f ↦
            let at : node_at false (stem (codes ".hs") path) ≡ Some n = sym (ap (λ b. cond b (node_at false (stem (codes ".hs") path)) None) f) ∙ rest in
            subst (λ p. IsModulePath p n) (sym (parted (codes ".hs") path f)) (is_at false (stem (codes ".hs") path) n at)
        | inr f ↦
            let none : None ≡ Some n = sym (ap (λ b. cond b (node_at false (stem (codes ".hs") path)) None) f) ∙ rest in
            absurd (cc)
      ]
]

read_boot : (path front : List ℕ) → path ≡ front ++ codes ".hs-boot" → node_of path ≡ node_at true front
unfolding node_of
read_boot path front e =
    ap (λ b. cond b (node_at true (stem (codes ".hs-boot") path)) (cond (ends_with (codes ".hs") path) (node_at false (stem (codes ".hs") path)) None)) (has_end (codes ".hs-boot") path front e)
    ∙ ap (node_at true) (has_stem (codes ".hs-boot") path front e)

read_real : (path front : List ℕ) → path ≡ front ++ codes ".hs" → node_of path ≡ node_at false front
unfolding node_of
read_real path front e =
    ap (λ b. cond b (node_at true (stem (codes ".hs-boot") path)) (cond (ends_with (codes ".hs") path) (node_at false (stem (codes ".hs") path)) None)) (no_boot path front e)
    ∙ ap (λ b. cond b (node_at false (stem (codes ".hs") path)) None) (has_end (codes ".hs") path front e)
    ∙ ap (node_at false) (has_stem (codes ".hs") path front e)

read_end : (boot : Bool) (path front : List ℕ) → path ≡ front ++ path_end boot → node_of path ≡ node_at boot front
read_end true path front e = read_boot path front e
read_end false path front e = read_real path front e

pub node_reads : (path : List ℕ) (n : Node) → IsModulePath path n → node_of path ≡ Some n
node_reads path n h = read_end n.boot path (slashed n.«module».text) h.1 ∙ front_of_module n h.0

pub path_is_its_spelling : (path : List ℕ) (n : Node) → (node_of path ≡ Some n) ↔ IsModulePath path n
path_is_its_spelling path n = (node_is path n, node_reads path n)

-- what a reading says of the spelling
spelled_option : (path : List ℕ) (o : Option Node) → o ≡ node_of path → MatchOption o ((n : Node) → IsModulePath path n → ⊥) (λ n. IsModulePath path n)
spelled_option path None e = λ n h.
    let some : None ≡ Some n = e ∙ node_reads path n h in
    (cc)
spelled_option path (Some n) e = node_is path n (sym e)

pub spelled : {E : Type 0} (path : List ℕ) (r : Result (Option Node) E) → IfOk r (λ o. o ≡ node_of path) → IfOk r (λ o. MatchOption o ((n : Node) → IsModulePath path n → ⊥) (λ n. IsModulePath path n))
spelled path (Ok o) e = spelled_option path o e
spelled path (Err x) e = tt

same_end : (a b : Bool) (s t : List ℕ) → s ++ iface_end a ≡ t ++ iface_end b → (s ≡ t) × (a ≡ b)
same_end true true s t h = (append_cancel_right s t (codes ".hsi-boot") h, refl)
same_end false false s t h = (append_cancel_right s t (codes ".hsi") h, refl)
same_end true false s t h =
    absurd (other_first 46 98 (codes "hsi") (codes "oot") (lit< tt) (apart t (s ++ codes ".hsi-") (codes ".hsi") (codes "boot") refl (sym (append_assoc s (codes ".hsi-") (codes "boot") ∙ h))))
same_end false true s t h =
    absurd (other_first 46 98 (codes "hsi") (codes "oot") (lit< tt) (apart s (t ++ codes ".hsi-") (codes ".hsi") (codes "boot") refl (h ∙ sym (append_assoc t (codes ".hsi-") (codes "boot")))))

pub iface_names_differ : (m n : Node) → iface_name m ≡ iface_name n → m ≡ n
iface_names_differ m n h =
    let p : (m.«module».text ≡ n.«module».text) × (m.boot ≡ n.boot) = same_end m.boot n.boot m.«module».text n.«module».text h in
    let one : m ≡ record { «module» = record { text = n.«module».text }; boot = m.boot } = ap (λ (x : List ℕ). let r : Node = record { «module» = record { text = x }; boot = m.boot } in r) p.0 in
    one ∙ ap (λ (b : Bool). let r : Node = record { «module» = n.«module»; boot = b } in r) p.1

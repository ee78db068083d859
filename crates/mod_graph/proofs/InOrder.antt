-- Diagnostics put in order rise, each once, and a list that rises is the only one with its members that does.
use Rattle.std.proofs.Common.{◌≡◌, ◌⊎◌, ℕ, List, [], ◌∷◌, ◌++◌, slice_get, Option, Some, None, refl, ap, sym, ◌∙◌, subst, inl, inr}
use Rattle.std.specs.List.{AllByRecursion, Contains, flat_map}
use Rattle.std.specs.Option.{option_map_or}
use Rattle.std.specs.Cmp.{IsTotalOrder}
use Rattle.std.specs.Cmp.Lexicographic.{texts_ties}
use Rattle.std.specs.Ordering.{is_eq, ordering_then, ordering_reverse, nat_cmp}
use Rattle.std.specs.declared.cmp.Ordering.{Ordering}
use Rattle.std.specs.declared.cmp.Ordering.TheVariants.{Less, Equal, Greater}
use Rattle.std.proofs.lemmas.Cmp.{then_total, on_total, nat_cmp_total, nat_list_cmp_total, tied_itself, ranked}
use Rattle.std.proofs.lemmas.Slice.Eq.{bytes_eq-Decides}
use Rattle.mk_base.specs.Order.{diag_cmp, pos_cmp, text_cmp}
use Rattle.mk_base.specs.declared.diag.Diag.{Diag}
use Rattle.mk_base.specs.declared.name.Node.{Node}
use Rattle.mk_base.specs.declared.place.Pos.{Pos}
use Rattle.mod_graph.specs.Entries.{diag_at}
use Rattle.mod_graph.specs.Edges.{number_of}
use Rattle.mod_graph.specs.Errors.{put_by, put_in, in_order, alone_errors, import_errors, cycle_errors, entry_errors, errors_of, node_errors}
use Rattle.package_graph.specs.declared.modules.PackageModule.{PackageModule}
use Rattle.mod_graph.specs.declared.entries.Entry.{Entry}
use Rattle.package_graph.proofs.Members.{here, later, nothing_in, first_or_later}
use Rattle.mk_base.specs.Order.{AreInOrder}

pos_total : IsTotalOrder pos_cmp
pos_total = then_total (on_total (λ (p : Pos). p.line) nat_cmp_total) (on_total (λ (p : Pos). p.col) nat_cmp_total)

pub diag_total : IsTotalOrder diag_cmp
diag_total = then_total (on_total (λ (d : Diag). d.at) pos_total) (then_total (on_total (λ (d : Diag). d.code) nat_cmp_total) (on_total (λ (d : Diag). d.text) nat_list_cmp_total))

then_equal : (o p : Ordering) → ordering_then o p ≡ Equal → (o ≡ Equal) × (p ≡ Equal)
then_equal Less p e = absurd (let h : ⊥ = cc in h)
then_equal Equal p e = (refl, e)
then_equal Greater p e = absurd (let h : ⊥ = cc in h)

same_number : (a b : ℕ) → nat_cmp a b ≡ Equal → a ≡ b
same_number a b e = ranked a b Equal (sym e)

same_text : (a b : List ℕ) → text_cmp a b ≡ Equal → a ≡ b
same_text a b e = (bytes_eq-Decides a b).0 (texts_ties a b ∙ ap is_eq e)

abbrev pos_of : ℕ → ℕ → Pos
pos_of line col = record { line = line; col = col }

same_pos : (p q : Pos) → pos_cmp p q ≡ Equal → p ≡ q
same_pos p q e =
    let s = then_equal (nat_cmp p.line q.line) (nat_cmp p.col q.col) e in
    ap (λ n. pos_of n p.col) (same_number p.line q.line s.0) ∙ ap (pos_of q.line) (same_number p.col q.col s.1)

-- diagnostics that are told apart by nothing are the same
pub same_diag : (c d : Diag) → diag_cmp c d ≡ Equal → c ≡ d
same_diag c d e =
    let s = then_equal (pos_cmp c.at d.at) (ordering_then (nat_cmp c.code d.code) (text_cmp c.text d.text)) e in
    let t = then_equal (nat_cmp c.code d.code) (text_cmp c.text d.text) s.1 in
    ap (λ p. diag_at p c.code c.text) (same_pos c.at d.at s.0) ∙ ap (λ n. diag_at d.at n c.text) (same_number c.code d.code t.0) ∙ ap (diag_at d.at d.code) (same_text c.text d.text t.1)

-- greater is less, turned
turned : (c d : Diag) → diag_cmp c d ≡ Greater → diag_cmp d c ≡ Less
turned c d e = diag_total.antisymm d c ∙ ap ordering_reverse e

never_itself : (d : Diag) → diag_cmp d d ≡ Less → ⊥
never_itself d e = let t : diag_cmp d d ≡ Equal = tied_itself diag_total d in let h : Less ≡ Equal = sym e ∙ t in let f : ⊥ = cc in f

all_map : (P Q : Diag → Type 0) (ds : List Diag) → ((d : Diag) → P d → Q d) → AllByRecursion P ds → AllByRecursion Q ds
all_map P Q [] f h = tt
all_map P Q (d ∷ ds) f h = (f d h.0, all_map P Q ds f h.1)

by_order : {G : Type 0} (o : Ordering) → (o ≡ Less → G) → (o ≡ Equal → G) → (o ≡ Greater → G) → G
by_order Less f g h = f refl
by_order Equal f g h = g refl
by_order Greater f g h = h refl

-- what putting a diagnostic before, onto or behind another does
placed : (P : List Diag → Type 0) (o : Ordering) (d e : Diag) (es rest : List Diag)
    → (o ≡ Less → P (d ∷ e ∷ es)) → (o ≡ Equal → P (e ∷ es)) → (o ≡ Greater → P (e ∷ rest)) → P (put_by o d e es rest)
placed P Less d e es rest f g h = f refl
placed P Equal d e es rest f g h = g refl
placed P Greater d e es rest f g h = h refl

put_all : (P : Diag → Type 0) (d : Diag) (es : List Diag) → P d → AllByRecursion P es → AllByRecursion P (put_in d es)
put_all P d [] p h = (p, tt)
put_all P d (e ∷ es) p h =
    let rest : AllByRecursion P (put_in d es) = put_all P d es p h.1 in
    placed (AllByRecursion P) (diag_cmp d e) d e es (put_in d es) (λ _. (p, h)) (λ _. h) (λ _. (h.0, rest))

put_rises : (d : Diag) (es : List Diag) → AreInOrder es → AreInOrder (put_in d es)
put_rises d [] s = (tt, tt)
put_rises d (e ∷ es) s =
    let rest : AreInOrder (put_in d es) = put_rises d es s.1 in
    placed AreInOrder (diag_cmp d e) d e es (put_in d es)
    (λ less. ((less, all_map (λ f. diag_cmp e f ≡ Less) (λ f. diag_cmp d f ≡ Less) es (λ f. diag_total.trans d e f less) s.0), s))
    (λ _. s)
    (λ more. (put_all (λ f. diag_cmp e f ≡ Less) d es (turned d e more) s.0, rest))

-- diagnostics put in order rise
pub in_order_rises : (ds : List Diag) → AreInOrder (in_order ds)
in_order_rises [] = tt
in_order_rises (d ∷ ds) = put_rises d (in_order ds) (in_order_rises ds)

put_kept : (d : Diag) (es : List Diag) → Contains (put_in d es) d
put_kept d [] = here d []
put_kept d (e ∷ es) =
    let rest : Contains (put_in d es) d = put_kept d es in
    placed (λ fs. Contains fs d) (diag_cmp d e) d e es (put_in d es)
    (λ _. here d (e ∷ es)) (λ same. subst (Contains (e ∷ es)) (sym (same_diag d e same)) (here e es)) (λ _. later e d (put_in d es) rest)

others_kept : (d : Diag) (es : List Diag) (c : Diag) → Contains es c → Contains (put_in d es) c
others_kept d [] c h = absurd (nothing_in c h)
others_kept d (e ∷ es) c h =
    let rest : Contains es c → Contains (put_in d es) c = others_kept d es c in
    placed (λ fs. Contains fs c) (diag_cmp d e) d e es (put_in d es) (λ _. later d c (e ∷ es) h) (λ _. h)
    (λ _. elim (first_or_later e c es h) [ inl is ↦ subst (Contains (e ∷ put_in d es)) is (here e (put_in d es)) | inr k ↦ later e c (put_in d es) (rest k) ])

none_made : (d : Diag) (es : List Diag) (c : Diag) → Contains (put_in d es) c → (d ≡ c) ⊎ Contains es c
none_made d [] c h = first_or_later d c [] h
none_made d (e ∷ es) c h =
    let rest : Contains (put_in d es) c → (d ≡ c) ⊎ Contains es c = none_made d es c in
    placed (λ fs. Contains fs c → (d ≡ c) ⊎ Contains (e ∷ es) c) (diag_cmp d e) d e es (put_in d es)
    (λ _ k. first_or_later d c (e ∷ es) k) (λ _ k. inr k)
    (λ _ k. elim (first_or_later e c (put_in d es) k) [
      | inl is ↦ inr (subst (Contains (e ∷ es)) is (here e es))
      | inr j ↦ elim (rest j) [ inl is ↦ inl is | inr i ↦ inr (later e c es i) ]
    ]) h

-- putting diagnostics in order keeps each of them
pub in_order_keeps : (ds : List Diag) (c : Diag) → Contains ds c → Contains (in_order ds) c
in_order_keeps [] c h = absurd (nothing_in c h)
in_order_keeps (d ∷ ds) c h = elim (first_or_later d c ds h) [
  | inl is ↦ subst (Contains (put_in d (in_order ds))) is (put_kept d (in_order ds))
  | inr k ↦ others_kept d (in_order ds) c (in_order_keeps ds c k)
]

-- and makes none
pub in_order_makes_none : (ds : List Diag) (c : Diag) → Contains (in_order ds) c → Contains ds c
in_order_makes_none [] c h = h
in_order_makes_none (d ∷ ds) c h = elim (none_made d (in_order ds) c h) [
  | inl is ↦ subst (Contains (d ∷ ds)) is (here d ds)
  | inr k ↦ later d c ds (in_order_makes_none ds c k)
]

all_at : (P : Diag → Type 0) (ds : List Diag) (c : Diag) → Contains ds c → AllByRecursion P ds → P c
all_at P [] c h s = absurd (nothing_in c h)
all_at P (d ∷ ds) c h s = elim (first_or_later d c ds h) [ inl is ↦ subst P is s.0 | inr k ↦ all_at P ds c k s.1 ]

-- what is behind the first stays behind it in another list with the same members
behind : (d : Diag) (ds es : List Diag) → AllByRecursion (λ f. diag_cmp d f ≡ Less) ds → ((c : Diag) → Contains (d ∷ ds) c → Contains (d ∷ es) c) → (c : Diag) → Contains ds c → Contains es c
behind d ds es s f c h = elim (first_or_later d c es (f c (later d c ds h))) [
  | inl is ↦ absurd (never_itself d (subst (λ x. diag_cmp d x ≡ Less) (sym is) (all_at (λ x. diag_cmp d x ≡ Less) ds c h s)))
  | inr k ↦ k
]

first_is_first : (d e : Diag) (ds es : List Diag) → AreInOrder (d ∷ ds) → AreInOrder (e ∷ es) → Contains (d ∷ ds) e → Contains (e ∷ es) d → d ≡ e
first_is_first d e ds es s t h k = elim (first_or_later d e ds h) [
  | inl is ↦ is
  | inr j ↦ elim (first_or_later e d es k) [
    | inl is ↦ sym is
    | inr i ↦
        let up : diag_cmp d e ≡ Less = all_at (λ x. diag_cmp d x ≡ Less) ds e j s.0 in
        let down : diag_cmp e d ≡ Less = all_at (λ x. diag_cmp e x ≡ Less) es d i t.0 in
        absurd (never_itself d (diag_total.trans d e d up down))
  ]
]

-- two lists in order with the same members are the same
pub one_in_order : (ds es : List Diag) → AreInOrder ds → AreInOrder es → ((c : Diag) → Contains ds c → Contains es c) → ((c : Diag) → Contains es c → Contains ds c) → ds ≡ es
one_in_order [] [] s t f g = refl
one_in_order [] (e ∷ es) s t f g = absurd (nothing_in e (g e (here e es)))
one_in_order (d ∷ ds) [] s t f g = absurd (nothing_in d (f d (here d ds)))
one_in_order (d ∷ ds) (e ∷ es) s t f g =
    let heads : d ≡ e = first_is_first d e ds es s t (g e (here e es)) (f d (here d ds)) in
    let forth : (c : Diag) → Contains (d ∷ ds) c → Contains (d ∷ es) c = λ c h. subst (λ x. Contains (x ∷ es) c) (sym heads) (f c h) in
    let back : (c : Diag) → Contains (e ∷ es) c → Contains (e ∷ ds) c = λ c h. subst (λ x. Contains (x ∷ ds) c) heads (g c h) in
    ap (λ x. x ∷ ds) heads ∙ ap (λ xs. e ∷ xs) (one_in_order ds es s.1 t.1 (behind d ds es s.0 forth) (behind e es ds t.0 back))

abbrev Entries : Type 0
Entries = List Entry

of_entry : (es : Entries) (ps : List PackageModule) (a : ℕ) (found : Option Entry) → AreInOrder (option_map_or (entry_errors es ps a) found [])
of_entry es ps a None = tt
of_entry es ps a (Some e) = in_order_rises (e.own ++ (alone_errors es ps e.node ++ (flat_map (import_errors es ps) e.imports ++ cycle_errors es ps a e)))

of_number : (es : Entries) (ps : List PackageModule) (found : Option ℕ) → AreInOrder (option_map_or (errors_of es ps) found [])
of_number es ps None = tt
of_number es ps (Some a) = of_entry es ps a (slice_get es a)

-- the diagnostics of a node rise
pub errors_rise : (es : Entries) (ps : List PackageModule) (n : Node) → AreInOrder (node_errors es ps n)
errors_rise es ps n = of_number es ps (number_of es n)

-- What it does to the classes that one root is linked to another.
use Rattle.std.proofs.Common.{ℕ, zero, suc, ◌+◌, ◌≡◌, ◌≢◌, ◌⊎◌, ◌<◌, ◌≤◌, ◌↔◌, List, length, refl, sym, ap, ◌∙◌, inl, inr, subst, arith, if◌then◌else◌}
use Rattle.std.proofs.lemmas.Bool.{cases_eq}
use Rattle.unifiers.specs.Term.{Term}
use Rattle.term_classes.specs.declared.node.Slot.{Slot}
use Rattle.term_classes.specs.declared.node.Saved.{Saved}
use Rattle.term_classes.specs.declared.node.Pair.{Pair}
use Rattle.term_classes.specs.declared.node.Node.{Node}
use Rattle.term_classes.specs.declared.node.Node.TheVariants.{Free, Rigid, Con, App}
use Rattle.term_classes.specs.Slots.{link_of, shape_of, rank_of, height_of, AreLinked, root}
use Rattle.term_classes.specs.Undo.{IsPlace}
use Rattle.term_classes.specs.Join.{Joined}
use Rattle.term_classes.specs.Ceilings.{ceiling_of, PartsCapped, CappedBut, IsFit, BothLow}
use Rattle.term_classes.specs.Fits.{Fits, FitsNode, node_at, AreEqual, ArePairsOf, Sound, HasParts, PartsBelow, OrderedBut, own, roots}
use Rattle.term_classes.specs.Meets.{United}
use Rattle.term_classes.proofs.Roots.{is_same, is_other, root_next, root_last}

-- q is one over a class
pub fits_root : (nodes : List Node) (slots : List Slot) (q : ℕ → Term) → AreLinked slots → Fits nodes slots q → (i : ℕ) → i < length slots → q i ≡ q (root slots i)
fits_root nodes slots q h f i lt = along 256 i lt (omega arith) where
  along : (k i : ℕ) → i < length slots → 256 ≤ height_of slots i + k → q i ≡ q (root slots i)
  along zero i lt p = let b = h.bounded i lt in absurd (omega arith)
  along (suc k) i lt p = elim (cases_eq (link_of slots i) i) [
    | inl same ↦ ap q (sym (root_last slots i same))
    | inr other ↦
        let up = h.rise i lt other in
        f.links i lt ∙ along k (link_of slots i) (h.within i lt) (omega arith) ∙ ap q (sym (root_next slots h i lt other))
  ]

module _ (nodes : List Node) (old new : List Slot) (ceilings lower : List ℕ) (from to s r : ℕ) (h : Sound nodes old) (h' : AreLinked new) (j : Joined old new from to s r)
    (lf : from < length old) (lt : to < length old) (rf : link_of old from ≡ from) (rt : link_of old to ≡ to) (ne : from ≢ to)
    (fit : IsFit old ceilings from to r) (low : BothLow ceilings lower from to) where
  on : (i : ℕ) → i < length old → i < length new
  on i l = let e = j.len in omega arith

  back : (i : ℕ) → i < length new → i < length old
  back i l = let e = j.len in omega arith

  no_end : link_of new from ≢ from
  no_end e = ne (sym (sym j.link_from ∙ e))

  last_to : link_of new to ≡ to
  last_to = j.link_other to (λ e. ne (sym e)) ∙ rt

  root_from : root new from ≡ to
  root_from = root_next new h' from (on from lf) no_end ∙ ap (root new) j.link_from ∙ root_last new to last_to

  not_from : (i : ℕ) → link_of new i ≡ i → i ≢ from
  not_from i e same = no_end (subst (λ z. link_of new z ≡ z) same e)

  was_root : (i : ℕ) → link_of new i ≡ i → link_of old i ≡ i
  was_root i e = sym (j.link_other i (not_from i e)) ∙ e

  moved : (k i : ℕ) → i < length old → 256 ≤ height_of old i + k → (root old i ≡ from → root new i ≡ to) × (root old i ≢ from → root new i ≡ root old i)
  moved zero i l p = let b = h.linked.bounded i l in absurd (omega arith)
  moved (suc k) i l p = elim (cases_eq (link_of old i) i) [
    | inl same ↦
        let here : root old i ≡ i = root_last old i same in (
          (λ e. ap (root new) (sym here ∙ e) ∙ root_from),
          (λ e. root_last new i (j.link_other i (λ z. e (here ∙ z)) ∙ same) ∙ sym here),
        )
    | inr other ↦
        let off : i ≢ from = λ z. other (subst (λ y. link_of old y ≡ y) (sym z) rf) in
        let up = h.linked.rise i l other in
        let r1 : root old i ≡ root old (link_of old i) = root_next old h.linked i l other in
        let r2 : root new i ≡ root new (link_of old i) =
        root_next new h' i (on i l) (λ e. other (sym (j.link_other i off) ∙ e)) ∙ ap (root new) (j.link_other i off) in
        let ih = moved k (link_of old i) (h.linked.within i l) (omega arith) in (
          (λ e. r2 ∙ ih.0 (sym r1 ∙ e)),
          (λ e. r2 ∙ ih.1 (λ z. e (r1 ∙ z)) ∙ sym r1),
        )
  ]

  moved_from : (i : ℕ) → i < length old → root old i ≡ from → root new i ≡ to
  moved_from i l e = (moved 256 i l (omega arith)).0 e

  moved_other : (i : ℕ) → i < length old → root old i ≢ from → root new i ≡ root old i
  moved_other i l e = (moved 256 i l (omega arith)).1 e

  -- what stood above either class stands above both
  rank_below : (i k : ℕ) → i < length old → rank_of old (root old i) < k → ceiling_of ceilings (root old i) ≤ k → rank_of new (root new i) < k
  rank_below i k l b c = elim (cases_eq (root old i) from) [
    | inl e ↦
        subst (λ z. rank_of new z < k) (sym (moved_from i l e)) (let x = fit k (inl (subst (λ z. (rank_of old z < k) × (ceiling_of ceilings z ≤ k)) e (b, c))) in let y = j.rank_to in omega arith)
    | inr e ↦ subst (λ z. rank_of new z < k) (sym (moved_other i l e)) (elim (cases_eq (root old i) to) [
      | inl g ↦
          subst (λ z. rank_of new z < k) (sym g) (let x = fit k (inr (subst (λ z. (rank_of old z < k) × (ceiling_of ceilings z ≤ k)) g (b, c))) in let y = j.rank_to in omega arith)
      | inr g ↦ let x = j.rank_other (root old i) g in omega arith
    ])
  ]

  ceiling_below : (i k : ℕ) → i < length old → ceiling_of ceilings (root old i) ≤ k → ceiling_of lower (root new i) ≤ k
  ceiling_below i k l c = elim (cases_eq (root old i) from) [
    | inl e ↦ subst (λ z. ceiling_of lower z ≤ k) (sym (moved_from i l e)) (let x = low.second in let y = x.0 in let z = ap (ceiling_of ceilings) e in omega arith)
    | inr e ↦ subst (λ z. ceiling_of lower z ≤ k) (sym (moved_other i l e)) (let x = low.lowered.down (root old i) in omega arith)
  ]

  fits_equal : (q : ℕ → Term) → Fits nodes new q → q from ≡ q to
  fits_equal q f = f.links from (on from lf) ∙ ap q j.link_from

  fits_shape : (q : ℕ → Term) → Fits nodes new q → FitsNode (node_at nodes s) q (q to)
  fits_shape q f = subst (λ z. FitsNode (node_at nodes z) q (q to)) j.shape_to (f.shapes to (on to lt) last_to)

  fits_back : (q : ℕ → Term) → Fits nodes new q → FitsNode (node_at nodes (shape_of old from)) q (q from)
      → FitsNode (node_at nodes (shape_of old to)) q (q to) → Fits nodes old q
  fits_back q f nf nt = record {
    links = λ i l. elim (cases_eq i from) [
      | inl e ↦ ap q (sym (subst (λ z. link_of old z ≡ z) (sym e) rf))
      | inr e ↦ f.links i (on i l) ∙ ap q (j.link_other i e)
    ];
    shapes = λ i l e. elim (cases_eq i from) [
      | inl g ↦ subst (λ z. FitsNode (node_at nodes (shape_of old z)) q (q z)) (sym g) nf
      | inr g ↦ elim (cases_eq i to) [
        | inl k ↦ subst (λ z. FitsNode (node_at nodes (shape_of old z)) q (q z)) (sym k) nt
        | inr k ↦ subst (λ z. FitsNode (node_at nodes z) q (q i)) (j.shape_other i k) (f.shapes i (on i l) (j.link_other i g ∙ e))
      ]
    ];
  }

  fits_on : (q : ℕ → Term) → Fits nodes old q → q from ≡ q to → FitsNode (node_at nodes s) q (q to) → Fits nodes new q
  fits_on q f same n = record {
    links = λ i l. elim (cases_eq i from) [
      | inl e ↦ ap q e ∙ same ∙ ap q (sym (ap (link_of new) e ∙ j.link_from))
      | inr e ↦ f.links i (back i l) ∙ ap q (sym (j.link_other i e))
    ];
    shapes = λ i l e. elim (cases_eq i to) [
      | inl k ↦ subst (λ z. FitsNode (node_at nodes (shape_of new z)) q (q z)) (sym k) (subst (λ z. FitsNode (node_at nodes z) q (q to)) (sym j.shape_to) n)
      | inr k ↦ subst (λ z. FitsNode (node_at nodes z) q (q i)) (sym (j.shape_other i k)) (f.shapes i (back i l) (was_root i e))
    ];
  }

  roots_same : (n : ℕ) → n ≤ from → roots new n ≡ roots old n
  roots_same zero l = refl
  roots_same (suc n) l =
      let e : own (link_of new n) n ≡ own (link_of old n) n = ap (λ z. own z n) (j.link_other n (λ z. omega arith)) in
      let ih = roots_same n (omega arith) in
      omega arith

  roots_less : (n : ℕ) → from < n → roots new n + 1 ≡ roots old n
  roots_less zero l = absurd (omega arith)
  roots_less (suc n) l = elim (cases_eq n from) [
    | inl e ↦
        let a : own (link_of new n) n ≡ 0 = ap (λ b. if b then 1 else 0) (is_other (link_of new n) n (λ z. no_end (subst (λ y. link_of new y ≡ y) e z))) in
        let b : own (link_of old n) n ≡ 1 = ap (λ b. if b then 1 else 0) (is_same (link_of old n) n (subst (λ y. link_of old y ≡ y) (sym e) rf)) in
        let ih = roots_same n (omega arith) in
        omega arith
    | inr e ↦
        let a : own (link_of new n) n ≡ own (link_of old n) n = ap (λ z. own z n) (j.link_other n e) in
        let ih = roots_less n (omega arith) in
        omega arith
  ]

  parts_down : (n : Node) (i k : ℕ) → HasParts n i → i ≤ length old → PartsBelow n old k → PartsCapped n old ceilings k → PartsBelow n new k
  parts_down (Free w) i k p l b c = tt
  parts_down (Rigid w) i k p l b c = tt
  parts_down (Con x) i k p l b c = tt
  parts_down (App f a) i k p l b c = (rank_below f k (let z = p.0 in omega arith) b.0 c.0, rank_below a k (let z = p.1 in omega arith) b.1 c.1)

  caps_down : (n : Node) (i k : ℕ) → HasParts n i → i ≤ length old → PartsCapped n old ceilings k → PartsCapped n new lower k
  caps_down (Free w) i k p l c = tt
  caps_down (Rigid w) i k p l c = tt
  caps_down (Con x) i k p l c = tt
  caps_down (App f a) i k p l c = (ceiling_below f k (let z = p.0 in omega arith) c.0, ceiling_below a k (let z = p.1 in omega arith) c.1)

  order_new : (before after : List Saved) → ((i : ℕ) → IsPlace before i → IsPlace after i) → IsPlace after to → OrderedBut nodes old before → CappedBut nodes old ceilings before → OrderedBut nodes new after
  order_new before after more place o u i l e = elim (cases_eq i to) [
    | inl k ↦ inr (subst (λ z. IsPlace after z) (sym k) place)
    | inr k ↦ elim (o i (back i l) (was_root i e)) [
      | inl g ↦ elim (u i (back i l) (was_root i e)) [
        | inl c ↦
            let ls = h.shapes i (back i l) in
            let le = h.len in
            inl (subst (λ z. PartsBelow (node_at nodes z) new (rank_of new i)) (sym (j.shape_other i k))
            (subst (λ z. PartsBelow (node_at nodes (shape_of old i)) new z) (sym (j.rank_other i k))
            (parts_down (node_at nodes (shape_of old i)) (shape_of old i) (rank_of old i) (h.parts (shape_of old i) ls) (omega arith) g c)))
        | inr c ↦ inr (more i c)
      ]
      | inr g ↦ inr (more i g)
    ]
  ]

  capped_new : (before after : List Saved) → ((i : ℕ) → IsPlace before i → IsPlace after i) → IsPlace after to → CappedBut nodes old ceilings before → CappedBut nodes new lower after
  capped_new before after more place u i l e = elim (cases_eq i to) [
    | inl k ↦ inr (subst (λ z. IsPlace after z) (sym k) place)
    | inr k ↦ elim (u i (back i l) (was_root i e)) [
      | inl c ↦
          let ls = h.shapes i (back i l) in
          let le = h.len in
          inl (subst (λ z. PartsCapped (node_at nodes z) new lower (rank_of new i)) (sym (j.shape_other i k))
          (subst (λ z. PartsCapped (node_at nodes (shape_of old i)) new lower z) (sym (j.rank_other i k))
          (caps_down (node_at nodes (shape_of old i)) (shape_of old i) (rank_of old i) (h.parts (shape_of old i) ls) (omega arith) c)))
      | inr c ↦ inr (more i c)
    ]
  ]

  sound_new : s < length nodes → root new s ≡ to → Sound nodes new
  sound_new ls fs = record {
    linked = h';
    len = j.len ∙ h.len;
    shapes = λ i l. elim (cases_eq i to) [
      | inl k ↦ subst (λ z. z < length nodes) (sym (ap (shape_of new) k ∙ j.shape_to)) ls
      | inr k ↦ subst (λ z. z < length nodes) (sym (j.shape_other i k)) (h.shapes i (back i l))
    ];
    inside = λ i l e. elim (cases_eq i to) [
      | inl k ↦
          let sh : shape_of new i ≡ s = ap (shape_of new) k ∙ j.shape_to in
          ap (root new) sh ∙ fs ∙ sym k
      | inr k ↦
          let sh : shape_of new i ≡ shape_of old i = j.shape_other i k in
          let was : root old (shape_of old i) ≡ i = h.inside i (back i l) (was_root i e) in
          let ls' = h.shapes i (back i l) in
          let le = h.len in
          ap (root new) sh ∙ moved_other (shape_of old i) (omega arith) (λ z. not_from i e (sym was ∙ z)) ∙ was
    ];
    parts = h.parts;
  }

  -- the shape is that of one of the two
  shape_inside : (s ≡ shape_of old from) ⊎ (s ≡ shape_of old to) → root new s ≡ to
  shape_inside p = elim p [
    | inl e ↦
        let was = h.inside from lf rf in
        let ls = h.shapes from lf in
        let le = h.len in
        ap (root new) e ∙ moved_from (shape_of old from) (omega arith) was
    | inr e ↦
        let was = h.inside to lt rt in
        let ls = h.shapes to lt in
        let le = h.len in
        ap (root new) e ∙ moved_other (shape_of old to) (omega arith) (λ z. ne (sym (sym was ∙ z))) ∙ was
  ]

  within_shape : (s ≡ shape_of old from) ⊎ (s ≡ shape_of old to) → s < length nodes
  within_shape p = elim p [
    | inl e ↦ subst (λ z. z < length nodes) (sym e) (h.shapes from lf)
    | inr e ↦ subst (λ z. z < length nodes) (sym e) (h.shapes to lt)
  ]

  pub united : (before after : List Saved) (todo later : List Pair) (Extra : (ℕ → Term) → Type 0)
      → ((i : ℕ) → IsPlace before i → IsPlace after i) → IsPlace after to
      → (s ≡ shape_of old from) ⊎ (s ≡ shape_of old to)
      → ((q : ℕ → Term) (t : Term) → (FitsNode (node_at nodes (shape_of old from)) q t × FitsNode (node_at nodes (shape_of old to)) q t) ↔ (FitsNode (node_at nodes s) q t × Extra q))
      → ((q : ℕ → Term) → AreEqual later q ↔ (AreEqual todo q × Extra q))
      → (ArePairsOf (length nodes) todo → ArePairsOf (length nodes) later)
      → length later ≤ length todo + 2
      → United nodes old new ceilings lower before after todo later from to
  united before after todo later Extra more place which meet eqs pairs fewer = record {
    sound = sound_new (within_shape which) (shape_inside which);
    within = pairs;
    fits = λ q. (
      (λ (f, e).
          let same = fits_equal q f in
          let x = (eqs q).0 e in
          let both = (meet q (q to)).1 (fits_shape q f, x.1) in
          (fits_back q f (subst (λ z. FitsNode (node_at nodes (shape_of old from)) q z) (sym same) both.0) both.1, x.0, same)),
      (λ (f, e, same).
          let one = (meet q (q to)).0 (subst (λ z. FitsNode (node_at nodes (shape_of old from)) q z) same (f.shapes from lf rf), f.shapes to lt rt) in
          (fits_on q f same one.0, (eqs q).1 (e, one.1))),
    );
    order = order_new before after more place;
    capped = capped_new before after more place;
    lowered = low.lowered;
    fewer =
        let r = roots_less (length old) lf in
        let e : roots new (length new) ≡ roots new (length old) = ap (roots new) j.len in
        omega arith;
  }

pub swapped : (nodes : List Node) (old new : List Slot) (ceilings lower : List ℕ) (before after : List Saved) (todo later : List Pair) (x y : ℕ)
    → United nodes old new ceilings lower before after todo later y x → United nodes old new ceilings lower before after todo later x y
swapped nodes old new ceilings lower before after todo later x y u = record {
  sound = u.sound;
  within = u.within;
  fits = λ q. (
    (λ p. let r = (u.fits q).0 p in (r.0, r.1, sym r.2)),
    (λ (f, e, same). (u.fits q).1 (f, e, sym same)),
  );
  order = u.order;
  capped = u.capped;
  lowered = u.lowered;
  fewer = u.fewer;
}

-- two terms of one class
pub same_united : (nodes : List Node) (slots : List Slot) (ceilings : List ℕ) (before : List Saved) (todo : List Pair) (x y : ℕ) → Sound nodes slots → x < length slots → y < length slots → root slots x ≡ root slots y
    → United nodes slots slots ceilings ceilings before before todo todo x y
same_united nodes slots ceilings before todo x y h lx ly e = record {
  sound = h;
  within = λ p. p;
  fits = λ q. (
    (λ (f, g). (f, g, fits_root nodes slots q h.linked f x lx ∙ ap q e ∙ sym (fits_root nodes slots q h.linked f y ly))),
    (λ (f, g, s). (f, g)),
  );
  order = λ o u. o;
  capped = λ u. u;
  lowered = record { len = refl; down = λ i. omega arith };
  fewer = omega arith;
}

-- what holds of the roots holds of the terms
pub from_roots : (nodes : List Node) (old new : List Slot) (ceilings lower : List ℕ) (before after : List Saved) (todo later : List Pair) (left right x y : ℕ) → Sound nodes old → left < length old → right < length old
    → x ≡ root old left → y ≡ root old right → United nodes old new ceilings lower before after todo later x y → United nodes old new ceilings lower before after todo later left right
from_roots nodes old new ceilings lower before after todo later left right x y h ll lr ex ey u = record {
  sound = u.sound;
  within = u.within;
  fits = λ q. (
    (λ p.
        let r = (u.fits q).0 p in
        (r.0, r.1, fits_root nodes old q h.linked r.0 left ll ∙ ap q (sym ex) ∙ r.2 ∙ ap q ey ∙ sym (fits_root nodes old q h.linked r.0 right lr))),
    (λ (f, e, s). (u.fits q).1 (f, e, ap q ex ∙ sym (fits_root nodes old q h.linked f left ll) ∙ s ∙ fits_root nodes old q h.linked f right lr ∙ ap q (sym ey))),
  );
  order = u.order;
  capped = u.capped;
  lowered = u.lowered;
  fewer = u.fewer;
}

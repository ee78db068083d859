-- The turns of a walk.
use Rattle.std.proofs.Common.{ℕ, ◌+◌, ◌-◌, ◌≡◌, ◌⊎◌, ◌<◌, ◌≤◌, List, [], ◌∷◌, ◌++◌, length, get_or, refl, sym, ap, ◌∙◌, inl, inr, subst, arith, slice_set, min, take}
use Rattle.std.proofs.lemmas.Bool.{cases_eq, cases_lt}
use Rattle.std.proofs.lemmas.List.{take_more, length-set, length-append, get_or_append_left}
use Rattle.std.proofs.Math.Seq.{get_or-append_seam, take-length}
use Rattle.unifiers.specs.Term.{Term, size}
use Rattle.unifiers.proofs.Laws.{size_least}
use Rattle.term_classes.specs.declared.node.Slot.{Slot}
use Rattle.term_classes.specs.declared.node.Node.{Node}
use Rattle.term_classes.specs.declared.node.Node.TheVariants.{Free, Rigid, Con, App}
use Rattle.term_classes.specs.Slots.{link_of, shape_of, rank_of, root}
use Rattle.term_classes.specs.Fits.{Fits, FitsNode, node_at, Sound, HasParts, PartsBelow, IsOrdered}
use Rattle.term_classes.specs.Settle.{IsPart, IsPartOf, mark_of, below, Walk, OnPath, IsUnder, Reranked, Turned, left}
use Rattle.term_classes.proofs.Roots.{root_within}
use Rattle.term_classes.proofs.Merge.{fits_root}
use Rattle.term_classes.proofs.Marks.{below_less, below_in, below_out, below_some, mark_set}
use Rattle.term_classes.proofs.Rerank.{root_alike, rank_down, sound_new, fits_old, fits_new, ordered_still}

-- a part is smaller
smaller : (n : Node) (nodes : List Node) (slots : List Slot) (q : ℕ → Term) (s d : ℕ) (t : Term) → Sound nodes slots → Fits nodes slots q → HasParts n s → s < length slots → FitsNode n q t → IsPartOf n slots d → size (q d) < size t
smaller (Free w) nodes slots q s d t h f p l g i = absurd i
smaller (Rigid w) nodes slots q s d t h f p l g i = absurd i
smaller (Con c) nodes slots q s d t h f p l g i = absurd i
smaller (App x y) nodes slots q s d t h f p l g i =
    let e = ap size g in
    let a = size_least (q x) in
    let b = size_least (q y) in
    let px = p.0 in
    let py = p.1 in
    elim i [
      | inl z ↦ let r = ap size (fits_root nodes slots q h.linked f x (omega arith)) in let w = ap (λ k. size (q k)) z in omega arith
      | inr z ↦ let r = ap size (fits_root nodes slots q h.linked f y (omega arith)) in let w = ap (λ k. size (q k)) z in omega arith
    ]

pub part_under : (nodes : List Node) (slots : List Slot) (at d : ℕ) → Sound nodes slots → at < length slots → link_of slots at ≡ at → IsPart nodes slots at d → IsUnder nodes slots at d
part_under nodes slots at d h l e p q f =
    let s = shape_of slots at in
    let ls = h.shapes at l in
    let le = h.len in
    smaller (node_at nodes s) nodes slots q s d (q at) h f (h.parts s ls) (omega arith) (f.shapes at l e) p

module _ (nodes : List Node) (slots : List Slot) (marks starts path : List ℕ) (clock low next : ℕ) (w : Walk nodes slots marks starts clock low next) (o : OnPath nodes slots marks clock path) where
  at_left : (d k : ℕ) → k < length path → get_or (path ++ d ∷ []) k 0 ≡ get_or path k 0
  at_left d k l = get_or_append_left path (d ∷ []) 0 k l

  at_last : (d : ℕ) → get_or (path ++ d ∷ []) (length path) 0 ≡ d
  at_last d = get_or-append_seam path d [] 0

  cases_last : (d k : ℕ) → k < length (path ++ d ∷ []) → (k < length path) ⊎ (k ≡ length path)
  cases_last d k l = let e = length-append path (d ∷ []) in elim (cases_lt k (length path)) [ inl a ↦ inl a | inr a ↦ inr (omega arith) ]

  pub went_down : (d : ℕ) → d < length slots → link_of slots d ≡ d → mark_of marks d < clock → ((k : ℕ) → k < length path → IsUnder nodes slots (get_or path k 0) d)
      → Turned nodes slots slots marks (slice_set marks d clock) starts clock low next (path ++ d ∷ [])
  went_down d ld rd md under =
      let lm : d < length marks = let e = w.len in omega arith in
      let put = mark_set marks d clock in
      record {
        walk = record {
          sound = w.sound;
          len = length-set marks d clock ∙ w.len;
          order = λ i l e. elim (w.order i l e) [
            | inl a ↦ inl a
            | inr a ↦ inr ((elim (put i lm) [ inl p ↦ let z = p.1 in omega arith | inr p ↦ let z = p.1 in let y = a.0 in omega arith ]), a.1, a.2)
          ];
          finished = λ i l m. elim (put i lm) [ inl p ↦ let z = p.1 in absurd (omega arith) | inr p ↦ let z = p.1 in w.finished i l (omega arith) ];
          room = let a = below_in (clock + 1) marks d clock lm (omega arith) (omega arith) in let b = w.room in omega arith;
        };
        on = record {
          each = λ k l. elim (cases_last d k l) [
            | inl a ↦
                let e = at_left d k a in
                let b = o.each k a in
                subst (λ z. (z < length slots) × (link_of slots z ≡ z) × (mark_of (slice_set marks d clock) z ≡ clock)) (sym e)
                (b.0, b.1, elim (put (get_or path k 0) lm) [ inl p ↦ p.1 | inr p ↦ p.1 ∙ b.2 ])
            | inr a ↦
                let e : get_or (path ++ d ∷ []) k 0 ≡ d = ap (λ z. get_or (path ++ d ∷ []) z 0) a ∙ at_last d in
                subst (λ z. (z < length slots) × (link_of slots z ≡ z) × (mark_of (slice_set marks d clock) z ≡ clock)) (sym e)
                (ld, rd, elim (put d lm) [ inl p ↦ p.1 | inr p ↦ absurd (p.0 refl) ])
          ];
          marked = λ i l m. elim (put i lm) [
            | inl p ↦ (length path, (let e = length-append path (d ∷ []) in omega arith), at_last d ∙ sym p.0)
            | inr p ↦
                let r = o.marked i l (sym p.1 ∙ m) in
                (r.0, (let e = length-append path (d ∷ []) in let z = r.1 in omega arith), at_left d r.0 r.1 ∙ r.2)
          ];
          down = λ k m lt l. elim (cases_last d m l) [
            | inl a ↦
                let b : k < length path = omega arith in
                subst (λ z. IsUnder nodes slots z (get_or (path ++ d ∷ []) m 0)) (sym (at_left d k b)) (subst (λ z. IsUnder nodes slots (get_or path k 0) z) (sym (at_left d m a)) (o.down k m lt a))
            | inr a ↦
                let b : k < length path = omega arith in
                let e : get_or (path ++ d ∷ []) m 0 ≡ d = ap (λ z. get_or (path ++ d ∷ []) z 0) a ∙ at_last d in
                subst (λ z. IsUnder nodes slots z (get_or (path ++ d ∷ []) m 0)) (sym (at_left d k b)) (subst (λ z. IsUnder nodes slots (get_or path k 0) z) (sym e) (under k b))
          ];
          apart = λ k m lt l same. elim (cases_last d m l) [
            | inl a ↦
                let b : k < length path = omega arith in
                o.apart k m lt a (sym (at_left d k b) ∙ same ∙ at_left d m a)
            | inr a ↦
                let b : k < length path = omega arith in
                let e : get_or (path ++ d ∷ []) m 0 ≡ d = ap (λ z. get_or (path ++ d ∷ []) z 0) a ∙ at_last d in
                let c : get_or path k 0 ≡ d = sym (at_left d k b) ∙ same ∙ e in
                let x = (o.each k b).2 in
                let y = ap (mark_of marks) c in
                absurd (omega arith)
          ];
        };
        fits = λ q. ((λ f. f), (λ f. f));
        seen = λ i m. elim (put i lm) [ inl p ↦ let z = p.1 in omega arith | inr p ↦ let z = p.1 in omega arith ];
        same = record { len = refl; link = λ i. refl; height = λ i. refl };
      }

  pub down_fewer : (d : ℕ) → d < length slots → mark_of marks d < clock → left clock (slice_set marks d clock) < left clock marks
  down_fewer d ld md =
      let lm : d < length marks = let e = w.len in omega arith in
      let a = below_in (clock + 1) marks d clock lm (omega arith) (omega arith) in
      let b = below_less clock marks d clock lm md (omega arith) in
      omega arith

  -- what is below the last one is below all
  pub under_all : (onward : List ℕ) (at d : ℕ) → path ≡ onward ++ at ∷ [] → IsUnder nodes slots at d → (k : ℕ) → k < length path → IsUnder nodes slots (get_or path k 0) d
  under_all onward at d e u k l =
      let len = length-append onward (at ∷ []) in
      let n = ap length e in
      let last : get_or path (length onward) 0 ≡ at = ap (λ (p : List ℕ). get_or p (length onward) 0) e ∙ get_or-append_seam onward at [] 0 in
      elim (cases_lt k (length onward)) [
        | inl a ↦ λ q f. let x = o.down k (length onward) a (omega arith) q f in let y = u q f in let z = ap (λ i. size (q i)) last in omega arith
        | inr a ↦ let b : k ≡ length onward = omega arith in subst (λ z. IsUnder nodes slots z d) (sym (ap (λ z. get_or path z 0) b ∙ last)) u
      ]

  -- a class that is a part of itself has no term
  pub around : (onward : List ℕ) (at d : ℕ) → path ≡ onward ++ at ∷ [] → IsUnder nodes slots at d → d < length slots → mark_of marks d ≡ clock → (q : ℕ → Term) → Fits nodes slots q → ⊥
  around onward at d e u l m q f =
      let r = o.marked d l m in
      let x = under_all onward at d e u r.0 r.1 q f in
      let y = ap (λ i. size (q i)) r.2 in
      absurd (omega arith)

  module _ (onward : List ℕ) (at base : ℕ) (new : List Slot) (shrunk : path ≡ onward ++ at ∷ []) (j : Reranked slots new at (min (rank_of slots at) next)) (low_base : base ≤ next)
      (met : (d : ℕ) → IsPart nodes slots at d → (clock < mark_of marks d) ⊎ (rank_of slots d < base)) where
    len_path : length path ≡ length onward + 1
    len_path = ap length shrunk ∙ length-append onward (at ∷ [])

    last_at : get_or path (length onward) 0 ≡ at
    last_at = ap (λ (p : List ℕ). get_or p (length onward) 0) shrunk ∙ get_or-append_seam onward at [] 0

    front : (k : ℕ) → k < length onward → get_or path k 0 ≡ get_or onward k 0
    front k l = ap (λ (p : List ℕ). get_or p k 0) shrunk ∙ get_or_append_left onward (at ∷ []) 0 k l

    here : (at < length slots) × (link_of slots at ≡ at) × (mark_of marks at ≡ clock)
    here = subst (λ z. (z < length slots) × (link_of slots z ≡ z) × (mark_of marks z ≡ clock)) last_at (o.each (length onward) (let e = len_path in omega arith))

    lm : at < length marks
    lm = let e = w.len in let l = here.0 in omega arith

    some : 1 ≤ below (clock + 1) marks
    some = let m = here.2 in below_some (clock + 1) marks at lm (omega arith)

    le : min (rank_of slots at) next ≤ rank_of slots at
    le = omega arith

    fewer_later : below (clock + 1) (slice_set marks at (clock + 1)) + 1 ≡ below (clock + 1) marks
    fewer_later = let m = here.2 in below_less (clock + 1) marks at (clock + 1) lm (omega arith) (omega arith)

    low_parts : (d : ℕ) → d < length slots → IsPart nodes slots at d → rank_of slots d < next
    low_parts d l p = elim (met d p) [ inl a ↦ w.finished d l a | inr a ↦ omega arith ]

    -- the last class is in order now
    in_order : (n : Node) (s : ℕ) → HasParts n s → s < length slots → ((d : ℕ) → d < length slots → IsPartOf n slots d → rank_of slots d < next)
        → PartsBelow n slots (rank_of slots at) ⊎ (low ≤ rank_of slots at) → PartsBelow n new (min (rank_of slots at) next)
    in_order (Free w) s p l h c = tt
    in_order (Rigid w) s p l h c = tt
    in_order (Con x) s p l h c = tt
    in_order (App f a) s p l h c =
        let pf = p.0 in
        let pa = p.1 in
        let lf = root_within slots w.sound.linked f (omega arith) in
        let la = root_within slots w.sound.linked a (omega arith) in
        let x = h (root slots f) lf (inl refl) in
        let y = h (root slots a) la (inr refl) in
        let rf = ap (rank_of new) (root_alike nodes slots new at (min (rank_of slots at) next) j w.sound le f) in
        let ra = ap (rank_of new) (root_alike nodes slots new at (min (rank_of slots at) next) j w.sound le a) in
        let df = rank_down nodes slots new at (min (rank_of slots at) next) j w.sound le (root slots f) in
        let da = rank_down nodes slots new at (min (rank_of slots at) next) j w.sound le (root slots a) in
        let room = w.room in
        let sm = some in
        elim c [
          | inl b ↦ let bf = b.0 in let ba = b.1 in (omega arith, omega arith)
          | inr b ↦ (omega arith, omega arith)
        ]

    pub went_back : Turned nodes slots new marks (slice_set marks at (clock + 1)) starts clock low (next + 1) onward
    went_back =
        let put = mark_set marks at (clock + 1) in
        let s' = sound_new nodes slots new at (min (rank_of slots at) next) j w.sound le in
        let down = rank_down nodes slots new at (min (rank_of slots at) next) j w.sound le in
        record {
          walk = record {
            sound = s';
            len = length-set marks at (clock + 1) ∙ w.len ∙ sym j.len;
            order = λ i l e. elim (cases_eq i at) [
              | inl z ↦
                  let sh = shape_of slots at in
                  let ls = w.sound.shapes at here.0 in
                  let ln = w.sound.len in
                  inl (subst (λ k. IsOrdered nodes new k) (sym z)
                  (subst (λ k. PartsBelow (node_at nodes k) new (rank_of new at)) (sym (j.shape at))
                  (subst (λ k. PartsBelow (node_at nodes sh) new k) (sym j.rank)
                  (in_order (node_at nodes sh) sh (w.sound.parts sh ls) (omega arith) low_parts
                  (elim (w.order at here.0 here.1) [ inl g ↦ inl g | inr g ↦ inr g.1 ])))))
              | inr z ↦ elim (w.order i (let n = j.len in omega arith) (sym (j.link i) ∙ e)) [
                | inl g ↦ inl (ordered_still nodes slots new at (min (rank_of slots at) next) j w.sound le i z g)
                | inr g ↦ inr (
                  (elim (put i lm) [ inl p ↦ absurd (z p.0) | inr p ↦ let y = p.1 in let x = g.0 in omega arith ]),
                  (let y = j.other i z in let x = g.1 in omega arith),
                  g.2,
                )
              ]
            ];
            finished = λ i l m. elim (put i lm) [
              | inl p ↦ let a = ap (rank_of new) p.0 in let b = j.rank in omega arith
              | inr p ↦ let a = p.1 in let b = w.finished i (let n = j.len in omega arith) (omega arith) in let c = down i in omega arith
            ];
            room = let a = fewer_later in let b = w.room in omega arith;
          };
          on = record {
            each = λ k l.
                let b = o.each k (let e = len_path in omega arith) in
                let e = front k l in
                subst (λ z. (z < length new) × (link_of new z ≡ z) × (mark_of (slice_set marks at (clock + 1)) z ≡ clock)) e (
                  (let n = j.len in let x = b.0 in omega arith),
                  j.link (get_or path k 0) ∙ b.1,
                  elim (put (get_or path k 0) lm) [
                    | inl p ↦ absurd (o.apart k (length onward) l (let y = len_path in omega arith) (p.0 ∙ sym last_at))
                    | inr p ↦ p.1 ∙ b.2
                  ],
                );
            marked = λ i l m. elim (put i lm) [
              | inl p ↦ let x = p.1 in absurd (omega arith)
              | inr p ↦
                  let r = o.marked i (let n = j.len in omega arith) (sym p.1 ∙ m) in
                  elim (cases_lt r.0 (length onward)) [
                    | inl a ↦ (r.0, a, sym (front r.0 a) ∙ r.2)
                    | inr a ↦
                        let k : r.0 ≡ length onward = let y = r.1 in let z = len_path in omega arith in
                        absurd (p.0 (sym r.2 ∙ ap (λ z. get_or path z 0) k ∙ last_at))
                  ]
            ];
            down = λ k m lt l q f.
                let lk : k < length onward = omega arith in
                let x = o.down k m lt (let e = len_path in omega arith) q (fits_old nodes slots new at (min (rank_of slots at) next) j w.sound le q f) in
                let a = ap (λ i. size (q i)) (front k lk) in
                let b = ap (λ i. size (q i)) (front m l) in
                omega arith;
            apart = λ k m lt l same.
                let lk : k < length onward = omega arith in
                o.apart k m lt (let e = len_path in omega arith) (front k lk ∙ same ∙ sym (front m l));
          };
          fits = λ q. (
            fits_old nodes slots new at (min (rank_of slots at) next) j w.sound le q,
            fits_new nodes slots new at (min (rank_of slots at) next) j w.sound le q,
          );
          seen = λ i m. elim (put i lm) [ inl p ↦ let z = p.1 in omega arith | inr p ↦ let z = p.1 in omega arith ];
          same = record { len = j.len; link = j.link; height = j.height };
        }

    pub back_fewer : left clock (slice_set marks at (clock + 1)) < left clock marks
    back_fewer =
        let a = fewer_later in
        let m = here.2 in
        let b = below_out clock marks at (clock + 1) lm (omega arith) (omega arith) in
        omega arith

pub turned_on : (nodes : List Node) (a b c : List Slot) (ma mb mc starts pb pc : List ℕ) (clock low nb nc : ℕ)
    → Turned nodes a b ma mb starts clock low nb pb → Turned nodes b c mb mc starts clock low nc pc → Turned nodes a c ma mc starts clock low nc pc
turned_on nodes a b c ma mb mc starts pb pc clock low nb nc t u = record {
  walk = u.walk;
  on = u.on;
  fits = λ q. ((λ f. (t.fits q).0 ((u.fits q).0 f)), (λ f. (u.fits q).1 ((t.fits q).1 f)));
  seen = λ i m. u.seen i (t.seen i m);
  same = record { len = u.same.len ∙ t.same.len; link = λ i. u.same.link i ∙ t.same.link i; height = λ i. u.same.height i ∙ t.same.height i };
}

pub path_last : (path : List ℕ) → 0 < length path → path ≡ take (length path - 1) path ++ get_or path (length path - 1) 0 ∷ []
path_last path h =
    let e : length path - 1 + 1 ≡ length path = omega arith in
    sym (take-length path) ∙ ap (λ k. take k path) (sym e) ∙ take_more path (length path - 1) 0 (omega arith)

pub next_fits : (nodes : List Node) (slots : List Slot) (marks starts path : List ℕ) (clock low next : ℕ) → Walk nodes slots marks starts clock low next → OnPath nodes slots marks clock path → 0 < length path → next + 1 ≤ low
next_fits nodes slots marks starts path clock low next w o l =
    let b = o.each 0 l in
    let lb = b.0 in
    let mb = b.2 in
    let len = w.len in
    let room = w.room in
    let s = below_some (clock + 1) marks (get_or path 0 0) (omega arith) (omega arith) in
    omega arith

-- where the path is empty nothing is marked as on it
pub no_grey : (nodes : List Node) (slots : List Slot) (marks path : List ℕ) (clock i : ℕ) → OnPath nodes slots marks clock path → path ≡ [] → i < length slots → clock ≤ mark_of marks i → clock < mark_of marks i
no_grey nodes slots marks path clock i o e l h = elim (cases_eq (mark_of marks i) clock) [
  | inl m ↦ let r = o.marked i l m in let x = r.1 in let n = ap length e in absurd (omega arith)
  | inr m ↦ omega arith
]

pub at_end : (nodes : List Node) (slots : List Slot) (marks path onward : List ℕ) (clock at : ℕ) → OnPath nodes slots marks clock path → path ≡ onward ++ at ∷ [] → (at < length slots) × (link_of slots at ≡ at) × (mark_of marks at ≡ clock)
at_end nodes slots marks path onward clock at o e =
    let n = ap length e in
    let m = length-append onward (at ∷ []) in
    let last : get_or path (length onward) 0 ≡ at = ap (λ (p : List ℕ). get_or p (length onward) 0) e ∙ get_or-append_seam onward at [] 0 in
    subst (λ z. (z < length slots) × (link_of slots z ≡ z) × (mark_of marks z ≡ clock)) last (o.each (length onward) (omega arith))

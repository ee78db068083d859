-- Writes and what puts them back.
use Rattle.std.proofs.Common.{ℕ, zero, suc, ◌≡◌, ◌<◌, List, [], ◌∷◌, ◌++◌, length, get_or, refl, sym, ap, ◌∙◌, subst, arith, slice_set}
use Rattle.std.proofs.lemmas.List.{set-set, set-get_or, length-set, get_or_append_left, length-append}
use Rattle.std.proofs.lemmas.List.Elements.{All-append}
use Rattle.std.proofs.Math.Seq.{get_or-append_seam}
use Rattle.term_classes.specs.declared.node.Slot.{Slot}
use Rattle.term_classes.specs.declared.node.Saved.{Saved}
use Rattle.term_classes.specs.Undo.{rewound, HoldsPlaces, IsPlace, Kept}

pub rewound_last : (xs : List Saved) (s : Saved) (slots : List Slot) → rewound (xs ++ s ∷ []) slots ≡ rewound xs (slice_set slots s.at s.slot)
rewound_last [] s slots = refl
rewound_last (x ∷ xs) s slots = ap (λ l. slice_set l x.at x.slot) (rewound_last xs s slots)

one_place : (n : ℕ) (s : Saved) → s.at < n → HoldsPlaces n (s ∷ [])
one_place n s lt zero d h = lt
one_place n s lt (suc k) d h = absurd (omega arith)

pub place_kept : (xs : List Saved) (s : Saved) (j : ℕ) → IsPlace xs j → IsPlace (xs ++ s ∷ []) j
place_kept xs s j p = (p.0, (let l = p.1 in omega (arith, length-append xs (s ∷ []))), λ d. ap (λ (z : Saved). z.at) (get_or_append_left xs (s ∷ []) d p.0 p.1) ∙ p.2 d)

pub place_last : (xs : List Saved) (s : Saved) → IsPlace (xs ++ s ∷ []) s.at
place_last xs s = (length xs, omega (arith, length-append xs (s ∷ [])), λ d. ap (λ (z : Saved). z.at) (get_or-append_seam xs s [] d))

pub kept_same : (slots : List Slot) (xs : List Saved) → Kept slots slots xs xs
kept_same slots xs = record { len = refl; undo = refl; places = λ h. h; more = λ j p. p }

pub kept_on : (a b c : List Slot) (xs ys zs : List Saved) → Kept a b xs ys → Kept b c ys zs → Kept a c xs zs
kept_on a b c xs ys zs p q = record {
  len = q.len ∙ p.len;
  undo = q.undo ∙ p.undo;
  places = λ h. subst (λ n. HoldsPlaces n zs) p.len (q.places (subst (λ n. HoldsPlaces n ys) (sym p.len) (p.places h)));
  more = λ j h. q.more j (p.more j h);
}

pub kept_write : (slots : List Slot) (xs : List Saved) (at : ℕ) (old slot : Slot) → at < length slots → ((d : Slot) → get_or slots at d ≡ old)
    → Kept slots (slice_set slots at slot) xs (xs ++ record { at = at; slot = old } ∷ [])
kept_write slots xs at old slot lt e = record {
  len = length-set slots at slot;
  undo = rewound_last xs (record { at = at; slot = old }) (slice_set slots at slot)
      ∙ ap (rewound xs) (set-set slots at slot old ∙ ap (λ v. slice_set slots at v) (sym (e old)) ∙ set-get_or slots at old);
  places = λ h. All-append (λ (s : Saved). s.at < length slots) xs (record { at = at; slot = old } ∷ []) h (one_place (length slots) (record { at = at; slot = old }) lt);
  more = λ j p. place_kept xs (record { at = at; slot = old }) j p;
}

pub place_front : (n : ℕ) (xs : List Saved) (s : Saved) → HoldsPlaces n (xs ++ s ∷ []) → HoldsPlaces n xs
place_front n xs s h k d lt = subst (λ (z : Saved). z.at < n) (get_or_append_left xs (s ∷ []) d k lt) (h k d (omega (arith, length-append xs (s ∷ []))))

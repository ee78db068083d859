-- What a semicolon leaves as it is.
use Rattle.std.specs.Prelude.{if◌then◌else◌, ◌&&◌, ◌||◌, not}
use Rattle.std.proofs.Common.{◌≡◌, Bool, true, false, List, [], ◌∷◌, refl, ap, ◌∙◌}
use Rattle.std.proofs.lemmas.Bool.{and_parts}
use Rattle.hs_layout.specs.declared.frame.Note.{Note}
use Rattle.hs_layout.specs.declared.frame.Lead.{Lead}
use Rattle.hs_layout.specs.declared.frame.Lead.TheVariants as lead
use Rattle.hs_layout.specs.declared.frame.Frame.{Frame}
use Rattle.hs_layout.specs.Notes.{is_none_left}
use Rattle.hs_layout.specs.Frames.{nothing_seen, is_nothing, is_unseen, is_renewed}
use Rattle.hs_layout.specs.Rules.{renewed, is_context, renew}
use Rattle.hs_layout.specs.Below.{is_settled}

nothing_is : (l : Lead) (a b c d e : Bool) → (is_nothing l && not (a || (b || (c || (d || e))))) ≡ true → nothing_seen ≡ record { lead = l; bar = a; guard = b; body = c; bound = d; plain = e }
nothing_is lead.Nothing false false false false false h = refl
nothing_is lead.Nothing true b c d e h = cc
nothing_is lead.Nothing false true c d e h = cc
nothing_is lead.Nothing false false true d e h = cc
nothing_is lead.Nothing false false false true e h = cc
nothing_is lead.Nothing false false false false true h = cc
nothing_is _ a b c d e h = cc

notes_stay : (keep : Bool) (ns : List Note) → (keep || is_none_left ns) ≡ true → (if keep then ns else []) ≡ ns
notes_stay true ns h = refl
notes_stay false [] h = refl
notes_stay false (n ∷ ns) h = cc

frame_stays : (keep : Bool) (f : Frame) → is_renewed keep f ≡ true → renewed keep f ≡ f
frame_stays keep f h =
    let both : (is_unseen f.seen ≡ true) × ((keep || is_none_left f.notes) ≡ true) = and_parts (is_unseen f.seen) (keep || is_none_left f.notes) h in
    ap (λ z. record f { notes = z; seen = nothing_seen }) (notes_stay keep f.notes both.1) ∙ ap (λ z. record f { seen = z }) (nothing_is f.seen.lead f.seen.bar f.seen.guard f.seen.body f.seen.bound f.seen.plain both.0)

rest_stays : (b c : Bool) (fs gs : List Frame) → (b || c) ≡ true → (c ≡ true → gs ≡ fs) → (if b then fs else gs) ≡ fs
rest_stays true c fs gs h k = refl
rest_stays false c fs gs h k = k h

pub settled_stays : (keep : Bool) (fs : List Frame) → is_settled keep fs ≡ true → renew keep fs ≡ fs
settled_stays keep [] h = refl
settled_stays keep (f ∷ fs) h =
    let both : (is_renewed keep f ≡ true) × ((is_context f.sort || is_settled keep fs) ≡ true) = and_parts (is_renewed keep f) (is_context f.sort || is_settled keep fs) h in
    ap (λ z. z ∷ (if is_context f.sort then fs else renew keep fs)) (frame_stays keep f both.0) ∙ ap (λ z. f ∷ z) (rest_stays (is_context f.sort) (is_settled keep fs) fs (renew keep fs) both.1 (settled_stays keep fs))

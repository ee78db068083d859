-- The visits of a walk.
use Rattle.std.proofs.Common.{ℕ, Bool, true, false, ◌+◌, ◌≡◌, ◌<◌, List, [], ◌∷◌, ◌++◌, length, get_or, refl, sym, ap, ◌∙◌, inl, inr, subst, arith, slice_set}
use Rattle.std.proofs.lemmas.List.{length-set, get_or_default}
use Rattle.mk_base.specs.declared.name.Name.{Name}
use Rattle.unifiers.specs.Term.{Occurs, size}
use Rattle.unifiers.specs.Term.Term.{var, app}
use Rattle.unifiers.specs.Reading.{stands_in, places}
use Rattle.unifiers.proofs.Laws.{size_least}
use Rattle.term_classes.specs.declared.node.Slot.{Slot}
use Rattle.term_classes.specs.declared.node.Node.{Node}
use Rattle.term_classes.specs.declared.node.Node.TheVariants.{Free, Con, App}
use Rattle.term_classes.specs.Slots.{root, link_of, shape_of}
use Rattle.term_classes.specs.Fits.{Sound, HasParts, node_at}
use Rattle.term_classes.specs.Settle.{AreOrdered, mark_of}
use Rattle.term_classes.proofs.Roots.{root_within, root_ends}
use Rattle.term_classes.proofs.Merge.{fits_root}
use Rattle.term_classes.proofs.Marks.{mark_set}
use Rattle.term_unify.specs.declared.walk.Visit.{Visit}
use Rattle.term_unify.specs.declared.walk.Visit.TheVariants.{Enter, Leave}
use Rattle.term_unify.specs.Arena.{layer, solved_at, place_at, HasNumber, IsListed, AreNumbered}
use Rattle.term_unify.proofs.Solution.{fits_solved, layer_here, own_layer, listed_place}
use Rattle.term_unify.specs.Walk.{visit, gather, HasAll, IsCovered, AreCovered, IsWithin, AreWithin, weigh, weight, Gathers, Visited}
use Rattle.term_unify.proofs.Places.{stands_more, stands_last, stands_cases, places_no, places_all, places_none}

none_yet : (b : Bool) → (b ≡ true → ⊥) → b ≡ false
none_yet true h = absurd (h refl)
none_yet false h = refl

module _ (nodes : List Node) (slots : List Slot) where
  pub gather_last : (found : List ℕ) (xs : List Visit) (x : Visit) → gather nodes slots found (xs ++ x ∷ []) ≡ gather nodes slots (visit nodes slots found x) xs
  gather_last found [] x = refl
  gather_last found (y ∷ ys) x = ap (λ z. visit nodes slots z y) (gather_last found ys x)

  pub covered_front : (found : List ℕ) (xs : List Visit) (x : Visit) → AreCovered nodes slots found (xs ++ x ∷ []) → AreCovered nodes slots (visit nodes slots found x) xs
  covered_front found [] x c = tt
  covered_front found (y ∷ ys) x c = (subst (λ z. IsCovered nodes slots z y) (gather_last found ys x) c.0, covered_front found ys x c.1)

  pub covered_last : (found : List ℕ) (xs : List Visit) (x : Visit) → AreCovered nodes slots found (xs ++ x ∷ []) → IsCovered nodes slots found x
  covered_last found [] x c = c.0
  covered_last found (y ∷ ys) x c = covered_last found ys x c.1

  pub covered_more : (found : List ℕ) (xs : List Visit) (x : Visit) → IsCovered nodes slots found x → AreCovered nodes slots (visit nodes slots found x) xs → AreCovered nodes slots found (xs ++ x ∷ [])
  covered_more found [] x h c = (h, tt)
  covered_more found (y ∷ ys) x h c = (subst (λ z. IsCovered nodes slots z y) (sym (gather_last found ys x)) c.0, covered_more found ys x h c.1)

  pub within_front : (xs : List Visit) (x : Visit) → AreWithin slots (xs ++ x ∷ []) → AreWithin slots xs
  within_front [] x w = tt
  within_front (y ∷ ys) x w = (w.0, within_front ys x w.1)

  pub within_last : (xs : List Visit) (x : Visit) → AreWithin slots (xs ++ x ∷ []) → IsWithin slots x
  within_last [] x w = w.0
  within_last (y ∷ ys) x w = within_last ys x w.1

  within_more : (xs : List Visit) (x : Visit) → AreWithin slots xs → IsWithin slots x → AreWithin slots (xs ++ x ∷ [])
  within_more [] x w h = (h, tt)
  within_more (y ∷ ys) x w h = (w.0, within_more ys x w.1 h)

  weight_last : (xs : List Visit) (x : Visit) → weight nodes slots (xs ++ x ∷ []) ≡ weight nodes slots xs + weigh nodes slots x
  weight_last [] x = omega arith
  weight_last (y ∷ ys) x = let e = weight_last ys x in omega arith

  three : (xs : List Visit) (x y z : Visit) → xs ++ x ∷ y ∷ z ∷ [] ≡ ((xs ++ x ∷ []) ++ y ∷ []) ++ z ∷ []
  three [] x y z = refl
  three (w ∷ xs) x y z = ap (λ l. w ∷ l) (three xs x y z)

  module _ (vs marks : List ℕ) (clock : ℕ) (found : List ℕ) (xs : List Visit) where
    -- all variables of the term were found
    pub skipped : (at : ℕ) → HasAll found (solved_at nodes slots at) → Gathers nodes slots vs marks clock found (xs ++ Enter at ∷ [])
        → Visited nodes slots vs marks clock found found (xs ++ Enter at ∷ []) xs
    skipped at h g =
        let e : places found (solved_at nodes slots at) ≡ found = places_none (solved_at nodes slots at) found h in
        record {
          gathers = record {
            done = g.done;
            seen = g.seen;
            covered = subst (λ z. AreCovered nodes slots z xs) e (covered_front found xs (Enter at) g.covered);
            within = within_front xs (Enter at) g.within;
            len = g.len;
          };
          same = sym (gather_last found xs (Enter at) ∙ ap (λ z. gather nodes slots z xs) e);
          fewer = let w = weight_last xs (Enter at) in let l = size_least (solved_at nodes slots at) in omega arith;
        }

    -- a variable that wasn't found
    pub found_one : (at r w : ℕ) → r < length slots → solved_at nodes slots at ≡ var w → solved_at nodes slots r ≡ var w → root slots (place_at vs w) ≡ r → (mark_of marks r ≡ clock → ⊥)
        → Gathers nodes slots vs marks clock found (xs ++ Enter at ∷ [])
        → Visited nodes slots vs (slice_set marks r clock) clock found (found ++ w ∷ []) (xs ++ Enter at ∷ []) xs
    found_one at r w lr e er home unmarked g =
        let new : stands_in found w ≡ false = none_yet (stands_in found w) (λ s. unmarked (subst (λ z. mark_of marks z ≡ clock) home (g.seen w s))) in
        let p : places found (solved_at nodes slots at) ≡ found ++ w ∷ [] = ap (places found) e ∙ places_no found w new in
        let lm : r < length marks = let k = g.len in omega arith in
        record {
          gathers = record {
            done = λ i m. elim (mark_set marks r clock i lm) [
              | inl a ↦ λ v o. stands_last found w v (subst (λ t. Occurs v t) (ap (solved_at nodes slots) a.0 ∙ er) o)
              | inr a ↦ λ v o. stands_more found (w ∷ []) v (g.done i (sym a.1 ∙ m) v o)
            ];
            seen = λ v s. elim (mark_set marks r clock (root slots (place_at vs v)) lm) [
              | inl a ↦ a.1
              | inr a ↦ elim (stands_cases found w v s) [
                | inl q ↦ a.1 ∙ g.seen v q
                | inr q ↦ absurd (a.0 (ap (λ z. root slots (place_at vs z)) (sym q) ∙ home))
              ]
            ];
            covered = subst (λ z. AreCovered nodes slots z xs) p (covered_front found xs (Enter at) g.covered);
            within = within_front xs (Enter at) g.within;
            len = length-set marks r clock ∙ g.len;
          };
          same = sym (gather_last found xs (Enter at) ∙ ap (λ z. gather nodes slots z xs) p);
          fewer = let k = weight_last xs (Enter at) in let l = size_least (solved_at nodes slots at) in omega arith;
        }

    -- an application
    pub entered : (at r f a : ℕ) → r < length slots → f < length slots → a < length slots → solved_at nodes slots at ≡ app (solved_at nodes slots f) (solved_at nodes slots a) → solved_at nodes slots r ≡ solved_at nodes slots at
        → Gathers nodes slots vs marks clock found (xs ++ Enter at ∷ [])
        → Visited nodes slots vs marks clock found found (xs ++ Enter at ∷ []) (xs ++ Leave r ∷ Enter a ∷ Enter f ∷ [])
    entered at r f a lr lf la e er g =
        let sf = solved_at nodes slots f in
        let sa = solved_at nodes slots a in
        let one = xs ++ Leave r ∷ [] in
        let two = one ++ Enter a ∷ [] in
        let all : List ℕ = places (places found sf) sa in
        let p : places found (solved_at nodes slots at) ≡ all = ap (places found) e in
        let has : HasAll all (solved_at nodes slots r) = subst (λ t. HasAll all t) (sym (er ∙ e)) (places_all (app sf sa) found) in
        let front : AreCovered nodes slots all xs = subst (λ z. AreCovered nodes slots z xs) p (covered_front found xs (Enter at) g.covered) in
        let k = three xs (Leave r) (Enter a) (Enter f) in
        record {
          gathers = record {
            done = g.done;
            seen = g.seen;
            covered = subst (λ l. AreCovered nodes slots found l) (sym k)
                (covered_more found two (Enter f) tt (covered_more (places found sf) one (Enter a) tt (covered_more all xs (Leave r) has front)));
            within = subst (λ l. AreWithin slots l) (sym k)
                (within_more two (Enter f) (within_more one (Enter a) (within_more xs (Leave r) (within_front xs (Enter at) g.within) lr) la) lf);
            len = g.len;
          };
          same =
              ap (gather nodes slots found) k ∙ gather_last found two (Enter f) ∙ gather_last (places found sf) one (Enter a) ∙ gather_last all xs (Leave r)
              ∙ sym (gather_last found xs (Enter at) ∙ ap (λ z. gather nodes slots z xs) p);
          fewer =
              let w0 = weight_last xs (Enter at) in
              let w1 = weight_last xs (Leave r) in
              let w2 = weight_last one (Enter a) in
              let w3 = weight_last two (Enter f) in
              let w4 = ap (weight nodes slots) k in
              let s = ap size e in
              omega arith;
        }

    -- a class that is left
    pub left_one : (r : ℕ) → Gathers nodes slots vs marks clock found (xs ++ Leave r ∷ [])
        → Visited nodes slots vs (slice_set marks r clock) clock found found (xs ++ Leave r ∷ []) xs
    left_one r g =
        let lr : r < length slots = within_last xs (Leave r) g.within in
        let lm : r < length marks = let k = g.len in omega arith in
        record {
          gathers = record {
            done = λ i m. elim (mark_set marks r clock i lm) [
              | inl a ↦ subst (λ z. HasAll found (solved_at nodes slots z)) (sym a.0) (covered_last found xs (Leave r) g.covered)
              | inr a ↦ g.done i (sym a.1 ∙ m)
            ];
            seen = λ v s. elim (mark_set marks r clock (root slots (place_at vs v)) lm) [ inl a ↦ a.1 | inr a ↦ a.1 ∙ g.seen v s ];
            covered = covered_front found xs (Leave r) g.covered;
            within = within_front xs (Leave r) g.within;
            len = length-set marks r clock ∙ g.len;
          };
          same = sym (gather_last found xs (Leave r));
          fewer = let w = weight_last xs (Leave r) in omega arith;
        }

-- what is met in an arena
module _ (nodes : List Node) (slots : List Slot) (vs : List ℕ) (h : Sound nodes slots) (o : AreOrdered nodes slots) (num : AreNumbered nodes vs)
    (at r : ℕ) (met node : Node) (l : at < length slots) (e : r ≡ root slots at) (f : met ≡ get_or nodes (shape_of slots r) met) (g : met ≡ node) where
  r_within : r < length slots
  r_within = subst (λ z. z < length slots) (sym e) (root_within slots h.linked at l)

  r_last : link_of slots r ≡ r
  r_last = subst (λ z. link_of slots z ≡ z) (sym e) (root_ends slots h.linked at l)

  r_shape : shape_of slots r < length nodes
  r_shape = h.shapes r r_within

  r_node : node_at nodes (shape_of slots r) ≡ node
  r_node = sym (f ∙ get_or_default nodes (shape_of slots r) met (Free 0) r_shape) ∙ g

  r_solved : solved_at nodes slots r ≡ solved_at nodes slots at
  r_solved = sym (fits_root nodes slots (solved_at nodes slots) h.linked (fits_solved nodes slots h o) at l ∙ ap (solved_at nodes slots) (sym e))

  layer_at : solved_at nodes slots at ≡ layer node (solved_at nodes slots)
  layer_at = layer_here nodes slots h o at r met node l e f g

  home : (w : ℕ) → HasNumber node w → root slots (place_at vs w) ≡ r
  home w k = ap (root slots) (listed_place vs node w (shape_of slots r) k (subst (λ z. IsListed vs z (shape_of slots r)) r_node (num.listed (shape_of slots r) r_shape))) ∙ h.inside r r_within r_last

  pub meets_variable : (w : ℕ) (marks : List ℕ) (clock : ℕ) (found : List ℕ) (xs : List Visit) → HasNumber node w → (mark_of marks r ≡ clock → ⊥) → Gathers nodes slots vs marks clock found (xs ++ Enter at ∷ [])
      → Visited nodes slots vs (slice_set marks r clock) clock found (found ++ w ∷ []) (xs ++ Enter at ∷ []) xs
  meets_variable w marks clock found xs k unmarked u =
      let v = layer_at ∙ own_layer node (solved_at nodes slots) w k in
      found_one nodes slots vs marks clock found xs at r w r_within v (r_solved ∙ v) (home w k) unmarked u

  pub meets_parts : (x y : ℕ) (marks : List ℕ) (clock : ℕ) (found : List ℕ) (xs : List Visit) → node ≡ App x y → Gathers nodes slots vs marks clock found (xs ++ Enter at ∷ [])
      → Visited nodes slots vs marks clock found found (xs ++ Enter at ∷ []) (xs ++ Leave r ∷ Enter y ∷ Enter x ∷ [])
  meets_parts x y marks clock found xs k u =
      let p : HasParts (App x y) (shape_of slots r) = subst (λ z. HasParts z (shape_of slots r)) (r_node ∙ k) (h.parts (shape_of slots r) r_shape) in
      let px = p.0 in
      let py = p.1 in
      let len = h.len in
      let ls = r_shape in
      entered nodes slots vs marks clock found xs at r x y r_within (omega arith) (omega arith) (layer_at ∙ ap (λ z. layer z (solved_at nodes slots)) k) r_solved u

  pub meets_constructor : (c : Name) (marks : List ℕ) (clock : ℕ) (found : List ℕ) (xs : List Visit) → node ≡ Con c → Gathers nodes slots vs marks clock found (xs ++ Enter at ∷ [])
      → Visited nodes slots vs marks clock found found (xs ++ Enter at ∷ []) xs
  meets_constructor c marks clock found xs k u =
      skipped nodes slots vs marks clock found xs at (subst (λ t. HasAll found t) (sym (layer_at ∙ ap (λ z. layer z (solved_at nodes slots)) k)) (λ v q. absurd q)) u

-- a class all of whose variables were found
pub meets_done : (nodes : List Node) (slots : List Slot) (vs marks : List ℕ) (clock : ℕ) (found : List ℕ) (xs : List Visit) (at r : ℕ) → Sound nodes slots → AreOrdered nodes slots → at < length slots → r ≡ root slots at → mark_of marks r ≡ clock
    → Gathers nodes slots vs marks clock found (xs ++ Enter at ∷ []) → Visited nodes slots vs marks clock found found (xs ++ Enter at ∷ []) xs
meets_done nodes slots vs marks clock found xs at r h o l e m u =
    let s : solved_at nodes slots r ≡ solved_at nodes slots at = sym (fits_root nodes slots (solved_at nodes slots) h.linked (fits_solved nodes slots h o) at l ∙ ap (solved_at nodes slots) (sym e)) in
    skipped nodes slots vs marks clock found xs at (subst (λ t. HasAll found t) s (u.done r m)) u

-- nothing was found yet
pub starts : (nodes : List Node) (slots : List Slot) (vs marks : List ℕ) (clock at : ℕ) (todo : List Visit) → at < length slots → length marks ≡ length slots → ((i : ℕ) → mark_of marks i < clock) → todo ≡ Enter at ∷ []
    → Gathers nodes slots vs marks clock [] todo × (gather nodes slots [] todo ≡ places [] (solved_at nodes slots at))
starts nodes slots vs marks clock at todo l len fresh e = subst (λ t. Gathers nodes slots vs marks clock [] t × (gather nodes slots [] t ≡ places [] (solved_at nodes slots at))) (sym e) (
  record {
    done = λ r m. let b = fresh r in absurd (omega arith);
    seen = λ v s. absurd (cc);
    covered = (tt, tt);
    within = (l, tt);
    len = len;
  },
  refl,
)

-- A class gets another rank.
use Rattle.std.proofs.Common.{ℕ, zero, suc, ◌-◌, ◌≡◌, ◌≢◌, ◌<◌, ◌≤◌, List, length, refl, sym, ap, ◌∙◌, inl, inr, subst, arith, nat_eq, if◌then◌else◌}
use Rattle.std.proofs.lemmas.Bool.{cases_eq}
use Rattle.unifiers.specs.Term.{Term}
use Rattle.term_classes.specs.declared.node.Slot.{Slot}
use Rattle.term_classes.specs.declared.node.Node.{Node}
use Rattle.term_classes.specs.declared.node.Node.TheVariants.{Free, Rigid, Con, App}
use Rattle.term_classes.specs.Slots.{link_of, shape_of, rank_of, height_of, AreLinked, follow, root}
use Rattle.term_classes.specs.Fits.{Fits, FitsNode, node_at, Sound, PartsBelow, IsOrdered}
use Rattle.term_classes.specs.Settle.{Reranked}

pub follow_alike : (old new : List Slot) → ((i : ℕ) → link_of new i ≡ link_of old i) → (k i : ℕ) → follow new k i ≡ follow old k i
follow_alike old new e zero i = refl
follow_alike old new e (suc k) i =
    ap (λ z. if nat_eq z i then i else follow new k z) (e i) ∙ ap (λ z. if nat_eq (link_of old i) i then i else z) (follow_alike old new e k (link_of old i))

module _ (nodes : List Node) (old new : List Slot) (at r : ℕ) (j : Reranked old new at r) (h : Sound nodes old) (le : r ≤ rank_of old at) where
  pub root_alike : (i : ℕ) → root new i ≡ root old i
  unfolding root
  root_alike i = ap (λ z. follow new (256 - z) i) (j.height i) ∙ follow_alike old new j.link (256 - height_of old i) i

  pub rank_down : (i : ℕ) → rank_of new i ≤ rank_of old i
  rank_down i = elim (cases_eq i at) [
    | inl e ↦ let a = ap (rank_of new) e in let b = ap (rank_of old) e in let c = j.rank in omega arith
    | inr e ↦ let a = j.other i e in omega arith
  ]

  back : (i : ℕ) → i < length new → i < length old
  back i l = let e = j.len in omega arith

  on : (i : ℕ) → i < length old → i < length new
  on i l = let e = j.len in omega arith

  linked_new : AreLinked new
  linked_new = record {
    within = λ i l. let a = h.linked.within i (back i l) in let e = j.link i in let n = j.len in omega arith;
    rise = λ i l e.
        let a = h.linked.rise i (back i l) (λ z. e (j.link i ∙ z)) in
        let b = j.height i in
        let c = j.height (link_of old i) in
        let d = ap (height_of new) (j.link i) in
        omega arith;
    bounded = λ i l. let a = h.linked.bounded i (back i l) in let b = j.height i in omega arith;
  }

  pub sound_new : Sound nodes new
  sound_new = record {
    linked = linked_new;
    len = j.len ∙ h.len;
    shapes = λ i l. subst (λ z. z < length nodes) (sym (j.shape i)) (h.shapes i (back i l));
    inside = λ i l e. root_alike (shape_of new i) ∙ ap (root old) (j.shape i) ∙ h.inside i (back i l) (sym (j.link i) ∙ e);
    parts = h.parts;
  }

  pub fits_old : (q : ℕ → Term) → Fits nodes new q → Fits nodes old q
  fits_old q f = record {
    links = λ i l. f.links i (on i l) ∙ ap q (j.link i);
    shapes = λ i l e. subst (λ z. FitsNode (node_at nodes z) q (q i)) (j.shape i) (f.shapes i (on i l) (j.link i ∙ e));
  }

  pub fits_new : (q : ℕ → Term) → Fits nodes old q → Fits nodes new q
  fits_new q f = record {
    links = λ i l. f.links i (back i l) ∙ ap q (sym (j.link i));
    shapes = λ i l e. subst (λ z. FitsNode (node_at nodes z) q (q i)) (sym (j.shape i)) (f.shapes i (back i l) (sym (j.link i) ∙ e));
  }

  rank_root : (i : ℕ) → rank_of new (root new i) ≤ rank_of old (root old i)
  rank_root i = let a = ap (rank_of new) (root_alike i) in let b = rank_down (root old i) in omega arith

  pub parts_still : (n : Node) (s : ℕ) → PartsBelow n old s → PartsBelow n new s
  parts_still (Free w) s p = tt
  parts_still (Rigid w) s p = tt
  parts_still (Con c) s p = tt
  parts_still (App f a) s p = let x = rank_root f in let y = rank_root a in let u = p.0 in let v = p.1 in (omega arith, omega arith)

  pub ordered_still : (i : ℕ) → i ≢ at → IsOrdered nodes old i → IsOrdered nodes new i
  ordered_still i ne o = subst (λ z. PartsBelow (node_at nodes z) new (rank_of new i)) (sym (j.shape i))
      (subst (λ z. PartsBelow (node_at nodes (shape_of old i)) new z) (sym (j.other i ne)) (parts_still (node_at nodes (shape_of old i)) (rank_of old i) o))

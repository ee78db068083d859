-- The same terms with nothing solved.
use Rattle.std.proofs.Common.{ℕ, suc, ◌+◌, ◌≡◌, ◌<◌, List, [], length, get_or, sym, ap, ◌∙◌, inl, inr, subst, arith, false}
use Rattle.std.proofs.lemmas.Bool.{cases_lt}
use Rattle.std.proofs.lemmas.List.{get_or_default}
use Rattle.unifiers.specs.Unifier.{MostGeneral}
use Rattle.term_classes.specs.declared.node.Slot.{Slot}
use Rattle.term_classes.specs.declared.node.Node.{Node}
use Rattle.term_classes.specs.declared.node.Node.TheVariants.{Free}
use Rattle.term_classes.specs.Fits.{node_at, HasParts}
use Rattle.term_unify.specs.Arena.{Arena, made, made_at, layer, size_of, count_of, is_rigid, solution, IsNext, count_with, variables_before, AreNumbered}
use Rattle.term_unify.specs.Added.{Relaxed, IsRelaxed, Grown}
use Rattle.term_unify.proofs.Solution.{layer_alike}
use Rattle.term_unify.proofs.Grow.{by_parts, made_layered}

pub relaxed_more : (nodes : List Node) (vs : List ℕ) (k : ℕ) (old new : Arena) (node : Node) → ((i : ℕ) → i < length nodes → HasParts (node_at nodes i) i) → AreNumbered nodes vs → k < length nodes → node_at nodes k ≡ node
    → IsRelaxed nodes k old → Grown old new node → IsRelaxed nodes (k + 1) new
relaxed_more nodes vs k old new node h num l e r g = record {
  size = let a = r.size in let b = g.size in omega arith;
  count =
      let n : k + 1 ≡ suc k = omega arith in
      g.count ∙ ap (count_with node) r.count ∙ ap (λ z. count_with z (variables_before nodes k)) (sym e) ∙ ap (variables_before nodes) (sym n);
  made = λ i li. elim (cases_lt i k) [
    | inl a ↦ g.made_before i (let s = r.size in omega arith) ∙ r.made i a
    | inr a ↦
        let s = r.size in
        let is : i ≡ size_of old = omega arith in
        let ik : i ≡ k = omega arith in
        let nx : IsNext node (count_of old) = subst (λ z. IsNext z (count_of old)) e (subst (λ z. IsNext (node_at nodes k) z) (sym r.count) (num.counted k l)) in
        let p : HasParts node k = subst (λ z. HasParts z k) e (h k l) in
        ap (made new) is ∙ g.made_here nx ∙ layer_alike node (made old) (made_at nodes) (by_parts node k k (made old) (made_at nodes) p (omega arith) (λ x lx bx. r.made x lx))
        ∙ ap (λ z. layer z (made_at nodes)) (sym e) ∙ sym (made_layered nodes h k l) ∙ ap (made_at nodes) (sym ik)
  ];
  rigid = λ n. g.rigid n ∙ r.rigid n;
  general = g.general [] r.general;
}

pub relaxed_all : (nodes : List Node) (slots : List Slot) (vs : List ℕ) (k : ℕ) (st new : Arena) → st ≡ record { nodes = nodes; slots = slots; variables = vs } → AreNumbered nodes vs → k ≡ length nodes → IsRelaxed nodes k new → Relaxed st new
relaxed_all nodes slots vs k st new e num l r = subst (λ (s : Arena). Relaxed s new) (sym e) (record {
  size = r.size ∙ l;
  count = r.count ∙ ap (variables_before nodes) l ∙ sym num.total;
  made = λ i li. r.made i (omega arith);
  rigid = r.rigid;
  general = r.general;
})

-- the invariant of the loop, over the nodes as the arena has them
pub relaxed_none : (nodes : List Node) (new : Arena) → (size_of new ≡ 0) × (count_of new ≡ 0) → MostGeneral (is_rigid new) [] (solution new) → ((n : ℕ) → is_rigid new n ≡ false) → IsRelaxed nodes 0 new
relaxed_none nodes new e m r = record { size = e.0; count = e.1; made = λ i l. absurd (omega arith); rigid = r; general = m }

pub relaxed_step : (st : Arena) (nodes : List Node) (slots : List Slot) (vs : List ℕ) (k : ℕ) (old new : Arena) (met : Node) → st ≡ record { nodes = nodes; slots = slots; variables = vs }
    → ((i : ℕ) → i < length nodes → HasParts (node_at nodes i) i) → AreNumbered nodes vs → k < length nodes → met ≡ get_or nodes k met
    → IsRelaxed st.nodes k old → Grown old new met → IsRelaxed st.nodes (k + 1) new
relaxed_step st nodes slots vs k old new met e h num l f r g =
    let P : Arena → Type 0 = λ s. IsRelaxed s.nodes k old → IsRelaxed s.nodes (k + 1) new in
    subst P (sym e) (λ r'. relaxed_more nodes vs k old new met h num l (sym (f ∙ get_or_default nodes k met (Free 0) l)) r' g) r

pub parts_step : (st : Arena) (nodes : List Node) (slots : List Slot) (vs : List ℕ) (k : ℕ) (old : Arena) (met : Node) → st ≡ record { nodes = nodes; slots = slots; variables = vs }
    → ((i : ℕ) → i < length nodes → HasParts (node_at nodes i) i) → k < length nodes → met ≡ get_or nodes k met → IsRelaxed st.nodes k old → HasParts met (size_of old)
parts_step st nodes slots vs k old met e h l f r =
    subst (λ z. HasParts met z) (sym r.size) (subst (λ z. HasParts z k) (sym (f ∙ get_or_default nodes k met (Free 0) l)) (h k l))

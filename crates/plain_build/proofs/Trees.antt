-- The build of the tree is that of all its nodes.
use Rattle.std.proofs.Common.{◌≡◌, ℕ, ◌+◌, ◌<◌, ◌≤◌, ◌^◌, List, [], ◌∷◌, ◌++◌, length, map, refl, ap, sym, ◌∙◌, subst, Some, arith, add-one}
use Rattle.std.specs.Prelude.{slice_get}
use Rattle.std.specs.List.{AllByRecursion}
use Rattle.std.proofs.lemmas.List.{take_all}
use Rattle.mk_base.specs.declared.name.Node.{Node}
use Rattle.plain_scope.specs.declared.scope.Content.{Content}
use Rattle.build_theory.specs.Build.{order, results}
use Rattle.build_plan.specs.Tree.{nodes_of, ordered}
use Rattle.plain_build.specs.declared.build.PlainBuild.{PlainBuild}
use Rattle.plain_build.specs.declared.done.Done.{Done}
use Rattle.plain_build.specs.Plain.{PlainTree, plain}
use Rattle.plain_build.specs.Result.{PlainJudged, IsUnitName, AreResults, nodes_in, is_checked, checks_in, built}
use Rattle.plain_build.specs.Done.{AreContents, IsDone, judged_before, judged_next, sorted_tree, soundness}
use Rattle.plain_build.proofs.Needs.{Stands}
use Rattle.plain_build.proofs.Next.{before_next, before_none, stood}
use Rattle.plain_build.proofs.Order.{order_same, tree_same}

abbrev Results : Type 0
Results = List (Node × PlainJudged)

checks_more : (js : Results) (j : Node × PlainJudged) → checks_in (js ++ j ∷ []) ≡ checks_in js + is_checked j.1.how
checks_more [] j = omega arith
checks_more (i ∷ js) j = let e : checks_in (js ++ j ∷ []) ≡ checks_in js + is_checked j.1.how = checks_more js j in omega (arith, e)

pub checks_next : (t : PlainTree) (n : ℕ) (a : Node × List ℕ) → slice_get (ordered t) n ≡ Some a → checks_in (judged_before t (n + 1)) ≡ checks_in (judged_before t n) + is_checked (judged_next t a n).how
checks_next t n a here = ap checks_in (ap (judged_before t) (add-one n) ∙ before_next t n a here) ∙ checks_more (judged_before t n) (a.0, judged_next t a n)

-- nothing is done at first
pub none_done : (t : PlainTree) (done : Done) → done.results ≡ [] → done.contents.items ≡ [] → done.sound.items ≡ [] → IsDone t done 0
none_done t done rs cs bs = record {
  results = subst (λ xs. AreResults t.settings.unit (nodes_of (ordered t)) xs (judged_before t 0)) (sym rs)
      (subst (λ js. AreResults t.settings.unit (nodes_of (ordered t)) [] js) (sym (before_none t)) tt);
  contents = subst (λ xs. AreContents xs (judged_before t 0)) (sym cs) (subst (λ js. AreContents [] js) (sym (before_none t)) tt);
  small = subst (AllByRecursion (λ (c : Content). length c.module < 2 ^ 32)) (sym cs) tt;
  sound = bs ∙ sym (ap soundness (before_none t));
}

all_stand : (js : Results) (qs : List (Node × List ℕ)) → length js ≡ length qs → Stands js qs → nodes_in js ≡ map (λ (q : Node × List ℕ). q.0) qs
all_stand [] [] e s = refl
all_stand [] (q ∷ qs) e s = absurd (let h : 0 ≡ length qs + 1 = e ∙ sym (add-one (length qs)) in omega arith)
all_stand (j ∷ js) [] e s = absurd s
all_stand (j ∷ js) (q ∷ qs) e s = ap (λ n. n ∷ nodes_in js) s.0 ∙ ap (λ ns. q.0 ∷ ns) (all_stand js qs (omega (arith, e)) s.1)

before_all : (t : PlainTree) → judged_before t (length (ordered t)) ≡ results plain t [] [] (ordered t)
unfolding judged_before
before_all t = ap (results plain t [] []) (take_all (length (ordered t)) (ordered t) (omega arith))

built_is : (input : PlainBuild) → results plain (sorted_tree input) [] [] (ordered (sorted_tree input)) ≡ built input
built_is input =
    ap (results plain (sorted_tree input) [] []) (sym (order_same (sorted_tree input)))
    ∙ ap (λ (t : PlainTree). results plain t [] [] (order plain t)) (sym (tree_same input))

-- once all nodes are done, their results are those of the build
pub all_done : (input : PlainBuild) (done : Done) → IsDone (sorted_tree input) done (length (ordered (sorted_tree input))) → (sorted_tree input).settings.unit ≡ input.unit.text
    → AreResults input.unit.text (nodes_in (built input)) done.results (built input)
all_done input done all unit =
    let t : PlainTree = sorted_tree input in
    let n : ℕ = length (ordered t) in
    let same : judged_before t n ≡ built input = before_all t ∙ built_is input in
    let s = stood t n (omega arith) in
    let nodes : nodes_of (ordered t) ≡ nodes_in (built input) = sym (all_stand (judged_before t n) (ordered t) s.0 s.1) ∙ ap nodes_in same in
    subst (λ u. AreResults u (nodes_in (built input)) done.results (built input)) unit
    (subst (λ js. AreResults t.settings.unit (nodes_in (built input)) done.results js) same
    (subst (λ ns. AreResults t.settings.unit ns done.results (judged_before t n)) nodes all.results))

pub all_checks : (input : PlainBuild) → checks_in (judged_before (sorted_tree input) (length (ordered (sorted_tree input)))) ≡ checks_in (built input)
all_checks input = ap checks_in (before_all (sorted_tree input) ∙ built_is input)

pub unit_length : (u : List ℕ) → IsUnitName u → length u ≤ 64
unit_length [] h = absurd h
unit_length (b ∷ bs) h = h.2

use Rattle.std.proofs.Common.{◌≡◌, ◌<◌, ℕ, List, ◌++◌, ◌∷◌, [], arith, sym, subst, inl, inr}
use Rattle.std.specs.List.{All, Contains}
use Rattle.std.proofs.lemmas.Bool.{cases_lt}
use Rattle.std.proofs.lemmas.List.Elements.{All-push, Contains-append_left, Contains-push}
use Rattle.node_groups.proofs.order.numbers_below.Goals as goal

pub loop-number-preserved : goal.loop-number-preserved
loop-number-preserved c =
    let old = c.loop-number.numbers.items in
    let k : ℕ = c.loop-number.number in
    let push = c.in_ok-push.ensures.items in
    let inv = c.loop-number.invariant in
    record {
      nodes = subst (λ (l : List ℕ). All (λ x. x < c.args.count) l) (sym push) (All-push (λ x. x < c.args.count) old k inv.nodes c.loop-number-test.true);
      all = λ x less. subst (λ (l : List ℕ). Contains l x) (sym push) (elim (cases_lt x k) [
        | inl below ↦ Contains-append_left old (k ∷ []) x (inv.all x below)
        | inr more ↦ let same : k ≡ x = omega arith in subst (λ z. Contains (old ++ k ∷ []) z) same (Contains-push old k)
      ]);
    }

use Rattle.std.proofs.Common.{◌≡◌, ℕ, List, [], get_or, map, length, arith, ap, sym, ◌∙◌, subst, inl, inr}
use Rattle.std.specs.List.{Contains}
use Rattle.std.proofs.lemmas.Bool.{cases_lt}
use Rattle.std.proofs.lemmas.List.{get_or-map}
use Rattle.bind_groups.specs.declared.binding.Binding.{Binding}
use Rattle.bind_groups.specs.Depends.{unsigned_names}
use Rattle.bind_groups.proofs.Named.{row_past}
use Rattle.bind_groups.proofs.names.bound_names.Goals as goal

pub loop-binding-preserved : goal.loop-binding-preserved
loop-binding-preserved c = λ j x less there.
    let bs : List Binding = c.args.bindings.now in
    let i : ℕ = c.loop-binding.binding-index in
    let b : Binding = c.binding-item.result in
    let add = c.in_ok-add_names.ensures in
    elim (cases_lt j i) [
      | inl below ↦ add x (inl (c.loop-binding.invariant j x below there))
      | inr more ↦
          let same : j ≡ i = omega arith in
          let row : get_or (map unsigned_names bs) i [] ≡ unsigned_names b = get_or-map unsigned_names bs i b [] c.loop-binding-test.true ∙ ap unsigned_names (sym c.binding-item.is) in
          let here = subst (λ k. Contains (get_or (map unsigned_names bs) k []) x) same there in
          add x (inr (subst (λ (l : List ℕ). Contains l x) (row ∙ sym c.names_without_signature.ensures) here))
    ]

pub returns : goal.returns
returns c = λ j x there. elim (cases_lt j (length c.args.bindings.now)) [
  | inl lt ↦ c.loop-binding.invariant j x (let end = c.loop-binding-test.false in omega arith) there
  | inr ge ↦ absurd (row_past unsigned_names c.args.bindings.now j x ge there)
]

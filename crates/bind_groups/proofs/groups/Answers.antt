use Rattle.std.proofs.Common.{◌≡◌, ◌≤◌, ◌^◌, ℕ, List, Vec, [], get_or, map, length, arith, ap, sym, ◌∙◌, subst}
use Rattle.std.specs.Global.{Global}
use Rattle.std.specs.List.{Contains}
use Rattle.std.proofs.lemmas.Result.{IfOk-weaker}
use Rattle.numbered_nodes.specs.Edges.{lists, InRange}
use Rattle.node_groups.specs.Groups.{IsGroups}
use Rattle.bind_groups.specs.declared.binding.Binding.{Binding}
use Rattle.bind_groups.specs.Depends.{unsigned_names, used_names, Depends}
use Rattle.bind_groups.specs.Meets.{Meets}
use Rattle.bind_groups.specs.Numbers.{HasName, numbers_in}
use Rattle.bind_groups.proofs.Alike.{groups_alike}
use Rattle.bind_groups.proofs.Named.{same_length, rows_in_range, groups_in_range, meets_depends, depends_meets}
use Rattle.bind_groups.proofs.groups.Goals as goal

pub row_groups-requires-clause-len : goal.row_groups-requires-clause-len
row_groups-requires-clause-len c =
    let keys : List ℕ = c.in_ok-names.names.keys in
    let a = same_length (λ b. numbers_in keys (unsigned_names b)) c.as_slice-2.result.now c.in_ok-bound.bound.items c.in_ok-bound.ensures in
    let b = same_length (λ b. numbers_in keys (used_names b)) c.as_slice-3.result.now c.in_ok-used.used.items c.in_ok-used.ensures in
    ap (λ (l : List (Vec ℕ Global)). length l) c.deref.ensures.value
    ∙ a
    ∙ ap (λ (l : List Binding). length l) (c.as_slice-2.ensures ∙ sym c.as_slice-3.ensures)
    ∙ sym b
    ∙ sym (ap (λ (l : List (Vec ℕ Global)). length l) c.deref-2.ensures.value)

pub row_groups-requires-clause-bound : goal.row_groups-requires-clause-bound
row_groups-requires-clause-bound c = rows_in_range c.in_ok-names.names.keys unsigned_names c.as_slice-2.result.now (lists c.deref.result.now) c.len.result (ap lists c.deref.ensures.value ∙ c.in_ok-bound.ensures) (sym c.len.ensures.len)

pub row_groups-requires-clause-used : goal.row_groups-requires-clause-used
row_groups-requires-clause-used c = rows_in_range c.in_ok-names.names.keys used_names c.as_slice-3.result.now (lists c.deref-2.result.now) c.len.result (ap lists c.deref-2.ensures.value ∙ c.in_ok-used.ensures) (sym c.len.ensures.len)

pub number_lists-requires : goal.number_lists-requires
number_lists-requires c =
    let keys : List ℕ = c.in_ok-names.names.keys in
    let wide = ap (λ (l : List (Vec ℕ Global)). length l) c.deref-2.ensures.value ∙ same_length (λ b. numbers_in keys (used_names b)) c.as_slice-3.result.now c.in_ok-used.used.items c.in_ok-used.ensures ∙ ap (λ (l : List Binding). length l) c.as_slice-3.ensures in
    let few : length c.deref-2.result.now ≤ 2 ^ 32 = (let f = c.requires.few in omega arith) in
    subst (λ (l : List (Vec ℕ Global)). InRange (lists l) (2 ^ 32)) (sym c.deref-3.ensures.value)
    (groups_in_range (Meets (lists c.deref-2.result.now) (lists c.deref.result.now)) (length c.deref-2.result.now) (2 ^ 32) (lists c.in_ok-groups.groups.items) few c.in_ok-groups.ensures)

pub returns : goal.returns
returns c =
    let keys : List ℕ = c.in_ok-names.names.keys in
    let bs : List Binding = c.args.bindings.now in
    let used = lists c.deref-2.result.now in
    let bound = lists c.deref.result.now in
    let is_used : used ≡ map (λ b. numbers_in keys (used_names b)) bs = ap lists c.deref-2.ensures.value ∙ c.in_ok-used.ensures ∙ ap (λ (l : List Binding). map (λ b. numbers_in keys (used_names b)) l) c.as_slice-3.ensures in
    let is_bound : bound ≡ map (λ b. numbers_in keys (unsigned_names b)) bs = ap lists c.deref.ensures.value ∙ c.in_ok-bound.ensures ∙ ap (λ (l : List Binding). map (λ b. numbers_in keys (unsigned_names b)) l) c.as_slice-2.ensures in
    let all = subst (λ (l : List Binding). (j x : ℕ) → Contains (get_or (map unsigned_names l) j []) x → HasName keys x) c.as_slice.ensures c.in_ok-names.ensures in
    let wide : length c.deref-2.result.now ≡ length bs = same_length (λ b. numbers_in keys (used_names b)) bs c.deref-2.result.now is_used in
    let made = subst (λ n. IsGroups (Meets used bound) n (lists c.in_ok-groups.groups.items)) wide c.in_ok-groups.ensures in
    let done = groups_alike (Meets used bound) (Depends bs) (length bs) (meets_depends keys bs used bound is_used is_bound all) (depends_meets keys bs used bound is_used is_bound all) (lists c.in_ok-groups.groups.items) made in
    record { groups = IfOk-weaker c.number_lists.result _ _ (λ v e. subst (λ (l : List (List ℕ)). IsGroups (Depends bs) (length bs) l) (sym (e ∙ ap lists c.deref-3.ensures.value)) done) c.number_lists.ensures }

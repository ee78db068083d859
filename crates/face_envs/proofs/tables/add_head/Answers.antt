use Rattle.std.proofs.Common.{◌≡◌, ◌∙◌, ◌++◌, ◌∷◌, [], None, Some, ap, cond, subst, sym, rules}
use Rattle.std.specs.Option.{IsSome}
use Rattle.indexmap.specs.IndexMap.{get}
use Rattle.mk_base.specs.contracts.name.NamePartialEq.TheImpl as derived
use Rattle.face_model.specs.Environments.{same_name}
use Rattle.face_envs.specs.Tables.{row_of, module_at, put_behind}
use Rattle.face_envs.proofs.Rows.{row_put, names_same, names_tell, names_turn}
use Rattle.face_envs.proofs.tables.add_head.Goals as goal

pub returns-in_ok-put_inst-in-Some : goal.returns-in_ok-put_inst-in-Some
returns-in_ok-put_inst-in-Some c = λ n.
    let old = c.args.table.now in
    let key = c.args.head.now in
    let w = c.put_inst.new.row in
    let new = c.get_mut.follows.lender w in
    let value : get same_name old key ≡ Some c.in-Some.row.now = subst (λ same. get same old key ≡ Some c.in-Some.row.now) names_same (sym c.in-Some.ensures.value) in
    let found : IsSome (get derived.eq-value.it old key) = subst IsSome c.in-Some.ensures.value (search rules) in
    let is : get same_name new n ≡ cond (same_name key n) (Some w) (get same_name old n) = subst (λ same. get same new n ≡ cond (same key n) (Some w) (get same old n)) names_same (((c.get_mut.follows.holds w).3 found).0 n) in
    row_put same_name names_tell names_turn (put_behind module_at c.args.inst) (get same_name old) (get same_name new) key n w is
    (c.in_ok-put_inst-in-Some.ensures ∙ ap (λ o. put_behind module_at c.args.inst (row_of o)) (sym value))

pub returns-in_ok-insert-in-None : goal.returns-in_ok-insert-in-None
returns-in_ok-insert-in-None c = λ n.
    let old = c.args.table.now in
    let key = c.args.head.now in
    let w = c.push.new.self in
    let new = c.insert.new.self in
    let none : get same_name old key ≡ None = subst (λ same. get same old key ≡ None) names_same (sym c.in-None.ensures.value) in
    let is : get same_name new n ≡ cond (same_name key n) (Some w) (get same_name old n) =
    subst (λ t. get same_name new n ≡ cond (same_name key n) (Some w) (get same_name t n)) c.get_mut.follows.holds-at-none
    (subst (λ k. get same_name new n ≡ cond (same_name k n) (Some w) (get same_name c.get_mut.follows.lender-at-none n)) c.in_ok-copy-in-None.ensures
    (subst (λ same. get same new n ≡ cond (same c.in_ok-copy-in-None.field-0 n) (Some w) (get same c.get_mut.follows.lender-at-none n)) names_same (c.in_ok-insert-in-None.ensures.updates.0 n))) in
    row_put same_name names_tell names_turn (put_behind module_at c.args.inst) (get same_name old) (get same_name new) key n w is
    (c.in_ok-push-in-None.ensures.items ∙ (ap (λ xs. xs ++ c.args.inst ∷ []) c.new-row.ensures.items ∙ ap (λ o. put_behind module_at c.args.inst (row_of o)) (sym none)))

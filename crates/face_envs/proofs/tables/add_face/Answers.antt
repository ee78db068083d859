use Rattle.std.proofs.Common.{◌≡◌, ◌∙◌, ◌++◌, ◌∷◌, [], None, Some, ap, cond, subst, sym, rules}
use Rattle.std.specs.Option.{IsSome}
use Rattle.indexmap.specs.IndexMap.{get}
use Rattle.face_envs.specs.Tables.{row_of, same_module}
use Rattle.face_envs.proofs.Rows.{row_more, modules_tell, modules_turn}
use Rattle.face_envs.proofs.tables.add_face.Goals as goal

pub returns-in_ok-push-in-Some : goal.returns-in_ok-push-in-Some
returns-in_ok-push-in-Some c = λ n.
    let old = c.args.table.now in
    let key = c.args.module.now in
    let w = c.push.new.self in
    let new = c.get_mut.follows.lender w in
    let value : get same_module old key ≡ Some c.in-Some.row.now = sym c.in-Some.ensures.value in
    let found : IsSome (get same_module old key) = subst IsSome c.in-Some.ensures.value (search rules) in
    let is : get same_module new n ≡ cond (same_module key n) (Some w) (get same_module old n) = ((c.get_mut.follows.holds w).3 found).0 n in
    row_more same_module modules_tell modules_turn (get same_module old) (get same_module new) key n w c.args.place is
    (c.in_ok-push-in-Some.ensures.items ∙ ap (λ o. row_of o ++ c.args.place ∷ []) (sym value))

pub returns-in_ok-insert-in-None : goal.returns-in_ok-insert-in-None
returns-in_ok-insert-in-None c = λ n.
    let old = c.args.table.now in
    let key = c.args.module.now in
    let w = c.push-in-None.new.self in
    let new = c.insert.new.self in
    let none : get same_module old key ≡ None = sym c.in-None.ensures.value in
    let is : get same_module new n ≡ cond (same_module key n) (Some w) (get same_module old n) =
    subst (λ t. get same_module new n ≡ cond (same_module key n) (Some w) (get same_module t n)) c.get_mut.follows.holds-at-none
    (subst (λ k. get same_module new n ≡ cond (same_module k n) (Some w) (get same_module c.get_mut.follows.lender-at-none n)) c.in_ok-copy-in-None.ensures
    (c.in_ok-insert-in-None.ensures.updates.0 n)) in
    row_more same_module modules_tell modules_turn (get same_module old) (get same_module new) key n w c.args.place is
    (c.in_ok-push-in-None.ensures.items ∙ (ap (λ xs. xs ++ c.args.place ∷ []) c.new-row.ensures.items ∙ ap (λ o. row_of o ++ c.args.place ∷ []) (sym none)))

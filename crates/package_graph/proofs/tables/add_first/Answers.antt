use Rattle.std.proofs.Common.{◌≡◌, ◌∙◌, ap, subst, List, ℕ, None, rules}
use Rattle.std.specs.Option.{option_or}
use Rattle.indexmap.specs.IndexMap.{get}
use Rattle.mk_base.specs.Texts.{same_text}
use Rattle.package_graph.specs.Targets.{place_if}
use Rattle.package_graph.proofs.Positions.{put_last}
use Rattle.package_graph.proofs.tables.add_first.Goals as goal

pub returns-in_ok-insert : goal.returns-in_ok-insert
returns-in_ok-insert c = λ m.
    let old = c.args.firsts.now in
    let new = c.insert.new.self in
    let absent : get same_text old c.args.name.now ≡ None = search rules in
    let none : get same_text old c.in_ok-copy.field-0 ≡ None = ap (get same_text old) c.in_ok-copy.ensures ∙ absent in
    subst (λ (k : List ℕ). get same_text new m ≡ option_or (get same_text old m) (place_if (same_text m k) c.args.place)) c.in_ok-copy.ensures
    (put_last same_text old new c.in_ok-copy.field-0 c.args.place none c.in_ok-insert.ensures.entries (same_text m))

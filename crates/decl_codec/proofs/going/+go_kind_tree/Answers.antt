use Rattle.std.proofs.Common.{rules, ◌≡◌, Some}
use Rattle.wire.specs.Reading.{byte_at}
use Rattle.decl_codec.proofs.Layers.{no_go_kind_tag}
use Rattle.decl_codec.proofs.going.+go_kind_tree.Goals as goal

pub returns-clause-value : goal.returns-clause-value
returns-clause-value t c =
    let e : byte_at c.args.bytes.now ≡ Some (c.in_ok-tag.tag, c.in_ok-tag.rest.now) = search rules in
    no_go_kind_tag c.args.levels c.args.bytes.now c.in_ok-tag.tag c.in_ok-tag.rest.now c.if-levels-eq0.false e c.if-tag-eq0.false c.if-tag-eq1.false

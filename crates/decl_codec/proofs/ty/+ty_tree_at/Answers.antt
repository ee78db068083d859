use Rattle.std.proofs.Common.{rules, ◌≡◌, Some}
use Rattle.wire.specs.Reading.{byte_at}
use Rattle.decl_codec.specs.Reading.{name_at}
use Rattle.decl_codec.proofs.Layers.{no_ty_tag}
use Rattle.decl_codec.proofs.ty.+ty_tree_at.Goals as goal

pub returns : goal.returns
returns t c =
    let e : byte_at c.args.bytes.now ≡ Some (c.in_ok-tag.tag, c.in_ok-tag.rest.now) = search rules in
    no_ty_tag (name_at c.args.names.now) c.args.levels c.args.count c.args.bytes.now c.in_ok-tag.tag c.in_ok-tag.rest.now c.if-levels-eq0.false e c.if-tag-eq0.false c.if-tag-eq1.false c.if-tag-eq2.false

-- How exports are ordered.
use Rattle.std.specs.Prelude.{Option, Some, None}
use Rattle.std.specs.Ordering.{ordering_then}
use Rattle.std.specs.declared.cmp.Ordering.{Ordering}
use Rattle.std.specs.declared.cmp.Ordering.TheVariants.{Less, Equal, Greater}
use Rattle.mk_base.specs.declared.name.Name.{Name}
use Rattle.mk_base.specs.Order.{name_cmp}
use Rattle.face_model.specs.declared.export.Export.{Export}

-- what has no parent comes first
abbrev pub parent_cmp : Option Name → Option Name → Ordering
parent_cmp None None = Equal
parent_cmp None (Some b) = Less
parent_cmp (Some a) None = Greater
parent_cmp (Some a) (Some b) = name_cmp a b

-- by name, and then by parent
abbrev pub export_cmp : Export → Export → Ordering
export_cmp a b = ordering_then (name_cmp a.name b.name) (parent_cmp a.parent b.parent)

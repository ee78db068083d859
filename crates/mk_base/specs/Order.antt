-- How names and nodes are ordered.
use Rattle.std.specs.Prelude.{◌≡◌, ℕ, List, [], ◌∷◌, Bool, cond}
use Rattle.std.specs.List.{AllByRecursion}
use Rattle.std.specs.Ordering.{nat_cmp, ordering_then}
use Rattle.std.specs.Cmp.Lexicographic.{slice_cmp}
use Rattle.std.specs.declared.cmp.Ordering.{Ordering}
use Rattle.std.specs.declared.cmp.Ordering.TheVariants.{Less}
use Rattle.mk_base.specs.declared.name.Space.{Space}
use Rattle.mk_base.specs.declared.name.Space.TheVariants.{Var, Con, Ty}
use Rattle.mk_base.specs.declared.name.Name.{Name}
use Rattle.mk_base.specs.declared.name.Node.{Node}
use Rattle.mk_base.specs.declared.place.Pos.{Pos}
use Rattle.mk_base.specs.declared.diag.Diag.{Diag}

-- by the bytes
abbrev pub text_cmp : List ℕ → List ℕ → Ordering
text_cmp a b = slice_cmp nat_cmp a b

-- values first, then constructors, then types
abbrev pub place_of_space : Space → ℕ
place_of_space Var = 0
place_of_space Con = 1
place_of_space Ty = 2

abbrev pub name_cmp : Name → Name → Ordering
name_cmp a b =
    ordering_then (text_cmp a.unit.text b.unit.text)
    (ordering_then (text_cmp a.module.text b.module.text)
    (ordering_then (nat_cmp (place_of_space a.occ.space) (place_of_space b.occ.space))
    (text_cmp a.occ.text b.occ.text)))

-- the boot node first
abbrev pub place_of_node : Bool → ℕ
place_of_node boot = cond boot 0 1

abbrev pub node_cmp : Node → Node → Ordering
node_cmp a b = ordering_then (text_cmp a.module.text b.module.text) (nat_cmp (place_of_node a.boot) (place_of_node b.boot))

-- by line and then by column
abbrev pub pos_cmp : Pos → Pos → Ordering
pos_cmp a b = ordering_then (nat_cmp a.line b.line) (nat_cmp a.col b.col)

-- by place, then by number, then by the bytes of the text
abbrev pub diag_cmp : Diag → Diag → Ordering
diag_cmp a b = ordering_then (pos_cmp a.at b.at) (ordering_then (nat_cmp a.code b.code) (text_cmp a.text b.text))

-- each diagnostic stands before all that are behind it
abbrev pub AreInOrder : List Diag → Type 0
AreInOrder [] = Unit {0}
AreInOrder (d ∷ ds) = AllByRecursion (λ (e : Diag). diag_cmp d e ≡ Less) ds × AreInOrder ds

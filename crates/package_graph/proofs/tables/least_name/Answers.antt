use Rattle.std.proofs.Common.{◌≡◌, ◌∙◌, ◌+◌, ◌-◌, ◌<◌, ℕ, List, length, get_or, Option, Some, ap, arith, refl, sym}
use Rattle.std.specs.Prelude.{slice_get}
use Rattle.std.specs.Option.{option_copied}
use Rattle.std.proofs.lemmas.Option.{slice_get_read}
use Rattle.numbered_nodes.specs.Bits.{has}
use Rattle.package_graph.specs.declared.modules.PackageModule.{PackageModule}
use Rattle.package_graph.specs.Packages.{lesser}
use Rattle.package_graph.proofs.LeastNames.{least_next}
use Rattle.package_graph.proofs.tables.least_name.Goals as goal

pub loop-i-preserved-then-contains : goal.loop-i-preserved-then-contains
loop-i-preserved-then-contains c =
    let ps = c.args.modules.now in
    let ks = c.args.places.now in
    let i : ℕ = c.loop-i.i - 1 in
    let k : ℕ = get_or ks i 0 in
    let lt : i < length ks = omega arith in
    let next : c.loop-i.i ≡ i + 1 = omega arith in
    let at : slice_get ps k ≡ Some c.index-modules-place.result = slice_get_read ps (length ps) k c.index-modules-place.result refl (c.requires.places i 0 lt) c.index-modules-place.is in
    let best : Option (List ℕ) = option_copied c.loop-i.least in
    let name : c.lesser.result.now ≡ lesser c.index-modules-place.result.«module».text best =
    c.lesser.ensures ∙ ap (λ (m : PackageModule). lesser m.«module».text best) (sym c.index-modules-place.is) in
    least_next ps (has c.args.row.now) ks i c.loop-i.i k c.index-modules-place.result c.lesser.result.now best lt next refl (sym c.contains.ensures ∙ c.if-contains.true) at name c.loop-i.invariant

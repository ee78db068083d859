-- Names are the same exactly where they compare as equal.
use Rattle.std.proofs.Common.{◌≡◌, true, refl}
use Rattle.std.specs.Cmp.{IsTotalOrder}
use Rattle.std.specs.Cmp.Lexicographic.{on_texts}
use Rattle.std.specs.Ordering.{nat_cmp, ordering_then, is_eq, ordering_reverse}
use Rattle.std.specs.declared.cmp.Ordering.{Ordering}
use Rattle.std.specs.declared.cmp.Ordering.TheVariants.{Less, Equal, Greater}
use Rattle.std.proofs.lemmas.Cmp.{then_total, on_total, nat_cmp_total}
use Rattle.std.proofs.lemmas.Map.Lookups.{exact_bytes}
use Rattle.mk_base.specs.Order.{name_cmp, text_cmp, place_of_space}
use Rattle.mk_base.specs.declared.name.Name.{Name}
use Rattle.mk_base.specs.declared.name.Space.{Space}
use Rattle.mk_base.specs.declared.name.Space.TheVariants.{Var, Con, Ty}
use Rattle.unifiers.specs.Solver.{same_name}

name_total : IsTotalOrder name_cmp
name_total = then_total (on_texts (λ (n : Name). n.unit.text)) (then_total (on_texts (λ (n : Name). n.module.text))
    (then_total (on_total (λ (n : Name). place_of_space n.occ.space) nat_cmp_total) (on_texts (λ (n : Name). n.occ.text))))

own_reverse : (o : Ordering) → o ≡ ordering_reverse o → is_eq o ≡ true
own_reverse Less e = absurd (let h : ⊥ = cc in h)
own_reverse Equal e = refl
own_reverse Greater e = absurd (let h : ⊥ = cc in h)

pub name_itself : (a : Name) → same_name a a ≡ true
name_itself a = own_reverse (name_cmp a a) (name_total.antisymm a a)

equal_from_test : (o : Ordering) → is_eq o ≡ true → o ≡ Equal
equal_from_test Less e = absurd (let h : ⊥ = cc in h)
equal_from_test Equal e = refl
equal_from_test Greater e = absurd (let h : ⊥ = cc in h)

both_equal : (o p : Ordering) → ordering_then o p ≡ Equal → (o ≡ Equal) × (p ≡ Equal)
both_equal Less p e = absurd (let h : ⊥ = cc in h)
both_equal Equal p e = (refl, e)
both_equal Greater p e = absurd (let h : ⊥ = cc in h)

space_from_cmp : (s t : Space) → nat_cmp (place_of_space s) (place_of_space t) ≡ Equal → s ≡ t
space_from_cmp Var Var e = refl
space_from_cmp Con Con e = refl
space_from_cmp Ty Ty e = refl
space_from_cmp Var Con e = absurd (let h : ⊥ = cc in h)
space_from_cmp Var Ty e = absurd (let h : ⊥ = cc in h)
space_from_cmp Con Var e = absurd (let h : ⊥ = cc in h)
space_from_cmp Con Ty e = absurd (let h : ⊥ = cc in h)
space_from_cmp Ty Var e = absurd (let h : ⊥ = cc in h)
space_from_cmp Ty Con e = absurd (let h : ⊥ = cc in h)

pub name_same : (a b : Name) → same_name a b ≡ true → a ≡ b
name_same a b e =
    let p = both_equal (text_cmp a.unit.text b.unit.text) _ (equal_from_test (name_cmp a b) e) in
    let q = both_equal (text_cmp a.module.text b.module.text) _ p.1 in
    let r = both_equal (nat_cmp (place_of_space a.occ.space) (place_of_space b.occ.space)) _ q.1 in
    let u = exact_bytes a.unit.text b.unit.text p.0 in
    let m = exact_bytes a.module.text b.module.text q.0 in
    let s = space_from_cmp a.occ.space b.occ.space r.0 in
    let t = exact_bytes a.occ.text b.occ.text r.1 in
    λ i. record { unit = record { text = u i }; «module» = record { text = m i }; occ = record { space = s i; text = t i } }

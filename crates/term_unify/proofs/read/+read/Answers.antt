use Rattle.std.proofs.Common.{ℕ, refl, ◌≡◌, ◌⊎◌, ◌<◌, ◌≤◌, ◌+◌, ◌-◌, sym, ap, ◌∙◌, subst, arith, inl, inr, Option, Some, None}
use Rattle.mk_base.specs.declared.ty.Ty.{Ty}
use Rattle.unifiers.specs.Term.{Term, size}
use Rattle.unifiers.specs.Term.Term.{var, con, app}
use Rattle.unifiers.proofs.Laws.{size_least}
use Rattle.term_classes.specs.declared.node.Node.TheVariants.{Free, Rigid, Con, App}
use Rattle.term_unify.specs.Arena.{solved_at}
use Rattle.term_unify.specs.Read.{depth, IsRead, term_of}
use Rattle.term_unify.proofs.Solution.{layer_here}
use Rattle.term_unify.proofs.read.+read.Goals as goal
use Rattle.term_unify.proofs.read.+read.Goals.{then-levels-eq0-via-then-levels-eq0, then-levels-eq0-via-else-levels-eq0+then-left-eq0}

depth_least : (t : Term) → 1 ≤ depth t
depth_least (var n) = omega arith
depth_least (con c) = omega arith
depth_least (app f a) = omega arith

leaf : (t leaf : Term) (levels left : ℕ) → t ≡ leaf → depth leaf ≡ 1 → size leaf ≡ 1 → 0 < levels → 0 < left → (depth t ≤ levels) × (left ≡ left - 1 + size t)
leaf t l levels left e d s a b = let x = ap depth e in let y = ap size e in (omega arith, omega arith)

none_first : (t f a : Term) (levels left after : ℕ) (o : Option Ty) → t ≡ app f a → 0 < levels → 0 < left → o ≡ None → IsRead f (levels - 1) (left - 1) after o → (levels < depth t) ⊎ (left < size t)
none_first t f a levels left after o e p q n r =
    let r' = subst (IsRead f (levels - 1) (left - 1) after) n r in
    let x = ap depth e in
    let y = ap size e in
    let z = size_least a in
    elim r' [ inl u ↦ inl (omega arith) | inr u ↦ inr (omega arith) ]

none_second : (t f a : Term) (levels left mid after : ℕ) (o u : Option Ty) (ty : Ty) → t ≡ app f a → 0 < levels → 0 < left → o ≡ Some ty → IsRead f (levels - 1) (left - 1) mid o → u ≡ None → IsRead a (levels - 1) mid after u → (levels < depth t) ⊎ (left < size t)
none_second t f a levels left mid after o u ty e p q s r n w =
    let r' = subst (IsRead f (levels - 1) (left - 1) mid) s r in
    let w' = subst (IsRead a (levels - 1) mid after) n w in
    let c = r'.2 in
    let x = ap depth e in
    let y = ap size e in
    elim w' [ inl v ↦ inl (omega arith) | inr v ↦ inr (omega arith) ]

both : (t f a : Term) (levels left mid after : ℕ) (o u : Option Ty) (ty ti : Ty) → t ≡ app f a → 0 < levels → 0 < left → o ≡ Some ty → IsRead f (levels - 1) (left - 1) mid o → u ≡ Some ti → IsRead a (levels - 1) mid after u
    → (app (term_of ty) (term_of ti) ≡ t) × (depth t ≤ levels) × (left ≡ after + size t)
both t f a levels left mid after o u ty ti e p q s r n w =
    let r' = subst (IsRead f (levels - 1) (left - 1) mid) s r in
    let w' = subst (IsRead a (levels - 1) mid after) n w in
    let c = r'.2 in
    let d = w'.2 in
    let g = r'.1 in
    let k = w'.1 in
    let x = ap depth e in
    let y = ap size e in
    (ap (λ z. app z (term_of ti)) r'.0 ∙ ap (λ z. app f z) w'.0 ∙ sym e, omega arith, omega arith)

pub returns-then-levels-eq0 : goal.returns-then-levels-eq0
returns-then-levels-eq0 t c =
    let s = solved_at c.args.nodes.now c.args.slots.now c.args.at in
    let d = depth_least s in
    let z = size_least s in
    elim c.then-levels-eq0.branch [
      | then-levels-eq0-via-then-levels-eq0 w ↦ let e = w.if-levels-eq0.true in inl (omega arith)
      | then-levels-eq0-via-else-levels-eq0+then-left-eq0 w ↦ let e = w.if-left-eq0.true in inr (omega arith)
    ]

pub returns-in-Free : goal.returns-in-Free
returns-in-Free t c =
    let e = layer_here c.args.nodes.now c.args.slots.now c.requires.sound c.requires.order c.args.at c.find.result c.index-nodes-shape.result (Free c.in-Free.number) c.requires.at c.find.ensures.root c.index-nodes-shape.is c.in-Free.is in
    let r = leaf (solved_at c.args.nodes.now c.args.slots.now c.args.at) (var c.in-Free.number) c.args.levels c.args.left.now e refl refl (omega arith) (omega arith) in
    (c.variable.ensures ∙ sym e, r.0, r.1)

pub returns-in-Rigid : goal.returns-in-Rigid
returns-in-Rigid t c =
    let e = layer_here c.args.nodes.now c.args.slots.now c.requires.sound c.requires.order c.args.at c.find.result c.index-nodes-shape.result (Rigid c.in-Rigid.number) c.requires.at c.find.ensures.root c.index-nodes-shape.is c.in-Rigid.is in
    let r = leaf (solved_at c.args.nodes.now c.args.slots.now c.args.at) (var c.in-Rigid.number) c.args.levels c.args.left.now e refl refl (omega arith) (omega arith) in
    (c.variable-in-Rigid.ensures ∙ sym e, r.0, r.1)

pub returns-in_ok-copy-in-Con : goal.returns-in_ok-copy-in-Con
returns-in_ok-copy-in-Con t c =
    let e = layer_here c.args.nodes.now c.args.slots.now c.requires.sound c.requires.order c.args.at c.find.result c.index-nodes-shape.result (Con c.in-Con.name) c.requires.at c.find.ensures.root c.index-nodes-shape.is c.in-Con.is in
    let r = leaf (solved_at c.args.nodes.now c.args.slots.now c.args.at) (con c.in-Con.name) c.args.levels c.args.left.now e refl refl (omega arith) (omega arith) in
    (c.constructor.ensures ∙ ap (λ k. con k) c.in_ok-copy-in-Con.ensures ∙ sym e, r.0, r.1)

pub returns-in_default : goal.returns-in_default
returns-in_default t c =
    let sol = solved_at c.args.nodes.now c.args.slots.now in
    let e = layer_here c.args.nodes.now c.args.slots.now c.requires.sound c.requires.order c.args.at c.find.result c.index-nodes-shape.result (App c.in-App.f c.in-App.a) c.requires.at c.find.ensures.root c.index-nodes-shape.is c.in-App.is in
    none_first (sol c.args.at) (sol c.in-App.f) (sol c.in-App.a) c.args.levels c.args.left.now c.read.new.left c.in_ok-first-in-App.field-0 e (omega arith) (omega arith) c.in_default.is c.in_ok-first-in-App.ensures

pub returns-in_default-2 : goal.returns-in_default-2
returns-in_default-2 t c =
    let sol = solved_at c.args.nodes.now c.args.slots.now in
    let e = layer_here c.args.nodes.now c.args.slots.now c.requires.sound c.requires.order c.args.at c.find.result c.index-nodes-shape.result (App c.in-App.f c.in-App.a) c.requires.at c.find.ensures.root c.index-nodes-shape.is c.in-App.is in
    let i : c.in_ok-first-in-App.field-0 ≡ Some c.in-Some.first = c.in-Some.is in
    none_second (sol c.args.at) (sol c.in-App.f) (sol c.in-App.a) c.args.levels c.args.left.now c.read.new.left c.read-in-App.new.left c.in_ok-first-in-App.field-0 c.in_ok-second-in-App.field-0 c.in-Some.first e (omega arith) (omega arith) i c.in_ok-first-in-App.ensures c.in_default-2.is c.in_ok-second-in-App.ensures

pub returns-in_ok-applied-in-App : goal.returns-in_ok-applied-in-App
returns-in_ok-applied-in-App t c =
    let sol = solved_at c.args.nodes.now c.args.slots.now in
    let e = layer_here c.args.nodes.now c.args.slots.now c.requires.sound c.requires.order c.args.at c.find.result c.index-nodes-shape.result (App c.in-App.f c.in-App.a) c.requires.at c.find.ensures.root c.index-nodes-shape.is c.in-App.is in
    let i : c.in_ok-first-in-App.field-0 ≡ Some c.in-Some.first = c.in-Some.is in
    let j : c.in_ok-second-in-App.field-0 ≡ Some c.in-Some-2.second = c.in-Some-2.is in
    let r = both (sol c.args.at) (sol c.in-App.f) (sol c.in-App.a) c.args.levels c.args.left.now c.read.new.left c.read-in-App.new.left c.in_ok-first-in-App.field-0 c.in_ok-second-in-App.field-0 c.in-Some.first c.in-Some-2.second e (omega arith) (omega arith) i c.in_ok-first-in-App.ensures j c.in_ok-second-in-App.ensures in
    (c.in_ok-applied-in-App.ensures ∙ r.0, r.1, r.2)

-- A type is made again from its term, so two types with one term are one.
use Rattle.std.proofs.Common.{◌≡◌, ℕ, sym, ◌∙◌, ap, subst}
use Rattle.mk_base.specs.declared.name.Name.{Name}
use Rattle.mk_base.specs.declared.ty.Ty.{Ty}
use Rattle.mk_base.specs.declared.ty.Ty.TheOpen.{Ty-F}
use Rattle.mk_base.specs.declared.ty.Ty.TheOpen.Ty-F.{Var as Variable, Con as Constructor, App as Application}
use Rattle.mk_base.specs.declared.ty.Ty.TheVariants as types
use Rattle.mk_base.specs.declared.ty.Ty.TheVariants.{rolls-Var, rolls-Con, rolls-App}
use Rattle.mk_base.specs.declared.ty.Ty.TheFolds.{fold-roll-Ty, ind-Ty, map-Ty}
use Rattle.mk_base.specs.declared.ty.Ty.TheViews.{roll-Ty}
use Rattle.class_env.specs.Terms.{Term, Var, Con, App, term_step, term_of}

pub term_var : (n : ℕ) → term_of (types.Var n) ≡ Var n
term_var n = ap term_of (sym (rolls-Var n)) ∙ fold-roll-Ty Term term_step (Variable n)

pub term_con : (a : Name) → term_of (types.Con a) ≡ Con a
term_con a = ap term_of (sym (rolls-Con a)) ∙ fold-roll-Ty Term term_step (Constructor a)

term_app : (f x : Ty) → term_of (types.App f x) ≡ App (term_of f) (term_of x)
term_app f x = ap term_of (sym (rolls-App f x)) ∙ fold-roll-Ty Term term_step (Application f x)

abbrev type_again : Term → Ty
type_again (Var n) = types.Var n
type_again (Con a) = types.Con a
type_again (App f x) = types.App (type_again f) (type_again x)

abbrev Again : Ty → Type 0
Again t = type_again (term_of t) ≡ t

again_app : (f x : Ty) → Again f → Again x → Again (types.App f x)
again_app f x p q = ap type_again (term_app f x) ∙ ap (λ (g : Ty). types.App g (type_again (term_of x))) p ∙ ap (λ (y : Ty). types.App f y) q

by_layer : (S : Type 0) (value : S → Ty) (claim : (s : S) → Again (value s)) (y : Ty-F S) → Again (roll-Ty (map-Ty S Ty value y))
by_layer S value claim (Variable n) = subst Again (sym (rolls-Var n)) (ap type_again (term_var n))
by_layer S value claim (Constructor a) = subst Again (sym (rolls-Con a)) (ap type_again (term_con a))
by_layer S value claim (Application f x) = subst Again (sym (rolls-App (value f) (value x))) (again_app (value f) (value x) (claim f) (claim x))

again : (t : Ty) → Again t
again = ind-Ty Again (λ x y is. subst (λ z. Again (roll-Ty z)) is (by_layer _ (λ e. e.0) (λ e. e.1) y))

pub one_type : (a b : Ty) → term_of a ≡ term_of b → a ≡ b
one_type a b e = sym (again a) ∙ ap type_again e ∙ again b

-- Where a first reader finds nothing, both find what the other does.
use Rattle.std.proofs.Common.{◌≡◌, ℕ, Bool, true, false, List, ◌∷◌, Option, Some, None, cond, is_some, IfOk, refl, sym, subst}
use Rattle.std.specs.Borrow.{Bor}
use Rattle.std.specs.Prelude.{Result}
use Rattle.hs_syntax.specs.declared.token.Token.{Token}
use Rattle.hs_syntax.specs.declared.type_tree.QualifiedType.{QualifiedType}
use Rattle.hs_syntax.specs.Reading.{Found, seen, and_then, or_else, or_else_by, begins, is_comma}
use Rattle.hs_parts.specs.TypeReaders.{qualified_at, qualified_tail}
use Rattle.expr_parts.specs.Expressions.{type_at, type_before_sign_at}

nothing_first : {X : Type 0} (x : Option (X × Bor (List Token))) (m : Found X) → seen x ≡ m → is_some x ≡ false → Path (Found X) None m
nothing_first None m e f = e
nothing_first (Some p) m e f = cc

pub or_other : {X E : Type 0} (x : Option (X × Bor (List Token))) (m g : Found X) (r : Result (Option (X × Bor (List Token))) E)
    → seen x ≡ m → is_some x ≡ false → IfOk r (λ o. seen o ≡ g) → IfOk r (λ o. seen o ≡ or_else m g)
or_other {X = X} x m g r e f h = subst (λ (z : Found X). IfOk r (λ o. seen o ≡ or_else z g)) (nothing_first x m e f) h

cond_or : {X : Type 0} (b : Bool) (x : X × List Token) (other : Found X) → cond b (Some x) other ≡ or_else (cond b (Some x) None) other
cond_or true x other = refl
cond_or false x other = refl

-- a type before a comma, or else another
before_comma_or : (m other : Found QualifiedType)
    → or_else_by m (λ q rest. cond (begins is_comma rest) (Some (q, rest)) other) other ≡ or_else (and_then m (λ q rest. cond (begins is_comma rest) (Some (q, rest)) None)) other
before_comma_or None other = refl
before_comma_or (Some p) other = cond_or (begins is_comma p.1) (p.0, p.1) other

pub guard_type_is : (n : ℕ) (ts : List Token) → type_before_sign_at n ts ≡ type_at n true ts
guard_type_is n ts = sym (before_comma_or (qualified_at n ts) (qualified_tail n ts))

-- What is read as a left side is the one that the tokens begin with.
use Rattle.std.proofs.Common.{◌≡◌, true, false, List, Option, Some, None, is_some, IfOk, IfSome, IfNone, sym, ◌∙◌, subst}
use Rattle.std.specs.Borrow.{Bor}
use Rattle.std.specs.Prelude.{Result}
use Rattle.hs_syntax.specs.declared.token.Token.{Token}
use Rattle.hs_syntax.specs.declared.pattern_tree.LhsTree.{LhsTree}
use Rattle.hs_syntax.specs.Reading.{Found, seen, or_else, begins}
use Rattle.hs_syntax.proofs.Sound.{Sound}
use Rattle.hs_parts.specs.Grammar.{IsLhs}
use Rattle.hs_parts.specs.SideReaders.{ends_side, side_at}
use Rattle.hs_parts.proofs.SidesSound.{LhsAt, side_sound}
use Rattle.hs_parts.proofs.SidesComplete.{side_complete}

none_some : {X : Type 0} (x : X) → Path (Option X) None (Some x) → ⊥
none_some x e = cc

-- an answer of the code, where there may be none
abbrev Side : Type 0
Side = Option (LhsTree × Bor (List Token))

nothing_first : (x : Side) (m : Found LhsTree) → seen x ≡ m → is_some x ≡ false → Path (Found LhsTree) None m
nothing_first None m e f = e
nothing_first (Some p) m e f = cc

-- where a first reader finds nothing, both find what the other does
pub or_other : {E : Type 0} (x : Side) (m g : Found LhsTree) (r : Result Side E) → seen x ≡ m → is_some x ≡ false
    → IfOk r (λ o. seen o ≡ g) → IfOk r (λ o. seen o ≡ or_else m g)
or_other x m g r e f h = subst (λ (z : Found LhsTree). IfOk r (λ o. seen o ≡ or_else z g)) (nothing_first x m e f) h

-- what is found is a left side, and what ends one stands behind it
pub side_is : (ts : List Token) (r : Side) → seen r ≡ side_at ts
    → IfSome r (λ p. IsLhs ts p.1.now p.0 × (begins ends_side p.1.now ≡ true))
side_is ts None e = tt
side_is ts (Some p) e = subst (Sound (LhsAt ts)) (sym e) (side_sound ts)

-- where none is found there is none
pub side_none : (ts : List Token) (r : Side) → seen r ≡ side_at ts
    → IfNone r ((l : LhsTree) (b : List Token) → IsLhs ts b l → begins ends_side b ≡ true → ⊥)
side_none ts None e = λ l b d s. none_some (l, b) (e ∙ side_complete d s)
side_none ts (Some p) e = tt

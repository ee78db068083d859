-- What is read of a whole text is its tree, and what is read of a declaration in front of what ends an item is its tree.
use Rattle.std.proofs.Common.{◌≡◌, ℕ, ◌+◌, ◌*◌, ◌≤◌, false, List, [], ◌∷◌, length, Option, Some, None, IfSome, IfNone, refl, sym, ap, ◌∙◌, arith}
use Rattle.hs_syntax.specs.declared.token.Token.{Token}
use Rattle.hs_syntax.specs.declared.expr_tree.ExprTree.{ExprTree}
use Rattle.hs_syntax.specs.declared.expr_tree.DeclTree.{DeclTree}
use Rattle.hs_syntax.specs.declared.expr_tree.Clause.{Clause}
use Rattle.hs_syntax.specs.Reading.{Found, begins}
use Rattle.hs_syntax.proofs.Sound.{Sound}
use Rattle.expr_parts.specs.Expressions.{forms}
use Rattle.expr_parts.specs.Grammar.{IsExp, IsDecl, IsClause}
use Rattle.expr_parts.specs.Whole.{steps, whole_exp, whole_of, whole_if}
use Rattle.expr_parts.proofs.PartsExact.{parts}
use Rattle.expr_parts.proofs.Sound.{forms_sound}
use Rattle.expr_parts.proofs.Derived.{SoundForms}
use Rattle.expr_parts.proofs.Read.{CompleteForms}
use Rattle.expr_parts.proofs.Ends.{ends_nothing, goes_on_item}
use Rattle.expr_parts.proofs.Complete.{forms_complete}

-- the readers are the grammar
pub exactly_sound : (n : ℕ) → SoundForms (forms n)
exactly_sound n = forms_sound parts.sound n

pub exactly_complete : (n : ℕ) → CompleteForms n (forms n)
exactly_complete n = forms_complete parts n

-- Whole expressions

-- each tree is found
pub whole_found : (ts : List Token) (e : ExprTree) → IsExp ts [] e → whole_exp ts ≡ Some e
unfolding whole_exp
whole_found ts e d = let h : 8 * length ts + 16 ≤ 16 * length ts + 16 = omega arith in ap whole_of ((forms_complete parts (steps ts)).exp false d (ends_nothing parts.sound) h)

whole_if_sound : (ts : List Token) (e : ExprTree) (rest : List Token) → IsExp ts rest e → IfSome (whole_if e rest) (λ t. IsExp ts [] t)
whole_if_sound ts e [] d = d
whole_if_sound ts e (t ∷ rest) d = tt

whole_of_sound : (ts : List Token) (m : Found ExprTree) → Sound (IsExp ts) m → IfSome (whole_of m) (λ t. IsExp ts [] t)
whole_of_sound ts None s = tt
whole_of_sound ts (Some p) s = whole_if_sound ts p.0 p.1 s

-- what is found is a tree
pub whole_is : (ts : List Token) → IfSome (whole_exp ts) (λ t. IsExp ts [] t)
unfolding whole_exp
whole_is ts = whole_of_sound ts ((forms (steps ts)).exp false ts) ((forms_sound parts.sound (steps ts)).exp false ts)

none_by : (ts : List Token) (m : Option ExprTree) → whole_exp ts ≡ m → IfNone m ((e : ExprTree) → IsExp ts [] e → ⊥)
none_by ts None g = λ e d. none_some e (sym g ∙ whole_found ts e d)
  where
    none_some : (e : ExprTree) → Path (Option ExprTree) None (Some e) → ⊥
    none_some e f = cc
none_by ts (Some t) g = tt

-- where none is found there is none
pub whole_none : (ts : List Token) → IfNone (whole_exp ts) ((e : ExprTree) → IsExp ts [] e → ⊥)
whole_none ts = none_by ts (whole_exp ts) refl

some_same : (e f : ExprTree) → Path (Option ExprTree) (Some e) (Some f) → e ≡ f
some_same e f h = cc

-- tokens have one tree at most
pub unique : (ts : List Token) (e f : ExprTree) → IsExp ts [] e → IsExp ts [] f → e ≡ f
unique ts e f d g = some_same e f (sym (whole_found ts e d) ∙ whole_found ts f g)

-- Declarations and clauses in front of what ends an item

pair_same : {X : Type 0} (p q : X × List Token) → Path (Found X) (Some p) (Some q) → p ≡ q
pair_same p q e = cc

found_same : {X : Type 0} (x y : X) (b c : List Token) → Path (Found X) (Some (x, b)) (Some (y, c)) → (x ≡ y) × (b ≡ c)
found_same {X} x y b c e = let h : Path (X × List Token) (x, b) (y, c) = pair_same (x, b) (y, c) e in (ap (λ p. p.0) h, ap (λ p. p.1) h)

pub decl_found : (n : ℕ) {a b : List Token} {x : DeclTree} → IsDecl a b x → begins goes_on_item b ≡ false → 8 * length a + 12 ≤ n → (forms n).decl a ≡ Some (x, b)
decl_found n d e h = (forms_complete parts n).decl d e h

pub decl_is : (n : ℕ) (ts : List Token) → Sound (IsDecl ts) ((forms n).decl ts)
decl_is n ts = (forms_sound parts.sound n).decl ts

-- a text has one declaration, and one place at which it ends
pub decls_are_unique : {a b c : List Token} {x y : DeclTree} → IsDecl a b x → begins goes_on_item b ≡ false → IsDecl a c y → begins goes_on_item c ≡ false → (x ≡ y) × (b ≡ c)
decls_are_unique {a = a} {b = b} {c = c} {x = x} {y = y} d e f g =
    let h : 8 * length a + 12 ≤ 8 * length a + 12 = omega arith in found_same x y b c (sym (decl_found (8 * length a + 12) d e h) ∙ decl_found (8 * length a + 12) f g h)

pub clause_found : (n : ℕ) {a b : List Token} {x : Clause} → IsClause a b x → begins goes_on_item b ≡ false → 8 * length a + 11 ≤ n → (forms n).clause a ≡ Some (x, b)
clause_found n d e h = (forms_complete parts n).clause d e h

pub clause_is : (n : ℕ) (ts : List Token) → Sound (IsClause ts) ((forms n).clause ts)
clause_is n ts = (forms_sound parts.sound n).clause ts

pub clauses_are_unique : {a b c : List Token} {x y : Clause} → IsClause a b x → begins goes_on_item b ≡ false → IsClause a c y → begins goes_on_item c ≡ false → (x ≡ y) × (b ≡ c)
clauses_are_unique {a = a} {b = b} {c = c} {x = x} {y = y} d e f g =
    let h : 8 * length a + 11 ≤ 8 * length a + 11 = omega arith in found_same x y b c (sym (clause_found (8 * length a + 11) d e h) ∙ clause_found (8 * length a + 11) f g h)

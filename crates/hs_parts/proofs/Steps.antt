-- What the readers do with steps left, and without.
use Rattle.std.proofs.Common.{◌≡◌, ℕ, suc, zero, ◌-◌, ◌<◌, List, [], ◌∷◌, ◌++◌, None, refl, ap, arith, Some}
use Rattle.hs_syntax.specs.declared.token.Token.{Token}
use Rattle.hs_syntax.specs.declared.type_tree.TypeTree.{TypeTree}
use Rattle.hs_syntax.specs.declared.type_tree.ClassTree.{ClassTree}
use Rattle.hs_syntax.specs.declared.pattern_tree.LhsTree.{LhsTree}
use Rattle.hs_syntax.specs.declared.name_ref.NameRef.{NameRef}
use Rattle.hs_syntax.specs.declared.name_ref.QopTree.{QopTree}
use Rattle.hs_syntax.specs.Reading.{Found, and_then, and_behind, behind, is_comma}
use Rattle.hs_parts.specs.NameReaders.{var_at, op_at}
use Rattle.hs_parts.specs.TypeReaders.{type_readers, no_types, next_types, type_tail, next_tail, classes_at, class_at}
use Rattle.hs_parts.specs.PatternReaders.{pattern_readers, no_patterns, next_patterns}
use Rattle.hs_parts.specs.SideReaders.{function_side, next_side}
use Rattle.hs_parts.specs.SigReaders.{vars_at, ops_at}

pub type_readers_step : (n : ℕ) → 0 < n → type_readers n ≡ next_types (type_readers (n - 1))
unfolding type_readers
type_readers_step zero h = absurd (let e : ⊥ = omega arith in e)
type_readers_step (suc n) h = let e : n ≡ suc n - 1 = omega arith in ap (λ k. next_types (type_readers k)) e

pub type_readers_end : type_readers 0 ≡ no_types
unfolding type_readers
type_readers_end = refl

pub type_tail_step : (n : ℕ) → 0 < n → (ts : List Token) → type_tail n ts ≡ next_tail (n - 1) (type_tail (n - 1)) ts
unfolding type_tail
type_tail_step zero h ts = absurd (let e : ⊥ = omega arith in e)
type_tail_step (suc n) h ts = let e : n ≡ suc n - 1 = omega arith in ap (λ k. next_tail k (type_tail k) ts) e

pub type_tail_end : (ts : List Token) → type_tail 0 ts ≡ None
unfolding type_tail
type_tail_end ts = refl

pub classes_step : (n : ℕ) → 0 < n → (xs : List ClassTree) (ts : List Token)
    → classes_at n xs ts ≡ and_then (class_at (n - 1) ts) (λ x rest. and_behind (behind is_comma rest) (classes_at (n - 1) (xs ++ x ∷ [])) (Some (xs ++ x ∷ [], rest)))
unfolding classes_at
classes_step zero h xs ts = absurd (let e : ⊥ = omega arith in e)
classes_step (suc n) h xs ts = let e : n ≡ suc n - 1 = omega arith in
    ap (λ k. and_then (class_at k ts) (λ x rest. let m : Found (List ClassTree) = and_behind (behind is_comma rest) (classes_at k (xs ++ x ∷ [])) (Some (xs ++ x ∷ [], rest)) in m)) e

pub classes_end : (xs : List ClassTree) (ts : List Token) → classes_at 0 xs ts ≡ None
unfolding classes_at
classes_end xs ts = refl

pub pattern_readers_step : (n : ℕ) → 0 < n → pattern_readers n ≡ next_patterns (pattern_readers (n - 1))
unfolding pattern_readers
pattern_readers_step zero h = absurd (let e : ⊥ = omega arith in e)
pattern_readers_step (suc n) h = let e : n ≡ suc n - 1 = omega arith in ap (λ k. next_patterns (pattern_readers k)) e

pub pattern_readers_end : pattern_readers 0 ≡ no_patterns
unfolding pattern_readers
pattern_readers_end = refl

pub function_side_step : (n : ℕ) → 0 < n → (ts : List Token) → function_side n ts ≡ next_side (n - 1) (function_side (n - 1)) ts
unfolding function_side
function_side_step zero h ts = absurd (let e : ⊥ = omega arith in e)
function_side_step (suc n) h ts = let e : n ≡ suc n - 1 = omega arith in ap (λ k. next_side k (function_side k) ts) e

pub function_side_end : (ts : List Token) → function_side 0 ts ≡ None
unfolding function_side
function_side_end ts = refl

pub vars_step : (n : ℕ) → 0 < n → (ns : List NameRef) (ts : List Token)
    → vars_at n ns ts ≡ and_then (var_at ts) (λ v rest. and_behind (behind is_comma rest) (vars_at (n - 1) (ns ++ v ∷ [])) (Some (ns ++ v ∷ [], rest)))
unfolding vars_at
vars_step zero h ns ts = absurd (let e : ⊥ = omega arith in e)
vars_step (suc n) h ns ts = let e : n ≡ suc n - 1 = omega arith in
    ap (λ k. and_then (var_at ts) (λ v rest. let m : Found (List NameRef) = and_behind (behind is_comma rest) (vars_at k (ns ++ v ∷ [])) (Some (ns ++ v ∷ [], rest)) in m)) e

pub vars_end : (ns : List NameRef) (ts : List Token) → vars_at 0 ns ts ≡ None
unfolding vars_at
vars_end ns ts = refl

pub ops_step : (n : ℕ) → 0 < n → (qs : List QopTree) (ts : List Token)
    → ops_at n qs ts ≡ and_then (op_at ts) (λ q rest. and_behind (behind is_comma rest) (ops_at (n - 1) (qs ++ q ∷ [])) (Some (qs ++ q ∷ [], rest)))
unfolding ops_at
ops_step zero h qs ts = absurd (let e : ⊥ = omega arith in e)
ops_step (suc n) h qs ts = let e : n ≡ suc n - 1 = omega arith in
    ap (λ k. and_then (op_at ts) (λ q rest. let m : Found (List QopTree) = and_behind (behind is_comma rest) (ops_at k (qs ++ q ∷ [])) (Some (qs ++ q ∷ [], rest)) in m)) e

pub ops_end : (qs : List QopTree) (ts : List Token) → ops_at 0 qs ts ≡ None
unfolding ops_at
ops_end qs ts = refl

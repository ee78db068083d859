-- What the readers of lists do with steps left, and without.
use Rattle.std.proofs.Common.{◌≡◌, ℕ, suc, zero, ◌-◌, ◌<◌, Bool, List, [], ap, arith}
use Rattle.std.specs.Prelude.{Ok, Err}
use Rattle.hs_syntax.specs.declared.header.ImportItem.{ImportItem}
use Rattle.hs_syntax.specs.declared.header.SubTree.{SubTree}
use Rattle.hs_syntax.specs.declared.token.Token.{Token}
use Rattle.hs_header.specs.declared.expected.Stop.TheVariants.{End}
use Rattle.hs_header.specs.Readers.{Answer, at_first, more_subs, more_subs_by, more, more_by, imports_at, imports_by}

pub more_subs_step : (n : ℕ) (xs : List SubTree) (a : List Token) → 0 < n → more_subs n xs a ≡ at_first a (Err End) (more_subs_by (more_subs (n - 1)) xs)
unfolding more_subs
more_subs_step zero xs a h = absurd (let e : ⊥ = omega arith in e)
more_subs_step (suc n) xs a h = let e : n ≡ suc n - 1 = omega arith in ap (λ k. at_first a (Err End) (more_subs_by (more_subs k) xs)) e

pub more_subs_end : (n : ℕ) (xs : List SubTree) (a : List Token) → n ≡ 0 → more_subs n xs a ≡ Err End
unfolding more_subs
more_subs_end n xs a h = ap (λ k. more_subs k xs a) h

pub more_step : {X : Type 0} (one : ℕ → List Token → Answer X) (n : ℕ) (xs : List X) (a : List Token) → 0 < n → more one n xs a ≡ at_first a (Err End) (more_by one (n - 1) (more one (n - 1)) xs)
unfolding more
more_step one zero xs a h = absurd (let e : ⊥ = omega arith in e)
more_step one (suc n) xs a h = let e : n ≡ suc n - 1 = omega arith in ap (λ k. at_first a (Err End) (more_by one k (more one k) xs)) e

pub more_end : {X : Type 0} (one : ℕ → List Token → Answer X) (n : ℕ) (xs : List X) (a : List Token) → n ≡ 0 → more one n xs a ≡ Err End
unfolding more
more_end one n xs a h = ap (λ k. more one k xs a) h

pub imports_step : (put : Bool) (n : ℕ) (xs : List ImportItem) (a : List Token) → 0 < n → imports_at put n xs a ≡ at_first a (Ok (xs, [])) (imports_by put (n - 1) (imports_at put (n - 1)) xs)
unfolding imports_at
imports_step put zero xs a h = absurd (let e : ⊥ = omega arith in e)
imports_step put (suc n) xs a h = let e : n ≡ suc n - 1 = omega arith in ap (λ k. at_first a (Ok (xs, [])) (imports_by put k (imports_at put k) xs)) e

pub imports_end : (put : Bool) (n : ℕ) (xs : List ImportItem) (a : List Token) → n ≡ 0 → imports_at put n xs a ≡ Err End
unfolding imports_at
imports_end put n xs a h = ap (λ k. imports_at put k xs a) h

-- Where nesting passes 500, by what begins a text.
use Rattle.std.proofs.Common.{◌≡◌, ℕ, Bool, true, false, List, [], ◌∷◌, ◌++◌, Some, None, refl, sym, ap, ◌∙◌, if◌then◌else◌}
use Rattle.std.specs.declared.option.Option.{Option}
use Rattle.mk_base.specs.declared.place.Pos.{Pos}
use Rattle.hs_syntax.specs.declared.token.Token.{Token}
use Rattle.hs_syntax.specs.Signs.{sign_of}
use Rattle.hs_nesting.specs.Nesting.{fits, first_over, nesting, levels_from, levels_behind, quoted_behind, role_of, PassesNowhere, PassesFirst, FrontsNestNoDeeper}

-- one lexeme that fits, and what follows
none_on : (text front : Option Pos) (at : Pos) (fit : Bool) → (text ≡ None → front ≡ None) → (if fit then text else Some at) ≡ None → (if fit then front else Some at) ≡ None
none_on text front at true on e = on e
none_on text front at false on e = cc

front_from : (quoted : Bool) (ns : List ℕ) (a b : List Token) → first_over quoted ns (a ++ b) ≡ None → first_over quoted ns a ≡ None
front_from quoted ns [] b e = refl
front_from quoted ns (t ∷ a) b e =
    let next : List ℕ = levels_behind (role_of (sign_of t)) quoted ns in
    let inside : Bool = quoted_behind (role_of (sign_of t)) quoted in
    none_on (first_over inside next (a ++ b)) (first_over inside next a) t.at (fits next) (front_from inside next a b) e

pub fronts : FrontsNestNoDeeper
fronts front rest e = front_from false (0 ∷ []) front rest e

-- where there is no place, the lexeme fits and there is none behind it
fits_on : (rest : Option Pos) (at : Pos) (fit : Bool) → (if fit then rest else Some at) ≡ None → (fit ≡ true) × (rest ≡ None)
fits_on rest at true e = (refl, e)
fits_on rest at false e = cc

fits_behind : (quoted : Bool) (ns : List ℕ) (a b : List Token) → fits ns ≡ true → first_over quoted ns (a ++ b) ≡ None → fits (levels_from quoted ns a) ≡ true
fits_behind quoted ns [] b f e = f
fits_behind quoted ns (t ∷ a) b f e =
    let next : List ℕ = levels_behind (role_of (sign_of t)) quoted ns in
    let inside : Bool = quoted_behind (role_of (sign_of t)) quoted in
    let on : (fits next ≡ true) × (first_over inside next (a ++ b) ≡ None) = fits_on (first_over inside next (a ++ b)) t.at (fits next) e in
    fits_behind inside next a b on.0 on.1

abbrev Throughout : Bool → List ℕ → List Token → Type 0
Throughout quoted ns ts = (front rest : List Token) → ts ≡ front ++ rest → fits (levels_from quoted ns front) ≡ true

none_from : (quoted : Bool) (ns : List ℕ) (ts : List Token) → Throughout quoted ns ts → first_over quoted ns ts ≡ None
none_from quoted ns [] h = refl
none_from quoted ns (t ∷ ts) h =
    let next : List ℕ = levels_behind (role_of (sign_of t)) quoted ns in
    let inside : Bool = quoted_behind (role_of (sign_of t)) quoted in
    ap (λ fit. if fit then first_over inside next ts else Some t.at) (h (t ∷ []) ts refl)
    ∙ none_from inside next ts (λ front rest e. h (t ∷ front) rest (ap (λ us. t ∷ us) e))

pub nowhere : PassesNowhere
nowhere ts = (
  (λ h front rest e. fits_behind false (0 ∷ []) front rest refl (sym (ap nesting e) ∙ h)),
  (λ h. none_from false (0 ∷ []) ts h),
)

first_from : (quoted : Bool) (ns : List ℕ) (a : List Token) (t : Token) (b : List Token)
    → Throughout quoted ns a → fits (levels_from quoted ns (a ++ t ∷ [])) ≡ false → first_over quoted ns (a ++ t ∷ b) ≡ Some t.at
first_from quoted ns [] t b h e =
    let next : List ℕ = levels_behind (role_of (sign_of t)) quoted ns in
    let inside : Bool = quoted_behind (role_of (sign_of t)) quoted in
    ap (λ fit. if fit then first_over inside next b else Some t.at) e
first_from quoted ns (u ∷ a) t b h e =
    let next : List ℕ = levels_behind (role_of (sign_of u)) quoted ns in
    let inside : Bool = quoted_behind (role_of (sign_of u)) quoted in
    ap (λ fit. if fit then first_over inside next (a ++ t ∷ b) else Some u.at) (h (u ∷ []) a refl)
    ∙ first_from inside next a t b (λ front rest f. h (u ∷ front) rest (ap (λ us. u ∷ us) f)) e

pub first : PassesFirst
first front t rest h e = first_from false (0 ∷ []) front t rest h e

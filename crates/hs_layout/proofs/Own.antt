-- The tokens of a source stay.
use Rattle.std.specs.Prelude.{Option, Some, None, map, if◌then◌else◌}
use Rattle.std.proofs.Common.{◌≡◌, Bool, true, false, List, [], ◌∷◌, ◌++◌, refl, ap, sym, ◌∙◌}
use Rattle.hs_syntax.specs.declared.token.Token.{Token}
use Rattle.hs_syntax.specs.declared.token.PutSign.{PutSign}
use Rattle.hs_layout.specs.declared.state.Spot.{Spot}
use Rattle.hs_layout.specs.declared.state.State.{State}
use Rattle.hs_layout.specs.Roles.{role_of}
use Rattle.hs_layout.specs.Braced.{put_token, spot_of, is_pragma, before, pieces, after, at_end, braced_from, start, braced}
use Rattle.hs_layout.specs.Source.{own, unless_put, IsSource}

more : (o : Option PutSign) (t : Token) (r s : List Token) → unless_put o t r ++ s ≡ unless_put o t (r ++ s)
more None t r s = refl
more (Some x) t r s = refl

own_append : (a b : List Token) → own (a ++ b) ≡ own a ++ own b
own_append [] b = refl
own_append (t ∷ a) b = ap (λ z. unless_put t.put t z) (own_append a b) ∙ sym (more t.put t (own a) (own b))

own_puts : (s : Spot) (ss : List PutSign) → own (map (put_token s) ss) ≡ []
own_puts s [] = refl
own_puts s (x ∷ ss) = own_puts s ss

lexeme : (s : Spot) (ss : List PutSign) (t : Token) → own (map (put_token s) ss ++ t ∷ []) ≡ own (t ∷ [])
lexeme s ss t = own_append (map (put_token s) ss) (t ∷ []) ∙ ap (λ z. z ++ own (t ∷ [])) (own_puts s ss)

either : (b : Bool) (x y : List Token) (z : List Token) → own x ≡ z → own y ≡ z → own (if b then x else y) ≡ z
either true x y z p q = p
either false x y z p q = q

own_pieces : (st : State) (t : Token) → own (pieces st t) ≡ own (t ∷ [])
own_pieces st t = either (is_pragma t.kind) (t ∷ []) (map (put_token (spot_of t)) (before st t (role_of t)).puts ++ t ∷ []) (own (t ∷ [])) refl (lexeme (spot_of t) (before st t (role_of t)).puts t)

own_from : (st : State) (ts : List Token) → own (braced_from st ts) ≡ own ts
own_from st [] = own_puts st.end (at_end st).puts
own_from st (t ∷ ts) =
    own_append (pieces st t) (braced_from (after st t) ts) ∙ ap (λ z. z ++ own (braced_from (after st t) ts)) (own_pieces st t) ∙ ap (λ z. own (t ∷ []) ++ z) (own_from (after st t) ts) ∙ more t.put t [] (own ts)

pub own_braced : (ts : List Token) → own (braced ts) ≡ own ts
own_braced ts = own_from start ts

pub own_source : (ts : List Token) → IsSource ts → own ts ≡ ts
own_source [] h = refl
own_source (t ∷ ts) h = ap (λ z. unless_put z t (own ts)) h.0 ∙ ap (λ z. t ∷ z) (own_source ts h.1)

pub source_stays : (ts : List Token) → IsSource ts → own (braced ts) ≡ ts
source_stays ts h = own_braced ts ∙ own_source ts h

-- The diagnostics of a check are in order.
use Rattle.std.specs.Prelude.{map, if◌then◌else◌}
use Rattle.std.specs.List.{AllByRecursion}
use Rattle.std.specs.Ordering.{nat_cmp, ordering_then}
use Rattle.std.specs.declared.option.Option.{Option}
use Rattle.std.specs.declared.cmp.Ordering.{Ordering}
use Rattle.std.specs.declared.cmp.Ordering.TheVariants.{Less, Equal}
use Rattle.std.proofs.lemmas.Bool.{lt-ltb}
use Rattle.std.proofs.lemmas.Cmp.{nat_cmp_total, tied_itself}
use Rattle.std.proofs.Common.{◌≡◌, ℕ, ◌<◌, Bool, true, false, List, [], ◌∷◌, ◌++◌, refl, ap, sym, ◌∙◌, subst, Some, None, Result, Ok, Err, append_assoc, inl, inr}
use Rattle.mk_base.specs.Order.{AreInOrder, diag_cmp, text_cmp}
use Rattle.mk_base.specs.declared.name.Node.{Node}
use Rattle.mk_base.specs.declared.diag.Diag.{Diag}
use Rattle.mk_base.specs.declared.place.Pos.{Pos}
use Rattle.hs_syntax.specs.Rising.{AreRising, IsBefore}
use Rattle.hs_syntax.specs.declared.token.Token.{Token}
use Rattle.hs_syntax.specs.declared.token.TokenKind.{TokenKind}
use Rattle.hs_syntax.specs.declared.token.PutSign.{PutSign}
use Rattle.hs_lex.specs.declared.item.Kind.{Kind}
use Rattle.hs_lex.specs.declared.cursor.Cursor.{Cursor}
use Rattle.hs_lex.specs.Tokens.{Lexes, Tokens, tokens_at}
use Rattle.hs_lex.specs.Slow.{read_source}
use Rattle.hs_lex.proofs.Slow.{lexes_exactly}
use Rattle.hs_lex.proofs.Rising.{lexemes_rise}
use Rattle.hs_layout.specs.declared.state.Spot.{Spot}
use Rattle.hs_layout.specs.declared.state.State.{State}
use Rattle.hs_layout.specs.Braced.{after, at_end, before, braced, braced_from, is_pragma, put_token, spot_of, start}
use Rattle.hs_layout.specs.Roles.{role_of}
use Rattle.mk_base.specs.Places.{first_place}
use Rattle.plain_form.specs.Form.{lexeme_places, places, read_form, words, written_at}
use Rattle.plain_form.specs.declared.form.Written.{Written}
use Rattle.plain_form.specs.declared.form.Reading.{Reading}
use Rattle.plain_form.specs.declared.form.Reading.TheVariants.{Form, Leaves}
use Rattle.plain_form.proofs.Rise.{words_rise}
use Rattle.plain_scope.specs.declared.scope.Content.{Content}
use Rattle.plain_scope.specs.Ordered.{AreOrdered}
use Rattle.plain_scope.specs.Scope.{content_of, scope, scope_diags, with_diags}
use Rattle.plain_scope.proofs.Order.{are_ordered}
use Rattle.unbuilt_forms.specs.Unbuilt.{unbuilt, formed}
use Rattle.module_check.specs.declared.check.CheckSettings.{CheckSettings}
use Rattle.module_check.specs.Check.{after_items, check, items_of, of_lexemes, outcome_of}
use Rattle.module_check.specs.Laws.{ChecksAreOrdered}

-- no sign is put
abbrev AreUnsigned : List Token → Type 0
AreUnsigned ts = AllByRecursion (λ (t : Token). t.put ≡ None) ts

token_unsigned : (source : List ℕ) (c d : Cursor) (o : Option TokenKind) (us : List Token) → AreUnsigned us → AreUnsigned (tokens_at source c o d ++ us)
token_unsigned source c d None us h = h
token_unsigned source c d (Some k) us h = (refl, h)

tokens_unsigned : (source : List ℕ) (is : List (Kind × List ℕ)) (c d : Cursor) (ts : List Token) → Tokens source c is ts d → AreUnsigned ts
tokens_unsigned source [] c d ts h = subst AreUnsigned (sym h.0) tt
tokens_unsigned source (i ∷ is) c d ts h = subst AreUnsigned (sym h.3) (token_unsigned source c h.0.to h.0.kind h.1 (tokens_unsigned source is h.0.to d h.1 h.4))

-- what layout puts is no lexeme
puts_none : (spot : Spot) (ss : List PutSign) (rest : List Token) → lexeme_places (map (put_token spot) ss ++ rest) ≡ lexeme_places rest
puts_none spot [] rest = refl
puts_none spot (s ∷ ss) rest = puts_none spot ss rest

put_ends : (spot : Spot) (ss : List PutSign) → lexeme_places (map (put_token spot) ss) ≡ []
put_ends spot [] = refl
put_ends spot (s ∷ ss) = put_ends spot ss

own_place : (s : Option PutSign) (at : Pos) (ps : List Pos) → s ≡ None → written_at s at ++ ps ≡ at ∷ ps
own_place None at ps h = refl
own_place (Some s) at ps h = absurd (let k : ⊥ = cc in k)

one_piece : (b : Bool) (spot : Spot) (ss : List PutSign) (t : Token) (rest : List Token) → t.put ≡ None
    → lexeme_places ((if b then t ∷ [] else map (put_token spot) ss ++ t ∷ []) ++ rest) ≡ t.at ∷ lexeme_places rest
one_piece true spot ss t rest h = own_place t.put t.at (lexeme_places rest) h
one_piece false spot ss t rest h =
    ap lexeme_places (append_assoc (map (put_token spot) ss) (t ∷ []) rest) ∙ puts_none spot ss (t ∷ rest) ∙ own_place t.put t.at (lexeme_places rest) h

braced_places : (ts : List Token) (st : State) → AreUnsigned ts → lexeme_places (braced_from st ts) ≡ map (λ (t : Token). t.at) ts
braced_places [] st h = put_ends st.end (at_end st).puts
braced_places (t ∷ ts) st h =
    one_piece (is_pragma t.kind) (spot_of t) (before st t (role_of t)).puts t (braced_from (after st t) ts) h.0 ∙ ap (λ ps. t.at ∷ ps) (braced_places ts (after st t) h.1)

-- the names of a module that was read rise
formed_whole : (r : Reading) (w : Written) → formed r ≡ Ok w → r ≡ Form w
formed_whole (Form v) w h = let k : v ≡ w = cc in ap Form k
formed_whole (Leaves at) w h = absurd (let k : ⊥ = cc in k)

abbrev chosen : Bool → Result Written Diag → Result Written Diag
chosen b r = if b then Err (unbuilt first_place) else r

tokens_whole : (b : Bool) (ts : List Token) (w : Written) → chosen b (formed (read_form (braced ts))) ≡ Ok w → read_form (braced ts) ≡ Form w
tokens_whole true ts w h = absurd (let k : ⊥ = cc in k)
tokens_whole false ts w h = formed_whole (read_form (braced ts)) w h

lexed_rise : (n : Node) (s : List ℕ) (r : Result (List Token) Pos) (w : Written) → read_source s ≡ r → of_lexemes n r ≡ Ok w → AreRising (places (words w))
lexed_rise n s (Err at) w e h = absurd (let k : ⊥ = cc in k)
lexed_rise n s (Ok ts) w e h =
    let l : Lexes s ts = (lexes_exactly s ts).0 e in
    let unsigned : AreUnsigned ts = tokens_unsigned s l.0 _ l.1 ts l.2.tokens in
    let rise : AreRising (lexeme_places (braced ts)) = subst AreRising (sym (braced_places ts start unsigned)) (lexemes_rise s ts l) in
    words_rise (braced ts) w (tokens_whole n.boot ts w h) rise

items_rise : (n : Node) (s : List ℕ) (w : Written) → items_of n s ≡ Ok w → AreRising (places (words w))
items_rise n s w h = lexed_rise n s (read_source s) w refl h

-- what rises by place is in order
nat_less : (x y : ℕ) → x < y → nat_cmp x y ≡ Less
nat_less x y h = rw (lt-ltb x y h) refl

nat_tied : (x y : ℕ) → x ≡ y → nat_cmp x y ≡ Equal
nat_tied x y h = ap (nat_cmp x) (sym h) ∙ tied_itself nat_cmp_total x

place_first : (d e : Diag) → IsBefore d.at e.at → diag_cmp d e ≡ Less
place_first d e h =
    let rest : Ordering = ordering_then (nat_cmp d.code e.code) (text_cmp d.text e.text) in
    elim h [
      | inl lines ↦ ap (λ o. ordering_then (ordering_then o (nat_cmp d.at.col e.at.col)) rest) (nat_less d.at.line e.at.line lines)
      | inr both ↦
          ap (λ o. ordering_then (ordering_then o (nat_cmp d.at.col e.at.col)) rest) (nat_tied d.at.line e.at.line both.0)
          ∙ ap (λ o. ordering_then o rest) (nat_less d.at.col e.at.col both.1)
    ]

all_after : (d : Diag) (ds : List Diag) → AllByRecursion (IsBefore d.at) (map (λ (e : Diag). e.at) ds) → AllByRecursion (λ (e : Diag). diag_cmp d e ≡ Less) ds
all_after d [] h = tt
all_after d (e ∷ ds) h = (place_first d e h.0, all_after d ds h.1)

in_order_by_place : (ds : List Diag) → AreOrdered ds → AreInOrder ds
in_order_by_place [] h = tt
in_order_by_place (d ∷ ds) h = (all_after d ds h.0, in_order_by_place ds h.1)

-- and so do those of a check
wrong_are : (c : Content) (ds es : List Diag) → outcome_of (with_diags c ds) ≡ Err es → ds ≡ es
wrong_are c [] es h = absurd (let k : ⊥ = cc in k)
wrong_are c (d ∷ ds) es h = let k : d ∷ ds ≡ es = cc in k

abbrev refused_with : List Diag → Result Content (List Diag)
refused_with ds = Err ds

one_refused : (d : Diag) (es : List Diag) → refused_with (d ∷ []) ≡ refused_with es → d ∷ [] ≡ es
one_refused d es h = cc

check_ordered : (g : CheckSettings) (n : Node) (r : Result Written Diag) (cs : List Content) (es : List Diag) → ((w : Written) → r ≡ Ok w → AreRising (places (words w)))
    → after_items g n r cs ≡ Err es → AreInOrder es
check_ordered g n (Err d) cs es rise h = subst AreInOrder (one_refused d es h) (tt, tt)
check_ordered g n (Ok w) cs es rise h =
    subst AreInOrder (wrong_are (content_of g.unit.text n.module.text w cs) (scope_diags g.unit.text n.module.text w cs) es h)
    (in_order_by_place (scope_diags g.unit.text n.module.text w cs) (are_ordered (scope g.unit.text n.module.text w cs) w (rise w refl)))

pub checks_are_ordered : ChecksAreOrdered
unfolding check
checks_are_ordered g n s cs ds h = check_ordered g n (items_of n s) cs ds (items_rise n s) h

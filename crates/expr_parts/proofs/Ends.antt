-- Where no expression goes on, and where an earlier attempt finds nothing.
use Rattle.std.proofs.Common.{◌≡◌, ◌⊎◌, inl, inr, ℕ, ◌+◌, ◌*◌, ◌≤◌, Bool, true, false, cond, List, [], ◌∷◌, length, Some, None, refl, sym, ap, ◌∙◌}
use Rattle.hs_syntax.specs.declared.token.Token.{Token}
use Rattle.hs_syntax.specs.declared.sign.Sign.{Sign}
use Rattle.hs_syntax.specs.declared.sign.Sign.TheVariants.{Minus, Bang, Star, VarSym, QualifiedVarSym, ConSym, QualifiedConSym, CloseBrace, Semicolon, CloseParen, CloseSquare, Comma, Backquote, Else, Infix, Infixl, Infixr, Of, Then, Where, Colon, Dots, Typed, Equals, Bar, Arrow}
use Rattle.hs_syntax.specs.declared.name_ref.NameRef.{NameRef}
use Rattle.hs_syntax.specs.declared.name_ref.QopTree.{QopTree}
use Rattle.hs_syntax.specs.declared.type_tree.QualifiedType.{QualifiedType}
use Rattle.hs_syntax.specs.declared.expr_tree.SigTree.{SigTree}
use Rattle.hs_syntax.specs.declared.expr_tree.FixTree.{FixTree}
use Rattle.hs_syntax.specs.declared.expr_tree.ExprTree.{ExprTree}
use Rattle.hs_syntax.specs.declared.expr_tree.ArmTree.{ArmTree}
use Rattle.hs_syntax.specs.declared.expr_tree.RhsTree.{RhsTree}
use Rattle.hs_syntax.specs.declared.expr_tree.Clause.{Clause}
use Rattle.hs_syntax.specs.Signs.{sign_of}
use Rattle.hs_syntax.specs.Reading.{Found, and_then, or_else_by, begins, behind, with_sign, is_comma, is_close_paren, is_typed, is_arrow, is_back, is_bar, is_in}
use Rattle.hs_syntax.proofs.Sound.{Sound, sound_as, none_of}
use Rattle.hs_syntax.proofs.Cut.{cut, stands, ends, is_plain, is_closing}
use Rattle.hs_parts.specs.Names.{IsQop}
use Rattle.hs_parts.specs.Grammar.{IsQualified, IsVars, LastVar, MoreVars, IsSig, TypedSig, IsFix}
use Rattle.hs_parts.specs.NameReaders.{qop_at}
use Rattle.hs_parts.specs.PatternReaders.{is_brace}
use Rattle.hs_parts.specs.SigReaders.{sig_at, fix_at}
use Rattle.hs_parts.specs.TypeReaders.{qualified_at, qualified_tail}
use Rattle.hs_parts.proofs.TypesComplete.{type_goes_on}
use Rattle.hs_parts.proofs.ContextsComplete.{is_type_end}
use Rattle.expr_parts.specs.Grammar.{EndsItem, IsExp, IsArms, LastArm, MoreArms, IsArm, GuardedArm, IsRhs, PlainRhs, GuardedRhs, IsClause, SidesClause}
use Rattle.expr_parts.specs.Expressions.{aexp_begins, ends_item, closes, infix_at, section_end_at, bound_at, guard_type_by, type_at}
use Rattle.expr_parts.proofs.PartsSound.{PartsSound}
use Rattle.expr_parts.proofs.PartsComplete.{Parts, PartsComplete}
use Rattle.hs_parts.proofs.TypesCut.{qualified_cut}
use Rattle.hs_parts.proofs.PatternsCut.{NoPattern, NoSide, var_cut, lhs_cut, pattern_cut}
use Rattle.expr_parts.proofs.First.{Keeps, token_keeps, exp_first, stop, stops, no_stop, back_first, comma_first, arrow_first}
use Rattle.expr_parts.proofs.Starts.{false_true, op_begins, qop_start, side_begins, lhs_start, sig_start, is_word, fix_start, lift}
use Rattle.expr_parts.proofs.BlockSound.{Bound, bound_sound}

-- what goes on behind a body
abbrev pub goes_on_body : Sign → Bool
goes_on_body Bar = false
goes_on_body Where = false
goes_on_body Semicolon = false
goes_on_body (CloseBrace b) = false
goes_on_body _ = true

-- what goes on behind a declaration or an alternative
abbrev pub goes_on_item : Sign → Bool
goes_on_item Semicolon = false
goes_on_item (CloseBrace b) = false
goes_on_item _ = true

-- the arrow behind a guard of an alternative, and the body behind it
pub data IsArrow : List Token → Type 0 where
  BodyArrow : {d z : List Token} {w : Token} {e : ExprTree} → sign_of w ≡ Arrow → IsExp d z e → begins goes_on_body z ≡ false → IsArrow (w ∷ d)

abbrev pub ends_guard : Sign → Bool
ends_guard Comma = true
ends_guard Equals = true
ends_guard _ = false

-- a guard ends here: one in an alternative, or one in a clause
abbrev pub GuardEnd : Bool → List Token → Type 0
GuardEnd true b = (begins is_comma b ≡ true) ⊎ IsArrow b
GuardEnd false b = begins ends_guard b ≡ true

-- no type goes on here
abbrev pub TypeEnd : Bool → List Token → Type 0
TypeEnd true b = GuardEnd true b
TypeEnd false b = begins type_goes_on b ≡ false

-- no expression goes on here
pub record Ends (tail : Bool) (b : List Token) : Type 0 where
  pub aexp : begins aexp_begins b ≡ false
  pub brace : begins is_brace b ≡ false
  pub operator : infix_at b ≡ None
  pub typed : begins is_typed b ≡ false
  pub behind : TypeEnd tail b

-- no chain goes on here
pub record ChainEnds (o tail : Bool) (b : List Token) : Type 0 where
  pub aexp : begins aexp_begins b ≡ false
  pub brace : begins is_brace b ≡ false
  pub operator : infix_at b ≡ None
  pub opened : o ≡ true → Ends tail b

-- no part of a comprehension or a block of statements goes on here
pub record PartEnds (b : List Token) : Type 0 where
  pub ends : Ends false b
  pub inside : begins is_in b ≡ false
  pub keeps : Keeps stop is_back b

pub chain_ends : (o tail : Bool) (b : List Token) → Ends tail b → ChainEnds o tail b
chain_ends o tail b e = record { aexp = e.aexp; brace = e.brace; operator = e.operator; opened = λ h. e }

-- Operators

pub no_qop : (q : PartsSound) (b : List Token) → begins op_begins b ≡ false → qop_at b ≡ None
no_qop q b e = none_of (IsQop b) (qop_at b) (q.qop b) (λ rest x d. false_true (sym e ∙ qop_start d))

pub no_infix : (q : PartsSound) (b : List Token) → begins op_begins b ≡ false → infix_at b ≡ None
no_infix q b e = ap (λ m. and_then m (λ x rest. cond (begins is_close_paren rest) None (Some (x, rest)))) (no_qop q b e)

pub no_section : (q : PartsSound) (b : List Token) → begins op_begins b ≡ false → section_end_at b ≡ None
no_section q b e = ap (λ m. and_then m (λ x rest. with_sign (behind is_close_paren rest) x)) (no_qop q b e)

pub infix_complete : (q : PartsComplete) {a b : List Token} {x : QopTree} → IsQop a b x → begins is_close_paren b ≡ false → infix_at a ≡ Some (x, b)
infix_complete q {b = b} {x = x} d e = ap (λ m. and_then m (λ x rest. cond (begins is_close_paren rest) None (let z : Found QopTree = Some (x, rest) in z))) (q.qop d) ∙ ap (λ v. cond v None (let z : Found QopTree = Some (x, b) in z)) e

pub section_complete : (q : PartsComplete) {a b : List Token} {c : Token} {x : QopTree} → IsQop a (c ∷ b) x → sign_of c ≡ CloseParen → section_end_at a ≡ Some (x, b)
section_complete q {b = b} {c = c} {x = x} d e = ap (λ m. and_then m (λ x rest. with_sign (behind is_close_paren rest) x)) (q.qop d) ∙ ap (λ k. with_sign (cond (is_close_paren k) (Some b) None) x) e

section_ends : (q : PartsComplete) {a b : List Token} {c : Token} {x : QopTree} → IsQop a (c ∷ b) x → sign_of c ≡ CloseParen → infix_at a ≡ None
section_ends q {b = b} {c = c} {x = x} d e =
    ap (λ m. and_then m (λ x rest. cond (begins is_close_paren rest) None (let z : Found QopTree = Some (x, rest) in z))) (q.qop d) ∙ ap (λ k. cond (is_close_paren k) None (let z : Found QopTree = Some (x, c ∷ b) in z)) e

-- what an operator is not
abbrev pub OpSign : Sign → Type 0
OpSign k = (aexp_begins k ≡ false) × (is_brace k ≡ false) × (is_typed k ≡ false) × (type_goes_on k ≡ false)

op_sign : (k : Sign) → op_begins k ≡ true → OpSign k
op_sign Minus e = (refl, refl, refl, refl)
op_sign Bang e = (refl, refl, refl, refl)
op_sign Star e = (refl, refl, refl, refl)
op_sign VarSym e = (refl, refl, refl, refl)
op_sign QualifiedVarSym e = (refl, refl, refl, refl)
op_sign ConSym e = (refl, refl, refl, refl)
op_sign QualifiedConSym e = (refl, refl, refl, refl)
op_sign Colon e = (refl, refl, refl, refl)
op_sign Backquote e = (refl, refl, refl, refl)
op_sign _ e = absurd (let x : ⊥ = cc in x)

pub op_no_aexp : (k : Sign) → op_begins k ≡ true → aexp_begins k ≡ false
op_no_aexp k e = let h : OpSign k = op_sign k e in h.0

op_no_brace : (k : Sign) → op_begins k ≡ true → is_brace k ≡ false
op_no_brace k e = let h : OpSign k = op_sign k e in h.1

op_no_typed : (k : Sign) → op_begins k ≡ true → is_typed k ≡ false
op_no_typed k e = let h : OpSign k = op_sign k e in h.2

op_no_type : (k : Sign) → op_begins k ≡ true → type_goes_on k ≡ false
op_no_type k e = let h : OpSign k = op_sign k e in h.3

pub qop_no_aexp : {a b : List Token} {x : QopTree} → IsQop a b x → begins aexp_begins a ≡ false
qop_no_aexp {a = a} d = lift op_begins aexp_begins op_no_aexp a (qop_start d)

pub qop_no_brace : {a b : List Token} {x : QopTree} → IsQop a b x → begins is_brace a ≡ false
qop_no_brace {a = a} d = lift op_begins is_brace op_no_brace a (qop_start d)

pub ends_section : (q : PartsComplete) {a b : List Token} {c : Token} {x : QopTree} → IsQop a (c ∷ b) x → sign_of c ≡ CloseParen → Ends false a
ends_section q {a = a} d e = record {
  aexp = qop_no_aexp d;
  brace = qop_no_brace d;
  operator = section_ends q d e;
  typed = lift op_begins is_typed op_no_typed a (qop_start d);
  behind = lift op_begins type_goes_on op_no_type a (qop_start d);
}

-- the signs behind which no expression goes on
abbrev pub is_end : Sign → Bool
is_end CloseParen = true
is_end CloseSquare = true
is_end (CloseBrace b) = true
is_end Comma = true
is_end Semicolon = true
is_end Bar = true
is_end Then = true
is_end Else = true
is_end Of = true
is_end Where = true
is_end Dots = true
is_end Equals = true
is_end _ = false

abbrev EndSign : Sign → Type 0
EndSign k = (aexp_begins k ≡ false) × (is_brace k ≡ false) × (op_begins k ≡ false) × (is_typed k ≡ false) × (type_goes_on k ≡ false) × (is_in k ≡ false)

end_sign : (k : Sign) → is_end k ≡ true → EndSign k
end_sign CloseParen e = (refl, refl, refl, refl, refl, refl)
end_sign CloseSquare e = (refl, refl, refl, refl, refl, refl)
end_sign (CloseBrace b) e = (refl, refl, refl, refl, refl, refl)
end_sign Comma e = (refl, refl, refl, refl, refl, refl)
end_sign Semicolon e = (refl, refl, refl, refl, refl, refl)
end_sign Bar e = (refl, refl, refl, refl, refl, refl)
end_sign Then e = (refl, refl, refl, refl, refl, refl)
end_sign Else e = (refl, refl, refl, refl, refl, refl)
end_sign Of e = (refl, refl, refl, refl, refl, refl)
end_sign Where e = (refl, refl, refl, refl, refl, refl)
end_sign Dots e = (refl, refl, refl, refl, refl, refl)
end_sign Equals e = (refl, refl, refl, refl, refl, refl)
end_sign _ e = absurd (let x : ⊥ = cc in x)

pub ends_at : (q : PartsSound) (t : Token) (b : List Token) → is_end (sign_of t) ≡ true → Ends false (t ∷ b)
ends_at q t b e = let h : EndSign (sign_of t) = end_sign (sign_of t) e in record { aexp = h.0; brace = h.1; operator = no_infix q (t ∷ b) h.2; typed = h.3; behind = h.4 }

pub ends_nothing : (q : PartsSound) → Ends false []
ends_nothing q = record { aexp = refl; brace = refl; operator = no_infix q [] refl; typed = refl; behind = refl }

pub end_no_op : (t : Token) (b : List Token) → is_end (sign_of t) ≡ true → begins op_begins (t ∷ b) ≡ false
end_no_op t b e = let h : EndSign (sign_of t) = end_sign (sign_of t) e in h.2

abbrev TailSign : Sign → Type 0
TailSign k = (aexp_begins k ≡ false) × (is_brace k ≡ false) × (op_begins k ≡ false) × (is_typed k ≡ false) × (is_in k ≡ false)

comma_sign : (k : Sign) → is_comma k ≡ true → TailSign k
comma_sign Comma e = (refl, refl, refl, refl, refl)
comma_sign _ e = absurd (let x : ⊥ = cc in x)

arrow_sign : (k : Sign) → is_arrow k ≡ true → TailSign k
arrow_sign Arrow e = (refl, refl, refl, refl, refl)
arrow_sign _ e = absurd (let x : ⊥ = cc in x)

guard_sign : (k : Sign) → ends_guard k ≡ true → TailSign k × (type_goes_on k ≡ false)
guard_sign Comma e = ((refl, refl, refl, refl, refl), refl)
guard_sign Equals e = ((refl, refl, refl, refl, refl), refl)
guard_sign _ e = absurd (let x : ⊥ = cc in x)

tail_ends : (q : PartsSound) (tail : Bool) (t : Token) (b : List Token) → TailSign (sign_of t) → TypeEnd tail (t ∷ b) → Ends tail (t ∷ b)
tail_ends q tail t b h e = record { aexp = h.0; brace = h.1; operator = no_infix q (t ∷ b) h.2; typed = h.3; behind = e }

pub guard_ends : (q : PartsSound) (s : Bool) (b : List Token) → GuardEnd s b → Ends s b
guard_ends q true [] (inl e) = absurd (false_true e)
guard_ends q true (t ∷ b) (inl e) = tail_ends q true t b (comma_sign (sign_of t) e) (inl e)
guard_ends q true b (inr (BodyArrow {d = d} {w = w} e x f)) = tail_ends q true w d (arrow_sign (sign_of w) (ap is_arrow e)) (inr (BodyArrow {w = w} e x f))
guard_ends q false [] e = absurd (false_true e)
guard_ends q false (t ∷ b) e = let h : TailSign (sign_of t) × (type_goes_on (sign_of t) ≡ false) = guard_sign (sign_of t) e in tail_ends q false t b h.0 h.1

pub guard_no_in : (s : Bool) (b : List Token) → GuardEnd s b → begins is_in b ≡ false
guard_no_in true [] (inl e) = refl
guard_no_in true (t ∷ b) (inl e) = let h : TailSign (sign_of t) = comma_sign (sign_of t) e in h.4
guard_no_in true b (inr (BodyArrow {w = w} e x f)) = ap is_in e
guard_no_in false [] e = refl
guard_no_in false (t ∷ b) e = let h : TailSign (sign_of t) × (type_goes_on (sign_of t) ≡ false) = guard_sign (sign_of t) e in let k : TailSign (sign_of t) = h.0 in k.4

-- bodies and items
body_end : (k : Sign) → goes_on_body k ≡ false → is_end k ≡ true
body_end Bar e = refl
body_end Where e = refl
body_end Semicolon e = refl
body_end (CloseBrace b) e = refl
body_end _ e = absurd (let x : ⊥ = cc in x)

pub body_ends : (q : PartsSound) (b : List Token) → begins goes_on_body b ≡ false → Ends false b
body_ends q [] e = ends_nothing q
body_ends q (t ∷ b) e = ends_at q t b (body_end (sign_of t) e)

item_body : (k : Sign) → goes_on_item k ≡ false → goes_on_body k ≡ false
item_body Semicolon e = refl
item_body (CloseBrace b) e = refl
item_body _ e = absurd (let x : ⊥ = cc in x)

pub item_body_at : (b : List Token) → begins goes_on_item b ≡ false → begins goes_on_body b ≡ false
item_body_at [] e = refl
item_body_at (t ∷ b) e = item_body (sign_of t) e

pub item_end : (put : Bool) (k : Sign) → EndsItem put k → goes_on_item k ≡ false
item_end put k (inl e) = ap goes_on_item e
item_end put k (inr e) = ap goes_on_item e

closes_same : (put : Bool) → closes put (CloseBrace put) ≡ true
closes_same true = refl
closes_same false = refl

pub item_ends : (put : Bool) (k : Sign) → EndsItem put k → ends_item put k ≡ true
item_ends put k (inl e) = ap (ends_item put) e
item_ends put k (inr e) = ap (ends_item put) e ∙ closes_same put

-- The first sign of some sort

halt_by : (q : Sign → Bool) (t : Token) (b : List Token) (k : Sign) → sign_of t ≡ k → is_end k ≡ true → q k ≡ false → (k ≡ Then → ⊥) → (k ≡ Else → ⊥) → (k ≡ Of → ⊥) → (k ≡ Dots → ⊥) → Keeps stop q (t ∷ b)
halt_by q t b CloseParen e f g h i j k = ap (begins q) (ends stop t b (ap is_closing e)) ∙ ap q e ∙ g
halt_by q t b CloseSquare e f g h i j k = ap (begins q) (ends stop t b (ap is_closing e)) ∙ ap q e ∙ g
halt_by q t b (CloseBrace x) e f g h i j k = ap (begins q) (ends stop t b (ap is_closing e)) ∙ ap q e ∙ g
halt_by q t b Comma e f g h i j k = ap (begins q) (stands stop t b (ap is_plain e) (ap stops e)) ∙ ap q e ∙ g
halt_by q t b Semicolon e f g h i j k = ap (begins q) (stands stop t b (ap is_plain e) (ap stops e)) ∙ ap q e ∙ g
halt_by q t b Bar e f g h i j k = ap (begins q) (stands stop t b (ap is_plain e) (ap stops e)) ∙ ap q e ∙ g
halt_by q t b Where e f g h i j k = ap (begins q) (stands stop t b (ap is_plain e) (ap stops e)) ∙ ap q e ∙ g
halt_by q t b Equals e f g h i j k = ap (begins q) (stands stop t b (ap is_plain e) (ap stops e)) ∙ ap q e ∙ g
halt_by q t b Then e f g h i j k = absurd (h refl)
halt_by q t b Else e f g h i j k = absurd (i refl)
halt_by q t b Of e f g h i j k = absurd (j refl)
halt_by q t b Dots e f g h i j k = absurd (k refl)
halt_by q t b _ e f g h i j k = absurd (let x : ⊥ = cc in x)

-- where a part of a comprehension or a block ends
abbrev pub ends_part : Sign → Bool
ends_part Comma = true
ends_part CloseSquare = true
ends_part Semicolon = true
ends_part (CloseBrace b) = true
ends_part _ = false

part_by : (q : PartsSound) (t : Token) (b : List Token) (k : Sign) → sign_of t ≡ k → ends_part k ≡ true → (is_end k ≡ true) × (is_in k ≡ false) × Keeps stop is_back (t ∷ b)
part_by q t b Comma e f = (refl, refl, halt_by is_back t b Comma e refl refl (λ x. cc) (λ x. cc) (λ x. cc) (λ x. cc))
part_by q t b CloseSquare e f = (refl, refl, halt_by is_back t b CloseSquare e refl refl (λ x. cc) (λ x. cc) (λ x. cc) (λ x. cc))
part_by q t b Semicolon e f = (refl, refl, halt_by is_back t b Semicolon e refl refl (λ x. cc) (λ x. cc) (λ x. cc) (λ x. cc))
part_by q t b (CloseBrace y) e f = (refl, refl, halt_by is_back t b (CloseBrace y) e refl refl (λ x. cc) (λ x. cc) (λ x. cc) (λ x. cc))
part_by q t b _ e f = absurd (let x : ⊥ = cc in x)

pub part_ends : (q : PartsSound) (t : Token) (b : List Token) → ends_part (sign_of t) ≡ true → PartEnds (t ∷ b)
part_ends q t b f =
    let h : (is_end (sign_of t) ≡ true) × (is_in (sign_of t) ≡ false) × Keeps stop is_back (t ∷ b) = part_by q t b (sign_of t) refl f in
    record { ends = ends_at q t b h.0; inside = h.1; keeps = h.2 }

body_by : (q : Sign → Bool) (t : Token) (b : List Token) (k : Sign) → sign_of t ≡ k → goes_on_body k ≡ false → q k ≡ false → Keeps stop q (t ∷ b)
body_by q t b Bar e f g = halt_by q t b Bar e refl g (λ x. cc) (λ x. cc) (λ x. cc) (λ x. cc)
body_by q t b Where e f g = halt_by q t b Where e refl g (λ x. cc) (λ x. cc) (λ x. cc) (λ x. cc)
body_by q t b Semicolon e f g = halt_by q t b Semicolon e refl g (λ x. cc) (λ x. cc) (λ x. cc) (λ x. cc)
body_by q t b (CloseBrace y) e f g = halt_by q t b (CloseBrace y) e refl g (λ x. cc) (λ x. cc) (λ x. cc) (λ x. cc)
body_by q t b _ e f g = absurd (let x : ⊥ = cc in x)

body_back : (k : Sign) → goes_on_body k ≡ false → (is_back k ≡ false) × (is_comma k ≡ false) × (is_arrow k ≡ false)
body_back Bar e = (refl, refl, refl)
body_back Where e = (refl, refl, refl)
body_back Semicolon e = (refl, refl, refl)
body_back (CloseBrace b) e = (refl, refl, refl)
body_back _ e = absurd (let x : ⊥ = cc in x)

keeps_back : (z : List Token) → begins goes_on_body z ≡ false → Keeps stop is_back z
keeps_back [] e = refl
keeps_back (t ∷ b) e = let h : (is_back (sign_of t) ≡ false) × (is_comma (sign_of t) ≡ false) × (is_arrow (sign_of t) ≡ false) = body_back (sign_of t) e in body_by is_back t b (sign_of t) refl e h.0

keeps_comma : (z : List Token) → begins goes_on_body z ≡ false → Keeps stop is_comma z
keeps_comma [] e = refl
keeps_comma (t ∷ b) e = let h : (is_back (sign_of t) ≡ false) × (is_comma (sign_of t) ≡ false) × (is_arrow (sign_of t) ≡ false) = body_back (sign_of t) e in body_by is_comma t b (sign_of t) refl e h.1

type_by : (t : Token) (b : List Token) (k : Sign) → sign_of t ≡ k → goes_on_body k ≡ false → Keeps is_type_end is_arrow (t ∷ b)
type_by t b Bar e f = ap (begins is_arrow) (stands is_type_end t b (ap is_plain e) (ap (λ k. is_type_end k b) e)) ∙ ap is_arrow e
type_by t b Where e f = ap (begins is_arrow) (stands is_type_end t b (ap is_plain e) (ap (λ k. is_type_end k b) e)) ∙ ap is_arrow e
type_by t b Semicolon e f = ap (begins is_arrow) (stands is_type_end t b (ap is_plain e) (ap (λ k. is_type_end k b) e)) ∙ ap is_arrow e
type_by t b (CloseBrace x) e f = ap (begins is_arrow) (ends is_type_end t b (ap is_closing e)) ∙ ap is_arrow e
type_by t b _ e f = absurd (let x : ⊥ = cc in x)

keeps_type : (z : List Token) → begins goes_on_body z ≡ false → Keeps is_type_end is_arrow z
keeps_type [] e = refl
keeps_type (t ∷ b) e = type_by t b (sign_of t) refl e

stop_pattern : NoPattern stop
stop_pattern = record { apat = no_stop.apat; minus = λ ts. refl; colon = λ ts. refl; consym = λ ts. refl; qconsym = λ ts. refl; backquote = λ ts. refl }

-- no pattern with an arrow stands where an expression does
pub unbound : (q : PartsSound) (n : ℕ) (a : List Token) → Keeps stop is_back a → bound_at n a ≡ None
unbound q n a k = none_of (Bound a) (bound_at n a) (bound_sound q n a)
    (λ rest p c. false_true (sym k ∙ ap (begins is_back) (pattern_cut stop stop_pattern c.1 0 ∙ stands stop c.0 rest (ap is_plain c.2) (ap stops c.2)) ∙ ap is_back c.2))

arrow_back : (w : Token) (d : List Token) → sign_of w ≡ Arrow → Keeps stop is_back d → Keeps stop is_back (w ∷ d)
arrow_back w d e k = token_keeps stop is_back w d (ap is_plain e) (ap is_back e) k

pub guard_keeps : (s : Bool) (b : List Token) → GuardEnd s b → Keeps stop is_back b
guard_keeps true [] (inl e) = refl
guard_keeps true (t ∷ b) (inl e) = comma_keeps t b (sign_of t) refl e
  where
    comma_keeps : (t : Token) (b : List Token) (k : Sign) → sign_of t ≡ k → is_comma k ≡ true → Keeps stop is_back (t ∷ b)
    comma_keeps t b Comma f g = halt_by is_back t b Comma f refl refl (λ x. cc) (λ x. cc) (λ x. cc) (λ x. cc)
    comma_keeps t b _ f g = absurd (let x : ⊥ = cc in x)
guard_keeps true b (inr (BodyArrow {d = d} {z = z} {w = w} e x f)) = arrow_back w d e (exp_first stop is_back back_first x (keeps_back z f))
guard_keeps false [] e = refl
guard_keeps false (t ∷ b) e = equals_keeps t b (sign_of t) refl e
  where
    equals_keeps : (t : Token) (b : List Token) (k : Sign) → sign_of t ≡ k → ends_guard k ≡ true → Keeps stop is_back (t ∷ b)
    equals_keeps t b Comma f g = halt_by is_back t b Comma f refl refl (λ x. cc) (λ x. cc) (λ x. cc) (λ x. cc)
    equals_keeps t b Equals f g = halt_by is_back t b Equals f refl refl (λ x. cc) (λ x. cc) (λ x. cc) (λ x. cc)
    equals_keeps t b _ f g = absurd (let x : ⊥ = cc in x)

-- Types in front of an arrow

comma_stands : (t : Token) (rest : List Token) (k : Sign) → sign_of t ≡ k → is_comma k ≡ true → cut stop (t ∷ rest) 0 ≡ t ∷ rest
comma_stands t rest Comma f g = stands stop t rest (ap is_plain f) (ap stops f)
comma_stands t rest _ f g = absurd (let x : ⊥ = cc in x)

-- a type as far as it goes is followed by no comma
comma_by : (a rest : List Token) (x : QualifiedType) → IsQualified a rest x → Keeps stop is_comma a → (v : Bool) → begins is_comma rest ≡ v → v ≡ false
comma_by a rest x d k false e = refl
comma_by a [] x d k true e = absurd (false_true e)
comma_by a (t ∷ rest) x d k true e = absurd (false_true (sym k ∙ ap (begins is_comma) (qualified_cut stop no_stop.ty no_stop.implies d 0 ∙ comma_stands t rest (sign_of t) refl e) ∙ e))

no_comma : (q : PartsSound) (n : ℕ) (a : List Token) → Keeps stop is_comma a → Sound (λ rest x. begins is_comma rest ≡ false) (qualified_at n a)
no_comma q n a k = sound_as (IsQualified a) (λ rest x. begins is_comma rest ≡ false) (qualified_at n a) (q.qualified n a) (λ rest x d. comma_by a rest x d k (begins is_comma rest) refl)

tail_by : (n : ℕ) (a : List Token) (m : Found QualifiedType) → Sound (λ rest x. begins is_comma rest ≡ false) m → or_else_by m (guard_type_by n a) (qualified_tail n a) ≡ qualified_tail n a
tail_by n a None s = refl
tail_by n a (Some p) s = ap (λ v. cond v (Some (p.0, p.1)) (qualified_tail n a)) s

pub type_complete : (p : Parts) (n : ℕ) (tail : Bool) {a b : List Token} {x : QualifiedType} → IsQualified a b x → TypeEnd tail b → 8 * length a + 8 ≤ n → type_at n tail a ≡ Some (x, b)
type_complete p n false d e h = p.complete.qualified n d e h
type_complete p n true {a = a} {b = b} {x = x} d (inl e) h =
    ap (λ m. or_else_by m (guard_type_by n a) (qualified_tail n a)) (p.complete.qualified n d (comma_type b e) h) ∙ ap (λ v. cond v (let z : Found QualifiedType = Some (x, b) in z) (qualified_tail n a)) e
  where
    comma_no_type : (k : Sign) → is_comma k ≡ true → type_goes_on k ≡ false
    comma_no_type Comma f = refl
    comma_no_type _ f = absurd (let z : ⊥ = cc in z)

    comma_type : (b : List Token) → begins is_comma b ≡ true → begins type_goes_on b ≡ false
    comma_type b f = lift is_comma type_goes_on comma_no_type b f
type_complete p n true {a = a} d (inr (BodyArrow {d = u} {z = z} {w = w} e y f)) h =
    tail_by n a (qualified_at n a) (no_comma p.sound n a (ap (begins is_comma) (qualified_cut stop no_stop.ty no_stop.implies d 0) ∙ token_keeps stop is_comma w u (ap is_plain e) (ap is_comma e) (exp_first stop is_comma comma_first y (keeps_comma z f))))
    ∙ p.complete.before_arrow n d e (exp_first is_type_end is_arrow arrow_first y (keeps_type z f)) h

-- Declarations

-- the signs by which signatures and clauses are told apart
abbrev mark : Sign → List Token → Bool
mark Typed ts = true
mark Equals ts = true
mark Bar ts = true
mark Comma ts = true
mark _ ts = false

mark_side : NoSide mark
mark_side = record {
  pattern = record {
    apat = record { var = λ ts. refl; con = λ ts. refl; qcon = λ ts. refl; number = λ ts. refl; quoted = λ ts. refl; wild = λ ts. refl; at = λ ts. refl; tilde = λ ts. refl };
    minus = λ ts. refl;
    colon = λ ts. refl;
    consym = λ ts. refl;
    qconsym = λ ts. refl;
    backquote = λ ts. refl;
  };
  bang = λ ts. refl;
  star = λ ts. refl;
  varsym = λ ts. refl;
}

abbrev pub is_mid : Sign → Bool
is_mid Equals = true
is_mid Bar = true
is_mid _ = false

vars_mark : {a b : List Token} {t : Token} {ns : List NameRef} → IsVars a (t ∷ b) ns → sign_of t ≡ Typed → begins is_mid (cut mark a 0) ≡ false
vars_mark {b = b} {t = t} (LastVar x) e = ap (begins is_mid) (var_cut mark mark_side.pattern.apat x 0 ∙ stands mark t b (ap is_plain e) (ap (λ k. mark k b) e)) ∙ ap is_mid e
vars_mark (MoreVars {b = b} {m = m} x f y) e = ap (begins is_mid) (var_cut mark mark_side.pattern.apat x 0 ∙ stands mark m b (ap is_plain f) (ap (λ k. mark k b) f)) ∙ ap is_mid f

sig_mark : {a b : List Token} {x : SigTree} → IsSig a b x → begins is_mid (cut mark a 0) ≡ false
sig_mark (TypedSig x e y) = vars_mark x e

arm_start : {s : Sign} {a b : List Token} {x : ArmTree} → IsArm s a b x → begins is_bar a ≡ true
arm_start (GuardedArm e x f y) = ap is_bar e

pub arms_start : {s : Sign} {a b : List Token} {xs : List ArmTree} → IsArms s a b xs → begins is_bar a ≡ true
arms_start (LastArm x) = arm_start x
arms_start (MoreArms x y) = arm_start x

bar_by : (k : Sign) → is_bar k ≡ true → is_mid k ≡ true
bar_by Bar e = refl
bar_by _ e = absurd (let x : ⊥ = cc in x)

bar_mid : (a : List Token) → begins is_bar a ≡ true → begins is_mid a ≡ true
bar_mid [] e = e
bar_mid (t ∷ a) e = bar_by (sign_of t) e

pub rhs_start : {a b : List Token} {x : RhsTree} → IsRhs a b x → begins is_mid a ≡ true
rhs_start (PlainRhs e x w) = ap is_mid e
rhs_start (GuardedRhs {a = a} x w) = bar_mid a (arms_start x)

mid_by : (t : Token) (b : List Token) (k : Sign) → sign_of t ≡ k → is_mid k ≡ true → cut mark (t ∷ b) 0 ≡ t ∷ b
mid_by t b Equals e f = stands mark t b (ap is_plain e) (ap (λ k. mark k b) e)
mid_by t b Bar e f = stands mark t b (ap is_plain e) (ap (λ k. mark k b) e)
mid_by t b _ e f = absurd (let x : ⊥ = cc in x)

mid_stands : (b : List Token) → begins is_mid b ≡ true → begins is_mid (cut mark b 0) ≡ true
mid_stands [] e = absurd (false_true e)
mid_stands (t ∷ b) e = ap (begins is_mid) (mid_by t b (sign_of t) refl e) ∙ e

clause_mark : {a b : List Token} {x : Clause} → IsClause a b x → begins is_mid (cut mark a 0) ≡ true
clause_mark (SidesClause {b = b} x y) = ap (begins is_mid) (lhs_cut mark mark_side x 0) ∙ mid_stands b (rhs_start y)

-- no signature and no fixity stands where a clause does, and no signature where a fixity does
pub clause_no_sig : (q : PartsSound) (n : ℕ) {a b : List Token} {x : Clause} → IsClause a b x → sig_at n a ≡ None
clause_no_sig q n {a = a} x = none_of (IsSig a) (sig_at n a) (q.sig n a) (λ rest y d. false_true (sym (sig_mark d) ∙ clause_mark x))

side_no_word : (k : Sign) → side_begins k ≡ true → is_word k ≡ false
side_no_word Infix e = absurd (let x : ⊥ = cc in x)
side_no_word Infixl e = absurd (let x : ⊥ = cc in x)
side_no_word Infixr e = absurd (let x : ⊥ = cc in x)
side_no_word _ e = refl

clause_start : {a b : List Token} {x : Clause} → IsClause a b x → begins is_word a ≡ false
clause_start (SidesClause {a = a} x y) = lift side_begins is_word side_no_word a (lhs_start x)

pub clause_no_fix : (q : PartsSound) (n : ℕ) {a b : List Token} {x : Clause} → IsClause a b x → fix_at n a ≡ None
clause_no_fix q n {a = a} x = none_of (IsFix a) (fix_at n a) (q.fix n a) (λ rest y d. false_true (sym (clause_start x) ∙ fix_start d))

pub fix_no_sig : (q : PartsSound) (n : ℕ) {a b : List Token} {x : FixTree} → IsFix a b x → sig_at n a ≡ None
fix_no_sig q n {a = a} x = none_of (IsSig a) (sig_at n a) (q.sig n a) (λ rest y d. false_true (sym (lift side_begins is_word side_no_word a (sig_start d)) ∙ fix_start x))

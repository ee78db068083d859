-- What is derived as a type is read as it.
use Rattle.std.proofs.Common.{◌≡◌, ℕ, suc, zero, ◌+◌, ◌*◌, ◌<◌, ◌≤◌, Bool, true, false, cond, List, [], ◌∷◌, ◌++◌, length, Some, None, refl, sym, ap, ◌∙◌, append_assoc, subst, arith}
use Rattle.std.proofs.lemmas.List.{append-nil}
use Rattle.std.specs.declared.option.Option.{Option}
use Rattle.mk_base.specs.declared.place.Pos.{Pos}
use Rattle.hs_syntax.specs.declared.token.Token.{Token}
use Rattle.hs_syntax.specs.declared.sign.Sign.{Sign}
use Rattle.hs_syntax.specs.declared.sign.Sign.TheVariants.{Var, Con, QualifiedCon, OpenBrace, OpenParen, CloseParen, OpenSquare, CloseSquare, Comma, Arrow, Implies}
use Rattle.hs_syntax.specs.declared.type_tree.TypeTree.{TypeTree}
use Rattle.hs_syntax.specs.declared.type_tree.BtypeTree.{BtypeTree}
use Rattle.hs_syntax.specs.declared.type_tree.AtypeTree.{AtypeTree}
use Rattle.hs_syntax.specs.declared.type_tree.AtypeTree.TheVariants as atype
use Rattle.hs_syntax.specs.Signs.{sign_of}
use Rattle.hs_syntax.specs.Names.{name_ref}
use Rattle.hs_syntax.specs.Reading.{Found, and_then, or_else, with_first, begins, behind, and_behind, with_sign, is_comma, is_close_paren, is_close_square, is_arrow}
use Rattle.hs_syntax.specs.Made.{type_tree, btype_tree}
use Rattle.hs_parts.specs.Names.{place, is_qconid, IsCommas, LastComma, MoreCommas}
use Rattle.hs_parts.specs.NameReaders.{more_commas}
use Rattle.hs_parts.specs.TypeReaders.{TypeReaders, type_readers, no_types, next_types, begins_atype, arrow_at, special_by, special_at, paren_type, list_type, square_type, con_type, var_type, atype_by}
use Rattle.hs_parts.specs.Grammar.{IsType, LoneType, ArrowType, IsBtype, AppliedBtype, IsAtypes, NoAtypes, MoreAtypes, IsAtype, ConAtype, UnitAtype, ListConAtype, ArrowAtype, TupleConAtype, VarAtype, TupleAtype, ListAtype, IsTypes, LastType, MoreTypes}
use Rattle.hs_parts.proofs.NamesComplete.{commas_shorter, more_commas_complete}

-- Each derivation takes at least a token.
mutual
  pub type_shorter : {a b : List Token} {x : TypeTree} → IsType a b x → length b < length a
  type_shorter (LoneType d) = btype_shorter d
  type_shorter (ArrowType {a} {b} {c} {w} d e r) = let h : length (w ∷ b) < length a = btype_shorter d in let k : length c < length b = type_shorter r in omega arith

  pub btype_shorter : {a b : List Token} {x : BtypeTree} → IsBtype a b x → length b < length a
  btype_shorter (AppliedBtype {a} {b} {c} d r) = let h : length b < length a = atype_shorter d in let k : length c ≤ length b = atypes_shorter r in omega arith

  pub atypes_shorter : {a b : List Token} {xs : List AtypeTree} → IsAtypes a b xs → length b ≤ length a
  atypes_shorter NoAtypes = omega arith
  atypes_shorter (MoreAtypes {a} {b} {c} d r) = let h : length b < length a = atype_shorter d in let k : length c ≤ length b = atypes_shorter r in omega arith

  pub atype_shorter : {a b : List Token} {x : AtypeTree} → IsAtype a b x → length b < length a
  atype_shorter (ConAtype e) = omega arith
  atype_shorter (UnitAtype e f) = omega arith
  atype_shorter (ListConAtype e f) = omega arith
  atype_shorter (ArrowAtype e f g) = omega arith
  atype_shorter (TupleConAtype {a} {b} {o} {c} e x f) = let h : length (c ∷ b) < length a = commas_shorter x in omega arith
  atype_shorter (VarAtype e) = omega arith
  atype_shorter (TupleAtype {a} {b} {o} {c} e d f) = let h : length (c ∷ b) < length a = types_shorter d in omega arith
  atype_shorter (ListAtype {a} {b} {o} {c} e d f) = let h : length (c ∷ b) < length a = type_shorter d in omega arith

  pub types_shorter : {a b : List Token} {xs : List TypeTree} → IsTypes a b xs → length b < length a
  types_shorter (LastType d) = type_shorter d
  types_shorter (MoreTypes {a} {b} {c} {m} d e r) = let h : length (m ∷ b) < length a = type_shorter d in let k : length c < length b = types_shorter r in omega arith

-- what a type begins with
pub atype_start : {a b : List Token} {x : AtypeTree} → IsAtype a b x → begins begins_atype a ≡ true
atype_start (ConAtype {t = t} e) = con_start (sign_of t) e
  where
    con_start : (k : Sign) → is_qconid k ≡ true → begins_atype k ≡ true
    con_start Con e = refl
    con_start QualifiedCon e = refl
    con_start _ e = cc
atype_start (UnitAtype e f) = ap begins_atype e
atype_start (ListConAtype e f) = ap begins_atype e
atype_start (ArrowAtype e f g) = ap begins_atype e
atype_start (TupleConAtype e x f) = ap begins_atype e
atype_start (VarAtype e) = ap begins_atype e
atype_start (TupleAtype e d f) = ap begins_atype e
atype_start (ListAtype e d f) = ap begins_atype e

pub btype_start : {a b : List Token} {x : BtypeTree} → IsBtype a b x → begins begins_atype a ≡ true
btype_start (AppliedBtype d r) = atype_start d

pub type_start : {a b : List Token} {x : TypeTree} → IsType a b x → begins begins_atype a ≡ true
type_start (LoneType d) = btype_start d
type_start (ArrowType d e r) = btype_start d

pub types_start : {a b : List Token} {xs : List TypeTree} → IsTypes a b xs → begins begins_atype a ≡ true
types_start (LastType d) = type_start d
types_start (MoreTypes d e r) = type_start d

-- what a type goes on with; also an opening brace, since a context could go on behind it
abbrev pub type_goes_on : Sign → Bool
type_goes_on Arrow = true
type_goes_on Implies = true
type_goes_on (OpenBrace put) = true
type_goes_on k = begins_atype k

-- no type goes on here
abbrev pub TypeEnds : List Token → Type 0
TypeEnds b = begins type_goes_on b ≡ false

no_atype_by : (k : Sign) → type_goes_on k ≡ false → begins_atype k ≡ false
no_atype_by Arrow e = refl
no_atype_by Implies e = refl
no_atype_by (OpenBrace put) e = refl
no_atype_by k e = e

pub no_atype : (b : List Token) → TypeEnds b → begins begins_atype b ≡ false
no_atype [] e = refl
no_atype (t ∷ b) e = no_atype_by (sign_of t) e

no_arrow_by : (k : Sign) → type_goes_on k ≡ false → is_arrow k ≡ false
no_arrow_by Arrow e = cc
no_arrow_by _ e = refl

pub no_arrow : (b : List Token) → TypeEnds b → begins is_arrow b ≡ false
no_arrow [] e = refl
no_arrow (t ∷ b) e = no_arrow_by (sign_of t) e

pub record CompleteTypes (n : ℕ) (r : TypeReaders) : Type 0 where
  pub ty : {a b : List Token} {x : TypeTree} → IsType a b x → TypeEnds b → 8 * length a + 3 ≤ n → r.ty a ≡ Some (x, b)
  pub btype : {a b : List Token} {x : BtypeTree} → IsBtype a b x → begins begins_atype b ≡ false → 8 * length a + 2 ≤ n → r.btype a ≡ Some (x, b)
  pub atypes : {a b : List Token} {xs : List AtypeTree} → IsAtypes a b xs → begins begins_atype b ≡ false → 8 * length a + 2 ≤ n
      → (ys : List AtypeTree) → r.atypes ys a ≡ Some (ys ++ xs, b)
  pub atype : {a b : List Token} {x : AtypeTree} → IsAtype a b x → 8 * length a + 1 ≤ n → r.atype a ≡ Some (x, b)
  pub types : {a b : List Token} {c : Token} {xs : List TypeTree} → IsTypes a (c ∷ b) xs → sign_of c ≡ CloseParen → 8 * length a + 4 ≤ n
      → (ys : List TypeTree) → r.types ys a ≡ Some (ys ++ xs, c ∷ b)

pub no_sign : {X : Type 0} (p : Sign → Bool) (b : List Token) (f : List Token → Found X) (other : Found X) → begins p b ≡ false → and_behind (behind p b) f other ≡ other
no_sign p [] f other e = refl
no_sign p (t ∷ ts) f other e = ap (λ c. and_behind (cond c (Some ts) None) f other) e

type_complete : (n : ℕ) (r : TypeReaders) → CompleteTypes n r → {a b : List Token} {x : TypeTree} → IsType a b x → TypeEnds b → 8 * length a + 3 ≤ suc n
    → (next_types r).ty a ≡ Some (x, b)
type_complete n r c (LoneType {a = a} {b = b} {x = x} d) ends h =
    let k : 8 * length a + 2 ≤ n = omega arith in
    ap (λ m. and_then m (arrow_at r (place a))) (c.btype d (no_atype b ends) k)
    ∙ no_sign is_arrow b (λ z. and_then (r.ty z) (λ y rest. Some (type_tree (place a) x (Some y), rest))) (Some (type_tree (place a) x None, b)) (no_arrow b ends)
type_complete n r c (ArrowType {a = a} {b = b} {c = z} {w = w} {x = x} {y = y} d e rest) ends h =
    let k : 8 * length a + 2 ≤ n = omega arith in
    let s : length (w ∷ b) < length a = btype_shorter d in
    let m : 8 * length b + 3 ≤ n = omega arith in
    ap (λ q. and_then q (arrow_at r (place a))) (c.btype d (ap begins_atype e) k)
    ∙ (ap (λ q. and_behind (cond (is_arrow q) (Some b) None) (λ u. and_then (r.ty u) (λ v last. let l : Found TypeTree = Some (type_tree (place a) x (Some v), last) in l)) (Some (type_tree (place a) x None, w ∷ b))) e
    ∙ ap (λ q. and_then q (λ v last. let l : Found TypeTree = Some (type_tree (place a) x (Some v), last) in l)) (c.ty rest ends m))

btype_complete : (n : ℕ) (r : TypeReaders) → CompleteTypes n r → {a b : List Token} {x : BtypeTree} → IsBtype a b x → begins begins_atype b ≡ false
    → 8 * length a + 2 ≤ suc n → (next_types r).btype a ≡ Some (x, b)
btype_complete n r c (AppliedBtype {a = a} {b = b} {c = z} {x = x} {xs = xs} d rest) ends h =
    let k : 8 * length a + 1 ≤ n = omega arith in
    let s : length b < length a = atype_shorter d in
    let m : 8 * length b + 2 ≤ n = omega arith in
    ap (λ q. and_then q (λ y last. and_then (r.atypes [] last) (λ ys to. let l : Found BtypeTree = Some (btype_tree (place a) y ys, to) in l))) (c.atype d k)
    ∙ ap (λ q. and_then q (λ ys to. let l : Found BtypeTree = Some (btype_tree (place a) x ys, to) in l)) (c.atypes rest ends m [])

atypes_complete : (n : ℕ) (r : TypeReaders) → CompleteTypes n r → {a b : List Token} {xs : List AtypeTree} → IsAtypes a b xs → begins begins_atype b ≡ false
    → 8 * length a + 2 ≤ suc n → (ys : List AtypeTree) → (next_types r).atypes ys a ≡ Some (ys ++ xs, b)
atypes_complete n r c (NoAtypes {a}) ends h ys = rw ends (ap (λ l. Some (l, a)) (sym (append-nil ys)))
atypes_complete n r c (MoreAtypes {a = a} {b = b} {c = z} {x = x} {xs = xs} d rest) ends h ys =
    let k : 8 * length a + 1 ≤ n = omega arith in
    let s : length b < length a = atype_shorter d in
    let m : 8 * length b + 2 ≤ n = omega arith in
    rw (atype_start d) (rw (c.atype d k) (c.atypes rest ends m (ys ++ x ∷ []) ∙ ap (λ l. Some (l, z)) (append_assoc ys (x ∷ []) xs)))

con_complete : (r : TypeReaders) (t : Token) (a : List Token) (k : Sign) → is_qconid k ≡ true → atype_by r t a k ≡ con_type t a
con_complete r t a Con e = refl
con_complete r t a QualifiedCon e = refl
con_complete r t a _ e = cc

special_commas : (o : Token) {a : List Token} {c : Token} {b : List Token} {k : ℕ} → IsCommas a (c ∷ b) k → sign_of c ≡ CloseParen → special_at o.at a ≡ Some (atype.TupleCon o.at k, b)
special_commas o (LastComma {a = a} {t = t} e) f = ap (special_by o.at t a) e
    ∙ ap (λ m. and_then m (λ n rest. let r : Found AtypeTree = Some (atype.TupleCon o.at n, rest) in r)) (more_commas_complete (LastComma {a = a} {t = t} e) e f)
special_commas o (MoreCommas {a = a} {t = t} e x) f = ap (special_by o.at t a) e
    ∙ ap (λ m. and_then m (λ n rest. let r : Found AtypeTree = Some (atype.TupleCon o.at n, rest) in r)) (more_commas_complete (MoreCommas {t = t} e x) e f)

no_special_by : (at : Pos) (t : Token) (ts : List Token) (k : Sign) → begins_atype k ≡ true → special_by at t ts k ≡ None
no_special_by at t ts CloseParen e = cc
no_special_by at t ts Arrow e = cc
no_special_by at t ts Comma e = cc
no_special_by at t ts _ e = refl

no_special : (at : Pos) (a : List Token) → begins begins_atype a ≡ true → special_at at a ≡ None
no_special at [] e = refl
no_special at (t ∷ ts) e = no_special_by at t ts (sign_of t) e

no_square_by : (k : Sign) → begins_atype k ≡ true → is_close_square k ≡ false
no_square_by CloseSquare e = cc
no_square_by _ e = refl

no_square : (a : List Token) → begins begins_atype a ≡ true → begins is_close_square a ≡ false
no_square [] e = refl
no_square (t ∷ ts) e = no_square_by (sign_of t) e

atype_complete : (n : ℕ) (r : TypeReaders) → CompleteTypes n r → {a b : List Token} {x : AtypeTree} → IsAtype a b x → 8 * length a + 1 ≤ suc n
    → with_first a None (atype_by r) ≡ Some (x, b)
atype_complete n r c (ConAtype {a = a} {t = t} e) h = con_complete r t a (sign_of t) e
atype_complete n r c (UnitAtype {a = a} {o = o} {c = q} e f) h = ap (atype_by r o (q ∷ a)) e
    ∙ ap (λ m. or_else m (and_then (r.types [] (q ∷ a)) (λ xs rest. with_sign (behind is_close_paren rest) (atype.Tuple o.at xs)))) (ap (special_by o.at q a) f)
atype_complete n r c (ListConAtype {a = a} {o = o} {c = q} e f) h = ap (atype_by r o (q ∷ a)) e
    ∙ ap (λ k. and_behind (cond (is_close_square k) (Some a) None) (λ rest. let l : Found AtypeTree = Some (atype.ListCon o.at, rest) in l)
    (and_then (r.ty (q ∷ a)) (λ x rest. with_sign (behind is_close_square rest) (list_type o.at x)))) f
atype_complete n r c (ArrowAtype {a = a} {o = o} {w = w} {c = q} e f g) h = ap (atype_by r o (w ∷ q ∷ a)) e
    ∙ ap (λ m. or_else m (and_then (r.types [] (w ∷ q ∷ a)) (λ xs rest. with_sign (behind is_close_paren rest) (atype.Tuple o.at xs))))
    (ap (special_by o.at w (q ∷ a)) f ∙ ap (λ k. with_sign (cond (is_close_paren k) (Some a) None) (atype.Arrow o.at)) g)
atype_complete n r c (TupleConAtype {a = a} {o = o} e x f) h = ap (atype_by r o a) e
    ∙ ap (λ m. or_else m (and_then (r.types [] a) (λ xs rest. with_sign (behind is_close_paren rest) (atype.Tuple o.at xs)))) (special_commas o x f)
atype_complete n r c (VarAtype {a = a} {t = t} e) h = ap (atype_by r t a) e
atype_complete n r c (TupleAtype {a = a} {b = b} {o = o} {c = q} {xs = xs} e d f) h =
    let k : 8 * length a + 4 ≤ n = omega arith in
    ap (atype_by r o a) e
    ∙ (ap (λ m. or_else m (and_then (r.types [] a) (λ ys rest. with_sign (behind is_close_paren rest) (atype.Tuple o.at ys)))) (no_special o.at a (types_start d))
    ∙ (ap (λ m. and_then m (λ ys rest. with_sign (behind is_close_paren rest) (atype.Tuple o.at ys))) (c.types d f k [])
    ∙ ap (λ s. with_sign (cond (is_close_paren s) (Some b) None) (atype.Tuple o.at xs)) f))
atype_complete n r c (ListAtype {a = a} {b = b} {o = o} {c = q} {x = x} e d f) h =
    let k : 8 * length a + 3 ≤ n = omega arith in
    ap (atype_by r o a) e
    ∙ (no_sign is_close_square a (λ rest. Some (atype.ListCon o.at, rest)) (and_then (r.ty a) (λ y rest. with_sign (behind is_close_square rest) (list_type o.at y))) (no_square a (type_start d))
    ∙ (ap (λ m. and_then m (λ y rest. with_sign (behind is_close_square rest) (list_type o.at y))) (c.ty d (ap type_goes_on f) k)
    ∙ ap (λ s. with_sign (cond (is_close_square s) (Some b) None) (list_type o.at x)) f))

types_complete : (n : ℕ) (r : TypeReaders) → CompleteTypes n r → {a b : List Token} {q : Token} {xs : List TypeTree} → IsTypes a (q ∷ b) xs → sign_of q ≡ CloseParen
    → 8 * length a + 4 ≤ suc n → (ys : List TypeTree) → (next_types r).types ys a ≡ Some (ys ++ xs, q ∷ b)
types_complete n r c {b = b} {q = q} (LastType {a = a} {x = x} d) f h ys =
    let k : 8 * length a + 3 ≤ n = omega arith in
    ap (λ m. and_then m (λ y rest. and_behind (behind is_comma rest) (r.types (ys ++ y ∷ [])) (Some (ys ++ y ∷ [], rest)))) (c.ty d (ap type_goes_on f) k)
    ∙ ap (λ s. and_behind (cond (is_comma s) (Some b) None) (r.types (ys ++ x ∷ [])) (Some (ys ++ x ∷ [], q ∷ b))) f
types_complete n r c {b = z} {q = q} (MoreTypes {a = a} {b = b} {m = m} {x = x} {xs = xs} d e rest) f h ys =
    let k : 8 * length a + 3 ≤ n = omega arith in
    let s : length (m ∷ b) < length a = type_shorter d in
    let l : 8 * length b + 4 ≤ n = omega arith in
    ap (λ p. and_then p (λ y to. and_behind (behind is_comma to) (r.types (ys ++ y ∷ [])) (Some (ys ++ y ∷ [], to)))) (c.ty d (ap type_goes_on e) k)
    ∙ (ap (λ s. and_behind (cond (is_comma s) (Some b) None) (r.types (ys ++ x ∷ [])) (Some (ys ++ x ∷ [], m ∷ b))) e
    ∙ (c.types rest f l (ys ++ x ∷ []) ∙ ap (λ p. Some (p, q ∷ z)) (append_assoc ys (x ∷ []) xs)))

next_types_complete : (n : ℕ) (r : TypeReaders) → CompleteTypes n r → CompleteTypes (suc n) (next_types r)
next_types_complete n r c = record {
  ty = type_complete n r c;
  btype = btype_complete n r c;
  atypes = atypes_complete n r c;
  atype = atype_complete n r c;
  types = types_complete n r c;
}

pub types_are_complete : (n : ℕ) → CompleteTypes n (type_readers n)
unfolding type_readers
types_are_complete zero = record {
  ty = λ d ends h. absurd (let x : ⊥ = omega arith in x);
  btype = λ d ends h. absurd (let x : ⊥ = omega arith in x);
  atypes = λ d ends h ys. absurd (let x : ⊥ = omega arith in x);
  atype = λ d h. absurd (let x : ⊥ = omega arith in x);
  types = λ d f h ys. absurd (let x : ⊥ = omega arith in x);
}
types_are_complete (suc n) = next_types_complete n (type_readers n) (types_are_complete n)

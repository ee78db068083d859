-- What is read as a type or a context is derived as one.
use Rattle.std.proofs.Common.{◌≡◌, ℕ, suc, zero, Bool, true, false, cond, List, [], ◌∷◌, ◌++◌, Some, None, refl, sym, ap, ◌∙◌, append_assoc, subst}
use Rattle.std.proofs.lemmas.List.{append-nil}
use Rattle.std.specs.declared.option.Option.{Option}
use Rattle.mk_base.specs.declared.place.Pos.{Pos}
use Rattle.hs_syntax.specs.declared.token.Token.{Token}
use Rattle.hs_syntax.specs.declared.sign.Sign.{Sign}
use Rattle.hs_syntax.specs.declared.sign.Sign.TheVariants.{Var, Con, QualifiedCon, OpenParen, CloseParen, OpenSquare, CloseSquare, Comma, Arrow, Implies}
use Rattle.hs_syntax.specs.declared.type_tree.TypeTree.{TypeTree}
use Rattle.hs_syntax.specs.declared.type_tree.BtypeTree.{BtypeTree}
use Rattle.hs_syntax.specs.declared.type_tree.AtypeTree.{AtypeTree}
use Rattle.hs_syntax.specs.declared.type_tree.AtypeTree.TheVariants as atype
use Rattle.hs_syntax.specs.Signs.{sign_of}
use Rattle.hs_syntax.specs.Reading.{Found, and_then, or_else, with_first, begins, behind, and_behind, with_sign, is_comma, is_close_paren, is_close_square, is_arrow}
use Rattle.hs_syntax.specs.Made.{type_tree, btype_tree}
use Rattle.hs_syntax.proofs.Sound.{Sound, sound_then, sound_as, sound_or, sound_behind, sound_sign}
use Rattle.hs_parts.specs.Names.{place, is_qconid}
use Rattle.hs_parts.specs.NameReaders.{more_commas}
use Rattle.hs_parts.specs.TypeReaders.{TypeReaders, type_readers, no_types, next_types, begins_atype, arrow_at, special_by, special_at, paren_type, list_type, square_type, con_type, var_type, atype_by}
use Rattle.hs_parts.specs.Grammar.{IsType, LoneType, ArrowType, IsBtype, AppliedBtype, IsAtypes, NoAtypes, MoreAtypes, IsAtype, ConAtype, UnitAtype, ListConAtype, ArrowAtype, TupleConAtype, VarAtype, TupleAtype, ListAtype, IsTypes, LastType, MoreTypes}
use Rattle.hs_parts.proofs.NamesSound.{comma_of, close_paren_of, close_square_of, Commas, more_commas_sound}

pub arrow_of : (k : Sign) → is_arrow k ≡ true → k ≡ Arrow
arrow_of Arrow e = refl
arrow_of _ e = cc

-- what is read behind these
abbrev pub Atypes : List AtypeTree → List Token → List Token → List AtypeTree → Type 0
Atypes xs ts to ys = (zs : List AtypeTree) × (ys ≡ xs ++ zs) × IsAtypes ts to zs

abbrev pub Types : List TypeTree → List Token → List Token → List TypeTree → Type 0
Types xs ts to ys = (zs : List TypeTree) × (ys ≡ xs ++ zs) × IsTypes ts to zs

pub record SoundTypes (r : TypeReaders) : Type 0 where
  pub ty : (ts : List Token) → Sound (IsType ts) (r.ty ts)
  pub btype : (ts : List Token) → Sound (IsBtype ts) (r.btype ts)
  pub atypes : (xs : List AtypeTree) (ts : List Token) → Sound (Atypes xs ts) (r.atypes xs ts)
  pub atype : (ts : List Token) → Sound (IsAtype ts) (r.atype ts)
  pub types : (xs : List TypeTree) (ts : List Token) → Sound (Types xs ts) (r.types xs ts)

arrow_sound : (r : TypeReaders) → SoundTypes r → (a b : List Token) (x : BtypeTree) → IsBtype a b x → Sound (IsType a) (arrow_at r (place a) x b)
arrow_sound r s a b x d = sound_behind is_arrow (IsType a) b (λ c. and_then (r.ty c) (λ y rest. Some (type_tree (place a) x (Some y), rest))) (Some (type_tree (place a) x None, b))
    (λ w c e f. sound_then (IsType c) (IsType a) (r.ty c) (λ y rest. Some (type_tree (place a) x (Some y), rest)) (s.ty c)
    (λ y rest g. ArrowType (subst (λ z. IsBtype a z x) e d) (arrow_of (sign_of w) f) g))
    (LoneType d)

special_by_sound : (o : Token) → sign_of o ≡ OpenParen → (t : Token) (ts : List Token) (k : Sign) → sign_of t ≡ k → Sound (IsAtype (o ∷ t ∷ ts)) (special_by o.at t ts k)
special_by_sound o e t ts CloseParen f = UnitAtype e f
special_by_sound o e t ts Arrow f = sound_sign is_close_paren (IsAtype (o ∷ t ∷ ts)) ts (atype.Arrow o.at)
    (λ c to g h. subst (λ z. IsAtype (o ∷ t ∷ z) to (atype.Arrow o.at)) (sym g) (ArrowAtype e f (close_paren_of (sign_of c) h)))
special_by_sound o e t ts Comma f = sound_then (Commas t ts) (IsAtype (o ∷ t ∷ ts)) (more_commas ts) (λ n rest. Some (atype.TupleCon o.at n, rest)) (more_commas_sound t f ts)
    (λ n rest c. TupleConAtype e c.1 c.2)
special_by_sound o e t ts _ f = tt

special_sound : (o : Token) → sign_of o ≡ OpenParen → (ts : List Token) → Sound (IsAtype (o ∷ ts)) (special_at o.at ts)
special_sound o e [] = tt
special_sound o e (t ∷ ts) = special_by_sound o e t ts (sign_of t) refl

tuple_closes : (o : Token) (ts : List Token) → sign_of o ≡ OpenParen → (xs : List TypeTree) (b : List Token) → Types [] ts b xs
    → Sound (IsAtype (o ∷ ts)) (with_sign (behind is_close_paren b) (atype.Tuple o.at xs))
tuple_closes o ts e xs b d = sound_sign is_close_paren (IsAtype (o ∷ ts)) b (atype.Tuple o.at xs)
    (λ c to g h. subst (λ ys. IsAtype (o ∷ ts) to (atype.Tuple o.at ys)) (sym d.1) (TupleAtype e (subst (λ z. IsTypes ts z d.0) g d.2) (close_paren_of (sign_of c) h)))

paren_sound : (r : TypeReaders) → SoundTypes r → (o : Token) (ts : List Token) → sign_of o ≡ OpenParen → Sound (IsAtype (o ∷ ts)) (paren_type r o.at ts)
paren_sound r s o ts e = sound_or (IsAtype (o ∷ ts)) (special_at o.at ts) (and_then (r.types [] ts) (λ xs rest. with_sign (behind is_close_paren rest) (atype.Tuple o.at xs)))
    (special_sound o e ts)
    (sound_then (Types [] ts) (IsAtype (o ∷ ts)) (r.types [] ts) (λ xs rest. with_sign (behind is_close_paren rest) (atype.Tuple o.at xs)) (s.types [] ts) (λ xs b d. tuple_closes o ts e xs b d))

list_closes : (o : Token) (ts : List Token) → sign_of o ≡ OpenSquare → (x : TypeTree) (b : List Token) → IsType ts b x
    → Sound (IsAtype (o ∷ ts)) (with_sign (behind is_close_square b) (list_type o.at x))
list_closes o ts e x b d = sound_sign is_close_square (IsAtype (o ∷ ts)) b (list_type o.at x)
    (λ c to g h. ListAtype e (subst (λ z. IsType ts z x) g d) (close_square_of (sign_of c) h))

square_sound : (r : TypeReaders) → SoundTypes r → (o : Token) (ts : List Token) → sign_of o ≡ OpenSquare → Sound (IsAtype (o ∷ ts)) (square_type r o.at ts)
square_sound r s o ts e = sound_behind is_close_square (IsAtype (o ∷ ts)) ts (λ rest. Some (atype.ListCon o.at, rest))
    (and_then (r.ty ts) (λ x rest. with_sign (behind is_close_square rest) (list_type o.at x)))
    (λ c to g h. subst (λ z. IsAtype (o ∷ z) to (atype.ListCon o.at)) (sym g) (ListConAtype e (close_square_of (sign_of c) h)))
    (sound_then (IsType ts) (IsAtype (o ∷ ts)) (r.ty ts) (λ x rest. with_sign (behind is_close_square rest) (list_type o.at x)) (s.ty ts) (λ x b d. list_closes o ts e x b d))

atype_by_sound : (r : TypeReaders) → SoundTypes r → (t : Token) (ts : List Token) (k : Sign) → sign_of t ≡ k → Sound (IsAtype (t ∷ ts)) (atype_by r t ts k)
atype_by_sound r s t ts Con e = ConAtype (ap is_qconid e)
atype_by_sound r s t ts QualifiedCon e = ConAtype (ap is_qconid e)
atype_by_sound r s t ts Var e = VarAtype e
atype_by_sound r s t ts OpenParen e = paren_sound r s t ts e
atype_by_sound r s t ts OpenSquare e = square_sound r s t ts e
atype_by_sound r s t ts _ e = tt

atype_sound : (r : TypeReaders) → SoundTypes r → (ts : List Token) → Sound (IsAtype ts) (with_first ts None (atype_by r))
atype_sound r s [] = tt
atype_sound r s (t ∷ ts) = atype_by_sound r s t ts (sign_of t) refl

btype_sound : (r : TypeReaders) → SoundTypes r → (ts b : List Token) (x : AtypeTree) → IsAtype ts b x
    → Sound (IsBtype ts) (and_then (r.atypes [] b) (λ xs last. Some (btype_tree (place ts) x xs, last)))
btype_sound r s ts b x d = sound_then (Atypes [] b) (IsBtype ts) (r.atypes [] b) (λ xs last. Some (btype_tree (place ts) x xs, last)) (s.atypes [] b)
    (λ xs last c. subst (λ ys. IsBtype ts last (btype_tree (place ts) x ys)) (sym c.1) (AppliedBtype d c.2))

atypes_sound : (r : TypeReaders) → SoundTypes r → (xs : List AtypeTree) (ts : List Token) (b : Bool)
    → Sound (Atypes xs ts) (cond b (and_then (r.atype ts) (λ x rest. r.atypes (xs ++ x ∷ []) rest)) (Some (xs, ts)))
atypes_sound r s xs ts true = sound_then (IsAtype ts) (Atypes xs ts) (r.atype ts) (λ x rest. r.atypes (xs ++ x ∷ []) rest) (s.atype ts)
    (λ x rest d. sound_as (Atypes (xs ++ x ∷ []) rest) (Atypes xs ts) (r.atypes (xs ++ x ∷ []) rest) (s.atypes (xs ++ x ∷ []) rest)
    (λ to ys c. (x ∷ c.0, c.1 ∙ append_assoc xs (x ∷ []) c.0, MoreAtypes d c.2)))
atypes_sound r s xs ts false = ([], sym (append-nil xs), NoAtypes)

types_sound : (r : TypeReaders) → SoundTypes r → (xs : List TypeTree) (ts b : List Token) (x : TypeTree) → IsType ts b x
    → Sound (Types xs ts) (and_behind (behind is_comma b) (r.types (xs ++ x ∷ [])) (Some (xs ++ x ∷ [], b)))
types_sound r s xs ts b x d = sound_behind is_comma (Types xs ts) b (r.types (xs ++ x ∷ [])) (Some (xs ++ x ∷ [], b))
    (λ m rest e f. sound_as (Types (xs ++ x ∷ []) rest) (Types xs ts) (r.types (xs ++ x ∷ []) rest) (s.types (xs ++ x ∷ []) rest)
    (λ to ys c. (x ∷ c.0, c.1 ∙ append_assoc xs (x ∷ []) c.0, MoreTypes (subst (λ z. IsType ts z x) e d) (comma_of (sign_of m) f) c.2)))
    (x ∷ [], refl, LastType d)

next_types_sound : (r : TypeReaders) → SoundTypes r → SoundTypes (next_types r)
next_types_sound r s = record {
  ty = λ ts. sound_then (IsBtype ts) (IsType ts) (r.btype ts) (arrow_at r (place ts)) (s.btype ts) (λ x rest d. arrow_sound r s ts rest x d);
  btype = λ ts. sound_then (IsAtype ts) (IsBtype ts) (r.atype ts) (λ x rest. and_then (r.atypes [] rest) (λ xs last. Some (btype_tree (place ts) x xs, last))) (s.atype ts)
      (λ x rest d. btype_sound r s ts rest x d);
  atypes = λ xs ts. atypes_sound r s xs ts (begins begins_atype ts);
  atype = atype_sound r s;
  types = λ xs ts. sound_then (IsType ts) (Types xs ts) (r.ty ts) (λ x rest. and_behind (behind is_comma rest) (r.types (xs ++ x ∷ [])) (Some (xs ++ x ∷ [], rest))) (s.ty ts)
      (λ x rest d. types_sound r s xs ts rest x d);
}

pub types_are_sound : (n : ℕ) → SoundTypes (type_readers n)
unfolding type_readers
types_are_sound zero = record { ty = λ ts. tt; btype = λ ts. tt; atypes = λ xs ts. tt; atype = λ ts. tt; types = λ xs ts. tt }
types_are_sound (suc n) = next_types_sound (type_readers n) (types_are_sound n)

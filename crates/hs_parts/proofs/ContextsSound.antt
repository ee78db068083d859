-- What is read as a context, as a type behind it, or as a type in front of an arrow is derived as one.
use Rattle.std.proofs.Common.{◌≡◌, ℕ, suc, zero, Bool, true, false, cond, List, [], ◌∷◌, ◌++◌, Some, None, refl, sym, ap, ◌∙◌, append_assoc, subst}
use Rattle.std.specs.declared.option.Option.{Option}
use Rattle.mk_base.specs.declared.place.Pos.{Pos}
use Rattle.hs_syntax.specs.declared.token.Token.{Token}
use Rattle.hs_syntax.specs.declared.sign.Sign.{Sign}
use Rattle.hs_syntax.specs.declared.sign.Sign.TheVariants.{Var, Con, QualifiedCon, OpenParen, CloseParen, Comma, Arrow, Implies}
use Rattle.hs_syntax.specs.declared.name_ref.NameRef.{NameRef}
use Rattle.hs_syntax.specs.declared.type_tree.TypeTree.{TypeTree}
use Rattle.hs_syntax.specs.declared.type_tree.BtypeTree.{BtypeTree}
use Rattle.hs_syntax.specs.declared.type_tree.AtypeTree.{AtypeTree}
use Rattle.hs_syntax.specs.declared.type_tree.ClassTree.{ClassTree}
use Rattle.hs_syntax.specs.declared.type_tree.ClassTree.TheVariants as class
use Rattle.hs_syntax.specs.declared.type_tree.ContextTree.{ContextTree}
use Rattle.hs_syntax.specs.declared.type_tree.ContextTree.TheVariants as context
use Rattle.hs_syntax.specs.declared.type_tree.QualifiedType.{QualifiedType}
use Rattle.hs_syntax.specs.Signs.{sign_of}
use Rattle.hs_syntax.specs.Names.{name_ref}
use Rattle.hs_syntax.specs.Reading.{Found, and_then, or_else_by, with_first, begins, behind, and_behind, with_sign, is_comma, is_close_paren, is_arrow, is_implies}
use Rattle.hs_syntax.specs.Made.{type_tree}
use Rattle.hs_syntax.proofs.Sound.{Sound, sound_then, sound_as, sound_or_by, sound_behind, sound_sign}
use Rattle.hs_parts.specs.Names.{place, is_qconid}
use Rattle.hs_parts.specs.TypeReaders.{type_readers, begins_atype, type_before, next_tail, type_tail, some_atypes, class_args, applied_by, applied_class, class_of_by, class_of, class_by, class_at, classes_at, listed_at, context_by, context_at, context_before, qualified, typed_by, qualified_by, qualified_at, qualified_tail}
use Rattle.hs_parts.specs.Grammar.{IsType, LoneType, ArrowType, IsBtype, IsAtypes, NoAtypes, MoreAtypes, IsAtype, IsClass, VarClass, AppliedClass, IsClasses, LastClass, MoreClasses, IsContext, OneContext, EmptyContext, ListedContext, IsQualified, PlainQualified, ContextQualified}
use Rattle.hs_parts.proofs.NamesSound.{comma_of, close_paren_of}
use Rattle.hs_parts.proofs.TypesSound.{Atypes, SoundTypes, types_are_sound, arrow_of}

implies_of : (k : Sign) → is_implies k ≡ true → k ≡ Implies
implies_of Implies e = refl
implies_of _ e = cc

-- one atype or more
abbrev pub SomeAtypes : List Token → List Token → List AtypeTree → Type 0
SomeAtypes ts to ys = (x : AtypeTree) × (xs : List AtypeTree) × (ys ≡ x ∷ xs) × IsAtypes ts to (x ∷ xs)

none_if : {X : Type 0} (P : List Token → X → Type 0) (b : Bool) → Sound P (cond b (let m : Found X = None in m) None)
none_if P true = tt
none_if P false = tt

atypes_if : (n : ℕ) (ts : List Token) (b : Bool)
    → Sound (SomeAtypes ts) (cond b (cond b (and_then ((type_readers n).atype ts) (λ x rest. (type_readers n).atypes ([] ++ x ∷ []) rest)) (Some ([], ts))) None)
atypes_if n ts true = sound_then (IsAtype ts) (SomeAtypes ts) ((type_readers n).atype ts) (λ x rest. (type_readers n).atypes ([] ++ x ∷ []) rest) ((types_are_sound n).atype ts)
    (λ x rest d. sound_as (Atypes ([] ++ x ∷ []) rest) (SomeAtypes ts) ((type_readers n).atypes ([] ++ x ∷ []) rest) ((types_are_sound n).atypes ([] ++ x ∷ []) rest)
    (λ to ys c. (x, c.0, c.1, MoreAtypes d c.2)))
atypes_if n ts false = tt

pub some_atypes_sound : (n : ℕ) (ts : List Token) → Sound (SomeAtypes ts) (some_atypes n ts)
unfolding type_readers
some_atypes_sound zero ts = none_if (SomeAtypes ts) (begins begins_atype ts)
some_atypes_sound (suc n) ts = atypes_if n ts (begins begins_atype ts)

args_close : (t o v : Token) (ts b : List Token) (ys : List AtypeTree) → is_qconid (sign_of t) ≡ true → sign_of o ≡ OpenParen → sign_of v ≡ Var → SomeAtypes ts b ys
    → Sound (IsClass (t ∷ o ∷ v ∷ ts)) (with_sign (behind is_close_paren b) (class.Applied t.at (name_ref t) (name_ref v) ys))
args_close t o v ts b ys e f g d = sound_sign is_close_paren (IsClass (t ∷ o ∷ v ∷ ts)) b (class.Applied t.at (name_ref t) (name_ref v) ys)
    (λ c to h k. subst (λ zs. IsClass (t ∷ o ∷ v ∷ ts) to (class.Applied t.at (name_ref t) (name_ref v) zs)) (sym d.2)
    (AppliedClass e f g (subst (λ z. IsAtypes ts z (d.0 ∷ d.1)) h d.3) (close_paren_of (sign_of c) k)))

applied_by_sound : (n : ℕ) (t o : Token) → is_qconid (sign_of t) ≡ true → sign_of o ≡ OpenParen → (v : Token) (ts : List Token) (k : Sign) → sign_of v ≡ k
    → Sound (IsClass (t ∷ o ∷ v ∷ ts)) (applied_by n t.at (name_ref t) v ts k)
applied_by_sound n t o e f v ts Var g = sound_then (SomeAtypes ts) (IsClass (t ∷ o ∷ v ∷ ts)) (some_atypes n ts)
    (λ xs rest. with_sign (behind is_close_paren rest) (class.Applied t.at (name_ref t) (name_ref v) xs)) (some_atypes_sound n ts) (λ xs rest d. args_close t o v ts rest xs e f g d)
applied_by_sound n t o e f v ts _ g = tt

applied_sound : (n : ℕ) (t o : Token) → is_qconid (sign_of t) ≡ true → sign_of o ≡ OpenParen → (ts : List Token) → Sound (IsClass (t ∷ o ∷ ts)) (applied_class n t.at (name_ref t) ts)
applied_sound n t o e f [] = tt
applied_sound n t o e f (v ∷ ts) = applied_by_sound n t o e f v ts (sign_of v) refl

class_of_by_sound : (n : ℕ) (t : Token) → is_qconid (sign_of t) ≡ true → (v : Token) (ts : List Token) (k : Sign) → sign_of v ≡ k → Sound (IsClass (t ∷ v ∷ ts)) (class_of_by n t v ts k)
class_of_by_sound n t e v ts Var f = VarClass e f
class_of_by_sound n t e v ts OpenParen f = applied_sound n t v e f ts
class_of_by_sound n t e v ts _ f = tt

class_of_sound : (n : ℕ) (t : Token) → is_qconid (sign_of t) ≡ true → (ts : List Token) → Sound (IsClass (t ∷ ts)) (class_of n t ts)
class_of_sound n t e [] = tt
class_of_sound n t e (v ∷ ts) = class_of_by_sound n t e v ts (sign_of v) refl

class_by_sound : (n : ℕ) (t : Token) (ts : List Token) (k : Sign) → sign_of t ≡ k → Sound (IsClass (t ∷ ts)) (class_by n t ts k)
class_by_sound n t ts Con e = class_of_sound n t (ap is_qconid e) ts
class_by_sound n t ts QualifiedCon e = class_of_sound n t (ap is_qconid e) ts
class_by_sound n t ts _ e = tt

pub class_sound : (n : ℕ) (ts : List Token) → Sound (IsClass ts) (class_at n ts)
class_sound n [] = tt
class_sound n (t ∷ ts) = class_by_sound n t ts (sign_of t) refl

abbrev Classes : List ClassTree → List Token → List Token → List ClassTree → Type 0
Classes xs ts to ys = (zs : List ClassTree) × (ys ≡ xs ++ zs) × IsClasses ts to zs

classes_sound : (n : ℕ) (xs : List ClassTree) (ts : List Token) → Sound (Classes xs ts) (classes_at n xs ts)
unfolding classes_at
classes_sound zero xs ts = tt
classes_sound (suc n) xs ts = sound_then (IsClass ts) (Classes xs ts) (class_at n ts) (λ x rest. and_behind (behind is_comma rest) (classes_at n (xs ++ x ∷ [])) (Some (xs ++ x ∷ [], rest)))
    (class_sound n ts)
    (λ x b d. sound_behind is_comma (Classes xs ts) b (classes_at n (xs ++ x ∷ [])) (Some (xs ++ x ∷ [], b))
    (λ m rest e f. sound_as (Classes (xs ++ x ∷ []) rest) (Classes xs ts) (classes_at n (xs ++ x ∷ []) rest) (classes_sound n (xs ++ x ∷ []) rest)
    (λ to ys c. (x ∷ c.0, c.1 ∙ append_assoc xs (x ∷ []) c.0, MoreClasses (subst (λ z. IsClass ts z x) e d) (comma_of (sign_of m) f) c.2)))
    (x ∷ [], refl, LastClass d))

listed_closes : (o : Token) (ts : List Token) → sign_of o ≡ OpenParen → (xs : List ClassTree) (b : List Token) → Classes [] ts b xs
    → Sound (IsContext (o ∷ ts)) (with_sign (behind is_close_paren b) (context.Listed o.at xs))
listed_closes o ts e xs b d = sound_sign is_close_paren (IsContext (o ∷ ts)) b (context.Listed o.at xs)
    (λ c to g h. subst (λ ys. IsContext (o ∷ ts) to (context.Listed o.at ys)) (sym d.1) (ListedContext e (subst (λ z. IsClasses ts z d.0) g d.2) (close_paren_of (sign_of c) h)))

listed_sound : (n : ℕ) (o : Token) (ts : List Token) → sign_of o ≡ OpenParen → Sound (IsContext (o ∷ ts)) (listed_at n o.at ts)
listed_sound n o ts e = sound_behind is_close_paren (IsContext (o ∷ ts)) ts (λ rest. Some (context.Listed o.at [], rest))
    (and_then (classes_at n [] ts) (λ xs rest. with_sign (behind is_close_paren rest) (context.Listed o.at xs)))
    (λ c to g h. subst (λ z. IsContext (o ∷ z) to (context.Listed o.at [])) (sym g) (EmptyContext e (close_paren_of (sign_of c) h)))
    (sound_then (Classes [] ts) (IsContext (o ∷ ts)) (classes_at n [] ts) (λ xs rest. with_sign (behind is_close_paren rest) (context.Listed o.at xs)) (classes_sound n [] ts)
    (λ xs b d. listed_closes o ts e xs b d))

context_by_sound : (n : ℕ) (t : Token) (ts : List Token) (k : Sign) → sign_of t ≡ k → Sound (IsContext (t ∷ ts)) (context_by n t ts k)
context_by_sound n t ts OpenParen e = listed_sound n t ts e
context_by_sound n t ts _ e = sound_then (IsClass (t ∷ ts)) (IsContext (t ∷ ts)) (class_at n (t ∷ ts)) (λ x rest. Some (context.One t.at x, rest)) (class_sound n (t ∷ ts)) (λ x rest d. OneContext d)

pub context_sound : (n : ℕ) (ts : List Token) → Sound (IsContext ts) (context_at n ts)
context_sound n [] = tt
context_sound n (t ∷ ts) = context_by_sound n t ts (sign_of t) refl

-- a context and the => behind it
abbrev pub ContextBefore : List Token → List Token → ContextTree → Type 0
ContextBefore ts to k = (w : Token) × IsContext ts (w ∷ to) k × (sign_of w ≡ Implies)

pub context_before_sound : (n : ℕ) (ts : List Token) → Sound (ContextBefore ts) (context_before n ts)
context_before_sound n ts = sound_then (IsContext ts) (ContextBefore ts) (context_at n ts) (λ k rest. with_sign (behind is_implies rest) k) (context_sound n ts)
    (λ k rest d. sound_sign is_implies (ContextBefore ts) rest k (λ w to e f. (w, subst (λ z. IsContext ts z k) e d, implies_of (sign_of w) f)))

-- a type that is read behind its context, or alone
qualified_by_sound : (n : ℕ) (ty : List Token → Found TypeTree) → ((ts : List Token) → Sound (IsType ts) (ty ts)) → (ts : List Token) → Sound (IsQualified ts) (qualified_by n ty ts)
qualified_by_sound n ty s ts = sound_or_by (ContextBefore ts) (IsQualified ts) (context_before n ts) (λ k rest. typed_by (place ts) (Some k) (ty rest)) (typed_by (place ts) None (ty ts))
    (context_before_sound n ts)
    (λ k rest c. sound_then (IsType rest) (IsQualified ts) (ty rest) (λ x last. Some (qualified (place ts) (Some k) x, last)) (s rest) (λ x last d. ContextQualified c.1 c.2 d))
    (sound_then (IsType ts) (IsQualified ts) (ty ts) (λ x rest. Some (qualified (place ts) None x, rest)) (s ts) (λ x rest d. PlainQualified d))

pub qualified_sound : (n : ℕ) (ts : List Token) → Sound (IsQualified ts) (qualified_at n ts)
qualified_sound n ts = qualified_by_sound n (type_readers n).ty (types_are_sound n).ty ts

-- a type in front of an arrow

before_if : (a b : List Token) (x : BtypeTree) → IsBtype a b x → (w : Token) (c : List Token) → b ≡ w ∷ c → sign_of w ≡ Arrow → (y : TypeTree) (rest : List Token) → IsType c rest y
    → (s : Bool) → Sound (IsType a) (cond s (Some (type_tree (place a) x (Some y), rest)) (Some (type_tree (place a) x None, b)))
before_if a b x d w c e f y rest g true = ArrowType (subst (λ z. IsBtype a z x) e d) f g
before_if a b x d w c e f y rest g false = LoneType d

pub tail_sound : (n : ℕ) (ts : List Token) → Sound (IsType ts) (type_tail n ts)
unfolding type_tail
tail_sound zero ts = tt
tail_sound (suc n) ts = sound_then (IsBtype ts) (IsType ts) ((type_readers n).btype ts) (λ x b.
    and_behind (behind is_arrow b) (λ c. or_else_by (type_tail n c) (type_before (place ts) x b) (Some (type_tree (place ts) x None, b))) (Some (type_tree (place ts) x None, b)))
    ((types_are_sound n).btype ts)
    (λ x b d. sound_behind is_arrow (IsType ts) b (λ c. or_else_by (type_tail n c) (type_before (place ts) x b) (Some (type_tree (place ts) x None, b))) (Some (type_tree (place ts) x None, b))
    (λ w c e f. sound_or_by (IsType c) (IsType ts) (type_tail n c) (type_before (place ts) x b) (Some (type_tree (place ts) x None, b)) (tail_sound n c)
    (λ y rest g. before_if ts b x d w c e (arrow_of (sign_of w) f) y rest g (begins is_arrow rest)) (LoneType d))
    (LoneType d))

pub qualified_tail_sound : (n : ℕ) (ts : List Token) → Sound (IsQualified ts) (qualified_tail n ts)
qualified_tail_sound n ts = qualified_by_sound n (type_tail n) (tail_sound n) ts

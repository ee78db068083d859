-- What is derived as a context, as a type behind it, or as a type in front of an arrow is read as it.
use Rattle.std.proofs.Common.{◌≡◌, ℕ, suc, zero, ◌+◌, ◌*◌, ◌<◌, ◌≤◌, Bool, true, false, cond, List, [], ◌∷◌, ◌++◌, length, Some, None, refl, sym, ap, ◌∙◌, append_assoc, subst, arith}
use Rattle.std.specs.declared.option.Option.{Option}
use Rattle.mk_base.specs.declared.place.Pos.{Pos}
use Rattle.hs_syntax.specs.declared.token.Token.{Token}
use Rattle.hs_syntax.specs.declared.sign.Sign.{Sign}
use Rattle.hs_syntax.specs.declared.sign.Sign.TheVariants.{Var, Con, QualifiedCon, OpenBrace, CloseBrace, OpenParen, CloseParen, OpenSquare, CloseSquare, Comma, Arrow, Implies}
use Rattle.hs_syntax.specs.declared.name_ref.NameRef.{NameRef}
use Rattle.hs_syntax.specs.declared.type_tree.TypeTree.{TypeTree}
use Rattle.hs_syntax.specs.declared.type_tree.BtypeTree.{BtypeTree}
use Rattle.hs_syntax.specs.declared.type_tree.AtypeTree.{AtypeTree}
use Rattle.hs_syntax.specs.declared.type_tree.ClassTree.{ClassTree}
use Rattle.hs_syntax.specs.declared.type_tree.ClassTree.TheVariants as class
use Rattle.hs_syntax.specs.declared.type_tree.ContextTree.{ContextTree}
use Rattle.hs_syntax.specs.declared.type_tree.ContextTree.TheVariants as context
use Rattle.hs_syntax.specs.declared.type_tree.QualifiedType.{QualifiedType}
use Rattle.hs_syntax.specs.Signs.{sign_of}
use Rattle.hs_syntax.specs.Names.{name_ref}
use Rattle.hs_syntax.specs.Reading.{Found, and_then, or_else_by, with_first, begins, behind, and_behind, with_sign, is_comma, is_close_paren, is_arrow, is_implies}
use Rattle.hs_syntax.specs.Made.{type_tree}
use Rattle.hs_syntax.proofs.Sound.{Sound, sound_then, sound_as, none_of}
use Rattle.hs_syntax.proofs.Cut.{cut, stands, ends, is_plain, is_closing}
use Rattle.hs_parts.specs.Names.{place, is_qconid}
use Rattle.hs_parts.specs.TypeReaders.{type_readers, begins_atype, type_before, next_tail, type_tail, some_atypes, class_args, applied_by, applied_class, class_of_by, class_of, class_by, class_at, classes_at, listed_at, context_by, context_at, context_before, qualified, typed_by, qualified_by, qualified_at, qualified_tail}
use Rattle.hs_parts.specs.Grammar.{IsType, LoneType, ArrowType, IsBtype, IsAtypes, NoAtypes, MoreAtypes, IsAtype, IsClass, VarClass, AppliedClass, IsClasses, LastClass, MoreClasses, IsContext, OneContext, EmptyContext, ListedContext, IsQualified, PlainQualified, ContextQualified}
use Rattle.hs_parts.proofs.TypesComplete.{type_shorter, btype_shorter, atypes_shorter, atype_start, TypeEnds, type_goes_on, types_are_complete, no_sign}
use Rattle.hs_parts.proofs.TypesSound.{types_are_sound}
use Rattle.hs_parts.proofs.TypesCut.{NoType, NoBtype, type_cut, btype_cut, context_cut}
use Rattle.hs_parts.proofs.ContextsSound.{ContextBefore, context_before_sound}

-- each takes tokens
pub class_shorter : {a b : List Token} {x : ClassTree} → IsClass a b x → length b < length a
class_shorter (VarClass e f) = omega arith
class_shorter (AppliedClass {a} {b} {t} {o} {v} {c} e f g x h) = let k : length (c ∷ b) ≤ length a = atypes_shorter x in omega arith

pub classes_shorter : {a b : List Token} {xs : List ClassTree} → IsClasses a b xs → length b < length a
classes_shorter (LastClass d) = class_shorter d
classes_shorter (MoreClasses {a} {b} {c} {m} d e r) = let h : length (m ∷ b) < length a = class_shorter d in let k : length c < length b = classes_shorter r in omega arith

pub context_shorter : {a b : List Token} {k : ContextTree} → IsContext a b k → length b < length a
context_shorter (OneContext d) = class_shorter d
context_shorter (EmptyContext e f) = omega arith
context_shorter (ListedContext {a} {b} {o} {c} e d f) = let h : length (c ∷ b) < length a = classes_shorter d in omega arith

pub qualified_shorter : {a b : List Token} {q : QualifiedType} → IsQualified a b q → length b < length a
qualified_shorter (PlainQualified d) = type_shorter d
qualified_shorter (ContextQualified {a} {b} {c} {w} d e r) = let h : length (w ∷ b) < length a = context_shorter d in let k : length c < length b = type_shorter r in omega arith

pub some_atypes_complete : (n : ℕ) {a b : List Token} {x : AtypeTree} {xs : List AtypeTree} → IsAtypes a b (x ∷ xs) → begins begins_atype b ≡ false → 8 * length a + 2 ≤ n
    → some_atypes n a ≡ Some (x ∷ xs, b)
some_atypes_complete n {a = a} {b = b} (MoreAtypes x y) ends h = ap (λ c. cond c ((type_readers n).atypes [] a) None) (atype_start x) ∙ (types_are_complete n).atypes (MoreAtypes x y) ends h []

qconid_class : (n : ℕ) (t : Token) (a : List Token) (k : Sign) → is_qconid k ≡ true → class_by n t a k ≡ class_of n t a
qconid_class n t a Con e = refl
qconid_class n t a QualifiedCon e = refl
qconid_class n t a _ e = cc

pub class_complete : (n : ℕ) {a b : List Token} {x : ClassTree} → IsClass a b x → 8 * length a + 2 ≤ n → class_at n a ≡ Some (x, b)
class_complete n (VarClass {a = a} {t = t} {v = v} e f) h = qconid_class n t (v ∷ a) (sign_of t) e ∙ ap (class_of_by n t v a) f
class_complete n (AppliedClass {a = a} {b = b} {t = t} {o = o} {v = v} {c = c} {x = x} {xs = xs} e f g d i) h =
    let k : 8 * length a + 2 ≤ n = omega arith in
    qconid_class n t (o ∷ v ∷ a) (sign_of t) e
    ∙ (ap (class_of_by n t o (v ∷ a)) f
    ∙ (ap (applied_by n t.at (name_ref t) v a) g
    ∙ (ap (λ m. and_then m (λ ys rest. with_sign (behind is_close_paren rest) (class.Applied t.at (name_ref t) (name_ref v) ys))) (some_atypes_complete n d (ap begins_atype i) k)
    ∙ ap (λ s. with_sign (cond (is_close_paren s) (Some b) None) (class.Applied t.at (name_ref t) (name_ref v) (x ∷ xs))) i)))

classes_complete : (n : ℕ) {a b : List Token} {xs : List ClassTree} → IsClasses a b xs → begins is_comma b ≡ false → 8 * length a + 3 ≤ n
    → (ys : List ClassTree) → classes_at n ys a ≡ Some (ys ++ xs, b)
unfolding classes_at
classes_complete zero d f h ys = absurd (let x : ⊥ = omega arith in x)
classes_complete (suc n) (LastClass {a = a} {b = b} {x = x} d) f h ys =
    let k : 8 * length a + 2 ≤ n = omega arith in
    ap (λ m. and_then m (λ y rest. and_behind (behind is_comma rest) (classes_at n (ys ++ y ∷ [])) (Some (ys ++ y ∷ [], rest)))) (class_complete n d k)
    ∙ no_sign is_comma b (classes_at n (ys ++ x ∷ [])) (Some (ys ++ x ∷ [], b)) f
classes_complete (suc n) (MoreClasses {a = a} {b = b} {c = z} {m = m} {x = x} {xs = xs} d e rest) f h ys =
    let k : 8 * length a + 2 ≤ n = omega arith in
    let s : length (m ∷ b) < length a = class_shorter d in
    let l : 8 * length b + 3 ≤ n = omega arith in
    ap (λ p. and_then p (λ y to. and_behind (behind is_comma to) (classes_at n (ys ++ y ∷ [])) (Some (ys ++ y ∷ [], to)))) (class_complete n d k)
    ∙ (ap (λ g. and_behind (cond (is_comma g) (Some b) None) (classes_at n (ys ++ x ∷ [])) (Some (ys ++ x ∷ [], m ∷ b))) e
    ∙ (classes_complete n rest f l (ys ++ x ∷ []) ∙ ap (λ q. Some (q, z)) (append_assoc ys (x ∷ []) xs)))

-- classes begin with a constructor
class_no_paren : {a b : List Token} {x : ClassTree} → IsClass a b x → begins is_close_paren a ≡ false
class_no_paren (VarClass {t = t} e f) = by_sign (sign_of t) e
  where
    by_sign : (k : Sign) → is_qconid k ≡ true → is_close_paren k ≡ false
    by_sign CloseParen e = cc
    by_sign _ e = refl
class_no_paren (AppliedClass {t = t} e f g x h) = by_sign (sign_of t) e
  where
    by_sign : (k : Sign) → is_qconid k ≡ true → is_close_paren k ≡ false
    by_sign CloseParen e = cc
    by_sign _ e = refl

classes_no_paren : {a b : List Token} {xs : List ClassTree} → IsClasses a b xs → begins is_close_paren a ≡ false
classes_no_paren (LastClass d) = class_no_paren d
classes_no_paren (MoreClasses d e r) = class_no_paren d

one_context : (n : ℕ) (t : Token) (a : List Token) (k : Sign) → is_qconid k ≡ true → context_by n t a k ≡ and_then (class_at n (t ∷ a)) (λ x rest. Some (context.One t.at x, rest))
one_context n t a OpenParen e = cc
one_context n t a _ e = refl

pub context_complete : (n : ℕ) {a b : List Token} {k : ContextTree} → IsContext a b k → 8 * length a + 2 ≤ n → context_at n a ≡ Some (k, b)
context_complete n (OneContext (VarClass {a = a} {t = t} {v = v} e f)) h = one_context n t (v ∷ a) (sign_of t) e
    ∙ ap (λ m. and_then m (λ x rest. let r : Found ContextTree = Some (context.One t.at x, rest) in r)) (class_complete n (VarClass {a = a} {t = t} {v = v} e f) h)
context_complete n (OneContext (AppliedClass {a = a} {t = t} {o = o} {v = v} e f g d i)) h = one_context n t (o ∷ v ∷ a) (sign_of t) e
    ∙ ap (λ m. and_then m (λ x rest. let r : Found ContextTree = Some (context.One t.at x, rest) in r)) (class_complete n (AppliedClass {t = t} {o = o} {v = v} e f g d i) h)
context_complete n (EmptyContext {a = a} {o = o} {c = c} e f) h = ap (context_by n o (c ∷ a)) e
    ∙ ap (λ g. and_behind (cond (is_close_paren g) (Some a) None) (λ rest. let r : Found ContextTree = Some (context.Listed o.at [], rest) in r)
    (and_then (classes_at n [] (c ∷ a)) (λ xs rest. with_sign (behind is_close_paren rest) (context.Listed o.at xs)))) f
context_complete n (ListedContext {a = a} {b = b} {o = o} {c = c} {xs = xs} e d f) h =
    let k : 8 * length a + 3 ≤ n = omega arith in
    ap (context_by n o a) e
    ∙ (no_sign is_close_paren a (λ rest. Some (context.Listed o.at [], rest)) (and_then (classes_at n [] a) (λ ys rest. with_sign (behind is_close_paren rest) (context.Listed o.at ys))) (classes_no_paren d)
    ∙ (ap (λ m. and_then m (λ ys rest. with_sign (behind is_close_paren rest) (context.Listed o.at ys))) (classes_complete n d (ap is_comma f) k [])
    ∙ ap (λ g. with_sign (cond (is_close_paren g) (Some b) None) (context.Listed o.at xs)) f))

context_before_complete : (n : ℕ) {a b : List Token} {w : Token} {k : ContextTree} → IsContext a (w ∷ b) k → sign_of w ≡ Implies → 8 * length a + 2 ≤ n → context_before n a ≡ Some (k, b)
context_before_complete n {b = b} {k = k} d e h = ap (λ m. and_then m (λ x rest. with_sign (behind is_implies rest) x)) (context_complete n d h)
    ∙ ap (λ g. with_sign (cond (is_implies g) (Some b) None) k) e

-- Where a type stands with what may follow it, no context with an arrow does

-- what is at the level of no type
abbrev pub is_type_mark : Sign → List Token → Bool
is_type_mark Var ts = false
is_type_mark Con ts = false
is_type_mark QualifiedCon ts = false
is_type_mark Arrow ts = false
is_type_mark _ ts = true

no_type_mark : NoType is_type_mark
no_type_mark = record { var = λ ts. refl; con = λ ts. refl; qcon = λ ts. refl; arrow = λ ts. refl }

no_btype_mark : NoBtype is_type_mark
no_btype_mark = record { var = λ ts. refl; con = λ ts. refl; qcon = λ ts. refl }

end_marked : (t : Token) (ts : List Token) (k : Sign) → sign_of t ≡ k → type_goes_on k ≡ false → cut is_type_mark (t ∷ ts) 0 ≡ t ∷ ts
end_marked t ts Var e f = cc
end_marked t ts Con e f = cc
end_marked t ts QualifiedCon e f = cc
end_marked t ts Arrow e f = cc
end_marked t ts OpenParen e f = cc
end_marked t ts OpenSquare e f = cc
end_marked t ts (OpenBrace put) e f = cc
end_marked t ts CloseParen e f = ends is_type_mark t ts (ap is_closing e)
end_marked t ts CloseSquare e f = ends is_type_mark t ts (ap is_closing e)
end_marked t ts (CloseBrace put) e f = ends is_type_mark t ts (ap is_closing e)
end_marked t ts k e f = stands is_type_mark t ts (ap is_plain e) (ap (λ g. is_type_mark g ts) e)

ends_marked : (b : List Token) → TypeEnds b → cut is_type_mark b 0 ≡ b
ends_marked [] e = refl
ends_marked (t ∷ ts) e = end_marked t ts (sign_of t) refl e

no_implies_by : (k : Sign) → type_goes_on k ≡ false → is_implies k ≡ false
no_implies_by Implies e = cc
no_implies_by _ e = refl

no_implies : (b : List Token) → TypeEnds b → begins is_implies b ≡ false
no_implies [] e = refl
no_implies (t ∷ ts) e = no_implies_by (sign_of t) e

implies_marked : (w : Token) (b : List Token) → sign_of w ≡ Implies → begins is_implies (cut is_type_mark (w ∷ b) 0) ≡ true
implies_marked w b e = ap (begins is_implies) (stands is_type_mark w b (ap is_plain e) (ap (λ g. is_type_mark g b) e)) ∙ ap is_implies e

true_false : {b : Bool} → b ≡ true → b ≡ false → ⊥
true_false e f = cc

no_context : (n : ℕ) (a : List Token) → begins is_implies (cut is_type_mark a 0) ≡ false → context_before n a ≡ None
no_context n a e = none_of (ContextBefore a) (context_before n a) (context_before_sound n a)
    (λ rest k c. true_false (ap (begins is_implies) (context_cut is_type_mark no_btype_mark c.1 0) ∙ implies_marked c.0 rest c.2) e)

pub qualified_complete : (n : ℕ) {a b : List Token} {q : QualifiedType} → IsQualified a b q → TypeEnds b → 8 * length a + 3 ≤ n → qualified_at n a ≡ Some (q, b)
qualified_complete n (PlainQualified {a = a} {b = b} d) ends h =
    ap (λ m. or_else_by m (λ k rest. typed_by (place a) (Some k) ((type_readers n).ty rest)) (typed_by (place a) None ((type_readers n).ty a)))
    (no_context n a (ap (begins is_implies) (type_cut is_type_mark no_type_mark d 0 ∙ ends_marked b ends) ∙ no_implies b ends))
    ∙ ap (typed_by (place a) None) ((types_are_complete n).ty d ends h)
qualified_complete n (ContextQualified {a = a} {b = b} {w = w} {k = x} d e r) ends h =
    let i : 8 * length a + 2 ≤ n = omega arith in
    let s : length (w ∷ b) < length a = context_shorter d in
    let j : 8 * length b + 3 ≤ n = omega arith in
    ap (λ m. or_else_by m (λ k rest. typed_by (place a) (Some k) ((type_readers n).ty rest)) (typed_by (place a) None ((type_readers n).ty a))) (context_before_complete n d e i)
    ∙ ap (typed_by (place a) (Some x)) ((types_are_complete n).ty r ends j)

-- Types in front of an arrow that isn't theirs

-- what no further btype with an arrow behind it goes over: every sign but those of a btype
abbrev pub is_type_end : Sign → List Token → Bool
is_type_end Var ts = false
is_type_end Con ts = false
is_type_end QualifiedCon ts = false
is_type_end _ ts = true

no_type_end : NoBtype is_type_end
no_type_end = record { var = λ ts. refl; con = λ ts. refl; qcon = λ ts. refl }

-- an answer of the tail with an arrow behind it has a btype with an arrow behind it in front
abbrev TailAt : List Token → List Token → TypeTree → Type 0
TailAt a to x = begins is_arrow to ≡ true → begins is_arrow (cut is_type_end a 0) ≡ true

arrow_ends : (b : List Token) → begins is_arrow b ≡ true → begins is_arrow (cut is_type_end b 0) ≡ true
arrow_ends [] e = e
arrow_ends (t ∷ b) e = by_sign (sign_of t) refl e
  where
    by_sign : (k : Sign) → sign_of t ≡ k → is_arrow k ≡ true → begins is_arrow (cut is_type_end (t ∷ b) 0) ≡ true
    by_sign Arrow f g = ap (begins is_arrow) (stands is_type_end t b (ap is_plain f) (ap (λ h. is_type_end h b) f)) ∙ ap is_arrow f
    by_sign _ f g = cc

tail_if : (a b : List Token) (x : BtypeTree) (y : TypeTree) (rest : List Token) → begins is_arrow (cut is_type_end a 0) ≡ true
    → (s : Bool) → Sound (TailAt a) (cond s (Some (type_tree (place a) x (Some y), rest)) (Some (type_tree (place a) x None, b)))
tail_if a b x y rest e true = λ f. e
tail_if a b x y rest e false = λ f. e

tail_behind : (n : ℕ) (a b : List Token) (x : BtypeTree) → IsBtype a b x → (s : Bool) → begins is_arrow b ≡ s
    → Sound (TailAt a) (and_behind (behind is_arrow b) (λ c. or_else_by (type_tail n c) (type_before (place a) x b) (Some (type_tree (place a) x None, b))) (Some (type_tree (place a) x None, b)))
tail_behind n a b x d true e = over (behind is_arrow b)
  where
    front : begins is_arrow (cut is_type_end a 0) ≡ true
    front = ap (begins is_arrow) (btype_cut is_type_end no_type_end d 0) ∙ arrow_ends b e

    inside : (m : Found TypeTree) → Sound (TailAt a) (or_else_by m (type_before (place a) x b) (Some (type_tree (place a) x None, b)))
    inside None = λ f. front
    inside (Some p) = tail_if a b x p.0 p.1 front (begins is_arrow p.1)

    over : (m : Option (List Token)) → Sound (TailAt a) (and_behind m (λ c. or_else_by (type_tail n c) (type_before (place a) x b) (Some (type_tree (place a) x None, b))) (Some (type_tree (place a) x None, b)))
    over None = λ f. front
    over (Some c) = inside (type_tail n c)
tail_behind n a b x d false e = subst (Sound (TailAt a)) (sym (no_sign is_arrow b (λ c. or_else_by (type_tail n c) (type_before (place a) x b) (Some (type_tree (place a) x None, b))) (Some (type_tree (place a) x None, b)) e))
    (λ f. absurd (true_false f e))

tail_front : (n : ℕ) (a : List Token) → Sound (TailAt a) (type_tail n a)
unfolding type_tail
tail_front zero a = tt
tail_front (suc n) a = sound_then (IsBtype a) (TailAt a) ((type_readers n).btype a) (λ x b.
    and_behind (behind is_arrow b) (λ c. or_else_by (type_tail n c) (type_before (place a) x b) (Some (type_tree (place a) x None, b))) (Some (type_tree (place a) x None, b)))
    ((types_are_sound n).btype a) (λ x b d. tail_behind n a b x d (begins is_arrow b) refl)

-- behind the last arrow nothing is read that an arrow follows
no_tail : (at : Pos) (x : BtypeTree) (b c : List Token) → begins is_arrow (cut is_type_end c 0) ≡ false → (m : Found TypeTree) → Sound (TailAt c) m
    → or_else_by m (type_before at x b) (Some (type_tree at x None, b)) ≡ Some (type_tree at x None, b)
no_tail at x b c e None s = refl
no_tail at x b c e (Some p) s = by_arrow (begins is_arrow p.1) refl
  where
    by_arrow : (t : Bool) → begins is_arrow p.1 ≡ t → (let m : Found TypeTree = cond t (Some (type_tree at x (Some p.0), p.1)) (Some (type_tree at x None, b)) in m) ≡ Some (type_tree at x None, b)
    by_arrow true f = absurd (true_false (s f) e)
    by_arrow false f = refl

pub tail_complete : (n : ℕ) {a b : List Token} {w : Token} {x : TypeTree} → IsType a (w ∷ b) x → sign_of w ≡ Arrow → begins is_arrow (cut is_type_end b 0) ≡ false
    → 8 * length a + 3 ≤ n → type_tail n a ≡ Some (x, w ∷ b)
unfolding type_tail
tail_complete zero d e f h = absurd (let x : ⊥ = omega arith in x)
tail_complete (suc n) {b = b} {w = w} (LoneType {a = a} {x = x} d) e f h =
    let k : 8 * length a + 2 ≤ n = omega arith in
    ap (λ m. and_then m (λ y z. and_behind (behind is_arrow z) (λ c. or_else_by (type_tail n c) (type_before (place a) y z) (Some (type_tree (place a) y None, z))) (Some (type_tree (place a) y None, z))))
    ((types_are_complete n).btype d (ap begins_atype e) k)
    ∙ (ap (λ g. and_behind (cond (is_arrow g) (Some b) None) (λ c. or_else_by (type_tail n c) (type_before (place a) x (w ∷ b)) (Some (type_tree (place a) x None, w ∷ b))) (Some (type_tree (place a) x None, w ∷ b))) e
    ∙ no_tail (place a) x (w ∷ b) b f (type_tail n b) (tail_front n b))
tail_complete (suc n) {b = b} {w = w} (ArrowType {a = a} {b = z} {w = v} {x = x} {y = y} d g r) e f h =
    let k : 8 * length a + 2 ≤ n = omega arith in
    let s : length (v ∷ z) < length a = btype_shorter d in
    let l : 8 * length z + 3 ≤ n = omega arith in
    ap (λ m. and_then m (λ u q. and_behind (behind is_arrow q) (λ c. or_else_by (type_tail n c) (type_before (place a) u q) (Some (type_tree (place a) u None, q))) (Some (type_tree (place a) u None, q))))
    ((types_are_complete n).btype d (ap begins_atype g) k)
    ∙ (ap (λ i. and_behind (cond (is_arrow i) (Some z) None) (λ c. or_else_by (type_tail n c) (type_before (place a) x (v ∷ z)) (Some (type_tree (place a) x None, v ∷ z))) (Some (type_tree (place a) x None, v ∷ z))) g
    ∙ (ap (λ m. or_else_by m (type_before (place a) x (v ∷ z)) (Some (type_tree (place a) x None, v ∷ z))) (tail_complete n r e f l)
    ∙ ap (λ i. let q : Found TypeTree = cond (is_arrow i) (Some (type_tree (place a) x (Some y), w ∷ b)) (Some (type_tree (place a) x None, v ∷ z)) in q) e))

-- a type with an arrow behind it begins with a btype that has one
arrow_front : {a b : List Token} {w : Token} {x : TypeTree} → IsType a (w ∷ b) x → sign_of w ≡ Arrow → begins is_arrow (cut is_type_end a 0) ≡ true
arrow_front {b = b} {w = w} (LoneType d) e = ap (begins is_arrow) (btype_cut is_type_end no_type_end d 0) ∙ arrow_ends (w ∷ b) (ap is_arrow e)
arrow_front (ArrowType {b = b} {w = w} d e r) f = ap (begins is_arrow) (btype_cut is_type_end no_type_end d 0) ∙ arrow_ends (w ∷ b) (ap is_arrow e)

implies_ends : (w : Token) (b : List Token) → sign_of w ≡ Implies → begins is_arrow (cut is_type_end (w ∷ b) 0) ≡ false
implies_ends w b e = ap (begins is_arrow) (stands is_type_end w b (ap is_plain e) (ap (λ g. is_type_end g b) e)) ∙ ap is_arrow e

no_context_before : (n : ℕ) (a : List Token) → begins is_arrow (cut is_type_end a 0) ≡ true → context_before n a ≡ None
no_context_before n a e = none_of (ContextBefore a) (context_before n a) (context_before_sound n a)
    (λ rest k c. true_false e (ap (begins is_arrow) (context_cut is_type_end no_type_end c.1 0) ∙ implies_ends c.0 rest c.2))

-- Read in front of an arrow that isn't its own, a type with its context is the one that is derived where no further one fits behind the arrow.
pub qualified_tail_complete : (n : ℕ) {a b : List Token} {w : Token} {q : QualifiedType} → IsQualified a (w ∷ b) q → sign_of w ≡ Arrow → begins is_arrow (cut is_type_end b 0) ≡ false
    → 8 * length a + 3 ≤ n → qualified_tail n a ≡ Some (q, w ∷ b)
qualified_tail_complete n {b = b} {w = w} (PlainQualified {a = a} d) e f h =
    ap (λ m. or_else_by m (λ k rest. typed_by (place a) (Some k) (type_tail n rest)) (typed_by (place a) None (type_tail n a))) (no_context_before n a (arrow_front d e))
    ∙ ap (typed_by (place a) None) (tail_complete n d e f h)
qualified_tail_complete n {b = z} {w = v} (ContextQualified {a = a} {b = b} {w = w} {k = x} d g r) e f h =
    let i : 8 * length a + 2 ≤ n = omega arith in
    let s : length (w ∷ b) < length a = context_shorter d in
    let j : 8 * length b + 3 ≤ n = omega arith in
    ap (λ m. or_else_by m (λ k rest. typed_by (place a) (Some k) (type_tail n rest)) (typed_by (place a) None (type_tail n a))) (context_before_complete n d g i)
    ∙ ap (typed_by (place a) (Some x)) (tail_complete n r e f j)

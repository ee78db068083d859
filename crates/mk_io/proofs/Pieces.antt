-- Texts that are read and written in pieces, and counts that rise.
use Rattle.std.proofs.Common.{◌≡◌, ℕ, ◌+◌, ◌-◌, ◌≤◌, min, List, ◌++◌, length, take, drop, ap, refl, sym, ◌∙◌, subst, append_assoc, append-nil, arith, length-drop, Some, None, IfSome}
use Rattle.std.specs.declared.option.Option.{Option}
use Rattle.std.proofs.lemmas.List.{take_all, take_min, take-append-le}
use Rattle.std.proofs.Math.Nat.{min-le_right}
use Rattle.std.proofs.Math.Seq.{take-add, take-append-add}
use Rattle.std.specs.Io.KnownBytes.{Appends, Consumes, Keeps}
use Rattle.mk_io.specs.Outside.{Rose, AppendsFront, PutsAtErr}
use Rattle.mk_io.specs.declared.outside.IoErr.{IoErr}
use Rattle.mk_io.specs.declared.outside.IoErr.TheVariants.{Failed, NoMemory}

-- two texts taken one after the other
pub joined : (old mid new : Option (List ℕ)) (a b : List ℕ) → Appends old mid a → Appends mid new b → Appends old new (a ++ b)
joined None mid new a b p q = tt
joined (Some xs) None new a b p q = absurd p
joined (Some xs) (Some ys) None a b p q = absurd q
joined (Some xs) (Some ys) (Some zs) a b p q = q ∙ ap (λ v. v ++ b) p ∙ append_assoc xs a b

-- two texts read one after the other
pub read_on : (old mid new : Option (List ℕ)) (a b : List ℕ) → Consumes old mid a → Consumes mid new b → Consumes old new (a ++ b)
read_on None mid new a b p q = tt
read_on (Some xs) None new a b p q = absurd p
read_on (Some xs) (Some ys) None a b p q = absurd q
read_on (Some xs) (Some ys) (Some zs) a b p q = p ∙ ap (λ v. a ++ v) q ∙ sym (append_assoc a b zs)

-- what was read stands at the front of the input
pub consumed : (old new : Option (List ℕ)) (a : List ℕ) → Consumes old new a → IfSome old (λ input. (rest : List ℕ) × (input ≡ a ++ rest) × (new ≡ Some rest))
consumed None new a p = tt
consumed (Some xs) None a p = absurd p
consumed (Some xs) (Some ys) a p = (ys, p, refl)

-- a text, and then nothing
pub appended_only : (old mid new : Option (List ℕ)) (a : List ℕ) → Appends old mid a → Keeps mid new → Appends old new a
appended_only None mid new a p q = tt
appended_only (Some xs) None new a p q = absurd p
appended_only (Some xs) (Some ys) None a p q = absurd q
appended_only (Some xs) (Some ys) (Some zs) a p q = q ∙ p

-- the next piece
pub next_piece : (old mid new : Option (List ℕ)) (text piece : List ℕ) (at n : ℕ) → piece ≡ take (length text - at) (drop at text) → Appends old mid (take at text) → Appends mid new (take n piece) → Appends old new (take (at + n) text)
next_piece old mid new text piece at n e p q =
    let whole : piece ≡ drop at text = e ∙ take_all (length text - at) (drop at text) (omega (arith, length-drop at text)) in
    subst (Appends old new) (sym (take-add at n text)) (joined old mid new (take at text) (take n (drop at text)) p (subst (λ v. Appends mid new (take n v)) whole q))

-- what was taken whole is a front of itself
pub front_whole : (old new : Option (List ℕ)) (a : List ℕ) → Appends old new a → AppendsFront old new a
front_whole old new a p = (length a, subst (Appends old new) (sym (take_all (length a) a (omega arith))) p)

-- nothing is a front of every text
pub front_nothing : (old new : Option (List ℕ)) (a : List ℕ) → Keeps old new → AppendsFront old new a
front_nothing None new a p = (0, tt)
front_nothing (Some xs) None a p = absurd p
front_nothing (Some xs) (Some ys) a p = (0, p ∙ sym (append-nil xs))

-- a refused write took a front
pub front_refused : (e : IoErr) (old new : Option (List ℕ)) (a : List ℕ) → PutsAtErr e old new a → AppendsFront old new a
front_refused Failed old new a p = p
front_refused NoMemory old new a p = front_nothing old new a p

-- a text, and then a front of the next one
pub front_on : (old mid new : Option (List ℕ)) (a b : List ℕ) → Appends old mid a → AppendsFront mid new b → AppendsFront old new (a ++ b)
front_on old mid new a b p q =
    (length a + q.0, subst (Appends old new) (sym (take-append-add a b q.0)) (joined old mid new a (take q.0 b) p q.1))

-- a front of a front is a front of the whole
pub front_of_front : (old new : Option (List ℕ)) (text a b : List ℕ) → text ≡ a ++ b → AppendsFront old new a → AppendsFront old new text
front_of_front old new text a b e p =
    let k : ℕ = min p.0 (length a) in
    let same : take k text ≡ take p.0 a =
    ap (take k) e ∙ take-append-le k a b (min-le_right p.0 (length a)) ∙ take_min p.0 a in
    (k, subst (Appends old new) (sym same) p.1)

-- the next piece, cut short
pub next_front : (old mid new : Option (List ℕ)) (text piece : List ℕ) (at : ℕ) → piece ≡ take (length text - at) (drop at text) → Appends old mid (take at text) → AppendsFront mid new piece → AppendsFront old new text
next_front old mid new text piece at e p q = (at + q.0, next_piece old mid new text piece at q.0 e p q.1)

-- what rose stays risen
pub rose_then : (a b c : ℕ) → Rose a b → b ≤ c → Rose a c
rose_then a b c p q = omega arith

-- what rises later has risen
pub then_rose : (a b c : ℕ) → a ≤ b → Rose b c → Rose a c
then_rose a b c p q = omega arith

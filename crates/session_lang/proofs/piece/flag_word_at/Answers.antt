use Rattle.std.proofs.Common.{◌≡◌, ◌⊎◌, inl, inr, ℕ, List, ◌∷◌}
use denote.Bor.{Bor}
use Rattle.session_lang.specs.declared.front.Front.{Front}
use Rattle.session_lang.specs.Front.{Tells, either_of}
use Rattle.session_lang.specs.Spelling.{Ext, ImplicitPrelude, NoImplicitPrelude, MonomorphismRestriction, NoMonomorphismRestriction, Haskell2010, IsFlagWord, ext_name}
use Rattle.session_lang.proofs.Fields.{either_tells, weaken}
use Rattle.session_lang.proofs.piece.flag_word_at.Goals as goal

abbrev Is : Ext → List ℕ → Type 0
Is e word = word ≡ 32 ∷ ext_name e

abbrev Or : (List ℕ → Type 0) → (List ℕ → Type 0) → List ℕ → Type 0
Or P Q word = P word ⊎ Q word

abbrev Tell : (List ℕ → Type 0) → List ℕ → Front (Bor (List ℕ)) → Type 0
Tell P bytes r = Tells {A = List ℕ} P (λ word. word) (λ word. word.now) bytes r

joined : (P Q : List ℕ → Type 0) (bytes : List ℕ) (both r q : Front (Bor (List ℕ))) → both ≡ either_of r q → Tell P bytes r → Tell Q bytes q → Tell (Or P Q) bytes both
joined P Q bytes both r q e h g = rw e (either_tells P Q (λ word. word) (λ word. word.now) bytes r q h g)

abbrev Two : List ℕ → Type 0
Two = Or (Is ImplicitPrelude) (Is NoImplicitPrelude)

abbrev Three : List ℕ → Type 0
Three = Or Two (Is MonomorphismRestriction)

abbrev Four : List ℕ → Type 0
Four = Or Three (Is NoMonomorphismRestriction)

abbrev Five : List ℕ → Type 0
Five = Or Four (Is Haskell2010)

to : (word : List ℕ) → Five word → IsFlagWord word
to word (inl (inl (inl (inl h)))) = (ImplicitPrelude, h)
to word (inl (inl (inl (inr h)))) = (NoImplicitPrelude, h)
to word (inl (inl (inr h))) = (MonomorphismRestriction, h)
to word (inl (inr h)) = (NoMonomorphismRestriction, h)
to word (inr h) = (Haskell2010, h)

from : (word : List ℕ) (e : Ext) → Is e word → Five word
from word ImplicitPrelude h = inl (inl (inl (inl h)))
from word NoImplicitPrelude h = inl (inl (inl (inr h)))
from word MonomorphismRestriction h = inl (inl (inr h))
from word NoMonomorphismRestriction h = inl (inr h)
from word Haskell2010 h = inr h

pub returns : goal.returns
returns c =
    let bytes = c.args.bytes.now in
    let two = joined (Is ImplicitPrelude) (Is NoImplicitPrelude) bytes c.either-read.result _ _ c.either-read.ensures c.same_at-read.ensures c.same_at.ensures in
    let three = joined Two (Is MonomorphismRestriction) bytes c.either-read-2.result _ _ c.either-read-2.ensures two c.same_at-2.ensures in
    let four = joined Three (Is NoMonomorphismRestriction) bytes c.either-read-3.result _ _ c.either-read-3.ensures three c.same_at-3.ensures in
    let five = joined Four (Is Haskell2010) bytes c.either.result _ _ c.either.ensures four c.same_at-4.ensures in
    weaken Five IsFlagWord (λ word. word) (λ word. word.now) bytes to (λ word h. from word h.0 h.1) c.either.result five

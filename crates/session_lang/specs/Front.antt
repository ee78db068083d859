-- What stands at the front of some bytes, against a language of spellings.
use Rattle.std.specs.Prelude.{◌≡◌, ◌≢◌, ℕ, List, [], ◌++◌}
use Rattle.session_lang.specs.declared.front.Front.{Front}
use Rattle.session_lang.specs.declared.front.Front.TheVariants.{Whole, More, Bad}

-- The bytes are a spelling and the rest; or a proper beginning of a spelling; or neither, however they go on.
abbrev pub Tells : {A T : Type 0} → (A → Type 0) → (A → List ℕ) → (T → A) → List ℕ → Front T → Type 0
Tells {A} valid spell view bytes (Whole a rest) = valid (view a) × (bytes ≡ spell (view a) ++ rest.now)
Tells {A} valid spell view bytes More = (a : A) × (more : List ℕ) × valid a × (more ≢ []) × (bytes ++ more ≡ spell a)
Tells {A} valid spell view bytes Bad = (a : A) (more rest : List ℕ) → valid a → bytes ++ more ≡ spell a ++ rest → ⊥

-- the first of two that is whole, and else more where one is
abbrev pub either_of : {T : Type 0} → Front T → Front T → Front T
either_of (Whole a rest) second = Whole a rest
either_of More (Whole a rest) = Whole a rest
either_of More second = More
either_of Bad second = second

-- Reading a number byte by byte, and the test of a text.
use Rattle.std.proofs.Common.{◌≡◌, ◌≢◌, subst, ℕ, zero, suc, ◌-◌, ◌<◌, ◌≤◌, Bool, true, false, List, Option, Some, None, refl, sym, ap, ◌∙◌, arith}
use Rattle.std.specs.Prelude.{IsUtf8}
use Rattle.std.specs.Str.{is_utf8}
use Rattle.std.proofs.lemmas.Str.{IsUtf8-from_is_utf8}
use Rattle.std.proofs.lemmas.Bool.{le-ltb, lt-ltb}
use Rattle.wire.specs.Reading.{◌>>=◌, Finds, byte_at, num_from_at, joined}

pub no_byte : (more : ℕ) (bytes : List ℕ) → byte_at bytes ≡ None → num_from_at more bytes ≡ None
unfolding num_from_at
no_byte zero bytes e = rw e refl
no_byte (suc more) bytes e = rw e refl

pub one_byte : (more b : ℕ) (bytes rest : List ℕ) → byte_at bytes ≡ Some (b, rest) → b < 128 → num_from_at more bytes ≡ Some (b, rest)
unfolding num_from_at
one_byte zero b bytes rest e h = rw (e, lt-ltb b 128 h) refl
one_byte (suc more) b bytes rest e h = rw (e, lt-ltb b 128 h) refl

pub no_more : (more b : ℕ) (bytes rest : List ℕ) → byte_at bytes ≡ Some (b, rest) → 128 ≤ b → more ≡ 0 → num_from_at more bytes ≡ None
unfolding num_from_at
no_more zero b bytes rest e h z = rw (e, le-ltb b 128 h) refl
no_more (suc more) b bytes rest e h z = absurd (omega arith)

pub one_more : (more b : ℕ) (bytes rest : List ℕ) → byte_at bytes ≡ Some (b, rest) → 128 ≤ b → 0 < more → num_from_at more bytes ≡ (num_from_at (more - 1) rest >>= joined b)
unfolding num_from_at
one_more zero b bytes rest e h z = absurd (omega arith)
one_more (suc more) b bytes rest e h z =
    let m : suc more - 1 ≡ more = omega arith in
    rw (e, le-ltb b 128 h, m) refl

pub one_out : (more b : ℕ) (bytes rest : List ℕ) → byte_at bytes ≡ Some (b, rest) → 128 ≤ b → (more ≢ 0) → num_from_at (more - 1) rest ≡ None → num_from_at more bytes ≡ None
one_out more b bytes rest e h z n = one_more more b bytes rest e h (omega (arith, z)) ∙ ap (λ o. o >>= joined b) n

pub one_joined : {X : Type 0} (view : X → ℕ × List ℕ) (r : Option X) (more b high : ℕ) (bytes rest last : List ℕ) → byte_at bytes ≡ Some (b, rest) → 128 ≤ b → (more ≢ 0)
    → num_from_at (more - 1) rest ≡ Some (high, last) → Finds view r (joined b (high, last)) → Finds view r (num_from_at more bytes)
one_joined view r more b high bytes rest last e h z n f =
    let whole : num_from_at more bytes ≡ joined b (high, last) = one_more more b bytes rest e h (omega (arith, z)) ∙ ap (λ o. o >>= joined b) n in
    subst (λ o. Finds view r o) (sym whole) f

opposite : (b : Bool) → (b ≡ true → ⊥) → b ≡ false
opposite true h = absurd (h refl)
opposite false h = refl

pub is_no_text : (bytes : List ℕ) → (IsUtf8 bytes → ⊥) → is_utf8 bytes ≡ false
is_no_text bytes h = opposite (is_utf8 bytes) (λ e. h (IsUtf8-from_is_utf8 bytes e))

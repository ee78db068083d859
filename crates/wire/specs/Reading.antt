-- Reading from the front of some bytes: the value and the bytes behind it, or nothing.
use Rattle.std.specs.Prelude.{◌≡◌, ℕ, zero, suc, ◌+◌, ◌*◌, ◌-◌, List, [], ◌∷◌, length, take, drop, Option, Some, None, nat_lt, ◌&&◌, if◌then◌else◌}
use Rattle.std.specs.Str.{is_utf8}

infixl 10 ◌>>=◌
abbrev pub ◌>>=◌ : {A B : Type 0} → Option A → (A → Option B) → Option B
None >>= f = None
(Some x) >>= f = f x

-- what a reader that takes no memory answers
abbrev pub Finds : {X Y : Type 0} → (X → Y) → Option X → Option Y → Type 0
Finds view (Some x) read = read ≡ Some (view x)
Finds view None read = read ≡ None

-- what is behind a first byte from 128 on: a number from 1 on that leaves the whole below 2 ^ 32
abbrev pub joined : ℕ → ℕ × List ℕ → Option (ℕ × List ℕ)
joined b high = if nat_lt 0 high.0 && nat_lt high.0 33554432 then Some (b - 128 + 128 * high.0, high.1) else None

-- a byte
unfoldable pub byte_at : List ℕ → Option (ℕ × List ℕ)
byte_at [] = None
byte_at (b ∷ rest) = Some (b, rest)

unfoldable pub num_from_at : ℕ → List ℕ → Option (ℕ × List ℕ)
num_from_at zero bytes = do
  b ← byte_at bytes
  if nat_lt b.0 128 then Some b else None
num_from_at (suc more) bytes = do
  b ← byte_at bytes
  if nat_lt b.0 128 then Some b else (num_from_at more b.1 >>= joined b.0)

abbrev pub num_at : List ℕ → Option (ℕ × List ℕ)
num_at bytes = num_from_at 4 bytes

-- so many bytes
unfoldable pub bytes_at : ℕ → List ℕ → Option (List ℕ × List ℕ)
bytes_at n bytes = if nat_lt (length bytes) n then None else Some (take n bytes, drop n bytes)

unfoldable pub text_at : List ℕ → Option (List ℕ × List ℕ)
text_at bytes = do
  n ← num_at bytes
  t ← bytes_at n.0 n.1
  if is_utf8 t.0 then Some t else None

-- so many of a kind
unfoldable pub times : {A : Type 0} → (List ℕ → Option (A × List ℕ)) → ℕ → List ℕ → Option (List A × List ℕ)
times read zero bytes = Some ([], bytes)
times read (suc n) bytes = do
  x ← read bytes
  xs ← times read n x.1
  Some (x.0 ∷ xs.0, xs.1)

unfoldable pub list_at : {A : Type 0} → (List ℕ → Option (A × List ℕ)) → List ℕ → Option (List A × List ℕ)
list_at read bytes = do
  n ← num_at bytes
  times read n.0 n.1

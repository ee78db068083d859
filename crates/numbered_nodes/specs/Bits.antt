-- Sets of numbers below a bound, as words of 64 bits: the number k is bit k % 64 of word k / 64.
use Rattle.std.specs.Prelude.{ℕ, zero, suc, if◌then◌else◌, ◌/◌, ◌%◌, ◌*◌, ◌+◌, Bool, List, get_or, nat_eq, length}
use Rattle.std.specs.Int.{bit_at}

-- how many numbers may stand in a set: those below its room
abbrev pub room : List ℕ → ℕ
room words = length words * 64

-- the room of a set of numbers below a bound: the first multiple of 64 above it
abbrev pub room_for : ℕ → ℕ
room_for bound = (bound / 64 + 1) * 64

-- whether k stands in the set; a number past the room doesn't
unfoldable pub has : List ℕ → ℕ → Bool
has words k = nat_eq (bit_at (get_or words (k / 64) 0) (k % 64)) 1

-- how many of the numbers below n the set lacks
abbrev pub absent : List ℕ → ℕ → ℕ
absent words zero = 0
absent words (suc n) = (if has words n then 0 else 1) + absent words n

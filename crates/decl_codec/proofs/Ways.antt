-- Going over one part after another, as a loop does.
use Rattle.std.proofs.Common.{◌≡◌, ℕ, suc, ◌-◌, ◌+◌, ◌≤◌, ◌<◌, List, Option, Some, None, refl, sym, ap, ◌∙◌, arith}
use Rattle.wire.specs.Reading.{◌>>=◌}
use Rattle.decl_codec.specs.declared.fault.Fault.{Fault}
use Rattle.decl_codec.specs.declared.fault.Fault.TheVariants as faults
use Rattle.decl_codec.specs.declared.going.Seen.{Seen}
use Rattle.decl_codec.specs.Answers.{Fails}
use Rattle.decl_codec.specs.Going.{Went, go_times, go_kind, go_kind_times}

module _ (go : Seen → List ℕ → Went) (many i : ℕ) (seen : Seen) (bytes : List ℕ) (total : Went) where
  pub goes_on : (after : Seen) (rest : List ℕ) → i < many → go seen bytes ≡ Some (after, rest) → go_times go (many - i) seen bytes ≡ total → go_times go (many - (i + 1)) after rest ≡ total
  unfolding go_times
  goes_on after rest lt h so_far =
      let k : many - i ≡ suc (many - (i + 1)) = omega arith in
      let one : go_times go (many - i) seen bytes ≡ go_times go (many - (i + 1)) after rest = rw (k, h) refl in
      sym one ∙ so_far

  pub stops : (e : Fault) → i < many → Fails e (go seen bytes) → go_times go (many - i) seen bytes ≡ total → Fails e total
  unfolding go_times
  stops faults.NoMemory lt h so_far = tt
  stops faults.Malformed lt h so_far =
      let k : many - i ≡ suc (many - (i + 1)) = omega arith in
      let one : go_times go (many - i) seen bytes ≡ None = rw (k, h) refl in
      sym so_far ∙ one

  pub is_done : many ≤ i → go_times go (many - i) seen bytes ≡ total → total ≡ Some (seen, bytes)
  unfolding go_times
  is_done le so_far =
      let k : many - i ≡ 0 = omega arith in
      let one : go_times go (many - i) seen bytes ≡ Some (seen, bytes) = rw k refl in
      sym so_far ∙ one

-- ---- kinds

module _ (many i : ℕ) (bytes : List ℕ) (total : Option (List ℕ)) where
  pub kinds_go_on : (rest : List ℕ) → i < many → go_kind bytes ≡ Some rest → go_kind_times (many - i) bytes ≡ total → go_kind_times (many - (i + 1)) rest ≡ total
  unfolding go_kind_times
  kinds_go_on rest lt h so_far =
      let k : many - i ≡ suc (many - (i + 1)) = omega arith in
      let one : go_kind_times (many - i) bytes ≡ go_kind_times (many - (i + 1)) rest = rw (k, h) refl in
      sym one ∙ so_far

  pub kinds_stop : i < many → go_kind bytes ≡ None → go_kind_times (many - i) bytes ≡ total → total ≡ None
  unfolding go_kind_times
  kinds_stop lt h so_far =
      let k : many - i ≡ suc (many - (i + 1)) = omega arith in
      let one : go_kind_times (many - i) bytes ≡ None = rw (k, h) refl in
      sym so_far ∙ one

  pub kinds_are_done : many ≤ i → go_kind_times (many - i) bytes ≡ total → total ≡ Some bytes
  unfolding go_kind_times
  kinds_are_done le so_far =
      let k : many - i ≡ 0 = omega arith in
      let one : go_kind_times (many - i) bytes ≡ Some bytes = rw k refl in
      sym so_far ∙ one

-- How a session ends.
use Rattle.std.proofs.Common.{◌≡◌, ◌⊎◌, inl, inr, ℕ, Bool, true, false, List, subst}
use Rattle.std.specs.declared.option.Option.{Option}
use Rattle.std.specs.Option.{IfSome}
use Rattle.std.specs.Io.KnownBytes.{Appends}
use Rattle.mk_base.specs.declared.status.Status.{Status}
use Rattle.mk_base.specs.declared.status.Status.TheVariants as status
use Rattle.hsmake_top.specs.Session.{HasWritten, Ended, EndedBad}
use Rattle.hsmake_top.specs.Stopped.{HaveConsumed, StoppedReading, StoppedWriting}
use Rattle.hsmake_top.specs.Turn.{IsEnd}

module _ (l0 l1 k0 k1 : Option (List ℕ)) (n0 n1 : ℕ) (answer : Status) (o : HaveConsumed l0 l1) where
  -- in the middle of a script
  pub stopped : (answer ≡ status.Done → ⊥) → (answer ≡ status.Failed → ⊥) → (answer ≡ status.BadScript → ⊥) → IfSome l0 (λ bytes. HasWritten bytes k0 k1)
      → (answer ≡ status.ReadFault → IfSome l0 (λ bytes. StoppedReading bytes l1 n0 n1 k0 k1))
      → (answer ≡ status.WriteFault → IfSome l0 (λ bytes. StoppedWriting bytes n0 n1 k0 k1)) → IsEnd l0 l1 k0 k1 n0 n1 answer
  stopped a b c f r w = record { done = λ e. absurd (a e); failed = λ e. absurd (b e); bad = λ e. absurd (c e); begun = f; read_counted = r; write_counted = w; consumed = o }

  -- at a bad place
  pub ended_bad : (answer ≡ status.BadScript) ⊎ ((answer ≡ status.WriteFault) ⊎ (answer ≡ status.NoMemory))
      → (answer ≡ status.BadScript → IfSome l0 (λ bytes. (text : List ℕ) × EndedBad bytes n0 n1 text × Appends k0 k1 text))
      → IfSome l0 (λ bytes. HasWritten bytes k0 k1) → IfSome l0 (λ bytes. StoppedWriting bytes n0 n1 k0 k1) → IsEnd l0 l1 k0 k1 n0 n1 answer
  ended_bad which b f w = record {
    done = λ e. absurd (not_done which e);
    failed = λ e. absurd (not_failed which e);
    bad = b;
    begun = f;
    read_counted = λ e. absurd (not_read which e);
    write_counted = λ e. w;
    consumed = o;
  }
    where
      not_read : (answer ≡ status.BadScript) ⊎ ((answer ≡ status.WriteFault) ⊎ (answer ≡ status.NoMemory)) → answer ≡ status.ReadFault → ⊥
      not_read (inl a) e = cc
      not_read (inr (inl a)) e = cc
      not_read (inr (inr a)) e = cc

      not_done : (answer ≡ status.BadScript) ⊎ ((answer ≡ status.WriteFault) ⊎ (answer ≡ status.NoMemory)) → answer ≡ status.Done → ⊥
      not_done (inl a) e = cc
      not_done (inr (inl a)) e = cc
      not_done (inr (inr a)) e = cc

      not_failed : (answer ≡ status.BadScript) ⊎ ((answer ≡ status.WriteFault) ⊎ (answer ≡ status.NoMemory)) → answer ≡ status.Failed → ⊥
      not_failed (inl a) e = cc
      not_failed (inr (inl a)) e = cc
      not_failed (inr (inr a)) e = cc

  -- at quit
  pub ended_good : (failed : Bool) → (answer ≡ status.Done) ⊎ (answer ≡ status.Failed) → (answer ≡ status.Done → failed ≡ false) → (answer ≡ status.Failed → failed ≡ true)
      → IfSome l0 (λ bytes. (text : List ℕ) × Ended bytes failed n0 n1 text × Appends k0 k1 text)
      → IfSome l0 (λ bytes. HasWritten bytes k0 k1) → IsEnd l0 l1 k0 k1 n0 n1 answer
  ended_good failed which a b d f = record {
    done = λ e. subst (λ t. IfSome l0 (λ bytes. (text : List ℕ) × Ended bytes t n0 n1 text × Appends k0 k1 text)) (a e) d;
    failed = λ e. subst (λ t. IfSome l0 (λ bytes. (text : List ℕ) × Ended bytes t n0 n1 text × Appends k0 k1 text)) (b e) d;
    bad = λ e. absurd (not_bad which e);
    begun = f;
    read_counted = λ e. absurd (not_read which e);
    write_counted = λ e. absurd (not_write which e);
    consumed = o;
  }
    where
      not_read : (answer ≡ status.Done) ⊎ (answer ≡ status.Failed) → answer ≡ status.ReadFault → ⊥
      not_read (inl a) e = cc
      not_read (inr a) e = cc

      not_write : (answer ≡ status.Done) ⊎ (answer ≡ status.Failed) → answer ≡ status.WriteFault → ⊥
      not_write (inl a) e = cc
      not_write (inr a) e = cc

      not_bad : (answer ≡ status.Done) ⊎ (answer ≡ status.Failed) → answer ≡ status.BadScript → ⊥
      not_bad (inl a) e = cc
      not_bad (inr a) e = cc

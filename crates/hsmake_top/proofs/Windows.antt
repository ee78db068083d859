-- What stands ahead of a place of a script, up to the limit.
use Rattle.std.proofs.Common.{◌≡◌, inl, inr, ℕ, ◌+◌, ◌-◌, ◌<◌, ◌≤◌, List, [], ◌++◌, length, take, refl, ap, sym, ◌∙◌, subst, arith, append_assoc, append-nil, length-append, take_all, Some, None}
use Rattle.std.specs.declared.option.Option.{Option}
use Rattle.std.specs.Option.{IfSome}
use Rattle.std.specs.Io.KnownBytes.{Consumes, IsAtEnd}
use Rattle.std.proofs.Math.Seq.{take-append-add, take-append_seam}
use Rattle.session_lang.specs.Spelling.{Said, IsCommand, spelling}
use Rattle.session_lang.specs.Script.{limit, BeginsNone, GoesOn}
use Rattle.session_lang.specs.declared.command.Command.{Command}
use Rattle.session_lang.specs.declared.command.Command.TheVariants as code
use Rattle.session_lang.specs.Meant.{AreSpansOf}
use Rattle.session_lang.proofs.Scripts.{bad_begins_none, bad_goes_on_not, part_begins_none, part_goes_on}
use Rattle.hsmake_top.specs.Stopped.{IsPart}
use Rattle.hsmake_top.specs.Ahead.{IsBadAhead, window}

-- the window over bytes that lie in it, and more behind them
pub windowed : (before : ℕ) (p r : List ℕ) → before + length p ≤ limit → window before (p ++ r) ≡ p ++ take (limit - before - length p) r
windowed before p r h =
    let n : limit - before ≡ length p + (limit - before - length p) = omega (arith, h) in
    ap (λ k. take k (p ++ r)) n ∙ take-append-add p r (limit - before - length p)

-- the bytes neither begin with a command nor begin one
pub bad_here : (before : ℕ) (p r : List ℕ) → before + length p ≤ limit → ((c : Said) (more last : List ℕ) → IsCommand c → p ++ more ≡ spelling c ++ last → ⊥) → IsBadAhead before (p ++ r) before
bad_here before p r h bad =
    let w = windowed before p r h in
    record {
      none = subst BeginsNone (sym w) (bad_begins_none p (take (limit - before - length p) r) bad);
      place = inr ((λ cut. bad_goes_on_not p (take (limit - before - length p) r) bad (subst GoesOn w cut.1)), refl);
    }

module _ (before : ℕ) (p r : List ℕ) (part : IsPart p) where
  -- the input ends in a command
  pub bad_end : before + length p ≤ limit → r ≡ [] → IsBadAhead before (p ++ r) before
  bad_end h e =
      let same : p ++ r ≡ p = ap (λ x. p ++ x) e ∙ append-nil p in
      let w : window before (p ++ r) ≡ p = ap (window before) same ∙ take_all (limit - before) p (omega (arith, h)) in
      record {
        none = subst BeginsNone (sym w) (part_begins_none p part);
        place = inr ((λ cut. absurd (let l : limit - before < length p = subst (λ x. limit - before < length x) same cut.0 in omega (arith, l, h))), refl);
      }

  -- the input goes on past the limit in a command
  pub bad_cut : before + length p ≡ limit → 0 < length r → IsBadAhead before (p ++ r) limit
  bad_cut h some =
      let n : limit - before ≡ length p = omega (arith, h) in
      let w : window before (p ++ r) ≡ p = ap (λ k. take k (p ++ r)) n ∙ take-append_seam p r in
      record {
        none = subst BeginsNone (sym w) (part_begins_none p part);
        place = inl ((omega (arith, n, some, length-append p r), subst GoesOn (sym w) (part_goes_on p part)), refl);
      }

-- what holds ahead after a piece was read holds ahead before
pub from_now : (l0 l1 : Option (List ℕ)) (p0 p1 piece : List ℕ) (before at : ℕ) → Consumes l0 l1 piece → p1 ≡ p0 ++ piece → ((r : List ℕ) → l1 ≡ Some r → IsBadAhead before (p1 ++ r) at)
    → IfSome l0 (λ bytes. IsBadAhead before (p0 ++ bytes) at)
from_now None l1 p0 p1 piece before at c e h = tt
from_now (Some xs) None p0 p1 piece before at c e h = absurd c
from_now (Some xs) (Some ys) p0 p1 piece before at c e h =
    subst (λ b. IsBadAhead before b at) (ap (λ q. q ++ ys) e ∙ append_assoc p0 piece ys ∙ ap (λ x. p0 ++ x) (sym c)) (h ys refl)

pub nothing_left : (l : Option (List ℕ)) (r : List ℕ) → IsAtEnd l → l ≡ Some r → r ≡ []
nothing_left None r a e = absurd (let h : ⊥ = cc in h)
nothing_left (Some xs) r a e = let h : xs ≡ r = cc in sym h ∙ a

pub something_left : (l : Option (List ℕ)) (r : List ℕ) → IfSome l (λ bytes. 0 < length bytes) → l ≡ Some r → 0 < length r
something_left None r a e = absurd (let h : ⊥ = cc in h)
something_left (Some xs) r a e = let h : xs ≡ r = cc in subst (λ x. 0 < length x) h a

-- spans lie in more bytes too
pub widened : (used total : ℕ) (command : Command) → used ≤ total → AreSpansOf used command → AreSpansOf total command
widened used total (code.Put path body) h s = ((s.0.0, omega (arith, h, s.0.1)), (s.1.0, omega (arith, h, s.1.1)))
widened used total (code.Flags words) h s = (s.0, omega (arith, h, s.1))
widened used total (code.Build jobs) h s = tt
widened used total code.Quit h s = tt
widened used total (code.Del path) h s = (s.0, omega (arith, h, s.1))

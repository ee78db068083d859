-- Closing frames one by one.
use Rattle.std.specs.Prelude.{if◌then◌else◌}
use Rattle.std.proofs.Common.{Bool, true, false, ◌≡◌, List, [], ◌∷◌, ◌++◌, length, ◌<◌, refl, ap, sym, ◌∙◌, append_assoc, arith}
use Rattle.std.proofs.lemmas.List.{append-nil}
use Rattle.hs_syntax.specs.declared.token.PutSign.{PutSign}
use Rattle.hs_layout.specs.declared.frame.Frame.{Frame}
use Rattle.hs_layout.specs.declared.look.Look.{Look}
use Rattle.hs_layout.specs.declared.look.Look.TheVariants.{Here, On, Nowhere}
use Rattle.hs_layout.specs.declared.look.Target.{Target}
use Rattle.hs_layout.specs.Follows.{Follows}
use Rattle.hs_layout.specs.Looks.{look_at, look_top}
use Rattle.hs_layout.specs.Rules.{Step, stay, closing, close, down_past, down_to}

-- what is left to do is what was to be done
pub record Left (t : Target) (old now : List Frame) (before after : List PutSign) : Type 0 where
  pub frames : (down_to t now).frames ≡ (down_to t old).frames
  pub puts : after ++ (down_to t now).puts ≡ before ++ (down_to t old).puts

pub begun : (t : Target) (old : List Frame) (before : List PutSign) → Left t old old before before
begun t old before = record { frames = refl; puts = refl }

passed : (t : Target) (f : Frame) (fs : List Frame) → look_at t f ≡ On → down_to t (f ∷ fs) ≡ record { puts = closing f ++ (down_to t fs).puts; frames = (down_to t fs).frames }
passed t f fs e = ap (λ z. down_past z f fs (down_to t fs)) e

pub turn : (t : Target) (old now next : List Frame) (before after pushed : List PutSign) → Left t old now before after → look_top t now ≡ On → Follows (close now) next after pushed → Left t old next before pushed
turn t old [] next before after pushed g h w = absurd (let x : Here ≡ On = h in cc)
turn t old (f ∷ fs) next before after pushed g h w =
    let one : down_to t (f ∷ fs) ≡ record { puts = closing f ++ (down_to t fs).puts; frames = (down_to t fs).frames } = passed t f fs h in
    record {
      frames = ap (λ z. (down_to t z).frames) w.0 ∙ sym (ap (λ (s : Step). s.frames) one) ∙ g.frames;
      puts = ap (λ z. pushed ++ (down_to t z).puts) w.0 ∙ ap (λ z. z ++ (down_to t fs).puts) w.1 ∙ append_assoc after (closing f) (down_to t fs).puts ∙ sym (ap (λ (s : Step). after ++ s.puts) one) ∙ g.puts;
    }

stopped : (l : Look) (f : Frame) (fs : List Frame) (s : Step) → (l ≡ On → ⊥) → down_past l f fs s ≡ stay (f ∷ fs)
stopped On f fs s h = absurd (h refl)
stopped Here f fs s h = refl
stopped Nowhere f fs s h = refl

stays : (t : Target) (now : List Frame) → (look_top t now ≡ On → ⊥) → down_to t now ≡ stay now
stays t [] h = refl
stays t (f ∷ fs) h = stopped (look_at t f) f fs (down_to t fs) h

pub nothing_closes : (b : Bool) (t : Target) (fs : List Frame) → (look_top t fs ≡ On → ⊥) → (if b then down_to t fs else stay fs) ≡ stay fs
nothing_closes true t fs h = stays t fs h
nothing_closes false t fs h = refl

pub done : (t : Target) (old now : List Frame) (before after : List PutSign) → Left t old now before after → (look_top t now ≡ On → ⊥) → Follows (down_to t old) now before after
done t old now before after g h =
    let one : down_to t now ≡ stay now = stays t now h in
    (sym (ap (λ (s : Step). s.frames) one) ∙ g.frames, sym (append-nil after) ∙ ap (λ (s : Step). after ++ s.puts) (sym one) ∙ g.puts)

pub shorter : (t : Target) (now next : List Frame) (after pushed : List PutSign) → look_top t now ≡ On → Follows (close now) next after pushed → length next < length now
shorter t [] next after pushed h w = absurd (let x : Here ≡ On = h in cc)
shorter t (f ∷ fs) next after pushed h w = let e : length next ≡ length fs = ap length w.0 in omega arith

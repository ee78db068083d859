-- The parts without an expression in them are read exactly.
use Rattle.std.proofs.Common.{◌≡◌, ◌+◌, ◌*◌, ◌≤◌, true, false, List, [], ◌∷◌, length, refl, ap, arith}
use Rattle.hs_syntax.specs.declared.token.Token.{Token}
use Rattle.hs_syntax.specs.declared.sign.Sign.{Sign}
use Rattle.hs_syntax.specs.declared.sign.Sign.TheVariants.{Equals, Bar, Back, Arrow}
use Rattle.hs_syntax.specs.Signs.{sign_of}
use Rattle.hs_syntax.specs.Reading.{begins, is_arrow}
use Rattle.hs_syntax.proofs.Sound.{sound_as}
use Rattle.hs_parts.specs.Grammar.{IsLhs}
use Rattle.hs_parts.specs.NameReaders.{qconop_by}
use Rattle.hs_parts.specs.SideReaders.{ends_side, side_at}
use Rattle.hs_parts.proofs.NamesSound.{qvar_sound, gcon_sound, qop_sound}
use Rattle.hs_parts.proofs.NamesComplete.{qvar_complete, gcon_complete, qop_complete}
use Rattle.hs_parts.proofs.PatternsSound.{pattern_sound, all_apats_sound}
use Rattle.hs_parts.proofs.PatternsComplete.{PatternEnds, apats_go_on, pattern_complete, all_apats_complete}
use Rattle.hs_parts.proofs.ContextsSound.{qualified_sound, qualified_tail_sound}
use Rattle.hs_parts.proofs.ContextsComplete.{qualified_complete, qualified_tail_complete}
use Rattle.hs_parts.proofs.SidesSound.{LhsAt, side_sound}
use Rattle.hs_parts.proofs.SidesComplete.{side_complete}
use Rattle.hs_parts.proofs.SigsSound.{sig_sound, fix_sound}
use Rattle.hs_parts.proofs.SigsComplete.{sig_complete, fix_complete}
use Rattle.expr_parts.proofs.PartsSound.{PartsSound}
use Rattle.expr_parts.proofs.PartsComplete.{Parts, PartsComplete, ends_pattern, ends_lhs}

parts_sound : PartsSound
parts_sound = record {
  qvar = qvar_sound;
  gcon = gcon_sound;
  qop = qop_sound;
  pattern = pattern_sound;
  apats = all_apats_sound;
  lhs = λ ts. sound_as (LhsAt ts) (IsLhs ts) (side_at ts) (side_sound ts) (λ rest x d. d.0);
  sig = sig_sound;
  fix = fix_sound;
  qualified = qualified_sound;
  before_arrow = qualified_tail_sound;
}

-- what stands behind a pattern
pattern_kind : (t : Token) (b : List Token) (k : Sign) → sign_of t ≡ k → ends_pattern k ≡ true → PatternEnds (t ∷ b)
pattern_kind t b Back e f = record { apats = ap apats_go_on e; operator = ap (qconop_by t b) e }
pattern_kind t b Arrow e f = record { apats = ap apats_go_on e; operator = ap (qconop_by t b) e }
pattern_kind t b Bar e f = record { apats = ap apats_go_on e; operator = ap (qconop_by t b) e }
pattern_kind t b _ e f = absurd (let x : ⊥ = cc in x)

pattern_ends : (b : List Token) → begins ends_pattern b ≡ true → PatternEnds b
pattern_ends [] e = absurd (let x : ⊥ = cc in x)
pattern_ends (t ∷ b) e = pattern_kind t b (sign_of t) refl e

arrow_kind : (k : Sign) → is_arrow k ≡ true → apats_go_on k ≡ false
arrow_kind Arrow e = refl
arrow_kind _ e = absurd (let x : ⊥ = cc in x)

arrow_ends : (b : List Token) → begins is_arrow b ≡ true → begins apats_go_on b ≡ false
arrow_ends [] e = refl
arrow_ends (t ∷ b) e = arrow_kind (sign_of t) e

side_kind : (k : Sign) → ends_lhs k ≡ true → ends_side k ≡ true
side_kind Equals e = refl
side_kind Bar e = refl
side_kind _ e = absurd (let x : ⊥ = cc in x)

side_ends : (b : List Token) → begins ends_lhs b ≡ true → begins ends_side b ≡ true
side_ends [] e = e
side_ends (t ∷ b) e = side_kind (sign_of t) e

parts_complete : PartsComplete
parts_complete = record {
  qvar = λ d. qvar_complete d;
  gcon = λ d. gcon_complete d;
  qop = λ d. qop_complete d;
  pattern = λ n {a} {b} d e h. pattern_complete n d (pattern_ends b e) (let k : 8 * length a + 4 ≤ n = omega arith in k);
  apats = λ n {a} {b} d e h. all_apats_complete n d (arrow_ends b e) (let k : 8 * length a + 3 ≤ n = omega arith in k);
  lhs = λ {a} {b} d e. side_complete d (side_ends b e);
  sig = λ n {a} d e h. sig_complete n d e (let k : 8 * length a + 3 ≤ n = omega arith in k);
  fix = λ n {a} d e h. fix_complete n d e (let k : 8 * length a + 1 ≤ n = omega arith in k);
  qualified = λ n {a} d e h. qualified_complete n d e (let k : 8 * length a + 3 ≤ n = omega arith in k);
  before_arrow = λ n {a} d e f h. qualified_tail_complete n d e f (let k : 8 * length a + 3 ≤ n = omega arith in k);
}

pub parts : Parts
parts = record { sound = parts_sound; complete = parts_complete }

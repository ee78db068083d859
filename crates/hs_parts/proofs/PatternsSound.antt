-- What is read as a pattern is derived as one.
use Rattle.std.proofs.Common.{◌≡◌, ℕ, suc, zero, Bool, true, false, cond, List, [], ◌∷◌, ◌++◌, Some, None, refl, sym, ap, ◌∙◌, append_assoc, subst}
use Rattle.std.proofs.lemmas.List.{append-nil}
use Rattle.mk_base.specs.declared.place.Pos.{Pos}
use Rattle.hs_syntax.specs.declared.token.Token.{Token}
use Rattle.hs_syntax.specs.declared.sign.Sign.{Sign}
use Rattle.hs_syntax.specs.declared.sign.Sign.TheVariants.{Minus, Number, Quoted, OpenBrace, CloseBrace, OpenParen, CloseParen, OpenSquare, CloseSquare, Comma, Wild, Equals, As, Tilde}
use Rattle.hs_syntax.specs.declared.name_ref.NameRef.{NameRef}
use Rattle.hs_syntax.specs.declared.pattern_tree.GconTree.{GconTree}
use Rattle.hs_syntax.specs.declared.pattern_tree.PatTree.{PatTree}
use Rattle.hs_syntax.specs.declared.pattern_tree.PatLink.{PatLink}
use Rattle.hs_syntax.specs.declared.pattern_tree.PatOperand.{PatOperand}
use Rattle.hs_syntax.specs.declared.pattern_tree.PatOperand.TheVariants as operand
use Rattle.hs_syntax.specs.declared.pattern_tree.ApatTree.{ApatTree}
use Rattle.hs_syntax.specs.declared.pattern_tree.ApatTree.TheVariants as apat
use Rattle.hs_syntax.specs.declared.pattern_tree.FpatTree.{FpatTree}
use Rattle.hs_syntax.specs.Signs.{sign_of}
use Rattle.hs_syntax.specs.Reading.{Found, and_then, or_else_by, with_first, begins, behind, and_behind, with_sign, is_comma, is_close_paren, is_close_square, is_equals}
use Rattle.hs_syntax.specs.Made.{pat_tree, pat_link, fpat_tree}
use Rattle.hs_syntax.proofs.Sound.{Sound, sound_then, sound_as, sound_or_by, sound_behind, sound_sign}
use Rattle.hs_parts.specs.Names.{place, IsVar, IsQvar, IsQcon, IsGcon, IsQconop}
use Rattle.hs_parts.specs.NameReaders.{var_at, qvar_at, qcon_at, gcon_at, qconop_at}
use Rattle.hs_parts.specs.PatternReaders.{PatternReaders, pattern_readers, no_patterns, next_patterns, begins_apat, is_as, is_brace, is_close_brace, pattern_by, chain_by, con_at, minus_by, minus_number, operand_at, operand_by, apat_by, as_pattern, var_pattern}
use Rattle.hs_parts.specs.PatternReaders.{fields_at, record_pattern, named_pattern, begins_symbol, tuple_pattern, list_pattern, lazy_pattern, single_by, field_at, fpat_by, pattern_at, apats_at, some_apats}
use Rattle.hs_parts.specs.Grammar.{IsPattern, ChainPattern, IsOperands, LastOperand, MoreOperands, IsOperand, NumberOperand, MinusOperand, AppliedOperand, SingleOperand, IsApats, NoApats, MoreApats, IsApat, ConApat, NumberApat, SingleApat}
use Rattle.hs_parts.specs.Grammar.{IsSingle, VarSingle, AsSingle, EmptySingle, RecordSingle, QuotedSingle, WildSingle, TupleSingle, ListSingle, LazySingle, IsPatterns, LastPattern, MorePatterns, IsFpats, LastFpat, MoreFpats, IsFpat, FieldFpat}
use Rattle.hs_parts.proofs.NamesSound.{comma_of, close_paren_of, close_square_of, var_sound, qvar_sound, qcon_sound, gcon_sound, qconop_sound}

as_of : (k : Sign) → is_as k ≡ true → k ≡ As
as_of As e = refl
as_of _ e = cc

brace_of : (k : Sign) → is_brace k ≡ true → k ≡ OpenBrace false
brace_of (OpenBrace false) e = refl
brace_of (OpenBrace true) e = cc
brace_of _ e = cc

close_brace_of : (k : Sign) → is_close_brace k ≡ true → k ≡ CloseBrace false
close_brace_of (CloseBrace false) e = refl
close_brace_of (CloseBrace true) e = cc
close_brace_of _ e = cc

equals_of : (k : Sign) → is_equals k ≡ true → k ≡ Equals
equals_of Equals e = refl
equals_of _ e = cc

-- what is read behind these
abbrev pub Chained : Pos → List PatLink → List Token → List Token → PatTree → Type 0
Chained at ls ts to p = (ms : List PatLink) × (x : PatOperand) × (p ≡ pat_tree at (ls ++ ms) x) × IsOperands ts to ms x

abbrev pub Apats : List ApatTree → List Token → List Token → List ApatTree → Type 0
Apats ps ts to qs = (rs : List ApatTree) × (qs ≡ ps ++ rs) × IsApats ts to rs

abbrev pub Patterns : List PatTree → List Token → List Token → List PatTree → Type 0
Patterns ps ts to qs = (rs : List PatTree) × (qs ≡ ps ++ rs) × IsPatterns ts to rs

abbrev pub Fpats : List FpatTree → List Token → List Token → List FpatTree → Type 0
Fpats fs ts to gs = (hs : List FpatTree) × (gs ≡ fs ++ hs) × IsFpats ts to hs

pub record SoundPatterns (r : PatternReaders) : Type 0 where
  pub chain : (at : Pos) (ls : List PatLink) (ts : List Token) → Sound (Chained at ls ts) (r.chain at ls ts)
  pub operand : (ts : List Token) → Sound (IsOperand ts) (r.operand ts)
  pub apats : (ps : List ApatTree) (ts : List Token) → Sound (Apats ps ts) (r.apats ps ts)
  pub apat : (ts : List Token) → Sound (IsApat ts) (r.apat ts)
  pub single : (ts : List Token) → Sound (IsSingle ts) (r.single ts)
  pub patterns : (ps : List PatTree) (ts : List Token) → Sound (Patterns ps ts) (r.patterns ps ts)
  pub fpats : (fs : List FpatTree) (ts : List Token) → Sound (Fpats fs ts) (r.fpats fs ts)

pub pattern_by_sound : (r : PatternReaders) → SoundPatterns r → (ts : List Token) → Sound (IsPattern ts) (pattern_by r ts)
pattern_by_sound r s ts = sound_as (Chained (place ts) [] ts) (IsPattern ts) (r.chain (place ts) [] ts) (s.chain (place ts) [] ts)
    (λ to p c. subst (λ q. IsPattern ts to q) (sym c.2) (ChainPattern c.3))

chain_sound : (r : PatternReaders) → SoundPatterns r → (at : Pos) (ls : List PatLink) (ts b : List Token) (x : PatOperand) → IsOperand ts b x
    → Sound (Chained at ls ts) (chain_by r at ls (place ts) x b)
chain_sound r s at ls ts b x d = sound_or_by (IsQconop b) (Chained at ls ts) (qconop_at b) (λ q rest. r.chain at (ls ++ pat_link (place ts) x q ∷ []) rest) (Some (pat_tree at ls x, b))
    (qconop_sound b)
    (λ q rest e. sound_as (Chained at (ls ++ pat_link (place ts) x q ∷ []) rest) (Chained at ls ts) (r.chain at (ls ++ pat_link (place ts) x q ∷ []) rest)
    (s.chain at (ls ++ pat_link (place ts) x q ∷ []) rest)
    (λ to p c. (pat_link (place ts) x q ∷ c.0, c.1, c.2 ∙ ap (λ ms. pat_tree at ms c.1) (append_assoc ls (pat_link (place ts) x q ∷ []) c.0), MoreOperands d e c.3)))
    ([], x, ap (λ ms. pat_tree at ms x) (sym (append-nil ls)), LastOperand d)

con_if : (ts rest : List Token) (g : GconTree) → IsGcon ts rest g → (b : Bool) → Sound (IsGcon ts) (cond b None (Some (g, rest)))
con_if ts rest g d true = tt
con_if ts rest g d false = d

con_sound : (ts : List Token) → Sound (IsGcon ts) (con_at ts)
con_sound ts = sound_then (IsGcon ts) (IsGcon ts) (gcon_at ts) (λ g rest. cond (begins is_brace rest) None (Some (g, rest))) (gcon_sound ts)
    (λ g rest d. con_if ts rest g d (begins is_brace rest))

minus_by_sound : (m : Token) → sign_of m ≡ Minus → (t : Token) (ts : List Token) (k : Sign) → sign_of t ≡ k → Sound (IsOperand (m ∷ t ∷ ts)) (minus_by m.at t ts k)
minus_by_sound m e t ts Number f = MinusOperand e f
minus_by_sound m e t ts _ f = tt

minus_sound : (m : Token) → sign_of m ≡ Minus → (ts : List Token) → Sound (IsOperand (m ∷ ts)) (minus_number m.at ts)
minus_sound m e [] = tt
minus_sound m e (t ∷ ts) = minus_by_sound m e t ts (sign_of t) refl

operand_at_sound : (r : PatternReaders) → SoundPatterns r → (a : List Token) → Sound (IsOperand a) (operand_at r (place a) a)
operand_at_sound r s a = sound_or_by (IsGcon a) (IsOperand a) (con_at a) (λ g rest. and_then (r.apats [] rest) (λ ps last. Some (operand.Applied (place a) g ps, last)))
    (and_then (r.single a) (λ p rest. Some (operand.Single (place a) p, rest)))
    (con_sound a)
    (λ g rest d. sound_then (Apats [] rest) (IsOperand a) (r.apats [] rest) (λ ps last. Some (operand.Applied (place a) g ps, last)) (s.apats [] rest)
    (λ ps last c. subst (λ qs. IsOperand a last (operand.Applied (place a) g qs)) (sym c.1) (AppliedOperand d c.2)))
    (sound_then (IsSingle a) (IsOperand a) (r.single a) (λ p rest. Some (operand.Single (place a) p, rest)) (s.single a) (λ p rest d. SingleOperand d))

operand_by_sound : (r : PatternReaders) → SoundPatterns r → (t : Token) (ts : List Token) (k : Sign) → sign_of t ≡ k → Sound (IsOperand (t ∷ ts)) (operand_by r t ts k)
operand_by_sound r s t ts Number e = NumberOperand e
operand_by_sound r s t ts Minus e = minus_sound t e ts
operand_by_sound r s t ts _ e = operand_at_sound r s (t ∷ ts)

operand_sound : (r : PatternReaders) → SoundPatterns r → (ts : List Token) → Sound (IsOperand ts) (with_first ts None (operand_by r))
operand_sound r s [] = tt
operand_sound r s (t ∷ ts) = operand_by_sound r s t ts (sign_of t) refl

apats_sound : (r : PatternReaders) → SoundPatterns r → (ps : List ApatTree) (ts : List Token) (b : Bool)
    → Sound (Apats ps ts) (cond b (and_then (r.apat ts) (λ p rest. r.apats (ps ++ p ∷ []) rest)) (Some (ps, ts)))
apats_sound r s ps ts true = sound_then (IsApat ts) (Apats ps ts) (r.apat ts) (λ p rest. r.apats (ps ++ p ∷ []) rest) (s.apat ts)
    (λ p rest d. sound_as (Apats (ps ++ p ∷ []) rest) (Apats ps ts) (r.apats (ps ++ p ∷ []) rest) (s.apats (ps ++ p ∷ []) rest)
    (λ to qs c. (p ∷ c.0, c.1 ∙ append_assoc ps (p ∷ []) c.0, MoreApats d c.2)))
apats_sound r s ps ts false = ([], sym (append-nil ps), NoApats)

apat_at_sound : (r : PatternReaders) → SoundPatterns r → (t : Token) (ts : List Token)
    → Sound (IsApat (t ∷ ts)) (or_else_by (con_at (t ∷ ts)) (λ g rest. Some (apat.Con t.at g, rest)) (r.single (t ∷ ts)))
apat_at_sound r s t ts = sound_or_by (IsGcon (t ∷ ts)) (IsApat (t ∷ ts)) (con_at (t ∷ ts)) (λ g rest. Some (apat.Con t.at g, rest)) (r.single (t ∷ ts)) (con_sound (t ∷ ts))
    (λ g rest d. ConApat d) (sound_as (IsSingle (t ∷ ts)) (IsApat (t ∷ ts)) (r.single (t ∷ ts)) (s.single (t ∷ ts)) (λ rest x d. SingleApat d))

apat_by_sound : (r : PatternReaders) → SoundPatterns r → (t : Token) (ts : List Token) (k : Sign) → sign_of t ≡ k → Sound (IsApat (t ∷ ts)) (apat_by r t ts k)
apat_by_sound r s t ts Number e = NumberApat e
apat_by_sound r s t ts _ e = apat_at_sound r s t ts

apat_sound : (r : PatternReaders) → SoundPatterns r → (ts : List Token) → Sound (IsApat ts) (with_first ts None (apat_by r))
apat_sound r s [] = tt
apat_sound r s (t ∷ ts) = apat_by_sound r s t ts (sign_of t) refl

var_pattern_sound : (r : PatternReaders) → SoundPatterns r → (a b : List Token) (n : NameRef) → IsVar a b n → Sound (IsSingle a) (var_pattern r (place a) n b)
var_pattern_sound r s a b n d = sound_behind is_as (IsSingle a) b (λ c. and_then (r.apat c) (λ p rest. Some (as_pattern (place a) n p, rest))) (Some (apat.Var (place a) n None, b))
    (λ t c e f. sound_then (IsApat c) (IsSingle a) (r.apat c) (λ p rest. Some (as_pattern (place a) n p, rest)) (s.apat c)
    (λ p rest g. AsSingle (subst (λ z. IsVar a z n) e d) (as_of (sign_of t) f) g))
    (VarSingle d)

record_closes : (a : List Token) (n : NameRef) (o : Token) (c : List Token) → IsQcon a (o ∷ c) n → sign_of o ≡ OpenBrace false → (fs : List FpatTree) (b : List Token) → Fpats [] c b fs
    → Sound (IsSingle a) (with_sign (behind is_close_brace b) (apat.Record (place a) n fs))
record_closes a n o c d e fs b m = sound_sign is_close_brace (IsSingle a) b (apat.Record (place a) n fs)
    (λ q to g f. subst (λ gs. IsSingle a to (apat.Record (place a) n gs)) (sym m.1) (RecordSingle d e (subst (λ z. IsFpats c z m.0) g m.2) (close_brace_of (sign_of q) f)))

fields_sound : (r : PatternReaders) → SoundPatterns r → (a : List Token) (n : NameRef) (o : Token) (c : List Token) → IsQcon a (o ∷ c) n → sign_of o ≡ OpenBrace false
    → Sound (IsSingle a) (fields_at r (place a) n c)
fields_sound r s a n o c d e = sound_behind is_close_brace (IsSingle a) c (λ rest. Some (apat.Record (place a) n [], rest))
    (and_then (r.fpats [] c) (λ fs rest. with_sign (behind is_close_brace rest) (apat.Record (place a) n fs)))
    (λ q to g f. EmptySingle (subst (λ z. IsQcon a (o ∷ z) n) g d) e (close_brace_of (sign_of q) f))
    (sound_then (Fpats [] c) (IsSingle a) (r.fpats [] c) (λ fs rest. with_sign (behind is_close_brace rest) (apat.Record (place a) n fs)) (s.fpats [] c)
    (λ fs b m. record_closes a n o c d e fs b m))

record_sound : (r : PatternReaders) → SoundPatterns r → (a b : List Token) (n : NameRef) → IsQcon a b n → Sound (IsSingle a) (record_pattern r (place a) n b)
record_sound r s a b n d = sound_behind is_brace (IsSingle a) b (fields_at r (place a) n) None
    (λ o c e f. fields_sound r s a n o c (subst (λ z. IsQcon a z n) e d) (brace_of (sign_of o) f)) tt

named_sound : (r : PatternReaders) → SoundPatterns r → (a : List Token) → Sound (IsSingle a) (named_pattern r (place a) a)
named_sound r s a = sound_or_by (IsVar a) (IsSingle a) (var_at a) (var_pattern r (place a)) (and_then (qcon_at a) (record_pattern r (place a))) (var_sound a)
    (λ n b d. var_pattern_sound r s a b n d)
    (sound_then (IsQcon a) (IsSingle a) (qcon_at a) (record_pattern r (place a)) (qcon_sound a) (λ n b d. record_sound r s a b n d))

tuple_closes : (o : Token) (ts : List Token) → sign_of o ≡ OpenParen → (ps : List PatTree) (b : List Token) → Patterns [] ts b ps → Sound (IsSingle (o ∷ ts)) (tuple_pattern o.at ps b)
tuple_closes o ts e ps b d = sound_sign is_close_paren (IsSingle (o ∷ ts)) b (apat.Tuple o.at ps)
    (λ c to g h. subst (λ qs. IsSingle (o ∷ ts) to (apat.Tuple o.at qs)) (sym d.1) (TupleSingle e (subst (λ z. IsPatterns ts z d.0) g d.2) (close_paren_of (sign_of c) h)))

list_closes : (o : Token) (ts : List Token) → sign_of o ≡ OpenSquare → (ps : List PatTree) (b : List Token) → Patterns [] ts b ps → Sound (IsSingle (o ∷ ts)) (list_pattern o.at ps b)
list_closes o ts e ps b d = sound_sign is_close_square (IsSingle (o ∷ ts)) b (apat.List o.at ps)
    (λ c to g h. subst (λ qs. IsSingle (o ∷ ts) to (apat.List o.at qs)) (sym d.1) (ListSingle e (subst (λ z. IsPatterns ts z d.0) g d.2) (close_square_of (sign_of c) h)))

paren_sound : (r : PatternReaders) → SoundPatterns r → (o : Token) (ts : List Token) → sign_of o ≡ OpenParen → (b : Bool)
    → Sound (IsSingle (o ∷ ts)) (cond b (named_pattern r o.at (o ∷ ts)) (and_then (r.patterns [] ts) (tuple_pattern o.at)))
paren_sound r s o ts e true = named_sound r s (o ∷ ts)
paren_sound r s o ts e false = sound_then (Patterns [] ts) (IsSingle (o ∷ ts)) (r.patterns [] ts) (tuple_pattern o.at) (s.patterns [] ts) (λ ps b d. tuple_closes o ts e ps b d)

single_by_sound : (r : PatternReaders) → SoundPatterns r → (t : Token) (ts : List Token) (k : Sign) → sign_of t ≡ k → Sound (IsSingle (t ∷ ts)) (single_by r t ts k)
single_by_sound r s t ts Quoted e = QuotedSingle e
single_by_sound r s t ts Wild e = WildSingle e
single_by_sound r s t ts OpenParen e = paren_sound r s t ts e (begins_symbol ts)
single_by_sound r s t ts OpenSquare e = sound_then (Patterns [] ts) (IsSingle (t ∷ ts)) (r.patterns [] ts) (list_pattern t.at) (s.patterns [] ts) (λ ps b d. list_closes t ts e ps b d)
single_by_sound r s t ts Tilde e = sound_then (IsApat ts) (IsSingle (t ∷ ts)) (r.apat ts) (λ p rest. Some (lazy_pattern t.at p, rest)) (s.apat ts) (λ p rest d. LazySingle e d)
single_by_sound r s t ts _ e = named_sound r s (t ∷ ts)

single_sound : (r : PatternReaders) → SoundPatterns r → (ts : List Token) → Sound (IsSingle ts) (with_first ts None (single_by r))
single_sound r s [] = tt
single_sound r s (t ∷ ts) = single_by_sound r s t ts (sign_of t) refl

patterns_sound : (r : PatternReaders) → SoundPatterns r → (ps : List PatTree) (ts b : List Token) (p : PatTree) → IsPattern ts b p
    → Sound (Patterns ps ts) (and_behind (behind is_comma b) (r.patterns (ps ++ p ∷ [])) (Some (ps ++ p ∷ [], b)))
patterns_sound r s ps ts b p d = sound_behind is_comma (Patterns ps ts) b (r.patterns (ps ++ p ∷ [])) (Some (ps ++ p ∷ [], b))
    (λ m rest e f. sound_as (Patterns (ps ++ p ∷ []) rest) (Patterns ps ts) (r.patterns (ps ++ p ∷ []) rest) (s.patterns (ps ++ p ∷ []) rest)
    (λ to qs c. (p ∷ c.0, c.1 ∙ append_assoc ps (p ∷ []) c.0, MorePatterns (subst (λ z. IsPattern ts z p) e d) (comma_of (sign_of m) f) c.2)))
    (p ∷ [], refl, LastPattern d)

-- a field and the = behind it
abbrev Field : List Token → List Token → NameRef → Type 0
Field ts to n = (t : Token) × IsQvar ts (t ∷ to) n × (sign_of t ≡ Equals)

field_sound : (ts : List Token) → Sound (Field ts) (field_at ts)
field_sound ts = sound_then (IsQvar ts) (Field ts) (qvar_at ts) (λ n rest. with_sign (behind is_equals rest) n) (qvar_sound ts)
    (λ n rest d. sound_sign is_equals (Field ts) rest n (λ t to e f. (t, subst (λ z. IsQvar ts z n) e d, equals_of (sign_of t) f)))

fpat_sound : (r : PatternReaders) → SoundPatterns r → (ts : List Token) → Sound (IsFpat ts) (fpat_by r ts)
fpat_sound r s ts = sound_then (Field ts) (IsFpat ts) (field_at ts) (λ n rest. and_then (pattern_by r rest) (λ p last. Some (fpat_tree (place ts) n p, last))) (field_sound ts)
    (λ n rest c. sound_then (IsPattern rest) (IsFpat ts) (pattern_by r rest) (λ p last. Some (fpat_tree (place ts) n p, last)) (pattern_by_sound r s rest)
    (λ p last d. FieldFpat c.1 c.2 d))

fpats_sound : (r : PatternReaders) → SoundPatterns r → (fs : List FpatTree) (ts b : List Token) (f : FpatTree) → IsFpat ts b f
    → Sound (Fpats fs ts) (and_behind (behind is_comma b) (r.fpats (fs ++ f ∷ [])) (Some (fs ++ f ∷ [], b)))
fpats_sound r s fs ts b f d = sound_behind is_comma (Fpats fs ts) b (r.fpats (fs ++ f ∷ [])) (Some (fs ++ f ∷ [], b))
    (λ m rest e g. sound_as (Fpats (fs ++ f ∷ []) rest) (Fpats fs ts) (r.fpats (fs ++ f ∷ []) rest) (s.fpats (fs ++ f ∷ []) rest)
    (λ to qs c. (f ∷ c.0, c.1 ∙ append_assoc fs (f ∷ []) c.0, MoreFpats (subst (λ z. IsFpat ts z f) e d) (comma_of (sign_of m) g) c.2)))
    (f ∷ [], refl, LastFpat d)

next_patterns_sound : (r : PatternReaders) → SoundPatterns r → SoundPatterns (next_patterns r)
next_patterns_sound r s = record {
  chain = λ at ls ts. sound_then (IsOperand ts) (Chained at ls ts) (r.operand ts) (λ x rest. chain_by r at ls (place ts) x rest) (s.operand ts) (λ x rest d. chain_sound r s at ls ts rest x d);
  operand = operand_sound r s;
  apats = λ ps ts. apats_sound r s ps ts (begins begins_apat ts);
  apat = apat_sound r s;
  single = single_sound r s;
  patterns = λ ps ts. sound_then (IsPattern ts) (Patterns ps ts) (pattern_by r ts) (λ p rest. and_behind (behind is_comma rest) (r.patterns (ps ++ p ∷ [])) (Some (ps ++ p ∷ [], rest)))
      (pattern_by_sound r s ts) (λ p rest d. patterns_sound r s ps ts rest p d);
  fpats = λ fs ts. sound_then (IsFpat ts) (Fpats fs ts) (fpat_by r ts) (λ f rest. and_behind (behind is_comma rest) (r.fpats (fs ++ f ∷ [])) (Some (fs ++ f ∷ [], rest)))
      (fpat_sound r s ts) (λ f rest d. fpats_sound r s fs ts rest f d);
}

pub patterns_are_sound : (n : ℕ) → SoundPatterns (pattern_readers n)
unfolding pattern_readers
patterns_are_sound zero = record { chain = λ at ls ts. tt; operand = λ ts. tt; apats = λ ps ts. tt; apat = λ ts. tt; single = λ ts. tt; patterns = λ ps ts. tt; fpats = λ fs ts. tt }
patterns_are_sound (suc n) = next_patterns_sound (pattern_readers n) (patterns_are_sound n)

-- a pattern, and patterns one after another
pub pattern_sound : (n : ℕ) (ts : List Token) → Sound (IsPattern ts) (pattern_at n ts)
pattern_sound n ts = pattern_by_sound (pattern_readers n) (patterns_are_sound n) ts

pub all_apats_sound : (n : ℕ) (ts : List Token) → Sound (IsApats ts) (apats_at n ts)
all_apats_sound n ts = sound_as (Apats [] ts) (IsApats ts) (apats_at n ts) ((patterns_are_sound n).apats [] ts) (λ to ps c. subst (λ qs. IsApats ts to qs) (sym c.1) c.2)

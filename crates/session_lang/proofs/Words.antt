-- The words of a `flags` command, and the line feed behind them.
use Rattle.std.proofs.Common.{◌≡◌, ℕ, ◌<◌, ◌≤◌, ◌+◌, ◌-◌, ◌*◌, List, [], ◌∷◌, ◌++◌, length, take, drop, get_or, refl, ap, sym, ◌∙◌, subst, arith, append_assoc, length-append, length-drop, length-take, min}
use Rattle.std.specs.List.{AllByRecursion}
use Rattle.std.proofs.lemmas.List.{append-nil, append_cancel_left, take-append-drop, take_all}
use Rattle.std.proofs.lemmas.Grind.{flat_map-append}
use Rattle.std.proofs.Math.Seq.{take-append_seam}
use Rattle.session_lang.proofs.Split.{next}
use Rattle.session_lang.proofs.Seq.{longer}
use Rattle.session_lang.specs.Spelling.{Ext, ImplicitPrelude, NoImplicitPrelude, MonomorphismRestriction, NoMonomorphismRestriction, Haskell2010, IsFlagWord, IsFlagWords, ext_name, ext_names, line}

-- any byte but those below a space, as a line feed
abbrev pub IsTextByte : ℕ → Type 0
IsTextByte b = 32 ≤ b

both : (P : ℕ → Type 0) (xs ys : List ℕ) → AllByRecursion P xs → AllByRecursion P ys → AllByRecursion P (xs ++ ys)
both P [] ys p q = q
both P (x ∷ xs) ys p q = (p.0, both P xs ys p.1 q)

name_text : (e : Ext) → AllByRecursion IsTextByte (ext_name e)
name_text ImplicitPrelude = Prim.search arith
name_text NoImplicitPrelude = Prim.search arith
name_text MonomorphismRestriction = Prim.search arith
name_text NoMonomorphismRestriction = Prim.search arith
name_text Haskell2010 = Prim.search arith

names_text : (es : List Ext) → AllByRecursion IsTextByte (ext_names es)
names_text [] = tt
names_text (e ∷ es) = (omega arith, both IsTextByte (ext_name e) (ext_names es) (name_text e) (names_text es))

pub all_text : (text : List ℕ) → IsFlagWords text → AllByRecursion IsTextByte text
all_text text h = subst (AllByRecursion IsTextByte) (sym h.1) (names_text h.0)

-- two bytes that tell a word from the others
abbrev initial : Ext → ℕ
initial ImplicitPrelude = 73 * 256 + 112
initial NoImplicitPrelude = 78 * 256 + 73
initial MonomorphismRestriction = 77 * 256 + 110
initial NoMonomorphismRestriction = 78 * 256 + 77
initial Haskell2010 = 72 * 256 + 115

-- no word begins another
name_free : (e f : Ext) (x y : List ℕ) → ext_name e ++ x ≡ ext_name f ++ y → x ≡ y
name_free ImplicitPrelude ImplicitPrelude x y h = append_cancel_left (ext_name ImplicitPrelude) x y h
name_free NoImplicitPrelude NoImplicitPrelude x y h = append_cancel_left (ext_name NoImplicitPrelude) x y h
name_free MonomorphismRestriction MonomorphismRestriction x y h = append_cancel_left (ext_name MonomorphismRestriction) x y h
name_free NoMonomorphismRestriction NoMonomorphismRestriction x y h = append_cancel_left (ext_name NoMonomorphismRestriction) x y h
name_free Haskell2010 Haskell2010 x y h = append_cancel_left (ext_name Haskell2010) x y h
name_free e f x y h = let k : initial e ≡ initial f = ap (λ s. get_or s 0 0 * 256 + get_or s 2 0) h in absurd (omega arith)

-- one word more
pub words_push : (text word : List ℕ) → IsFlagWords text → IsFlagWord word → IsFlagWords (text ++ word)
words_push text word h w =
    (h.0 ++ w.0 ∷ [], ap (λ t. t ++ word) h.1 ∙ ap (λ t. ext_names h.0 ++ t) (w.1 ∙ sym (append-nil (32 ∷ ext_name w.0))) ∙ sym (flat_map-append (λ e. 32 ∷ ext_name e) h.0 (w.0 ∷ [])))

heads : (a b : ℕ) (x y : List ℕ) → a ∷ x ≡ b ∷ y → a ≡ b
heads a b x y e = cc

-- where neither a word nor the line feed follows some words, they begin no line of words
module _ (ahead : List ℕ) (no_end : (last : List ℕ) → ahead ≡ 10 ∷ last → ⊥) (no_word : (word last : List ℕ) → IsFlagWord word → ahead ≡ word ++ last → ⊥) where
  no_line : (es fs : List Ext) (last : List ℕ) → ext_names es ++ ahead ≡ line (ext_names fs) ++ last → ⊥
  no_line [] [] last h = no_end last h
  no_line [] (f ∷ fs) last h =
      no_word (32 ∷ ext_name f) (line (ext_names fs) ++ last) (f, refl)
      (h ∙ append_assoc (ext_names (f ∷ fs)) (10 ∷ []) last ∙ append_assoc (32 ∷ ext_name f) (ext_names fs) (10 ∷ last) ∙ ap (λ t. (32 ∷ ext_name f) ++ t) (sym (append_assoc (ext_names fs) (10 ∷ []) last)))
  no_line (e ∷ es) [] last h = absurd (omega (arith, heads 32 10 ((ext_name e ++ ext_names es) ++ ahead) last h))
  no_line (e ∷ es) (f ∷ fs) last h =
      let g : 32 ∷ (ext_name e ++ (ext_names es ++ ahead)) ≡ 32 ∷ (ext_name f ++ (line (ext_names fs) ++ last)) =
      sym (append_assoc (32 ∷ ext_name e) (ext_names es) ahead) ∙ h ∙ append_assoc (ext_names (f ∷ fs)) (10 ∷ []) last ∙ append_assoc (32 ∷ ext_name f) (ext_names fs) (10 ∷ last)
      ∙ ap (λ t. (32 ∷ ext_name f) ++ t) (sym (append_assoc (ext_names fs) (10 ∷ []) last)) in
      let k : ext_name e ++ (ext_names es ++ ahead) ≡ ext_name f ++ (line (ext_names fs) ++ last) = ap (drop 1) g in
      no_line es fs last (name_free e f (ext_names es ++ ahead) (line (ext_names fs) ++ last) k)

  pub no_text : (front text last : List ℕ) → IsFlagWords front → IsFlagWords text → front ++ ahead ≡ line text ++ last → ⊥
  no_text front text last p q h = no_line p.0 q.0 last (ap (λ t. t ++ ahead) (sym p.1) ∙ h ∙ ap (λ t. line t ++ last) q.1)

-- bytes that were read as words up to a place
module _ (bytes : List ℕ) (at : ℕ) (within : at ≤ length bytes) where
  abbrev pub ahead_of : List ℕ
  ahead_of = take (length bytes - at) (drop at bytes)

  all_ahead : ahead_of ≡ drop at bytes
  all_ahead = take_all (length bytes - at) (drop at bytes) (omega (arith, length-drop at bytes))

  joined : take at bytes ++ ahead_of ≡ bytes
  joined = ap (λ t. take at bytes ++ t) all_ahead ∙ take-append-drop at bytes

  pub one_word : (word last : List ℕ) → ahead_of ≡ word ++ last → (at + length word ≤ length bytes) × (take (at + length word) bytes ≡ take at bytes ++ word)
  one_word word last e =
      let front : List ℕ = take at bytes in
      let whole : bytes ≡ (front ++ word) ++ last = sym joined ∙ ap (λ t. front ++ t) e ∙ sym (append_assoc front word last) in
      let len : length front ≡ at = length-take at bytes ∙ (let m : min at (length bytes) ≡ at = omega arith in m) in
      let many : at + length word ≡ length (front ++ word) = omega (arith, len, length-append front word) in (
        omega (arith, many, ap length whole, length-append (front ++ word) last),
        ap (λ k. take k bytes) many ∙ ap (take (length (front ++ word))) whole ∙ take-append_seam (front ++ word) last,
      )

  pub part_of_line : IsFlagWords (take at bytes) → (word more : List ℕ) → IsFlagWord word → (more ≡ [] → ⊥) → ahead_of ++ more ≡ word
      → (text last : List ℕ) × IsFlagWords text × (last ≡ [] → ⊥) × (bytes ++ last ≡ line text)
  part_of_line ok word more w ne e =
      let front : List ℕ = take at bytes in (
        front ++ word,
        more ++ 10 ∷ [],
        words_push front word ok w,
        longer more (10 ∷ []) ne,
        ap (λ t. t ++ (more ++ 10 ∷ [])) (sym joined) ∙ append_assoc front ahead_of (more ++ 10 ∷ []) ∙ ap (λ t. front ++ t) (sym (append_assoc ahead_of more (10 ∷ [])))
            ∙ ap (λ t. front ++ (t ++ 10 ∷ [])) e ∙ sym (append_assoc front word (10 ∷ [])),
      )

  pub no_part : at < length bytes → (get_or bytes at 0 ≡ 10 → ⊥) → ((word more last : List ℕ) → IsFlagWord word → ahead_of ++ more ≡ word ++ last → ⊥) → IsFlagWords (take at bytes)
      → (text more last : List ℕ) → IsFlagWords text → bytes ++ more ≡ line text ++ last → ⊥
  no_part lt other none ok text more last h e =
      no_text (ahead_of ++ more)
      (λ tail g. other (heads (get_or bytes at 0) 10 (drop (at + 1) bytes ++ more) tail (ap (λ t. t ++ more) (sym (all_ahead ∙ next bytes at lt)) ∙ g)))
      (λ word tail w g. none word more tail w g)
      (take at bytes) text last ok h (sym (append_assoc (take at bytes) ahead_of more) ∙ ap (λ t. t ++ more) joined ∙ e)

-- A command is its word and what follows it.
use Rattle.std.proofs.Common.{◌≡◌, ℕ, List, [], ◌∷◌, ◌++◌, length, codes, get_or, refl, ap, sym, ◌∙◌, append_assoc}
use Rattle.std.proofs.lemmas.List.{append_cancel_left}
use Rattle.std.specs.Fmt.{decimal}
use Rattle.session_lang.specs.Spelling.{Said, Put, Flags, Build, Quit, Del, IsCommand, spelling, line, spaced}
use Rattle.session_lang.specs.Meant.{form}
use Rattle.session_lang.proofs.Seq.{longer}

-- the word of each form, up to what the command says
abbrev pub words : List (List ℕ)
words = codes "put " ∷ codes "flags" ∷ codes "build " ∷ line (codes "quit") ∷ codes "del " ∷ []

abbrev pub word : ℕ → List ℕ
word k = get_or words k []

abbrev pub tail : Said → List ℕ
tail (Put path body) = spaced path ++ (line (decimal (length body)) ++ line body)
tail (Flags words) = line words
tail (Build n) = line (decimal n)
tail Quit = []
tail (Del path) = line path

pub by_word : (c : Said) → spelling c ≡ word (form c) ++ tail c
by_word (Put path body) = refl
by_word (Flags flags) = refl
by_word (Build n) = refl
by_word Quit = refl
by_word (Del path) = refl

module _ (k : ℕ) (bytes : List ℕ) where
  abbrev pub Refuted : Type 0
  Refuted = (c : Said) (more rest : List ℕ) → IsCommand c × (form c ≡ k) → bytes ++ more ≡ spelling c ++ rest → ⊥

  abbrev pub GoesOn : Type 0
  GoesOn = (c : Said) × (more : List ℕ) × (IsCommand c × (form c ≡ k)) × (more ≡ [] → ⊥) × (bytes ++ more ≡ spelling c)

  spelled_as : (c : Said) → form c ≡ k → spelling c ≡ word k ++ tail c
  spelled_as c f = by_word c ∙ ap (λ j. word j ++ tail c) f

  pub other_word : ((u : Unit {0}) (more rest : List ℕ) → Unit {0} → bytes ++ more ≡ word k ++ rest → ⊥) → Refuted
  other_word h c more rest ok e = h tt more (tail c ++ rest) tt (e ∙ ap (λ s. s ++ rest) (spelled_as c ok.1) ∙ append_assoc (word k) (tail c) rest)

  pub part_of_word : (more : List ℕ) → (more ≡ [] → ⊥) → bytes ++ more ≡ word k → (c : Said) → IsCommand c → form c ≡ k → GoesOn
  part_of_word more ne e c ok f =
      (c, more ++ tail c, (ok, f), longer more (tail c) ne, sym (append_assoc bytes more (tail c)) ∙ ap (λ s. s ++ tail c) e ∙ sym (spelled_as c f))

  pub other_tail : (rest : List ℕ) → bytes ≡ word k ++ rest → ((c : Said) (more last : List ℕ) → IsCommand c → form c ≡ k → rest ++ more ≡ tail c ++ last → ⊥) → Refuted
  other_tail rest front h c more last ok e =
      h c more last ok.0 ok.1 (append_cancel_left (word k) (rest ++ more) (tail c ++ last)
      (sym (append_assoc (word k) rest more) ∙ ap (λ s. s ++ more) (sym front) ∙ e ∙ ap (λ s. s ++ last) (spelled_as c ok.1) ∙ append_assoc (word k) (tail c) last))

  pub part_of_tail : (rest : List ℕ) → bytes ≡ word k ++ rest → (c : Said) (more : List ℕ) → IsCommand c → form c ≡ k → (more ≡ [] → ⊥) → rest ++ more ≡ tail c → GoesOn
  part_of_tail rest front c more ok f ne e =
      (c, more, (ok, f), ne, ap (λ s. s ++ more) front ∙ append_assoc (word k) rest more ∙ ap (λ s. word k ++ s) e ∙ sym (spelled_as c f))

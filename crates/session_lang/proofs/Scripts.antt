-- A script has one reading.
use Rattle.std.proofs.Common.{◌≡◌, ◌≢◌, ℕ, ◌<◌, ◌+◌, ◌⊎◌, inl, inr, List, [], ◌∷◌, ◌++◌, length, refl, ap, sym, ◌∙◌, subst, arith, append_assoc, length-append}
use Rattle.std.specs.List.{AllByRecursion}
use Rattle.std.proofs.lemmas.List.{append-nil, append_cancel_left}
use Rattle.std.proofs.lemmas.Grind.{flat_map-append}
use Rattle.session_lang.specs.Spelling.{Said, Put, Flags, Build, Quit, Del, IsCommand, spelling}
use Rattle.session_lang.specs.Script.{IsPlain, IsCut, GoesOn, BeginsNone, spellings, ScriptsHaveOneReading, GoodIsNotBad, BadPlacesAreOne}
use Rattle.session_lang.proofs.Laws.{free}
use Rattle.session_lang.proofs.Next.{not_both}

-- the first commands of two texts of commands are one, and so is what follows them
pub head : (c d : Said) (cs ds : List Said) (x y : List ℕ) → IsCommand c → IsCommand d → spellings (c ∷ cs) ++ x ≡ spellings (d ∷ ds) ++ y → (c ≡ d) × (spellings cs ++ x ≡ spellings ds ++ y)
head c d cs ds x y p q e =
    free c d (spellings cs ++ x) (spellings ds ++ y) p q (sym (append_assoc (spelling c) (spellings cs) x) ∙ e ∙ append_assoc (spelling d) (spellings ds) y)

-- a text that begins with a plain command begins with no quit
pub not_quit : (c : Said) (cs : List Said) (x y : List ℕ) → IsPlain c → spellings (c ∷ cs) ++ x ≡ spelling Quit ++ y → ⊥
not_quit c cs x y p e = p.1 (free c Quit (spellings cs ++ x) y p.0 tt (sym (append_assoc (spelling c) (spellings cs) x) ∙ e)).0

-- what begins with no command begins with no list of commands
pub not_some : (c : Said) (cs : List Said) (x rest : List ℕ) → IsPlain c → BeginsNone rest → spellings (c ∷ cs) ++ x ≡ rest → ⊥
not_some c cs x rest p none e = none c (spellings cs ++ x) p.0 (sym e ∙ append_assoc (spelling c) (spellings cs) x)

pub one_reading : (cs ds : List Said) (x y : List ℕ) → AllByRecursion IsPlain cs → AllByRecursion IsPlain ds → spellings cs ++ (spelling Quit ++ x) ≡ spellings ds ++ (spelling Quit ++ y) → cs ≡ ds
one_reading [] [] x y p q e = refl
one_reading [] (d ∷ ds) x y p q e = absurd (not_quit d ds (spelling Quit ++ y) x q.0 (sym e))
one_reading (c ∷ cs) [] x y p q e = absurd (not_quit c cs (spelling Quit ++ x) y p.0 e)
one_reading (c ∷ cs) (d ∷ ds) x y p q e =
    let f = head c d cs ds (spelling Quit ++ x) (spelling Quit ++ y) p.0.0 q.0.0 e in
    ap (λ z. z ∷ cs) f.0 ∙ ap (λ zs. d ∷ zs) (one_reading cs ds x y p.1 q.1 f.1)

pub not_bad : (cs ds : List Said) (rest y : List ℕ) → AllByRecursion IsPlain cs → AllByRecursion IsPlain ds → BeginsNone rest → spellings cs ++ rest ≡ spellings ds ++ (spelling Quit ++ y) → ⊥
not_bad [] [] rest y p q none e = none Quit y tt e
not_bad [] (d ∷ ds) rest y p q none e = not_some d ds (spelling Quit ++ y) rest q.0 none (sym e)
not_bad (c ∷ cs) [] rest y p q none e = not_quit c cs rest y p.0 e
not_bad (c ∷ cs) (d ∷ ds) rest y p q none e = not_bad cs ds rest y p.1 q.1 none (head c d cs ds rest (spelling Quit ++ y) p.0.0 q.0.0 e).1

pub same_bad : (cs ds : List Said) (x y : List ℕ) → AllByRecursion IsPlain cs → AllByRecursion IsPlain ds → BeginsNone x → BeginsNone y → spellings cs ++ x ≡ spellings ds ++ y → cs ≡ ds
same_bad [] [] x y p q a b e = refl
same_bad [] (d ∷ ds) x y p q a b e = absurd (not_some d ds y x q.0 a (sym e))
same_bad (c ∷ cs) [] x y p q a b e = absurd (not_some c cs x y p.0 b e)
same_bad (c ∷ cs) (d ∷ ds) x y p q a b e =
    let f = head c d cs ds x y p.0.0 q.0.0 e in
    ap (λ z. z ∷ cs) f.0 ∙ ap (λ zs. d ∷ zs) (same_bad cs ds x y p.1 q.1 a b f.1)

-- the commands of a longer reading begin with those of a shorter one
pub begins_so : (cs ds : List Said) (x rest : List ℕ) → AllByRecursion IsPlain cs → AllByRecursion IsPlain ds → BeginsNone rest ⊎ ((y : List ℕ) × (rest ≡ spelling Quit ++ y)) → spellings cs ++ x ≡ spellings ds ++ rest → (es : List Said) × (ds ≡ cs ++ es)
begins_so [] ds x rest p q end e = (ds, refl)
begins_so (c ∷ cs) [] x rest p q end e = elim end [ inl none ↦ absurd (not_some c cs x rest p.0 none e) | inr y ↦ absurd (not_quit c cs x y.0 p.0 (e ∙ y.1)) ]
begins_so (c ∷ cs) (d ∷ ds) x rest p q end e =
    let f = head c d cs ds x rest p.0.0 q.0.0 e in
    let r = begins_so cs ds x rest p.1 q.1 end f.1 in
    (r.0, ap (λ z. z ∷ ds) (sym f.0) ∙ ap (λ zs. c ∷ zs) r.1)

-- one command more
pub all_push : (cs : List Said) (c : Said) → AllByRecursion IsPlain cs → IsPlain c → AllByRecursion IsPlain (cs ++ c ∷ [])
all_push [] c p q = (q, tt)
all_push (d ∷ cs) c p q = (p.0, all_push cs c p.1 q)

pub flat_more : (cs : List Said) (c : Said) → spellings (cs ++ c ∷ []) ≡ spellings cs ++ spelling c
flat_more cs c = flat_map-append spelling cs (c ∷ []) ∙ ap (λ x. spellings cs ++ x) (append-nil (spelling c))

-- a spelling isn't empty
pub some_spelling : (c : Said) → 0 < length (spelling c)
some_spelling (Put path body) = omega arith
some_spelling (Flags words) = omega arith
some_spelling (Build n) = omega arith
some_spelling Quit = omega arith
some_spelling (Del path) = omega arith

-- the commands so far, and the next
pub one_more : (bytes : List ℕ) (cs : List Said) (c : Said) (x rest : List ℕ) → bytes ≡ spellings cs ++ x → x ≡ spelling c ++ rest → bytes ≡ spellings (cs ++ c ∷ []) ++ rest
one_more bytes cs c x rest e f = e ∙ ap (λ y. spellings cs ++ y) f ∙ sym (append_assoc (spellings cs) (spelling c) rest) ∙ ap (λ y. y ++ rest) (sym (flat_more cs c))

pub length_more : (cs : List Said) (c : Said) → length (spellings (cs ++ c ∷ [])) ≡ length (spellings cs) + length (spelling c)
length_more cs c = ap length (flat_more cs c) ∙ length-append (spellings cs) (spelling c)

-- what is no beginning of a spelling begins with none, however it goes on
pub bad_begins_none : (bytes rest : List ℕ) → ((c : Said) (more last : List ℕ) → IsCommand c → bytes ++ more ≡ spelling c ++ last → ⊥) → BeginsNone (bytes ++ rest)
bad_begins_none bytes rest h c more ok e = h c rest more ok e

pub bad_goes_on_not : (bytes rest : List ℕ) → ((c : Said) (more last : List ℕ) → IsCommand c → bytes ++ more ≡ spelling c ++ last → ⊥) → GoesOn (bytes ++ rest) → ⊥
bad_goes_on_not bytes rest h g = h g.0 (rest ++ g.1) [] g.2 (sym (append_assoc bytes rest g.1) ∙ g.3 ∙ sym (append-nil (spelling g.0)))

-- a proper beginning of a spelling begins with none
pub part_begins_none : (bytes : List ℕ) → ((c : Said) × (more : List ℕ) × IsCommand c × (more ≢ []) × (bytes ++ more ≡ spelling c)) → BeginsNone bytes
part_begins_none bytes h d x ok e = h.3 (not_both bytes x h.1 d h.0 ok h.2 e h.4)

pub part_goes_on : (bytes : List ℕ) → ((c : Said) × (more : List ℕ) × IsCommand c × (more ≢ []) × (bytes ++ more ≡ spelling c)) → GoesOn bytes
part_goes_on bytes h = (h.0, h.1, h.2, h.4)

-- The laws of scripts.
pub reading : ScriptsHaveOneReading
reading bytes cs ds s t = one_reading cs ds s.1.0 t.1.0 s.0 t.0 (sym s.1.1 ∙ t.1.1)

pub apart : GoodIsNotBad
apart bytes cs ds at s t = not_bad ds cs t.rest s.1.0 t.plain s.0 t.none (sym t.front ∙ s.1.1)

pub place : BadPlacesAreOne
place bytes cs ds at other s t =
    let same = same_bad cs ds s.rest t.rest s.plain t.plain s.none t.none (sym s.front ∙ t.front) in
    let rest : s.rest ≡ t.rest = append_cancel_left (spellings ds) s.rest t.rest (ap (λ z. spellings z ++ s.rest) (sym same) ∙ sym s.front ∙ t.front) in (
      same,
      elim s.place [
        | inl a ↦ elim t.place [
          | inl b ↦ a.1 ∙ sym b.1
          | inr b ↦ absurd (b.0 (subst (IsCut bytes) rest a.0))
        ]
        | inr a ↦ elim t.place [
          | inl b ↦ absurd (a.0 (subst (IsCut bytes) (sym rest) b.0))
          | inr b ↦ a.1 ∙ ap (λ z. length (spellings z)) same ∙ sym b.1
        ]
      ],
    )

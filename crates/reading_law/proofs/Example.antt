-- The worked example's check reads what it lists, and its language meets what is asked of it.
use Rattle.std.proofs.Common.{◌≡◌, ℕ, Bool, true, false, List, [], ◌∷◌, refl, ap, sym, ◌∙◌, cond, Some, None, Ok, Err, nat_eq}
use Rattle.std.specs.Prelude.{Result}
use Rattle.std.specs.List.{list_all, AllByRecursion}
use Rattle.build_theory.specs.Build.{Tree}
use Rattle.build_theory.specs.Laws.{IsExact, LawOfReading}
use Rattle.build_theory.specs.Example.{Source, same_numbers}
use Rattle.build_theory.proofs.Example.{tells, adding_exact}
use Rattle.build_theory.proofs.Lists.{and_both, differ}
use Rattle.reading_law.specs.Reading.{Gives, ReadsOnly, walk, queries}
use Rattle.reading_law.specs.Compose.{reads_each}
use Rattle.reading_law.specs.Recheck.{IsComposed, IsKept, IsCompared, MarksTell, UsesTell}
use Rattle.reading_law.specs.Example.{Answer, Face, Faces, Why, OtherSource, OtherUse, ask, known, where_known, first_fault, all_known, imports_in, reached, stage, one_read, reads, print_of, checking, same_answer, is_current, linking}
use Rattle.reading_law.proofs.Stages.{behind_reads, each_reads}
use Rattle.reading_law.proofs.Walks.{walk_reads}
use Rattle.reading_law.proofs.Follows.{follows, answers_tell}

pub linking_exact : IsExact linking
linking_exact = record { tells = adding_exact.tells; itself = adding_exact.itself }

only_one : {X Y : Type 0} {a b : X} → ◌≡◌ {A = Result X Y} (Ok a) (Ok b) → a ≡ b
only_one e = cc

known_reads : ReadsOnly ask (Gives known) one_read
known_reads n m v w e a = ap (where_known n) (sym a.0) ∙ e

all_known_reads : ReadsOnly ask (Gives all_known) (λ (s : Source) ns. reads_each one_read s.imports ns)
all_known_reads s ns v w e a = each_reads ask first_fault known one_read known_reads s.imports ns v w e a

reached_reads : ReadsOnly ask (Gives reached) (λ p ps. queries ps)
reached_reads p ps v w e a =
    let seen : walk ask imports_in nat_eq 100 [] p.0.imports v ≡ ps = only_one e in
    let is : walk ask imports_in nat_eq 100 [] p.0.imports w ≡ ps = walk_reads ask imports_in nat_eq 100 (λ (p : Source × List ℕ). p.0.imports) p ps v w seen a in
    ap (λ ps. Ok ps) is

pub stage_reads : ReadsOnly ask (Gives stage) reads
stage_reads = behind_reads ask all_known reached (λ (s : Source) ns. reads_each one_read s.imports ns) (λ p ps. queries ps) all_known_reads reached_reads

pub composed : (trees : List (Tree ℕ ℕ Source)) → IsComposed linking checking trees
composed trees t i q env free = refl

pub kept : (trees : List (Tree ℕ ℕ Source)) → IsKept linking checking trees
kept trees = record { whole = λ n x y v h e. refl; mark = λ n x y v h e. refl; uses = λ n x y v h e. refl }

same_lists : (a b : List ℕ) → same_numbers a b ≡ true → a ≡ b
same_lists [] [] e = refl
same_lists [] (y ∷ b) e = absurd (differ (sym e))
same_lists (x ∷ a) [] e = absurd (differ (sym e))
same_lists (x ∷ a) (y ∷ b) e =
    let h = and_both (nat_eq x y) (same_numbers a b) e in
    let p : x ≡ y = tells x y h.0 in
    let q : a ≡ b = same_lists a b h.1 in
    cc

same_answers : (a b : Answer) → same_answer a b ≡ true → a ≡ b
same_answers (Some a) (Some b) e = ap (λ a. Some a) (same_lists a b e)
same_answers (Some a) None e = absurd (differ (sym e))
same_answers None (Some b) e = absurd (differ (sym e))
same_answers None None e = refl

module _ {X Y : Type 0} where
  only_if : (c : Bool) (y : Y) (r : Result X Y) (b : X) → cond c r (Err y) ≡ Ok b → (c ≡ true) × (r ≡ Ok b)
  only_if true y r b e = (refl, e)
  only_if false y r b e = absurd (let h : ⊥ = cc in h)

all_current : (v : Faces) (us : List (ℕ × Answer)) → list_all (is_current v) us ≡ true → AllByRecursion (λ (u : ℕ × Answer). u.1 ≡ ask v u.0) us
all_current v [] e = tt
all_current v (u ∷ us) e =
    let h = and_both (is_current v u) (list_all (is_current v) us) e in
    (same_answers u.1 (ask v u.0) h.0, all_current v us h.1)

pub compared : (trees : List (Tree ℕ ℕ Source)) → IsCompared linking checking trees
compared trees t i q env free k b was e =
    let on : Result Face Why = cond (list_all (is_current env) k.uses) (Ok k) (Err OtherUse) in
    let first = only_if (same_answer (print_of k.source) (print_of q.1)) OtherSource on b e in
    let second = only_if (list_all (is_current env) k.uses) OtherUse (Ok k) b first.1 in
    (sym (only_one second.1), same_answers (print_of k.source) (print_of q.1) first.0, all_current env k.uses second.0)

same_source : (a b : Source) → print_of a ≡ print_of b → a ≡ b
same_source a b e =
    let f : List ℕ → ℕ → Source = λ cs n. record { imports = cs; number = n } in
    let n : a.number ≡ b.number = cc in
    let i : a.imports ≡ b.imports = cc in
    ap (λ cs. f cs a.number) i ∙ ap (f b.imports) n

marks_tell : (trees : List (Tree ℕ ℕ Source)) → MarksTell linking checking trees
marks_tell trees n x z v w before now e = same_source x z e

uses_tell : (trees : List (Tree ℕ ℕ Source)) → UsesTell linking checking trees
uses_tell trees = answers_tell linking checking trees (λ x y q i. i) (λ n x v w q before now e. e)

pub linking_reads : (trees : List (Tree ℕ ℕ Source)) → LawOfReading linking trees
linking_reads trees = follows linking checking trees linking_exact (composed trees) (kept trees) (compared trees) stage_reads (marks_tell trees) (uses_tell trees)

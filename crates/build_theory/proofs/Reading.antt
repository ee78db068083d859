-- The worked example's language meets the law of reading.
use Rattle.std.proofs.Common.{◌≡◌, ℕ, Bool, true, false, List, [], ◌∷◌, refl, ap, sym, ◌∙◌, cond, Ok, Err, nat_eq}
use Rattle.std.specs.Prelude.{Result}
use Rattle.build_theory.specs.Build.{Tree, sorted}
use Rattle.build_theory.specs.Laws.{LawOfReading}
use Rattle.build_theory.specs.Example.{Source, Interface, Problem, NoNumber, Reason, NewSettings, NewSource, NewValue, adding, values, made, same_numbers, same_source}
use Rattle.build_theory.proofs.Lists.{differ, and_both}
use Rattle.build_theory.proofs.Example.{tells, adding_exact}
use Rattle.build_theory.proofs.Made.{was_made}

same_lists : (a b : List ℕ) → same_numbers a b ≡ true → a ≡ b
same_lists [] [] e = refl
same_lists [] (y ∷ b) e = absurd (differ (sym e))
same_lists (x ∷ a) [] e = absurd (differ (sym e))
same_lists (x ∷ a) (y ∷ b) e =
    let h = and_both (nat_eq x y) (same_numbers a b) e in
    let p : x ≡ y = tells x y h.0 in
    let q : a ≡ b = same_lists a b h.1 in
    cc

same_sources : (a b : Source) → same_source a b ≡ true → a ≡ b
same_sources a b e =
    let h = and_both (nat_eq a.number b.number) (same_numbers a.imports b.imports) e in
    let f : List ℕ → ℕ → Source = λ cs n. record { imports = cs; number = n } in
    ap (λ cs. f cs a.number) (same_lists a.imports b.imports h.1) ∙ ap (f b.imports) (tells a.number b.number h.0)

module _ {X Y : Type 0} where
  only_if_not : (c : Bool) (y : Y) (x b : X) → cond c (Err y) (Ok x) ≡ Ok b → (c ≡ false) × (b ≡ x)
  only_if_not true y x b e = absurd (let h : ⊥ = cc in h)
  only_if_not false y x b e = (refl, (let h : b ≡ x = cc in h))

  only_if : (c : Bool) (y : Y) (r : Result X Y) (b : X) → cond c r (Err y) ≡ Ok b → (c ≡ true) × (r ≡ Ok b)
  only_if true y r b e = (refl, e)
  only_if false y r b e = absurd (let h : ⊥ = cc in h)

only_one : {X Y : Type 0} {a b : X} → ◌≡◌ {A = Result X Y} (Ok a) (Ok b) → a ≡ b
only_one e = cc

-- what a check made
check_made : (t : Tree ℕ ℕ Source) (n : ℕ) (s : Source) (env : List (ℕ × Interface)) (b : Interface) → adding.check t n s env ≡ Ok b → (nat_eq s.number 0 ≡ false) × (b ≡ made t.settings s (values env s.imports))
check_made t n s env b e = only_if_not (nat_eq s.number 0) NoNumber (made t.settings s (values env s.imports)) b e

-- what is current agrees in its settings, its source and the values that were read
decide_made : (t : Tree ℕ ℕ Source) (n : ℕ) (s : Source) (k : Interface) (env : List (ℕ × Interface)) (b : Interface) → adding.decide t n s k env ≡ Ok b
    → (k ≡ b) × (k.base ≡ t.settings) × (k.source ≡ s) × (k.read ≡ values env s.imports)
decide_made t n s k env b e =
    let on : Result Interface Reason = cond (same_numbers k.read (values env s.imports)) (Ok k) (Err NewValue) in
    let first = only_if (nat_eq k.base t.settings) NewSettings (cond (same_source k.source s) on (Err NewSource)) b e in
    let second = only_if (same_source k.source s) NewSource on b first.1 in
    let third = only_if (same_numbers k.read (values env s.imports)) NewValue (Ok k) b second.1 in
    (only_one third.1, tells k.base t.settings first.0, same_sources k.source s second.0, same_lists k.read (values env s.imports) third.0)

pub adding_reads : (trees : List (Tree ℕ ℕ Source)) → LawOfReading adding trees
adding_reads trees t i q env free k b kept e =
    let d = decide_made (sorted adding t) q.0 q.1 k env b e in
    let m = was_made adding adding_exact kept.tree q.0 kept.interface kept.sound in
    let c = check_made (sorted adding kept.tree) q.0 m.0 m.1 kept.interface m.2 in
    let old : Interface = made kept.tree.settings m.0 (values m.1 m.0.imports) in
    let same : k ≡ old = kept.kept ∙ c.1 in
    let number : nat_eq q.1.number 0 ≡ false = ap (λ (s : Source). nat_eq s.number 0) (sym d.2 ∙ ap (λ (j : Interface). j.source) same) ∙ c.0 in
    let new : made t.settings q.1 (values env q.1.imports) ≡ old =
    ap (λ n. made n q.1 (values env q.1.imports)) (sym d.1 ∙ ap (λ (j : Interface). j.base) same)
    ∙ ap (λ s. made old.base s (values env q.1.imports)) (sym d.2 ∙ ap (λ (j : Interface). j.source) same)
    ∙ ap (made old.base old.source) (sym d.3 ∙ ap (λ (j : Interface). j.read) same) in
    let shown : Result Interface Problem = Ok (made t.settings q.1 (values env q.1.imports)) in
    ap (λ c. cond c (Err NoNumber) shown) number ∙ ap (λ x. Ok x) (new ∙ sym same ∙ d.0)

-- Names.
use Rattle.std.proofs.Common.{◌≡◌, ℕ, true, List, [], ◌∷◌, ◌++◌, ap, sym, ◌∙◌}
use Rattle.hs_lex.specs.declared.class.Part.TheVariants as part
use Rattle.hs_lex.specs.declared.class.Class.{Class}
use Rattle.hs_lex.specs.Classes.{in_part, class_of, in_name}
use Rattle.hs_lex.specs.Reading.{Runs, IsLongest, Nothing}
use Rattle.hs_lex.specs.Lexemes.{IsName, BeginsWith}
use Rattle.hs_lex.proofs.Runs.{run_is_longest, run_begins}

starts : (k : Class) (l m : List ℕ) (c : ℕ) → l ≡ c ∷ m → class_of c ≡ k → BeginsWith k l
starts k [] m c e h = cc
starts k (d ∷ l) m c e h = let q : d ≡ c = cc in ap class_of q ∙ h

pub name_some : (k : Class) (cs next rest : List ℕ) (c : ℕ) → in_name k ≡ true → cs ≡ c ∷ next → class_of c ≡ k → Runs part.Name cs rest → IsLongest (IsName k) cs rest
unfolding in_part
name_some k cs next rest c n e h run =
    let b = run_begins part.Name cs rest next c run e (ap in_name h ∙ n) in
    run_is_longest part.Name (IsName k) (λ l r x. x.1.0) cs rest run (starts k run.0 b.0 c b.1 h, (run.2, run.3))

front_class : (k : Class) (l r next : List ℕ) (c : ℕ) → BeginsWith k l → l ++ r ≡ c ∷ next → class_of c ≡ k
front_class k [] r next c b e = absurd b
front_class k (d ∷ l) r next c b e = let q : c ≡ d = cc in ap class_of q ∙ b

-- no text that begins with another class stands there
pub other_class : (k : Class) (L : List ℕ → List ℕ → Type 0) → ((l r : List ℕ) → L l r → BeginsWith k l) → (cs next : List ℕ) (c : ℕ) → cs ≡ c ∷ next → (class_of c ≡ k → ⊥) → Nothing L cs
other_class k L begins cs next c e never l r x f = never (front_class k l r next c (begins l r x) (sym f ∙ e))

no_text : (k : Class) (l r : List ℕ) → BeginsWith k l → l ++ r ≡ [] → ⊥
no_text k [] r b e = b
no_text k (c ∷ l) r b e = cc

pub no_class : (k : Class) (L : List ℕ → List ℕ → Type 0) → ((l r : List ℕ) → L l r → BeginsWith k l) → (cs : List ℕ) → cs ≡ [] → Nothing L cs
no_class k L begins cs e l r x f = no_text k l r (begins l r x) (sym f ∙ e)

-- A row at a place, and the count with one more row.
use Rattle.std.proofs.Common.{◌≡◌, ℕ, ◌+◌, ◌<◌, ◌≤◌, Bool, true, false, List, length, get_or, take, cond, ap, subst, sym, ◌∙◌, arith}
use Rattle.std.proofs.lemmas.List.{length-map, get_or-map}
use Rattle.std.proofs.lemmas.List.Elements.{All-from_recursion, All-get_or}
use Rattle.std.proofs.lemmas.List.Filters.{length-filter_more}
use Rattle.std.specs.List.{AllByRecursion}
use Rattle.face_model.specs.declared.result.How.{How}
use Rattle.face_model.specs.declared.result.NodeResult.{NodeResult}
use Rattle.report.specs.Report.{AreNamed, IsNamed, Row, count_of, row_of, rows_of}

pub named_at : (rs : List NodeResult) (i : ℕ) (x : NodeResult) → AreNamed rs → i < length rs → x ≡ get_or rs i x → IsNamed rs x.how
named_at rs i x all within is =
    let named = λ (r : NodeResult). IsNamed rs r.how in
    rw is (All-get_or named rs i x within (All-from_recursion named rs all))

pub all_named : (rs xs : List NodeResult) → rs ≡ xs → AllByRecursion (λ (r : NodeResult). IsNamed rs r.how) xs → AreNamed rs
all_named rs xs is named = subst (λ (ys : List NodeResult). AllByRecursion (λ (r : NodeResult). IsNamed rs r.how) ys) (sym is) named

pub named_by : (rs : List NodeResult) (x : NodeResult) (how : How) → x.how ≡ how → IsNamed rs how → IsNamed rs x.how
named_by rs x how is named = rw is named

count_more : (p : Row → Bool) (rs : List NodeResult) (i : ℕ) (x : NodeResult) → i < length rs → x ≡ get_or rs i x
    → count_of p (take (i + 1) (rows_of rs)) ≡ count_of p (take i (rows_of rs)) + cond (p (row_of rs x)) 1 0
count_more p rs i x within is =
    let inside : i < length (rows_of rs) = rw (length-map rs (row_of rs)) within in
    let at : get_or (rows_of rs) i (row_of rs x) ≡ row_of rs x = get_or-map (row_of rs) rs i x (row_of rs x) within ∙ ap (row_of rs) (sym is) in
    let more = length-filter_more p (rows_of rs) i (row_of rs x) inside in
    rw at at more

pub one_more : (p : Row → Bool) (rs : List NodeResult) (i n : ℕ) (x : NodeResult) → i < length rs → x ≡ get_or rs i x
    → p (row_of rs x) ≡ true → (n ≤ i) × (n ≡ count_of p (take i (rows_of rs)))
    → (n + 1 ≤ i + 1) × (n + 1 ≡ count_of p (take (i + 1) (rows_of rs)))
one_more p rs i n x within is passes before =
    let more = rw passes at (count_more p rs i x within is) in
    (omega arith, omega (arith, more, before.1))

pub none_more : (p : Row → Bool) (rs : List NodeResult) (i n : ℕ) (x : NodeResult) → i < length rs → x ≡ get_or rs i x
    → p (row_of rs x) ≡ false → (n ≤ i) × (n ≡ count_of p (take i (rows_of rs)))
    → (n ≤ i + 1) × (n ≡ count_of p (take (i + 1) (rows_of rs)))
none_more p rs i n x within is fails before =
    let more = rw fails at (count_more p rs i x within is) in
    (omega arith, omega (arith, more, before.1))

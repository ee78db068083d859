-- The rows of a build's report, and whether it failed.
use Rattle.std.proofs.Common.{◌≡◌, ℕ, zero, suc, ◌<◌, not, ◌||◌, List, [], ◌∷◌, length, map, slice_get, Some, None, is_some, refl, ap, sym, ◌∙◌, subst, arith}
use Rattle.std.specs.declared.option.Option.{Option}
use Rattle.std.specs.List.{AllByRecursion, list_any}
use Rattle.mk_base.specs.declared.name.Node.{Node}
use Rattle.mk_base.specs.declared.diag.Diag.{Diag}
use Rattle.face_model.specs.declared.result.Reason.{Reason}
use Rattle.face_model.specs.declared.result.How.{How}
use Rattle.face_model.specs.declared.result.How.TheVariants as how
use Rattle.face_model.specs.declared.result.NodeResult.{NodeResult}
use Rattle.build_theory.specs.Build.{Outcome, Sound, Failed, Blocked, is_sound}
use Rattle.build_theory.specs.Build as theory
use Rattle.report.specs.Report as report
use Rattle.report.specs.Report.{Row, Standing, AreNamed, IsNamed, need_at, reason_text, rows_of}
use Rattle.plain_scope.specs.declared.scope.Content.{Content}
use Rattle.plain_build.specs.Result.{PlainJudged, AreResults, IsResult, IsHow, HasOutcome, nodes_in}
use Rattle.hsmake_top.specs.Session.{diags_of, row_of, standing_of}

-- the nodes of the results
nodes_are : (unit : List ℕ) (ns : List Node) (rs : List NodeResult) (js : List (Node × PlainJudged)) → AreResults unit ns rs js → map (λ (r : NodeResult). r.node) rs ≡ nodes_in js
nodes_are unit ns [] [] h = refl
nodes_are unit ns [] (j ∷ js) h = absurd h
nodes_are unit ns (r ∷ rs) [] h = absurd h
nodes_are unit ns (r ∷ rs) (j ∷ js) h = ap (λ n. n ∷ map (λ (r : NodeResult). r.node) rs) h.0.0 ∙ ap (λ m. j.0 ∷ m) (nodes_are unit ns rs js h.1)

-- a need that is found by its place
found_at : (rs : List NodeResult) (i : ℕ) (n : Node) → slice_get (map (λ (r : NodeResult). r.node) rs) i ≡ Some n → (i < length rs) × (need_at (slice_get rs i) ≡ report.BlockedBy n)
found_at [] i n e = absurd (let h : ⊥ = cc in h)
found_at (r ∷ rs) zero n e = (omega arith, let h : r.node ≡ n = cc in ap (λ m. report.BlockedBy m) h)
found_at (r ∷ rs) (suc i) n e = let h = found_at rs i n e in (omega (arith, h.0), h.1)

standing_is : (rs : List NodeResult) (h : How) (k : theory.How Node Reason) → IsHow (map (λ (r : NodeResult). r.node) rs) h k → IsNamed rs h × (report.standing_of rs h ≡ standing_of k)
standing_is rs how.Current theory.Current p = (tt, refl)
standing_is rs (how.Checked reason subject) (theory.Checked r) p = (tt, ap (λ s. report.Checked (reason_text reason s)) p.1 ∙ ap (λ q. report.Checked (reason_text q [])) p.0)
standing_is rs how.Graph theory.Graph p = (tt, refl)
standing_is rs (how.Blocked id) (theory.Behind n) p = found_at rs id.0 n p
standing_is rs how.Current (theory.Checked r) p = absurd p
standing_is rs how.Current theory.Graph p = absurd p
standing_is rs how.Current (theory.Behind n) p = absurd p
standing_is rs (how.Checked reason subject) theory.Current p = absurd p
standing_is rs (how.Checked reason subject) theory.Graph p = absurd p
standing_is rs (how.Checked reason subject) (theory.Behind n) p = absurd p
standing_is rs how.Graph theory.Current p = absurd p
standing_is rs how.Graph (theory.Checked r) p = absurd p
standing_is rs how.Graph (theory.Behind n) p = absurd p
standing_is rs (how.Blocked id) theory.Current p = absurd p
standing_is rs (how.Blocked id) (theory.Checked r) p = absurd p
standing_is rs (how.Blocked id) theory.Graph p = absurd p

outcome_is : (unit : List ℕ) (ds : List Diag) (bytes : Option (List ℕ)) (o : Outcome Node Content (List Diag)) → HasOutcome unit ds bytes o → (ds ≡ diags_of o) × (is_some bytes ≡ is_sound o)
outcome_is unit ds (Some bytes) (Sound c) p = (p.0, refl)
outcome_is unit ds None (Sound c) p = absurd p
outcome_is unit ds bytes (Failed es) p = (p.0, ap is_some p.1)
outcome_is unit ds bytes (Blocked n) p = (p.0, ap is_some p.1)

row_is : (unit : List ℕ) (rs : List NodeResult) (r : NodeResult) (j : Node × PlainJudged) → IsResult unit (map (λ (r : NodeResult). r.node) rs) r j → IsNamed rs r.how × (report.row_of rs r ≡ row_of j)
row_is unit rs r j p =
    let s = standing_is rs r.how j.1.how p.1 in
    let o = outcome_is unit r.diags r.bytes j.1.outcome p.2 in
    (s.0, λ i. record { node = p.0 i; standing = s.1 i; diags = o.0 i; sound = o.1 i })

rows_are : (unit : List ℕ) (all rs : List NodeResult) (js : List (Node × PlainJudged)) → AreResults unit (map (λ (r : NodeResult). r.node) all) rs js
    → AllByRecursion (λ (r : NodeResult). IsNamed all r.how) rs × (map (report.row_of all) rs ≡ map row_of js)
rows_are unit all [] [] h = (tt, refl)
rows_are unit all [] (j ∷ js) h = absurd h
rows_are unit all (r ∷ rs) [] h = absurd h
rows_are unit all (r ∷ rs) (j ∷ js) h =
    let a = row_is unit all r j h.0 in
    let b = rows_are unit all rs js h.1 in
    ((a.0, b.0), ap (λ x. x ∷ map (report.row_of all) rs) a.1 ∙ ap (λ xs. row_of j ∷ xs) b.1)

-- the results of a build are reported as its rows
pub reported : (unit : List ℕ) (rs : List NodeResult) (js : List (Node × PlainJudged)) → AreResults unit (nodes_in js) rs js → AreNamed rs × (rows_of rs ≡ map row_of js)
reported unit rs js h = rows_are unit rs rs js (subst (λ ns. AreResults unit ns rs js) (sym (nodes_are unit (nodes_in js) rs js h)) h)

-- a node has no interface where it isn't sound
pub unsound : (unit : List ℕ) (ns : List Node) (rs : List NodeResult) (js : List (Node × PlainJudged)) → AreResults unit ns rs js
    → list_any (λ (r : NodeResult). not (is_some r.bytes)) rs ≡ list_any (λ (j : Node × PlainJudged). not (is_sound j.1.outcome)) js
unsound unit ns [] [] h = refl
unsound unit ns [] (j ∷ js) h = absurd h
unsound unit ns (r ∷ rs) [] h = absurd h
unsound unit ns (r ∷ rs) (j ∷ js) h =
    ap (λ b. not b || list_any (λ (r : NodeResult). not (is_some r.bytes)) rs) (outcome_is unit r.diags r.bytes j.1.outcome h.0.2).1
    ∙ ap (λ b. not (is_sound j.1.outcome) || b) (unsound unit ns rs js h.1)

-- The report of a build, line by line.
use Rattle.std.specs.Prelude.{ℕ, Bool, true, false, not, List, [], ◌∷◌, ◌++◌, map, length, slice_get, Some, None, codes, nat_eq, nat_lt, is_some, ◌<◌, if◌then◌else◌}
use Rattle.std.specs.declared.option.Option.{Option}
use Rattle.std.specs.List.{flat_map, filter, AllByRecursion}
use Rattle.std.specs.Fmt.{decimal}
use Rattle.hex.specs.Hex.{encode_lower}
use Rattle.mk_base.specs.declared.name.Node.{Node}
use Rattle.mk_base.specs.declared.diag.Diag.{Diag}
use Rattle.mk_base.specs.declared.fingerprint.Fingerprint.{Fingerprint}
use Rattle.face_model.specs.declared.result.Reason.{Reason}
use Rattle.face_model.specs.declared.result.Reason.TheVariants.{NoInterface, Malformed, Old, Damaged, Other, Source, Flags, Usage}
use Rattle.face_model.specs.declared.result.How.{How}
use Rattle.face_model.specs.declared.result.How.TheVariants as how
use Rattle.face_model.specs.declared.result.NodeResult.{NodeResult}

abbrev pub line : List ℕ → List ℕ
line words = words ++ 10 ∷ []

-- a node as the report names it, and the file of its source, which has slashes for the dots
abbrev pub node_text : Node → List ℕ
node_text n = n.module.text ++ (if n.boot then codes "[boot]" else [])

abbrev pub path_text : Node → List ℕ
path_text n = map (λ b. if nat_eq b 46 then 47 else b) n.module.text ++ (if n.boot then codes ".hs-boot" else codes ".hs")

-- 32 lower-case hexadecimal digits, or `none`
abbrev pub hash_text : Fingerprint → List ℕ
hash_text f = encode_lower f.0

abbrev pub hash_or_none : Option Fingerprint → List ℕ
hash_or_none (Some f) = hash_text f
hash_or_none None = codes "none"

abbrev pub was_now : List ℕ → List ℕ → List ℕ → List ℕ
was_now what was now = what ++ (codes ": was " ++ (was ++ (codes " now " ++ now)))

-- why a node was checked; a difference of what it used begins with the subject
abbrev pub reason_text : Reason → List ℕ → List ℕ
reason_text NoInterface subject = codes "no interface"
reason_text Malformed subject = codes "malformed interface"
reason_text (Old found) subject = codes "old interface"
reason_text (Damaged kept found) subject = codes "damaged interface: kept " ++ (hash_text kept ++ (codes " found " ++ hash_text found))
reason_text Other subject = codes "other interface"
reason_text (Source was now) subject = was_now (codes "source") (hash_text was) (hash_text now)
reason_text (Flags was now) subject = was_now (codes "flags") (hash_text was) (hash_text now)
reason_text (Usage at was now) subject = was_now subject (hash_or_none was) (hash_or_none now)

-- what the report says of a node
pub data Standing : Type 0 where
  Current : Standing
  Checked : List ℕ → Standing
  Failed : Standing
  BlockedBy : Node → Standing

pub record Row : Type 0 where
  pub node : Node
  pub standing : Standing
  pub diags : List Diag
  pub sound : Bool

abbrev pub standing_text : Standing → List ℕ
standing_text Current = codes ": current"
standing_text (Checked reason) = codes ": checked: " ++ reason
standing_text Failed = codes ": failed"
standing_text (BlockedBy n) = codes ": blocked by " ++ node_text n

-- `E` and at least two digits
abbrev pub code_text : ℕ → List ℕ
code_text n = codes "E" ++ ((if nat_lt n 10 then codes "0" else []) ++ decimal n)

abbrev pub diag_line : Node → Diag → List ℕ
diag_line n d = line (path_text n ++ (58 ∷ (decimal d.at.line ++ (58 ∷ (decimal d.at.col ++ (codes ": error " ++ (code_text d.code ++ (codes ": " ++ d.text))))))))

-- a node's line, and a line for each of its diagnostics
abbrev pub row_lines : Row → List ℕ
row_lines r = line (node_text r.node ++ standing_text r.standing) ++ flat_map (diag_line r.node) r.diags

abbrev pub is_checked : Standing → Bool
is_checked (Checked reason) = true
is_checked _ = false

-- failed in its graph stage, or checked with diagnostics
abbrev pub is_failed : Standing → Bool → Bool
is_failed Failed sound = true
is_failed (Checked reason) sound = not sound
is_failed _ sound = false

abbrev pub is_blocked : Standing → Bool
is_blocked (BlockedBy n) = true
is_blocked _ = false

abbrev pub count_of : (Row → Bool) → List Row → ℕ
count_of p rows = length (filter p rows)

abbrev pub checked_count : List Row → ℕ
checked_count rows = count_of (λ r. is_checked r.standing) rows

abbrev pub failed_count : List Row → ℕ
failed_count rows = count_of (λ r. is_failed r.standing r.sound) rows

abbrev pub blocked_count : List Row → ℕ
blocked_count rows = count_of (λ r. is_blocked r.standing) rows

-- the line for the whole build
abbrev pub last_line : List Row → List ℕ
last_line rows = line (codes "build: " ++ (decimal (count_of (λ r. r.sound) rows) ++ (codes " ok, " ++ (decimal (checked_count rows)
    ++ (codes " checked, " ++ (decimal (failed_count rows) ++ (codes " failed, " ++ (decimal (blocked_count rows) ++ codes " blocked"))))))))

-- a line for each node in order, with its diagnostics, and then the line for the whole build
abbrev pub report_of : List Row → List ℕ
report_of rows = flat_map row_lines rows ++ last_line rows

-- what the results of a build say, in which a need is named by its place
abbrev pub need_at : Option NodeResult → Standing
need_at (Some r) = BlockedBy r.node
need_at None = Failed

abbrev pub standing_of : List NodeResult → How → Standing
standing_of rs how.Current = Current
standing_of rs (how.Checked reason subject) = Checked (reason_text reason subject)
standing_of rs how.Graph = Failed
standing_of rs (how.Blocked id) = need_at (slice_get rs id.0)

abbrev pub row_of : List NodeResult → NodeResult → Row
row_of rs r = record { node = r.node; standing = standing_of rs r.how; diags = r.diags; sound = is_some r.bytes }

abbrev pub rows_of : List NodeResult → List Row
rows_of rs = map (row_of rs) rs

-- each need that blocks a node is a place in the results
abbrev pub IsNamed : List NodeResult → How → Type 0
IsNamed rs (how.Blocked id) = id.0 < length rs
IsNamed rs _ = Unit {0}

abbrev pub AreNamed : List NodeResult → Type 0
AreNamed rs = AllByRecursion (λ (r : NodeResult). IsNamed rs r.how) rs

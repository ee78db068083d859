-- A session: what each command does to the tree and the flags, and what it prints.
use Rattle.std.specs.Prelude.{◌≡◌, ◌⊎◌, ℕ, ◌+◌, nat_eq, Bool, true, false, ◌||◌, not, List, [], ◌∷◌, ◌++◌, map, filter, fold, take, codes, if◌then◌else◌}
use Rattle.std.specs.declared.option.Option.{Option}
use Rattle.std.specs.List.{list_any, slice_split, AllByRecursion}
use Rattle.std.specs.Fmt.{decimal}
use Rattle.mk_base.specs.declared.name.Node.{Node}
use Rattle.mk_base.specs.declared.diag.Diag.{Diag}
use Rattle.mk_io.specs.declared.file.File.{File}
use Rattle.mk_io.specs.Outside.{AppendsFront}
use Rattle.face_model.specs.declared.result.Reason.{Reason}
use Rattle.build_theory.specs.Build.{How, Current, Checked, Graph, Behind, Outcome, Failed, is_sound}
use Rattle.report.specs.Report as report
use Rattle.report.specs.Report.{Row, Standing, reason_text, report_of, line}
use Rattle.session_lang.specs.Spelling.{Said, Put, Flags, Build, Quit, Del}
use Rattle.session_lang.specs.Script.{limit, IsPlain, IsScript, IsBadScript, spellings}
use Rattle.mk_base.specs.Texts.{same_text}
use Rattle.plain_scope.specs.declared.scope.Content.{Content}
use Rattle.plain_build.specs.declared.build.PlainBuild.{PlainBuild}
use Rattle.plain_build.specs.Result.{PlainJudged, built, checks_in}

-- the tree's files, whether Prelude is imported where nothing else is said, and whether the monomorphism restriction holds
pub record State : Type 0 where
  pub prelude : Bool
  pub restrict : Bool
  pub files : List File

-- a session starts with an empty tree and both flags set
abbrev pub opening : State
opening = record { prelude = true; restrict = true; files = [] }

-- a file with these bytes stands where one of that name stood, or at the end
abbrev pub put_file : List ℕ → List ℕ → List File → List File
put_file path body [] = record { name = path; bytes = body } ∷ []
put_file path body (f ∷ fs) = if same_text path f.name then (record { name = path; bytes = body }) ∷ fs else f ∷ put_file path body fs

-- whether a file has this name
abbrev pub has_file : List ℕ → List File → Bool
has_file path files = list_any (same_text path) (map (λ (f : File). f.name) files)

-- the files of other names, in their order
abbrev pub without_file : List ℕ → List File → List File
without_file path files = filter (λ (f : File). not (same_text path f.name)) files

-- the parts between the spaces of a `flags` command, the first of them empty
abbrev pub flag_words : List ℕ → List (List ℕ)
flag_words text = slice_split (λ b. nat_eq b 32) text

-- what a word makes of a flag that one word sets and another one clears
abbrev pub flag_by : List ℕ → List ℕ → Bool → List ℕ → Bool
flag_by on off flag word = if same_text word on then true else if same_text word off then false else flag

-- a flag is set before the first word, and each word that speaks of it changes it in turn
abbrev pub flag_of : List ℕ → List ℕ → List ℕ → Bool
flag_of on off text = fold (flag_by on off) true (flag_words text)

abbrev pub prelude_of : List ℕ → Bool
prelude_of text = flag_of (codes "ImplicitPrelude") (codes "NoImplicitPrelude") text

abbrev pub restrict_of : List ℕ → Bool
restrict_of text = flag_of (codes "MonomorphismRestriction") (codes "NoMonomorphismRestriction") text

abbrev pub after : State → Said → State
after s (Put path body) = record { prelude = s.prelude; restrict = s.restrict; files = put_file path body s.files }
after s (Flags text) = record { prelude = prelude_of text; restrict = restrict_of text; files = s.files }
after s (Build n) = s
after s Quit = s
after s (Del path) = record { prelude = s.prelude; restrict = s.restrict; files = without_file path s.files }

-- the tree of unit `main`, without anything stored
abbrev pub input_of : State → PlainBuild
input_of s = record { unit = record { text = codes "main" }; prelude = s.prelude; restrict = s.restrict; files = s.files; store = [] }

abbrev pub results_of : State → List (Node × PlainJudged)
results_of s = built (input_of s)

abbrev pub standing_of : How Node Reason → Standing
standing_of Current = report.Current
standing_of (Checked r) = report.Checked (reason_text r [])
standing_of Graph = report.Failed
standing_of (Behind n) = report.BlockedBy n

abbrev pub diags_of : Outcome Node Content (List Diag) → List Diag
diags_of (Failed ds) = ds
diags_of _ = []

abbrev pub row_of : Node × PlainJudged → Row
row_of j = record { node = j.0; standing = standing_of j.1.how; diags = diags_of j.1.outcome; sound = is_sound j.1.outcome }

abbrev pub build_report : State → List ℕ
build_report s = report_of (map row_of (results_of s))

-- what `del` says where no file has the name
abbrev pub no_file_line : List ℕ → List ℕ
no_file_line path = line (codes "del: no file " ++ path)

abbrev pub reply_of : State → Said → List ℕ
reply_of s (Build n) = build_report s
reply_of s (Del path) = if has_file path s.files then [] else no_file_line path
reply_of s _ = []

-- a build fails where a node isn't sound
abbrev pub fails : State → Said → Bool
fails s (Build n) = list_any (λ (j : Node × PlainJudged). not (is_sound j.1.outcome)) (results_of s)
fails s _ = false

abbrev pub checks : State → Said → ℕ
checks s (Build n) = checks_in (results_of s)
checks s _ = 0

-- the same of commands one after another
abbrev pub state_after : State → List Said → State
state_after s [] = s
state_after s (c ∷ cs) = state_after (after s c) cs

abbrev pub replies : State → List Said → List ℕ
replies s [] = []
replies s (c ∷ cs) = reply_of s c ++ replies (after s c) cs

abbrev pub any_fails : State → List Said → Bool
any_fails s [] = false
any_fails s (c ∷ cs) = fails s c || any_fails (after s c) cs

abbrev pub all_checks : State → List Said → ℕ
all_checks s [] = 0
all_checks s (c ∷ cs) = checks s c + all_checks (after s c) cs

-- the last line of a bad script
abbrev pub bad_line : ℕ → List ℕ
bad_line at = line (codes "bad script at byte " ++ decimal at)

-- The text of an input: the replies to its commands, with the last line of a bad script.
pub record HasGoodText (input text : List ℕ) : Type 0 where
  pub commands : List Said
  pub script : IsScript input commands
  pub text_is : text ≡ replies opening commands

pub record HasBadText (input text : List ℕ) : Type 0 where
  pub commands : List Said
  pub at : ℕ
  pub bad : IsBadScript input commands at
  pub text_is : text ≡ replies opening commands ++ bad_line at

abbrev pub HasText : List ℕ → List ℕ → Type 0
HasText input text = HasGoodText input text ⊎ HasBadText input text

-- What an output took of a session, however that ended: a front of the replies to some commands with which the input
-- begins, or, where the script is bad behind these, a front of the replies and the last line.
pub record HasWritten (bytes : List ℕ) (taken_then taken_now : Option (List ℕ)) : Type 0 where
  pub commands : List Said
  pub plain : AllByRecursion IsPlain commands
  pub rest : List ℕ
  pub begins : take limit bytes ≡ spellings commands ++ rest
  pub text : List ℕ
  pub text_is : (text ≡ replies opening commands) ⊎ ((at : ℕ) × IsBadScript bytes commands at × (text ≡ replies opening commands ++ bad_line at))
  pub written : AppendsFront taken_then taken_now text

-- the one word `session`
abbrev pub IsSession : List (List ℕ) → Type 0
IsSession words = words ≡ codes "session" ∷ []

-- what a script that was read up to `quit` left: its replies behind what the output had, and its checks counted
pub record Ended (bytes : List ℕ) (failed : Bool) (checks_before checks_now : ℕ) (text : List ℕ) : Type 0 where
  pub commands : List Said
  pub script : IsScript bytes commands
  pub failed_is : failed ≡ any_fails opening commands
  pub text_is : text ≡ replies opening commands
  pub checks_are : checks_now ≡ checks_before + all_checks opening commands

-- the same of a bad script
pub record EndedBad (bytes : List ℕ) (checks_before checks_now : ℕ) (text : List ℕ) : Type 0 where
  pub commands : List Said
  pub at : ℕ
  pub bad : IsBadScript bytes commands at
  pub text_is : text ≡ replies opening commands ++ bad_line at
  pub checks_are : checks_now ≡ checks_before + all_checks opening commands

-- What a command of the code says, over the bytes that it was read from.
use Rattle.std.specs.Prelude.{◌≡◌, ℕ, ◌≤◌, List, slice_range}
use Rattle.session_lang.specs.declared.command.Span.{Span}
use Rattle.session_lang.specs.declared.command.Command.{Command}
use Rattle.session_lang.specs.declared.command.Command.TheVariants as code
use Rattle.session_lang.specs.declared.command.Parsed.{Parsed}
use Rattle.session_lang.specs.declared.command.Parsed.TheVariants as parsed
use Rattle.session_lang.specs.declared.piece.Piece.{Piece}
use Rattle.session_lang.specs.declared.piece.Piece.TheVariants as piece
use Rattle.session_lang.specs.Spelling.{Said, Put, Flags, Build, Quit, Del}

-- the bytes of a span
abbrev pub within : List ℕ → Span → List ℕ
within bytes span = slice_range bytes span.start span.end

abbrev pub said : List ℕ → Command → Said
said bytes (code.Put path body) = Put (within bytes path) (within bytes body)
said bytes (code.Flags words) = Flags (within bytes words)
said bytes (code.Build jobs) = Build jobs
said bytes code.Quit = Quit
said bytes (code.Del path) = Del (within bytes path)

-- a span lies in the first `used` bytes
abbrev pub IsSpanOf : ℕ → Span → Type 0
IsSpanOf used span = (span.start ≤ span.end) × (span.end ≤ used)

abbrev pub AreSpansOf : ℕ → Command → Type 0
AreSpansOf used (code.Put path body) = IsSpanOf used path × IsSpanOf used body
AreSpansOf used (code.Flags words) = IsSpanOf used words
AreSpansOf used (code.Build jobs) = Unit {0}
AreSpansOf used code.Quit = Unit {0}
AreSpansOf used (code.Del path) = IsSpanOf used path

-- the answer is this command, and how many bytes it takes
abbrev pub IsWholeOf : List ℕ → Parsed → Said → ℕ → Type 0
IsWholeOf bytes (parsed.Whole command used) c n = (said bytes command ≡ c) × (used ≡ n)
IsWholeOf bytes parsed.More c n = ⊥
IsWholeOf bytes parsed.Bad c n = ⊥

-- the spans of the answer lie in the bytes that it takes, and those in the bytes
abbrev pub HasSpans : ℕ → Parsed → Type 0
HasSpans total (parsed.Whole command used) = AreSpansOf used command × (used ≤ total)
HasSpans total parsed.More = Unit {0}
HasSpans total parsed.Bad = Unit {0}

abbrev pub IsMore : Parsed → Type 0
IsMore parsed.More = Unit {0}
IsMore _ = ⊥

abbrev pub IsBad : Parsed → Type 0
IsBad parsed.Bad = Unit {0}
IsBad _ = ⊥

-- the form of a command
abbrev pub form : Said → ℕ
form (Put path body) = 0
form (Flags words) = 1
form (Build jobs) = 2
form Quit = 3
form (Del path) = 4

-- what a command says whose parts are lent from the bytes
abbrev pub said_by : Piece → Said
said_by (piece.Put path body) = Put path.now body.now
said_by (piece.Flags words) = Flags words.now
said_by (piece.Build jobs) = Build jobs
said_by piece.Quit = Quit
said_by (piece.Del path) = Del path.now

-- A worked example: a language of numbers that import one another, and a tree of five nodes.
use Rattle.std.specs.Prelude.{ℕ, zero, suc, ◌+◌, Bool, true, false, ◌&&◌, ◌||◌, List, [], ◌∷◌, length, sum, Some, None, Ok, Err, nat_eq, nat_lt, if◌then◌else◌}
use Rattle.std.specs.List.{list_any}
use Rattle.std.specs.Map.{lookup}
use Rattle.std.specs.Option.{option_map_or}
use Rattle.build_theory.specs.Build.{Tree, Language, Sound, Failed, Blocked, Judged, How, Checked, Graph, Behind}
use Rattle.build_theory.specs.Machine.{Event, Claim, Finish, Refuse, State}

-- a source: the nodes that it imports, and its own number
pub record Source : Type 0 where
  pub imports : List ℕ
  pub number : ℕ

-- an interface: the settings and the source that it is made from, the values that it read, and its value
pub record Interface : Type 0 where
  pub base : ℕ
  pub source : Source
  pub read : List ℕ
  pub value : ℕ

-- what is wrong: a node reaches itself, or its number is 0
pub data Problem : Type 0 where
  Loop : Problem
  NoNumber : Problem

-- why a node is checked: nothing is kept of it, or the settings, the source or a value that was read is another one
pub data Reason : Type 0 where
  NothingKept : Reason
  NewSettings : Reason
  NewSource : Reason
  NewValue : Reason

abbrev pub imports_of : List (ℕ × Source) → ℕ → List ℕ
imports_of fs a = option_map_or (λ s. s.imports) (lookup (nat_eq a) fs) []

-- over at most so many imports one comes from a to b
abbrev pub reaches : ℕ → List (ℕ × Source) → ℕ → ℕ → Bool
reaches zero fs a b = false
reaches (suc n) fs a b = list_any (λ c. nat_eq c b || reaches n fs c b) (imports_of fs a)

-- the values of the imports that are nodes, in order
abbrev pub values : List (ℕ × Interface) → List ℕ → List ℕ
values env [] = []
values env (c ∷ cs) = option_map_or (λ i. i.value ∷ values env cs) (lookup (nat_eq c) env) (values env cs)

abbrev pub made : ℕ → Source → List ℕ → Interface
made base s read = record { base = base; source = s; read = read; value = base + (s.number + sum read) }

abbrev pub same_numbers : List ℕ → List ℕ → Bool
same_numbers [] [] = true
same_numbers [] (b ∷ bs) = false
same_numbers (a ∷ as_) [] = false
same_numbers (a ∷ as_) (b ∷ bs) = nat_eq a b && same_numbers as_ bs

abbrev pub same_source : Source → Source → Bool
same_source a b = nat_eq a.number b.number && same_numbers a.imports b.imports

-- A node's value is that of the settings, its own number and the values of its imports, added up.
abbrev pub adding : Language ℕ ℕ Source Interface Interface Problem Reason
adding = record {
  less = nat_lt;
  same = nat_eq;
  errors = λ t n s. if reaches (length t.sources) t.sources n n then Some Loop else None;
  needs = λ t a b. reaches (length t.sources) t.sources a b;
  check = λ t n s env. if nat_eq s.number 0 then Err NoNumber else Ok (made t.settings s (values env s.imports));
  keep = λ i. i;
  missing = NothingKept;
  decide = λ t n s k env. if nat_eq k.base t.settings
      then (if same_source k.source s then (if same_numbers k.read (values env s.imports) then Ok k else Err NewValue) else Err NewSource)
      else Err NewSettings;
}

abbrev pub source : List ℕ → ℕ → Source
source imports number = record { imports = imports; number = number }

-- 2 and 3 import each other, 1 imports 2, and 4 imports 5
abbrev pub five : Tree ℕ ℕ Source
five = record {
  settings = 1;
  sources = (3, source (2 ∷ []) 30) ∷ (1, source (2 ∷ []) 10) ∷ (5, source [] 50) ∷ (2, source (3 ∷ []) 20) ∷ (4, source (5 ∷ []) 40) ∷ [];
}

abbrev pub face_of_4 : Interface
face_of_4 = record { base = 1; source = source (5 ∷ []) 40; read = 51 ∷ []; value = 92 }

abbrev pub face_of_5 : Interface
face_of_5 = record { base = 1; source = source [] 50; read = []; value = 51 }

-- what was kept of 5 when it imported 6, which was no node
abbrev pub old_face_of_5 : Interface
old_face_of_5 = record { base = 1; source = source (6 ∷ []) 50; read = []; value = 51 }

abbrev pub of_sound : How ℕ Reason → Interface → Judged ℕ Interface Problem Reason
of_sound how face = record { how = how; outcome = Sound face }

abbrev pub of_loop : Judged ℕ Interface Problem Reason
of_loop = record { how = Graph; outcome = Failed Loop }

abbrev pub of_behind : ℕ → Judged ℕ Interface Problem Reason
of_behind n = record { how = Behind n; outcome = Blocked n }

-- two workers: one checks 5, then the other 4, and gives it up
abbrev pub events : List (Event ℕ (Judged ℕ Interface Problem Reason))
events = Claim 1 5 ∷ Finish 1 5 (of_sound (Checked NothingKept) face_of_5) ∷ Claim 2 4 ∷ Refuse 2 4 ∷ []

abbrev pub last : State ℕ (Judged ℕ Interface Problem Reason)
last = record {
  claimed = [];
  finished = (5, of_sound (Checked NothingKept) face_of_5) ∷ (2, of_loop) ∷ (3, of_loop) ∷ [];
  refused = (4, 2) ∷ [];
}

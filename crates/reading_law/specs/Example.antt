-- A worked example: modules that import one another, and a check that walks through what its imports import.
use Rattle.std.specs.Prelude.{ℕ, Bool, false, true, List, [], ◌∷◌, length, map, Some, None, Result, Ok, Err, nat_eq, nat_lt, if◌then◌else◌}
use Rattle.std.specs.declared.option.Option.{Option}
use Rattle.std.specs.List.{list_all}
use Rattle.std.specs.Map.{lookup}
use Rattle.std.specs.Option.{option_map_or}
use Rattle.build_theory.specs.Build.{Tree, Language}
use Rattle.build_theory.specs.Example.{Source, reaches, same_numbers}
use Rattle.reading_law.specs.Reading.{walk, queries}
use Rattle.reading_law.specs.Compose.{map_ok, behind, each, reads_behind, reads_each}
use Rattle.reading_law.specs.Recheck.{Recheck}

-- an answer: what a module imports, where there is one
abbrev pub Answer : Type 0
Answer = Option (List ℕ)

-- an interface: its source, and what was read
pub record Face : Type 0 where
  pub source : Source
  pub uses : List (ℕ × Answer)

abbrev pub Faces : Type 0
Faces = List (ℕ × Face)

pub data Fault : Type 0 where
  Unknown : ℕ → Fault
  Cycle : Fault

pub data Why : Type 0 where
  NoFace : Why
  OtherSource : Why
  OtherUse : Why

abbrev pub ask : Faces → ℕ → Answer
ask v n = option_map_or (λ (i : Face). Some i.source.imports) (lookup (nat_eq n) v) None

-- the first stage, over each import: there is such a module
abbrev pub where_known : ℕ → Answer → Result ℕ Fault
where_known n (Some ns) = Ok n
where_known n None = Err (Unknown n)

abbrev pub known : ℕ → Faces → Result ℕ Fault
known n v = where_known n (ask v n)

abbrev pub first_fault : Fault → Fault → Fault
first_fault a b = a

abbrev pub all_known : Source → Faces → Result (List ℕ) Fault
all_known s v = each first_fault known s.imports v

abbrev pub imports_in : ℕ → Answer → List ℕ
imports_in n a = option_map_or (λ ns. ns) a []

-- the second stage, behind the first: what is reached from the imports, with what each imports
abbrev pub reached : Source × List ℕ → Faces → Result (List (ℕ × Answer)) Fault
reached p v = Ok (walk ask imports_in nat_eq 100 [] p.0.imports v)

abbrev pub Found : Type 0
Found = List ℕ × List (ℕ × Answer)

abbrev pub stage : Source → Faces → Result Found Fault
stage = behind all_known reached

abbrev pub one_read : ℕ → ℕ → List ℕ
one_read n m = n ∷ []

abbrev pub reads : Source → Found → List ℕ
reads = reads_behind (λ (s : Source) ns. reads_each one_read s.imports ns) (λ p ps. queries ps)

abbrev pub print_of : Source → Answer
print_of s = Some (s.number ∷ s.imports)

abbrev pub sealed : Source → Found → List (ℕ × Answer) → Face
sealed s y us = record { source = s; uses = us }

abbrev pub checking : Recheck ℕ ℕ Source Face Face Fault Source Found Faces ℕ Answer ℕ Answer
checking = record {
  input = λ t n s. s;
  view = λ t n env. env;
  ask = ask;
  stage = stage;
  reads = reads;
  uses = reads;
  mark = print_of;
  now = ask;
  seal = sealed;
  kept = λ k. k;
  kept_mark = λ k. print_of k.source;
  kept_uses = λ k. k.uses;
}

abbrev pub same_answer : Answer → Answer → Bool
same_answer (Some a) (Some b) = same_numbers a b
same_answer None None = true
same_answer _ _ = false

abbrev pub is_current : Faces → ℕ × Answer → Bool
is_current v u = same_answer u.1 (ask v u.0)

abbrev pub linking : Language ℕ ℕ Source Face Face Fault Why
linking = record {
  less = nat_lt;
  same = nat_eq;
  errors = λ t n s. if reaches (length t.sources) t.sources n n then Some Cycle else None;
  needs = λ t a b. reaches (length t.sources) t.sources a b;
  check = λ t n s env. map_ok (λ y. sealed s y (map (λ q. (q, ask env q)) (reads s y))) (stage s env);
  keep = λ i. i;
  missing = NoFace;
  decide = λ t n s k env. if same_answer (print_of k.source) (print_of s) then (if list_all (is_current env) k.uses then Ok k else Err OtherUse) else Err OtherSource;
}

abbrev pub source : List ℕ → ℕ → Source
source imports number = record { imports = imports; number = number }

abbrev pub face : List ℕ → ℕ → Face
face imports number = record { source = source imports number; uses = [] }

-- 1 imports 2 and 3, 2 imports 4, 4 imports 2, and nothing leads to 5
abbrev pub four : Faces
four = (2, face (4 ∷ []) 20) ∷ (3, face [] 30) ∷ (4, face (2 ∷ []) 40) ∷ (5, face [] 50) ∷ []

-- 5 is another one, and so is the number of 4, which nobody asks for
abbrev pub alike : Faces
alike = (4, face (2 ∷ []) 41) ∷ (5, face (1 ∷ []) 50) ∷ (2, face (4 ∷ []) 20) ∷ (3, face [] 30) ∷ []

-- 4 imports 3
abbrev pub other : Faces
other = (2, face (4 ∷ []) 20) ∷ (3, face [] 30) ∷ (4, face (3 ∷ []) 40) ∷ []

abbrev pub found_in_four : Found
found_in_four = (2 ∷ 3 ∷ [], (2, Some (4 ∷ [])) ∷ (4, Some (2 ∷ [])) ∷ (3, Some []) ∷ [])

-- three modules one behind the other, and the same with another number in the middle
abbrev pub three : ℕ → Tree ℕ ℕ Source
three number = record { settings = 0; sources = (1, source (2 ∷ []) 10) ∷ (2, source (3 ∷ []) number) ∷ (3, source [] 30) ∷ [] }

abbrev pub face_of_1 : Face
face_of_1 = record { source = source (2 ∷ []) 10; uses = (2, Some (3 ∷ [])) ∷ (2, Some (3 ∷ [])) ∷ (3, Some []) ∷ [] }

abbrev pub face_of_2 : ℕ → Face
face_of_2 number = record { source = source (3 ∷ []) number; uses = (3, Some []) ∷ (3, Some []) ∷ [] }

abbrev pub face_of_3 : Face
face_of_3 = record { source = source [] 30; uses = [] }

-- the same language, but that no usage is compared
abbrev pub forgetting : Language ℕ ℕ Source Face Face Fault Why
forgetting = record {
  less = linking.less;
  same = linking.same;
  errors = linking.errors;
  needs = linking.needs;
  check = linking.check;
  keep = linking.keep;
  missing = linking.missing;
  decide = λ t n s k env. if same_answer (print_of k.source) (print_of s) then Ok k else Err OtherSource;
}

-- 2 imports 3 no more
abbrev pub rewired : Tree ℕ ℕ Source
rewired = record { settings = 0; sources = (1, source (2 ∷ []) 10) ∷ (2, source [] 20) ∷ (3, source [] 30) ∷ [] }

abbrev pub new_face_of_1 : Face
new_face_of_1 = record { source = source (2 ∷ []) 10; uses = (2, Some []) ∷ (2, Some []) ∷ [] }

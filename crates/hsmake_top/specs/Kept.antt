-- What a session keeps between commands.
use Rattle.std.specs.Prelude.{◌≡◌, ℕ, List, [], map, codes}
use Rattle.mk_io.specs.declared.file.File.{File}
use Rattle.plain_build.specs.Result.{AreDistinct, AreShort}
use Rattle.hsmake_top.specs.declared.session.Session.{Session}
use Rattle.hsmake_top.specs.Session.{State}

abbrev pub state_of : Session → State
state_of s = record { prelude = s.input.prelude; restrict = s.input.restrict; files = s.input.files }

abbrev pub names_of : List File → List (List ℕ)
names_of files = map (λ (f : File). f.name) files

-- the tree of unit `main` with nothing stored; its files differ in name, and the names stand in the order of the files
pub record IsKept (s : Session) : Type 0 where
  pub unit : s.input.unit.text ≡ codes "main"
  pub store : s.input.store ≡ []
  pub names : s.places.keys ≡ names_of s.input.files
  pub distinct : AreDistinct s.input.files
  pub short : AreShort s.input.files

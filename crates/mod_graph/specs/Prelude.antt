-- The implicit import of Prelude (Haskell 2010 Report, section 5.6.1).
use Rattle.std.specs.Prelude.{Bool, false, ◌&&◌, not, List, [], ◌∷◌, None, codes, if◌then◌else◌}
use Rattle.std.specs.List.{list_any}
use Rattle.mk_base.specs.Places.{first_place}
use Rattle.mk_base.specs.Texts.{same_text}
use Rattle.hs_syntax.specs.declared.header.Header.{Header}
use Rattle.hs_syntax.specs.declared.header.ImportItem.{ImportItem}

-- the import that no source writes
abbrev pub implicit_import : ImportItem
implicit_import = record { at = first_place; source = false; qualified = false; «module» = record { qualifier = []; text = codes "Prelude"; at = first_place; to = None }; alias = None; list = None }

abbrev pub names_prelude : List ImportItem → Bool
names_prelude is = list_any (λ (i : ImportItem). same_text i.«module».text (codes "Prelude")) is

-- A module imports Prelude where that is on and no import of it names Prelude.
abbrev pub with_prelude : Header → Bool → Header
with_prelude h prelude = if prelude && not (names_prelude h.imports)
    then record { name = h.name; at = h.at; exports = h.exports; imports = implicit_import ∷ h.imports; prelude = h.prelude; restrict = h.restrict }
    else h

-- What the tables of a check hold, against the definitions of scope.
use Rattle.std.specs.Prelude.{◌≡◌, ℕ, List, [], ◌∷◌, map, Some, None, if◌then◌else◌}
use Rattle.std.specs.declared.option.Option.{Option}
use Rattle.std.specs.List.{list_any}
use Rattle.indexmap.specs.IndexMap.{IndexMap, get}
use Rattle.indexmap.specs.IndexSet.{IndexSet, contains}
use Rattle.mk_base.specs.declared.name.Name.{Name}
use Rattle.mk_base.specs.declared.name.Space.TheVariants.{Ty}
use Rattle.plain_form.specs.declared.form.DataItem.{DataItem}
use Rattle.mk_base.specs.Texts.{same_text}
use Rattle.plain_scope.specs.declared.lines.Seen.{Seen}
use Rattle.plain_scope.specs.declared.scope.Content.{Content}
use Rattle.plain_scope.specs.Scope.{entity, same_entity, content_heads, Pair, Use, Missing, Ambiguous, Found, use_at}

-- what an entry of the table of types says: none, several entities, or the one
abbrev pub entry_use : Option (Option Name) → Use
entry_use None = Missing
entry_use (Some None) = Ambiguous
entry_use (Some (Some e)) = Found e

-- what a use of a type's name is by the table
abbrev pub use_in : {S : Type 0} → IndexMap (List ℕ) (Option Name) S → List ℕ → Use
use_in types text = entry_use (get same_text types text)

-- the table says of each name what the names in scope say
abbrev pub IsTable : {S : Type 0} → IndexMap (List ℕ) (Option Name) S → List Pair → Type 0
IsTable types pairs = (text : List ℕ) → use_in types text ≡ use_at pairs text

-- a use once it refers to one more entity
abbrev pub added : Use → Name → Use
added Missing e = Found e
added Ambiguous e = Ambiguous
added (Found f) e = if same_entity f e then Found f else Ambiguous

-- the use of a text once module m's type is in scope too
abbrev pub with_type : List ℕ → List ℕ → List ℕ → List ℕ → Use → Use
with_type unit m ty text u = if same_text ty text then added u (entity unit m Ty ty) else u

-- likewise for the types of one module in turn
abbrev pub with_types : List ℕ → List ℕ → List (List ℕ × List ℕ) → List ℕ → Use → Use
with_types unit m [] text u = u
with_types unit m (d ∷ ds) text u = with_types unit m ds text (with_type unit m d.0 text u)

-- likewise for the types of several modules
abbrev pub with_contents : List ℕ → List Content → List ℕ → Use → Use
with_contents unit [] text u = u
with_contents unit (c ∷ cs) text u = with_contents unit cs text (with_types unit c.module (content_heads c.datas) text u)

-- the set has exactly these words
abbrev pub HasSeenWords : {S : Type 0} → IndexSet (List ℕ) S → List (List ℕ) → Type 0
HasSeenWords seen words = (text : List ℕ) → contains same_text seen text ≡ list_any (same_text text) words

-- the sets have exactly the types and the constructors of these data types
abbrev pub HasSeen : Seen → List DataItem → Type 0
HasSeen seen before = HasSeenWords seen.types (map (λ (e : DataItem). e.ty.text) before) × HasSeenWords seen.cons (map (λ (e : DataItem). e.con.text) before)

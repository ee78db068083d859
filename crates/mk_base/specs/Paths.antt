-- Module paths: which files are modules, and the nodes that they are. Texts are lists of bytes.
use Rattle.std.specs.Prelude.{◌≡◌, ◌≢◌, ◌↔◌, ℕ, ◌-◌, nat_eq, Bool, true, false, ◌&&◌, not, List, [], ◌∷◌, ◌++◌, map, length, take, drop, Some, None, codes, if◌then◌else◌}
use Rattle.std.specs.declared.option.Option.{Option}
use Rattle.std.specs.List.{list_all, slice_split}
use Rattle.std.specs.Str.{bytes_eq, chars, is_utf8}
use Rattle.mk_base.specs.Classes.{class_of}
use Rattle.mk_base.specs.declared.char_class.CharClass.{CharClass}
use Rattle.mk_base.specs.declared.char_class.CharClass.TheVariants.{Small, Large, Digit}
use Rattle.mk_base.specs.declared.name.Node.{Node}

abbrev pub is_large : CharClass → Bool
is_large Large = true
is_large _ = false

abbrev pub is_letter_or_digit : CharClass → Bool
is_letter_or_digit Small = true
is_letter_or_digit Large = true
is_letter_or_digit Digit = true
is_letter_or_digit _ = false

-- what may follow in a conid: a small, large or digit character, or `'`
abbrev pub is_in_conid : ℕ → Bool
is_in_conid c = if nat_eq c 39 then true else is_letter_or_digit (class_of c)

-- a conid (Haskell 2010 Report, section 2.4), by its characters: a large one, and then those
abbrev pub is_conid : List ℕ → Bool
is_conid [] = false
is_conid (c ∷ cs) = is_large (class_of c) && list_all is_in_conid cs

-- one part of a module's name: the bytes of a conid
abbrev pub is_segment : List ℕ → Bool
is_segment bytes = is_utf8 bytes && is_conid (chars bytes)

-- what stands between the bytes `at`: one piece more than there are such bytes
abbrev pub pieces : ℕ → List ℕ → List (List ℕ)
pieces at text = slice_split (λ b. nat_eq b at) text

-- segments joined by dots
abbrev pub IsName : List ℕ → Type 0
IsName text = list_all is_segment (pieces 46 text) ≡ true

-- `Prim` has no file
abbrev pub IsModule : Node → Type 0
IsModule n = IsName n.«module».text × (n.«module».text ≢ codes "Prim")

abbrev pub in_place_of : ℕ → ℕ → ℕ → ℕ
in_place_of old new b = if nat_eq b old then new else b

-- a text with slashes for its dots, and with dots for its slashes
abbrev pub slashed : List ℕ → List ℕ
slashed text = map (in_place_of 46 47) text

abbrev pub dotted : List ℕ → List ℕ
dotted text = map (in_place_of 47 46) text

abbrev pub path_end : Bool → List ℕ
path_end true = codes ".hs-boot"
path_end false = codes ".hs"

-- the path of a node's file: `A/B.hs`, and of a boot node `A/B.hs-boot`
abbrev pub path_of : Node → List ℕ
path_of n = slashed n.«module».text ++ path_end n.boot

-- the path is the module path of the node
abbrev pub IsModulePath : List ℕ → Node → Type 0
IsModulePath path n = IsModule n × (path ≡ path_of n)

abbrev pub iface_end : Bool → List ℕ
iface_end true = codes ".hsi-boot"
iface_end false = codes ".hsi"

-- the name of a node's interface: `A.B.hsi`, and of a boot node `A.B.hsi-boot`
abbrev pub iface_name : Node → List ℕ
iface_name n = n.«module».text ++ iface_end n.boot

-- How the node is read off a path: its end, and then the segments in front of it.

abbrev pub ends_with : List ℕ → List ℕ → Bool
ends_with end path = bytes_eq (drop (length path - length end) path) end

abbrev pub stem : List ℕ → List ℕ → List ℕ
stem end path = take (length path - length end) path

abbrev pub node_at : Bool → List ℕ → Option Node
node_at boot front = if list_all is_segment (pieces 47 front) && not (bytes_eq front (codes "Prim"))
    then Some (record { «module» = record { text = dotted front }; boot = boot }) else None

unfoldable pub node_of : List ℕ → Option Node
node_of path = if ends_with (codes ".hs-boot") path then node_at true (stem (codes ".hs-boot") path)
    else (if ends_with (codes ".hs") path then node_at false (stem (codes ".hs") path) else None)

-- What holds of them. A path reads as a node exactly where it is that node's module path, so two paths of one node are
-- the same, and no path is of two nodes.
abbrev pub PathsAreTheirSpelling : Type 0
PathsAreTheirSpelling = (path : List ℕ) (n : Node) → (node_of path ≡ Some n) ↔ IsModulePath path n

abbrev pub PathsReadAsTheirNodes : Type 0
PathsReadAsTheirNodes = (n : Node) → IsModule n → node_of (path_of n) ≡ Some n

abbrev pub IfaceNamesDiffer : Type 0
IfaceNamesDiffer = (m n : Node) → iface_name m ≡ iface_name n → m ≡ n

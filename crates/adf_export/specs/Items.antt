-- The host files and directories for entries of a tree, and their bytes.
use Rattle.std.specs.Prelude.{◌≡◌, ℕ, ◌*◌, ◌==◌, Bool, true, false, if◌then◌else◌, List, [], ◌∷◌, ◌++◌, flat_map, None, Some, option_map}
use Rattle.ados_model.specs.declared.answer.FileInfo.{FileInfo}
use Rattle.ados_model.specs.Keys.{HasKey}
use Rattle.ados_model.specs.Tree.{Content, Node, Tree, bytes_of, entries, root}
use Rattle.ados_model.specs.Tree.Content.{Directory, File}
use Rattle.ados_model.specs.Objects.{file_info}
use Rattle.adf_text.specs.declared.uaem.Uaem.{Uaem}
use Rattle.adf_text.specs.HostNames.{host_name}
use Rattle.adf_text.specs.Uaem.{IsLineOf}
use Rattle.adf_host.specs.declared.trees.items.HostItem.{HostItem}
use Rattle.adf_host.specs.declared.trees.items.ItemKind.{ItemKind}
use Rattle.adf_host.specs.declared.trees.items.ItemKind.TheVariants as kinds
use Rattle.adf_host.specs.Notes.{IsBesideNotes, note_of}
use Rattle.ados_volume.specs.declared.below.Below.{Below}
use Rattle.ados_volume.specs.Below.{AreBelow}
use Rattle.adf_export.specs.declared.entry.Outgoing.{Outgoing}
use Rattle.adf_export.specs.declared.entry.Source.{Source}
use Rattle.adf_export.specs.declared.entry.Source.TheVariants.{Entry, Note}
use Rattle.adf_export.specs.Words.{AreAsked}

-- the kind of the item for a node
abbrev pub kind_of : Content → ItemKind
kind_of (Directory keys) = kinds.Directory
kind_of (File bytes) = kinds.File

-- the position of the item for the entry at this position: with notes, each entry has two items
abbrev pub item_place : Bool → ℕ → ℕ
item_place notes at = if notes then 2 * at else at

-- the name of an entry's item: its host name, which with notes beside the entries is none of a note
abbrev pub IsItemName : Bool → List ℕ → List ℕ → Type 0
IsItemName false name host = host ≡ host_name name
IsItemName true name host = IsBesideNotes (host_name name) host

-- the item of an entry: below the item of its directory, under its host name, with its kind and date
pub record IsItem (notes : Bool) (e : Below) (node : Node) (item : HostItem) : Type 0 where
  pub above : item.above ≡ option_map (item_place notes) e.above
  pub name : IsItemName notes node.name item.name
  pub kind : item.kind ≡ kind_of node.content
  pub date : item.date ≡ node.date

-- the item of an entry's note: a file beside the entry's item, with the same date
pub record IsNote (e : Below) (node : Node) (noted item : HostItem) : Type 0 where
  pub above : item.above ≡ option_map (item_place true) e.above
  pub name : item.name ≡ note_of noted.name
  pub kind : item.kind ≡ kinds.File
  pub date : item.date ≡ node.date

-- the items of an entry with this node, with or without its note
abbrev pub AreItems : Bool → Below → Node → List HostItem → Type 0
AreItems false e node (item ∷ []) = IsItem false e node item
AreItems true e node (item ∷ note ∷ []) = IsItem true e node item × IsNote e node item note
AreItems notes e node items = ⊥

-- these are the items of an entry
abbrev pub GoesOut : Tree → Bool → Below → List HostItem → Type 0
GoesOut t notes e items = (node : Node) × (t.nodes e.key ≡ Some node) × AreItems notes e node items

-- the items of each of these entries, one after the other
pub data EachGoesOut (t : Tree) (notes : Bool) : List Below → List HostItem → Type 0 where
  none : EachGoesOut t notes [] []
  entry : {e : Below} {es : List Below} (items : List HostItem) {others : List HostItem}
      → GoesOut t notes e items → EachGoesOut t notes es others → EachGoesOut t notes (e ∷ es) (items ++ others)

-- the sources of an entry's items
abbrev pub sources_of : Bool → Below → List Source
sources_of notes e = if notes then Entry e.key ∷ Note e.key ∷ [] else Entry e.key ∷ []

-- the entries for an object: itself, but for the root its entries
abbrev pub tops : Tree → ℕ → List ℕ
tops t key = if key == root t then entries t key else key ∷ []

-- the items for these objects and their sources: those of their entries and of everything below them
pub record AllGoOut (t : Tree) (notes : Bool) (keys : List ℕ) (out : Outgoing) : Type 0 where
  pub found : List Below
  pub below : AreBelow t None 0 (flat_map (tops t) keys) found
  pub items : EachGoesOut t notes found out.items.items
  pub sources : out.sources.items ≡ flat_map (sources_of notes) found

-- the items and sources for the path arguments of a command
abbrev pub AreOutgoing : Tree → Bool → List (List ℕ) → Outgoing → Type 0
AreOutgoing t notes words out = (keys : List ℕ) × AreAsked t words keys × AllGoOut t notes keys out

-- the source is an entry of the image, or its note
abbrev pub HasSource : List ℕ → Source → Type 0
HasSource image (Entry key) = HasKey image key
HasSource image (Note key) = HasKey image key

-- the contents of an entry's note
abbrev pub noted : FileInfo → Uaem
noted told = record { protect = told.protection; date = told.date; comment = told.comment }

-- these are the bytes of a source: all bytes of the file, or the line of the note
abbrev pub AreBytesOf : Tree → Source → List ℕ → Type 0
AreBytesOf t (Entry key) bytes = bytes ≡ bytes_of t key
AreBytesOf t (Note key) bytes = (node : Node) × (t.nodes key ≡ Some node) × IsLineOf (noted (file_info t.format key node)) bytes

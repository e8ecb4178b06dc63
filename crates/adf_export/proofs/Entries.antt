-- The items of one entry.
use Rattle.adf_export.proofs.Common.{◌≡◌, Bool, false, true, List, [], ◌∷◌, ◌++◌, Some, option_map, ap, sym, ◌∙◌, subst, append_assoc, FileInfo, Node, Tree, file_info, HostItem, Below, Source, Note, AreItems, GoesOut, IsItem, item_place, kind_of, sources_of, note_of, Entry}
use Rattle.adf_export.specs.Items.{IsItemName}
use Rattle.adf_host.specs.declared.trees.items.ItemKind.TheVariants as kinds

-- items follow others, those of an entry
abbrev pub AddsItems : Tree → Bool → Below → List HostItem → List HostItem → Type 0
AddsItems t notes e old new = (more : List HostItem) × (new ≡ old ++ more) × GoesOut t notes e more

module _ (t : Tree) (e : Below) (node : Node) (there : t.nodes e.key ≡ Some node) (told : FileInfo) (is : told ≡ file_info t.format e.key node) where
  module _ (notes : Bool) (item : HostItem) (above : item.above ≡ option_map (item_place notes) e.above) (name : IsItemName notes told.name item.name)
      (kind : item.kind ≡ kind_of node.content) (date : item.date ≡ told.date) where
    own : IsItem notes e node item
    own = record { above = above; name = subst (λ (info : FileInfo). IsItemName notes info.name item.name) is name; kind = kind; date = date ∙ ap (λ (info : FileInfo). info.date) is }

    -- the entry without a note
    pub alone : (old new : List HostItem) → notes ≡ false → new ≡ old ++ item ∷ [] → AddsItems t notes e old new
    alone old new off grown = (item ∷ [], grown, (node, there, subst (λ (b : Bool). AreItems b e node (item ∷ [])) (sym off) (subst (λ (b : Bool). IsItem b e node item) off own)))

    -- the entry with its note
    pub with_note : (note : HostItem) → note.above ≡ item.above → note.name ≡ note_of item.name → note.kind ≡ kinds.File → note.date ≡ told.date
        → (old mid new : List HostItem) → notes ≡ true → mid ≡ old ++ item ∷ [] → new ≡ mid ++ note ∷ [] → AddsItems t notes e old new
    with_note note beside named file same old mid new on first second = (
      item ∷ note ∷ [],
      second ∙ ap (λ (items : List HostItem). items ++ note ∷ []) first ∙ append_assoc old (item ∷ []) (note ∷ []),
      (
        node,
        there,
        subst (λ (b : Bool). AreItems b e node (item ∷ note ∷ [])) (sym on) (
          subst (λ (b : Bool). IsItem b e node item) on own,
          record {
            above = beside ∙ subst (λ (b : Bool). item.above ≡ option_map (item_place b) e.above) on above;
            name = named;
            kind = file;
            date = same ∙ ap (λ (info : FileInfo). info.date) is;
          },
        ),
      ),
    )

-- the source of an entry, and that of its note
pub source_alone : (notes : Bool) (e : Below) (old new : List Source) → notes ≡ false → new ≡ old ++ Entry e.key ∷ [] → new ≡ old ++ sources_of notes e
source_alone notes e old new off grown = grown ∙ ap (λ (b : Bool). old ++ sources_of b e) (sym off)

pub source_with_note : (notes : Bool) (e : Below) (old mid new : List Source) → notes ≡ true → mid ≡ old ++ Entry e.key ∷ [] → new ≡ mid ++ Note e.key ∷ [] → new ≡ old ++ sources_of notes e
source_with_note notes e old mid new on first second =
    second ∙ ap (λ (xs : List Source). xs ++ Note e.key ∷ []) first ∙ append_assoc old (Entry e.key ∷ []) (Note e.key ∷ []) ∙ ap (λ (b : Bool). old ++ sources_of b e) (sym on)

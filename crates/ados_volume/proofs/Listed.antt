-- The next entry of a directory after a key is a node.
use Rattle.ados_volume.proofs.Common.{Entry, HasKey, List, Node, Proper, Some, Stands, Tree, behind-later, entries, entries_after, entry_node, first-entry, first_left, refl, sym, ℕ, ◌≡◌}

-- the entry after a key has a node
pub next_node : (t : Tree) → Proper t → (dir key next : ℕ) → first_left (entries_after t dir key) ≡ Entry next → (node : Node) × (t.nodes next ≡ Some node)
next_node t proper dir key next e =
    let left = first-entry (entries_after t dir key) next e in
    let found = entry_node t proper dir next (behind-later dir (entries t dir) key next left.0 left.1) in
    (found.0, found.1)

pub next_has_key : (image : List ℕ) (dir key next : ℕ) → ((t : Tree) → Stands image t → Entry next ≡ first_left (entries_after t dir key)) → HasKey image next
next_has_key image dir key next h t s =
    let n = next_node t s.proper dir key next (sym (h t s)) in
    rw n.1 refl

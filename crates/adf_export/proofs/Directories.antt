-- An object described as a directory is a directory.
use Rattle.adf_export.proofs.Common.{◌≡◌, ℕ, pos, List, [], Option, Some, None, option_map, refl, ap, ◌∙◌, Content, Node, Tree, content_at, entries, entries_in, parent_of, parent_in, entry_type, Directory, File}

type-directory : (parent : Option ℕ) (content : Content) → entry_type parent content ≡ pos 2 → (keys : List ℕ) × (content ≡ Directory keys)
type-directory None content e = cc e
type-directory (Some dir) (Directory keys) e = (keys, refl)
type-directory (Some dir) (File bytes) e = cc e

-- a node described as a directory is a directory
pub told_directory : (t : Tree) (key : ℕ) (node : Node) → t.nodes key ≡ Some node → entry_type node.parent node.content ≡ pos 2 → (keys : List ℕ) × (content_at t key ≡ Some (Directory keys))
told_directory t key node e h =
    let d = type-directory node.parent node.content h in
    (d.0, rw e (ap Some d.1))

-- a node described as no directory, other than the root, has no entries
pub told_file : (t : Tree) (key dir : ℕ) (node : Node) → t.nodes key ≡ Some node → node.parent ≡ Some dir → ¬ (entry_type node.parent node.content ≡ pos 2) → entries t key ≡ []
told_file t key dir node e parent no_directory =
    ap (λ (o : Option Node). entries_in (option_map (λ (n : Node). n.content) o)) e ∙ go node.content (λ same. no_directory (ap (λ (o : Option ℕ). entry_type o node.content) parent ∙ same))
  where
    go : (content : Content) → ¬ (entry_type (Some dir) content ≡ pos 2) → entries_in (Some content) ≡ []
    go (Directory keys) other = absurd (other refl)
    go (File bytes) other = refl

-- an entry is a node of its directory
pub entry_in : (t : Tree) (dir key : ℕ) → parent_of t key ≡ Some dir → (node : Node) × (t.nodes key ≡ Some node) × (node.parent ≡ Some dir)
entry_in t dir key up = parent_in (t.nodes key) dir up

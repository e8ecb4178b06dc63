-- The first entries of a list: a file itself, or the entries of a directory.
use Rattle.adf_export.proofs.Common.{◌≡◌, ℕ, Bool, true, [], ◌∷◌, Option, Some, None, refl, sym, ap, ◌∙◌, if◌then◌else◌, Content, LeadsToRoot, Proper, Tree, content_at, entries_in, parent_of, at_root, by_parent, ListOrder, front, front_above, listed, listing, path_of, ordered, entry_at, first_keys, first_path, Directory, File, holds_file, is_file}

module _ (t : Tree) (key : ℕ) (b : Bool) (is : is_file t key ≡ b) where
  pub listed_if : (order : ListOrder) → listed t order key ≡ (if b then entry_at (path_of t key) key ∷ [] else listing t order key)
  listed_if order = ap (λ (c : Bool). if c then entry_at (path_of t key) key ∷ [] else listing t order key) is

  pub path_if : first_path t key ≡ (if b then front_above t key else front t t.blocks key)
  path_if = ap (λ (c : Bool). if c then front_above t key else front t t.blocks key) is

  pub keys_if : (order : ListOrder) → first_keys t order key ≡ (if b then key ∷ [] else ordered t order key)
  keys_if order = ap (λ (c : Bool). if c then key ∷ [] else ordered t order key) is

-- a file has no entries
pub no_entries_in : (content : Option Content) → holds_file content ≡ true → entries_in content ≡ []
no_entries_in None file = absurd (cc file)
no_entries_in (Some (Directory keys)) file = absurd (cc file)
no_entries_in (Some (File bytes)) file = refl

-- a file is in a directory
pub file_above : (t : Tree) → Proper t → (key : ℕ) → is_file t key ≡ true → LeadsToRoot t key → (dir : ℕ) × (parent_of t key ≡ Some dir) × LeadsToRoot t dir
file_above t proper key file (by_parent {dir = dir} up rest) = (dir, up, rest)
file_above t proper key file (at_root root) =
    let at : t.nodes key ≡ Some proper.root_node.0 = ap t.nodes root ∙ proper.root_node.1 in
    let content : content_at t key ≡ Some (Directory proper.root_node.2.keys) = rw at (ap Some proper.root_node.2.directory) in
    absurd (cc (sym file ∙ ap holds_file content))

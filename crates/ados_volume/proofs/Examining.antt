-- The description of a node by its block.
use Rattle.ados_volume.proofs.Common.{Content, Directory, File, Format, HasEntry, List, Node, Option, Some, Stands, Tree, ap, arith, block_count, bytes_at, cost_in, data_count, drop, drop-drop, drop-take, entry_type, extension_count, false, false≢true, holds_file, inl, inr, is_file, length, negsuc, pos, refl, root_is, root_key, root_or_parent, size_in, sym, take, take-take, true, true≢false, ℕ, ◌*◌, ◌+◌, ◌-◌, ◌∙◌, ◌≡◌, ◌≢◌, ◌≤◌}

-- bytes of a block, from the list of all its bytes
pub part_of_block : (image : List ℕ) (b i n : ℕ) (xs : List ℕ) → xs ≡ bytes_at image b 0 512 → i + n ≤ 512 → take n (drop i xs) ≡ bytes_at image b i n
unfolding bytes_at
part_of_block image b i n xs e room =
    let m = 512 - i in
    let whole : i + m ≡ 512 = omega (arith, room) in
    let place : 512 * b + 0 + i ≡ 512 * b + i = omega arith in
    let ys = drop (512 * b + 0) image in
    ap (λ (zs : List ℕ). take n (drop i zs)) e
    ∙ ap (λ (k : ℕ). take n (drop i (take k ys))) (sym whole)
    ∙ ap (take n) (drop-take i m ys)
    ∙ take-take n m (drop i ys) (omega (arith, room))
    ∙ ap (take n) (drop-drop i (512 * b + 0) image ∙ ap (λ (k : ℕ). drop k image) place)

-- the types of a file and of a directory other than the root
pub file_type_is : (parent : Option ℕ) (dir : ℕ) (content : Content) → parent ≡ Some dir → true ≡ holds_file (Some content) → negsuc 2 ≡ entry_type parent content
file_type_is parent dir (Directory keys) p h = absurd (true≢false h)
file_type_is parent dir (File bytes) p h = rw p refl

pub directory_type_is : (parent : Option ℕ) (dir : ℕ) (content : Content) → parent ≡ Some dir → false ≡ holds_file (Some content) → pos 2 ≡ entry_type parent content
directory_type_is parent dir (Directory keys) p h = rw p refl
directory_type_is parent dir (File bytes) p h = absurd (false≢true h)

-- the number of blocks of a file with this size
pub file_cost_is : (format : Format) (content : Content) (size : ℕ) → true ≡ holds_file (Some content) → size ≡ size_in (Some content)
    → 1 + (data_count format size + extension_count (data_count format size)) ≡ cost_in format (Some content)
file_cost_is format (Directory keys) size h e = absurd (true≢false h)
file_cost_is format (File bytes) size h e =
    let d = data_count format (length bytes) in
    let same : data_count format size ≡ d = ap (data_count format) e in
    ap (λ (n : ℕ). 1 + (n + extension_count n)) same ∙ omega arith

module _ (image : List ℕ) (t : Tree) (s : Stands image t) (key : ℕ) (node : Node) (e : t.nodes key ≡ Some node) where
  pub file_is : is_file t key ≡ holds_file (Some node.content)
  file_is = rw e refl

  -- a node other than the root is an entry
  pub entry_of : key ≢ root_key (block_count image) → (dir : ℕ) × (node.parent ≡ Some dir) × HasEntry image key node dir
  entry_of other = elim (root_or_parent t s.proper key node e) [
    | inl r ↦ absurd (other (r ∙ sym (root_is image t s)))
    | inr p ↦ (p.0, p.1, s.entries key p.0 node e p.1)
  ]

  -- the root has no parent, no protection bits and no comment
  pub root_node_is : key ≡ root_key (block_count image) → node ≡ s.proper.root_node.0
  root_node_is r =
      let at : t.nodes key ≡ Some s.proper.root_node.0 = ap t.nodes (r ∙ root_is image t s) ∙ s.proper.root_node.1 in
      let both : Some node ≡ Some s.proper.root_node.0 = sym e ∙ at in
      cc both

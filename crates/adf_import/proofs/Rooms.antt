-- Whether enough blocks are free for a file's bytes.
use Rattle.std.proofs.Common.{◌≡◌, ◌≢◌, ℕ, ◌+◌, ◌-◌, ◌<◌, ◌≤◌, inl, inr, Bool, false, nat_lt, if◌then◌else◌, List, [], length, Option, Some, None, option_map, refl, sym, ap, ◌∙◌, arith, le-ltb, lt-ltb}
use Rattle.adf_import.proofs.Common.{cases_eq, true≢false, Format, Ofs, Ffs, Date3, slot, block_cost, Node, Tree, content_at, entries, free, name_of, size_of, IsUnused, size_in, Directory, File, enter, made, with_node, new_node, content_in, IsDirectoryKey, FileInfo, file_info, nodes_here, nodes_other, relisted, NotPut, more_blocks, or_no_room}
use Rattle.std.specs.Prelude.{max}
use Rattle.std.proofs.lemmas.Bool.{cases_lt}
use Rattle.adf_block.proofs.Totals.{total-one}
use Rattle.ados_model.specs.Tree.{cost_in, used}
use Rattle.ados_model.specs.Parts.{cost_of}
use Rattle.ados_change.specs.Renewed.{NeedsMore, written_size}
use Rattle.adf_import.specs.declared.new_file.NotPut.TheVariants.{NoRoom}

module _ (t : Tree) (moment : Date3) (dir key : ℕ) (name : List ℕ) (directory : IsDirectoryKey t dir) (unused : IsUnused t key) where
  abbrev node : Node
  node = new_node moment dir name (File [])

  abbrev with_file : Tree
  with_file = with_node key (Some node) t

  abbrev keys : List ℕ
  keys = enter (λ k. slot (name_of with_file k)) key (entries with_file dir)

  abbrev cost : Option Node → ℕ
  cost o = cost_in t.format (option_map (λ node. node.content) o)

  not_itself : dir ≢ key
  not_itself e =
      let n = content_in (t.nodes dir) (Directory directory.0) directory.1 in
      let none : t.nodes dir ≡ None = ap t.nodes e ∙ unused.no_node in
      cc (none, n.1)

  made_nodes : (k : ℕ) → k ≢ dir → (made moment dir key name (File []) t).nodes k ≡ with_file.nodes k
  made_nodes k other = nodes_other dir (option_map (relisted moment keys) (with_file.nodes dir)) with_file k other

  dir_cost : cost_of (made moment dir key name (File []) t) dir ≡ cost_of t dir
  dir_cost =
      let n = content_in (t.nodes dir) (Directory directory.0) directory.1 in
      let here : (made moment dir key name (File []) t).nodes dir ≡ option_map (relisted moment keys) (t.nodes dir) =
      nodes_here dir (option_map (relisted moment keys) (with_file.nodes dir)) with_file ∙ ap (option_map (relisted moment keys)) (nodes_other key (Some node) t dir not_itself) in
      ap cost (here ∙ ap (option_map (relisted moment keys)) n.1) ∙ sym (ap (cost_in t.format) directory.1)

  other_cost : (k : ℕ) → k ≢ key → cost_of (made moment dir key name (File []) t) k ≡ cost_of t k
  other_cost k other = elim (cases_eq k dir) [
    | inl same ↦ ap (cost_of (made moment dir key name (File []) t)) same ∙ dir_cost ∙ sym (ap (cost_of t) same)
    | inr apart ↦ ap cost (made_nodes k apart ∙ nodes_other key (Some node) t k other)
  ]

  file_cost : (format : Format) → cost_in format (Some (File [])) ≡ 1
  file_cost Ofs = refl
  file_cost Ffs = refl

  key_cost : cost_of (made moment dir key name (File []) t) key ≡ 1
  key_cost = ap cost (made_nodes key (λ e. not_itself (sym e)) ∙ nodes_here key (Some node) t) ∙ file_cost t.format

  -- a new file uses one block
  pub used_more : used (made moment dir key name (File []) t) ≡ used t + 1
  used_more =
      let more = total-one (cost_of t) (cost_of (made moment dir key name (File []) t)) key t.blocks unused.inside.1 (λ k l other. other_cost k other) in
      let none : cost_of t key ≡ 0 = ap cost unused.no_node in
      omega (arith, more, none, key_cost)

  pub free_less : 1 ≤ free t → free (made moment dir key name (File []) t) + 1 ≡ free t
  free_less some = omega (arith, some, used_more)

  -- a new file is empty
  pub new_is_empty : content_at (made moment dir key name (File []) t) key ≡ Some (File [])
  new_is_empty = ap (option_map (λ (node : Node). node.content)) (made_nodes key (λ e. not_itself (sym e)) ∙ nodes_here key (Some node) t)

  -- so its bytes fit if blocks for them and one more were free
  pub room_in_new : (size : ℕ) → 1 + block_cost t.format size ≤ free t → more_blocks (made moment dir key name (File []) t) key size ≤ free (made moment dir key name (File []) t)
  room_in_new size enough = left (block_cost t.format size) (block_cost t.format (size_of (made moment dir key name (File []) t) key)) (free t) (free (made moment dir key name (File []) t)) enough
      (free_less (some (block_cost t.format size) (free t) enough))
    where
      some : (cost before : ℕ) → 1 + cost ≤ before → 1 ≤ before
      some cost before enough = omega (arith, enough)

      left : (cost own before after : ℕ) → 1 + cost ≤ before → after + 1 ≡ before → cost - own ≤ after
      left cost own before after enough less = omega (arith, enough, less)

-- a file can be overwritten if as many blocks are free as it needs in addition
pub fits_in : (t : Tree) (key : ℕ) (bytes : List ℕ) → more_blocks t key (length bytes) ≤ free t → ¬ NeedsMore t key (written_size t key 0 bytes)
fits_in t key bytes enough more = true≢false (sym more ∙ fits (block_cost t.format) (size_of t key) (length bytes) (free t) enough)
  where
    fits : (cost : ℕ → ℕ) (old new room : ℕ) → cost new - cost old ≤ room → nat_lt (room + cost old) (cost (max old (0 + new))) ≡ false
    fits cost old new room enough = elim (cases_lt old new) [
      | inl longer ↦ let size : max old (0 + new) ≡ new = omega (arith, longer) in le-ltb (room + cost old) (cost (max old (0 + new))) (omega (arith, enough, ap cost size))
      | inr shorter ↦ let size : max old (0 + new) ≡ old = omega (arith, shorter) in le-ltb (room + cost old) (cost (max old (0 + new))) (omega (arith, ap cost size))
    ]

-- the size in a file's description
pub size_told : (t : Tree) (key : ℕ) (node : Node) (info : FileInfo) → t.nodes key ≡ Some node → info ≡ file_info t.format key node → info.size ≡ size_of t key
size_told t key node info at told = ap (λ (i : FileInfo). i.size) told ∙ sym (ap (λ (o : Option Node). size_in (option_map (λ node. node.content) o)) at)

-- a file that needs more blocks than are free is refused, any other is not
pub no_room : (needed room told : ℕ) (refused : NotPut) → told ≡ needed → room < told → refused ≡ NoRoom told room → or_no_room None needed room ≡ Some refused
no_room needed room told refused same few is =
    ap (λ (b : Bool). if b then Some (NoRoom needed room) else None) (lt-ltb room needed (omega (arith, same, few)))
    ∙ ap (λ (n : ℕ). Some (NoRoom n room)) (sym same) ∙ ap Some (sym is)

pub has_room : (needed room told : ℕ) → told ≡ needed → told ≤ room → or_no_room None needed room ≡ None
has_room needed room told same enough = ap (λ (b : Bool). if b then Some (NoRoom needed room) else None) (le-ltb room needed (omega (arith, same, enough)))

pub some_room : (told cost room : ℕ) → told ≡ 1 + cost → told ≤ room → 1 ≤ room
some_room told cost room same enough = omega (arith, same, enough)

pub as_told : (told needed room : ℕ) → told ≡ needed → told ≤ room → needed ≤ room
as_told told needed room same enough = omega (arith, same, enough)

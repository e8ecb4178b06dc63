-- A file that is overwritten and then cut has exactly the new bytes.
use Rattle.std.proofs.Common.{◌≡◌, ◌≢◌, ℕ, ◌+◌, ◌<◌, ◌≤◌, inl, inr, Bool, true, false, nat_lt, if◌then◌else◌, List, [], ◌∷◌, length, take, drop, Some, IsSome, is_some, option_map, refl, sym, ap, ◌∙◌, subst, arith, ltb-false, le-ltb, lt-ltb}
use Rattle.adf_import.proofs.Common.{cases_eq, Date3, Node, Tree, Proper, content_at, root, size_of, size_in, Directory, File, changed, rewritten, written, with_comment, with_protection, without_archive, Stands, content_in, one_tree, nodes_here, nodes_other, NewFile, described, filled, cut_back}
use Rattle.std.proofs.lemmas.List.{take_all}
use Rattle.std.proofs.Math.Seq.{take-append_seam}
use Rattle.ados_model.specs.Tree.{bytes_in, bytes_of}
use Rattle.ados_model.specs.Edits.{overlaid, shortened}

-- the key of an entry, and the key of a file
abbrev pub IsEntry : ℕ → Tree → Type 0
IsEntry key t = IsSome (t.nodes key) × (key ≢ root t)

abbrev pub IsFileKey : ℕ → Tree → Type 0
IsFileKey key t = (bytes : List ℕ) × (content_at t key ≡ Some (File bytes))

-- trees that differ only in a file's bytes, date and protection bits
pub record IsHolding (t v : Tree) (key : ℕ) (bytes : List ℕ) : Type 0 where
  pub blocks : v.blocks ≡ t.blocks
  pub format : v.format ≡ t.format
  pub creation_date : v.creation_date ≡ t.creation_date
  pub lost : v.lost ≡ t.lost
  pub others : (k : ℕ) → k ≢ key → v.nodes k ≡ t.nodes k
  pub old : Node
  pub at_first : t.nodes key ≡ Some old
  pub node : Node
  pub at : v.nodes key ≡ Some node
  pub name : node.name ≡ old.name
  pub parent : node.parent ≡ old.parent
  pub content : node.content ≡ File bytes

pub holds_its_own : (t : Tree) (key : ℕ) (bytes : List ℕ) → content_at t key ≡ Some (File bytes) → IsHolding t t key bytes
holds_its_own t key bytes file =
    let n = content_in (t.nodes key) (File bytes) file in
    record { blocks = refl; format = refl; creation_date = refl; lost = refl; others = λ k other. refl; old = n.0; at_first = n.1; node = n.0; at = n.1; name = refl; parent = refl; content = n.2 }

-- the file's node with other bytes
abbrev refill : Date3 → List ℕ → Node → Node
refill moment bytes node = record node { content = File bytes; date = moment; protection = without_archive node.protection }

module _ (t v : Tree) (key : ℕ) (bytes : List ℕ) (h : IsHolding t v key bytes) where
  pub content_held : content_at v key ≡ Some (File bytes)
  content_held = ap (option_map (λ (node : Node). node.content)) h.at ∙ ap Some h.content

  bytes_held : bytes_of v key ≡ bytes
  bytes_held = ap bytes_in content_held

  size_held : size_of v key ≡ length bytes
  size_held = ap size_in content_held

  pub holds_more : (moment : Date3) (more : List ℕ) → IsHolding t (rewritten moment key more v) key more
  holds_more moment more = record {
    blocks = h.blocks;
    format = h.format;
    creation_date = h.creation_date;
    lost = h.lost;
    others = λ k other. nodes_other key (option_map (refill moment more) (v.nodes key)) v k other ∙ h.others k other;
    old = h.old;
    at_first = h.at_first;
    node = refill moment more h.node;
    at = nodes_here key (option_map (refill moment more) (v.nodes key)) v ∙ ap (option_map (refill moment more)) h.at;
    name = h.name;
    parent = h.parent;
    content = refl;
  }

  -- overwritten from its start
  pub holds_written : (moment : Date3) (new : List ℕ) → IsHolding t (written moment key 0 new v) key (overlaid bytes 0 new)
  holds_written moment [] = h
  holds_written moment (c ∷ cs) = subst (λ (old : List ℕ). IsHolding t (written moment key 0 (c ∷ cs) v) key (overlaid old 0 (c ∷ cs))) bytes_held (holds_more moment (overlaid (bytes_of v key) 0 (c ∷ cs)))

  -- cut if it is longer
  pub holds_cut : (moment : Date3) (size : ℕ) → IsHolding t (cut_back moment key size v) key (take size bytes)
  holds_cut moment size = go (nat_lt size (size_of v key)) refl
    where
      go : (b : Bool) → nat_lt size (size_of v key) ≡ b → IsHolding t (if b then shortened moment key size v else v) key (take size bytes)
      go true is = subst (λ (old : List ℕ). IsHolding t (shortened moment key size v) key (take size old)) bytes_held (holds_more moment (take size (bytes_of v key)))
      go false is = subst (IsHolding t v key) (sym (take_all size bytes (omega (arith, ltb-false size (size_of v key) is, size_held)))) h

  pub held_entry : Proper v → IsEntry key v
  held_entry proper = (
    ap is_some h.at,
    λ e.
        let r = proper.root_node in
        let same : h.node ≡ r.0 = cc (h.at, ap v.nodes e ∙ r.1) in
        let clash : File bytes ≡ Directory r.2.keys = sym h.content ∙ ap (λ (node : Node). node.content) same ∙ r.2.directory in
        cc clash,
  )

-- bytes overwritten and then cut are the new bytes
whole : (new old : List ℕ) → take (length new) (overlaid old 0 new) ≡ new
whole new old = take-append_seam new (drop (0 + length new) old)

pub holds_put : (t : Tree) (moment : Date3) (key : ℕ) (old new : List ℕ) → content_at t key ≡ Some (File old) → IsHolding t (cut_back moment key (length new) (written moment key 0 new t)) key new
holds_put t moment key old new file =
    let wrote = holds_written t t key old (holds_its_own t key old file) moment new in
    subst (IsHolding t (cut_back moment key (length new) (written moment key 0 new t)) key) (whole new old)
    (holds_cut t (written moment key 0 new t) key (overlaid old 0 new) wrote moment (length new))

-- the file's node with its new metadata
abbrev telling : NewFile → Node → Node
telling file node = record node { protection = file.protection.0; comment = file.comment; date = file.date }

module _ (moment : Date3) (key : ℕ) (file : NewFile) (v : Tree) where
  abbrev with_bits : Tree
  with_bits = with_protection moment key file.protection.0 v

  abbrev with_text : Tree
  with_text = with_comment moment key file.comment with_bits

  described_other : (k : ℕ) → k ≢ key → (described moment key file v).nodes k ≡ v.nodes k
  described_other k other =
      nodes_other key (option_map (λ (node : Node). record node { date = file.date }) (with_text.nodes key)) with_text k other
      ∙ nodes_other key (option_map (λ (node : Node). record node { comment = file.comment }) (with_bits.nodes key)) with_bits k other
      ∙ nodes_other key (option_map (λ (node : Node). record node { protection = file.protection.0 }) (v.nodes key)) v k other

  described_here : (node : Node) → v.nodes key ≡ Some node → (described moment key file v).nodes key ≡ Some (telling file node)
  described_here node at =
      let bits = nodes_here key (option_map (λ (a : Node). record a { protection = file.protection.0 }) (v.nodes key)) v ∙ ap (option_map (λ (a : Node). record a { protection = file.protection.0 })) at in
      let text = nodes_here key (option_map (λ (a : Node). record a { comment = file.comment }) (with_bits.nodes key)) with_bits ∙ ap (option_map (λ (a : Node). record a { comment = file.comment })) bits in
      nodes_here key (option_map (λ (a : Node). record a { date = file.date }) (with_text.nodes key)) with_text ∙ ap (option_map (λ (a : Node). record a { date = file.date })) text

-- the metadata of a file does not depend on how its bytes were written
pub described_same : (t v w : Tree) (moment : Date3) (key : ℕ) (file : NewFile) (bytes : List ℕ) → IsHolding t v key bytes → IsHolding t w key bytes → described moment key file v ≡ described moment key file w
described_same t v w moment key file bytes h g =
    let blocks : v.blocks ≡ w.blocks = h.blocks ∙ sym g.blocks in
    let format : v.format ≡ w.format = h.format ∙ sym g.format in
    let creation : v.creation_date ≡ w.creation_date = h.creation_date ∙ sym g.creation_date in
    let lost : v.lost ≡ w.lost = h.lost ∙ sym g.lost in
    λ i. record { blocks = blocks i; format = format i; disk_date = moment; creation_date = creation i; nodes = λ k. nodes_same k i; lost = lost i }
  where
    first : h.old ≡ g.old
    first = cc (h.at_first, g.at_first)

    node_same : telling file h.node ≡ telling file g.node
    node_same =
        let name : h.node.name ≡ g.node.name = h.name ∙ ap (λ (node : Node). node.name) first ∙ sym g.name in
        let parent : h.node.parent ≡ g.node.parent = h.parent ∙ ap (λ (node : Node). node.parent) first ∙ sym g.parent in
        let content : h.node.content ≡ g.node.content = h.content ∙ sym g.content in
        λ i. record { name = name i; parent = parent i; protection = file.protection.0; date = file.date; comment = file.comment; content = content i }

    nodes_same : (k : ℕ) → (described moment key file v).nodes k ≡ (described moment key file w).nodes k
    nodes_same k = elim (cases_eq k key) [
      | inl same ↦
          ap (described moment key file v).nodes same ∙ described_here moment key file v h.node h.at ∙ ap Some node_same
          ∙ sym (described_here moment key file w g.node g.at) ∙ sym (ap (described moment key file w).nodes same)
      | inr other ↦ described_other moment key file v k other ∙ h.others k other ∙ sym (g.others k other) ∙ sym (described_other moment key file w k other)
    ]

-- a file that is overwritten, cut and described is filled
pub filled_is : (t : Tree) (moment : Date3) (key : ℕ) (file : NewFile) (old : List ℕ) → content_at t key ≡ Some (File old)
    → described moment key file (cut_back moment key (length file.bytes.now) (written moment key 0 file.bytes.now t)) ≡ filled moment key file t
filled_is t moment key file old is =
    described_same t (cut_back moment key (length file.bytes.now) (written moment key 0 file.bytes.now t)) (rewritten moment key file.bytes.now t) moment key file file.bytes.now
    (holds_put t moment key old file.bytes.now is)
    (holds_more t t key old (holds_its_own t key old is) moment file.bytes.now)

-- a fact about the tree of a changed image
pub after_change : (P : Tree → Type 0) (change : Tree → Tree) (old new : List ℕ) (t : Tree) → Stands old t → ((v : Tree) → Stands old v → Stands new (change v)) → P (change t) → (u : Tree) → Stands new u → P u
after_change P change old new t s stands holds u r = subst P (one_tree new (change t) u (stands t s) r) holds

-- a file that is not longer is unchanged, a longer one is cut
pub is_not_cut : (t : Tree) (moment : Date3) (key size : ℕ) → size_of t key ≤ size → t ≡ cut_back moment key size t
is_not_cut t moment key size short = sym (ap (λ (b : Bool). if b then shortened moment key size t else t) (le-ltb size (size_of t key) short))

pub is_cut : (t : Tree) (moment : Date3) (key size : ℕ) → size < size_of t key → shortened moment key size t ≡ cut_back moment key size t
is_cut t moment key size long = sym (ap (λ (b : Bool). if b then shortened moment key size t else t) (lt-ltb size (size_of t key) long))

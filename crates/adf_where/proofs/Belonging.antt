-- Blocks with their owners: the entry that a block belongs to, and the bytes that are in it.
use Rattle.adf_where.proofs.Common.{◌≡◌, ℕ, ◌+◌, ◌*◌, ◌-◌, min, List, Option, Some, IsSome, is_some, sym, ap, ap₂, ◌∙◌, subst, Content, Tree, content_at, data_size, size_of, content_in, Owner, Boot, Root, Page, Directory, File, Data, Extension, Lost, Free, Owns, entry_of, span_of}
use Rattle.adf_where.specs.declared.owned.Span.{Span}

-- a key with a content is that of a node
node_at : (t : Tree) (block entry : ℕ) (c : Content) → content_at t block ≡ Some c → block ≡ entry → IsSome (t.nodes entry)
node_at t block entry c at same =
    let n = content_in (t.nodes block) c at in
    subst (λ (k : ℕ). IsSome (t.nodes k)) same (ap is_some n.1)

-- the entry that an owned block belongs to is a node
pub owned_node : (image : List ℕ) (t : Tree) (block : ℕ) (owner : Owner) (entry : ℕ) → Owns image t block owner → entry_of block owner ≡ Some entry → IsSome (t.nodes entry)
owned_node image t block Boot entry owns e = absurd (cc e)
owned_node image t block Root entry owns e = absurd (cc e)
owned_node image t block (Page i) entry owns e = absurd (cc e)
owned_node image t block Directory entry owns e = node_at t block entry (Content.Directory owns.1.0) owns.1.1 (cc e)
owned_node image t block File entry owns e = node_at t block entry (Content.File owns.0) owns.1 (cc e)
owned_node image t block (Data file k) entry owns e = node_at t file entry (Content.File owns.0.0) owns.0.1 (cc e)
owned_node image t block (Extension file k) entry owns e = node_at t file entry (Content.File owns.0.0) owns.0.1 (cc e)
owned_node image t block Lost entry owns e = absurd (cc e)
owned_node image t block Free entry owns e = absurd (cc e)

abbrev some_span : ℕ → ℕ → Option Span
some_span first last = Some (record { first = first; last = last })

-- the bytes in a data block
pub data_span : (t : Tree) (owner : Owner) (file k number room size last : ℕ) → owner ≡ Data file k → number ≡ k → room ≡ data_size t.format → size ≡ size_of t file
    → last ≡ min (room * number + room) size - 1 → some_span (room * number) last ≡ span_of t owner
data_span t owner file k number room size last is of_number of_room of_size of_last =
    ap (some_span (room * number)) of_last
    ∙ ap (λ (n : ℕ). some_span (room * n) (min (room * n + room) size - 1)) of_number
    ∙ ap₂ (λ (r z : ℕ). some_span (r * k) (min (r * k + r) z - 1)) of_room of_size
    ∙ sym (ap (span_of t) is)

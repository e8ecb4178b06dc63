-- The blocks that can name entries.
use Rattle.ados_salvage.proofs.KnownCommon.{◌≡◌, ℕ, ◌<◌, ◌≤◌, ◌⊎◌, inl, inr, List, arith, block_count, long, parent_key, IsHeader, IsPlaceIn, IsRoot, LooksLikeHeader, MayBeHeader, NamesEntries, of_root, of_sound, of_named}

-- such a block is inside the image
pub names_inside : (out image : List ℕ) {block : ℕ} → 2 ≤ block_count image → NamesEntries out image block → block < block_count image
names_inside out image large (of_root r) = omega (arith, large, r.place)
names_inside out image large (of_sound s) = s.sound.inside.1
names_inside out image large (of_named h p n l) = l.looks.inside.1

-- a place for entries is a long of its block
pub place_below : (image : List ℕ) (dir block at : ℕ) → IsPlaceIn image dir block at → at < 128
place_below image dir block at (inl (here, (table, (slot, below, is)))) = omega (arith, below, is)
place_below image dir block at (inr (here, (entry, is))) = omega (arith, is)

-- a header can name entries
pub header_names : (out image : List ℕ) (block : ℕ) → IsHeader out image block → NamesEntries out image block
header_names out image block (inl sound) = of_sound sound
header_names out image block (inr header) = of_named header.named.accepted header.named.place header.named.named header.header

-- and it is inside the image
pub header_inside : (out image : List ℕ) (block : ℕ) → IsHeader out image block → block < block_count image
header_inside out image block (inl told) = told.sound.inside.1
header_inside out image block (inr header) = header.header.looks.inside.1

-- it looks like one
pub header_looks : (out image : List ℕ) (block : ℕ) → IsHeader out image block → LooksLikeHeader image block
header_looks out image block (inl told) =
    let s = told.sound in
    record { inside = s.inside; primary = s.primary; secondary = s.secondary; key_field = s.key_field; name = s.name }
header_looks out image block (inr header) = header.header.looks

-- what an accepted place of its parent names, and looks like one, is a header
pub named_header : (out image : List ℕ) {block holder at : ℕ} → NamesEntries out image holder → IsPlaceIn image (parent_key image block) holder at → long image holder at ≡ block
    → MayBeHeader out image block → IsHeader out image block
named_header out image {block} {holder} {at} accepted place named looks = inr (record { header = looks; named = record { holder = holder; at = at; accepted = accepted; place = place; named = named } })

-- such a block is the root or a header
pub names_kinds : (out image : List ℕ) {block : ℕ} → NamesEntries out image block → IsRoot image block ⊎ IsHeader out image block
names_kinds out image (of_root r) = inl r
names_kinds out image (of_sound s) = inr (inl s)
names_kinds out image (of_named h p n l) = inr (named_header out image h p n l)

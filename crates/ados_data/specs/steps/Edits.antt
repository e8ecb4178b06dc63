-- Which bytes of a block an edit of its fields may change.
use Rattle.std.specs.Prelude.{◌≡◌, ℕ, ◌/◌, ◌⊎◌, ◌<◌, ◌≤◌}
use Rattle.adf_block.specs.declared.layout.TheConstants.{PRIMARY_TYPE, OWN_KEY, SECONDARY_TYPE, PARENT, OFS_DATA_BYTE}
use Rattle.adf_block.specs.declared.beside.TheConstants.{CHECKSUM}
use Rattle.adf_block.specs.Frame.{AtTwoLongs}
use Rattle.adf_block.specs.declared.layout.Format.{Format}
use Rattle.adf_block.specs.declared.layout.Format.TheVariants.{Ofs}

-- the bytes of long i of block b, and of its checksum
abbrev pub AtField : ℕ → ℕ → ℕ → ℕ → Type 0
AtField b i = AtTwoLongs b i CHECKSUM

-- the bytes of longs i and j of block b, and of its checksum
abbrev pub AtFields : ℕ → ℕ → ℕ → ℕ → ℕ → Type 0
AtFields b i j c k = (c ≡ b) × ((k / 4 ≡ i) ⊎ ((k / 4 ≡ j) ⊎ (k / 4 ≡ CHECKSUM)))

-- the bytes of extension block b's fields without its pointers and its link
abbrev pub AtExtensionFields : ℕ → ℕ → ℕ → Type 0
AtExtensionFields b c k =
    (c ≡ b) × ((k / 4 ≡ PRIMARY_TYPE) ⊎ ((k / 4 ≡ OWN_KEY) ⊎ ((k / 4 ≡ CHECKSUM)
    ⊎ ((k / 4 ≡ PARENT) ⊎ (k / 4 ≡ SECONDARY_TYPE)))))

-- the bytes of OFS data block b's fields
abbrev pub AtDataFields : Format → ℕ → ℕ → ℕ → Type 0
AtDataFields format b c k = (format ≡ Ofs) × (c ≡ b) × (k < OFS_DATA_BYTE)

-- bytes low to high - 1 of data block b, and in OFS its checksum
abbrev pub AtData : Format → ℕ → ℕ → ℕ → ℕ → ℕ → Type 0
AtData format b low high c k = (c ≡ b) × (((low ≤ k) × (k < high)) ⊎ ((format ≡ Ofs) × (k / 4 ≡ CHECKSUM)))

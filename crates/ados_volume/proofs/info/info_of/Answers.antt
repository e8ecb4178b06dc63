use Rattle.ados_volume.proofs.Common.{Bool, Ffs, Format, List, Ofs, Stands, Tree, arith, block_count, cond, count_same, data_size, disk_info, false, format_byte, format_is, free_bit_count, free_bits_count, has_free_bit, lawful_pages, sym, true, ℕ, ◌+◌, ◌-◌, ◌∙◌, ◌≡◌, ◌≤◌}
use Rattle.adf_block.specs.Fields.{format_of}
use Rattle.adf_block.proofs.Totals.{total-bound}
use Rattle.ados_volume.proofs.info.info_of.Goals as goal

pub count_free-requires : goal.count_free-requires
count_free-requires c = lawful_pages c.args.image.now c.requires.0 c.requires.1

at_most_one : (b : Bool) → ◌≤◌ (cond b 1 0) 1
at_most_one true = omega arith
at_most_one false = omega arith

pub overflow_sub-used : goal.overflow_sub-used
overflow_sub-used c =
    omega (arith, c.count_free.ensures, c.blocks-blocks.ensures.count, total-bound (λ k. cond (has_free_bit c.args.image.now (k + 2)) 1 0) 1 (block_count c.args.image.now - 2) (λ k. at_most_one (has_free_bit c.args.image.now (k + 2))))

-- the description of a tree, by its blocks, its free ones and its format
told : (image : List ℕ) (t : Tree) → Stands image t → (format : Format) → format ≡ format_of image → (blocks free_ones : ℕ) → blocks ≡ block_count image → free_ones ≡ free_bit_count image
    → record { state = 82; blocks = blocks - 2; used = blocks - 2 - free_ones; bytes_per_block = data_size format; disk_type = 0x444F5300 + format_byte format } ≡ disk_info t
told image t s format is blocks free_ones count free_is =
    let blocks_are = count ∙ count_same image t s in
    let free_are = free_is ∙ free_bits_count image t s in
    let formats = is ∙ format_is image t s in
    λ i. record {
      state = 82;
      blocks = blocks_are i - 2;
      used = blocks_are i - 2 - free_are i;
      bytes_per_block = data_size (formats i);
      disk_type = 0x444F5300 + format_byte (formats i);
    }

pub returns-in-Ofs : goal.returns-in-Ofs
returns-in-Ofs c = λ t s. told c.args.image.now t s Ofs (sym c.in-Ofs.is ∙ c.format.ensures) _ _ c.blocks-blocks.ensures.count c.count_free.ensures

pub returns-in-Ffs : goal.returns-in-Ffs
returns-in-Ffs c = λ t s. told c.args.image.now t s Ffs (sym c.in-Ffs.is ∙ c.format.ensures) _ _ c.blocks-blocks.ensures.count c.count_free.ensures

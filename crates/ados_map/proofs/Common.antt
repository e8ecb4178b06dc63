-- The names that most of these proofs cite, passed on from one place. Declares nothing.
pub use Rattle.adf_block.proofs.Frames.{other_block_long, other_block_sum, same_count, same_long, same_trans, same_weaken}
pub use Rattle.adf_block.specs.Frame.{AtLong, InBlock, OnlyBlock, SameBut}
pub use Rattle.adf_block.specs.Image.{IsInside, block_count, block_sum, has_free_bit, long, page_count, root_key, total}
pub use Rattle.adf_block.specs.Whole.{IsImage, free_bit_count}
pub use Rattle.adf_block.specs.declared.beside.TheConstants.{BITMAP_EXTENSION, PAGE_LONGS}
pub use Rattle.adf_block.specs.declared.layout.TheConstants.{BOOT_BLOCKS, FIRST_PAGE, LONG_BITS, MAP_LONGS, PAGE_BITS}
pub use Rattle.ados_map.specs.Bits.{IsBitPut, IsFreeBits, IsUnnamedBits, free_bit, is_unnamed}
pub use Rattle.ados_map.specs.Changes.{BitChanged, InPages, MapPlace, PagesRebuilt}
pub use Rattle.ados_map.specs.Pages.{HasBit, IsLowestFree, LawfulPages, map_long, page_block, page_of, pages_of}
pub use Rattle.std.proofs.Common.{Bool, List, MatchBool, ap, ap₂, arith, cond, eqb, false, inl, inr, leb, not, refl, suc, sym, true, zero, ℕ, ◌%◌, ◌*◌, ◌+◌, ◌-◌, ◌/◌, ◌<◌, ◌^◌, ◌∙◌, ◌≡◌, ◌≢◌, ◌≤◌, ◌⊎◌}
pub use Rattle.std.proofs.lemmas.Bool.{cases_eq, cases_lt, le-ltb, lt-ltb, ne_eqb}
pub use Rattle.std.proofs.lemmas.Nat.{pow_below, pow_pos}
pub use Rattle.std.proofs.lemmas.Nat.Bits.{and_pow, bit_at-lt, bit_at-suc, bit_at-trailing_zeros, bit_at-zero, bit_at_and, bit_at_clear_other, bit_at_clear_same, bit_at_lowest, bit_at_ones, bit_at_ones_above, bit_at_set_other, bit_at_set_same}
pub use Rattle.std.specs.Int.{bit_at, trailing_zeros, w32}
pub use Rattle.std.specs.Int.Count.{ones-le, ones_step}
pub use Rattle.std.specs.Prelude.{bit_and, ◌&&◌, ◌==◌}

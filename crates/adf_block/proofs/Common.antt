-- The names that most of these proofs cite, passed on from one place. Declares nothing.
unfoldable pub use Rattle.adf_block.specs.Boot.{boot_long, boot_sum}
pub use Rattle.adf_block.specs.Boot.{carried_sum}
pub use Rattle.adf_block.specs.BootCode.{Follows, IsBootCode, IsEmpty, boot_bytes}
pub use Rattle.adf_block.specs.BootText.{EndsAt, hex_line, hex_lines, letter, spaced_byte}
pub use Rattle.adf_block.specs.Frame.{AtLong, InBlock, OnlyBlock, OnlyLong, SameBut, Within}
pub use Rattle.adf_block.specs.HasBoot.{Boots, HasBoot, HoldsCode}
unfoldable pub use Rattle.adf_block.specs.Image.{block_sum, byte_at, bytes_at, long}
pub use Rattle.adf_block.specs.Image.{block_count, total}
unfoldable pub use Rattle.adf_block.specs.Lending.{with_block}
pub use Rattle.byteorder.specs.Endian.{big_bytes, big_number}
pub use Rattle.std.proofs.Common.{List, Ok, Option, Some, [], add-one, ap, append_assoc, ap₂, arith, drop, if◌then◌else◌, inl, inr, length, length-append, length-drop, length-take, map, min, refl, slice_index, subst, suc, sym, take, zero, zero-add, ℕ, ◌%◌, ◌*◌, ◌++◌, ◌+◌, ◌-◌, ◌/◌, ◌<◌, ◌==◌, ◌^◌, ◌∙◌, ◌≡◌, ◌≢◌, ◌≤◌, ◌⊎◌}
pub use Rattle.std.proofs.lemmas.Bool.{cases_eq, cases_lt}
pub use Rattle.std.proofs.lemmas.List.{append-nil, drop-drop, drop_all, drop_at, ext_get_or, get_or-append_right, get_or-drop, get_or-replicate, get_or-take, get_or_append_left, get_or_past, take_all, take_at, take_rest}
pub use Rattle.std.specs.Prelude.{flat_map, option_copied}
pub use borrow.Rule.Slice.PartMut.{put_mid}

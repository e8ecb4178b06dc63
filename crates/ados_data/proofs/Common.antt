-- The names that most of these proofs cite, passed on from one place. Declares nothing.
pub use Rattle.adf_block.proofs.Blocks.{byte-bytes_at}
pub use Rattle.adf_block.proofs.Frames.{other_block_sum, same_count, same_long, same_sum, same_trans, same_weaken}
pub use Rattle.adf_block.proofs.Longs.{long-below, long-bytes, long-same}
pub use Rattle.adf_block.proofs.Totals.{total-bound, total-one, total-same}
pub use Rattle.adf_block.specs.Fields.{file_size, format_of, pointer, pointer_count}
pub use Rattle.adf_block.specs.Frame.{InBlock, OnlyBlock, OnlyLong, SameBut, Within}
unfoldable pub use Rattle.adf_block.specs.Image.{block_sum, bytes_at}
pub use Rattle.adf_block.specs.Image.{Chained, IsInside, block_count, byte_at, has_free_bit, long, page_count, root_key, total}
pub use Rattle.adf_block.specs.Whole.{IsImage, IsSize, free_bit_count}
pub use Rattle.adf_block.specs.declared.layout.Format.{Format}
pub use Rattle.adf_block.specs.declared.layout.Format.TheVariants.{Ffs, Ofs}
pub use Rattle.adf_block.specs.declared.layout.TheConstants.{FILE_SIZE, FIRST_POINTER, NEXT_DATA, NEXT_EXTENSION, PARENT, POINTER_COUNT, SECONDARY_TYPE}
pub use Rattle.ados_data.specs.Changing.{HasFree, IsInUse, IsWritable, LawfulMap, PaysFor, WritableFile}
pub use Rattle.ados_data.specs.Cut.{CutsHeader, IsCutField}
pub use Rattle.ados_data.specs.Growth.{GrowsFile}
pub use Rattle.ados_data.specs.Others.{Gains, IsDataField, IsOther, IsOwn, KeptOrSummed, Leaves, LeavesOthers, RisesBehind, WasFree}
pub use Rattle.ados_data.specs.Sums.{ChangedAreSummed}
pub use Rattle.ados_data.specs.Unnamed.{IsBeside, IsExtensionField, IsHeaderField, IsPointerField, KeepsUnnamed, data_end}
pub use Rattle.ados_data.specs.declared.grow.End.{End}
pub use Rattle.ados_data.specs.steps.Blocks.{AtEnd, AtLink, HasPointerRoom, IsExtended, IsLengthened, IsNewBlock, IsResized}
pub use Rattle.ados_data.specs.steps.Edits.{AtData, AtDataFields, AtExtensionFields, AtField, AtFields}
pub use Rattle.ados_data.specs.steps.FileEnd.{IsEnd, IsLonger}
pub use Rattle.ados_map.proofs.MarkLemmas.{bit_of_inside}
pub use Rattle.ados_map.specs.Changes.{BitChanged, MapPlace}
pub use Rattle.ados_map.specs.Pages.{HasBit, IsLowestFree, LawfulPages, NoneFree, NoneFreeBelow, page_block, page_of, pages_of}
pub use Rattle.ados_model.proofs.FileFaults.{chain_head}
pub use Rattle.ados_model.specs.Edits.{overlaid}
unfoldable pub use Rattle.ados_model.specs.File.{contents, data_blocks, extension_blocks}
pub use Rattle.ados_model.specs.File.{AreApart, IsLawful, LawfulFile, ReadableFile, data_block, file_byte, pointer_block}
pub use Rattle.ados_model.specs.Stands.{HasExtension, HasFile, HasOfsData}
pub use Rattle.ados_model.specs.Tree.{block_cost, data_count, data_size, data_start, extension_count}
pub use Rattle.std.proofs.Common.{Bool, List, [], add-zero, ap, ap₂, arith, cond, drop, eqb, false, inl, inr, length, map, max, min, refl, replicate, rules, slice_index, subst, suc, sym, take, true, zero, ℕ, ◌%◌, ◌*◌, ◌++◌, ◌+◌, ◌-◌, ◌/◌, ◌<◌, ◌^◌, ◌∙◌, ◌∷◌, ◌≡◌, ◌≢◌, ◌≤◌, ◌⊎◌}
pub use Rattle.std.proofs.Math.Nat.{mod-lt}
pub use Rattle.std.proofs.lemmas.Bool.{cases_Bool, cases_eq, cases_lt, cases_order, false≢true, true_from_ne_false}
pub use Rattle.std.proofs.lemmas.List.{append_assoc, drop-drop, drop-take, drop_at, ext_get_or, get_or-append_right, get_or-drop, get_or-replicate, get_or-take, get_or_append_left, get_or_default, get_or_past, get_or_push, length-append, length-drop, length-replicate, length-take, length-take-le, length_push, take-append-le, take-take, take_all, take_at}
pub use Rattle.std.proofs.lemmas.List.FromFn.{get_or-map-range_with_len, length-map-range_with_len}

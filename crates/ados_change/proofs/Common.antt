-- The names that most of these proofs cite, passed on from one place. Declares nothing.
pub use Rattle.adf_block.proofs.Blocks.{boot_same, byte-bytes_at}
pub use Rattle.adf_block.proofs.Frames.{other_block_sum, other_long, same_bytes_at, same_count, same_long, same_sum, same_trans, same_weaken}
pub use Rattle.adf_block.proofs.Longs.{byte_at-below, long-below, long-bytes, long-same}
pub use Rattle.adf_block.proofs.Totals.{total-one, total-same}
pub use Rattle.adf_block.specs.Fields.{file_size, format_of, held_count, parent_key, pointer_count, protection, secondary_type, table_entry}
pub use Rattle.adf_block.specs.Frame.{AtLong, AtTwoLongs, InBlock, OnlyBlock, OnlyLong, SameBut, Within}
unfoldable pub use Rattle.adf_block.specs.Image.{block_sum, byte_at, bytes_at, has_free_bit}
pub use Rattle.adf_block.specs.Image.{Chained, HasText, IsInside, block_count, long, page_count, root_key, total}
pub use Rattle.adf_block.specs.Whole.{HasFreeBit, IsImage, IsSize, free_bit_count}
pub use Rattle.adf_block.specs.declared.beside.TheConstants.{CHECKSUM}
pub use Rattle.adf_block.specs.declared.layout.Format.{Format}
pub use Rattle.adf_block.specs.declared.layout.Format.TheVariants.{Ffs, Ofs}
pub use Rattle.adf_block.specs.declared.layout.TheConstants.{COMMENT_BYTE, FILE_TYPE, NAME_BYTE, NEXT_IN_CHAIN}
pub use Rattle.ados_chain.proofs.Changes.{slot_at-small}
pub use Rattle.ados_chain.proofs.Spelling.{Chained-kept}
pub use Rattle.ados_chain.specs.Chains.{InChains, IsEntryBlock, LawfulChains, name_at, slot_at, with_last, without}
pub use Rattle.ados_chain.specs.Relinks.{AtLinks, CanInsert, CanUnlink, InsertsLast, Relinks, Unlinks, link_block, link_long}
pub use Rattle.ados_change.specs.AfterName.{KeepsAfterName}
pub use Rattle.ados_change.specs.Conditions.{CanMake, CanRemove, CanRename, IsDirectoryKey, IsEmpty, IsUnder}
pub use Rattle.ados_change.specs.FieldTold.{commented, dated, protected}
pub use Rattle.ados_change.specs.Kinds.{content_of}
pub use Rattle.ados_change.specs.NewBlocks.{IsTaken, KeepsBlock, KeepsFreed, KeepsKinds, KeepsRest, KeepsUses, TakenInTurn, TakenRise, TakesLowest, TakesNone}
pub use Rattle.ados_change.specs.Places.{Restamped, Summed}
pub use Rattle.ados_change.specs.Renewed.{IsStamped, NeedsMore}
pub use Rattle.ados_change.specs.Stamps.{AtStamps, IsDiskStamp, IsFileStamp, touched}
pub use Rattle.ados_change.specs.Untold.{AgreeInFront, HasData, HasFileBytes, IsBehindEnd, KeepsData, KeepsFileEnd, KeepsPastEnd, KeepsUntold, data_at}
pub use Rattle.ados_change.specs.steps.Emptied.{Empties, GivesBack, IsEmptied, WritesOnlyEntry}
pub use Rattle.ados_change.specs.steps.Footprint.{IsChanged, IsPage, IsPlain, IsWritten}
pub use Rattle.ados_change.specs.steps.Footprint.IsPlain.{bits, date, disk, link, sum, table}
pub use Rattle.ados_change.specs.steps.Footprint.IsWritten.{of_comment, of_name, of_node, of_none}
pub use Rattle.ados_change.specs.steps.Making.{IsHead, IsNewEntry, IsNewField}
pub use Rattle.ados_change.specs.steps.Writes.{AtTitle, Dated, Titled}
pub use Rattle.ados_data.proofs.Chains.{chained, next_of}
pub use Rattle.ados_data.proofs.Spelled.{contents_are, data_blocks_are, extension_blocks_are, listed_is}
pub use Rattle.ados_data.specs.Changing.{HasFree, IsInUse, IsWritable, LawfulMap, WritableFile}
pub use Rattle.ados_data.specs.Order.{InTurn}
pub use Rattle.ados_data.specs.Others.{IsDataField, IsOther, Leaves, LeavesOthers, RisesBehind}
pub use Rattle.ados_data.specs.Unnamed.{IsBeside, IsExtensionField, IsHeaderField, IsPointerField, KeepsUnnamed, data_end}
pub use Rattle.ados_map.proofs.MarkLemmas.{bit_of_inside, mark_kept}
pub use Rattle.ados_map.specs.Changes.{BitChanged, MapPlace}
pub use Rattle.ados_map.specs.Pages.{HasBit, IsLowestFree, LawfulPages, NoneFreeBelow, page_block, page_of, pages_of}
pub use Rattle.ados_model.proofs.Counting.{free_bits_count, no_data, slice_get-back}
pub use Rattle.ados_model.proofs.FileFaults.{chain_head}
pub use Rattle.ados_model.proofs.KeyLists.{Contains-cases, Contains-filter, Contains-here, Contains-later, Contains-nil, Once, Once-head, Once-tail, is_not}
pub use Rattle.ados_model.proofs.Nodes.{content_in, directory_node, entry_node, parent_in, root_or_parent, some_in}
pub use Rattle.ados_model.proofs.OneTree.{one_tree}
pub use Rattle.ados_model.proofs.Standing.{IsFileNode, StandsAt, count_same, duty_of, entry_at, file_at, reached_stands, root_at, root_is, serves_at, slice_get-index}
pub use Rattle.ados_model.specs.Change.{changed, enter, entered, left, listed, made, removed, renamed, rewritten, stamped, with_node, written}
pub use Rattle.ados_model.specs.Edits.{new_node, overlaid, shortened}
pub use Rattle.ados_model.specs.Faults.{InImage, IsFile, IsOfs, Reached, first_pointers, pointers_of, root_of}
pub use Rattle.ados_model.specs.Faults.IsPlace.{directory_slot, extension_pointer, first_extension, further_extension, header_pointer, next_entry, root_page, root_slot}
pub use Rattle.ados_model.specs.Faults.Reached.{start}
unfoldable pub use Rattle.ados_model.specs.File.{data_blocks, extension_blocks}
pub use Rattle.ados_model.specs.File.{AreApart, IsLawful, contents, data_block, file_byte, pointer_block}
pub use Rattle.ados_model.specs.Kept.{Alike, InLongs, InText, IsField, KeepsFirstData, Kept, NamesFirstData, first_data}
pub use Rattle.ados_model.specs.Kept.IsField.{directory_longs, entry_comment, entry_name, extension_longs, ffs_data, file_longs, ofs_data, ofs_data_longs, page_longs, root_longs, root_name}
pub use Rattle.ados_model.specs.Keys.{HasEntryKey, HasFileKey, HasKey, HasTree}
pub use Rattle.ados_model.specs.Parts.{IsUnused, name_in, size_in}
pub use Rattle.ados_model.specs.Stands.{Duty, Fits, HasDuty, HasEntry, HasExtension, HasFile, HasNode, HasOfsData, HasRoot, Layout, Named, Stands, date_at, format_byte, in_slot, type_of}
pub use Rattle.ados_model.specs.Tree.{Content, IsRoot, LeadsToRoot, Node, Proper, Tree, block_cost, bytes_of, content_at, data_count, data_size, data_start, entries, entries_in, extension_count, free, name_of, parent_of, root, size_of}
pub use Rattle.ados_model.specs.Tree.Content.{Directory, File}
pub use Rattle.ados_model.specs.Tree.LeadsToRoot.{at_root, by_parent}
pub use Rattle.ados_model.specs.declared.role.Role.{Role}
pub use Rattle.ados_name.specs.Name.{IsComment, IsName, Same, slot, upper, without_archive}
pub use Rattle.ados_name.specs.declared.stamp.Date3.{Date3}
pub use Rattle.std.proofs.Common.{AllPairs, Bool, Contains, IsSome, List, MatchBool, None, Option, Some, [], ap, ap₂, arith, bit_and, cond, drop, eq-eqb, eqb-true, false, filter, if◌then◌else◌, inl, inr, is_some, length, map, max, min, nat_le, not, option_and_then, option_map, refl, replicate, slice_get, slice_index, slice_index_or, subst, suc, sym, take, true, zero, ℕ, ◌%◌, ◌*◌, ◌++◌, ◌+◌, ◌-◌, ◌/◌, ◌<◌, ◌==◌, ◌^◌, ◌↔◌, ◌∙◌, ◌∷◌, ◌≡◌, ◌≢◌, ◌≤◌, ◌⊎◌}
pub use Rattle.std.proofs.lemmas.Bool.{cases_eq, cases_lt, cases_order, eqb-false, false_from_ne_true, false≢true, le-leb, leb-true, lt-leb, lt-ltb, ltb-true, ne_eqb}
pub use Rattle.std.proofs.lemmas.List.{ext_get_or, get_or-take, get_or_default, get_or_past, length-take, nil_from_length}
pub use Rattle.std.proofs.lemmas.List.Elements.{All-contains, All-nil, Contains-append_left, Contains-get_or, filter_passes}
pub use Rattle.std.proofs.lemmas.List.Kept.{AllPairs-cons, AllPairs-filter}
pub use Rattle.std.specs.List.{list_any, range_with_len}
pub use Rattle.std.specs.Option.{option_map_or}

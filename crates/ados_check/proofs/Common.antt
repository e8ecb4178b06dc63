-- The names that most of these proofs cite, passed on from one place. Declares nothing.
pub use Rattle.adf_block.proofs.Blocks.{byte-bytes_at}
pub use Rattle.adf_block.proofs.Frames.{other_block_long, other_block_sum, other_long, same_bytes_at, same_count, same_long, same_sum, same_trans, same_weaken}
pub use Rattle.adf_block.proofs.Longs.{long-bytes, long-same}
pub use Rattle.adf_block.proofs.Totals.{total-more, total-same}
pub use Rattle.adf_block.specs.Boot.{HasKind, IsDos}
pub use Rattle.adf_block.specs.Fields.{file_size, format_of, held_count, pointer, pointer_count, primary_type, protection, secondary_type, sequence_number, table_entry}
pub use Rattle.adf_block.specs.Frame.{AtLong, InBlock, OnlyBlock, OnlyLong, SameBut}
unfoldable pub use Rattle.adf_block.specs.Image.{block_sum, byte_at, bytes_at, has_free_bit, long}
pub use Rattle.adf_block.specs.Image.{Chained, HasText, block_count, page_count, root_key, total}
pub use Rattle.adf_block.specs.Whole.{HasFreeBit, IsImage, IsSize, text_at}
pub use Rattle.adf_block.specs.declared.layout.Format.{Format}
pub use Rattle.adf_block.specs.declared.layout.Format.TheVariants.{Ffs, Ofs}
pub use Rattle.adf_block.specs.declared.layout.TheConstants.{COMMENT_BYTE, DATA_TYPE, DIRECTORY_TYPE, FILE_TYPE, HEADER_TYPE, NAME_BYTE, NEXT_DATA, NEXT_EXTENSION, NEXT_IN_CHAIN}
pub use Rattle.ados_check.specs.BitmapTold.{IsFree, TellsBitmap}
pub use Rattle.ados_check.specs.DataRules.{BreaksRule, IsPlaced, TellsHeader, kind_of_data}
unfoldable pub use Rattle.ados_check.specs.Entries.{upper_name}
pub use Rattle.ados_check.specs.Entries.{AreSoundFiles, IsSoundIfFile}
pub use Rattle.ados_check.specs.Keeping.{AreKept, HasBoot, StandsAt, kept_length, start_of}
pub use Rattle.ados_check.specs.Kept.{seen}
pub use Rattle.ados_check.specs.Laws.{AreInUse, IsMended}
pub use Rattle.ados_check.specs.Marks.{AreReached, AreUnlike, HasEntryType, HasValidName, IsChecked, IsMarkedEntry, IsSound, IsSoundData, IsSoundEntry, IsSoundFile, IsSoundRoot, mark_at}
pub use Rattle.ados_check.specs.Pieces.{all_bytes}
pub use Rattle.ados_check.specs.Evidence.{IsFirstSeparator, IsNameEvidence}
pub use Rattle.ados_check.specs.Rules.{HasBadField, HasBadSumAs, HasBadTypeAs, HasNoType, HasWrongLength, HasWrongName, TellsFields, kind_of}
pub use Rattle.ados_check.specs.Source.{IsKept, SourceView, Tells}
pub use Rattle.ados_check.specs.declared.data_rules.DataRule.{DataRule}
pub use Rattle.ados_check.specs.declared.data_rules.DataRule.TheVariants.{Link, Sequence, TooFew, TooMany}
pub use Rattle.ados_check.specs.declared.data_rules.Place.{Place}
pub use Rattle.ados_check.specs.declared.data_rules.TheConstants.{DATA_RULES}
pub use Rattle.ados_check.specs.declared.evidence.Evidence.{Evidence}
pub use Rattle.ados_check.specs.declared.mark.Mark.{Mark}
pub use Rattle.ados_check.specs.declared.rules.FieldRule.{FieldRule}
pub use Rattle.ados_check.specs.declared.rules.FieldRule.TheVariants.{Chain, Comment, FirstData, Name, NoLink, OwnKey, Parent, PointerCount}
pub use Rattle.ados_check.specs.declared.rules.TheConstants.{FIELD_RULES}
pub use Rattle.ados_check.specs.steps.Files.{HasCount, HasCounts, HasPointersAs, IsLinked, IsReachedEntry, IsReachedFile, KeepsRules}
pub use Rattle.ados_check.specs.steps.Reaching.{ArePending, AreReachedBut, IsBetween, IsInHand, IsLeft, IsNoted, root_mark, unmarked, work, mark_of}
pub use Rattle.ados_data.proofs.Chains.{chained, next_of}
pub use Rattle.ados_map.specs.Changes.{InPages, PagesRebuilt}
pub use Rattle.ados_map.specs.Pages.{HasBit, LawfulPages, map_long, page_block, page_of, pages_of}
pub use Rattle.ados_model.proofs.FileBlocks.{IsWhole, chunks, first_pointers-at, length-first_pointers}
unfoldable pub use Rattle.ados_model.proofs.Lists.{joined}
pub use Rattle.ados_model.proofs.NoFaults.{faults_have_no_tree, is_dos, is_known}
pub use Rattle.ados_model.proofs.Nodes.{content_in, directory_in, parent_in}
pub use Rattle.ados_model.proofs.Standing.{Chained-first, Chained-more, slice_get-index}
pub use Rattle.ados_model.specs.Accepted.{Accepts, HasNoLost, ShowsNoFault}
pub use Rattle.ados_model.specs.Faults.{AreDataBlocks, HasBadCount, HasBadName, HasBadPointer, HasDuplicateName, HasFileType, HasName, HasShortName, InImage, IsDataAt, IsEntry, IsFile, IsLinkType, IsOfs, IsPlace, IsPointer, IsReachedAndFree, IsUsedTwice, LinkedOnce, PlaceNames, Reached, Shows, first_pointers, pointers_of, root_of}
pub use Rattle.ados_model.specs.Faults.HasBadCount.{held_none, held_not_full, held_over, wrong_size, wrong_sum}
pub use Rattle.ados_model.specs.Faults.HasBadName.{colon, empty, long_name, slash}
pub use Rattle.ados_model.specs.Faults.HasBadPointer.{further_data, outside}
pub use Rattle.ados_model.specs.Faults.HasName.{entry_name, root_name}
pub use Rattle.ados_model.specs.Faults.IsPlace.{directory_slot, extension_pointer, first_extension, further_extension, header_pointer, next_entry, root_page, root_slot}
pub use Rattle.ados_model.specs.Faults.Reached.{named, start}
unfoldable pub use Rattle.ados_model.specs.File.{contents, data_blocks, extension_blocks}
pub use Rattle.ados_model.specs.File.{AreApart, IsLawful, data_block, file_byte, pointer_block}
pub use Rattle.ados_model.specs.Parts.{name_in, size_in}
pub use Rattle.ados_model.specs.Rebuilt.{HasValidBitmap, IsOfBitmap, Rebuilt}
pub use Rattle.ados_model.specs.Stands.{Duty, Fits, HasDuty, HasEntry, HasExtension, HasFile, HasNode, HasOfsData, HasRoot, Layout, Named, Stands, date_at, format_byte, in_slot, type_of}
pub use Rattle.ados_model.specs.Tree.{Content, LeadsToRoot, Node, Proper, Tree, content_at, data_count, data_size, data_start, entries, entries_in, extension_count, name_of, parent_of}
pub use Rattle.ados_model.specs.Tree.Content.{Directory, File}
pub use Rattle.ados_model.specs.declared.fault.FaultKind.{FaultKind}
pub use Rattle.ados_model.specs.declared.role.Role.{Role}
pub use Rattle.ados_model.specs.declared.role.Role.TheVariants.{Data, Entry, Extension, Page, Root}
pub use Rattle.ados_name.specs.Name.{IsComment, IsName, IsNameByte, Same, is_separator, slot, upper}
pub use Rattle.byteorder.specs.Endian.{big_number}
pub use Rattle.std.proofs.Common.{All, AllPairs, Bool, Contains, IsSome, List, MatchOption, None, Option, Some, [], ap, append_assoc, ap₂, arith, below_more, cond, drop, eq-eqb, eqb, false, filter, fold, get_or, if◌then◌else◌, inl, inr, is_some, le-leb, length, length-drop, length-take, map, min, nat_le, nat_lt, ne_eqb, not, refl, replicate, rules, slice_get, slice_index, slice_index_or, subst, subst₂, suc, sym, take, true, vec_capacity, zero, ℕ, ◌%◌, ◌&&◌, ◌*◌, ◌++◌, ◌+◌, ◌-◌, ◌/◌, ◌<◌, ◌==◌, ◌^◌, ◌||◌, ◌↔◌, ◌∙◌, ◌∷◌, ◌≡◌, ◌≢◌, ◌≤◌, ◌⊎◌, ltb, bit_and, IfErr, IsOk, IsTrue, Ok, Err, Result, is_err}
pub use Rattle.std.proofs.Math.ListN.{set}
pub use Rattle.std.proofs.lemmas.Bool.{and_parts, cases_Bool, cases_eq, cases_lt, cases_order, eqb-true, false_from_ne_true, false≢true, leb-true, lt-ltb, ltb-true, not-false, not-true, cond_above, cond_below}
pub use Rattle.std.proofs.lemmas.List.{append-nil, drop-drop, drop-take, ext_get_or, get_or-append_right, get_or-drop, get_or-map, get_or-replicate, get_or-set_other, get_or-set_same, get_or-take, get_or_append_left, get_or_default, get_or_past, length-append, length-map, length-replicate, length-set, length_push, same_lists, take-take, take_all, take_at}
pub use Rattle.std.proofs.lemmas.List.Elements.{All-append, All-contains, All-contains_itself, All-from_get_or, All-weaker, Contains-append_cases, Contains-append_left, Contains-append_right, Contains-get_or, filter-append, recursion_from_All, Contains-push, Contains-push_cases}
pub use Rattle.std.proofs.lemmas.List.Folds.{Any-from_list_any, sum_by-replicate}
pub use Rattle.std.proofs.lemmas.List.FromFn.{get_or-map-range_with_len, length-map-range_with_len}
pub use Rattle.std.proofs.lemmas.List.Sums.{sum_by-set, sum_by_more}
pub use Rattle.std.proofs.lemmas.Option.{same_Some, slice_get-get_or, slice_get_past, unwrap_or-slice_get}
pub use Rattle.std.specs.Bool.{⊤}
pub use Rattle.std.specs.List.{AllByRecursion, list_any, range_with_len, sum_by}
pub use Rattle.std.specs.Option.{unwrap_or}

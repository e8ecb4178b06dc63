-- The names that most of these proofs cite, passed on from one place. Declares nothing.
pub use Rattle.adf_block.proofs.Frames.{other_long, same_bytes_at, same_count, same_long, same_sum, same_trans, same_weaken}
pub use Rattle.adf_block.specs.Fields.{format_of, held_count, pointer_count, table_entry}
pub use Rattle.adf_block.specs.Frame.{OnlyLong, SameBut}
unfoldable pub use Rattle.adf_block.specs.Image.{block_sum, byte_at, bytes_at, has_free_bit, long}
pub use Rattle.adf_block.specs.Image.{Chained, HasText, IsInside, block_count, page_count, root_key, total}
pub use Rattle.adf_block.specs.Whole.{HasFreeBit, IsImage, text_at}
pub use Rattle.adf_block.specs.declared.layout.TheConstants.{COMMENT_BYTE, NAME_BYTE, NEXT_DATA, NEXT_EXTENSION, NEXT_IN_CHAIN}
pub use Rattle.ados_salvage.specs.Sound.{IsSoundHeader}
pub use Rattle.ados_check.proofs.PlaceLemmas.{of_root}
pub use Rattle.ados_check.proofs.Roles.{only_root, reached_marked}
pub use Rattle.ados_faults.proofs.Closing.{few_pages}
pub use Rattle.ados_faults.proofs.Insides.{reached_inside, root_inside}
pub use Rattle.ados_map.specs.Pages.{IsPage, LawfulPages, page_block, pages_of}
pub use Rattle.ados_validate.specs.Mendable.{IsMendable, ShowsOnlyMendable}
pub use Rattle.ados_validate.specs.Validated.{IsValidated, without_lost}
pub use Rattle.ados_validate.specs.steps.Cautious.{AreSafePages, FreedHeadersStay, HasNoLostHeader, IsSafePage}
pub use Rattle.ados_validate.specs.steps.Kept.{AreKeptLongs, page_long}
pub use Rattle.ados_validate.specs.steps.Settled.{HaveSums, IsRootMark, IsSettled, MendableHasPages, ValidatedHasPages}
pub use Rattle.ados_model.proofs.Standing.{StandsAt, count_same, reached_stands, root_is, serves_at, slice_get-index}
pub use Rattle.ados_model.specs.Accepted.{Accepts, HasNoLost, ShowsNoFault}
pub use Rattle.ados_model.specs.Faults.{AreDataBlocks, HasBadComment, HasBadCount, HasBadName, HasBadOwnKey, HasBadParent, HasBadPointer, HasBadSequence, HasBadSum, HasBadType, HasDuplicateName, HasName, HasPointers, HasShortName, HasSum, HoldsOtherSize, InImage, IsContinued, IsDataAt, IsDirectory, IsEntry, IsFile, IsInWrongChain, IsInnerData, IsLinkType, IsOfs, IsPlace, IsUsedTwice, LinkedOnce, PlaceNames, Reached, Shows, first_pointers, last_link, pointers_of, root_of}
pub use Rattle.ados_model.specs.Faults.IsPlace.{directory_slot, extension_pointer, first_extension, further_extension, header_pointer, next_entry, root_page, root_slot}
pub use Rattle.ados_model.specs.Faults.IsUsedTwice.{root_named, two_holders, two_longs}
pub use Rattle.ados_model.specs.Faults.Reached.{named, start}
pub use Rattle.ados_model.specs.File.{file_byte}
pub use Rattle.ados_model.specs.Rebuilt.{HasValidBitmap, IsOfBitmap, Rebuilt}
pub use Rattle.ados_model.specs.Stands.{Duty, Fits, HasDuty, HasEntry, HasFile, HasNode, HasOfsData, HasRoot, Layout, Named, Stands, date_at, in_slot}
pub use Rattle.ados_model.specs.Tree.{LeadsToRoot, Node, Proper, Tree, data_count, root}
pub use Rattle.ados_model.specs.declared.fault.FaultKind.TheVariants.{BadComment, BadCount, BadName, BadOwnKey, BadParent, BadPointer, BadSequence, BadSum, BadType, BlockUsedTwice, DuplicateName, LinkEntry, MarkedFree, NoMemory, NotADosDisk, UnsupportedKind, WrongChain}
pub use Rattle.ados_model.specs.declared.role.Role.{Role}
pub use Rattle.ados_model.specs.declared.role.Role.TheVariants.{Data, Entry, Extension, Page, Root}
pub use Rattle.std.proofs.lemmas.Bool.{and_parts, cases_Bool, cases_eq, cases_lt, eqb-false, false≢true, le-leb, leb-true, lt-leb, lt-ltb, ltb-true, not-true}
pub use Rattle.std.proofs.lemmas.List.{get_or_default, get_or_past, length-drop, length-take}
pub use Rattle.std.proofs.lemmas.List.Elements.{All-contains, All-from_get_or, All-get_or}
pub use Rattle.std.proofs.lemmas.Result.{IfOk-weaker, on_ok_weaker}
pub use Rattle.std.specs.List.{enumerate_from, range_with_len}
pub use Rattle.std.specs.Prelude.{All, Contains, bit_and, flat_map, if◌then◌else◌}
pub use Rattle.std.proofs.Common.{Bool, List, MatchOption, None, Option, Some, [], ap, ap₂, arith, bit_xor, codes, count_ones, drop, eqb, false, inl, inr, length, map, min, nat_le, nat_lt, not, refl, slice_index, slice_index_or, subst, suc, sum_by, sym, take, true, zero, ℕ, ◌%◌, ◌&&◌, ◌*◌, ◌++◌, ◌+◌, ◌-◌, ◌/◌, ◌<◌, ◌==◌, ◌^◌, ◌∙◌, ◌∷◌, ◌≡◌, ◌≢◌, ◌≤◌, ◌⊎◌}
pub use Rattle.ados_check.proofs.Untouched.{HasSameLongs, IsPlaceLong, place_long, place_moves}
pub use Rattle.ados_model.specs.Faults.HasBadPointer.{first_data, further_data, outside}
pub use Rattle.ados_map.specs.Changes.{InPages}
pub use Rattle.std.proofs.lemmas.Nat.{pow_below, xor_of_32}

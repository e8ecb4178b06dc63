-- The names that most of these proofs cite, passed on from one place. Declares nothing.
pub use Rattle.adf_block.specs.Fields.{file_size, held_count, own_key, parent_key, pointer, pointer_count, sequence_number}
unfoldable pub use Rattle.adf_block.specs.Image.{block_sum, byte_at, long}
pub use Rattle.adf_block.specs.Image.{block_count, page_count}
pub use Rattle.adf_block.specs.Whole.{IsImage, text_at}
pub use Rattle.adf_block.specs.declared.layout.TheConstants.{DIRECTORY_TYPE, FILE_TYPE, FIRST_POINTER, FIRST_SLOT, NAME_BYTE, NEXT_EXTENSION, NEXT_IN_CHAIN, TABLE_LONGS}
pub use Rattle.ados_check.proofs.MarkLemmas.{IsMarkedMore, mark_read, marked_more, none_marked}
pub use Rattle.ados_check.proofs.Roles.{only_root, place_not_root}
pub use Rattle.ados_check.proofs.Ruling.{field_shows, type_shows}
pub use Rattle.ados_check.specs.DataRules.{BreaksRule, kind_of_data}
unfoldable pub use Rattle.ados_check.specs.Entries.{upper_name}
pub use Rattle.ados_check.specs.Marks.{mark_at}
pub use Rattle.ados_check.specs.Rules.{HasBadField, HasBadSumAs, HasBadTypeAs, HasOtherCount, HasWrongName, kind_of}
pub use Rattle.ados_check.specs.Source.{SourceView}
pub use Rattle.ados_check.specs.declared.data_rules.DataRule.{DataRule}
pub use Rattle.ados_check.specs.declared.data_rules.DataRule.TheVariants.{Link, Sequence, TooFew, TooMany}
pub use Rattle.ados_check.specs.declared.data_rules.TheConstants.{DATA_RULES}
pub use Rattle.ados_check.specs.declared.evidence.Evidence.{Evidence}
pub use Rattle.ados_check.specs.declared.mark.Mark.{Mark}
pub use Rattle.ados_check.specs.declared.rules.FieldRule.{FieldRule}
pub use Rattle.ados_check.specs.declared.rules.FieldRule.TheVariants.{Chain, Comment, FirstData, Name, NoLink, OwnKey, Parent, PointerCount}
pub use Rattle.ados_check.specs.declared.rules.TheConstants.{FIELD_RULES, POINTER_RULES}
pub use Rattle.ados_faults.specs.Listed.{AreClosed, AreFirstFaults, IsMarked, IsNamedAs, IsOtherKind, ListsFaults, Marks, ShowsMoreThan, ShowsOtherKind, StandsBefore, fault_of, rank, root_mark}
pub use Rattle.ados_faults.specs.Values.{AreValues, HasFields, IsEvidenceOf, IsTheEvidence, LeadsOut, NoneShows, ShowsDisk, extensions_to, is_extension}
pub use Rattle.ados_faults.specs.declared.names.Named.{Named}
pub use Rattle.ados_faults.specs.declared.pieces.Piece.{Piece}
pub use Rattle.ados_faults.specs.declared.roles.Part.{Part}
pub use Rattle.ados_faults.specs.declared.roles.Part.TheVariants.{Bitmap, DataFile, Directory, ExtensionFile, Slot}
pub use Rattle.ados_faults.specs.declared.roles.Taken.{Taken}
pub use Rattle.ados_faults.specs.declared.roles.Taken.TheVariants.{Nothing, One, Two}
pub use Rattle.ados_faults.specs.declared.walk.Step.{Step}
pub use Rattle.ados_faults.specs.steps.Blocks.{AreEntriesOf, AreMet, AreNextMet, AreSlotsMet, AreTypesMet, HasTypeAs, HoldsEntries, IsEntryIn, IsGrown, IsOfType}
pub use Rattle.ados_faults.specs.steps.Chain.{AreHeaders, IsChain, IsPiece, first_in, next_in}
pub use Rattle.ados_faults.specs.steps.FileNotes.{AreAllFilesNoted, AreAllSeen, AreHeld, ArePlacesNoted, HasNext, IsFileNoted, IsHeaderSeen, IsHeld, IsOneNoted, IsPieceNoted, IsPlaceNoted, IsRuleNoted, is_known}
pub use Rattle.ados_faults.specs.steps.Longs.{AreLongs, AreOfEach}
pub use Rattle.ados_faults.specs.steps.Looks.{AreLookedAt, AreWrongsNoted, IsFieldNoted, IsLookedAt}
pub use Rattle.ados_faults.specs.steps.Named.{AreDuplicatesNoted, AreFirstMet, AreFirstNames, AreKnown, AreListedNoted, AreNamesKept, AreNamesMet, AreNamesNoted, AreStillKnown, HasNameOf, IsFirstName, IsNameMet, name_cmp, named_in, named_of}
pub use Rattle.ados_faults.specs.steps.Noted.{AreListed, AreNoted, AreStillNoted, IsFull, IsNoted, ListsNoted, cell_at, cell_of}
pub use Rattle.ados_faults.specs.steps.Roles.{AreBacked, AreCovered, AreCoveredBy, HasNumber, HasTwo, IsBacked, IsCovered, IsListed, lacks, number_of, part_rank, root_step, step_of, taken_at, with_number}
pub use Rattle.ados_faults.specs.steps.Tails.{ArePlacedAt, AreSettled, AreTails, IsAlong, IsAlongFile, IsHeaderList, IsTail, IsSummary, is_known_at, is_settled_at}
pub use Rattle.ados_faults.specs.steps.Walked.{AreKept, AreOutsideNoted, AreTwiceNoted, AreVisited, IsMarkedBy, IsMarkedFree, IsMet, IsMetBy, IsPassed, IsStep, IsVisited, IsWalked}
pub use Rattle.ados_model.proofs.KeyLists.{Contains-here, Contains-later, Contains-nil, length-once}
pub use Rattle.ados_model.specs.Faults.{AreDataBlocks, FurtherAreInside, HasDuplicateName, HasName, HasShortName, HasSum, InImage, IsDataAt, IsFile, IsOfs, IsPlace, IsUsedTwice, LeadOn, LeadsInside, LinkedOnce, PlaceNames, Reached, Shows, count_of_size, last_link, pointers_of, root_of}
pub use Rattle.ados_model.specs.Faults.IsPlace.{directory_slot, extension_pointer, first_extension, further_extension, header_pointer, next_entry, root_page, root_slot}
pub use Rattle.ados_model.specs.Faults.IsUsedTwice.{root_named, two_holders, two_longs}
pub use Rattle.ados_model.specs.Faults.Reached.{named, start}
pub use Rattle.ados_model.specs.declared.fault.FaultKind.{FaultKind}
pub use Rattle.ados_model.specs.declared.fault.FaultKind.TheVariants.{BadComment, BadCount, BadName, BadOwnKey, BadParent, BadPointer, BadSequence, BadSum, BadType, BlockUsedTwice, DuplicateName, LinkEntry, MarkedFree, NoMemory, NotADosDisk, UnsupportedKind, WrongChain}
pub use Rattle.ados_model.specs.declared.fault.VolumeFault.{VolumeFault}
pub use Rattle.ados_model.specs.declared.role.Role.{Role}
pub use Rattle.ados_model.specs.declared.role.Role.TheVariants.{Data, Entry, Extension, Page, Root}
pub use Rattle.ados_name.specs.Name.{Same, slot, upper}
pub use Rattle.std.proofs.Common.{Bool, List, None, Option, Some, [], add-one, ap, ap₂, arith, below_more, cond, drop, false, get_or, get_or-set_other, get_or-set_same, if◌then◌else◌, inl, inr, length, length-set, map, min, not, refl, replicate, rules, set, slice_index, subst, suc, sym, take, true, zero, ℕ, ◌*◌, ◌++◌, ◌+◌, ◌-◌, ◌<◌, ◌==◌, ◌^◌, ◌||◌, ◌∙◌, ◌∷◌, ◌≡◌, ◌≢◌, ◌≤◌, ◌⊎◌}
pub use Rattle.std.proofs.lemmas.Bool.{cases_Bool, cases_eq, cases_lt, cases_order, eqb-false, eqb-true, false≢true, le-ltb, lt-leb, lt-ltb, not-false, not-true, or_cases, or_parts}
pub use Rattle.std.proofs.lemmas.Grind.{common_steps, flat_map-append}
pub use Rattle.std.proofs.lemmas.List.{append-nil, drop_more, get_or-append-add, get_or-replicate, get_or_append_left, get_or_default, get_or_past, get_or_push, length-append, length-map, length-replicate, length-take-le, length_push, same_lists, take-append-drop, take_all, take_at, take_more}
pub use Rattle.std.proofs.lemmas.List.Elements.{All-append, All-more, All-pop, All-push, All-weaker, Contains-append_cases, Contains-append_left, Contains-get_or, Contains-push, Contains-push_cases}
pub use Rattle.std.proofs.lemmas.List.Quantifiers.{all_pairs_push}
pub use Rattle.std.proofs.lemmas.List.Sums.{sum_by-append, sum_by_more}
pub use Rattle.std.proofs.lemmas.Option.{get_or_from_slice_get, none-some, same_Some, slice_get-get_or, slice_get_past, slice_get_read, slice_get_within, unwrap_or-slice_get}
pub use Rattle.std.specs.BTreeMap.{BTreeMap, get, is_at}
pub use Rattle.std.specs.List.{All, AllPairs, Contains, flat_map, slice_get, sum_by}
pub use Rattle.std.specs.Option.{is_some, option_and_then, option_map}

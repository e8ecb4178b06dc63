-- The names that most of these proofs cite, passed on from one place. Declares nothing.
pub use Rattle.adf_block.specs.declared.layout.Format.TheVariants.{Ffs, Ofs}
pub use Rattle.ados_change.proofs.Changed.{nodes_here, nodes_other, relisted}
pub use Rattle.ados_change.specs.Conditions.{CanMake, CanRename, IsDirectoryKey, IsEmpty}
pub use Rattle.ados_change.specs.NewBlocks.{KeepsRest}
pub use Rattle.ados_handler.specs.Gives.{HandlerGives, IsSoundHandler, LeavesImage}
pub use Rattle.ados_handler.specs.HandlerState.{HandlerState, Places}
pub use Rattle.ados_handler.specs.Keeps.{HasPathTexts, KeepsProper, MeaningKeepsProper}
pub use Rattle.ados_handler.specs.ProperSession.{HoldNumber, IsProperSession, hold_at}
pub use Rattle.ados_handler.specs.ProperSession.HoldNumber.{ByHandle, ByLock}
pub use Rattle.ados_handler.specs.Room.{has_place, room_for}
pub use Rattle.ados_handler.specs.steps.Methods.{MethodGives, MethodMeans, ServedOrFull, answer_to}
pub use Rattle.ados_handler.specs.steps.Moves.{both, move_refusal, move_refusals, remove_refusal, remove_refusals, source_and_place}
pub use Rattle.ados_handler.specs.steps.Opening.{BringsHandle, IsOpened, IsUnopened, OpenedOrFull, Opens, empty_refusals, make_refusals, open_refusals}
pub use Rattle.ados_handler.specs.steps.Table.{IsTestBy, NumbersFit, TableState, numbered_from_one, table_view}
pub use Rattle.ados_model.proofs.Nodes.{content_in, directory_node, some_in}
pub use Rattle.ados_model.proofs.OneTree.{one_tree}
pub use Rattle.ados_model.specs.Change.{and_then, changed, child_of, entries_after, holds_file, is_file, left, listed, made, missing_before, place_in, removed, renamed, rewritten, stamped, start_of, step_from, walk_steps, with_node, written}
pub use Rattle.ados_model.specs.DiskDate.{sets_disk_date}
pub use Rattle.ados_model.specs.Edits.{disk_renamed, grown, new_node, overlaid, shortened, with_comment, with_date, with_protection}
pub use Rattle.ados_model.specs.Keys.{HasFileKey, HasKey}
pub use Rattle.ados_model.specs.Meaning.{IsRefused, IsServed, Meaning, makes_hold}
pub use Rattle.ados_model.specs.Objects.{file_info, found, handle_target, is_bad_target, is_exclusive_mode, is_under, lock_key, object, place_error, placed, protection_of, spot_directory, spot_name, standing, target_number, walk_error}
pub use Rattle.ados_model.specs.Packet.{action_of, dos_false, dos_true, error_number, failure_of, handed_back}
pub use Rattle.ados_model.specs.Parts.{IsUnused, size_in}
pub use Rattle.ados_model.specs.Phrases.{ServedOrNoMemory, is_comment, is_handle, spot, within}
pub use Rattle.ados_model.specs.Reads.{bytes_read, lacks, seek_target}
pub use Rattle.ados_model.specs.Refusals.{first_refusal, has_no_room, is_directory_there, is_empty, is_name, is_some_and, refusal, refusals, refuse}
pub use Rattle.ados_model.specs.Resolved.{lock_object, place_result, placed_at, walk_result, walked}
pub use Rattle.ados_model.specs.Session.{IsFreeNumber, Session, at_position, handle_key, handle_position, holds, is_held, is_held_exclusively, is_in_use, is_lock, opening_session, positions_within, with_handle, with_lock, without_handle, without_lock}
pub use Rattle.ados_model.specs.Stands.{Duty, Stands}
pub use Rattle.ados_model.specs.Success.{After, GivesHandle, GivesLock, IsNewKey, MakesFile, Success, after, resized}
pub use Rattle.ados_model.specs.Tree.{Content, Node, Proper, Tree, block_cost, bytes_in, bytes_of, content_at, data_count, free, needs_more, parent_of, root, size_of}
pub use Rattle.ados_model.specs.Tree.Content.{Directory, File}
pub use Rattle.ados_model.specs.declared.answer.Body.{Body}
pub use Rattle.ados_model.specs.declared.answer.Body.TheVariants.{Buffer, Disk, Empty}
pub use Rattle.ados_model.specs.declared.dos_error.DosError.{DosError}
pub use Rattle.ados_model.specs.declared.dos_error.DosError.TheVariants.{ActionNotKnown, CommentTooBig, DeleteProtected, DeviceNotMounted, DirectoryNotEmpty, DiskFull, InvalidComponentName, InvalidLock, NoFreeStore, NoMoreEntries, ObjectExists, ObjectInUse, ObjectWrongType, ReadProtected, SeekError, WriteProtected}
pub use Rattle.ados_model.specs.declared.dos_error.PlaceFault.{PlaceFault}
pub use Rattle.ados_model.specs.declared.dos_error.WalkFault.{WalkFault}
pub use Rattle.ados_model.specs.declared.holds.HandleHold.{HandleHold}
pub use Rattle.ados_model.specs.declared.holds.LockHold.{LockHold}
pub use Rattle.ados_model.specs.declared.packet.Packet.{Packet}
pub use Rattle.ados_model.specs.declared.packet.Packet.TheVariants.{CopyDir, CreateDir, DeleteObject, Die, DiskInfo, End, ExamineNext, ExamineObject, FindInput, FindOutput, FindUpdate, FreeLock, Info, LocateObject, Other, Parent, Read, RenameDisk, RenameObject, SameLock, Seek, SetComment, SetDate, SetFileSize, SetProtect, Write}
pub use Rattle.ados_model.specs.declared.results.Results.{Results}
pub use Rattle.ados_name.specs.Fault.{first_fault}
unfoldable pub use Rattle.ados_name.specs.Name.{front, last_name, steps, steps_along}
pub use Rattle.ados_name.specs.Name.{IsComment, IsName, IsNameByte, Step, denies_delete, denies_read, denies_write, is_from_root, is_separator, without_archive}
pub use Rattle.ados_name.specs.Path.{IsPathText}
pub use Rattle.ados_name.specs.declared.stamp.Date3.{Date3}
pub use Rattle.ados_volume.proofs.FreeBlock.{can_make_new, new_key, none_free_lacks}
pub use Rattle.ados_volume.proofs.Refusing.{can_make_in, can_remove, is_named, no_child_new, none_refuses, none_there, not_refused, passed}
pub use Rattle.ados_volume.proofs.Walking.{child_is_key, parent_is_key, step_key}
pub use Rattle.ados_volume.specs.Shown.{Shown}
pub use Rattle.slab.specs.Slab.{RetainsFrom, Slab, Updates, entries_from, slab_len, with_value}
pub use Rattle.std.proofs.lemmas.Bool.{and_parts, and_right, cases_eq, eq-eqb, eqb-true, false_from_ne_true, false≢true, le-leb, le-ltb, leb-true, lt-ltb, ne_eqb, not-false, not-true, or_parts, true≢false}
pub use Rattle.std.proofs.lemmas.Bool.Decides.{Decides-eqb, eqb_tells, nat_tests}
pub use Rattle.std.proofs.lemmas.List.{get_or_default, length-replicate, nil_from_length, take_min, with_items_is}
pub use Rattle.std.proofs.lemmas.Option.{none-some, same_Some}
pub use Rattle.std.specs.Cmp.{nat_cmp_total}
pub use Rattle.std.specs.FinMap.{FinMap, empty, entries-from_sorted, find, get-empty, get-entries, get-from_entries, get-from_sorted, get-insert, get-remove, insert, is_sorted, nat_cmp-IsAntisymmetric, remove, same_map}
pub use Rattle.std.specs.List.{list_any, suffix_len}
pub use Rattle.std.specs.Option.{option_copied, option_copied_mut, option_map_or}
pub use Rattle.std.specs.Ordering.{eq_by_cmp, is_lt, nat_cmp}
pub use Rattle.std.specs.Prelude.{Bool, IfSome, IsSome, IsTrue, List, None, Option, Some, T, [], codes, false, filter, int_le, is_none, is_some, length, map, max, negsuc, pos, refl, replicate, true, ℕ, ℤ}
pub use Rattle.std.specs.Result.{result_err, result_unwrap_or}

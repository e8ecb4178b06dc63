-- The names that most of these proofs cite, passed on from one place. Declares nothing.
pub use Rattle.adf_block.specs.Fields.{format_of}
pub use Rattle.adf_block.specs.Image.{block_count}
pub use Rattle.adf_block.specs.declared.layout.Format.{Format}
pub use Rattle.adf_block.specs.declared.layout.Format.TheVariants.{Ffs, Ofs}
pub use Rattle.adf_import.specs.Changes.{Changes, ChangesTree, adding, cut_back, described, describing, filled, filling}
pub use Rattle.adf_import.specs.Commands.{Does, EndsProtect, MakesMissing}
pub use Rattle.adf_import.specs.InTurn.{GoesThrough}
pub use Rattle.adf_import.specs.InTurn.GoesThrough.{none, one_more}
pub use Rattle.adf_import.specs.Paths.{directory_at, object_at, place_at}
pub use Rattle.adf_import.specs.Progress.{IsReady}
pub use Rattle.adf_import.specs.Pruned.{AreKeysBelow}
pub use Rattle.adf_import.specs.Put.{KeepsKeys, PutsFile, PutsIn, PutsInTurn, enter_refusal, entered, new_refusal, put, put_refusal, putting}
pub use Rattle.adf_import.specs.Refusals.{make_refusal, more_blocks, or_no_room}
pub use Rattle.adf_import.specs.Turns.{AreDone, AtWord, EndsAt, EndsInTurn, ReadsFirst}
pub use Rattle.adf_import.specs.declared.fault.InFault.{InFault}
pub use Rattle.adf_import.specs.declared.new_file.NewFile.{NewFile}
pub use Rattle.adf_import.specs.declared.new_file.NotPut.{NotPut}
pub use Rattle.adf_import.specs.declared.paths.MoveFault.{MoveFault}
pub use Rattle.adf_import.specs.declared.progress.Made.{Made}
pub use Rattle.adf_text.specs.ProtectWords.{protect_word}
pub use Rattle.adf_text.specs.declared.protect_words.Form.{Form}
pub use Rattle.ados_change.proofs.Changed.{nodes_here, nodes_other, relisted}
pub use Rattle.ados_change.proofs.Writable.{format_is}
pub use Rattle.ados_change.specs.Conditions.{IsDirectoryKey, IsUnder}
pub use Rattle.ados_change.specs.Conditions.IsUnder.{by_parent, itself}
pub use Rattle.ados_model.proofs.KeyLists.{Contains-cases, Contains-here, Contains-later, Contains-nil, Contains-split, Once, Once-apart}
pub use Rattle.ados_model.proofs.Nodes.{content_in, parent_in, some_in}
pub use Rattle.ados_model.proofs.OneTree.{one_tree}
pub use Rattle.ados_model.specs.Change.{changed, child_of, enter, is_file, made, removed, rewritten, with_node, written}
pub use Rattle.ados_model.specs.Edits.{new_node, with_comment, with_date, with_protection}
pub use Rattle.ados_model.specs.Keys.{HasDirectory, HasEntryKey, HasKey, HasTree}
pub use Rattle.ados_model.specs.Objects.{file_info, protection_of}
pub use Rattle.ados_model.specs.Parts.{IsUnused, size_in}
pub use Rattle.ados_model.specs.Reads.{lacks}
pub use Rattle.ados_model.specs.Refusals.{first_refusal, refuse}
pub use Rattle.ados_model.specs.Stands.{Stands}
pub use Rattle.ados_model.specs.Tree.{Content, Node, Proper, Tree, block_cost, content_at, entries, free, name_of, parent_of, root, size_of}
pub use Rattle.ados_model.specs.Tree.Content.{Directory, File}
pub use Rattle.ados_model.specs.declared.answer.FileInfo.{FileInfo}
pub use Rattle.ados_model.specs.declared.dos_error.DosError.{DosError}
pub use Rattle.ados_model.specs.declared.dos_error.DosError.TheVariants.{DeleteProtected, DiskFull, ObjectExists, ObjectWrongType, WriteProtected}
pub use Rattle.ados_name.specs.Name.{IsName, denies_delete, denies_write, slot, without_archive}
pub use Rattle.ados_name.specs.declared.stamp.Date3.{Date3}
pub use Rattle.ados_volume.proofs.AllBelow.{StandsUnder}
pub use Rattle.ados_volume.proofs.FreeBlock.{none_free_lacks}
pub use Rattle.ados_volume.proofs.Loops.{no_loop}
pub use Rattle.ados_volume.proofs.Refusing.{can_make_in, none_refuses, none_there, passed}
pub use Rattle.ados_volume.specs.Shown.{Shown}
pub use Rattle.std.proofs.lemmas.Bool.{cases_eq, false≢true, true≢false}
pub use Rattle.std.proofs.lemmas.Grind.{common_steps}
pub use Rattle.std.proofs.lemmas.List.Elements.{All-append, All-cons, All-nil, All-weaker, Contains-append_cases, Contains-append_left, Contains-append_right, Contains-get_or}
pub use Rattle.std.specs.Option.{option_map_or}
pub use Rattle.std.specs.Prelude.{All, MatchResult, ◌&&◌}
pub use Rattle.std.specs.Str.{chars}

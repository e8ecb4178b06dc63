-- The names that most of these proofs cite, passed on from one place. Declares nothing.
pub use Rattle.adf_archive.specs.Archive.{Archive, IsDetailOf, LeavesOff, TellsArchive, told_in}
pub use Rattle.adf_archive.specs.Each.{GivesFrom}
unfoldable pub use Rattle.adf_archive.specs.Lines.{told_from}
pub use Rattle.adf_archive.specs.Lines.{shown_line, suspect_line, told_of}
pub use Rattle.adf_archive.specs.Objects.{found_in, shown_tokens, suspect_tokens, wanted_in}
pub use Rattle.adf_archive.specs.Paths.{HasFront, HasPath, IsPathOf}
pub use Rattle.adf_archive.specs.Report.{HasValues, HaveValues, IsOfMarks, IsReportOfSome, ShowsOnlyMarks}
pub use Rattle.adf_archive.specs.Status.{IsBroken, IsTally, ends, ends_over, no_images, noted, tallied}
pub use Rattle.adf_archive.specs.Owned.{entry_of}
pub use Rattle.adf_archive.specs.Suspects.{AreSuspects, HasItsPath, IsDoubted, IsSuspect, IsSuspectAt, TellsSuspect, blocks_of}
pub use Rattle.adf_archive.specs.declared.checking.Detail.{Detail}
pub use Rattle.adf_archive.specs.declared.report.ImageReport.{ImageReport}
pub use Rattle.adf_archive.specs.declared.report.ShownFault.{ShownFault}
pub use Rattle.adf_archive.specs.declared.suspects.Suspect.{Suspect}
pub use Rattle.adf_archive.specs.declared.telling.Form.{Form}
pub use Rattle.adf_archive.specs.declared.telling.Tally.{Tally}
pub use Rattle.adf_block.specs.Image.{block_count}
pub use Rattle.adf_block.specs.declared.volume_size.SizeFault.TheVariants.{NotWholeBlocks, TooFewBlocks, TooManyBlocks}
pub use Rattle.adf_io.proofs.Prefixes.{writes_first, writes_nothing}
pub use Rattle.adf_io.specs.Prefix.{WritesFront}
pub use Rattle.ados_faults.specs.Listed.{AreAllFaults, AreMarks, Marks, ShowsOtherKind, fault_of}
pub use Rattle.ados_model.proofs.Nodes.{content_in, some_in}
pub use Rattle.ados_model.specs.Stands.{Duty, Stands}
pub use Rattle.ados_model.specs.Keys.{HasKey}
pub use Rattle.ados_model.specs.Tree.{Content, Tree, content_at, name_of, parent_of, root}
pub use Rattle.ados_model.specs.declared.fault.VolumeFault.{VolumeFault}
pub use Rattle.ados_volume.specs.Owners.{Owns}
pub use Rattle.ados_volume.specs.declared.owner.Owner.{Owner}
pub use Rattle.ados_volume.specs.declared.owner.Owner.TheVariants.{Boot, Data, Directory, Extension, File, Free, Lost, Page, Root}
pub use Rattle.json.specs.Token.{Token, begin_array, begin_object, end_object, key, number, string}
pub use Rattle.std.proofs.lemmas.Bool.{cases_lt}
pub use Rattle.std.proofs.lemmas.List.{append-nil, ext_get_or, get_or-append_right, get_or-map, get_or_append_left, get_or_default, get_or_past, length-drop, length-map, length-replicate, length-take-le, map-append, take-append-drop, take_all, take_more}
pub use Rattle.std.proofs.lemmas.List.Elements.{All-contains, All-nil, All-push, Contains-append_left, Contains-push}
pub use Rattle.std.specs.Fn.{FnReturns}
pub use Rattle.std.specs.Io.KnownBytes.{Appends}
pub use Rattle.std.specs.Prelude.{flat_map, map, nat_lt}
pub use Rattle.std.specs.String.{string_bytes}
pub use denote.Param.Members.{Shared}

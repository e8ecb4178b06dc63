-- The names that most of these proofs cite, passed on from one place. Declares nothing.
pub use Rattle.adf_block.specs.Fields.{format_of}
pub use Rattle.adf_block.specs.Image.{block_count}
pub use Rattle.adf_record.specs.Bundle.{AreEntriesOf, IsEntryOf}
pub use Rattle.adf_record.specs.Counts.{file_count}
pub use Rattle.adf_record.specs.Described.{AreWithoutZeros, HasNoDirectory, IsEntryLine, IsHeadLine, IsPathOf, IsTextFault, IsTextTo, LacksDirectory, entry_tokens, head_tokens, in_lines, no_memory, too_long}
pub use Rattle.adf_record.specs.Described.IsTextFault.{long, memory, no_directory}
pub use Rattle.adf_record.specs.Object.{boot_word, kind_word}
pub use Rattle.adf_record.specs.Shown.{bitmap_words, counted, format_word, grouped, size_words}
pub use Rattle.adf_record.specs.declared.bundle.BundleEntry.{BundleEntry}
pub use Rattle.adf_record.specs.declared.bundle_lines.TheConstants.{MOST_BUNDLE_BYTES}
pub use Rattle.adf_record.specs.steps.Lines.{IsPathAt, separator}
pub use Rattle.ados_change.proofs.Writable.{format_is}
pub use Rattle.ados_model.proofs.Nodes.{some_in}
pub use Rattle.ados_model.proofs.Standing.{count_same}
pub use Rattle.ados_model.specs.Stands.{Stands}
pub use Rattle.ados_model.specs.Tree.{Tree, bytes_of, entries, name_of, root}
pub use Rattle.ados_model.specs.declared.answer.FileInfo.{FileInfo}
pub use Rattle.ados_volume.proofs.AllBelow.{there_below}
pub use Rattle.ados_volume.specs.Below.{AreBelow}
pub use Rattle.ados_volume.specs.declared.below.Below.{Below}
pub use Rattle.json.specs.Print.{print}
pub use Rattle.json.specs.Token.{Token, boolean, key, number, string}
pub use Rattle.std.proofs.Common.{All, Bool, Err, Global, IfErr, IfNone, IfSome, IsErrAnd, IsSome, List, None, Ok, Option, Result, Some, Vec, [], ap, append-nil, append_assoc, ap₂, arith, codes, decimal, get_or, if◌then◌else◌, inl, inr, le-ltb, length, length-append, map, option_map, refl, slice_get, subst, suc, sym, take, zero, ℕ, ◌++◌, ◌+◌, ◌/◌, ◌<◌, ◌∙◌, ◌∷◌, ◌≡◌, ◌≤◌, ◌⊎◌}
pub use Rattle.std.proofs.lemmas.List.{flat_map_more, get_or_default, length-map, length-take-le, length_push, map-append, take_all, take_more}
pub use Rattle.std.proofs.lemmas.Option.{slice_get-map, slice_get_read}
pub use Rattle.std.proofs.lemmas.Result.{on_ok_weaker}
pub use Rattle.std.proofs.lemmas.Slice.Eq.{bytes_eq-Decides, slice_eq-Decides, strip_suffix_is}
pub use Rattle.std.proofs.lemmas.Slice.Zip.{AllZip-long, all_zipped_more}
pub use Rattle.std.specs.String.{string_bytes}

-- The names that most of these proofs cite, passed on from one place. Declares nothing.
pub use Rattle.adf_block.specs.Fields.{file_size, format_of, parent_key, pointer}
unfoldable pub use Rattle.adf_block.specs.Image.{long}
pub use Rattle.adf_block.specs.Image.{block_count}
pub use Rattle.adf_block.specs.declared.layout.TheConstants.{NEXT_EXTENSION}
pub use Rattle.ados_salvage.specs.Sound.{Names}
pub use Rattle.ados_map.specs.Pages.{IsPage, page_block}
pub use Rattle.ados_salvage.specs.Marks.{mark_at}
pub use Rattle.ados_salvage.specs.Account.{BelongsTo, HasExtensionBlock, IsAccounted, IsDamagedFile, IsExtensionOf, IsNextExtension, IsOfDamaged, OfOne}
unfoldable pub use Rattle.ados_census.specs.steps.Marks.{unmarked}
pub use Rattle.ados_salvage.specs.steps.Accounting.{Adds, AreAccounted, AreClosed, AreMarkedAfter, HasNoMarks, IsLinkedOf, IsNewAfter, IsOwn, IsOwnIn, IsPieceBlock}
pub use Rattle.ados_census.specs.steps.Marks.{IsMarked}
pub use Rattle.ados_model.specs.Faults.{InImage, root_of}
unfoldable pub use Rattle.ados_model.specs.File.{data_blocks, extension_blocks}
pub use Rattle.ados_model.specs.File.{ReadableFile, data_block, pointer_block}
pub use Rattle.ados_model.specs.Tree.{data_count}
pub use Rattle.std.proofs.lemmas.Bool.{cases_eq}
pub use Rattle.std.proofs.lemmas.List.{get_or_default, take_more}
pub use Rattle.std.proofs.lemmas.List.Elements.{Contains-append_cases, Contains-append_left, Contains-append_right, Contains-push, Contains-push_cases}

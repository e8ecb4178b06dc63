-- The names that most of these proofs cite, passed on from one place. Declares nothing.
pub use Rattle.adf_block.proofs.Blocks.{byte-bytes_at, long-bytes_at}
pub use Rattle.adf_block.proofs.Totals.{total-same}
pub use Rattle.adf_block.specs.Fields.{format_of, held_count, parent_key, pointer, pointer_count, primary_type, secondary_type, table_entry}
unfoldable pub use Rattle.adf_block.specs.Image.{block_sum, byte_at, bytes_at, has_free_bit, long}
pub use Rattle.adf_block.specs.Image.{Chained, HasText, IsInside, block_count, page_count, root_key, total}
pub use Rattle.adf_block.specs.Whole.{HasFreeBit, IsSize, text_at}
pub use Rattle.adf_block.specs.declared.layout.Format.{Format}
pub use Rattle.adf_block.specs.declared.layout.Format.TheVariants.{Ffs, Ofs}
pub use Rattle.adf_block.specs.declared.layout.TheConstants.{COMMENT_BYTE, FILE_TYPE, FIRST_SLOT, NAME_BYTE, NEXT_DATA, NEXT_EXTENSION, NEXT_IN_CHAIN, TABLE_LONGS}
pub use Rattle.ados_model.specs.Faults.{AreDataBlocks, HasName, HasPointers, InImage, IsDataAt, IsEntry, IsFile, IsLinkType, IsOfs, IsPlace, LinkedOnce, PlaceNames, Reached, first_pointers, pointers_of, root_of}
pub use Rattle.ados_model.specs.Laws.{BlankStands, FaultsHaveNoTree, FreeBitsCount, HasBlankImage, OneTree}
pub use Rattle.ados_model.specs.Parts.{size_in}
pub use Rattle.ados_model.specs.Phrases.{kind_bytes}
pub use Rattle.ados_model.specs.Small.{hello, image, letters, nodes, small, tree}
pub use Rattle.ados_model.specs.Stands.{Duty, Fits, HasDuty, HasEntry, HasExtension, HasFile, HasNode, HasOfsData, HasRoot, Layout, Named, Stands, date_at, format_byte, in_slot, type_of}
pub use Rattle.ados_model.specs.Tree.{Content, LeadsToRoot, Node, Proper, Tree, content_at, cost_in, data_count, entries, entries_in, extension_count, free, name_of, parent_of, root, size_of, used}
pub use Rattle.ados_model.specs.Tree.Content.{Directory, File}
pub use Rattle.ados_model.specs.Tree.LeadsToRoot.{at_root, by_parent}
pub use Rattle.ados_model.specs.declared.role.Role.{Role}
unfoldable pub use Rattle.ados_name.specs.Name.{hash, steps, steps_along}
pub use Rattle.ados_name.specs.Name.{IsComment, IsName, IsNameByte, Same, slot}
pub use Rattle.ados_name.specs.declared.stamp.Date3.{Date3}
pub use Rattle.std.proofs.Common.{All, AllPairs, Bool, Contains, IsSome, List, None, Option, Some, [], add-one, ap, ap₂, arith, bit_and, codes, cond, drop, eq-eqb, eqb, eqb-true, false, filter, flat_map, get_or, if◌then◌else◌, inl, inr, is_some, le-leb, le-ltb, length, lt-ltb, ltb-true, min, mod-lt, nat_le, nat_lt, ne_eqb, not, option_and_then, option_map, refl, replicate, slice_get, slice_index, slice_index_or, subst, suc, sum_by, sym, take, true, zero, ℕ, ◌%◌, ◌&&◌, ◌*◌, ◌++◌, ◌+◌, ◌-◌, ◌/◌, ◌<◌, ◌==◌, ◌^◌, ◌||◌, ◌∙◌, ◌∷◌, ◌≡◌, ◌≢◌, ◌≤◌, ◌⊎◌}
pub use Rattle.std.proofs.lemmas.Bool.{agree_below, agree_below_at, and_parts, cases_eq, cases_lt, cases_order, cond_both, false≢true, leb-true, lt-leb, or_cases}
pub use Rattle.std.proofs.lemmas.Bool.Decides.{Decides-eqb, nat_tests}
pub use Rattle.std.proofs.lemmas.List.{drop-drop, ext_get_or, get_or-append_right, get_or-drop, get_or-replicate, get_or-take, get_or_append_left, get_or_default, get_or_past, get_or_push, length-append, length-drop, length-take, length_push, nil_from_length, take-append-drop, take-take}
pub use Rattle.std.proofs.lemmas.List.Elements.{All-contains, All-contains_itself, All-filter, All-from_get_or, Contains-append_cases, Contains-get_or, filter-append, filter_passes, recursion_from_All}
pub use Rattle.std.proofs.lemmas.List.Kept.{AllPairs-cons, AllPairs-filter}
pub use Rattle.std.proofs.lemmas.Option.{get_or_from_slice_get, slice_get-get_or, slice_get_within}
pub use Rattle.std.specs.List.{AllByRecursion, list_all, list_any}

-- The names that most of these proofs cite, passed on from one place. Declares nothing.
pub use Rattle.adf_block.proofs.Frames.{same_bytes_at, same_count, same_long, same_sum, same_weaken}
pub use Rattle.adf_block.specs.Frame.{AtLong, InBlock, OnlyBlock, OnlyLong, SameBut, Within, long_byte}
unfoldable pub use Rattle.adf_block.specs.Image.{block_sum, byte_at, bytes_at, has_free_bit, long}
pub use Rattle.adf_block.specs.Image.{HasText, IsInside, block_count, page_count, root_key}
pub use Rattle.adf_block.specs.Whole.{HasFreeBit, IsSize, free_bit_count}
pub use Rattle.adf_block.specs.declared.layout.Format.{Format}
pub use Rattle.adf_block.specs.declared.layout.Format.TheVariants.{Ffs, Ofs}
pub use Rattle.adf_block.specs.declared.layout.TheConstants.{COMMENT_BYTE, DATE, FILE_TYPE, NAME_BYTE, NEXT_EXTENSION, POINTER_COUNT, PROTECTION}
pub use Rattle.ados_chain.proofs.Order.{behind-found, behind-later, chains_from-split, entry-in_chains, first-entry}
unfoldable pub use Rattle.ados_chain.specs.Chains.{chains_from}
pub use Rattle.ados_chain.specs.Chains.{InChains, IsEntryBlock, LawfulChains, entries_of, name_at}
pub use Rattle.ados_chain.specs.Look.{FindsNamed, first_left}
pub use Rattle.ados_chain.specs.declared.read.Next.TheVariants.{Entry}
pub use Rattle.ados_change.proofs.Renewed.{bytes_in, file_writable}
pub use Rattle.ados_change.proofs.Writable.{beside_pages, data_is, extensions_is, format_is, inside, key_serves, lawful_pages, page_serves, root_serves}
pub use Rattle.ados_change.specs.Conditions.{CanMake, CanRemove, CanRename, IsDirectoryKey, IsNewName, IsUnder}
pub use Rattle.ados_change.specs.Conditions.IsUnder.{by_parent as under_parent, itself}
pub use Rattle.ados_change.specs.NewBlocks.{KeepsRest}
pub use Rattle.ados_change.specs.Places.{OnlyRestamped, Restamped}
pub use Rattle.ados_change.specs.Renewed.{Grows, Writes}
pub use Rattle.ados_data.proofs.Overlaying.{size_below}
pub use Rattle.ados_data.proofs.Places.{extensions_counted, header_is, holder_of, readable}
pub use Rattle.ados_data.specs.Place.{IsAmong, IsPlace}
pub use Rattle.ados_data.specs.declared.place.Place.{Place}
pub use Rattle.ados_map.specs.Pages.{HasBit, IsLowestFree, NoneFree, NoneFreeBelow, page_block, pages_of}
pub use Rattle.ados_model.proofs.Counting.{free_bits_count, no_data, slice_get-back}
pub use Rattle.ados_model.proofs.KeyLists.{Contains-cases, Contains-here, Contains-later, Once, Once-append, Once-before, Once-front, Once-head, Once-tail, length-once}
pub use Rattle.ados_model.proofs.Nodes.{content_in, directory_in, directory_node, entries_by_slot, entry_node, parent_in, root_or_parent, some_in}
pub use Rattle.ados_model.proofs.OneTree.{one_tree}
pub use Rattle.ados_model.proofs.Standing.{IsEntryNode, count_same, entry_at, root_is, slice_get-index}
pub use Rattle.ados_model.specs.Change.{and_then, changed, child_of, enter, entered, entries_after, holds_file, is_file, left, listed, made, missing_before, removed, renamed, rewritten, stamped, step_from, walk_steps, with_node, written}
pub use Rattle.ados_model.specs.Edits.{grown, new_node, overlaid, shortened}
unfoldable pub use Rattle.ados_model.specs.File.{contents, data_blocks, extension_blocks}
pub use Rattle.ados_model.specs.File.{LawfulFile, pointer_block}
pub use Rattle.ados_model.specs.Keys.{HasDirectory, HasFileKey, HasKey}
pub use Rattle.ados_model.specs.Objects.{disk_info, entry_type, is_under, upward}
pub use Rattle.ados_model.specs.Parts.{name_in, protection_in, size_in}
pub use Rattle.ados_model.specs.Stands.{Duty, HasDuty, HasEntry, Stands, date_at, format_byte, in_slot, type_of}
pub use Rattle.ados_model.specs.Tree.{Content, LeadsToRoot, Node, Proper, Tree, behind, block_cost, bytes_of, content_at, cost_in, data_count, data_size, entries, entries_in, extension_count, name_of, parent_of, root, size_of}
pub use Rattle.ados_model.specs.Tree.Content.{Directory, File}
pub use Rattle.ados_model.specs.Tree.LeadsToRoot.{at_root, by_parent}
unfoldable pub use Rattle.ados_name.specs.Name.{steps}
pub use Rattle.ados_name.specs.Name.{IsName, IsNameByte, Same, Step, is_separator, slot, upper, without_archive}
pub use Rattle.ados_name.specs.declared.stamp.Date3.{Date3}
pub use Rattle.ados_volume.specs.Below.{AreBelow, HasGrown, placed}
pub use Rattle.ados_volume.specs.Refused.{RefusesEntry, RefusesGrowth, RefusesWrite}
pub use Rattle.ados_volume.specs.Shown.{Shown}
pub use Rattle.ados_volume.specs.declared.below.Below.{Below}
pub use Rattle.ados_volume.specs.declared.cache.Sought.{Sought}
pub use Rattle.ados_volume.specs.declared.owner.Owner.{Owner}
pub use Rattle.ados_volume.specs.declared.owner.Owner.TheVariants.{Boot, Data, Extension, Free, Lost, Page}
pub use Rattle.ados_volume.specs.steps.BlankParts.{HasBlankFields, IsBetweenFields, IsBlankRoot, NamesBlank}
pub use Rattle.ados_volume.specs.steps.Cache.{Adds, AreChildren, AreWhole, Enters, Forgets, HasPair, IsWhole, Keeps, Seeks, TakesOut}
pub use Rattle.ados_volume.specs.steps.Listed.{AreListed, IsListed}
pub use Rattle.ados_volume.specs.steps.Owning.{AreKnownIn, AreKnownOwners, IsByBit, IsLeft, IsNextPlace, LeavesLess, LeavesNoPage, LeavesNone, LeavesNoneOf, LeavesNonePointed}
pub use Rattle.ados_volume.specs.steps.Places.{AreKnown, Drops, IsKnown}
pub use Rattle.lru.proofs.CallerLemmas.{Contains-lookup, Contains-promoted, Contains-put_entries, Contains-remove_entry}
pub use Rattle.lru.proofs.Splits.{Contains-cons, Contains-nil}
pub use Rattle.lru.specs.LruCache.{LruCache, lru_cache, promoted, put_entries}
pub use Rattle.std.proofs.Common.{AllPairs, Bool, Contains, Err, IfSome, IsErrAnd, List, MatchResult, None, Ok, OnErr, OnOk, Option, Result, Some, [], add-one, ap, append_assoc, ap₂, arith, bytes_eq, cond, drop, false, filter, get_or, if◌then◌else◌, inl, inr, is_some, le-leb, length, lt-ltb, map, min, nat_eq, nat_le, nat_lt, negsuc, not, of_z, option_map, pos, refl, replicate, reverse, rules, slice_index, slice_index_or, subst, suc, sym, take, to_z, true, vec_len, w32, zero, zero-add, ℕ, ℤ, ◌%◌, ◌&&◌, ◌*◌, ◌++◌, ◌+◌, ◌-◌, ◌/◌, ◌<◌, ◌==◌, ◌^◌, ◌||◌, ◌↔◌, ◌∙◌, ◌∷◌, ◌≡◌, ◌≢◌, ◌≤◌, ◌⊎◌}
pub use Rattle.std.proofs.Math.ListN.{drop_of_length-le, set}
pub use Rattle.std.proofs.lemmas.Bool.{and_from, and_parts, both_ways, cases_eq, cases_lt, eq-eqb, eqb-true, false≢true, le-ltb, lt-leb, ltb-true, ne_eqb, not-false, true≢false}
pub use Rattle.std.proofs.lemmas.List.{append-nil, drop-drop, drop-replicate, drop-take, get_or-replicate, get_or-set_other, get_or-set_same, get_or_default, get_or_past, length-append, length-drop, length-map, length-replicate, length-set, length-take, map-append, reverse-append, reverse-reverse, take-take, take_at}
pub use Rattle.std.proofs.lemmas.List.Elements.{All-from_get_or, All-get_or, Contains-append_cases, Contains-append_left, Contains-append_right, Contains-get_or}
pub use Rattle.std.proofs.lemmas.Option.{get_or_from_slice_get, none-some, same_Some, slice_get-get_or, slice_get_within}
pub use Rattle.std.proofs.lemmas.Slice.Eq.{bytes_eq-Decides}
unfoldable pub use Rattle.std.specs.List.{IsDistinct}
pub use Rattle.std.specs.List.{AllByRecursion, list_any}
pub use Rattle.std.specs.BTreeMap.{BTreeMap}
pub use Rattle.std.specs.BTreeSet.{BTreeSet}
pub use Rattle.std.specs.Map.{keys_of, lookup, remove_entry}
pub use Rattle.std.specs.Option.{option_map_or}
pub use Rattle.std.specs.Prelude.{IsSome, IsTrue, find, max, ok_or, option_and_then, slice_get}

-- The names that most of these proofs cite, passed on from one place. Declares nothing.
pub use Rattle.adf_block.specs.Image.{block_count}
pub use Rattle.adf_export.specs.Items.{AllGoOut, AreBytesOf, AreItems, EachGoesOut, GoesOut, HasSource, IsItem, item_place, kind_of, noted, sources_of, tops}
unfoldable pub use Rattle.adf_export.specs.Listing.{below, front}
pub use Rattle.adf_export.specs.Listing.{AreEntries, BeginsList, BeginsListing, IsEntry, IsList, IsListing, comment_text, front_above, head, listed, listing, path_of, right_in, shown, styled_path}
unfoldable pub use Rattle.adf_export.specs.Ordered.{ordered, placed, sorted}
pub use Rattle.adf_export.specs.Ordered.{comes_before, compared, weight, weight_of}
pub use Rattle.adf_export.specs.Words.{AreAsked, IsExtractFault, IsFaultOfSome, IsRefusal, IsWordFault, LeadTo, LeadsTo, led}
pub use Rattle.adf_export.specs.declared.entry.Source.{Source}
pub use Rattle.adf_export.specs.declared.entry.Source.TheVariants.{Entry, Note}
pub use Rattle.adf_export.specs.declared.listing.Level.{Level}
pub use Rattle.adf_export.specs.declared.listing.Listing.{Listing}
pub use Rattle.adf_export.specs.declared.order.Rank.{Rank}
pub use Rattle.adf_export.specs.steps.NamesDown.{names_down}
pub use Rattle.adf_export.specs.steps.Going.{GoesOn, PushesDate, PushesEntry, Starts}
pub use Rattle.adf_export.specs.steps.Levels.{HasKeys, HaveKeys, IsLeft, IsOpen, IsSoFar, entry_at, first_keys, first_path, to_list, with_below, work}
pub use Rattle.adf_export.specs.steps.Ranked.{AreRanked, IsRank, rank_cmp}
pub use Rattle.adf_io.proofs.Outcomes.{at_any_err, if_ok_both}
pub use Rattle.adf_io.specs.Prefix.{Passes, Writes, WritesFront, WritesFrontOf}
pub use Rattle.adf_record.proofs.Tokens.{behind}
pub use Rattle.adf_record.specs.Second.{PushesSecond, to_second}
pub use Rattle.adf_cli.specs.declared.query.ListForm.{ListForm}
pub use Rattle.adf_cli.specs.declared.query.ListOrder.{ListOrder}
pub use Rattle.adf_cli.specs.declared.query.ListOrder.TheVariants.{Date, Disk, Name, Size}
pub use Rattle.ados_model.proofs.KeyLists.{Contains-cases, Contains-here, Contains-later, Contains-nil, Once, Once-append, Once-before, Once-cons, Once-head, Once-tail, length-once}
pub use Rattle.ados_model.proofs.Nodes.{entry_node, parent_in, some_in}
pub use Rattle.ados_model.proofs.Standing.{count_same}
pub use Rattle.ados_model.specs.Change.{holds_file, is_file}
pub use Rattle.ados_model.specs.Keys.{HasKey}
pub use Rattle.ados_model.specs.Objects.{entry_type, file_info}
pub use Rattle.ados_model.specs.Parts.{name_in}
pub use Rattle.ados_model.specs.Stands.{Stands}
pub use Rattle.ados_model.specs.Tree.{Content, LeadsToRoot, Node, Proper, Tree, content_at, entries, entries_in, name_of, parent_of, root}
pub use Rattle.ados_model.specs.Tree.Content.{Directory, File}
pub use Rattle.ados_model.specs.Tree.LeadsToRoot.{at_root, by_parent}
pub use Rattle.ados_model.specs.declared.answer.FileInfo.{FileInfo}
pub use Rattle.ados_model.specs.declared.dos_error.WalkFault.TheVariants.{ObjectNotFound}
pub use Rattle.ados_name.specs.Name.{upper}
pub use Rattle.ados_volume.proofs.DirectoryKeys.{IsListed, listing_goes_on, listing_small}
pub use Rattle.ados_volume.specs.Below.{AreBelow, HasGrown}
pub use Rattle.ados_volume.specs.Located.{Located}
pub use Rattle.ados_volume.specs.Paths.{Leads, StopsAt}
pub use Rattle.ados_volume.specs.declared.below.Below.{Below}
pub use Rattle.adf_host.specs.Notes.{note_of}
pub use Rattle.adf_host.specs.declared.trees.items.HostItem.{HostItem}
pub use Rattle.std.proofs.Common.{All, Bool, Bor, Contains, Err, IfOk, IfSome, IsSome, List, None, Ok, OnErr, Option, Result, Some, Vec, [], ap, append-nil, append_assoc, ap₂, arith, drop, drop-cons, eq-eqb, false, get_or, inl, inr, is_some, length, length-append, map, min, option_map, option_to_list, pos, refl, replicate, slice_get, subst, suc, sym, take, take-append-drop, true, vec_len, zero, ℕ, ◌*◌, ◌++◌, ◌+◌, ◌-◌, ◌<◌, ◌==◌, ◌∙◌, ◌∷◌, ◌≡◌, ◌≢◌, ◌≤◌, ◌⊎◌}
pub use Rattle.std.proofs.lemmas.Bool.{false≢true, ne_eqb}
pub use Rattle.std.proofs.lemmas.Grind.{flat_map-append}
pub use Rattle.std.proofs.lemmas.List.{drop-replicate, get_or-map, get_or_default, length-map, length_push, map-append, nil_from_length, same_from_push, take_all, take_at, take_more, take_rest}
pub use Rattle.std.proofs.lemmas.List.Elements.{All-append, All-cons, All-head, All-nil, All-pop, All-push, All-same, All-tail, Contains-append_cases, Contains-get_or}
pub use Rattle.std.proofs.lemmas.Result.{IfOk-weaker, on_err_weaker, on_ok_weaker}
pub use Rattle.std.specs.Io.KnownBytes.{Appends, Keeps}
pub use Rattle.std.specs.List.{flat_map}
pub use Rattle.std.specs.Option.{option_map_or}
pub use Rattle.std.specs.Prelude.{codes, fold, if◌then◌else◌}
pub use Rattle.std.specs.Str.{chars}
pub use Rattle.std.specs.String.{string_bytes}

-- The names that most of these proofs cite, passed on from one place. Declares nothing.
pub use Rattle.adf_block.specs.Fields.{format_of}
unfoldable pub use Rattle.adf_block.specs.Image.{bytes_at, long}
pub use Rattle.adf_block.specs.Image.{block_count}
pub use Rattle.adf_block.specs.Whole.{text_at}
pub use Rattle.adf_block.specs.declared.layout.Format.TheVariants.{Ffs, Ofs}
pub use Rattle.adf_block.specs.declared.layout.TheConstants.{BITMAP_FLAG, NAME_BYTE, NEXT_EXTENSION}
pub use Rattle.ados_salvage.specs.Deleted.{AreDeleted, IsTrustedBitmap}
pub use Rattle.ados_salvage.specs.Doubtful.{IsHeader}
pub use Rattle.ados_salvage.specs.Marks.{IsHole, mark_at}
pub use Rattle.ados_salvage.specs.declared.known.deleted.Deleted.{Deleted}
pub use Rattle.ados_salvage.specs.declared.known.image_known.Known.{Known}
pub use Rattle.ados_salvage.specs.Kind.{IsReadAs}
pub use Rattle.ados_salvage.specs.Lost.{IsLost}
unfoldable pub use Rattle.ados_salvage.specs.Salvaged.{broken_total, ended}
pub use Rattle.ados_salvage.specs.Salvaged.{AreApart, AreOfTree, AreSalvaged, FindsLost, FindsNone, HoldsAll, IsListed, IsLoose, IsLostEntry, IsOfTree, IsTold, Salvages, Saved, SavesRest, SavesSound, SavesTree, broken_length, headers_of, located_of, SavesBeside}
pub use Rattle.ados_salvage.specs.declared.gathered.Gathered.{Gathered}
pub use Rattle.ados_salvage.specs.declared.giving.Piece.{Piece}
pub use Rattle.ados_salvage.specs.declared.salvaged.Salvaged.{Salvaged}
pub use Rattle.ados_salvage.specs.declared.salvaged.State.{State}
pub use Rattle.ados_salvage.specs.declared.salvaged.State.TheVariants.{Lost}
pub use Rattle.ados_salvage.specs.steps.Gathering.{AreAllHeaders, AreFollowed, AreGathered, AreGatheredBy, GathersMore, IsFollowed, KeepsMet, place_at}
pub use Rattle.ados_salvage.specs.steps.Giving.{IsGiving, IsMarked, IsOpen}
pub use Rattle.ados_salvage.specs.steps.Keeping.{IsPutAt, IsReadable}
pub use Rattle.ados_salvage.specs.steps.Settling.{AreSettled}
pub use Rattle.ados_data.proofs.Sizes.{whole_block}
pub use Rattle.ados_model.specs.Accepted.{Accepts, ShowsNoFault}
unfoldable pub use Rattle.ados_model.specs.File.{contents}
pub use Rattle.ados_model.specs.File.{ReadableFile, data_block, pointer_block}
pub use Rattle.ados_model.specs.Stands.{Stands}
pub use Rattle.ados_model.specs.Tree.{Content, Node, Tree, bytes_of, data_count, data_size, data_start, entries, root}
pub use Rattle.std.proofs.Math.ListN.{set}
pub use Rattle.std.proofs.lemmas.Bool.{cases_eq, cases_lt}
pub use Rattle.std.proofs.lemmas.List.{get_or-map, get_or-replicate, get_or_append_left, get_or_default, get_or_push, append-nil, append_assoc, length-append, length-map, length-replicate, length-take, map-append, map-set, set-get_or, take-take, take_all, take_more}
pub use Rattle.std.proofs.lemmas.List.Elements.{All-map, All-nil, All-push, All-set, Contains-append_cases, Contains-append_left, Contains-append_right, Contains-get_or}
pub use Rattle.std.proofs.lemmas.List.Quantifiers.{all_pairs_push}
pub use Rattle.std.proofs.lemmas.Result.{IfOk-weaker, on_ok_weaker}
pub use Rattle.std.proofs.Common.{All, AllPairs, Bool, Contains, IfSome, IsSome, List, MatchBool, MatchOption, None, Option, Some, [], ap, ap₂, arith, below_more, decimal, drop, false, get_or, get_or-set_other, get_or-set_same, inl, inr, is_some, length, length-set, map, min, refl, replicate, slice_index, slice_index_or, subst, suc, sym, take, true, vec_len, zero, ℕ, ◌%◌, ◌*◌, ◌++◌, ◌+◌, ◌-◌, ◌/◌, ◌<◌, ◌∙◌, ◌∷◌, ◌≡◌, ◌≢◌, ◌≤◌, ◌⊎◌, Err, IfOk, Ok, Result, ◌==◌}
pub use Rattle.ados_data.proofs.Places.{data_counted, holder_of, readable}
pub use Rattle.ados_salvage.proofs.Naming.{header_inside, header_looks, names_inside, place_below}
pub use Rattle.ados_volume.specs.Below.{AreBelow}
pub use Rattle.ados_volume.specs.declared.below.Below.{Below}
pub use Rattle.ados_salvage.specs.declared.giving.Giving.{Giving}

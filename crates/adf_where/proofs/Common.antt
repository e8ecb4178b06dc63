-- The names that most of these proofs cite, passed on from one place. Declares nothing.
pub use Rattle.adf_io.proofs.Outcomes.{at_any_err}
pub use Rattle.adf_record.proofs.Tokens.{behind}
pub use Rattle.adf_where.specs.Faulty.{AreFaultsAt, AreFound, IsFaultyBlock, block_line, fault_line, fault_word, place_object, place_words}
pub use Rattle.adf_where.specs.Own.{IsWhereOf, own_from, own_text}
pub use Rattle.adf_archive.specs.Owned.{entry_of, owner_text}
pub use Rattle.adf_where.specs.Where.{AreNamed, AreTold, Told, array_of, path_text, place_text, seen, span_of, span_text, told_as, told_at, told_of, told_tokens, where_line, where_of}
pub use Rattle.adf_where.specs.declared.faulty.FaultyBlock.{FaultyBlock}
pub use Rattle.ados_faults.specs.Listed.{StandsBefore, fault_of}
pub use Rattle.ados_census.specs.Places.{AreAllPlaces}
pub use Rattle.ados_census.specs.declared.place.Place.{Place}
pub use Rattle.ados_model.proofs.Nodes.{content_in}
pub use Rattle.ados_model.proofs.Standing.{count_same}
pub use Rattle.ados_model.specs.Stands.{Stands}
pub use Rattle.ados_model.specs.Tree.{Content, Node, Tree, bytes_in, content_at, data_size, size_of}
pub use Rattle.ados_model.specs.declared.fault.VolumeFault.{VolumeFault}
pub use Rattle.ados_volume.specs.Owners.{AreOwners, Owns}
pub use Rattle.ados_volume.specs.declared.owner.Owner.{Owner}
pub use Rattle.ados_volume.specs.declared.owner.Owner.TheVariants.{Boot, Data, Directory, Extension, File, Free, Lost, Page, Root}
pub use Rattle.std.proofs.Common.{All, AllPairs, Bool, Contains, Err, Global, IsSome, List, None, Ok, Option, Result, Some, Vec, [], ap, append-nil, append_assoc, ap₂, arith, codes, cond, drop, eqb-true, false, get_or, inl, inr, is_some, leb, length, length-append, ltb, map, min, option_map, refl, rules, subst, suc, sym, take, true, zero, ℕ, ◌*◌, ◌++◌, ◌+◌, ◌-◌, ◌<◌, ◌∙◌, ◌∷◌, ◌≡◌, ◌≤◌}
pub use Rattle.std.proofs.lemmas.List.{get_or-drop, get_or-map, get_or-take, get_or_default, length-drop, length-take, take_all, take_more}
pub use Rattle.std.proofs.lemmas.List.Elements.{All-head, All-tail, Contains-get_or}
pub use Rattle.std.proofs.lemmas.Option.{slice_get-get_or}
pub use Rattle.std.proofs.lemmas.Result.{IfOk-weaker, on_err_weaker, on_ok_weaker}
pub use Rattle.std.proofs.lemmas.Slice.Zip.{AllZip-long, all_zipped_more}
pub use Rattle.std.specs.List.{AllWithin, AllZip, between}
pub use Rattle.std.specs.List.Sorted.{IsNonDecreasingBy, IsPartitionPoint}
pub use Rattle.std.specs.Prelude.{filter, flat_map, if◌then◌else◌, ◌==◌}

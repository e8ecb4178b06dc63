-- The names that most of these proofs cite, passed on from one place. Declares nothing.
pub use Rattle.adf_block.specs.Fields.{file_size, format_of, parent_key, pointer, pointer_count}
unfoldable pub use Rattle.adf_block.specs.Image.{has_free_bit, long}
pub use Rattle.adf_block.specs.Image.{IsInside, block_count}
pub use Rattle.adf_block.specs.Whole.{HasFreeBit, IsImage}
pub use Rattle.adf_block.specs.declared.layout.Format.TheVariants.{Ofs}
pub use Rattle.adf_block.specs.declared.layout.TheConstants.{NEXT_DATA, NEXT_EXTENSION}
pub use Rattle.ados_salvage.specs.Deleted.{AreAllFree, AreDeleted, AreNoneShared, AreNoneUsed, AreTrustedPages, HasCount, HasRecovery, IsDeleted, IsShared, IsTrustedBitmap, IsUsed, ListsDeleted}
pub use Rattle.ados_salvage.specs.Doubtful.{IsHeader, IsNamedHeader, IsPlaceIn, IsRoot, IsToldHeader, LooksLikeHeader, MayBeHeader, NamesEntries}
pub use Rattle.ados_salvage.specs.Doubtful.NamesEntries.{of_named, of_root, of_sound}
pub use Rattle.ados_salvage.specs.Holders.{AreMarkedAfter, FilePointsTo, HasExtensionBlock, HasHolders, HasKnownBlocks, HeaderNames, IsHolder, IsHolderOf, IsNewAfter, IsNextExtension, PointsTo, extensions_needed}
pub use Rattle.ados_salvage.specs.Sound.{IsClaimant, IsIntact, IsSoundHeader, IsWhole, Names, data_needed, own_blocks}
pub use Rattle.ados_salvage.specs.declared.known.claims.Claim.{Claim}
pub use Rattle.ados_salvage.specs.declared.known.claims.Claim.TheVariants.{Free, One, Several}
pub use Rattle.ados_salvage.specs.declared.known.deleted.Deleted.{Deleted}
pub use Rattle.ados_salvage.specs.Known.{AreAllClaims, AreClaims, AreHeaders, HasClaim, IsClaim, claim_at}
pub use Rattle.ados_salvage.specs.steps.Claims.{IsNoted, with_claim}
pub use Rattle.ados_salvage.specs.steps.Heading.{AreFound, AreSought, FindsMore, IsFound, IsSought}
pub use Rattle.ados_salvage.specs.steps.Leaving.{AreMarked}
pub use Rattle.ados_salvage.specs.steps.Naming.{ArePassed, GrowsBy}
pub use Rattle.ados_salvage.specs.steps.Parts.{AreOnce, AreUsersBelow, HasData, IsDataBlock, data_before}
pub use Rattle.ados_data.proofs.Sizes.{in_extensions}
pub use Rattle.ados_model.specs.Accepted.{ShowsNoFault}
unfoldable pub use Rattle.ados_model.specs.File.{contents, data_blocks, extension_blocks}
pub use Rattle.ados_model.specs.File.{AreApart, LawfulFile, data_block, file_byte, pointer_block}
pub use Rattle.ados_model.specs.Stands.{HasExtension, HasOfsData}
pub use Rattle.ados_model.specs.Tree.{data_count, extension_count}
pub use Rattle.std.proofs.Math.ListN.{drop_of_length-le, set}
pub use Rattle.std.proofs.lemmas.Bool.{cases_eq, cases_lt, cases_order, eq-eqb}
pub use Rattle.std.proofs.lemmas.List.{append-nil, append_assoc, ext_get_or, get_or-map, get_or_append_left, get_or_default, get_or_past, get_or_push, length-append, length-map, map-append, take_all, take_more}
pub use Rattle.std.proofs.lemmas.List.Elements.{All-from_get_or, All-map, All-nil, All-push, Contains-append_cases, Contains-append_left, Contains-append_right, Contains-get_or, Contains-push, Contains-push_cases}
pub use Rattle.std.proofs.lemmas.List.Quantifiers.{all_pairs_push}
pub use Rattle.std.proofs.lemmas.Result.{on_ok_weaker}
pub use Rattle.std.proofs.Common.{All, AllPairs, Bool, Contains, Global, IsTrue, List, MatchBool, Option, Some, Vec, [], ap, arith, below_more, cond, count_by, drop, false, get_or, get_or-append-add, get_or-set_other, get_or-set_same, inl, inr, length, length-set, map, min, ne_eqb, refl, rules, slice_index, subst, suc, sym, take, true, zero, ℕ, ◌%◌, ◌*◌, ◌++◌, ◌+◌, ◌-◌, ◌/◌, ◌<◌, ◌==◌, ◌↔◌, ◌∙◌, ◌∷◌, ◌≡◌, ◌≢◌, ◌≤◌, ◌⊎◌}
pub use Rattle.ados_check.proofs.Counting.{AreDifferent, different_few}
pub use Rattle.ados_salvage.specs.declared.known.headers.Found.{Found}
pub use Rattle.ados_salvage.specs.Marks.{IsHole, mark_at}
pub use Rattle.std.specs.List.{range_with_len}
pub use Rattle.std.proofs.lemmas.List.FromFn.{get_or-map-range_with_len, length-map-range_with_len, map-range_with_len_more}
pub use Rattle.ados_model.specs.Faults.{HasFileType, InImage, IsReachedAndFree, PlaceNames, Reached, Shows, root_of}
pub use Rattle.ados_salvage.specs.steps.Deleting.{AreOfReached, IsDoubt, is_several}

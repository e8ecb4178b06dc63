-- The names that most of these proofs cite, passed on from one place. Declares nothing.
unfoldable pub use Rattle.ados_name.specs.Name.{front, hash, last_name, steps, steps_along}
pub use Rattle.ados_name.specs.Name.{IsName, IsNameByte, Same, Step, Step.ToChild, Step.ToParent, is_colon, is_separator, is_slash, steps_of_parts, upper}
pub use Rattle.ados_name.specs.declared.NameFault.TheVariants.{Separator}
unfoldable pub use Rattle.bstr.specs.Bytes.{is_in}
pub use Rattle.bstr.specs.Find.{IsFirstByte, IsLastByte}
pub use Rattle.jiff.proofs.SpanFacts.{can_add-days, date_add-days, signed_arith}
pub use Rattle.jiff.specs.Types.{Date}
pub use Rattle.jiff.specs.Words.{IsEpochDay, IsYmd, date_text, epoch_day}
pub use Rattle.std.proofs.Common.{All, Bool, Fits, List, None, Option, Some, [], ap, append_assoc, arith, drop, false, fold, get_or, inl, inr, is_some, length, lit<, map, nat_lt, not, pos, refl, replicate, rules, subst, sym, take, true, unwrap_or, w64, w8, zero-le, ℕ, ◌%◌, ◌*◌, ◌++◌, ◌+ℤ◌, ◌+◌, ◌-◌, ◌/◌, ◌<◌, ◌==◌, ◌^◌, ◌||◌, ◌↔◌, ◌∙◌, ◌∷◌, ◌≡◌, ◌≢◌, ◌≤◌}
pub use Rattle.std.proofs.Math.ListN.{drop_of_length-le}
pub use Rattle.std.proofs.Math.Seq.{take-append_seam, take-length}
pub use Rattle.std.proofs.lemmas.Bool.{eq-eqb, eqb-true, false_from_ne_true, le-ltb, ltb-false, ltb-true, not_from_false, not_from_true, or_from, true≢false}
pub use Rattle.std.proofs.lemmas.List.{drop-replicate, get_or-drop, length-drop, length-map}
pub use Rattle.std.proofs.lemmas.List.Elements.{All-from_get_or, All-get_or}
pub use Rattle.std.proofs.lemmas.List.Folds.{list_any_at, list_any_none}
pub use Rattle.std.proofs.lemmas.List.Sums.{fails_before_first, position_or_len_is, prefix_len-le-length, suffix_len_is}
pub use Rattle.std.specs.Int.RustNames.{bit_and}
pub use Rattle.std.specs.List.{after_first, before_first, list_any, position_or_len, slice_split, suffix_len}

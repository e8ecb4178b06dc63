-- The names that most of these proofs cite, passed on from one place. Declares nothing.
pub use Rattle.adf_text.specs.Dated.{BeginsWithDate, HasNoDate, IsStamp, IsTextOfNone, StandsApart}
pub use Rattle.adf_text.specs.Escapes.{escaped, is_control, needs_escape}
pub use Rattle.adf_text.specs.HostNames.{IsHostName, host_letters, host_name}
pub use Rattle.adf_text.specs.Letters.{IsByte, IsFirstForeign, letters}
pub use Rattle.adf_text.specs.ProtectionLetters.{AreLetters, bit, protection_letters, protection_of}
pub use Rattle.adf_text.specs.Uaem.{IsLineOf, IsNoted, TellsSame}
pub use Rattle.adf_text.specs.UaemReads.{BeginsWithBits, HasLine, HasLongComment, IsFirstControl, IsLineEnd, IsLineLetter, IsUaemFaultOf, Reads, Tells, comment_of, low_bits}
pub use Rattle.adf_text.specs.Written.{HasNoWritten, IsWritten}
pub use Rattle.adf_text.specs.declared.escapes.Place.TheVariants.{Comment, HostName}
pub use Rattle.adf_text.specs.declared.uaem.Uaem.{Uaem}
pub use Rattle.adf_text.specs.steps.Finds.{FindsCivil, FindsDate, FindsNumbers, pair}
pub use Rattle.ados_name.specs.Date.{IsTextOf, civil_text, has_civil_text, raw_text}
pub use Rattle.ados_name.specs.Protection.{is_set, letter_or_dash}
pub use Rattle.ados_name.specs.declared.stamp.Date3.{Date3}
pub use Rattle.jiff.proofs.SpanFacts.{signed_arith}
pub use Rattle.jiff.specs.Words.{IsYear, IsYmd, date_parts, date_text, epoch_day, parse_date}
pub use Rattle.jiff_fmt.proofs.RoundTrip.{date_spec-text, parse_date-date_text}
pub use Rattle.jiff_fmt.specs.Temporal.{DateParts, date_spec}
pub use Rattle.percent_encoding.proofs.PercentLemmas.{All-percent_encode_byte, IsEscapeByte, length-percent_decode, percent_decode-nil, percent_decode-percent_encode_byte, percent_decode_not_percent}
unfoldable pub use Rattle.percent_encoding.specs.Percent.{percent_decode}
pub use Rattle.percent_encoding.specs.Percent.{percent_encode_byte}
pub use Rattle.std.proofs.Common.{All, Bool, Bor, Err, Fits, FitsSigned, IfErr, IfNone, IfOk, IfSome, IsErrAnd, List, MatchOption, None, Ok, Option, Result, Some, [], ap, append-nil, append_assoc, ap₂, arith, cond, drop, false, get_or, inl, inr, is_ok, length, length-append, length-drop, ltb, map, negsuc, pos, refl, rules, subst, subst₂, suc, sym, take, take_all, true, w32, w8, zero, ℕ, ℤ, ⊎_elim, ◌%◌, ◌*◌, ◌++◌, ◌+ℤ◌, ◌+◌, ◌-ℤ◌, ◌-◌, ◌/◌, ◌<◌, ◌==◌, ◌^◌, ◌∙◌, ◌∷◌, ◌≡◌, ◌≢◌, ◌≤◌}
pub use Rattle.std.proofs.KnownBytes.{Appends-nil, Appends-trans}
pub use Rattle.std.proofs.Math.Seq.{drop-append_seam, take-append_seam, take-length}
pub use Rattle.std.proofs.Math.Utf8.{low_scalar}
pub use Rattle.std.proofs.lemmas.Bool.{and_from, and_parts, both_ways, cases_Bool, cases_lt, cond-false, cond-true, cond_both, eqb-true, false_from_ne_true, false≢true, le-ltb, lt-ltb, ltb-true, not-true, or_parts, true≢false}
pub use Rattle.std.proofs.lemmas.Bool.Decides.{Decides-eqb, nat_tests}
pub use Rattle.std.proofs.lemmas.Fmt.{IsAscii-decimal, decimal_injective, decimal_is_IsNumeral, parse-decimal}
pub use Rattle.std.proofs.lemmas.List.{length_push, nil_from_length, same_from_push, take-append-drop, take_more, take_rest}
pub use Rattle.std.proofs.lemmas.List.Elements.{All-append, All-cons, All-from_get_or, All-from_recursion, All-get_or, All-head, All-nil, All-push, All-same, All-tail, All-take, All-weaker}
pub use Rattle.std.proofs.lemmas.Option.{IfSome_then, get_or_from_slice_get, slice_get_read, slice_get_within}
pub use Rattle.std.proofs.lemmas.Result.{IfOk-weaker, on_ok_weaker}
pub use Rattle.std.proofs.lemmas.Slice.Eq.{bytes_eq-Decides, strip_prefix_is}
pub use Rattle.std.proofs.lemmas.Str.{IsUtf8-append, IsUtf8-from_ascii, IsUtf8-past_char, chars-append, chars-encodes, chars_from_encodes, chars_past_char, encode_ascii, encodes-append, encodes-chars, encodes_same, length-le-encodes}
pub use Rattle.std.specs.Bool.{MatchBool, one_answer, ⊤}
pub use Rattle.std.specs.Char.{digit_value, encode_utf8}
pub use Rattle.std.specs.Fmt.{WritesInCalls, decimal}
pub use Rattle.std.specs.Int.{FitsUnsignedBits, bit_at}
pub use Rattle.std.specs.Io.KnownBytes.{Appends}
pub use Rattle.std.specs.List.{FoldsTo, concat, list_any}
pub use Rattle.std.specs.Option.{option_or}
pub use Rattle.std.specs.Prelude.{codes, flat_map, nat_le, nat_lt, not, unsigned_abs, ◌&&◌, ◌||◌, ◌⊎◌}
pub use Rattle.std.specs.Result.{OkIff, result_ok, result_unwrap_or}
pub use Rattle.std.specs.Str.{IsUtf8, all_scalars, bytes_eq}
pub use Rattle.std.specs.Str.Iter.{char_indices_offset, char_indices_rest}
pub use Rattle.std.specs.String.{string_bytes}

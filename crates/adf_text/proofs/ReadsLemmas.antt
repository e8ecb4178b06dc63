-- A file is read as one note, and a written note is read back.
use Rattle.adf_text.proofs.Common.{◌≡◌, ℕ, ◌%◌, ◌<◌, ◌≤◌, Bool, true, false, List, [], ◌∷◌, ◌++◌, length, drop, All, append_assoc, refl, sym, ap, subst, ◌∙◌, inl, inr, arith, ◌⊎◌, ◌==◌, not, nat_tests, All-from_recursion, All-nil, All-cons, All-head, All-tail, All-append, All-weaker, All-same, All-get_or, slice_get_within, get_or_from_slice_get, encodes_same, encodes-append, encode_ascii, IsEscapeByte, is_set, letter_or_dash, Date3, Comment, Uaem, IsByte, letters, is_control, needs_escape, escaped, protection_letters, protection_of, IsStamp, BeginsWithDate, HasNoDate, IsLineOf, IsNoted, IsLineEnd, IsLineLetter, HasLine, BeginsWithBits, comment_of, Tells, Reads, IsFirstControl, HasLongComment, IsUaemFaultOf, low_bits, or_parts, All-take, take-append_seam}
use Rattle.std.specs.Str.{chars}
use Rattle.std.proofs.Math.Utf8.{encode}
use Rattle.adf_text.specs.declared.uaem_reader.UaemFault.{UaemFault}
use Rattle.adf_text.specs.declared.uaem_reader.UaemFault.TheVariants.{NotUtf8, NoByte, Control, NoProtection, NoDate, LongComment, Memory}
use Rattle.adf_text.specs.steps.Parts.{StopsLine, Breaks, IsOnlyLine, BreaksLine, HasNoBits, IsTooLong}
use Rattle.adf_text.proofs.LettersLemmas.{all_scalars-bytes, chars-letters}
use Rattle.adf_text.proofs.EscapesLemmas.{percent_decode-escaped, All-escaped}
use Rattle.adf_text.proofs.ProtectionLettersLemmas.{protection_of-letters, protection_letters-low, letters-protection_letters}
use Rattle.adf_text.proofs.DatedLemmas.{split-same, split-first, Stops, begins-same, IsTextLetter, All-date}
use Rattle.adf_text.proofs.UaemLemmas.{line-shape}

-- ---- one line

end-stops : (end : List ℕ) → IsLineEnd end → Stops is_control end
end-stops end (inl is) = subst (Stops is_control) (sym is) tt
end-stops end (inr (inl is)) = subst (Stops is_control) (sym is) refl
end-stops end (inr (inr is)) = subst (Stops is_control) (sym is) refl

plain : (line : List ℕ) → All IsLineLetter line → All (λ c. is_control c ≡ false) line
plain line is = All-weaker IsLineLetter (λ c. is_control c ≡ false) (λ c letter. letter.plain) line is

-- the letters before the first control character
front-same : (file line front end more : List ℕ) → file ≡ letters (line ++ end) → file ≡ letters (front ++ more) → All IsLineLetter line → All IsLineLetter front
    → Stops is_control end → Stops is_control more → (line ≡ front) × (end ≡ more)
front-same file line front end more first second of_line of_front stops others =
    split-first is_control line front end more (plain line of_line) (plain front of_front) stops others (encodes_same (line ++ end) (front ++ more) (sym first ∙ second))

line-same : (file line other : List ℕ) → HasLine file line → HasLine file other → line ≡ other
line-same file line other first second =
    (front-same file line other first.end second.end first.whole second.whole first.plain second.plain (end-stops first.end first.ends) (end-stops second.end second.ends)).0

end-bytes : (end : List ℕ) → IsLineEnd end → All IsByte end
end-bytes end (inl is) = All-same IsByte end [] is (All-nil IsByte)
end-bytes end (inr (inl is)) = All-same IsByte end (10 ∷ []) is (All-cons IsByte 10 [] (omega arith) (All-nil IsByte))
end-bytes end (inr (inr is)) = All-same IsByte end (13 ∷ 10 ∷ []) is (All-cons IsByte 13 (10 ∷ []) (omega arith) (All-cons IsByte 10 [] (omega arith) (All-nil IsByte)))

file-bytes : (file line : List ℕ) (has : HasLine file line) → All IsByte (line ++ has.end)
file-bytes file line has =
    All-append IsByte line has.end (All-weaker IsLineLetter IsByte (λ c letter. letter.byte) line has.plain) (end-bytes has.end has.ends)

-- ---- a line has one content

bits-same : (line : List ℕ) (b c : ℕ) (x y : List ℕ) → BeginsWithBits line b x → BeginsWithBits line c y → (b % 256 ≡ c % 256) × (x ≡ y)
bits-same line b c x y first second =
    let parts = split-same (protection_letters b) (protection_letters c) (32 ∷ x) (32 ∷ y) refl (sym first ∙ second) in
    (sym (protection_of-letters b) ∙ ap protection_of parts.0 ∙ protection_of-letters c, ap (drop 1) parts.1)

tells-same : (line : List ℕ) (noted other : Uaem) → IsStamp noted.date → IsStamp other.date → Tells line noted → Tells line other → noted ≡ other
tells-same line noted other stamp stamp_other first second =
    let bits = bits-same line noted.protect.0 other.protect.0 first.dated second.dated first.bits second.bits in
    let protect : noted.protect.0 ≡ other.protect.0 = omega (arith, first.eight, second.eight, bits.0) in
    let date = begins-same first.dated noted.date other.date first.behind second.behind stamp stamp_other first.date (subst (λ x. BeginsWithDate x other.date second.behind) (sym bits.1) second.date) in
    let comment = first.comment ∙ ap comment_of date.1 ∙ sym second.comment in
    λ i. record { protect = record { 0 = protect i }; date = date.0 i; comment = comment i }

pub reads-same : (file : List ℕ) (noted other : Uaem) → IsStamp noted.date → IsStamp other.date → Reads file noted → Reads file other → noted ≡ other
reads-same file noted other stamp stamp_other first second =
    let line = line-same file first.0 second.0 first.1 second.1 in
    tells-same first.0 noted other stamp stamp_other first.2 (subst (λ x. Tells x other) (sym line) second.2)

-- ---- a file with a fault is not read

pub fault-none : (file : List ℕ) (fault : UaemFault) → IsUaemFaultOf file fault → (fault ≡ Memory) ⊎ ((noted : Uaem) → IsNoted noted → Reads file noted → ⊥)
fault-none file (NotUtf8 place) is = inr (λ noted of reads.
    is.0 (reads.0 ++ reads.1.end, (all_scalars-bytes (reads.0 ++ reads.1.end) (file-bytes file reads.0 reads.1), sym reads.1.whole)))
fault-none file (NoByte letter place) is = inr (λ noted of reads.
    let shown : chars file ≡ reads.0 ++ reads.1.end = ap chars reads.1.whole ∙ chars-letters (reads.0 ++ reads.1.end) (file-bytes file reads.0 reads.1) in
    let small = All-get_or IsByte (chars file) place 0 (slice_get_within (chars file) place letter is.stands) (All-same IsByte (chars file) (reads.0 ++ reads.1.end) shown (file-bytes file reads.0 reads.1)) in
    let read = get_or_from_slice_get (chars file) place letter 0 is.stands in
    let past = is.past in
    omega (arith, small, read, past))
fault-none file (Control place) is = inr (λ noted of reads.
    is.no_end (subst IsLineEnd (front-same file reads.0 is.front reads.1.end (is.control ∷ is.more) reads.1.whole is.whole reads.1.plain is.plain (end-stops reads.1.end reads.1.ends) is.stands).1 reads.1.ends))
fault-none file NoProtection is = inr (λ noted of reads.
    let line = line-same file reads.0 is.line reads.1 is.has in
    is.none noted.protect.0 reads.2.dated (sym line ∙ reads.2.bits))
fault-none file NoDate is = inr (λ noted of reads.
    let line = line-same file reads.0 is.line reads.1 is.has in
    let bits = bits-same is.line noted.protect.0 is.bits reads.2.dated is.dated (sym line ∙ reads.2.bits) is.begins in
    is.none noted.date reads.2.behind of.date (subst (λ x. BeginsWithDate x noted.date reads.2.behind) bits.1 reads.2.date))
fault-none file (LongComment long) is = inr (λ noted of reads.
    let same = reads-same file noted is.noted of.date is.stamp reads is.reads in
    let shorter = of.comment.short in
    let long_is = is.is_long in
    let past = is.past in
    let lengths = ap (λ (n : Uaem). length n.comment) same in
    omega (arith, shorter, long_is, past, lengths))
fault-none file Memory is = inl refl

-- ---- a written line is read back

line_letter : (c : ℕ) → 32 ≤ c → c < 127 → IsLineLetter c
line_letter c low high = record { byte = omega arith; plain = grind (arith, nat_tests) }

letter_shown : (set : Bool) (letter : ℕ) → 32 ≤ letter → letter < 127 → IsLineLetter (letter_or_dash set letter)
letter_shown true letter low high = line_letter letter low high
letter_shown false letter low high = line_letter 45 (omega arith) (omega arith)

All-ascii : (xs : List ℕ) → All IsTextLetter xs → letters xs ≡ xs
All-ascii [] is = refl
All-ascii (x ∷ xs) is =
    let head = All-head IsTextLetter x xs is in
    let high = head.high in
    let first = encode_ascii x (omega (arith, high)) in
    let rest = All-ascii xs (All-tail IsTextLetter x xs is) in
    λ i. first i ++ rest i

All-bits : (bits : ℕ) → All IsLineLetter (protection_letters bits)
All-bits bits = All-from_recursion IsLineLetter (protection_letters bits) (
  letter_shown (is_set bits 7) 104 (omega arith) (omega arith),
  (
    letter_shown (is_set bits 6) 115 (omega arith) (omega arith),
    (
      letter_shown (is_set bits 5) 112 (omega arith) (omega arith),
      (
        letter_shown (is_set bits 4) 97 (omega arith) (omega arith),
        (
          letter_shown (not (is_set bits 3)) 114 (omega arith) (omega arith),
          (
            letter_shown (not (is_set bits 2)) 119 (omega arith) (omega arith),
            (
              letter_shown (not (is_set bits 1)) 101 (omega arith) (omega arith),
              (letter_shown (not (is_set bits 0)) 100 (omega arith) (omega arith), tt),
            ),
          ),
        ),
      ),
    ),
  ),
)

escape_letter : (b : ℕ) → IsEscapeByte b → IsLineLetter b
escape_letter b escape =
    let low : 32 ≤ b = grind arith in
    let high : b < 127 = grind arith in
    line_letter b low high

All-comment : (comment : List ℕ) → All IsByte comment → All IsLineLetter (escaped Comment comment)
All-comment comment small =
    All-escaped IsLineLetter Comment escape_letter comment
    (All-weaker IsByte (λ b. needs_escape Comment b ≡ false → IsLineLetter b) (λ b byte kept. record { byte = byte; plain = (or_parts (is_control b) (b == 37) kept).0 }) comment small)

letters-line : (front date shown : List ℕ) → letters front ≡ front → letters date ≡ date
    → letters ((front ++ 32 ∷ (date ++ 32 ∷ shown)) ++ 10 ∷ []) ≡ front ++ (32 ∷ (date ++ 32 ∷ (letters shown ++ 10 ∷ [])))
unfolding encode
letters-line front date shown of_front of_date =
    let whole = encodes-append (front ++ 32 ∷ (date ++ 32 ∷ shown)) (10 ∷ []) in
    let first = encodes-append front (32 ∷ (date ++ 32 ∷ shown)) ∙ ap (λ x. x ++ letters (32 ∷ (date ++ 32 ∷ shown))) of_front in
    let second = encodes-append date (32 ∷ shown) ∙ ap (λ x. x ++ letters (32 ∷ shown)) of_date in
    whole ∙ ap (λ x. x ++ 10 ∷ []) (first ∙ ap (λ x. front ++ 32 ∷ x) second) ∙ simp append_assoc refl

pub comes-back : (line : List ℕ) (noted : Uaem) → IsNoted noted → IsLineOf noted line → Reads line (low_bits noted)
comes-back line noted is written =
    let bits = noted.protect.0 in
    let date = written.0 in
    let shown = escaped Comment noted.comment in
    let low = protection_letters-low bits in
    let text = protection_letters (bits % 256) ++ 32 ∷ (date ++ 32 ∷ shown) in
    let of_date = All-date noted.date date is.date written.1 in
    let date_letters = All-weaker IsTextLetter IsLineLetter (λ c letter. line_letter c letter.low letter.high) date of_date in
    let space = line_letter 32 (omega arith) (omega arith) in
    let whole = written.2 ∙ line-shape bits date (letters shown) ∙ ap (λ x. x ++ (32 ∷ (date ++ 32 ∷ (letters shown ++ 10 ∷ [])))) (sym low)
    ∙ sym (letters-line (protection_letters (bits % 256)) date shown (letters-protection_letters (bits % 256)) (All-ascii date of_date)) in (
      text,
      record {
        end = 10 ∷ [];
        ends = inr (inl refl);
        plain = All-append IsLineLetter (protection_letters (bits % 256)) (32 ∷ (date ++ 32 ∷ shown)) (All-bits (bits % 256))
            (All-cons IsLineLetter 32 (date ++ 32 ∷ shown) space (All-append IsLineLetter date (32 ∷ shown) date_letters
            (All-cons IsLineLetter 32 shown space (All-comment noted.comment is.comment.bytes))));
        whole = whole;
      },
      record {
        dated = date ++ 32 ∷ shown;
        behind = 32 ∷ shown;
        bits = refl;
        eight = omega arith;
        date = record { shown = date; dated = written.1; stands = refl; apart = refl };
        comment = sym (percent_decode-escaped Comment noted.comment is.comment.bytes);
      },
    )

-- ---- the parts of a line, as the reader finds them

pub breaks : (text line end : List ℕ) (place : ℕ) → text ≡ line ++ end → All (λ c. is_control c ≡ false) line → StopsLine end → (IsLineEnd end → ⊥) → place ≡ length line
    → Breaks text place
breaks text line [] place whole plain stops no_end is = absurd (no_end (inl refl))
breaks text line (c ∷ more) place whole plain stops no_end is =
    record { front = line; control = c; more = more; whole = whole; plain = plain; stands = stops; no_end = no_end; is_place = is }

pub letters-of_bits : (line front back : List ℕ) (bits : ℕ) (behind : List ℕ) → line ≡ front ++ back → length front ≡ 8 → BeginsWithBits line bits behind
    → (front ≡ protection_letters (protection_of front)) × (back ≡ 32 ∷ behind)
letters-of_bits line front back bits behind whole long begins =
    let parts = split-same front (protection_letters bits) back (32 ∷ behind) long (sym whole ∙ begins) in (
      parts.0 ∙ sym (ap (λ x. protection_letters (protection_of x)) parts.0 ∙ ap protection_letters (protection_of-letters bits) ∙ protection_letters-low bits),
      parts.1,
    )

line-letters : (text line end : List ℕ) → All IsByte text → text ≡ line ++ end → All (λ c. is_control c ≡ false) line → All IsLineLetter line
line-letters text line end small whole plain =
    let bytes = All-same IsByte line _ (sym (take-append_seam line end)) (All-take IsByte (length line) (line ++ end) (All-same IsByte (line ++ end) text (sym whole) small)) in
    λ k d inside. record { byte = bytes k d inside; plain = plain k d inside }

module _ (file text : List ℕ) (is : letters text ≡ file) (small : All IsByte text) where
  pub line-read : (line : List ℕ) → IsOnlyLine text line → HasLine file line
  line-read line only = record { end = only.end; ends = only.ends; plain = line-letters text line only.end small only.whole only.plain; whole = sym is ∙ ap letters only.whole }

  pub line-fault : (fault : UaemFault) → BreaksLine text fault → IsUaemFaultOf file fault
  line-fault fault found =
      let at = found.2 in
      let first : IsFirstControl file found.0 = record {
        front = at.front;
        control = at.control;
        more = at.more;
        whole = sym is ∙ ap letters at.whole;
        plain = line-letters text at.front (at.control ∷ at.more) small at.whole at.plain;
        stands = at.stands;
        no_end = at.no_end;
        is_place = at.is_place;
      } in
      subst (IsUaemFaultOf file) (sym found.1) first

module _ (file line : List ℕ) (has : HasLine file line) where
  pub bits-fault : HasNoBits line → IsUaemFaultOf file NoProtection
  bits-fault none = record { line = line; has = has; none = none }

  module _ (bits : ℕ) (dated : List ℕ) (begins : BeginsWithBits line bits dated) (eight : bits < 256) where
    pub date-fault : HasNoDate dated → IsUaemFaultOf file NoDate
    date-fault none = record { line = line; has = has; bits = bits; dated = dated; begins = begins; none = none }

    module _ (date : Date3) (behind : List ℕ) (stamp : IsStamp date) (found : BeginsWithDate dated date behind) where
      abbrev noted-as : List ℕ → Uaem
      noted-as comment = record { protect = record { 0 = bits }; date = date; comment = comment }

      pub note-read : (noted : Uaem) → noted.protect.0 ≡ bits → noted.date ≡ date → noted.comment ≡ comment_of behind → Reads file noted
      note-read noted of_bits of_date of_comment =
          let whole : Reads file (noted-as (comment_of behind)) = (line, has, record { dated = dated; behind = behind; bits = begins; eight = eight; date = found; comment = refl }) in
          subst (Reads file) (λ i. record { protect = record { 0 = sym of_bits i }; date = sym of_date i; comment = sym of_comment i }) whole

      pub comment-fault : (fault : UaemFault) → IsTooLong behind fault → IsUaemFaultOf file fault
      comment-fault fault (inl memory) = subst (IsUaemFaultOf file) (sym memory) tt
      comment-fault fault (inr long) =
          let noted = noted-as (comment_of behind) in
          let is_long : HasLongComment file (length (comment_of behind)) = record { noted = noted; stamp = stamp; reads = note-read noted refl refl refl; is_long = refl; past = long.1 } in
          subst (IsUaemFaultOf file) (sym long.0) is_long

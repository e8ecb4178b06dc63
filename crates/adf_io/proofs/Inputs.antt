-- Input of which only the first bytes are kept.
use Rattle.std.proofs.Common.{◌≡◌, ◌≤◌, ◌<◌, ◌+◌, ℕ, List, [], ◌++◌, take, length, ap, sym, subst, ◌∙◌, Option, Result, Ok, Err, length-append, take_all, arith}
use lib.Seq.{take-append_seam}
use Rattle.std.proofs.lemmas.List.{length-take}
use Rattle.std.specs.Io.KnownBytes.{Consumes}
use Rattle.std.proofs.KnownBytes.{Consumes-trans}
use Rattle.adf_io.specs.Input.{GivesNoEnd, ReadsCounted}
use Rattle.adf_io.specs.Load.{IsRefusedSize, ReadsAll}
use Rattle.adf_io.specs.steps.Reads.{GivesOn, ReadsOn, ReadsRest}
use Rattle.adf_io.specs.declared.input.Input.{Input}
use Rattle.adf_block.specs.Size.{IsSizeFault}
use Rattle.adf_block.specs.declared.volume_size.SizeRefused.{SizeRefused}

-- fewer bytes than there was room for are all bytes
pub counted_short : (most : ℕ) (a b : Option (List ℕ)) (before : List ℕ) (reads : ℕ) (input : Input) → before ≡ [] → ReadsOn most a b before input.front.items reads → length input.front.items < most → input.more ≡ 0
    → ReadsCounted most a b input
counted_short most a b before reads input start on short none = record {
  seen = input.front.items;
  consumed = subst (Consumes a b) (sym (on.grown ∙ ap (λ (l : List ℕ). l ++ on.rest) start)) on.consumed;
  end = on.ended short;
  front = sym (take_all most input.front.items on.within);
  counted = omega (arith, none);
}

-- the rest of a longer input was counted
pub counted_rest : (most : ℕ) (a b c : Option (List ℕ)) (before : List ℕ) (reads : ℕ) (input : Input) → before ≡ [] → ReadsOn most a b before input.front.items reads → most ≤ length input.front.items → ReadsRest b c input.more
    → ReadsCounted most a c input
counted_rest most a b c before reads input start on full (rest, consumed, end, counted) =
    let front = input.front.items in
    let size : length front ≡ most = omega (arith, on.within, full) in
    let given : Consumes a b front = subst (Consumes a b) (sym (on.grown ∙ ap (λ (l : List ℕ). l ++ on.rest) start)) on.consumed in
    record {
      seen = front ++ rest;
      consumed = Consumes-trans a b c front rest given consumed;
      end = end;
      front = sym (ap (λ k. take k (front ++ rest)) (sym size) ∙ take-append_seam front rest);
      counted = length-append front rest ∙ omega (arith, counted);
    }

-- a fault, whatever value was wanted
abbrev pub as_fault : {A E : Type 0} → Result A E → Result ℕ E
as_fault (Ok value) = Ok 0
as_fault (Err fault) = Err fault

-- no end within the reads of the first bytes and the remaining reads
pub no_end_behind : (most : ℕ) (a b c : Option (List ℕ)) (before front : List ℕ) (reads left : ℕ) → ReadsOn most a b before front reads → GivesOn left b c → 2097152 ≤ reads + left → GivesNoEnd a c
no_end_behind most a b c before front reads left on (rest, consumed, many) limit =
    (on.rest ++ rest, Consumes-trans a b c on.rest rest on.consumed consumed, omega (arith, length-append on.rest rest, on.many, many, limit))

-- if no bytes came after the kept ones, these are all
pub reads_whole : (most : ℕ) (a b : Option (List ℕ)) (input : Input) (bytes : List ℕ) → ReadsCounted most a b input → input.more ≡ 0 → bytes ≡ input.front.items → ReadsAll a b bytes
reads_whole most a b input bytes counted none same =
    let all : input.front.items ≡ counted.seen =
    counted.front ∙ take_all most counted.seen (omega (arith, counted.counted, none, ap length counted.front, length-take most counted.seen)) in
    (subst (Consumes a b) (sym (same ∙ all)) counted.consumed, counted.end)

-- no more bytes are kept than the bound says
pub kept_within : (most : ℕ) (a b : Option (List ℕ)) (input : Input) → ReadsCounted most a b input → length input.front.items ≤ most
kept_within most a b input counted = omega (arith, ap length counted.front, length-take most counted.seen)

-- all bytes of the reader have a wrong size
pub refused_all : (a b : Option (List ℕ)) (bytes : List ℕ) (refused : SizeRefused) → ReadsAll a b bytes → length bytes ≤ 52020224 → refused.bytes.items ≡ bytes
    → IsSizeFault (length bytes) refused.fault → IsRefusedSize a b refused
refused_all a b bytes refused all within same faulty = record {
  seen = bytes;
  consumed = all.0;
  end = all.1;
  front = same ∙ sym (take_all 52020224 bytes within);
  faulty = faulty;
}

-- more bytes came after them than the largest image has
pub refused_more : (a b : Option (List ℕ)) (input : Input) (refused : SizeRefused) → ReadsCounted 52020224 a b input → 0 < input.more → refused.bytes.items ≡ input.front.items
    → IsSizeFault (52020224 + input.more) refused.fault → IsRefusedSize a b refused
refused_more a b input refused counted more same faulty = record {
  seen = counted.seen;
  consumed = counted.consumed;
  end = counted.end;
  front = same ∙ counted.front;
  faulty = subst (λ n. IsSizeFault n refused.fault) (omega (arith, counted.counted, more, ap length counted.front, length-take 52020224 counted.seen)) faulty;
}

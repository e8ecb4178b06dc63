use Rattle.std.proofs.Common.{◌≡◌, ℕ, ◌-◌, List, ◌++◌, length, take, drop, ap, sym, ◌∙◌, length-append, arith}
use Rattle.adf_archive.proofs.Common.{length-drop, length-map, take-append-drop, take_all, map}
use Rattle.std.proofs.Math.Seq.{drop-append_seam}
use Rattle.std.specs.Char.{to_ascii_lowercase}
use Rattle.adf_archive.proofs.finding.has_ending.Goals as goal

-- the slice up to the end
to_end : (n : ℕ) (bytes : List ℕ) → take (length bytes - n) (drop n bytes) ≡ drop n bytes
to_end n bytes = take_all (length bytes - n) (drop n bytes) (omega (arith, length-drop n bytes))

-- the ending of a name
behind : (name front ending letters : List ℕ) (n : ℕ) → n ≡ length name - length letters → name ≡ front ++ ending → map to_ascii_lowercase ending ≡ map to_ascii_lowercase letters
    → drop n name ≡ ending
behind name front ending letters n at is small =
    let size : length ending ≡ length letters = sym (length-map ending to_ascii_lowercase) ∙ ap length small ∙ length-map letters to_ascii_lowercase in
    ap (λ (k : ℕ). drop k name) (omega (arith, at, size, ap length is, length-append front ending)) ∙ ap (drop (length front)) is ∙ drop-append_seam front ending

pub returns : goal.returns
returns c =
    let name = c.args.name.now in
    let bytes = c.as_bytes-bytes.result.now in
    let letters = c.args.ending.now in
    let n : ℕ = length bytes - length letters in
    let slice : map to_ascii_lowercase (take (length bytes - n) (drop n bytes)) ≡ map to_ascii_lowercase (drop n name) =
    ap (map to_ascii_lowercase) (to_end n bytes ∙ ap (drop n) c.as_bytes-bytes.ensures.value) in (
      λ yes. (take n name, drop n name, sym (take-append-drop n name), sym slice ∙ c.eq_ignore_ascii_case.ensures.test.0 yes),
      λ ends. c.eq_ignore_ascii_case.ensures.test.1
          (slice ∙ ap (map to_ascii_lowercase) (behind name ends.0 ends.1 letters n (ap (λ (l : List ℕ). length l - length letters) c.as_bytes-bytes.ensures.value) ends.2 ends.3) ∙ ends.3),
    )

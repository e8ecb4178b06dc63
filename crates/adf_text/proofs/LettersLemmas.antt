-- Letters that are bytes.
use Rattle.adf_text.proofs.Common.{◌≡◌, ℕ, ◌<◌, ◌≤◌, true, List, [], ◌∷◌, ◌++◌, length, get_or, take, All, Fits, w8, sym, ap, refl, ◌∙◌, arith, low_scalar, and_from, take-length, length_push, take_more, All-head, All-tail, All-from_get_or, All-same, slice_get_read, chars-encodes, encodes-chars, all_scalars, IsUtf8, IsByte, letters, IsFirstForeign}
use Rattle.std.specs.Str.{chars}

-- bytes are characters
pub all_scalars-bytes : (bytes : List ℕ) → All IsByte bytes → all_scalars bytes ≡ true
all_scalars-bytes [] small = refl
all_scalars-bytes (b ∷ bs) small =
    let byte : b < 256 = All-head IsByte b bs small in
    and_from _ _ (low_scalar b (omega arith)) (all_scalars-bytes bs (All-tail IsByte b bs small))

pub chars-letters : (bytes : List ℕ) → All IsByte bytes → chars (letters bytes) ≡ bytes
chars-letters bytes small = chars-encodes bytes (all_scalars-bytes bytes small)

pub All-bytes : (bytes : List ℕ) → ((k : ℕ) → Fits w8 (get_or bytes k 0)) → All IsByte bytes
All-bytes bytes fit = All-from_get_or IsByte bytes 0 (λ k inside. let fits = fit k in omega arith)

-- bytes followed by a letter that is none
pub IsFirstForeign-here : (text bytes : List ℕ) (place letter : ℕ) → bytes ≡ take place (chars text) → All IsByte bytes
    → (place < length (chars text)) × (letter ≡ get_or (chars text) place letter) → 256 ≤ letter → IsFirstForeign text letter place
IsFirstForeign-here text bytes place letter front small stands past = record {
  stands = slice_get_read (chars text) (length (chars text)) place letter refl stands.0 stands.1;
  past = past;
  before = All-same IsByte (take place (chars text)) bytes (sym front) small;
}

-- the list of a text's letters, up to the loop's position
module _ (text items yielded : List ℕ) (front : items ≡ take (length yielded) (chars text)) where
  pub front-more : (letter byte : ℕ) (new : List ℕ) → new ≡ items ++ byte ∷ [] → byte ≡ letter
      → (length yielded < length (chars text)) × (letter ≡ get_or (chars text) (length yielded) letter)
      → new ≡ take (length (yielded ++ letter ∷ [])) (chars text)
  front-more letter byte new pushed is stands =
      let more = take_more (chars text) (length yielded) letter stands.0 in
      rw (length_push yielded letter, more, ← stands.1, ← is, ← front) pushed

  items-whole : length yielded ≡ length (chars text) → items ≡ chars text
  items-whole end = front ∙ ap (λ n. take n (chars text)) end ∙ take-length (chars text)

  pub front-whole : IsUtf8 text → length yielded ≡ length (chars text) → letters items ≡ text
  front-whole utf8 end = ap letters (items-whole end) ∙ encodes-chars text utf8

  pub All-whole : All IsByte items → length yielded ≡ length (chars text) → All IsByte (chars text)
  All-whole small end = All-same IsByte (chars text) items (sym (items-whole end)) small

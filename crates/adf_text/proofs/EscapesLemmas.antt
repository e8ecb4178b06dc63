-- Escapes are read back as their bytes.
use Rattle.adf_text.proofs.Common.{◌≡◌, ℕ, true, false, List, [], ◌∷◌, ◌++◌, All, refl, ap, ◌∙◌, ⊎_elim, cond-true, cond-false, cases_Bool, both_ways, All-nil, All-cons, All-head, All-tail, All-append, All-weaker, All-same, percent_encode_byte, percent_decode, IsEscapeByte, All-percent_encode_byte, percent_decode-nil, percent_decode_not_percent, percent_decode-percent_encode_byte, HostName, Comment, IsByte, needs_escape, escaped}
use Rattle.adf_text.specs.declared.escapes.Place.{Place}

escaped-yes : (place : Place) (b : ℕ) (bs : List ℕ) → needs_escape place b ≡ true → escaped place (b ∷ bs) ≡ percent_encode_byte b ++ escaped place bs
escaped-yes place b bs needed = ap (λ x. x ++ escaped place bs) (cond-true (needs_escape place b) (percent_encode_byte b) (b ∷ []) needed)

escaped-no : (place : Place) (b : ℕ) (bs : List ℕ) → needs_escape place b ≡ false → escaped place (b ∷ bs) ≡ b ∷ escaped place bs
escaped-no place b bs kept = ap (λ x. x ++ escaped place bs) (cond-false (needs_escape place b) (percent_encode_byte b) (b ∷ []) kept)

needs_escape-percent : (place : Place) → needs_escape place 37 ≡ true
needs_escape-percent HostName = refl
needs_escape-percent Comment = refl

pub percent_decode-escaped : (place : Place) (bytes : List ℕ) → All IsByte bytes → percent_decode (escaped place bytes) ≡ bytes
percent_decode-escaped place [] small = percent_decode-nil
percent_decode-escaped place (b ∷ bs) small =
    let rest = ap (λ x. b ∷ x) (percent_decode-escaped place bs (All-tail IsByte b bs small)) in
    ⊎_elim
    (λ needed. ap percent_decode (escaped-yes place b bs needed) ∙ percent_decode-percent_encode_byte b (escaped place bs) (All-head IsByte b bs small) ∙ rest)
    (λ kept. ap percent_decode (escaped-no place b bs kept)
    ∙ percent_decode_not_percent b (escaped place bs) (λ percent. both_ways _ kept (ap (needs_escape place) percent ∙ needs_escape-percent place)) ∙ rest)
    (cases_Bool (needs_escape place b))

-- what holds for each byte that is kept, for `%` and for hexadecimal digits, holds for the bytes with escapes
pub All-escaped : (P : ℕ → Type 0) (place : Place) → ((b : ℕ) → IsEscapeByte b → P b)
    → (bytes : List ℕ) → All (λ b. needs_escape place b ≡ false → P b) bytes → All P (escaped place bytes)
All-escaped P place escape [] kept = All-nil P
All-escaped P place escape (b ∷ bs) kept =
    let Kept : ℕ → Type 0 = λ b. needs_escape place b ≡ false → P b in
    let rest = All-escaped P place escape bs (All-tail Kept b bs kept) in
    ⊎_elim
    (λ needed. All-same P _ _ (escaped-yes place b bs needed)
    (All-append P (percent_encode_byte b) (escaped place bs) (All-weaker IsEscapeByte P escape (percent_encode_byte b) (All-percent_encode_byte b)) rest))
    (λ plain. All-same P _ _ (escaped-no place b bs plain) (All-cons P b (escaped place bs) (All-head Kept b bs kept plain) rest))
    (cases_Bool (needs_escape place b))

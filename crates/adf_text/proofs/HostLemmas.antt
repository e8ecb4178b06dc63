-- The name of a host file.
use Rattle.adf_text.proofs.Common.{◌≡◌, ◌≢◌, ℕ, ◌+◌, ◌/◌, ◌%◌, ◌<◌, ◌≤◌, false, cond, ltb, List, [], ◌∷◌, length, All, refl, sym, ap, subst, ◌∙◌, ⊎_elim, arith, codes, bytes_eq, cond-true, cond-false, cond_both, cases_lt, lt-ltb, le-ltb, true≢false, All-nil, All-cons, All-head, All-tail, All-append, All-weaker, All-same, bytes_eq-Decides, encodes_same, length-le-encodes, percent_decode, IsEscapeByte, length-percent_decode, HostName, IsByte, letters, needs_escape, escaped, host_letters, host_name, IsHostName}
use Rattle.std.specs.Str.{chars}
use Rattle.std.proofs.Math.Utf8.{encode}
use Rattle.ados_name.specs.Name.{IsName, IsNameByte}
use Rattle.adf_text.proofs.LettersLemmas.{chars-letters}
use Rattle.adf_text.proofs.EscapesLemmas.{percent_decode-escaped, All-escaped}

-- neither NUL nor `/`
abbrev pub IsPlain : ℕ → Type 0
IsPlain c = (c ≢ 0) × (c ≢ 47)

-- a letter of a host's name
record IsHostLetter (b : ℕ) : Type 0 where
  byte : IsByte b
  plain : IsPlain b

host_letter : (b : ℕ) → b < 256 → 0 < b → b ≢ 47 → IsHostLetter b
host_letter b byte some other = record { byte = byte; plain = (λ e. omega (arith, e, some), other) }

host_letter-escape : (b : ℕ) → IsEscapeByte b → IsHostLetter b
host_letter-escape b escape =
    let byte : b < 256 = grind arith in
    let some : 0 < b = grind arith in
    let other : b ≢ 47 = grind arith in
    host_letter b byte some other

past_controls : (b : ℕ) → needs_escape HostName b ≡ false → 32 ≤ b
past_controls b kept = ⊎_elim (λ low. absurd (true≢false (rw (lt-ltb b 32 low) at kept))) (λ high. high) (cases_lt b 32)

host_letter-kept : (b : ℕ) → IsNameByte b → needs_escape HostName b ≡ false → IsHostLetter b
host_letter-kept b name kept = let high = past_controls b kept in host_letter b name.byte (omega arith) name.no_slash

All-dot : All IsHostLetter (codes "%2E")
All-dot =
    All-cons IsHostLetter 37 (50 ∷ 69 ∷ []) (host_letter 37 (omega arith) (omega arith) (omega arith))
    (All-cons IsHostLetter 50 (69 ∷ []) (host_letter 50 (omega arith) (omega arith) (omega arith))
    (All-cons IsHostLetter 69 [] (host_letter 69 (omega arith) (omega arith) (omega arith)) (All-nil IsHostLetter)))

All-dots : All IsHostLetter (codes "%2E.")
All-dots = All-append IsHostLetter (codes "%2E") (46 ∷ []) All-dot
    (All-cons IsHostLetter 46 [] (host_letter 46 (omega arith) (omega arith) (omega arith)) (All-nil IsHostLetter))

All-host_letters : (name : List ℕ) → IsName name → All IsHostLetter (host_letters name)
All-host_letters name is =
    cond_both (bytes_eq name (codes ".")) (codes "%2E") (cond (bytes_eq name (codes "..")) (codes "%2E.") (escaped HostName name)) (All IsHostLetter)
    (λ _. All-dot)
    (λ _. cond_both (bytes_eq name (codes "..")) (codes "%2E.") (escaped HostName name) (All IsHostLetter)
    (λ _. All-dots)
    (λ _. All-escaped IsHostLetter HostName host_letter-escape name (All-weaker IsNameByte (λ b. needs_escape HostName b ≡ false → IsHostLetter b) host_letter-kept name is.plain)))

decoded-dots : (percent_decode (codes "%2E") ≡ codes ".") × (percent_decode (codes "%2E.") ≡ codes "..") × (percent_decode (codes ".") ≡ codes ".") × (percent_decode (codes "..") ≡ codes "..")
unfolding percent_decode
decoded-dots = (refl, refl, refl, refl)

letters-dots : (letters (codes ".") ≡ codes ".") × (letters (codes "..") ≡ codes "..")
unfolding encode
letters-dots = (refl, refl)

pub percent_decode-host_letters : (name : List ℕ) → IsName name → percent_decode (host_letters name) ≡ name
percent_decode-host_letters name is =
    let small = All-weaker IsNameByte IsByte (λ b h. h.byte) name is.plain in
    cond_both (bytes_eq name (codes ".")) (codes "%2E") (cond (bytes_eq name (codes "..")) (codes "%2E.") (escaped HostName name)) (λ x. percent_decode x ≡ name)
    (λ dot. decoded-dots.0 ∙ sym ((bytes_eq-Decides name (codes ".")).0 dot))
    (λ _. cond_both (bytes_eq name (codes "..")) (codes "%2E.") (escaped HostName name) (λ x. percent_decode x ≡ name)
    (λ dots. decoded-dots.1 ∙ sym ((bytes_eq-Decides name (codes "..")).0 dots))
    (λ _. percent_decode-escaped HostName name small))

pub chars-host_name : (name : List ℕ) → IsName name → chars (host_name name) ≡ host_letters name
chars-host_name name is = chars-letters (host_letters name) (All-weaker IsHostLetter IsByte (λ b h. h.byte) (host_letters name) (All-host_letters name is))

pub All-host_bytes : (name : List ℕ) → IsName name → All IsByte (host_letters name)
All-host_bytes name is = All-weaker IsHostLetter IsByte (λ b h. h.byte) (host_letters name) (All-host_letters name is)

-- the UTF-8 form of a letter with two bytes
encode-two : (c : ℕ) → 128 ≤ c → c < 256 → encode c ≡ (192 + c / 64) ∷ (128 + c % 64) ∷ []
unfolding encode
encode-two c high low = cond-false (ltb c 128) _ _ (le-ltb c 128 high) ∙ cond-true (ltb c 2048) _ _ (lt-ltb c 2048 (omega arith))

encode-one : (c : ℕ) → c < 128 → encode c ≡ c ∷ []
unfolding encode
encode-one c low = cond-true (ltb c 128) _ _ (lt-ltb c 128 low)

past-plain : (c : ℕ) → 128 ≤ c → IsPlain c
past-plain c high = (λ e. omega (arith, e, high), λ e. omega (arith, e, high))

All-encode : (c : ℕ) → IsHostLetter c → All IsPlain (encode c)
All-encode c letter =
    let byte = letter.byte in
    ⊎_elim
    (λ low. All-same IsPlain (encode c) (c ∷ []) (encode-one c low) (All-cons IsPlain c [] letter.plain (All-nil IsPlain)))
    (λ high. All-same IsPlain (encode c) _ (encode-two c high byte)
    (All-cons IsPlain (192 + c / 64) ((128 + c % 64) ∷ []) (past-plain (192 + c / 64) (omega arith))
    (All-cons IsPlain (128 + c % 64) [] (past-plain (128 + c % 64) (omega arith)) (All-nil IsPlain))))
    (cases_lt c 128)

All-letters : (bytes : List ℕ) → All IsHostLetter bytes → All IsPlain (letters bytes)
All-letters [] plain = All-nil IsPlain
All-letters (b ∷ bs) plain =
    All-append IsPlain (encode b) (letters bs) (All-encode b (All-head IsHostLetter b bs plain)) (All-letters bs (All-tail IsHostLetter b bs plain))

-- the host's name differs from a name that is written in a longer form
module _ (name : List ℕ) (is : IsName name) where
  other_text : (dots written : List ℕ) → letters dots ≡ dots → percent_decode dots ≡ dots → host_letters dots ≡ written → length dots < length written → host_name name ≢ dots
  other_text dots written ascii plain escaped longer same =
      let shown : host_letters name ≡ dots = encodes_same (host_letters name) dots (same ∙ sym ascii) in
      let name_is : name ≡ dots = sym (percent_decode-host_letters name is) ∙ ap percent_decode shown ∙ plain in
      let both : dots ≡ written = sym shown ∙ ap host_letters name_is ∙ escaped in
      let lengths = ap length both in
      omega (arith, lengths, longer)

pub IsHostName-host_name : (name : List ℕ) → IsName name → IsHostName (host_name name)
IsHostName-host_name name is =
    let few = length-le-encodes (host_letters name) in
    let back = ap length (percent_decode-host_letters name is) in
    let kept = (length-percent_decode (host_letters name)).0 in
    let some = is.not_empty in
    record {
      not_empty = omega (arith, few, back, kept, some);
      not_dot = other_text name is (codes ".") (codes "%2E") letters-dots.0 decoded-dots.2 refl (omega arith);
      not_dots = other_text name is (codes "..") (codes "%2E.") letters-dots.1 decoded-dots.3 refl (omega arith);
      plain = All-letters (host_letters name) (All-host_letters name is);
    }

-- the text of the letters for the name
pub IsHostName-text : (name shown text : List ℕ) → IsName name → shown ≡ host_letters name → text ≡ letters shown → IsHostName text
IsHostName-text name shown text is made spelled = subst IsHostName (sym (spelled ∙ ap letters made)) (IsHostName-host_name name is)

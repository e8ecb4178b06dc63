-- The text of a date: it belongs to one date only, its letters, and where it ends.
use Rattle.adf_text.proofs.Common.{◌≡◌, ℕ, suc, ℤ, pos, negsuc, ◌+ℤ◌, ◌-ℤ◌, ◌+◌, ◌*◌, ◌/◌, ◌%◌, ◌<◌, ◌≤◌, ◌^◌, ◌==◌, ◌≢◌, Bool, true, false, List, [], ◌∷◌, ◌++◌, Option, None, Some, length, take, drop, All, append_assoc, append-nil, refl, sym, ap, subst, ◌∙◌, arith, MatchBool, ⊤, decimal, MatchOption, codes, ◌&&◌, nat_le, nat_lt, result_unwrap_or, take-append_seam, drop-append_seam, and_parts, ltb-true, both_ways, eqb-true, false_from_ne_true, true≢false, decimal_is_IsNumeral, decimal_injective, same_from_push, All-same, All-nil, All-cons, All-head, All-tail, All-append, All-weaker, epoch_day, IsYear, IsYmd, date_text, date_parts, signed_arith, DateParts, date_spec, date_spec-text, Date3, has_civil_text, civil_text, raw_text, IsTextOf, IsStamp, StandsApart, BeginsWithDate, HasNoDate, IsTextOfNone, FindsDate, FindsCivil, FindsNumbers, pair, nil_from_length}
use Rattle.std.specs.Str.Parse.{AllDigits}
use Rattle.std.proofs.lemmas.Str.Parse.{digit_from_value}
use Rattle.jiff.specs.Types.{Date}
use Rattle.jiff_core.proofs.CalendarLemmas.{days_in_month_bounds}
use Rattle.jiff_core.proofs.DateLemmas.{epoch_day_same, epoch_day_injective}
use Rattle.jiff_fmt.specs.Reader.{Read}
use Rattle.jiff_fmt.specs.Text.{year_text, pad2, pad4}
use Rattle.ados_name.specs.CivilDay.{IsDaysAfterEpoch}

pub split-same : (xs ys vs ws : List ℕ) → length xs ≡ length ys → xs ++ vs ≡ ys ++ ws → (xs ≡ ys) × (vs ≡ ws)
split-same xs ys vs ws long same = (
  sym (take-append_seam xs vs) ∙ ap (take (length xs)) same ∙ ap (λ n. take n (ys ++ ws)) long ∙ take-append_seam ys ws,
  sym (drop-append_seam xs vs) ∙ ap (drop (length xs)) same ∙ ap (λ n. drop n (ys ++ ws)) long ∙ drop-append_seam ys ws,
)

-- ---- letters of a date's text

-- a letter of a word: no control character, no space
pub record IsWordLetter (c : ℕ) : Type 0 where
  pub low : 33 ≤ c
  pub high : c < 127

-- a letter of a word, or a space
pub record IsTextLetter (c : ℕ) : Type 0 where
  pub low : 32 ≤ c
  pub high : c < 127

word_letter : (c : ℕ) → 33 ≤ c → c < 127 → IsWordLetter c
word_letter c low high = record { low = low; high = high }

text_letter : (c : ℕ) → IsWordLetter c → IsTextLetter c
text_letter c is = let low = is.low in record { low = omega arith; high = is.high }

All-one : (c : ℕ) → 33 ≤ c → c < 127 → All IsWordLetter (c ∷ [])
All-one c low high = All-cons IsWordLetter c [] (word_letter c low high) (All-nil IsWordLetter)

All-pad2 : (n : ℕ) → n < 100 → All IsWordLetter (pad2 n)
All-pad2 n small = All-cons IsWordLetter (48 + n / 10) ((48 + n % 10) ∷ []) (word_letter (48 + n / 10) (omega arith) (omega arith)) (All-one (48 + n % 10) (omega arith) (omega arith))

All-pad4 : (n : ℕ) → n < 10_000 → All IsWordLetter (pad4 n)
All-pad4 n small = All-append IsWordLetter (pad2 (n / 100)) (pad2 (n % 100)) (All-pad2 (n / 100) (omega arith)) (All-pad2 (n % 100) (omega arith))

All-year_text : (y : ℤ) → IsYear y → All IsWordLetter (year_text y)
All-year_text (pos n) within = All-pad4 n (omega (arith, signed_arith, within.0, within.1))
All-year_text (negsuc n) within =
    All-append IsWordLetter (codes "-00") (pad4 (suc n))
    (All-append IsWordLetter (45 ∷ []) (codes "00") (All-one 45 (omega arith) (omega arith)) (All-pad2 0 (omega arith)))
    (All-pad4 (suc n) (omega (arith, signed_arith, within.0, within.1)))

pub All-date_text : (d : Date) → All IsWordLetter (date_text d)
All-date_text d =
    let dash = All-one 45 (omega arith) (omega arith) in
    let month : d.month < 100 = omega (arith, d.month_in.0, d.month_in.1) in
    let day : d.day < 100 = omega (arith, d.day_in.0, d.day_in.1, days_in_month_bounds d.year d.month) in
    All-append IsWordLetter (year_text d.year ++ 45 ∷ [] ++ pad2 d.month ++ 45 ∷ []) (pad2 d.day)
    (All-append IsWordLetter (year_text d.year ++ 45 ∷ [] ++ pad2 d.month) (45 ∷ [])
    (All-append IsWordLetter (year_text d.year ++ 45 ∷ []) (pad2 d.month)
    (All-append IsWordLetter (year_text d.year) (45 ∷ []) (All-year_text d.year d.year_in) dash)
    (All-pad2 d.month month))
    dash)
    (All-pad2 d.day day)

All-digits : (ds : List ℕ) → AllDigits 10 ds → All IsWordLetter ds
All-digits [] digits = All-nil IsWordLetter
All-digits (d ∷ ds) digits =
    let range = digit_from_value d digits.0 in
    All-cons IsWordLetter d ds (word_letter d (omega (arith, range.0)) (omega (arith, range.1))) (All-digits ds digits.1)

pub All-decimal : (n : ℕ) → n < 2 ^ 32 → All IsWordLetter (decimal n)
All-decimal n few = let wide : n < 2 ^ 64 = omega arith in All-digits (decimal n) (decimal_is_IsNumeral n wide).0.1

-- none of them is a space
pub no_spaces : (xs : List ℕ) → All IsWordLetter xs → All (λ c. (c == 32) ≡ false) xs
no_spaces xs word = All-weaker IsWordLetter (λ c. (c == 32) ≡ false) (λ c is. let low = is.low in false_from_ne_true (c == 32) (λ e. let same = eqb-true c 32 e in omega (arith, low, same))) xs word

-- ---- the prefix of a list up to the first element that passes a test

module _ (p : ℕ → Bool) where
  -- empty, or starting with an element that passes
  abbrev pub Stops : List ℕ → Type 0
  Stops [] = ⊤
  Stops (c ∷ more) = p c ≡ true

  abbrev Free : List ℕ → Type 0
  Free xs = All (λ c. p c ≡ false) xs

  pub split-first : (xs ys vs ws : List ℕ) → Free xs → Free ys → Stops vs → Stops ws → xs ++ vs ≡ ys ++ ws → (xs ≡ ys) × (vs ≡ ws)
  split-first [] [] vs ws fx fy sv sw same = (refl, same)
  split-first [] (y ∷ ys) [] ws fx fy sv sw same = absurd (cc)
  split-first [] (y ∷ ys) (v ∷ vs) ws fx fy sv sw same =
      let head : v ≡ y = cc in absurd (both_ways (p y) (All-head (λ c. p c ≡ false) y ys fy) (ap p (sym head) ∙ sv))
  split-first (x ∷ xs) [] vs [] fx fy sv sw same = absurd (cc)
  split-first (x ∷ xs) [] vs (w ∷ ws) fx fy sv sw same =
      let head : x ≡ w = cc in absurd (both_ways (p x) (All-head (λ c. p c ≡ false) x xs fx) (ap p head ∙ sw))
  split-first (x ∷ xs) (y ∷ ys) vs ws fx fy sv sw same =
      let head : x ≡ y = cc in
      let tail : xs ++ vs ≡ ys ++ ws = cc in
      let rest = split-first xs ys vs ws (All-tail (λ c. p c ≡ false) x xs fx) (All-tail (λ c. p c ≡ false) y ys fy) sv sw tail in
      (λ i. head i ∷ rest.0 i, rest.1)

-- ---- a text belongs to one date

split-decimal : (m n : ℕ) (vs ws : List ℕ) → m < 2 ^ 32 → n < 2 ^ 32 → decimal m ++ 32 ∷ vs ≡ decimal n ++ 32 ∷ ws → (m ≡ n) × (vs ≡ ws)
split-decimal m n vs ws few_m few_n same =
    let fm : m < 2 ^ 64 = omega arith in
    let fn : n < 2 ^ 64 = omega arith in
    let parts = split-first (λ c. c == 32) (decimal m) (decimal n) (32 ∷ vs) (32 ∷ ws) (no_spaces _ (All-decimal m few_m)) (no_spaces _ (All-decimal n few_n)) refl refl same in
    (decimal_injective m n fm fn parts.0, ap (drop 1) parts.1)

-- a text without a calendar date, and the rest after it
raw-tail : (d : Date3) (vs : List ℕ) → raw_text d ++ vs ≡ 114 ∷ (97 ∷ (119 ∷ (32 ∷ (decimal d.days ++ 32 ∷ (decimal d.minutes ++ 32 ∷ (decimal d.ticks ++ vs))))))
raw-tail d vs = simp append_assoc refl

raw-same : (d e : Date3) (vs ws : List ℕ) → IsStamp d → IsStamp e → raw_text d ++ 32 ∷ vs ≡ raw_text e ++ 32 ∷ ws → (d ≡ e) × (vs ≡ ws)
raw-same d e vs ws of_d of_e same =
    let shapes = sym (raw-tail d (32 ∷ vs)) ∙ same ∙ raw-tail e (32 ∷ ws) in
    let numbers : decimal d.days ++ 32 ∷ (decimal d.minutes ++ 32 ∷ (decimal d.ticks ++ 32 ∷ vs)) ≡ decimal e.days ++ 32 ∷ (decimal e.minutes ++ 32 ∷ (decimal e.ticks ++ 32 ∷ ws)) = ap (drop 4) shapes in
    let days = split-decimal d.days e.days _ _ of_d.days of_e.days numbers in
    let minutes = split-decimal d.minutes e.minutes _ _ of_d.minutes of_e.minutes days.1 in
    let ticks = split-decimal d.ticks e.ticks _ _ of_d.ticks of_e.ticks minutes.1 in
    (λ i. record { days = days.0 i; minutes = minutes.0 i; ticks = ticks.0 i }, ticks.1)

-- the rest after the day
abbrev pub time : ℕ → ℕ → List ℕ → List ℕ
time minutes ticks rest = codes " " ++ (pad2 (minutes / 60) ++ (codes ":" ++ (pad2 (minutes % 60) ++ (codes ":" ++ (pad2 (ticks / 50) ++ (codes "." ++ (pad2 (2 * (ticks % 50)) ++ rest)))))))

pad2-same : (a b : ℕ) (vs ws : List ℕ) → pad2 a ++ vs ≡ pad2 b ++ ws → (a ≡ b) × (vs ≡ ws)
pad2-same a b vs ws same =
    let parts = split-same (pad2 a) (pad2 b) vs ws refl same in
    let tens : 48 + a / 10 ≡ 48 + b / 10 = cc in
    let ones : 48 + a % 10 ≡ 48 + b % 10 = cc in
    (omega (arith, tens, ones), parts.1)

time-same : (m n t u : ℕ) (vs ws : List ℕ) → time m t vs ≡ time n u ws → (m ≡ n) × (t ≡ u) × (vs ≡ ws)
time-same m n t u vs ws same =
    let hours = pad2-same (m / 60) (n / 60) _ _ (ap (drop 1) same) in
    let minutes = pad2-same (m % 60) (n % 60) _ _ (ap (drop 1) hours.1) in
    let seconds = pad2-same (t / 50) (u / 50) _ _ (ap (drop 1) minutes.1) in
    let hundredths = pad2-same (2 * (t % 50)) (2 * (u % 50)) vs ws (ap (drop 1) seconds.1) in
    (omega (arith, hours.0, minutes.0), omega (arith, seconds.0, hundredths.0), hundredths.1)

pub civil-shape : (date : Date) (minutes ticks : ℕ) (rest : List ℕ) → civil_text date minutes ticks ++ rest ≡ date_text date ++ time minutes ticks rest
civil-shape date minutes ticks rest = simp append_assoc refl

civil-same : (date other : Date) (m n t u : ℕ) (vs ws : List ℕ) → civil_text date m t ++ vs ≡ civil_text other n u ++ ws
    → (epoch_day date ≡ epoch_day other) × ((m ≡ n) × (t ≡ u) × (vs ≡ ws))
civil-same date other m n t u vs ws same =
    let shapes = sym (civil-shape date m t vs) ∙ same ∙ civil-shape other n u ws in
    let read = sym (date_spec-text date (time m t vs)) ∙ ap date_spec shapes ∙ date_spec-text other (time n u ws) in
    let parts = ap (λ (r : Read DateParts). result_unwrap_or r (date_parts date, [])) read in (
      epoch_day_same date other (ap (λ (p : DateParts × List ℕ). p.0.year) parts) (ap (λ (p : DateParts × List ℕ). p.0.month) parts) (ap (λ (p : DateParts × List ℕ). p.0.day) parts),
      time-same m n t u vs ws (ap (λ (p : DateParts × List ℕ). p.1) parts),
    )

same-epoch : (first epoch : Date) → IsYmd (pos 1978) (pos 1) (pos 1) first → IsYmd (pos 1978) (pos 1) (pos 1) epoch → epoch_day first ≡ epoch_day epoch
same-epoch first epoch is of =
    let month : first.month ≡ epoch.month = omega (arith, signed_arith, is.1, of.1) in
    let day : first.day ≡ epoch.day = omega (arith, signed_arith, is.2, of.2) in
    epoch_day_same first epoch (is.0 ∙ sym of.0) month day

days-same : (m n : ℕ) (date other : Date) → IsDaysAfterEpoch m date → IsDaysAfterEpoch n other → epoch_day date ≡ epoch_day other → m ≡ n
days-same m n date other of_date of_other same =
    let starts = same-epoch of_date.epoch of_other.epoch of_date.epoch_is of_other.epoch_is in
    let first = of_date.number in
    let second = of_other.number in
    omega (arith, signed_arith, first, second, starts, same)

-- a year does not start with `raw`
pub not_raw : (year : ℤ) (rest others : List ℕ) → IsYear year → year_text year ++ rest ≡ 114 ∷ others → ⊥
not_raw (pos n) rest others within same =
    let head : 48 + n / 100 / 10 ≡ 114 = cc in
    let small : n < 10_000 = omega (arith, signed_arith, within.0, within.1) in
    omega (arith, head, small)
not_raw (negsuc n) rest others within same = let head : ◌≡◌ {A = ℕ} 45 114 = cc in omega (arith, head)

civil-raw : (date : Date) (m t : ℕ) (vs others : List ℕ) → civil_text date m t ++ vs ≡ 114 ∷ others → ⊥
civil-raw date m t vs others same =
    let year : year_text date.year ++ (45 ∷ (pad2 date.month ++ (45 ∷ (pad2 date.day ++ time m t vs)))) ≡ civil_text date m t ++ vs = simp append_assoc refl in
    not_raw date.year _ _ date.year_in (year ∙ same)

-- the day and time of a text
abbrev pub Civil : Date3 → List ℕ → Type 0
Civil d x = (date : Date) × IsDaysAfterEpoch d.days date × (x ≡ civil_text date d.minutes d.ticks)

module _ (d e : Date3) (x y vs ws : List ℕ) (of_d : IsStamp d) (of_e : IsStamp e) (same : x ++ 32 ∷ vs ≡ y ++ 32 ∷ ws) where
  dates-by : (b c : Bool) → MatchBool b (Civil d x) (x ≡ raw_text d) → MatchBool c (Civil e y) (y ≡ raw_text e) → (d ≡ e) × (vs ≡ ws)
  dates-by true true first second =
      let parts = civil-same first.0 second.0 d.minutes e.minutes d.ticks e.ticks (32 ∷ vs) (32 ∷ ws) (sym (ap (λ z. z ++ 32 ∷ vs) first.2) ∙ same ∙ ap (λ z. z ++ 32 ∷ ws) second.2) in
      let days = days-same d.days e.days first.0 second.0 first.1 second.1 parts.0 in
      (λ i. record { days = days i; minutes = parts.1.0 i; ticks = parts.1.1 i }, ap (drop 1) parts.1.2)
  dates-by true false first second =
      absurd (civil-raw first.0 d.minutes d.ticks (32 ∷ vs) _ (sym (ap (λ z. z ++ 32 ∷ vs) first.2) ∙ same ∙ ap (λ z. z ++ 32 ∷ ws) second ∙ raw-tail e (32 ∷ ws)))
  dates-by false true first second =
      absurd (civil-raw second.0 e.minutes e.ticks (32 ∷ ws) _ (sym (ap (λ z. z ++ 32 ∷ ws) second.2) ∙ sym same ∙ ap (λ z. z ++ 32 ∷ vs) first ∙ raw-tail d (32 ∷ vs)))
  dates-by false false first second =
      raw-same d e vs ws of_d of_e (sym (ap (λ z. z ++ 32 ∷ vs) first) ∙ same ∙ ap (λ z. z ++ 32 ∷ ws) second)

  pub dates-same : IsTextOf d x → IsTextOf e y → (d ≡ e) × (vs ≡ ws)
  dates-same = dates-by (has_civil_text d) (has_civil_text e)

-- a rest that stands apart stops at a space
pub apart-stops : (xs : List ℕ) → StandsApart xs → Stops (λ c. c == 32) xs
apart-stops [] is = tt
apart-stops (c ∷ more) is = ap (λ x. x == 32) is

-- ---- the whole text of a date

text_letters : (xs : List ℕ) → All IsWordLetter xs → All IsTextLetter xs
text_letters xs word = All-weaker IsWordLetter IsTextLetter text_letter xs word

-- a word, a letter and the rest
All-then : (xs : List ℕ) (c : ℕ) (ys : List ℕ) → All IsWordLetter xs → 32 ≤ c → c < 127 → All IsTextLetter ys → All IsTextLetter (xs ++ c ∷ ys)
All-then xs c ys word low high rest =
    All-append IsTextLetter xs (c ∷ ys) (text_letters xs word) (All-cons IsTextLetter c ys (record { low = low; high = high }) rest)

All-civil_text : (date : Date) (m t : ℕ) → m < 1440 → t < 3000 → All IsTextLetter (civil_text date m t)
All-civil_text date m t few_minutes few_ticks =
    let hundredths = pad2 (2 * (t % 50)) in
    let seconds = pad2 (t / 50) ++ 46 ∷ hundredths in
    let minutes = pad2 (m % 60) ++ 58 ∷ seconds in
    let hours = pad2 (m / 60) ++ 58 ∷ minutes in
    let of_hundredths = text_letters hundredths (All-pad2 (2 * (t % 50)) (omega arith)) in
    let of_seconds = All-then (pad2 (t / 50)) 46 hundredths (All-pad2 (t / 50) (omega arith)) (omega arith) (omega arith) of_hundredths in
    let of_minutes = All-then (pad2 (m % 60)) 58 seconds (All-pad2 (m % 60) (omega arith)) (omega arith) (omega arith) of_seconds in
    let of_hours = All-then (pad2 (m / 60)) 58 minutes (All-pad2 (m / 60) (omega arith)) (omega arith) (omega arith) of_minutes in
    let shape : civil_text date m t ≡ date_text date ++ 32 ∷ hours = simp append_assoc refl in
    All-same IsTextLetter (civil_text date m t) (date_text date ++ 32 ∷ hours) shape
    (All-then (date_text date) 32 hours (All-date_text date) (omega arith) (omega arith) of_hours)

All-raw_text : (d : Date3) → IsStamp d → All IsTextLetter (raw_text d)
All-raw_text d stamp =
    let ticks = text_letters (decimal d.ticks) (All-decimal d.ticks stamp.ticks) in
    let minutes = All-then (decimal d.minutes) 32 (decimal d.ticks) (All-decimal d.minutes stamp.minutes) (omega arith) (omega arith) ticks in
    let numbers = decimal d.days ++ 32 ∷ (decimal d.minutes ++ 32 ∷ decimal d.ticks) in
    let of_numbers = All-then (decimal d.days) 32 (decimal d.minutes ++ 32 ∷ decimal d.ticks) (All-decimal d.days stamp.days) (omega arith) (omega arith) minutes in
    let raw = All-cons IsWordLetter 114 (97 ∷ 119 ∷ []) (word_letter 114 (omega arith) (omega arith))
    (All-cons IsWordLetter 97 (119 ∷ []) (word_letter 97 (omega arith) (omega arith)) (All-one 119 (omega arith) (omega arith))) in
    let shape : raw_text d ≡ codes "raw" ++ 32 ∷ numbers = simp append_assoc refl in
    All-same IsTextLetter (raw_text d) (codes "raw" ++ 32 ∷ numbers) shape (All-then (codes "raw") 32 numbers raw (omega arith) (omega arith) of_numbers)

pub All-date : (d : Date3) (x : List ℕ) → IsStamp d → IsTextOf d x → All IsTextLetter x
All-date d x stamp is = by (has_civil_text d) refl is
  where
    by : (b : Bool) → has_civil_text d ≡ b → MatchBool b (Civil d x) (x ≡ raw_text d) → All IsTextLetter x
    by true civil of =
        let hours = and_parts (nat_le d.days 2_929_974 && nat_lt d.minutes 1_440) (nat_lt d.ticks 3_000) civil in
        let days = and_parts (nat_le d.days 2_929_974) (nat_lt d.minutes 1_440) hours.0 in
        All-same IsTextLetter x _ of.2 (All-civil_text of.0 d.minutes d.ticks (ltb-true d.minutes 1440 days.1) (ltb-true d.ticks 3000 hours.1))
    by false civil of = All-same IsTextLetter x _ of (All-raw_text d stamp)

-- ---- a text starts with one date

apart-shape : (x : List ℕ) → StandsApart x → (v : List ℕ) × (x ++ 32 ∷ [] ≡ 32 ∷ v)
apart-shape [] is = ([], refl)
apart-shape (c ∷ more) is = (more ++ 32 ∷ [], λ i. is i ∷ (more ++ 32 ∷ []))

spaced : (text shown x v : List ℕ) → text ≡ shown ++ x → x ++ 32 ∷ [] ≡ 32 ∷ v → text ++ 32 ∷ [] ≡ shown ++ 32 ∷ v
spaced text shown x v stands shape = ap (λ z. z ++ 32 ∷ []) stands ∙ append_assoc shown x (32 ∷ []) ∙ ap (λ z. shown ++ z) shape

pub begins-same : (text : List ℕ) (d e : Date3) (x y : List ℕ) → IsStamp d → IsStamp e → BeginsWithDate text d x → BeginsWithDate text e y → (d ≡ e) × (x ≡ y)
begins-same text d e x y of_d of_e first second =
    let v = apart-shape x first.apart in
    let w = apart-shape y second.apart in
    let same = dates-same d e first.shown second.shown v.0 w.0 of_d of_e (sym (spaced text first.shown x v.0 first.stands v.1) ∙ spaced text second.shown y w.0 second.stands w.1) first.dated second.dated in
    (same.0, (same_from_push x y 32 32 (v.1 ∙ ap (λ z. 32 ∷ z) same.1 ∙ sym w.1)).0)

-- ---- a text that is that of a date, or of none

pub none-in : {A : Type 0} (o : Option A) (P : Type 0) (Q : A → Type 0) → o ≡ None → MatchOption o P Q → P
none-in None P Q is holds = holds
none-in (Some x) P Q is holds = absurd (cc)

pub some-in : {A : Type 0} (o : Option A) (x : A) (P : Type 0) (Q : A → Type 0) → o ≡ Some x → MatchOption o P Q → Q x
some-in {A} o x P Q is holds = subst (λ (v : Option A). MatchOption v P Q) is holds

nothing-behind : (text : List ℕ) (date : Date3) → IsTextOf date text → BeginsWithDate text date []
nothing-behind text date is = record { shown = text; dated = is; stands = sym (append-nil text); apart = tt }

pub alone-dated : (text behind : List ℕ) (date : Date3) → BeginsWithDate text date behind → behind ≡ [] → IsTextOf date text
alone-dated text behind date begins is =
    subst (λ (x : List ℕ). IsTextOf date x) (sym (begins.stands ∙ ap (λ (x : List ℕ). begins.shown ++ x) is ∙ append-nil begins.shown)) begins.dated

pub no-length : (xs : List ℕ) (empty : Bool) → empty ≡ (length xs == 0) → empty ≡ true → xs ≡ []
no-length xs empty is none = nil_from_length xs (eqb-true (length xs) 0 (sym is ∙ none))

pub has-length : (xs : List ℕ) (empty : Bool) → empty ≡ (length xs == 0) → empty ≡ false → xs ≢ []
has-length xs empty is some e = true≢false (sym (is ∙ ap (λ (l : List ℕ). length l == 0) e) ∙ some)

pub none-alone : (text behind : List ℕ) (date : Date3) → IsStamp date → BeginsWithDate text date behind → behind ≢ [] → IsTextOfNone text
none-alone text behind date stamp begins more other of_other is =
    more ((begins-same text date other behind [] stamp of_other begins (nothing-behind text other is)).1)

pub none-dated : (text : List ℕ) → HasNoDate text → IsTextOfNone text
none-dated text none date stamp is = none date [] stamp (nothing-behind text date is)

-- ---- words of a text

pub word-found : (text word rest x behind : List ℕ) → text ≡ word ++ rest → All (λ c. (c == 32) ≡ false) word → StandsApart rest → All IsWordLetter x → StandsApart behind
    → text ≡ x ++ behind → (word ≡ x) × (rest ≡ behind)
word-found text word rest x behind whole plain apart of_word apart_too is =
    split-first (λ c. c == 32) word x rest behind plain (no_spaces x of_word) (apart-stops rest apart) (apart-stops behind apart_too) (sym whole ∙ is)

-- ---- the day of a text

pub day-number : (first day civil : Date) (days : ℕ) → IsYmd (pos 1978) (pos 1) (pos 1) first → date_parts day ≡ date_parts civil → IsDaysAfterEpoch days civil
    → epoch_day day -ℤ epoch_day first ≡ pos days
day-number first day civil days is parts of =
    let same = epoch_day_same day civil (ap (λ (p : DateParts). p.year) parts) (ap (λ (p : DateParts). p.month) parts) (ap (λ (p : DateParts). p.day) parts) in
    let starts = same-epoch first of.epoch is of.epoch_is in
    let number = of.number in
    omega (arith, signed_arith, same, starts, number)

-- ---- a date has one text

day-text : (a b : Date) → epoch_day a ≡ epoch_day b → date_text a ≡ date_text b
day-text a b same =
    let parts = epoch_day_injective a b same in
    λ i. year_text (parts.0 i) ++ 45 ∷ [] ++ pad2 (parts.1 i) ++ 45 ∷ [] ++ pad2 (parts.2 i)

same-days : (days : ℕ) (a b : Date) → IsDaysAfterEpoch days a → IsDaysAfterEpoch days b → epoch_day a ≡ epoch_day b
same-days days a b first second =
    let starts = same-epoch first.epoch second.epoch first.epoch_is second.epoch_is in
    first.number ∙ ap (λ z. z +ℤ pos days) starts ∙ sym second.number

text-same : (d : Date3) (x y : List ℕ) → IsTextOf d x → IsTextOf d y → x ≡ y
text-same d x y = by (has_civil_text d)
  where
    by : (b : Bool) → MatchBool b (Civil d x) (x ≡ raw_text d) → MatchBool b (Civil d y) (y ≡ raw_text d) → x ≡ y
    by true first second =
        let day = day-text first.0 second.0 (same-days d.days first.0 second.0 first.1 second.1) in
        first.2 ∙ ap (λ z. z ++ codes " " ++ pad2 (d.minutes / 60) ++ codes ":" ++ pad2 (d.minutes % 60) ++ codes ":" ++ pad2 (d.ticks / 50) ++ codes "." ++ pad2 (2 * (d.ticks % 50))) day ∙ sym second.2
    by false first second = first ∙ sym second

pub no-date : (text shown : List ℕ) (date : Date3) → ((behind : List ℕ) → StandsApart behind → text ≡ shown ++ behind → ⊥) → IsTextOf date shown → FindsDate text (Some date) → HasNoDate text
no-date text shown date none dated finds = λ d behind stamp begins.
    let found : ◌≡◌ {A = Option Date3} (Some date) (Some d) = finds d behind stamp begins in
    let same : date ≡ d = cc in
    none behind begins.apart (begins.stands ∙ ap (λ x. x ++ behind) (text-same d begins.shown shown begins.dated (subst (λ x. IsTextOf x shown) same dated)))

-- ---- the parts of a date, as the reader finds them

pub finds-raw : (text numbers : List ℕ) (found : Option Date3) → text ≡ codes "raw" ++ numbers → FindsNumbers numbers found → FindsDate text found
finds-raw text numbers found whole finds date behind stamp begins = by (has_civil_text date) begins.dated
  where
    by : (b : Bool) → MatchBool b (Civil date begins.shown) (begins.shown ≡ raw_text date) → found ≡ Some date
    by true of = absurd (civil-raw of.0 date.minutes date.ticks behind (97 ∷ 119 ∷ numbers) (sym (ap (λ x. x ++ behind) of.2) ∙ sym begins.stands ∙ whole))
    by false of = finds date behind stamp begins.apart (ap (drop 3) (sym whole ∙ begins.stands ∙ ap (λ x. x ++ behind) of ∙ raw-tail date behind))

pub finds-civil : (text : List ℕ) (found : Option Date3) → ((rest : List ℕ) → text ≡ codes "raw" ++ rest → ⊥) → FindsCivil text found → FindsDate text found
finds-civil text found none finds date behind stamp begins = by (has_civil_text date) refl begins.dated
  where
    by : (b : Bool) → has_civil_text date ≡ b → MatchBool b (Civil date begins.shown) (begins.shown ≡ raw_text date) → found ≡ Some date
    by true civil of =
        let hours = and_parts (nat_le date.days 2_929_974 && nat_lt date.minutes 1_440) (nat_lt date.ticks 3_000) civil in
        let days = and_parts (nat_le date.days 2_929_974) (nat_lt date.minutes 1_440) hours.0 in
        finds date of.0 behind stamp of.1 (ltb-true date.minutes 1440 days.1) (ltb-true date.ticks 3000 hours.1) (begins.stands ∙ ap (λ x. x ++ behind) of.2)
    by false civil of = absurd (none _ (begins.stands ∙ ap (λ x. x ++ behind) of ∙ raw-tail date behind))

-- the day and the time of a calendar text
pub civil-parts : (text word rest : List ℕ) (civil : Date) (m t : ℕ) (behind : List ℕ) → text ≡ word ++ rest → All (λ c. (c == 32) ≡ false) word → StandsApart rest
    → text ≡ civil_text civil m t ++ behind → (word ≡ date_text civil) × (rest ≡ time m t behind)
civil-parts text word rest civil m t behind whole plain apart is =
    word-found text word rest (date_text civil) (time m t behind) whole plain apart (All-date_text civil) refl (is ∙ civil-shape civil m t behind)

pub length-time : (m t : ℕ) (behind : List ℕ) → length (time m t behind) ≡ 12 + length behind
length-time m t behind = omega arith

pub pair-digits : (n : ℕ) → n < 100 → pair (48 + n / 10) (48 + n % 10) ≡ n
pair-digits n small = omega arith

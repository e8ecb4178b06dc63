-- Fields at the start of bytes.
use Rattle.adf_script.proofs.Common.{◌≡◌, ◌≢◌, ◌≤◌, ◌<◌, inl, inr, ℕ, ℤ, true, false, List, [], ◌∷◌, ◌++◌, length, replicate, Option, refl, sym, ap, subst, ◌∙◌, arith, append_assoc, ◌||◌, AllDigits, digit_from_value, eqb_tells, append-nil, length-replicate, has_byte, IsBehind, IsCut, IsNumber, IsSigned, IsValue, Field, Value, Number, Signed, Text, LongText, Zeros, SpellsField, SpellsFields}
use Rattle.std.specs.Prelude.{Some, None, MatchOption, MatchResult, Result, Ok, Err, IsErr, is_some, map}
use Rattle.std.proofs.lemmas.Bool.{le-leb, leb-true}
use Rattle.adf_script.specs.declared.forms.NumberKind.{NumberKind}
use Rattle.adf_script.specs.declared.forms.TextKind.{TextKind}
use Rattle.adf_script.specs.declared.forms.TextKind.TheVariants as text
use Rattle.adf_script.specs.declared.forms.FieldKind.{FieldKind}
use Rattle.adf_script.specs.declared.forms.FieldKind.TheVariants as kind
use Rattle.adf_script.specs.declared.forms.NumberKind.TheVariants as number
use Rattle.adf_script.specs.declared.fields.FieldValue.{FieldValue}
use Rattle.adf_script.specs.steps.Reading.{SpellsNoNumber, SpellsNone, ReadsNone, Reads, ReadsValue, field_of, fields_by, kind_of, text_fits}
use Rattle.adf_script.proofs.Splitting.{split_unique, true_is_false, has_byte-split}

-- numbers have no space
other_byte : (c : ℕ) (cs : List ℕ) → 32 < c → has_byte 32 cs ≡ false → has_byte 32 (c ∷ cs) ≡ false
other_byte c cs above none = elim (eqb_tells c 32) [
  | inl w ↦ absurd (omega (arith, w.1, above))
  | inr w ↦ ap (λ b. b || has_byte 32 cs) w.0 ∙ none
]

digits_plain : (ds : List ℕ) → AllDigits 10 ds → has_byte 32 ds ≡ false
digits_plain [] all = refl
digits_plain (c ∷ cs) all = other_byte c cs (omega (arith, digit_from_value c all.0)) (digits_plain cs all.1)

pub number_plain : (n : ℕ) (bytes : List ℕ) → IsNumber n bytes → has_byte 32 bytes ≡ false
number_plain n bytes s = digits_plain bytes s.0.1

pub signed_plain : (z : ℤ) (bytes : List ℕ) → IsSigned z bytes → has_byte 32 bytes ≡ false
signed_plain z bytes s = elim s [
  | inl w ↦ number_plain w.0 bytes w.1
  | inr w ↦ ap (has_byte 32) w.2 ∙ other_byte 45 w.1 (omega arith) (number_plain w.0 w.1 w.3)
]

pub value_plain : (values : List (Option ℕ)) (n : ℕ) (bytes : List ℕ) → IsValue values n bytes → has_byte 32 bytes ≡ false
value_plain values n bytes s = elim s [
  | inl w ↦ number_plain n bytes w
  | inr w ↦ ap (has_byte 32) w.2 ∙ other_byte 36 w.1 (omega arith) (number_plain w.0 w.1 w.3)
]

-- bytes are cut in only one way
pub cut_unique : (a c b d : List ℕ) → has_byte 32 a ≡ false → has_byte 32 c ≡ false → IsBehind b → IsBehind d → a ++ b ≡ c ++ d → (a ≡ c) × (b ≡ d)
cut_unique a c [] [] no_a no_c at_b at_d e = (sym (append-nil a) ∙ e ∙ append-nil c, refl)
cut_unique a c [] (y ∷ ys) no_a no_c at_b at_d e =
    true_is_false (has_byte 32 a) (ap (has_byte 32) (sym (append-nil a) ∙ e ∙ ap (λ z. c ++ z ∷ ys) at_d) ∙ has_byte-split 32 c ys) no_a
cut_unique a c (x ∷ xs) [] no_a no_c at_b at_d e =
    true_is_false (has_byte 32 c) (ap (has_byte 32) (sym (append-nil c) ∙ sym e ∙ ap (λ z. a ++ z ∷ xs) at_b) ∙ has_byte-split 32 a xs) no_c
cut_unique a c (x ∷ xs) (y ∷ ys) no_a no_c at_b at_d e =
    let same = split_unique 32 a c xs ys no_a no_c (sym (ap (λ z. a ++ z ∷ xs) at_b) ∙ e ∙ ap (λ z. c ++ z ∷ ys) at_d)
    in (same.0, λ i. (at_b ∙ sym at_d) i ∷ same.1 i)

-- the bytes after a field
pub behind_fields : (values : List (Option ℕ)) (fields : List Field) (bytes : List ℕ) → SpellsFields values fields bytes → IsBehind bytes
behind_fields values [] bytes s = subst IsBehind (sym s) tt
behind_fields values (field ∷ fields) bytes s = subst IsBehind (sym s.2) refl

-- a number has no space
field_plain : (values : List (Option ℕ)) (k : NumberKind) (field : Field) (bytes : List ℕ) → kind_of field ≡ kind.Number k → SpellsField values field bytes → has_byte 32 bytes ≡ false
field_plain values k (Value n) bytes is s = value_plain values n bytes s
field_plain values k (Number n) bytes is s = number_plain n bytes s
field_plain values k (Signed z) bytes is s = signed_plain z bytes s
field_plain values k (Zeros buffer) bytes is s = number_plain (length buffer) bytes s.0
field_plain values k (Text t) bytes is s = cc
field_plain values k (LongText t) bytes is s = cc

same_number : (a b : NumberKind) → kind.Number a ≡ kind.Number b → a ≡ b
same_number a b e = cc

-- bytes that are no number of a kind are no field of it
no_field : (values : List (Option ℕ)) (k : NumberKind) (bytes : List ℕ) → SpellsNoNumber values k bytes → (field : Field) → kind_of field ≡ kind.Number k → SpellsField values field bytes → ⊥
no_field values k bytes none (Value n) is s = subst (λ l. SpellsNoNumber values l bytes) (sym (same_number number.Value k is)) none n s
no_field values k bytes none (Number n) is s = subst (λ l. SpellsNoNumber values l bytes) (sym (same_number number.Unsigned k is)) none n s
no_field values k bytes none (Signed z) is s = subst (λ l. SpellsNoNumber values l bytes) (sym (same_number number.Signed k is)) none z s
no_field values k bytes none (Zeros buffer) is s = subst (λ l. SpellsNoNumber values l bytes) (sym (same_number number.Count k is)) none (length buffer) s.1 s.0
no_field values k bytes none (Text t) is s = cc
no_field values k bytes none (LongText t) is s = cc

module _ (values : List (Option ℕ)) (k : NumberKind) (rest line front behind : List ℕ) (e : rest ≡ 32 ∷ line) (is_cut : IsCut line front behind) where
  unique : (field : Field) (fields : List Field) → kind_of field ≡ kind.Number k → (s : SpellsFields values (field ∷ fields) rest) → (s.0 ≡ front) × (s.1 ≡ behind)
  unique field fields is s =
      let both : 32 ∷ (s.0 ++ s.1) ≡ 32 ∷ line = sym s.2 ∙ e
      in let lines : s.0 ++ s.1 ≡ line = cc
      in cut_unique s.0 front s.1 behind (field_plain values k field s.0 is s.3) is_cut.plain (behind_fields values fields s.1 s.4) is_cut.ended (lines ∙ is_cut.whole)

  number_none : SpellsNoNumber values k front → ReadsNone values (kind.Number k) rest
  number_none none field fields is s = no_field values k front none field is (subst (SpellsField values field) (unique field fields is s).0 s.3)

  -- the result of the search for a number
  pub number_read : (found : Option FieldValue) → MatchOption found (SpellsNoNumber values k front) (λ v. SpellsField values (field_of (kind.Number k) v) front)
      → ReadsValue values (kind.Number k) rest found behind
  number_read None none = number_none none
  number_read (Some v) spelled = record {
    spells = λ fields s. (front, behind, e ∙ ap (λ l. 32 ∷ l) is_cut.whole, spelled, s);
    goes_on = λ other fields is s. subst (SpellsFields values fields) (unique other fields is s).1 s.4;
  }

  pub number_stop : (found : Option FieldValue) → is_some found ≡ false → MatchOption found (SpellsNoNumber values k front) (λ v. SpellsField values (field_of (kind.Number k) v) front)
      → ReadsNone values (kind.Number k) rest
  number_stop None is none = number_none none
  number_stop (Some v) is spelled = cc

same_text : (a b : TextKind) → kind.Text a ≡ kind.Text b → a ≡ b
same_text a b e = cc

-- a text is in quotes, and short enough
in_quotes : (values : List (Option ℕ)) (k : TextKind) (field : Field) (bytes : List ℕ) → kind_of field ≡ kind.Text k → SpellsField values field bytes
    → (t : List ℕ) × (bytes ≡ 34 ∷ t ++ 34 ∷ []) × (has_byte 34 t ≡ false) × (text_fits k t ≡ true)
in_quotes values k (Text t) bytes is s = (t, s.0.0, s.0.1, subst (λ l. text_fits l t ≡ true) (same_text text.Short k is) (le-leb (length t) 255 s.1))
in_quotes values k (LongText t) bytes is s = (t, s.0, s.1, subst (λ l. text_fits l t ≡ true) (same_text text.Long k is) refl)
in_quotes values k (Value n) bytes is s = cc
in_quotes values k (Number n) bytes is s = cc
in_quotes values k (Signed z) bytes is s = cc
in_quotes values k (Zeros buffer) bytes is s = cc

text_spelled : (values : List (Option ℕ)) (k : TextKind) (v : FieldValue) → has_byte 34 v.text.now ≡ false → text_fits k v.text.now ≡ true
    → SpellsField values (field_of (kind.Text k) v) (34 ∷ v.text.now ++ 34 ∷ [])
text_spelled values text.Short v plain fits = ((refl, plain), leb-true (length v.text.now) 255 fits)
text_spelled values text.Long v plain fits = (refl, plain)

module _ (values : List (Option ℕ)) (k : TextKind) (rest line : List ℕ) (e : rest ≡ 32 ∷ line) where
  quotes : (field : Field) (fields : List Field) → kind_of field ≡ kind.Text k → (s : SpellsFields values (field ∷ fields) rest)
      → (t : List ℕ) × (line ≡ 34 ∷ t ++ 34 ∷ s.1) × (has_byte 34 t ≡ false) × (text_fits k t ≡ true)
  quotes field fields is s =
      let q = in_quotes values k field s.0 is s.3
      in let both : 32 ∷ line ≡ 32 ∷ (34 ∷ q.0 ++ 34 ∷ s.1) = sym e ∙ s.2 ∙ ap (λ l. 32 ∷ (l ++ s.1)) q.1 ∙ ap (λ l. 32 ∷ (34 ∷ l)) (append_assoc q.0 (34 ∷ []) s.1)
      in let whole : line ≡ 34 ∷ q.0 ++ 34 ∷ s.1 = cc
      in (q.0, whole, q.2, q.3)

  module _ (v : FieldValue) (behind : List ℕ) (here : line ≡ 34 ∷ v.text.now ++ 34 ∷ behind) (plain : has_byte 34 v.text.now ≡ false) where
    same : (field : Field) (fields : List Field) → kind_of field ≡ kind.Text k → (s : SpellsFields values (field ∷ fields) rest) → (s.1 ≡ behind) × (text_fits k v.text.now ≡ true)
    same field fields is s =
        let q = quotes field fields is s
        in let both : 34 ∷ q.0 ++ 34 ∷ s.1 ≡ 34 ∷ v.text.now ++ 34 ∷ behind = sym q.1 ∙ here
        in let lines : q.0 ++ 34 ∷ s.1 ≡ v.text.now ++ 34 ∷ behind = cc
        in let parts = split_unique 34 q.0 v.text.now s.1 behind q.2 plain lines
        in (parts.1, subst (λ t. text_fits k t ≡ true) parts.0 q.3)

    pub text_too_long : text_fits k v.text.now ≡ false → ReadsNone values (kind.Text k) rest
    text_too_long long field fields is s = true_is_false (text_fits k v.text.now) (same field fields is s).1 long

    pub text_read : text_fits k v.text.now ≡ true → Reads values (kind.Text k) rest (field_of (kind.Text k) v) behind
    text_read fits = record {
      spells = λ fields s. (
        34 ∷ v.text.now ++ 34 ∷ [],
        behind,
        e ∙ ap (λ l. 32 ∷ l) here ∙ ap (λ l. 32 ∷ (34 ∷ l)) (sym (append_assoc v.text.now (34 ∷ []) behind)),
        text_spelled values k v plain fits,
        s,
      );
      goes_on = λ other fields is s. subst (SpellsFields values fields) (same other fields is s).0 s.4;
    }

-- values beyond the kinds make no fields
fields_front : (kinds : List FieldKind) (vs more : List FieldValue) → length kinds ≤ length vs → fields_by kinds (vs ++ more) ≡ fields_by kinds vs
fields_front [] vs more fit = refl
fields_front (k ∷ ks) [] more fit = absurd (omega (arith, fit))
fields_front (k ∷ ks) (v ∷ vs) more fit = ap (λ l. field_of k v ∷ l) (fields_front ks vs more (omega (arith, fit)))

-- a reader that stops
pub stopped : {T E Q : Type 0} (P : T → Type 0) (r : Result T E) → IsErr r → Q → MatchResult r P (λ e. Q)
stopped P (Ok x) fails q = cc
stopped P (Err e) fails q = q

module _ (values : List (Option ℕ)) (k : FieldKind) (kinds : List FieldKind) (rest : List ℕ) where
  pub stops_here : ReadsNone values k rest → SpellsNone values (k ∷ kinds) rest
  stops_here none [] is s = cc
  stops_here none (field ∷ fields) is s =
      let first : kind_of field ≡ k = cc
      in none field fields first s

  pub stops_later : (found : Option FieldValue) (behind : List ℕ) → ReadsValue values k rest found behind → SpellsNone values kinds behind → SpellsNone values (k ∷ kinds) rest
  stops_later None behind none later fields is s = stops_here none fields is s
  stops_later (Some v) behind reads later [] is s = cc
  stops_later (Some v) behind reads later (field ∷ fields) is s =
      let first : kind_of field ≡ k = cc
      in let others : map kind_of fields ≡ kinds = cc
      in later fields others (reads.goes_on field fields first s)

  pub reads_on : (v a b c d e : FieldValue) (behind : List ℕ) → Reads values k rest (field_of k v) behind → length kinds ≤ 4
      → SpellsFields values (fields_by kinds (a ∷ b ∷ c ∷ d ∷ e ∷ [])) behind → SpellsFields values (fields_by (k ∷ kinds) (v ∷ a ∷ b ∷ c ∷ d ∷ [])) rest
  reads_on v a b c d e behind reads few s =
      reads.spells (fields_by kinds (a ∷ b ∷ c ∷ d ∷ [])) (subst (λ l. SpellsFields values l behind) (fields_front kinds (a ∷ b ∷ c ∷ d ∷ []) (e ∷ []) few) s)

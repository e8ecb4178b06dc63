-- Fields by their kinds, and fields at the start of bytes.
use Rattle.std.specs.Prelude.{◌≡◌, ◌≤◌, ℕ, ℤ, Bool, true, nat_le, List, [], ◌∷◌, length, map, replicate, Option, MatchOption}
use Rattle.adf_script.specs.Grammar.{Field, Value, Number, Signed, Text, LongText, Zeros, IsNumber, IsSigned, IsValue, SpellsFields}
use Rattle.adf_script.specs.declared.forms.NumberKind.{NumberKind}
use Rattle.adf_script.specs.declared.forms.NumberKind.TheVariants as number
use Rattle.adf_script.specs.declared.forms.TextKind.{TextKind}
use Rattle.adf_script.specs.declared.forms.TextKind.TheVariants as text
use Rattle.adf_script.specs.declared.forms.FieldKind.{FieldKind}
use Rattle.adf_script.specs.declared.forms.FieldKind.TheVariants as kind
use Rattle.adf_script.specs.declared.fields.FieldValue.{FieldValue}
use Rattle.adf_script.specs.declared.fields.Fields.{Fields}

-- the kind of a field
abbrev pub kind_of : Field → FieldKind
kind_of (Value n) = kind.Number number.Value
kind_of (Number n) = kind.Number number.Unsigned
kind_of (Signed z) = kind.Number number.Signed
kind_of (Zeros buffer) = kind.Number number.Count
kind_of (Text bytes) = kind.Text text.Short
kind_of (LongText bytes) = kind.Text text.Long

-- the field of a kind with this value
abbrev pub field_of : FieldKind → FieldValue → Field
field_of (kind.Number number.Value) v = Value v.number
field_of (kind.Number number.Unsigned) v = Number v.number
field_of (kind.Number number.Signed) v = Signed v.signed
field_of (kind.Number number.Count) v = Zeros (replicate v.number 0)
field_of (kind.Text text.Short) v = Text v.text.now
field_of (kind.Text text.Long) v = LongText v.text.now

-- the values of a line's fields, in order
abbrev pub values_of : Fields → List FieldValue
values_of fields = fields.first ∷ fields.second ∷ fields.third ∷ fields.fourth ∷ fields.fifth ∷ []

-- the fields of these kinds with these values
abbrev pub fields_by : List FieldKind → List FieldValue → List Field
fields_by [] vs = []
fields_by (k ∷ ks) [] = []
fields_by (k ∷ ks) (v ∷ vs) = field_of k v ∷ fields_by ks vs

-- whether a text is short enough
abbrev pub text_fits : TextKind → List ℕ → Bool
text_fits text.Short bytes = nat_le (length bytes) 255
text_fits text.Long bytes = true

-- the bytes are no number of this kind
abbrev pub SpellsNoNumber : List (Option ℕ) → NumberKind → List ℕ → Type 0
SpellsNoNumber values number.Value bytes = (n : ℕ) → IsValue values n bytes → ⊥
SpellsNoNumber values number.Unsigned bytes = (n : ℕ) → IsNumber n bytes → ⊥
SpellsNoNumber values number.Signed bytes = (z : ℤ) → IsSigned z bytes → ⊥
SpellsNoNumber values number.Count bytes = (n : ℕ) → n ≤ 1048576 → IsNumber n bytes → ⊥

-- the bytes are no fields of these kinds
abbrev pub SpellsNone : List (Option ℕ) → List FieldKind → List ℕ → Type 0
SpellsNone values kinds bytes = (fields : List Field) → map kind_of fields ≡ kinds → SpellsFields values fields bytes → ⊥

module _ (values : List (Option ℕ)) (k : FieldKind) (bytes : List ℕ) where
  -- the bytes do not start with a field of this kind
  abbrev pub ReadsNone : Type 0
  ReadsNone = (field : Field) (fields : List Field) → kind_of field ≡ k → SpellsFields values (field ∷ fields) bytes → ⊥

  -- the bytes start with this field, and no other of its kind; `behind` follows it
  pub record Reads (field : Field) (behind : List ℕ) : Type 0 where
    pub spells : (fields : List Field) → SpellsFields values fields behind → SpellsFields values (field ∷ fields) bytes
    pub goes_on : (other : Field) (fields : List Field) → kind_of other ≡ k → SpellsFields values (other ∷ fields) bytes → SpellsFields values fields behind

  -- the value at the start, if there is one, and the bytes after it
  abbrev pub ReadsValue : Option FieldValue → List ℕ → Type 0
  ReadsValue found behind = MatchOption found ReadsNone (λ v. Reads (field_of k v) behind)

-- Texts for C: a text is put into a buffer of the caller.
use Rattle.std.specs.Prelude.{◌≡◌, ◌<◌, ◌≤◌, ⊤, ℕ, ℤ, List, ◌++◌, length, drop}
use Rattle.adf_c.specs.Ends.{ComesTo}
use Rattle.adf_c.specs.declared.values.refusal.Refusal.{Refusal}
use Rattle.adf_c.specs.declared.values.refusal.Refusal.TheVariants.{NotAnImage, NoMemory, WrongArgument}

-- the text needs this many bytes, and stands at the start of the buffer if there is room; else the buffer is unchanged
pub record Puts (text before after : List ℕ) (needed : ℕ) : Type 0 where
  pub needs : needed ≡ length text
  pub fits : length text ≤ length before → after ≡ text ++ drop (length text) before
  pub lacks : length before < length text → after ≡ before

-- out of memory, or the argument is wrong for this reason
abbrev pub Refuses : Type 0 → Refusal → Type 0
Refuses wrong NotAnImage = ⊥
Refuses wrong NoMemory = ⊤
Refuses wrong WrongArgument = wrong

-- such a text is put; if it is refused, the buffer and the number of bytes are unchanged
abbrev pub TextEnds : (List ℕ → Type 0) → Type 0 → List ℕ → List ℕ → ℕ → ℕ → ℤ → Type 0
TextEnds is_text wrong before after needed_before needed =
    ComesTo ((text : List ℕ) × is_text text × Puts text before after needed)
    (λ refusal. Refuses wrong refusal × (after ≡ before) × (needed ≡ needed_before))

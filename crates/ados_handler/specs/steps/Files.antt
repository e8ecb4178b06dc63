-- The effect of a step that changes a file's size.
use Rattle.std.specs.Prelude.{◌≡◌, ℕ, true, false}
use Rattle.ados_name.specs.declared.stamp.Date3.{Date3}
use Rattle.ados_model.specs.Tree.{Tree, needs_more}
use Rattle.ados_model.specs.Stands.{Stands}
use Rattle.ados_volume.specs.Shown.{Shown}
use Rattle.ados_model.specs.Success.{resized}

-- the file has this size: enough blocks were free
abbrev pub IsResized : Shown → Shown → ℕ → ℕ → Date3 → Type 0
IsResized old new key size moment =
    (t : Tree) → Stands old.image t → (needs_more t key size ≡ false) × Stands new.image (resized moment key size t)

-- too few blocks are free for this size, and nothing changed
abbrev pub IsUnresized : Shown → Shown → ℕ → ℕ → Type 0
IsUnresized old new key size =
    (new ≡ old) × ((t : Tree) → Stands old.image t → needs_more t key size ≡ true)

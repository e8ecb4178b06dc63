-- The bytes after an entry's name.
use Rattle.std.specs.Prelude.{◌≡◌, ℕ, ◌+◌, ◌<◌, ◌≤◌, List, length}
use Rattle.adf_block.specs.Image.{byte_at}
use Rattle.adf_block.specs.declared.layout.TheConstants.{NAME_BYTE}

-- the bytes after this name, up to the room for 30 bytes, are unchanged
abbrev pub KeepsAfterName : ℕ → List ℕ → List ℕ → List ℕ → Type 0
KeepsAfterName key name old new = (i : ℕ) → NAME_BYTE + length name < i → i ≤ NAME_BYTE + 30 → byte_at new key i ≡ byte_at old key i

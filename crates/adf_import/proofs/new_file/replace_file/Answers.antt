use Rattle.std.proofs.Common.{◌≡◌, ℕ, Bool, Option, None, false, true, not, List, [], ◌∷◌, length, sym, ap, ◌∙◌}
use Rattle.adf_import.proofs.Common.{◌&&◌, denies_delete, denies_write, DosError, DeleteProtected, ObjectWrongType, WriteProtected, free as free_of, Tree, is_file, protection_of, first_refusal, refuse, passed, NotPut, more_blocks, or_no_room}
use Rattle.adf_import.proofs.Rooms.{has_room}
use Rattle.adf_import.proofs.new_file.replace_file.Goals as goal

-- the protection bits of the file, and their refusals
abbrev bits_refuse : ℕ → Bool → Tree → List (Option DosError)
bits_refuse key force t = refuse DeleteProtected (not force && denies_delete (protection_of t key)) ∷ refuse WriteProtected (not force && denies_write (protection_of t key)) ∷ []

-- a file is not a directory
a_file : (key : ℕ) (force : Bool) (t : Tree) → is_file t key ≡ true → first_refusal (refuse ObjectWrongType (not (is_file t key)) ∷ bits_refuse key force t) ≡ first_refusal (bits_refuse key force t)
a_file key force t file = passed ObjectWrongType (not (is_file t key)) (bits_refuse key force t) (ap not file)

-- a file whose protection bits allow it is refused only if too few blocks are free
abbrev room_of : ℕ → ℕ → Tree → Option DosError → Option NotPut
room_of key size t error = or_no_room error (more_blocks t key size) (free_of t)

allowed : (key : ℕ) (force : Bool) (t : Tree) → is_file t key ≡ true → not force && denies_delete (protection_of t key) ≡ false → not force && denies_write (protection_of t key) ≡ false
    → first_refusal (refuse ObjectWrongType (not (is_file t key)) ∷ bits_refuse key force t) ≡ None
allowed key force t file deletes writes =
    a_file key force t file ∙ passed DeleteProtected _ (refuse WriteProtected (not force && denies_write (protection_of t key)) ∷ []) deletes ∙ passed WriteProtected _ [] writes

pub returns-clause-done : goal.returns-clause-done
returns-clause-done c = λ t s.
    let size : ℕ = length c.args.file.now.bytes.now in (
      ap (room_of c.args.key size t)
          (allowed c.args.key c.args.force t (sym (c.is_file.ensures.file t s) ∙ c.if-not-is_file.false) (sym (c.is_denied.ensures t s) ∙ c.if-is_denied.false) (sym (c.is_write_denied.ensures t s) ∙ c.if-is_write_denied.false))
          ∙ has_room (more_blocks t c.args.key size) (free_of t) c.more_blocks-needed.result (c.more_blocks-needed.ensures t s) (c.in_default.ensures t s),
      c.fill.ensures.stands t s,
    )

-- Changes that are made whole or not at all, and their effects on a tree.
use Rattle.std.specs.Prelude.{◌≡◌, ◌+◌, ◌*◌, ◌/◌, ◌%◌, ℕ, nat_lt, if◌then◌else◌, List, [], ◌∷◌, length, Option, None, Some, Result, MatchResult}
use Rattle.ados_name.specs.declared.stamp.Date3.{Date3}
use Rattle.ados_model.specs.Tree.{Tree, size_of}
use Rattle.ados_model.specs.Tree.Content.{File}
use Rattle.ados_model.specs.Stands.{Stands}
use Rattle.ados_model.specs.Change.{made, rewritten, written}
use Rattle.ados_model.specs.Edits.{shortened, with_comment, with_date, with_protection}
use Rattle.ados_change.specs.NewBlocks.{KeepsRest}
use Rattle.ados_volume.specs.Shown.{Shown}
use Rattle.ados_model.specs.Objects.{protection_of}
use Rattle.adf_text.specs.declared.protect_words.Form.{Form}
use Rattle.adf_text.specs.ProtectWords.{bits_after}
use Rattle.adf_import.specs.declared.new_file.NewFile.{NewFile}

-- no refusal holds, and the new image represents the changed tree; or this error refuses the change, and the volume is
-- unchanged
abbrev pub ChangesTree : {A E : Type 0} → (Tree → Option E) → (A → Tree → Tree) → Shown → Shown → Result A E → Type 0
ChangesTree refusal change old new result =
    MatchResult result
    (λ a. (t : Tree) → Stands old.image t → (refusal t ≡ None) × Stands new.image (change a t))
    (λ error. (new ≡ old) × ((t : Tree) → Stands old.image t → refusal t ≡ Some error))

-- one change of the tree or none, as above, and the rest of the image is kept
abbrev pub Changes : {A E : Type 0} → (Tree → Option E) → (A → Tree → Tree) → Shown → Shown → Result A E → Type 0
Changes refusal change old new result = ChangesTree refusal change old new result × KeepsRest old.image new.image

-- the low eight bits of `low`, and the others of `bits`
abbrev pub with_low_bits : ℕ → ℕ → ℕ
with_low_bits bits low = 256 * (bits / 256) + low % 256

-- the low eight protection bits of an object are set, and the others stay
abbrev pub protected : Date3 → ℕ → ℕ → Tree → Tree
protected moment key low t = with_protection moment key (with_low_bits (protection_of t key) low) t

-- the low eight protection bits of an object become those after a word, by its form and its letters
abbrev pub reprotected : Date3 → ℕ → Form × List ℕ → Tree → Tree
reprotected moment key word t = protected moment key (bits_after word.0 word.1 (protection_of t key)) t

-- a file gets these protection bits, this comment and this date
abbrev pub described : Date3 → ℕ → NewFile → Tree → Tree
described moment key file t = with_date moment key file.date (with_comment moment key file.comment (with_protection moment key file.protection.0 t))

-- a file gets these bytes in place of its own, and this metadata
abbrev pub filled : Date3 → ℕ → NewFile → Tree → Tree
filled moment key file t = described moment key file (rewritten moment key file.bytes.now t)

-- a file longer than this size is cut to it
abbrev pub cut_back : Date3 → ℕ → ℕ → Tree → Tree
cut_back stamp key size t = if nat_lt size (size_of t key) then shortened stamp key size t else t

-- the changes that describe a file, in order: of its protection bits, its comment and its date
abbrev pub describing : Date3 → ℕ → NewFile → List (Tree → Tree)
describing stamp key file =
    with_protection stamp key file.protection.0 ∷ with_comment stamp key file.comment ∷ with_date stamp key file.date ∷ []

-- the changes that fill a file: its bytes are written from its start, what is left of longer ones is cut, and it is
-- described
abbrev pub filling : Date3 → ℕ → NewFile → List (Tree → Tree)
filling stamp key file =
    written stamp key 0 file.bytes.now ∷ cut_back stamp key (length file.bytes.now) ∷ describing stamp key file

-- a new file in a directory
abbrev pub added : Date3 → ℕ → ℕ → List ℕ → NewFile → Tree → Tree
added moment dir key name file t = filled moment key file (made moment dir key name (File []) t)

-- the changes that add a new file: an empty one is made and filled
abbrev pub adding : Date3 → ℕ → ℕ → List ℕ → NewFile → List (Tree → Tree)
adding stamp dir key name file = made stamp dir key name (File []) ∷ filling stamp key file

-- An object with everything of an entry.
use Rattle.std.proofs.Common.{◌≡◌, ℕ, Option, Some, Result, Ok, Err, IfOk, sym, ap, ◌∙◌, subst}
use Rattle.std.proofs.lemmas.Option.{get_or_from_slice_get}
use Rattle.adf_import.proofs.Common.{FileInfo, Node, Tree, content_at, file_info}
use Rattle.ados_salvage.specs.Salvaged.{Saved}
use Rattle.ados_salvage.specs.Saved.{IsAt}
use Rattle.ados_salvage.specs.declared.salvaged.Salvaged.{Salvaged}
use Rattle.adf_import.specs.SavedNames.{comment_for, name_for}
use Rattle.adf_import.specs.SavedVolume.{HasNoteOf, HoldsSaved}
use Rattle.adf_import.specs.SavedLeft.{IsSavedAt}
use Rattle.adf_import.specs.steps.Spots.{IsNoteOf}

-- what is told of an object is what its node has
pub note_there : (t : Tree) (key : ℕ) (entry : Salvaged) (told : FileInfo) (node : Node) → t.nodes key ≡ Some node → told ≡ file_info t.format key node
    → IsNoteOf told entry (name_for entry) (comment_for entry.state entry.comment) → HasNoteOf t key entry
note_there t key entry told node there is same = record {
  node = node;
  there = there;
  name = sym (ap (λ (i : FileInfo). i.name) is) ∙ same.name_field;
  protection_bits = sym (ap (λ (i : FileInfo). i.protection.0) is) ∙ same.protection_bits;
  date_field = sym (ap (λ (i : FileInfo). i.date) is) ∙ same.date_field;
  comment = sym (ap (λ (i : FileInfo). i.comment) is) ∙ same.comment_field;
}

-- both are so of the entry at a position
pub saved_at : (t : Tree) (saved : Saved) (place key : ℕ) (at : Option ℕ) → at ≡ Some place → ((entry : Salvaged) → IsAt saved.entries place entry → HasNoteOf t key entry)
    → ((entry : Salvaged) → IsAt saved.entries place entry → HoldsSaved saved place entry entry.state (content_at t key)) → IsSavedAt t saved at key
saved_at t saved place key at is noted holds =
    subst (λ (o : Option ℕ). IsSavedAt t saved o key) (sym is)
    (λ entry there. let read = get_or_from_slice_get saved.entries place entry entry there in record { noted = noted entry read; holds = holds entry read })

-- a result that is Ok has more than was said of it
pub ok_more : {A E : Type 0} (P Q : A → Type 0) (r : Result A E) → ((a : A) → P a → Q a) → IfOk r P → IfOk r Q
ok_more P Q (Ok a) more h = more a h
ok_more P Q (Err e) more h = h

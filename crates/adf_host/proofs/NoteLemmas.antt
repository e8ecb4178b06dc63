-- Names of host files beside notes.
use Rattle.std.proofs.Common.{◌≡◌, ◌≢◌, ℕ, List, [], ◌∷◌, ◌++◌, ap, sym, ◌∙◌, arith}
use Rattle.std.specs.Prelude.{codes}
use Rattle.std.proofs.lemmas.List.{append_assoc, append_cancel_right, same_from_push}
use Rattle.adf_host.specs.Notes.{IsBesideNotes, IsNoNote, note_of}

-- two texts with these endings differ in the letter before the last four
pub other_endings : (one other : List ℕ) → one ++ codes "%2Euaem" ≢ note_of other
other_endings one other same =
    let same_fronts : one ++ codes "%2E" ≡ other ++ codes "." =
    append_cancel_right (one ++ codes "%2E") (other ++ codes ".") (codes "uaem")
    (append_assoc one (codes "%2E") (codes "uaem") ∙ same ∙ sym (append_assoc other (codes ".") (codes "uaem"))) in
    let last : 69 ≡ 46 = (same_from_push (one ++ codes "%2") other 69 46 (append_assoc one (codes "%2") (codes "E") ∙ same_fronts)).1 in
    omega (arith, last)

-- a name that is a note's gets an escape
pub beside_escaped : (name noted text : List ℕ) → name ≡ note_of noted → text ≡ noted ++ codes "%2Euaem" → IsBesideNotes name text
beside_escaped name noted text ends spelled = record {
  no_note = λ other is. other_endings noted other (sym spelled ∙ is);
  same = λ plain. absurd (plain noted ends);
  escaped = λ other is. spelled ∙ ap (λ (front : List ℕ). front ++ codes "%2Euaem") (append_cancel_right noted other (codes ".uaem") (sym ends ∙ is));
}

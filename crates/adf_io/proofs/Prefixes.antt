-- Prefixes of a text that were written.
use Rattle.std.proofs.Common.{ℕ, List, [], take, drop, Option, refl, sym, take-append-drop}
use Rattle.std.specs.Io.KnownBytes.{Appends}
use Rattle.std.proofs.KnownBytes.{Appends-nil}
use Rattle.adf_io.specs.Prefix.{WritesFront}

pub writes_nothing : (w : Option (List ℕ)) (text : List ℕ) → WritesFront w w text
writes_nothing w text = ([], Appends-nil w, (text, refl))

pub writes_first : (old new : Option (List ℕ)) (count : ℕ) (text : List ℕ) → Appends old new (take count text) → WritesFront old new text
writes_first old new count text w = (take count text, w, (drop count text, sym (take-append-drop count text)))

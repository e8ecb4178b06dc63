-- The keyword and the fields of each word.
use Rattle.std.specs.Prelude.{◌≡◌, ℕ, List, [], ◌∷◌, ◌++◌, Option, codes}
use Rattle.adf_script.specs.Grammar.{SpellsFields}
use Rattle.adf_script.specs.declared.forms.FieldKind.{FieldKind}
use Rattle.adf_script.specs.declared.forms.TheConstants.{VALUE, NUMBER, SIGNED, COUNT, TEXT, LONG_TEXT}
use Rattle.adf_script.specs.declared.forms.Word.{Word}
use Rattle.adf_script.specs.declared.forms.Word.TheVariants.{Die, DiskInfo, Locate, Free, Copy, Parent, Examine, Info, Next, Same, Delete, MakeDir, Rename, RenameDisk, Protect, Comment, Date, Update, Input, Output, Read, Write, End, Seek, Size, Other}
use Rattle.adf_script.specs.declared.grammar.Line.{Line}
use Rattle.adf_script.specs.steps.Reading.{fields_by, values_of}

-- a word's keyword, and the kinds of the fields after it
abbrev pub shape_of : Word → List ℕ × List FieldKind
shape_of Die = (codes "die", [])
shape_of DiskInfo = (codes "diskinfo", [])
shape_of Locate = (codes "locate", VALUE ∷ SIGNED ∷ TEXT ∷ [])
shape_of Free = (codes "free", VALUE ∷ [])
shape_of Copy = (codes "copy", VALUE ∷ [])
shape_of Parent = (codes "parent", VALUE ∷ [])
shape_of Examine = (codes "examine", VALUE ∷ [])
shape_of Info = (codes "info", VALUE ∷ [])
shape_of Next = (codes "next", VALUE ∷ VALUE ∷ [])
shape_of Same = (codes "same", VALUE ∷ VALUE ∷ [])
shape_of Delete = (codes "delete", VALUE ∷ TEXT ∷ [])
shape_of MakeDir = (codes "mkdir", VALUE ∷ TEXT ∷ [])
shape_of Rename = (codes "rename", VALUE ∷ TEXT ∷ VALUE ∷ TEXT ∷ [])
shape_of RenameDisk = (codes "rename-disk", TEXT ∷ [])
shape_of Protect = (codes "protect", VALUE ∷ TEXT ∷ NUMBER ∷ [])
shape_of Comment = (codes "comment", VALUE ∷ TEXT ∷ TEXT ∷ [])
shape_of Date = (codes "date", VALUE ∷ TEXT ∷ NUMBER ∷ NUMBER ∷ NUMBER ∷ [])
shape_of Update = (codes "update", VALUE ∷ TEXT ∷ [])
shape_of Input = (codes "input", VALUE ∷ TEXT ∷ [])
shape_of Output = (codes "output", VALUE ∷ TEXT ∷ [])
shape_of Read = (codes "read", VALUE ∷ COUNT ∷ [])
shape_of Write = (codes "write", VALUE ∷ LONG_TEXT ∷ [])
shape_of End = (codes "end", VALUE ∷ [])
shape_of Seek = (codes "seek", VALUE ∷ SIGNED ∷ SIGNED ∷ [])
shape_of Size = (codes "size", VALUE ∷ SIGNED ∷ SIGNED ∷ [])
shape_of Other = (codes "other", SIGNED ∷ [])

-- the line is this keyword and these fields
abbrev pub HasFields : List (Option ℕ) → Line → List ℕ → Type 0
HasFields values read line =
    (rest : List ℕ) × (line ≡ (shape_of read.word).0 ++ rest)
    × SpellsFields values (fields_by (shape_of read.word).1 (values_of read.fields)) rest

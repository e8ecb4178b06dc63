-- All faults of an image for C, alone and with the numbers that show them.
use Rattle.std.specs.Prelude.{◌≡◌, ◌↔◌, ◌⊎◌, ⊤, ℕ, ℤ, pos, Bool, false, if◌then◌else◌, List, [], ◌∷◌, length, map, Option, Some, None}
use Rattle.adf_block.specs.Size.{IsSizeFault}
use Rattle.adf_block.specs.Whole.{IsImage}
use Rattle.adf_block.specs.declared.volume_size.SizeFault.{SizeFault}
use Rattle.ados_faults.specs.Listed.{AreAllFaults, AreMarks, ListsFaults, Marks}
use Rattle.ados_faults.specs.Values.{AreValues, Evidence, NoneShows}
use Rattle.ados_model.specs.Accepted.{ShowsNoFault}
use Rattle.ados_model.specs.declared.fault.VolumeFault.{VolumeFault}
use Rattle.adf_c.specs.Ends.{ComesTo}
use Rattle.adf_c.specs.Faults.{fault_number, size_fault_number}
use Rattle.adf_c.specs.Lists.{copied}
use Rattle.adf_c.specs.declared.values.findings.TheConstants.{MOST_FAULTS}
use Rattle.adf_c.specs.declared.values.faults.JipFault.{JipFault}
use Rattle.adf_c.specs.declared.values.findings.JipFinding.{JipFinding}
use Rattle.adf_c.specs.declared.values.refusal.Refusal.TheVariants.{NoMemory}

-- a fault that no long of its block shows
abbrev pub bare_finding : ℤ → ℕ → JipFinding
bare_finding kind block = record { kind = kind; block = block; known = 0; at = 0; found = 0; wanted = 0 }

-- 1 if only the found value is known, 2 if the right one is too
abbrev pub known_of : Option ℕ → ℕ
known_of (Some wanted) = 2
known_of None = 1

abbrev pub wanted_of : Option ℕ → ℕ
wanted_of (Some wanted) = wanted
wanted_of None = 0

-- a fault that a long of its block shows
abbrev pub told_finding : VolumeFault → Evidence → JipFinding
told_finding fault values = record {
  kind = pos (fault_number fault.kind);
  block = fault.block;
  known = known_of values.wanted;
  at = values.long;
  found = values.found;
  wanted = wanted_of values.wanted;
}

-- the fault for C with the first long of its block that shows it, in the role of the block's mark; alone only if none
-- does
abbrev pub IsFindingOf : List ℕ → Marks → VolumeFault → JipFinding → Type 0
IsFindingOf image marks fault finding =
    (NoneShows image marks fault.kind fault.block × (finding ≡ bare_finding (pos (fault_number fault.kind)) fault.block))
    ⊎ ((values : Evidence) × AreValues image marks fault.kind fault.block values × (finding ≡ told_finding fault values))

-- these faults for C, in order
unfoldable pub AreFindings : List ℕ → Marks → List VolumeFault → List JipFinding → Type 0
AreFindings image marks [] [] = ⊤
AreFindings image marks (fault ∷ faults) (finding ∷ findings) = IsFindingOf image marks fault finding × AreFindings image marks faults findings
AreFindings image marks _ _ = ⊥

-- the bytes are an image, and these are its faults in order, none exactly if it shows none, with the longs that show them
-- by the marks of the image; an image without faults has no more of them. Of a disk of another kind that alone is listed.
-- Of any other each fault that it shows is listed, or the first ones and that there are more, exactly if it shows more
pub record TellsFindings (bytes : List ℕ) (told : List JipFinding) (more : Bool) : Type 0 where
  pub image : IsImage bytes
  pub faults : List VolumeFault
  pub lists : ListsFaults bytes MOST_FAULTS faults
  pub all : AreAllFaults bytes MOST_FAULTS more faults
  pub marks : Marks
  pub marked : AreMarks bytes marks
  pub told_are : AreFindings bytes marks faults told
  pub none : (faults ≡ []) ↔ ShowsNoFault bytes
  pub whole : ShowsNoFault bytes → more ≡ false

-- the bytes are too few, too many, or not whole blocks; this is the only fault
pub record TellsSizeFinding (bytes : List ℕ) (told : List JipFinding) (more : Bool) : Type 0 where
  pub size : SizeFault
  pub wrong : IsSizeFault (length bytes) size
  pub told_is : told ≡ bare_finding (pos (size_fault_number size)) 0 ∷ []
  pub alone : more ≡ false

-- the faults of the bytes, and whether there are more of them
abbrev pub AreFindingsOf : List ℕ → List JipFinding → Bool → Type 0
AreFindingsOf bytes told more = TellsFindings bytes told more ⊎ TellsSizeFinding bytes told more

-- the fault alone
abbrev pub fault_in : JipFinding → JipFault
fault_in finding = record { kind = finding.kind; block = finding.block }

-- the same faults alone
pub record AreFaultsOf (bytes : List ℕ) (told : List JipFault) (more : Bool) : Type 0 where
  pub findings : List JipFinding
  pub are : AreFindingsOf bytes findings more
  pub told_are : told ≡ map fault_in findings

-- the number of a yes or no
abbrev pub yes_number : Bool → ℤ
yes_number more = if more then pos 1 else pos 0

-- the faults of the bytes are copied to the array; the count is the number of faults, with or without room for them
pub record CopiesFaults {A : Type 0} (AreOf : List ℕ → List A → Bool → Type 0) (bytes : List ℕ) (before after : List A) (count : ℕ) (more : ℤ) : Type 0 where
  pub told : List A
  pub is_more : Bool
  pub are : AreOf bytes told is_more
  pub filled : after ≡ copied told before
  pub counted : count ≡ length told
  pub said : more ≡ yes_number is_more

-- the result by the status; without memory nothing is written
abbrev pub ListEnds : {A : Type 0} (AreOf : List ℕ → List A → Bool → Type 0) → List ℕ → List A → List A → ℕ → ℕ → ℤ → ℤ → ℤ → Type 0
ListEnds AreOf bytes before after count_before count more_before more =
    ComesTo (CopiesFaults AreOf bytes before after count more)
    (λ refusal. (refusal ≡ NoMemory) × (after ≡ before) × (count ≡ count_before) × (more ≡ more_before))

abbrev pub CheckEnds : List ℕ → List JipFault → List JipFault → ℕ → ℕ → ℤ → ℤ → ℤ → Type 0
CheckEnds = ListEnds AreFaultsOf

abbrev pub FindingsEnd : List ℕ → List JipFinding → List JipFinding → ℕ → ℕ → ℤ → ℤ → ℤ → Type 0
FindingsEnd = ListEnds AreFindingsOf

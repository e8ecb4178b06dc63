-- The faults of an image, for C.
use Rattle.std.specs.Prelude.{◌≡◌, ◌⊎◌, ℕ, pos, List, length}
use Rattle.adf_block.specs.Size.{IsSizeFault}
use Rattle.adf_block.specs.declared.volume_size.SizeFault.{SizeFault}
use Rattle.adf_block.specs.declared.volume_size.SizeFault.TheVariants.{NotWholeBlocks, TooFewBlocks, TooManyBlocks}
use Rattle.ados_model.specs.Faults.{Shows}
use Rattle.ados_model.specs.declared.fault.FaultKind.{FaultKind}
use Rattle.ados_model.specs.declared.fault.FaultKind.TheVariants.{NotADosDisk, UnsupportedKind, BadSum, BadType, BadOwnKey, BadParent, BadPointer, BlockUsedTwice, WrongChain, BadName, DuplicateName, BadComment, BadCount, BadSequence, LinkEntry, MarkedFree, NoMemory}
use Rattle.adf_c.specs.declared.values.faults.JipFault.{JipFault}

-- the number of a fault: its row in the table of faults; 16 and 18 are never faults of an image
abbrev pub fault_number : FaultKind → ℕ
fault_number NotADosDisk = 1
fault_number UnsupportedKind = 2
fault_number BadSum = 3
fault_number BadType = 4
fault_number BadOwnKey = 5
fault_number BadParent = 6
fault_number BadPointer = 7
fault_number BlockUsedTwice = 8
fault_number WrongChain = 9
fault_number BadName = 10
fault_number DuplicateName = 11
fault_number BadComment = 12
fault_number BadCount = 13
fault_number BadSequence = 14
fault_number LinkEntry = 15
fault_number MarkedFree = 17
fault_number NoMemory = 19

-- the number of a size's fault
abbrev pub size_fault_number : SizeFault → ℕ
size_fault_number NotWholeBlocks = 101
size_fault_number TooFewBlocks = 102
size_fault_number TooManyBlocks = 103

-- the bytes show a fault of an image at a block
abbrev pub IsVolumeFaultOf : List ℕ → JipFault → Type 0
IsVolumeFaultOf bytes fault = (kind : FaultKind) × (fault.kind ≡ pos (fault_number kind)) × Shows bytes kind fault.block

-- the bytes are too few, too many, or not whole blocks
abbrev pub IsSizeFaultOf : List ℕ → JipFault → Type 0
IsSizeFaultOf bytes fault = (size : SizeFault) × (fault ≡ record { kind = pos (size_fault_number size); block = 0 }) × IsSizeFault (length bytes) size

-- the bytes are no image that the check accepts, for this fault
abbrev pub IsFaultOf : List ℕ → JipFault → Type 0
IsFaultOf bytes fault = IsVolumeFaultOf bytes fault ⊎ IsSizeFaultOf bytes fault

-- The words for faults.
use Rattle.std.specs.Prelude.{ℕ, List, [], codes}
use Rattle.adf_block.specs.declared.volume_size.SizeFault.{SizeFault}
use Rattle.adf_block.specs.declared.volume_size.SizeFault.TheVariants as sizes
use Rattle.ados_model.specs.declared.fault.FaultKind.{FaultKind}
use Rattle.ados_model.specs.declared.fault.FaultKind.TheVariants as kinds

-- the word for a fault of the size
abbrev pub size_word : SizeFault → List ℕ
size_word sizes.NotWholeBlocks = codes "NotWholeBlocks"
size_word sizes.TooFewBlocks = codes "TooFewBlocks"
size_word sizes.TooManyBlocks = codes "TooManyBlocks"

-- the word for a fault of an image; out of memory has none, because no image is refused for it
abbrev pub kind_word : FaultKind → List ℕ
kind_word kinds.NotADosDisk = codes "NotADosDisk"
kind_word kinds.UnsupportedKind = codes "UnsupportedKind"
kind_word kinds.BadSum = codes "BadSum"
kind_word kinds.BadType = codes "BadType"
kind_word kinds.BadOwnKey = codes "BadOwnKey"
kind_word kinds.BadParent = codes "BadParent"
kind_word kinds.BadPointer = codes "BadPointer"
kind_word kinds.BlockUsedTwice = codes "BlockUsedTwice"
kind_word kinds.WrongChain = codes "WrongChain"
kind_word kinds.BadName = codes "BadName"
kind_word kinds.DuplicateName = codes "DuplicateName"
kind_word kinds.BadComment = codes "BadComment"
kind_word kinds.BadCount = codes "BadCount"
kind_word kinds.BadSequence = codes "BadSequence"
kind_word kinds.LinkEntry = codes "LinkEntry"
kind_word kinds.MarkedFree = codes "MarkedFree"
kind_word kinds.NoMemory = []

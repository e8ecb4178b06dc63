use Rattle.adf_where.proofs.Common.{ℕ, Vec, Global, take, AllZip, AreAllPlaces, Place}
use Rattle.adf_where.proofs.faulty.lists_of_places.Given as goal

-- the lists of the blocks before this one
abbrev pub invariant-loop-block : goal.invariant-loop-block
invariant-loop-block l = AllZip (λ (block : ℕ) (places : Vec Place Global). AreAllPlaces l.image block places.items) (take l.block-index l.blocks) l.lists.items

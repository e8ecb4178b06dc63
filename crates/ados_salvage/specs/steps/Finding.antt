-- The salvage of an accepted image, before and after the sound headers among its lost blocks are found.
use Rattle.std.specs.Prelude.{◌≡◌, ◌≢◌, ℕ, ◌<◌, true, false, List, ◌++◌, All, AllPairs}
use Rattle.adf_block.specs.Image.{block_count}
use Rattle.ados_salvage.specs.declared.salvaged.Salvaged.{Salvaged}
use Rattle.ados_salvage.specs.Salvaged.{FindsLost, Saved, broken_total, headers_of}

-- the entries of a tree: their headers are distinct blocks of the image, and no file is found or lacks a byte
pub record AreOfOneTree (image : List ℕ) (found : List Salvaged) : Type 0 where
  pub once : AllPairs (λ a b. a ≢ b) (headers_of found)
  pub inside : All (λ header. header < block_count image) (headers_of found)
  pub reached : All (λ entry. entry.found ≡ false) found
  pub whole : broken_total found ≡ 0

-- the same salvage, with what is found behind its entries
pub record AddsLost (old new : Saved) : Type 0 where
  pub found : List Salvaged
  pub added : new.entries ≡ old.entries ++ found
  pub besides : All (λ entry. entry.found ≡ true) found
  pub finds : FindsLost new
  pub accepted : new.accepted ≡ old.accepted
  pub image : new.image ≡ old.image
  pub trusted : new.trusted ≡ old.trusted
  pub deleted : new.deleted ≡ old.deleted
  pub holes : new.holes ≡ old.holes
  pub fillers : new.fillers ≡ old.fillers

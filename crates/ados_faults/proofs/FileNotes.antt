-- What files show stays noted, and is noted file by file.
use Rattle.ados_faults.proofs.Common.{ℕ, ◌+◌, inl, inr, List, Bool, Option, get_or, arith, slice_get, kind_of_data, BadCount, IsFile, FILE_TYPE, IsOfType, ArePlacesNoted, IsFileNoted, IsPlaceNoted, AreStillNoted, cell_of}

module _ (image : List ℕ) (cells later : List Bool) (on : AreStillNoted cells later) where
  pub placed_on : (block position : ℕ) (next : Option ℕ) → IsPlaceNoted image cells block position next → IsPlaceNoted image later block position next
  placed_on block position next p = record { each = λ rule h. on.stay (cell_of (kind_of_data rule) block) (p.each rule h) }

  pub places_on : (blocks : List ℕ) (from : ℕ) → ArePlacesNoted image cells blocks from → ArePlacesNoted image later blocks from
  places_on blocks from p = record { placed = λ i low l inside. placed_on (get_or blocks i 0) i (slice_get blocks (i + 1)) (p.placed i low l inside) }

  pub file_on : (file : ℕ) → IsFileNoted image cells file → IsFileNoted image later file
  file_on file f = record {
    noted = λ blocks d. let b = f.noted blocks d in record {
      count = λ h. on.stay (cell_of BadCount file) (b.count h);
      places = λ ofs. places_on blocks 0 (b.places ofs);
      sum = λ ofs h. on.stay (cell_of BadCount file) (b.sum ofs h);
    };
  }

-- an entry with the type of files
pub file_of : (image : List ℕ) (block : ℕ) → IsOfType image FILE_TYPE block → IsFile image block
file_of image block (inl root) = absurd (omega (arith, root.1))
file_of image block (inr e) = record { dir = e.0; slot_of_chain = e.1; reached = e.2; secondary = e.3 }

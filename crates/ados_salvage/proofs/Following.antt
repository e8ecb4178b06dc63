-- The blocks that are named as entries, block by block.
use Rattle.ados_salvage.proofs.Common.{ℕ, ◌<◌, ◌≤◌, List, Option, IsSome, names_inside, block_count, Known, IsLost, AreAllHeaders, AreFollowed, IsFollowed, KeepsMet, place_at}

module _ (known : Known) (old new : List (Option ℕ)) (kept : KeepsMet old new) where
  pub headers_kept : AreAllHeaders known old → AreAllHeaders known new
  headers_kept all block header = kept block (all block header)

  pub long_kept : (block at : ℕ) → IsFollowed known old block at → IsFollowed known new block at
  long_kept block at followed dir named place is inside told = kept named (followed dir named place is inside told)

  pub followed_kept : (block : ℕ) → AreFollowed known old block → AreFollowed known new block
  followed_kept block followed accepted at = long_kept block at (followed accepted at)

-- where all blocks were followed, all lost entries were met
pub lost_met : (known : Known) (places : List (Option ℕ)) → 2 ≤ block_count known.image → ((holder : ℕ) → holder < block_count known.image → AreFollowed known places holder) → (block : ℕ)
    → IsLost known.left_out known.image block → IsSome (place_at places block)
lost_met known places large all block lost =
    let n = lost.named.1 in
    all n.holder (names_inside known.left_out known.image large n.accepted) n.accepted n.at lost.named.0 block n.place n.named lost.inside lost.kept

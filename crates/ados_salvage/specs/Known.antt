-- What is known of an image: its headers that are told, and the sound files that claim each of its blocks.
use Rattle.std.specs.Prelude.{◌≡◌, ◌≢◌, ℕ, ◌<◌, Bool, MatchBool, List, length, slice_index_or}
use Rattle.adf_block.specs.Image.{block_count}
use Rattle.ados_salvage.specs.declared.known.claims.Claim.{Claim}
use Rattle.ados_salvage.specs.declared.known.claims.Claim.TheVariants.{Free, One, Several}
use Rattle.ados_salvage.specs.declared.known.image_known.Known.{Known}
use Rattle.ados_salvage.specs.Deleted.{TellsTrust}
use Rattle.ados_salvage.specs.Doubtful.{IsHeader}
use Rattle.ados_salvage.specs.Found.{AreUnreached}
use Rattle.ados_salvage.specs.Marks.{mark_at}
use Rattle.ados_salvage.specs.Sound.{IsClaimant, Names}

-- for each block, whether it is a header that is told
pub record AreHeaders (out image : List ℕ) (headers : List Bool) : Type 0 where
  pub size : length headers ≡ block_count image
  pub decided : (block : ℕ) → block < block_count image → MatchBool (mark_at headers block) (IsHeader out image block) (¬ IsHeader out image block)

-- the claim for a block
abbrev pub claim_at : List Claim → ℕ → Claim
claim_at claims block = slice_index_or claims block Free

-- the file claims its blocks, and the block is one of them
abbrev pub HasClaim : List ℕ → List ℕ → ℕ → ℕ → Type 0
HasClaim out image file block = IsClaimant out image file × Names image file block

-- the claim of a block is right for the headers below n: none of them has the block, exactly one does, or two do
abbrev pub IsClaim : (ℕ → ℕ → Type 0) → ℕ → ℕ → Claim → Type 0
IsClaim Has n block Free = (header : ℕ) → header < n → ¬ Has header block
IsClaim Has n block (One one) = (one < n) × Has one block × ((header : ℕ) → header < n → Has header block → header ≡ one)
IsClaim Has n block Several = (one : ℕ) × (other : ℕ) × (one ≢ other) × Has one block × Has other block

-- the claims are right for the headers below n
abbrev pub AreClaims : (ℕ → ℕ → Type 0) → ℕ → ℕ → List Claim → Type 0
AreClaims Has count n claims = (block : ℕ) → block < count → IsClaim Has n block (claim_at claims block)

-- a claim for each of so many blocks, right for all headers
pub record AreAllClaims (Has : ℕ → ℕ → Type 0) (count : ℕ) (claims : List Claim) : Type 0 where
  pub size : length claims ≡ count
  pub right : AreClaims Has count count claims

-- the claims are right where the headers are left out too to which the root does not lead
abbrev pub AreReachedClaims : List ℕ → List ℕ → List Claim → Type 0
AreReachedClaims out image claims = (unreached : List ℕ) × AreUnreached out image unreached × AreAllClaims (HasClaim unreached image) (block_count image) claims

-- what is known of an image is right: whether its bitmap is trusted, which blocks are headers that are told, and the files that claim blocks
pub record AreKnown (known : Known) : Type 0 where
  pub trust : TellsTrust known.image known.trusted
  pub headers : AreHeaders known.left_out known.image known.headers.items
  pub claims : AreAllClaims (HasClaim known.left_out known.image) (block_count known.image) known.claims.items
  pub reached : AreReachedClaims known.left_out known.image known.reached_claims.items

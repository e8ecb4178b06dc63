-- Claims while they are noted.
use Rattle.std.specs.Prelude.{◌≡◌, ℕ, ◌==◌, ◌⊎◌, List, Contains, if◌then◌else◌}
use Rattle.ados_salvage.specs.declared.known.claims.Claim.{Claim}
use Rattle.ados_salvage.specs.declared.known.claims.Claim.TheVariants.{Free, One, Several}
use Rattle.ados_salvage.specs.Known.{claim_at}

-- the claim after one more file names the block
abbrev pub with_claim : ℕ → Claim → Claim
with_claim file Free = One file
with_claim file (One other) = if other == file then One file else Several
with_claim file Several = Several

-- the claim of a block was updated if it is one of these blocks, and is unchanged otherwise
abbrev pub IsNoted : ℕ → List ℕ → List Claim → List Claim → ℕ → Type 0
IsNoted file blocks old new block =
    (Contains blocks block × (claim_at new block ≡ with_claim file (claim_at old block))) ⊎ (¬ Contains blocks block × (claim_at new block ≡ claim_at old block))

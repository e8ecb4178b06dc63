use Rattle.std.proofs.Common.{◌≢◌, All, take}
use Rattle.adf_rescue.proofs.plan.is_ending.Given as goal

-- the bytes before this one
abbrev pub invariant-loop-byte : goal.invariant-loop-byte
invariant-loop-byte l = All (λ c. (c ≢ 0) × (c ≢ 47)) (take l.byte-index l.text)

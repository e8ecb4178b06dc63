-- `closed` makes a handle of null and the allocator.
use Rattle.adf_c.proofs.HandleWalks.{closes}
use Rattle.adf_c.proofs.Handles.{handle}
use Rattle.adf_c.specs.contracts.handle.JipHandleHolder.closed.Key.{name}
use Rattle.adf_c.proofs.handle.JipHandleHolder.closed.Statement.{statement}
use Rattle.adf_c.proofs.handle.JipHandleHolder.closed.Code as code

pub closed_spec : {M : Type 1} → statement M
closed_spec 𝓤 𝓛 𝓜 𝓡 wired = closes handle 𝓛 𝓜 𝓡 name (code.unfolded 𝓤 𝓛.H 𝓜 𝓡 wired)

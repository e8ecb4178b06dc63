-- `into_loose` distinguishes a box from none by the pointer.
use Rattle.adf_c.proofs.HandleWalks.{gives_it}
use Rattle.adf_c.proofs.Handles.{handle}
use Rattle.adf_c.specs.contracts.handle.JipHandleHolder.into_loose.Key.{name}
use Rattle.adf_c.proofs.handle.JipHandleHolder.into_loose.Statement.{statement}
use Rattle.adf_c.proofs.handle.JipHandleHolder.into_loose.Code as code

pub into_loose_spec : {M : Type 1} → statement M
into_loose_spec 𝓤 𝓛 𝓜 𝓡 wired = gives_it handle 𝓛 𝓜 𝓡 name (code.unfolded 𝓤 𝓛.H 𝓜 𝓡 wired)

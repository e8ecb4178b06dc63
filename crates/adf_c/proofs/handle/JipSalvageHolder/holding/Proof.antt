-- `holding` passes the box on.
use Rattle.adf_c.proofs.HandleWalks.{holds_it}
use Rattle.adf_c.proofs.Handles.{salvage}
use Rattle.adf_c.specs.contracts.handle.JipSalvageHolder.holding.Key.{name}
use Rattle.adf_c.proofs.handle.JipSalvageHolder.holding.Statement.{statement}
use Rattle.adf_c.proofs.handle.JipSalvageHolder.holding.Code as code

pub holding_spec : {M : Type 1} → statement M
holding_spec 𝓤 𝓛 𝓜 𝓡 wired = holds_it salvage 𝓛 𝓜 𝓡 name (code.unfolded 𝓤 𝓛.H 𝓜 𝓡 wired)

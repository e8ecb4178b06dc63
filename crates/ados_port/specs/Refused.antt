-- What a refused run of steps hands back.
use Rattle.std.specs.Prelude.{◌≡◌, List}
use Rattle.ados_port.specs.Exchanges.{ExchangeView}
use Rattle.ados_port.specs.declared.step.Step.{Step}
use Rattle.ados_port.specs.declared.steps.RunRefused.{RunRefused}

-- the exchange and the steps, unchanged
abbrev pub HandsBack : {S Q M A : Type 0} → ExchangeView S Q A → List (Step Q M) → RunRefused S Q A M → Type 0
HandsBack exchange steps refused = (refused.exchange ≡ exchange) × (refused.steps.items ≡ steps)

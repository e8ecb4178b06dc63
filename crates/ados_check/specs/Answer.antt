-- The result of the check.
use Rattle.std.specs.Prelude.{ℕ, List, Result, MatchResult}
use Rattle.ados_model.specs.Accepted.{Accepts, HandsBack}
use Rattle.ados_check.specs.declared.accept.Accepted.{Accepted}
use Rattle.ados_check.specs.declared.accept.Rejected.{Rejected}

-- the image is accepted, possibly with a rebuilt bitmap, or returned unchanged with the reason
abbrev pub AcceptsOrHandsBack : List ℕ → Result Accepted Rejected → Type 0
AcceptsOrHandsBack image answer =
    MatchResult answer (λ accepted. Accepts image accepted.was_validated accepted.image) (λ rejected. HandsBack image rejected.image rejected.fault)

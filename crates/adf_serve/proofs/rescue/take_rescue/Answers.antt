use Rattle.adf_serve.specs.declared.fault.CommandFault.{CommandFault}
use Rattle.std.proofs.Common.{◌≡◌, Bool, true, Option, None, Some, MatchOption, is_some}
use Rattle.std.specs.Prelude.{⊤}
use Rattle.ados_salvage.specs.Salvaged.{Saved}
use Rattle.adf_cli.specs.declared.query.SalvageJob.{SalvageJob}
use Rattle.adf_serve.specs.Rescues.{IsHostEnd, IsMended, IsMendedFor, IsRescueText, IsSomeSize, told_all}
use Rattle.adf_serve.proofs.Printing.{host_ends, reports_no_image}
use Rattle.adf_serve.proofs.rescue.take_rescue.Goals as goal

pub returns-in_err-out : goal.returns-in_err-out
returns-in_err-out g c =
    let job = c.args.job.now in
    reports_no_image (IsRescueText job (told_all c.from_residual.result)) IsSomeSize (λ (fault : CommandFault). IsHostEnd fault job.list) _ c.in_err-out.field-0.0 _ (λ bytes refusal size. (bytes, size)) (host_ends job.list) c.in_err-out.ensures.fault
    c.from_residual.ensures.1

pub returns-in_err-image : goal.returns-in_err-image
returns-in_err-image g c =
    let job = c.args.job.now in
    reports_no_image (IsRescueText job (told_all c.from_residual-in_err-image.result)) IsSomeSize (λ (fault : CommandFault). IsHostEnd fault job.list) _ c.in_err-image.field-0.0 _ (λ bytes refusal size. (bytes, size)) (host_ends job.list) c.in_err-image.ensures.fault
    c.from_residual-in_err-image.ensures.1

pub returns-in_err-all : goal.returns-in_err-all
returns-in_err-all g c =
    let job = c.args.job.now in
    reports_no_image (IsRescueText job (told_all c.from_residual-in_err-all.result)) IsSomeSize (λ (fault : CommandFault). IsHostEnd fault job.list) _ c.in_err-all.field-0.0 _ (λ bytes refusal size. (bytes, size)) (host_ends job.list) c.in_err-all.ensures.fault
    c.from_residual-in_err-all.ensures.1

-- if a file is held for it, there is a new volume
mended_for : {Held : Type 0} (job : SalvageJob) (saved : Saved) (out : Option Held) (all : Bool) → is_some out ≡ is_some job.out → MatchOption out (all ≡ true) (λ file. IsMended saved all)
    → IsMendedFor job saved (Some all)
mended_for job saved out all asked made = go out job.out asked made
  where
    go : {Held Path : Type 0} (out : Option Held) (path : Option Path) → is_some out ≡ is_some path → MatchOption out (all ≡ true) (λ file. IsMended saved all)
        → MatchOption path ⊤ (λ file. IsMended saved all)
    go out None asked made = tt
    go (Some held) (Some path) asked made = made
    go None (Some path) asked made = absurd (cc asked)

pub returns : goal.returns
returns g c =
    let holes = c.in_ok-image.ensures.holes in
    c.tell_rescue.ensures c.in_ok-image.holes.items c.in_ok-image.image holes c.in_ok-rescue.ensures.told
    (mended_for c.args.job.now c.in_ok-rescue.rescue.salvage c.in_ok-out.out c.in_ok-all.all c.in_ok-out.ensures.asked c.in_ok-all.ensures.mended)

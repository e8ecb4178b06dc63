use Rattle.ados_salvage.proofs.Common.{◌≡◌, Bool, false, IfOk-weaker}
use Rattle.ados_salvage.specs.Holes.{LeadsToNoFiller, LeadsToNone}
use Rattle.ados_salvage.proofs.holes.leads_to_unread.Goals as goal

pub returns-then-not-listed : goal.returns-then-not-listed
returns-then-not-listed c = λ same. record {
  no_hole = c.in_ok-hole.ensures c.if-hole.false;
  no_filler = λ listed. absurd (cc (listed, c.if-not-listed.true));
}

pub returns : goal.returns
returns c =
    IfOk-weaker c.reaches_filler.result (λ (reaches : Bool). reaches ≡ false → LeadsToNoFiller c.args.image.now) (λ (leads : Bool). leads ≡ false → LeadsToNone c.args.holes.now c.args.listed c.args.image.now)
    (λ leads none same. record { no_hole = c.in_ok-hole.ensures c.if-hole.false; no_filler = λ listed. none same }) c.reaches_filler.ensures

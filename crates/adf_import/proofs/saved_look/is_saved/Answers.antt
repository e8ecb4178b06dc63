use Rattle.adf_import.proofs.SavedNoting.{ok_more, saved_at}
use Rattle.adf_import.proofs.saved_look.is_saved.Goals as goal

pub returns : goal.returns
returns c =
    ok_more _ _ c.has_content.result
    (λ holds told t s yes.
    saved_at t c.args.salvage.now c.in-Some.place c.args.key c.args.spot.entry c.in-Some.is (λ entry at. c.in_ok-noted.ensures t entry s at c.if-not-noted.false) (λ entry at. told t entry s at yes)) c.has_content.ensures

use Rattle.std.proofs.Common.{refl, sym, inr, ◌∙◌, w32}
use Rattle.std.proofs.lemmas.Int.{to_z-of_z}
use Rattle.adf_c.proofs.Coming.{some_is_open, none_is_closed, blanks}
use Rattle.adf_c.proofs.open.open_blank.Goals as goal

pub returns-then-is_open : goal.returns-then-is_open
returns-then-is_open c = (c.is_open.ensures.same, inr (inr (inr (some_is_open _ (sym c.is_open.ensures.open ∙ c.if-is_open.true)))))

pub returns : goal.returns
returns c = blanks c.seat.result c.in-Some.format c.args.format c.args.blocks c.args.name.now c.in-Ok.name c.args.moment _ _ c.args.handle.now.held c.is_open.new.self.held c.seat.new.handle.held
    (sym (to_z-of_z w32 c.args.format c.ranges.format) ∙ c.in-Some.ensures) (c.size_ok.ensures.0 c.if-not-size_ok.false) (c.in-Ok.ensures.valid.0 refl) c.in-Ok.ensures.ok (none_is_closed _ (sym c.is_open.ensures.open ∙ c.if-is_open.false)) c.is_open.ensures.same
    c.in-Ok-blank.ensures.image c.in-Ok-blank.ensures.validated c.seat.ensures

use Rattle.std.proofs.Common.{◌∙◌}
use Rattle.adf_serve.specs.Texts.{IsInfoText}
use Rattle.adf_serve.proofs.Printing.{info_told, leaves_front}
use Rattle.adf_serve.proofs.info.tell_info.Goals as goal

pub returns-in-Ok : goal.returns-in-Ok
returns-in-Ok g c = (
  _,
  c.in-Ok.ensures.ok,
  info_told c.args.json c.args.image c.in_ok-asked.asked.answer c.in_ok-asked.asked.handler.image _ c.in_ok-asked.ensures (c.image-image.ensures.same ∙ c.volume.ensures.image),
)

pub returns : goal.returns
returns g c =
    let text = info_told c.args.json c.args.image c.in_ok-asked.asked.answer c.in_ok-asked.asked.handler.image _ c.in_ok-asked.ensures (c.image-image.ensures.same ∙ c.volume.ensures.image) in
    leaves_front (IsInfoText c.args.json c.args.image) c.args.image _ _ c.from.result (_, text, c.in-Err.ensures.front) c.from.ensures

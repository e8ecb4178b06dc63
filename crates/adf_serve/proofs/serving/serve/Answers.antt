use Rattle.std.proofs.Common.{◌∙◌}
use Rattle.std.proofs.lemmas.List.{length-map}
use Rattle.ados_run.specs.ServesVolume.{scripts_of}
use Rattle.adf_serve.proofs.Clients.{not_served, unread_done}
use Rattle.adf_serve.proofs.serving.serve.Goals as goal

pub returns-in_err-volume : goal.returns-in_err-volume
returns-in_err-volume g c = unread_done c.args.job.now _ c.in_err-volume.field-0.0 _ c.in_err-volume.ensures.fault c.from_residual.ensures.1

pub returns-in-Ok : goal.returns-in-Ok
returns-in-Ok g c =
    let read = c.in_ok-volume in
    let input = read.field-0 in
    c.finish.ensures c.args.job.now (record {
      read = read.ensures.volume.0;
      was_validated = input.volume.was_validated;
      checked = input.volume.image;
      accepted = read.ensures.volume.1;
      scripts = scripts_of input.scripts.scripts.items;
      each = length-map input.scripts.scripts.items _ ∙ read.ensures.scripts;
      stamp = input.moment;
      stamped = read.ensures.stamp;
      closing = c.in-Ok.served.handler;
      serves = c.in-Ok.ensures.0;
    })

pub returns : goal.returns
returns g c = not_served c.args.job.now _ c.from.result c.from.ensures

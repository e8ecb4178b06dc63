use Rattle.std.proofs.Common.{Bool, ap, ◌∙◌}
use Rattle.adf_cli.specs.Maps.{map_form_of}
use Rattle.adf_cli.proofs.taking.map_form.Goals as goal

pub returns : goal.returns
returns c = λ tracks json is_tracks is_json.
    c.map_form_of.ensures
    ∙ ap (λ (b : Bool). map_form_of b c.flag.result) (c.flag-tracks.ensures.value tracks is_tracks)
    ∙ ap (λ (b : Bool). map_form_of tracks b) (c.flag.ensures.value json is_json)

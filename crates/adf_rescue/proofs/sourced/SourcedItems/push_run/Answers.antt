use Rattle.std.proofs.Common.{◌∷◌, [], append-nil, ap, ◌∙◌}
use Rattle.std.specs.Prelude.{flat_map}
use Rattle.std.proofs.lemmas.List.Concat.{flat_map-append}
use Rattle.adf_rescue.specs.Undelete.{file_in}
use Rattle.adf_rescue.specs.declared.sourced.Source.TheVariants.{Run}
use Rattle.adf_rescue.proofs.sourced.SourcedItems.push_run.Goals as goal

-- a run is no file of an entry
pub returns-clause-files : goal.returns-clause-files
returns-clause-files c =
    ap (flat_map file_in) c.in_ok-push.ensures.sources
    ∙ flat_map-append file_in c.args.self.now.sources.items (Run ∷ [])
    ∙ append-nil (flat_map file_in c.args.self.now.sources.items)

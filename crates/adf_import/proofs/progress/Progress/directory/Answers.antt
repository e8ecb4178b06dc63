use Rattle.std.proofs.Common.{ℕ, ◌<◌, sym, ◌∙◌, subst}
use Rattle.adf_import.proofs.Common.{HasDirectory}
use Rattle.adf_import.proofs.progress.Progress.directory.Goals as goal

pub returns-in-Some : goal.returns-in-Some
returns-in-Some c = λ image was. record {
  dir = subst (λ (key : ℕ). HasDirectory image key) (sym c.index.ensures) (was.progress.dirs c.in-Some.place c.index.result.now (subst (λ (n : ℕ). c.in-Some.place < n) (c.len.ensures ∙ c.args.self.now.dirs.ok.0) c.if-place-len.true));
  progress = was.progress;
}

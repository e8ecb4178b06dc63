use Rattle.ados_volume.proofs.Common.{List, ap, block_count, root_is, root_key, ℕ, ◌∙◌, ◌≡◌}
use Rattle.ados_volume.proofs.Looking.{root_directory, root_key_of}
use Rattle.ados_volume.proofs.volume.Volume.root.Goals as goal

here : (c : goal.After-root) → c.root.result ≡ root_key (block_count c.args.self.now.image)
here c = c.root.ensures ∙ ap (λ (image : List ℕ). root_key (block_count image)) c.image.ensures.same

pub returns-clause-root : goal.returns-clause-root
returns-clause-root c = λ t s. here c ∙ root_is c.args.self.now.image t s

pub returns-clause-directory : goal.returns-clause-directory
returns-clause-directory c = λ t s. root_directory c.args.self.now.image t s c.root.result (here c ∙ root_is c.args.self.now.image t s)

pub returns-clause-key : goal.returns-clause-key
returns-clause-key c = λ t s. root_key_of c.args.self.now.image t s c.root.result (here c ∙ root_is c.args.self.now.image t s)

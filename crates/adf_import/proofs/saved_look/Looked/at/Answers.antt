use Rattle.std.proofs.Common.{rules, ◌≡◌, subst}
use Rattle.adf_import.specs.declared.spots.Spot.{Spot}
use Rattle.adf_import.specs.steps.Spots.{IsFoundAt}
use Rattle.adf_import.proofs.saved_look.Looked.at.Goals as goal

pub returns : goal.returns
returns c = λ image saved own known.
    let same : c.args.self.now.spot ≡ c.args.spot = search rules in
    subst (λ (at : Spot). IsFoundAt image saved own at c.args.self.now.there) same known

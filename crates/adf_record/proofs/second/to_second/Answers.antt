use Rattle.adf_record.proofs.Common.{ℕ, Option, take, ap}
use Rattle.std.specs.Option.{option_map_or}
use Rattle.adf_record.proofs.second.to_second.Goals as goal

pub returns-in-Some : goal.returns-in-Some
returns-in-Some c = ap (λ (o : Option ℕ). option_map_or (λ place. take place c.args.date.now) o c.args.date.now) c.in-Some.ensures

pub returns-in-None : goal.returns-in-None
returns-in-None c = ap (λ (o : Option ℕ). option_map_or (λ place. take place c.args.date.now) o c.args.date.now) c.in-None.ensures

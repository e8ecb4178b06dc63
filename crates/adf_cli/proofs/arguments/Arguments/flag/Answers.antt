use Rattle.std.proofs.Common.{◌≡◌, Bool, true, false}
use Rattle.clap.specs.Matches.{found_of}
use Rattle.adf_cli.specs.Lists.{IsFlag}
use Rattle.adf_cli.proofs.arguments.Arguments.flag.Goals as goal

pub returns-clause-value : goal.returns-clause-value
returns-clause-value c = go
  where
    go : (given : Bool) → IsFlag (found_of c.args.self.now.words.now) c.args.id.now given → c.get_flag.result ≡ given
    go true is = c.get_flag.ensures.value is
    go false is = c.get_flag.ensures.other is

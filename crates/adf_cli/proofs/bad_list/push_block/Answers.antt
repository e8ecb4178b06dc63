use Rattle.std.specs.String.{string_bytes}
use Rattle.adf_cli.proofs.BadLines.{adds_block}
use Rattle.adf_cli.proofs.bad_list.push_block.Goals as goal

pub returns-in-Some-clause-right : goal.returns-in-Some-clause-right
returns-in-Some-clause-right c =
    adds_block c.args.blocks c.args.line.now (string_bytes c.in_ok-word.word) c.as_str.result.now c.in_ok-block.field-0 c.in-Some.block c.args.found.now.items c.push.new.self.items
    c.in_ok-word.ensures c.as_str.ensures.value c.in-Some.is c.in_ok-block.ensures.named c.in_ok-push-in-Some.ensures.items

use Rattle.std.proofs.Common.{ℕ, None, Some, ap, ◌∙◌, arith}
use Rattle.std.proofs.lemmas.Str.Pattern.{strip_prefix_char}
use Rattle.adf_cli.specs.declared.block_word.BlockWord.TheVariants.{Number}
use Rattle.adf_cli.proofs.Naming.{number_of}
use Rattle.adf_cli.proofs.block_word.read_block.Goals as goal

pub returns-in_err-read_number-in-None : goal.returns-in_err-read_number-in-None
returns-in_err-read_number-in-None c = λ block longs is.
    let n = number_of block c.args.word.now (strip_prefix_char 99 c.args.word.now None c.in-None.ensures.cases (omega arith)) longs is in
    absurd (c.in_err-read_number-in-None.ensures n.0 n.1 n.2)

pub returns-in_ok-read_number-in-None : goal.returns-in_ok-read_number-in-None
returns-in_ok-read_number-in-None c = λ block longs is.
    let n = number_of block c.args.word.now (strip_prefix_char 99 c.args.word.now None c.in-None.ensures.cases (omega arith)) longs is in
    ap (λ (number : ℕ). Some (Number number)) (c.in_ok-read_number-in-None.ensures n.0 n.1 n.2) ∙ ap Some n.3

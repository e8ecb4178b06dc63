use Rattle.adf_script.proofs.Common.{◌≡◌, false}
use Rattle.std.specs.Prelude.{is_some}
use Rattle.adf_script.proofs.FieldLemmas.{number_read, number_stop}
use Rattle.adf_script.proofs.fields.read_number.Goals as goal

pub returns-then-is_some : goal.returns-then-is_some
returns-then-is_some c =
    number_read c.args.values.now c.args.kind c.args.rest.now c.in_ok-line.line.now c.cut.result.0.now c.cut.result.1.now c.in_ok-line.ensures c.cut.ensures c.read-value.result c.read-value.ensures

pub returns : goal.returns
returns c =
    let none : is_some c.read-value.result ≡ false = cc
    in number_stop c.args.values.now c.args.kind c.args.rest.now c.in_ok-line.line.now c.cut.result.0.now c.cut.result.1.now c.in_ok-line.ensures c.cut.ensures c.read-value.result none c.read-value.ensures

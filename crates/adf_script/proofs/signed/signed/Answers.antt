use Rattle.adf_script.proofs.Numerals.{signed_is_text}
use Rattle.adf_script.proofs.signed.signed.Goals as goal

pub returns-in-Err : goal.returns-in-Err
returns-in-Err c = λ z spelled. c.in-Err.ensures.cases.0 (signed_is_text z c.args.field.now spelled)

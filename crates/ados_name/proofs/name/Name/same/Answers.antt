use Rattle.ados_name.proofs.NameLemmas.{same_case}
use Rattle.ados_name.proofs.name.Name.same.Goals as goal

pub returns : goal.returns
returns c =
    let test = rw (c.bytes.ensures.value, c.bytes-2.ensures.value) at c.eq_ignore_ascii_case.ensures.test in
    let cases = same_case c.args.self.now c.args.other.now in
    (λ yes. cases.0 (test.0 yes), λ same. test.1 (cases.1 same))

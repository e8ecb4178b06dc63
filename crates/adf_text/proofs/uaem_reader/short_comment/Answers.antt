use Rattle.adf_text.proofs.Common.{◌<◌, ◌≤◌, length, refl, ⊎_elim, cases_lt, false≢true}
use Rattle.adf_text.proofs.LettersLemmas.{All-bytes}
use Rattle.adf_text.proofs.uaem_reader.short_comment.Goals as goal

pub returns-in_default-clause-fault : goal.returns-in_default-clause-fault
returns-in_default-clause-fault c =
    let bytes = c.args.bytes.now in (
      refl,
      ⊎_elim (λ (long : 79 < length bytes). long)
          (λ (short : length bytes ≤ 79). absurd (false≢true (c.in_default.ensures.valid.1 (record { short = short; bytes = All-bytes bytes c.type_inv.bytes }))))
          (cases_lt 79 (length bytes)),
    )

-- The answer to DISK_INFO that the only client of a port takes.
use Rattle.std.specs.Prelude.{◌≡◌, ℕ, ◌-◌, List, length, Some, slice_get}
use Rattle.ados_model.specs.declared.answer.Answer.{Answer}
use Rattle.ados_port.specs.declared.step.{Outcome.Outcome, Outcome.TheVariants.Taken}
use Rattle.adf_serve.specs.Texts.{OfAccepted, disk_answer}

-- the last of these outcomes is a taken reply with this answer
abbrev pub TakesLast : {Q A : Type 0} → List (Outcome Q A) → A → Type 0
TakesLast outcomes answer = (number : ℕ) × (slice_get outcomes (length outcomes - 1) ≡ Some (Taken (record { number = number; answer = answer })))

-- the answer is that of DISK_INFO for the tree of the accepted image, which is unchanged
abbrev pub AnswersDisk : List ℕ → Answer → List ℕ → Type 0
AnswersDisk image answer = OfAccepted (λ was_validated checked t last. (last ≡ checked) × (answer ≡ disk_answer t)) image

-- The step of a walk that a value of the code stands for.
use Rattle.ados_name.specs.declared.path.Step.{Step as Taken}
use Rattle.ados_name.specs.declared.path.Step.TheVariants.{Parent, Child}
use Rattle.ados_name.specs.Name.{Step}
use Rattle.ados_name.specs.Name.Step.{ToParent, ToChild}

-- the step, with the bytes of the child's name
abbrev pub step_of : Taken → Step
step_of Parent = ToParent
step_of (Child name) = ToChild name.now

use Rattle.adf_script.proofs.Common.{sym, subst, arith, SpellsFields}
use Rattle.adf_script.specs.steps.Reading.{SpellsNone, ReadsValue, fields_by, values_of}
use Rattle.adf_script.proofs.FieldLemmas.{stopped, stops_here, stops_later, reads_on}
use Rattle.adf_script.proofs.fields.+read_fields.Goals as goal

pub returns-in_err-value : goal.returns-in_err-value
returns-in_err-value t c = stopped _ c.from_residual-in_err-value.result c.from_residual-in_err-value.ensures.0
    (subst (λ kinds. SpellsNone c.args.values.now kinds c.args.rest.now) (sym c.in-Some.ensures.cases.0)
    (stops_here c.args.values.now c.in-Some.kind.now c.in-Some.others.now c.args.rest.now c.in_err-value.ensures))

pub returns-in_err-fields : goal.returns-in_err-fields
returns-in_err-fields t c = stopped _ c.from_residual-in_err-fields.result c.from_residual-in_err-fields.ensures.0
    (subst (λ kinds. SpellsNone c.args.values.now kinds c.args.rest.now) (sym c.in-Some.ensures.cases.0)
    (stops_later c.args.values.now c.in-Some.kind.now c.in-Some.others.now c.args.rest.now c.in_ok-value.value c.in_ok-value.behind.now c.in_ok-value.ensures c.in_err-fields.ensures))

pub returns-in-Some-value : goal.returns-in-Some-value
returns-in-Some-value t c =
    let fields = c.in_ok-fields.fields
    in let first = c.in-Some-value.first
    in subst (λ kinds. SpellsFields c.args.values.now (fields_by kinds (values_of (record { first = first; second = fields.first; third = fields.second; fourth = fields.third; fifth = fields.fourth }))) c.args.rest.now) (sym c.in-Some.ensures.cases.0)
    (reads_on c.args.values.now c.in-Some.kind.now c.in-Some.others.now c.args.rest.now first fields.first fields.second fields.third fields.fourth fields.fifth c.in_ok-value.behind.now
    (subst (λ found. ReadsValue c.args.values.now c.in-Some.kind.now c.args.rest.now found c.in_ok-value.behind.now) c.in-Some-value.is c.in_ok-value.ensures)
    (omega (arith, c.requires, c.in-Some.ensures.cases.1)) c.in_ok-fields.ensures)

pub returns-in-None : goal.returns-in-None
returns-in-None t c =
    subst (λ kinds. SpellsNone c.args.values.now kinds c.args.rest.now) (sym c.in-Some.ensures.cases.0)
    (stops_here c.args.values.now c.in-Some.kind.now c.in-Some.others.now c.args.rest.now
    (subst (λ found. ReadsValue c.args.values.now c.in-Some.kind.now c.args.rest.now found c.in_ok-value.behind.now) c.in-None.is c.in_ok-value.ensures))

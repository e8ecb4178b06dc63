use Rattle.ados_faults.proofs.Common.{ℕ, ◌≡◌, ◌<◌, ◌+◌, ◌*◌, length, true, set, sym, ap, subst, ◌∙◌, arith, Taken, AreBacked, lacks, part_rank, taken_at, with_number}
use Rattle.ados_faults.proofs.Covering.{backed_set, covered_old, part_small, taken_read}
use Rattle.ados_faults.proofs.roles.Roles.take_number.Goals as goal

pub returns-in_default-clause-covered : goal.returns-in_default-clause-covered
returns-in_default-clause-covered c = λ _ steps back.
    let cells = c.args.self.now.cells.items in
    let within : 5 * c.args.block + c.rank_of.result < length cells = omega (arith, c.rank_of.ensures.small, c.requires.size, c.requires.inside) in
    let read : taken_at cells c.args.block c.args.part ≡ c.index.result.now = taken_read cells c.args.block c.args.part c.rank_of.result c.index.result.now c.rank_of.ensures.rank within c.index.ensures in
    covered_old cells steps c.args.block c.args.part c.args.number (ap (lacks c.args.number) read ∙ c.in_default.ensures) back

pub returns-clause-backed : goal.returns-clause-backed
returns-clause-backed c = λ steps back has.
    let cells = c.args.self.now.cells.items in
    let within : 5 * c.args.block + c.rank_of.result < length cells = omega (arith, c.rank_of.ensures.small, c.requires.size, c.requires.inside) in
    let there : 5 * c.args.block + part_rank c.args.part < length cells = omega (arith, part_small c.args.part, c.requires.size, c.requires.inside) in
    let read : taken_at cells c.args.block c.args.part ≡ c.index.result.now = taken_read cells c.args.block c.args.part c.rank_of.result c.index.result.now c.rank_of.ensures.rank within c.index.ensures in
    let new : lacks c.args.number (taken_at cells c.args.block c.args.part) ≡ true = ap (lacks c.args.number) read ∙ c.in-Some.ensures.0 in
    let is : with_number c.args.number (taken_at cells c.args.block c.args.part) ≡ c.in-Some.more = ap (with_number c.args.number) read ∙ sym c.in-Some.ensures.1 in
    subst (λ (r : ℕ). AreBacked (set cells (5 * c.args.block + r) c.in-Some.more) steps) (sym c.rank_of.ensures.rank)
    (subst (λ (t : Taken). AreBacked (set cells (5 * c.args.block + part_rank c.args.part) t) steps) is (backed_set cells steps c.args.block c.args.part c.args.number there new back has))

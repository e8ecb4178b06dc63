use Rattle.ados_faults.proofs.Common.{sym, ap, refl, ◌∙◌, subst, get, SourceView, HasShortName, name_cmp, upper_name}
use Rattle.ados_faults.proofs.Sameness.{known_more, known_stay}
use Rattle.ados_faults.proofs.names.first_with_name.Goals as goal

pub returns-clause-known : goal.returns-clause-known
returns-clause-known c =
    let name = c.upper_name-name.ensures ∙ ap (λ (s : SourceView). upper_name s.bytes c.args.block) c.whole-source.ensures in
    known_more c.args.known.now c.insert.new.self c.upper_name-name.result c.args.block (sym c.in_default.ensures.value) c.in_ok-insert.ensures.updates.0 c.args.image.now c.requires.known c.requires.inside (sym name)

pub returns-clause-kept : goal.returns-clause-kept
returns-clause-kept c = known_stay c.args.known.now c.insert.new.self c.upper_name-name.result c.args.block (sym c.in_default.ensures.value) c.in_ok-insert.ensures.updates.0

pub returns-clause-first : goal.returns-clause-first
returns-clause-first c =
    let name = c.upper_name-name.ensures ∙ ap (λ (s : SourceView). upper_name s.bytes c.args.block) c.whole-source.ensures in
    let short = subst (λ (s : SourceView). HasShortName s.bytes c.args.block) c.whole-source.ensures (c.if-not-has_short_name.ensures.0 refl) in
    (short, ap (get name_cmp c.insert.new.self) (sym name) ∙ c.in_ok-insert.ensures.updates.1)

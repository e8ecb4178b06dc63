use Rattle.adf_where.proofs.Common.{ℕ, List, ◌++◌, ◌∙◌, subst, AllZip, IsFaultyBlock}
use Rattle.adf_where.specs.Faulty.{IsFaultyWhere}
use Rattle.adf_where.specs.steps.Parts.{blocks_text}
use Rattle.adf_where.proofs.Leaving.{leaves_front}
use Rattle.adf_where.proofs.TellingFaulty.{faulty_text}
use Rattle.adf_where.proofs.faulty_where.write_faulty_where.Goals as goal

pub returns-in-Ok-write_faulty-clause-ok : goal.returns-in-Ok-write_faulty-clause-ok
returns-in-Ok-write_faulty-clause-ok g c =
    let image = c.args.image.now in
    let reason = c.args.reason in
    let text = c.deref-5.result.now ++ blocks_text c.args.asking.json c.blocks-count.result c.deref-4.result.now in
    let told = c.in_ok-told.told.items in
    let are = subst (λ (blocks : List ℕ). AllZip (IsFaultyBlock image c.args.asking.unread.now) blocks told) c.deref-3.ensures.value c.in_ok-told.ensures in
    let is = faulty_text c.args.asking.json c.args.asking.unread.now image reason.kind.now reason.block c.args.asking.words.now c.blocks-count.result c.in-Ok.blocks.items told c.deref-4.result.now c.deref-5.result.now
    c.blocks-count.ensures.count c.in-Ok.ensures.named are c.deref-4.ensures.value (c.deref-5.ensures.value ∙ c.in_ok-front.ensures) in
    (text, c.in-Ok-write_faulty.ensures.ok, is)

pub returns-clause-front : goal.returns-clause-front
returns-clause-front g c =
    let image = c.args.image.now in
    let reason = c.args.reason in
    let text = c.deref-5.result.now ++ blocks_text c.args.asking.json c.blocks-count.result c.deref-4.result.now in
    let told = c.in_ok-told.told.items in
    let are = subst (λ (blocks : List ℕ). AllZip (IsFaultyBlock image c.args.asking.unread.now) blocks told) c.deref-3.ensures.value c.in_ok-told.ensures in
    let is = faulty_text c.args.asking.json c.args.asking.unread.now image reason.kind.now reason.block c.args.asking.words.now c.blocks-count.result c.in-Ok.blocks.items told c.deref-4.result.now c.deref-5.result.now
    c.blocks-count.ensures.count c.in-Ok.ensures.named are c.deref-4.ensures.value (c.deref-5.ensures.value ∙ c.in_ok-front.ensures) in
    leaves_front (IsFaultyWhere c.args.asking.json c.args.asking.unread.now image reason.kind.now reason.block c.args.asking.words.now) _ _ c.in-Err-write_faulty.fault c.from.result c.from.ensures
    (text, is, c.in-Err-write_faulty.ensures.front)

use Rattle.std.proofs.Common.{length, sym, ◌∙◌, subst}
use Rattle.ados_salvage.specs.steps.Parts.{AreOnce}
use Rattle.ados_salvage.proofs.SoundParts.{lawful_file, lawful_data_blocks, lawful_once}
use Rattle.ados_salvage.proofs.FileBlocks.{intact_known, own_below}
use Rattle.ados_salvage.proofs.known.intact.own_blocks.Goals as goal

pub returns-in_default-clause-own : goal.returns-in_default-clause-own
returns-in_default-clause-own c = λ h. (rw c.in_default.is at c.in_ok-blocks.ensures) (intact_known c.args.image.now c.args.file h)

pub returns-then-not-has_data-clause-own : goal.returns-then-not-has_data-clause-own
returns-then-not-has_data-clause-own c = λ h. (rw c.if-not-has_data.true at c.has_data.ensures) (lawful_data_blocks c.args.image.now c.args.file h.lawful)

pub are_once-requires-clause-inside : goal.are_once-requires-clause-inside
are_once-requires-clause-inside c =
    let held = rw c.in-Some.is at c.in_ok-blocks.ensures in
    own_below c.args.image.now c.args.file c.deref-2.result.now (length c.args.users.now.items) held.0.holders (rw c.if-not-has_data.false at c.has_data.ensures) (c.deref-2.ensures.value ∙ held.1) c.requires.users.size

pub returns-then-not-are_once-clause-own : goal.returns-then-not-are_once-clause-own
returns-then-not-are_once-clause-own c = λ h.
    let held = rw c.in-Some.is at c.in_ok-blocks.ensures in
    (rw c.if-not-are_once.true at c.are_once.ensures.once) (subst AreOnce (sym (c.deref-2.ensures.value ∙ held.1)) (lawful_once c.args.image.now c.args.file h.lawful))

pub returns-clause-own : goal.returns-clause-own
returns-clause-own c =
    let held = rw c.in-Some.is at c.in_ok-blocks.ensures in
    let once = subst AreOnce (c.deref-2.ensures.value ∙ held.1) (rw c.if-not-are_once.false at c.are_once.ensures.once) in (
      record {
        header = c.is_sound_header.ensures.0 c.if-not-is_sound_header.false;
        is_file = c.is_file.ensures.0 c.if-not-is_file.false;
        lawful = lawful_file c.args.image.now c.args.file held.0.holders (rw c.if-not-has_data.false at c.has_data.ensures) once;
      },
      held.1,
    )

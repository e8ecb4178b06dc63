use Rattle.adf_where.proofs.Common.{◌≤◌, Bool, false, subst, arith}
use Rattle.std.specs.Prelude.{MatchBool}
use Rattle.adf_block.specs.declared.layout.TheConstants.{BOOT_BLOCKS}
use Rattle.adf_where.specs.FaultyMap.{ShowsAt}
use Rattle.adf_where.specs.steps.Named.{AreOneLong}
use Rattle.adf_where.proofs.Mapping.{not_twice, plain_marked}
use Rattle.adf_where.proofs.faulty_map.mark_of.Goals as goal
use Rattle.adf_where.proofs.faulty_map.mark_of.Goals.{else-block-ge-BOOT_BLOCKS-via-then-block-ge-BOOT_BLOCKS+else-has_two_longs, else-block-ge-BOOT_BLOCKS-via-else-block-ge-BOOT_BLOCKS}

pub returns-then-shows_fault : goal.returns-then-shows_fault
returns-then-shows_fault c =
    let image = c.args.image.now in
    let block = c.args.block in
    let one : BOOT_BLOCKS ≤ block → AreOneLong c.args.places.now =
    λ behind. elim c.else-block-ge-BOOT_BLOCKS.branch [
      | else-block-ge-BOOT_BLOCKS-via-then-block-ge-BOOT_BLOCKS+else-has_two_longs w ↦ w.if-has_two_longs.ensures
      | else-block-ge-BOOT_BLOCKS-via-else-block-ge-BOOT_BLOCKS w ↦ absurd (omega (arith, behind, w.if-block-ge-BOOT_BLOCKS.false))
    ] in (
      not_twice image block c.args.places.now c.requires.places (λ inside. one inside.0),
      subst (λ (b : Bool). MatchBool b (ShowsAt image block) (¬ ShowsAt image block)) c.if-shows_fault.true (c.shows_fault.ensures image c.requires.found),
    )

pub plain_mark-requires-clause-once : goal.plain_mark-requires-clause-once
plain_mark-requires-clause-once c = λ behind. elim c.else-block-ge-BOOT_BLOCKS.branch [
  | else-block-ge-BOOT_BLOCKS-via-then-block-ge-BOOT_BLOCKS+else-has_two_longs w ↦ w.if-has_two_longs.ensures
  | else-block-ge-BOOT_BLOCKS-via-else-block-ge-BOOT_BLOCKS w ↦ absurd (omega (arith, behind, w.if-block-ge-BOOT_BLOCKS.false))
]

pub returns : goal.returns
returns c =
    let image = c.args.image.now in
    let block = c.args.block in
    let one : BOOT_BLOCKS ≤ block → AreOneLong c.args.places.now =
    λ behind. elim c.else-block-ge-BOOT_BLOCKS.branch [
      | else-block-ge-BOOT_BLOCKS-via-then-block-ge-BOOT_BLOCKS+else-has_two_longs w ↦ w.if-has_two_longs.ensures
      | else-block-ge-BOOT_BLOCKS-via-else-block-ge-BOOT_BLOCKS w ↦ absurd (omega (arith, behind, w.if-block-ge-BOOT_BLOCKS.false))
    ] in
    plain_marked image block c.plain_mark.result (not_twice image block c.args.places.now c.requires.places (λ inside. one inside.0))
    (subst (λ (b : Bool). MatchBool b (ShowsAt image block) (¬ ShowsAt image block)) c.if-shows_fault.false (c.shows_fault.ensures image c.requires.found))
    c.plain_mark.ensures

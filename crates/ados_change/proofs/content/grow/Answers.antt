use Rattle.ados_change.proofs.Common.{◌≡◌, ◌≢◌, ℕ, ◌-◌, ◌++◌, List, length, replicate, ap, ◌∙◌, subst, refl, arith, bytes_of, data_blocks, extension_blocks, contents, Stands, rewritten}
use Rattle.ados_change.proofs.Relaid.{of_gains, IsRewritten}
use Rattle.ados_change.proofs.Renewed.{bytes_in, size_in, room_enough, lacks_room, mid_writable, below_mid, same_contents, same_place, same_room, stands_rewritten, keeps_rest}
use Rattle.ados_change.proofs.Keeping.{same_keeps}
use Rattle.ados_change.proofs.content.grow.Goals as goal

pub returns-then-not-has_room-clause-done : goal.returns-then-not-has_room-clause-done
returns-then-not-has_room-clause-done c =
    (refl, λ t s. lacks_room c.args.image.now t s c.args.file c.args.size c.requires.file c.if-not-has_room.ensures)

pub extend_near-bound-requires : goal.extend_near-bound-requires
extend_near-bound-requires c =
    let same = ap length (same_contents c.args.moment c.args.image.now c.stamp.new.image c.args.file c.requires.tree c.requires.file c.stamp.ensures) in
    let size = size_in c.args.image.now c.requires.tree.0 c.requires.tree.1 c.args.file c.requires.file in
    record {
      writable = mid_writable c.args.moment c.args.image.now c.stamp.new.image c.args.file c.requires.tree c.requires.file c.stamp.ensures;
      near = same_place c.args.moment c.args.image.now c.stamp.new.image c.args.file c.requires.tree c.requires.file c.stamp.ensures c.args.near c.requires.near;
      below = below_mid c.args.moment c.args.image.now c.stamp.new.image c.args.file c.requires.tree c.requires.file c.stamp.ensures c.args.from c.requires.below;
      longer = omega (arith, same, size, c.requires.longer c.requires.tree.0 c.requires.tree.1);
      free = same_room c.args.moment c.args.image.now c.stamp.new.image c.args.file c.requires.tree c.requires.file c.stamp.ensures c.args.size c.if-not-has_room.ensures;
    }

-- the file is rewritten, with as many more blocks as it needs
grown_long : (c : goal.Else-prove) → IsRewritten c.stamp.new.image c.args.file (data_blocks c.stamp.new.image c.args.file) (extension_blocks c.stamp.new.image c.args.file) c.extend_near-bound.new.image (data_blocks c.extend_near-bound.new.image c.args.file) (extension_blocks c.extend_near-bound.new.image c.args.file) (contents c.extend_near-bound.new.image c.args.file)
grown_long c =
    of_gains (mid_writable c.args.moment c.args.image.now c.stamp.new.image c.args.file c.requires.tree c.requires.file c.stamp.ensures) c.extend_near-bound.ensures.grown

-- its bytes are other than before
not_as_long : (c : goal.Else-prove) → contents c.extend_near-bound.new.image c.args.file ≢ contents c.stamp.new.image c.args.file
not_as_long c same =
    let before = ap length (same_contents c.args.moment c.args.image.now c.stamp.new.image c.args.file c.requires.tree c.requires.file c.stamp.ensures) in
    let size = size_in c.args.image.now c.requires.tree.0 c.requires.tree.1 c.args.file c.requires.file in
    omega (arith, c.extend_near-bound.ensures.grown.sized, ap length same, before, size, c.requires.longer c.requires.tree.0 c.requires.tree.1)

pub returns-clause-done : goal.returns-clause-done
returns-clause-done c = λ t s.
    let same = same_contents c.args.moment c.args.image.now c.stamp.new.image c.args.file c.requires.tree c.requires.file c.stamp.ensures ∙ bytes_in c.args.image.now t s c.args.file c.requires.file in
    let bytes : contents c.extend_near-bound.new.image c.args.file ≡ bytes_of t c.args.file ++ replicate (c.args.size - length (bytes_of t c.args.file)) 0 =
    c.extend_near-bound.ensures.bytes ∙ ap (λ (xs : List ℕ). xs ++ replicate (c.args.size - length xs) 0) same in (
      room_enough c.args.image.now t s c.args.file c.args.size c.requires.file c.if-not-has_room.ensures,
      subst (λ (xs : List ℕ). Stands c.extend_near-bound.new.image (rewritten c.args.moment c.args.file xs t)) bytes
          (stands_rewritten c.args.moment c.args.image.now c.stamp.new.image c.args.file c.requires.tree c.requires.file c.stamp.ensures c.extend_near-bound.new.image (grown_long c) t s),
    )

pub returns-clause-keeps : goal.returns-clause-keeps
returns-clause-keeps c =
    keeps_rest c.args.moment c.args.image.now c.stamp.new.image c.args.file c.requires.tree c.requires.file c.stamp.ensures c.extend_near-bound.new.image (grown_long c) c.extend_near-bound.ensures.grown.keeps
    (λ same. absurd (not_as_long c same)) c.blocks-2.ensures.image c.extend_near-bound.ensures.grown.gains.lowest c.extend_near-bound.ensures.grown.gains.data_rises c.extend_near-bound.ensures.grown.gains.extensions_rise c.extend_near-bound.ensures.grown.gains.in_turn

pub returns-then-not-has_room-clause-keeps : goal.returns-then-not-has_room-clause-keeps
returns-then-not-has_room-clause-keeps c = same_keeps c.args.image.now

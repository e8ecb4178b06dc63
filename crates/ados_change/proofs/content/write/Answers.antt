use Rattle.ados_change.proofs.Common.{◌≡◌, ◌≢◌, ℕ, ◌+◌, ◌≤◌, max, List, [], ◌∷◌, length, ap, ◌∙◌, sym, subst, refl, arith, eqb-true, eqb-false, ltb-true, Date3, block_cost, Tree, bytes_of, size_of, data_blocks, extension_blocks, contents, rewritten, written, overlaid, HasFree, Stands, NeedsMore}
use Rattle.ados_change.proofs.Relaid.{of_gains, IsRewritten}
use Rattle.ados_change.proofs.Renewed.{bytes_in, size_in, room_enough, lacks_room, mid_writable, below_mid, same_contents, same_place, same_room, stands_rewritten, keeps_rest}
use Rattle.ados_change.proofs.Keeping.{same_keeps}
use Rattle.ados_change.proofs.content.write.Goals as goal

-- no bytes: nothing is written, and no blocks are needed
none_written : (image : List ℕ) (moment : Date3) (file pos : ℕ) (bytes : List ℕ) (t : Tree) → length bytes ≡ 0 → Stands image t → Stands image (written moment file pos bytes t)
none_written image moment file pos [] t e s = s
none_written image moment file pos (x ∷ xs) t e s = absurd (omega (arith, e))

none_needed : (file pos n : ℕ) (t : Tree) → n ≡ 0 → pos ≤ size_of t file → ¬ NeedsMore t file (max (size_of t file) (pos + n))
none_needed file pos n t e l more =
    let same : max (size_of t file) (pos + n) ≡ size_of t file = omega (arith, e, l) in
    omega (arith, ltb-true _ _ more, ap (block_cost t.format) same)

-- some bytes are written over those of the file
some_written : (moment : Date3) (file pos : ℕ) (bytes : List ℕ) (t : Tree) → length bytes ≢ 0 → rewritten moment file (overlaid (bytes_of t file) pos bytes) t ≡ written moment file pos bytes t
some_written moment file pos [] t n = absurd (n refl)
some_written moment file pos (x ∷ xs) t n = refl

pub returns-then-is_empty-clause-done : goal.returns-then-is_empty-clause-done
returns-then-is_empty-clause-done c = λ t s.
    let none : length c.args.bytes.now ≡ 0 = eqb-true (length c.args.bytes.now) 0 (sym c.if-is_empty.ensures) in (
      none_needed c.args.file c.args.pos (length c.args.bytes.now) t none (c.requires.start t s),
      none_written c.args.image.now c.args.moment c.args.file c.args.pos c.args.bytes.now t none s,
    )

pub returns-then-not-has_room-clause-done : goal.returns-then-not-has_room-clause-done
returns-then-not-has_room-clause-done c = (
  refl,
  λ t s.
      let size = c.max-size.ensures ∙ ap (λ (n : ℕ). max n (c.args.pos + length c.args.bytes.now)) (c.size_of.ensures t s) in
      subst (NeedsMore t c.args.file) size (lacks_room c.args.image.now t s c.args.file c.max-size.result c.requires.file c.if-not-has_room.ensures),
)

pub write_near-bound-requires : goal.write_near-bound-requires
write_near-bound-requires c =
    let same = ap length (same_contents c.args.moment c.args.image.now c.stamp.new.image c.args.file c.requires.tree c.requires.file c.stamp.ensures) in
    let size = size_in c.args.image.now c.requires.tree.0 c.requires.tree.1 c.args.file c.requires.file in
    let end = c.max-size.ensures ∙ ap (λ (n : ℕ). max n (c.args.pos + length c.args.bytes.now)) (c.size_of.ensures c.requires.tree.0 c.requires.tree.1 ∙ sym (same ∙ size)) in
    record {
      writable = mid_writable c.args.moment c.args.image.now c.stamp.new.image c.args.file c.requires.tree c.requires.file c.stamp.ensures;
      near = same_place c.args.moment c.args.image.now c.stamp.new.image c.args.file c.requires.tree c.requires.file c.stamp.ensures c.args.near c.requires.near;
      below = below_mid c.args.moment c.args.image.now c.stamp.new.image c.args.file c.requires.tree c.requires.file c.stamp.ensures c.args.from c.requires.below;
      start = omega (arith, same, size, c.requires.start c.requires.tree.0 c.requires.tree.1);
      free = subst (HasFree c.stamp.new.image c.args.file) end (same_room c.args.moment c.args.image.now c.stamp.new.image c.args.file c.requires.tree c.requires.file c.stamp.ensures c.max-size.result c.if-not-has_room.ensures);
    }

-- the file is rewritten, with as many more blocks as it needs
written_over : (c : goal.Else-prove-2) → IsRewritten c.stamp.new.image c.args.file (data_blocks c.stamp.new.image c.args.file) (extension_blocks c.stamp.new.image c.args.file) c.write_near-bound.new.image (data_blocks c.write_near-bound.new.image c.args.file) (extension_blocks c.write_near-bound.new.image c.args.file) (contents c.write_near-bound.new.image c.args.file)
written_over c =
    of_gains (mid_writable c.args.moment c.args.image.now c.stamp.new.image c.args.file c.requires.tree c.requires.file c.stamp.ensures) c.write_near-bound.ensures.grown

pub returns-clause-done : goal.returns-clause-done
returns-clause-done c = λ t s.
    let same = same_contents c.args.moment c.args.image.now c.stamp.new.image c.args.file c.requires.tree c.requires.file c.stamp.ensures ∙ bytes_in c.args.image.now t s c.args.file c.requires.file in
    let bytes : contents c.write_near-bound.new.image c.args.file ≡ overlaid (bytes_of t c.args.file) c.args.pos c.args.bytes.now =
    c.write_near-bound.ensures.bytes ∙ ap (λ (xs : List ℕ). overlaid xs c.args.pos c.args.bytes.now) same in
    let size = c.max-size.ensures ∙ ap (λ (n : ℕ). max n (c.args.pos + length c.args.bytes.now)) (c.size_of.ensures t s) in
    let some : length c.args.bytes.now ≢ 0 = eqb-false (length c.args.bytes.now) 0 (sym c.if-is_empty.ensures) in (
      subst (λ (n : ℕ). ¬ NeedsMore t c.args.file n) size (room_enough c.args.image.now t s c.args.file c.max-size.result c.requires.file c.if-not-has_room.ensures),
      subst (Stands c.write_near-bound.new.image) (some_written c.args.moment c.args.file c.args.pos c.args.bytes.now t some)
          (subst (λ (xs : List ℕ). Stands c.write_near-bound.new.image (rewritten c.args.moment c.args.file xs t)) bytes
          (stands_rewritten c.args.moment c.args.image.now c.stamp.new.image c.args.file c.requires.tree c.requires.file c.stamp.ensures c.write_near-bound.new.image (written_over c) t s)),
    )

pub returns-clause-keeps : goal.returns-clause-keeps
returns-clause-keeps c =
    keeps_rest c.args.moment c.args.image.now c.stamp.new.image c.args.file c.requires.tree c.requires.file c.stamp.ensures c.write_near-bound.new.image (written_over c) c.write_near-bound.ensures.grown.keeps
    (λ same. c.blocks-2.ensures.image) c.blocks-3.ensures.image c.write_near-bound.ensures.grown.gains.lowest c.write_near-bound.ensures.grown.gains.data_rises c.write_near-bound.ensures.grown.gains.extensions_rise c.write_near-bound.ensures.grown.gains.in_turn

pub returns-then-is_empty-clause-keeps : goal.returns-then-is_empty-clause-keeps
returns-then-is_empty-clause-keeps c = same_keeps c.args.image.now

pub returns-then-not-has_room-clause-keeps : goal.returns-then-not-has_room-clause-keeps
returns-then-not-has_room-clause-keeps c = same_keeps c.args.image.now

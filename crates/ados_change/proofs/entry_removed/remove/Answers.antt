use Rattle.ados_change.proofs.Common.{CanRemove, Tree, one_tree, size_of, subst, KeepsBlock, ◌≡◌, ℕ, ◌+◌, ◌/◌, List, length, slice_index, sym, ap, ◌∙◌, arith, InBlock, OnlyBlock, byte_at, byte-bytes_at, same_weaken}
use Rattle.ados_change.proofs.Emptier.{keeps_away, key_inside, stands_away, taken_away, takes_none}
use Rattle.ados_change.proofs.entry_removed.remove.Goals as goal

pub block-requires : goal.block-requires
block-requires c = key_inside c.args.image.now c.requires.tree.0 c.requires.tree.1 c.args.key (c.requires.can c.requires.tree.0 c.requires.tree.1)

pub remove_empty-requires : goal.remove_empty-requires
remove_empty-requires c =
    let e = c.empty.ensures.empties c.requires.tree.0 c.requires.tree.1 in
    record {
      tree = (e.0, e.1);
      can = λ v s. subst (λ (x : Tree). CanRemove x c.args.key) (one_tree c.empty.new.image e.0 v e.1 s) e.2.can;
      empty = λ v s. subst (λ (x : Tree). size_of x c.args.key ≡ 0) (one_tree c.empty.new.image e.0 v e.1 s) e.2.no_bytes;
    }

pub put_bytes-requires-clause-inside : goal.put_bytes-requires-clause-inside
put_bytes-requires-clause-inside c =
    let inside = key_inside c.args.image.now c.requires.tree.0 c.requires.tree.1 c.args.key (c.requires.can c.requires.tree.0 c.requires.tree.1) in
    let between = c.empty.ensures.empties c.requires.tree.0 c.requires.tree.1 in
    let size = (c.remove_empty.ensures.changed between.0 between.1).same_length ∙ c.empty.ensures.keeps.kept.size in
    omega (arith, inside, ap (λ (n : ℕ). n / 512) size)

-- only the entry's own block is written again
written_back : (c : goal.Else-prove) → OnlyBlock c.args.key c.remove_empty.new.image c.put_bytes.new.self
written_back c = same_weaken _ (InBlock c.args.key) c.remove_empty.new.image c.put_bytes.new.self (λ b i w. w.0) c.put_bytes.ensures.rest

pub returns : goal.returns
returns c =
    let t = c.requires.tree.0 in
    let st = c.requires.tree.1 in
    let header = c.copy_from_slice.ensures.after ∙ c.block.ensures.bytes in
    let whole : length c.copy_from_slice.new.self ≡ 512 = ap length c.copy_from_slice.ensures.after ∙ c.block.ensures.length in
    let dead : KeepsBlock c.args.key c.args.image.now c.put_bytes.new.self = λ i l.
    let at : 0 + i ≡ i = omega arith in
    ap (byte_at c.put_bytes.new.self c.args.key) (sym at) ∙ c.put_bytes.ensures.put i (omega (arith, l, whole)) ∙ ap (λ (xs : List ℕ). slice_index xs i) header
    ∙ byte-bytes_at c.args.image.now c.args.key 0 512 i l ∙ ap (byte_at c.args.image.now c.args.key) at in
    record {
      stands = λ t s.
          stands_away c.args.moment c.args.key c.args.image.now c.empty.new.image c.remove_empty.new.image c.put_bytes.new.self t s (c.requires.can t s) c.empty.ensures.keeps c.empty.ensures.none
          c.empty.ensures.empties c.remove_empty.ensures.changed c.remove_empty.ensures.gives
          (taken_away c.args.moment c.args.key c.args.image.now c.empty.new.image t s c.empty.ensures.empties c.remove_empty.new.image c.remove_empty.ensures.stands) (written_back c);
      keeps =
          keeps_away c.args.moment c.args.key c.args.image.now c.empty.new.image c.remove_empty.new.image c.put_bytes.new.self t st (c.requires.can t st) c.empty.ensures.keeps c.empty.ensures.none
          c.empty.ensures.empties c.remove_empty.ensures.changed c.remove_empty.ensures.gives
          (taken_away c.args.moment c.args.key c.args.image.now c.empty.new.image t st c.empty.ensures.empties c.remove_empty.new.image c.remove_empty.ensures.stands) (written_back c)
          c.remove_empty.ensures.untold c.empty.ensures.only dead c.blocks-2.ensures.image;
      none =
          takes_none c.args.moment c.args.key c.args.image.now c.empty.new.image c.remove_empty.new.image c.put_bytes.new.self t st (c.requires.can t st) c.empty.ensures.keeps c.empty.ensures.none
          c.empty.ensures.empties c.remove_empty.ensures.changed c.remove_empty.ensures.gives
          (taken_away c.args.moment c.args.key c.args.image.now c.empty.new.image t st c.empty.ensures.empties c.remove_empty.new.image c.remove_empty.ensures.stands) (written_back c);
      dead = dead;
    }

use Rattle.ados_change.proofs.Common.{◌≡◌, ℕ, inl, inr, List, length, take, ap, ◌∙◌, sym, subst, arith, false≢true, length-take, data_count, extension_count, bytes_of, format_of, data_blocks, extension_blocks, contents, Stands, rewritten}
use Rattle.ados_change.proofs.Relaid.{of_cut, IsRewritten}
use Rattle.ados_change.proofs.Renewed.{bytes_in, size_in, mid_writable, same_contents, header_stamped, stands_rewritten, keeps_rest, inside_mid, marks_mid, beside_mid}
use Rattle.ados_change.proofs.content.cut.Goals as goal

pub cut-requires : goal.cut-requires
cut-requires c =
    let same = ap length (same_contents c.args.moment c.args.image.now c.stamp.new.image c.args.file c.requires.tree c.requires.file c.stamp.ensures) in
    let size = size_in c.args.image.now c.requires.tree.0 c.requires.tree.1 c.args.file c.requires.file in
    record {
      writable = mid_writable c.args.moment c.args.image.now c.stamp.new.image c.args.file c.requires.tree c.requires.file c.stamp.ensures;
      shorter = omega (arith, same, size, c.requires.shorter c.requires.tree.0 c.requires.tree.1);
    }

-- the file is rewritten in its first blocks
cut_short : (c : goal.Else-prove-2) → IsRewritten c.stamp.new.image c.args.file (data_blocks c.stamp.new.image c.args.file) (extension_blocks c.stamp.new.image c.args.file) c.cut.new.image (data_blocks c.cut.new.image c.args.file) (extension_blocks c.cut.new.image c.args.file) (contents c.cut.new.image c.args.file)
cut_short c =
    let e = c.cut.ensures in
    let count = data_count (format_of c.stamp.new.image) c.args.size in
    of_cut c.stamp.new.image c.cut.new.image c.args.file count (extension_count count) e.writable e.format e.leaves e.free_stays e.blocks e.extensions e.freed e.freed_extensions

pub returns : goal.returns
returns c = record {
  stands = λ t s.
      let same = same_contents c.args.moment c.args.image.now c.stamp.new.image c.args.file c.requires.tree c.requires.file c.stamp.ensures in
      let bytes : contents c.cut.new.image c.args.file ≡ take c.args.size (bytes_of t c.args.file) = c.cut.ensures.bytes ∙ ap (take c.args.size) (same ∙ bytes_in c.args.image.now t s c.args.file c.requires.file) in
      subst (λ (xs : List ℕ). Stands c.cut.new.image (rewritten c.args.moment c.args.file xs t)) bytes
      (stands_rewritten c.args.moment c.args.image.now c.stamp.new.image c.args.file c.requires.tree c.requires.file c.stamp.ensures c.cut.new.image (cut_short c) t s);
  keeps =
      keeps_rest c.args.moment c.args.image.now c.stamp.new.image c.args.file c.requires.tree c.requires.file c.stamp.ensures c.cut.new.image (cut_short c) c.cut.ensures.keeps
      (λ same. c.blocks-2.ensures.image) c.blocks-3.ensures.image
      (λ a b i two below was is. absurd (false≢true (sym is ∙ c.cut.ensures.free_stays b i was)))
      (λ i j l m n. absurd (omega (arith, l, m, n, ap length c.cut.ensures.blocks, length-take (data_count (format_of c.stamp.new.image) c.args.size) (data_blocks c.stamp.new.image c.args.file))))
      (λ i j l m n. absurd (omega (arith, l, m, n, ap length c.cut.ensures.extensions, length-take (extension_count (data_count (format_of c.stamp.new.image) c.args.size)) (extension_blocks c.stamp.new.image c.args.file))))
      (λ q i l m n k. absurd (omega (arith, n, k, ap length c.cut.ensures.blocks, length-take (data_count (format_of c.stamp.new.image) c.args.size) (data_blocks c.stamp.new.image c.args.file))));
  none = λ b inside free.
      c.cut.ensures.free_stays b (inside_mid c.args.moment c.args.image.now c.stamp.new.image c.args.file c.requires.tree c.requires.file c.stamp.ensures b inside)
      (marks_mid c.args.moment c.args.image.now c.stamp.new.image c.args.file c.requires.tree c.requires.file c.stamp.ensures b inside ∙ free);
  header = λ k l fields stamps.
      c.cut.ensures.header k l fields ∙ header_stamped c.args.moment c.args.image.now c.stamp.new.image c.args.file c.requires.tree c.requires.file c.stamp.ensures k l stamps;
  others = λ b i l beside apart.
      c.cut.ensures.keeps.others b i l
      (beside_mid c.args.moment c.args.image.now c.stamp.new.image c.args.file c.requires.tree c.requires.file c.stamp.ensures (data_blocks c.cut.new.image c.args.file) (extension_blocks c.cut.new.image c.args.file) b beside)
      ∙ c.stamp.ensures.rest.same_byte b i l (λ w. elim w [ inl header ↦ beside.beside_headers 0 (omega arith) header.0 | inr disk ↦ apart disk ]);
}

use Rattle.adf_record.proofs.Common.{◌≡◌, ℕ, ◌<◌, None, List, length, get_or, IsSome, ap, sym, ◌∙◌, subst, arith, entries, root, Below, AreBelow, there_below, file_count}
use Rattle.adf_record.proofs.counts.counts_of.Goals as goal

pub count_files-files-requires : goal.count_files-files-requires
count_files-files-requires c = λ k d inside t s.
    subst (λ (es : List Below). IsSome (t.nodes (get_or es k d).key)) (sym c.deref.ensures.value)
    (there_below t s.proper c.root.result c.in_ok-below.below.items (c.in_ok-below.ensures.below t s) k d (subst (λ (es : List Below). k < length es) c.deref.ensures.value inside))

pub returns : goal.returns
returns c = λ t s.
    let e : c.root.result ≡ root t = c.root.ensures.root t s in
    record {
      found = c.in_ok-below.below.items;
      below = subst (λ (key : ℕ). AreBelow t None 0 (entries t key) c.in_ok-below.below.items) e (c.in_ok-below.ensures.below t s);
      files = c.count_files-files.ensures.count t s ∙ ap (file_count t) c.deref.ensures.value;
      all = omega (arith, c.count_files-files.ensures.within, ap length c.deref.ensures.value, c.len.ensures);
    }

use Rattle.adf_record.proofs.Common.{◌≡◌, ◌<◌, ◌++◌, ◌∷◌, [], List, ℕ, None, Some, length, slice_get, refl, sym, ap, ◌∙◌, arith, slice_get_read, BundleEntry}
use Rattle.std.proofs.Common.{get_or, reverse}
use Rattle.std.proofs.lemmas.Option.{slice_get-get_or}
use Rattle.adf_record.proofs.Lines.{above_is, rest_more, rest_whole}
use Rattle.adf_record.proofs.bundle_lines.path_of.Goals as goal

pub loop-at-preserved : goal.loop-at-preserved
loop-at-preserved c =
    let entries = c.args.entries.now in
    let at = c.loop-at.at in
    let above = c.in-Some.above in
    let a = c.index-entries-at.result in
    let inside : above < length entries = omega (arith, c.if-above-at.false, c.loop-at.invariant.inside) in
    let there : slice_get entries at ≡ Some a = slice_get_read entries (length entries) at a refl c.loop-at.invariant.inside c.index-entries-at.is in
    record {
      inside = inside;
      rest =
          rest_more entries c.args.place at a c.loop-at.path.items there c.loop-at.invariant.rest above (get_or entries above a) c.push.new.self.items
          (above_is entries at a _ (Some above) there c.loop-at.invariant.inside c.in-Some.is) (slice_get-get_or entries above a inside)
          (c.in_ok-push.ensures.items ∙ ap (λ (b : List ℕ). b ++ 47 ∷ []) (c.in_ok-push_backwards.ensures ∙ ap (λ (e : BundleEntry). c.loop-at.path.items ++ reverse e.name) (sym c.index-entries-at.is)));
    }

pub returns-clause-path : goal.returns-clause-path
returns-clause-path c =
    let entries = c.args.entries.now in
    let at = c.loop-at.at in
    let a = c.index-entries-at-2.result in
    let there : slice_get entries at ≡ Some a = slice_get_read entries (length entries) at a refl c.loop-at.invariant.inside c.index-entries-at-2.is in
    rest_whole entries c.args.place at a c.loop-at.path.items there c.loop-at.invariant.rest c.reverse.new.self.items
    (above_is entries at a _ None there c.loop-at.invariant.inside c.in_default.is) (c.reverse.ensures.items ∙ ap reverse (c.in_ok-push_backwards-2.ensures ∙ ap (λ (e : BundleEntry). c.loop-at.path.items ++ reverse e.name) (sym c.index-entries-at-2.is)))

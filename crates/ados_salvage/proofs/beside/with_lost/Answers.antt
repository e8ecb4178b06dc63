use Rattle.ados_salvage.proofs.Common.{◌≡◌, Bool, List, ℕ, All, false, length, refl, sym, ap, ◌∙◌, subst, AreGathered, IsReadable, IsTrustedBitmap, Salvaged, Saved}
use Rattle.ados_salvage.specs.Found.{AreHidden}
use Rattle.ados_salvage.proofs.Besides.{adds_lost, found_readable, gathered_tree}
use Rattle.ados_salvage.proofs.Reading.{pieces_inside}
use Rattle.ados_salvage.proofs.beside.with_lost.Goals as goal

pub add_unreached-requires : goal.add_unreached-requires
add_unreached-requires c =
    let tree = c.tree.inside.entries in
    let known = c.in_ok-known.known in
    gathered_tree known c.in_ok-gathered.gathered (length tree.items) c.in_ok-known.ensures.known (c.in_ok-known.ensures.before ∙ c.len.ensures ∙ tree.ok.0)
    (subst (λ (holes : List Bool). AreGathered (length tree.items) known.left_out holes known.fillers known.image c.in_ok-gathered.gathered) c.deref.ensures.value (c.in_ok-gathered.ensures.gathered known.left_out known.fillers))

-- the files of the tree can be read, and so can those that are found
pub invariant_of-result : goal.invariant_of-result
invariant_of-result c =
    let tree = c.tree.inside in
    let known = c.in_ok-known.known in
    let old = c.in_ok-gathered.gathered in
    let new = c.add_unreached.new.gathered in
    let more = c.in_ok-add_unreached.ensures in
    let entries : old.entries.items ≡ tree.entries.items = c.in_ok-gathered.ensures.entries in
    let image : known.image ≡ tree.image = c.in_ok-known.ensures.image in
    let trusted = ap (λ (s : Saved). s.trusted) c.tree.view_is ∙ c.requires.trusted in
    let hidden = subst (λ (xs : List ℕ). AreHidden xs known.left_out) (sym image) c.in_ok-known.ensures.hidden in
    let reached = subst (All (λ (entry : Salvaged). entry.found ≡ false)) (sym (entries ∙ ap (λ (s : Saved). s.entries) c.tree.view_is)) c.requires.tree.reached in
    let many = c.in_ok-known.ensures.before ∙ c.len.ensures ∙ tree.entries.ok.0 ∙ sym (ap length entries) in
    let readable = subst (λ (xs : List ℕ). All (IsReadable xs) old.entries.items) (sym image) (subst (All (IsReadable tree.image)) (sym entries) c.tree.invariant.readable) in
    record {
      trust = λ same. subst IsTrustedBitmap (sym image) (c.tree.invariant.trust trusted);
      readable = found_readable known old new more.gathered more.all more.found hidden reached many readable;
      inside = pieces_inside known.holes.items known.image new.giving more.gathered.so_far.giving;
    }

pub returns : goal.returns
returns c =
    let known = c.in_ok-known.known in
    let old = c.in_ok-gathered.gathered in
    let more = c.in_ok-add_unreached.ensures in
    let entries = c.in_ok-gathered.ensures.entries ∙ ap (λ (s : Saved). s.entries) c.tree.view_is in
    let hidden = subst (λ (xs : List ℕ). AreHidden xs known.left_out) (sym c.in_ok-known.ensures.image) c.in_ok-known.ensures.hidden in
    let reached = subst (All (λ (entry : Salvaged). entry.found ≡ false)) (sym entries) c.requires.tree.reached in
    let many = c.in_ok-known.ensures.before ∙ c.len.ensures ∙ c.tree.inside.entries.ok.0 ∙ sym (ap length c.in_ok-gathered.ensures.entries) in
    adds_lost known old c.add_unreached.new.gathered more.gathered more.all more.found hidden reached many c.args.tree _ entries (c.in_ok-known.ensures.image ∙ ap (λ (s : Saved). s.image) c.tree.view_is)
    (ap (λ holes. holes.items) c.in_ok-known.ensures.holes ∙ ap (λ (s : Saved). s.holes) c.tree.view_is) (c.in_ok-known.ensures.fillers ∙ ap (λ (s : Saved). s.fillers) c.tree.view_is) (ap (λ (s : Saved). s.accepted) c.tree.view_is) (sym c.requires.trusted)
    (ap (λ (s : Saved). s.deleted) c.tree.view_is) refl refl refl refl refl

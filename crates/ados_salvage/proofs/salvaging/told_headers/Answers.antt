use Rattle.ados_salvage.proofs.Common.{Bool, List, ℕ, ap, refl, subst, ◌∙◌, AreGathered}
use Rattle.ados_salvage.specs.Deleted.{TellsTrust}
use Rattle.ados_salvage.specs.PutRight.{ArePutRight, MayBePutRight}
use Rattle.ados_salvage.proofs.Besides.{gathered_tree}
use Rattle.ados_salvage.proofs.Reading.{all_readable, pieces_inside}
use Rattle.ados_salvage.proofs.Saving.{saves_sound}
use Rattle.ados_salvage.proofs.Settling.{settles_none}
use Rattle.ados_salvage.proofs.salvaging.told_headers.Goals as goal

pub add_reached-requires : goal.add_reached-requires
add_reached-requires c =
    let known = c.in_ok-known.known in
    gathered_tree known c.in_ok-gathered.gathered 0 c.in_ok-known.ensures.known c.in_ok-known.ensures.none
    (subst (λ (holes : List Bool). AreGathered 0 known.left_out holes known.fillers known.image c.in_ok-gathered.gathered) c.deref.ensures.value (c.in_ok-gathered.ensures known.left_out known.fillers))

pub add_loose-requires : goal.add_loose-requires
add_loose-requires c = settles_none c.in_ok-known.known c.add_lost.new.gathered c.in_ok-known.ensures.none c.in_ok-add_lost.ensures.gathered c.in_ok-add_lost.ensures.headers c.in_ok-add_lost.ensures.lost

pub invariant_of-result : goal.invariant_of-result
invariant_of-result c =
    let known = c.in_ok-known.known in
    let settled = c.in_ok-add_loose.ensures.1 in
    record {
      trust = λ is. subst (TellsTrust known.image) is settled.sure.trust;
      readable = all_readable known.left_out known.holes.items known.fillers known.image c.add_loose.new.gathered.entries.items settled.salvaged.told;
      inside = pieces_inside known.holes.items known.image c.add_loose.new.gathered.giving settled.giving;
    }

pub returns-clause-saves : goal.returns-clause-saves
returns-clause-saves c = λ from read. record {
  refused = refl;
  counted = c.in_ok-known.ensures.fillers;
  read = record {
    of_kind = c.args.image;
    kind = read;
    out = c.in_ok-given.given.left_out;
    deleted = c.in_ok-given.ensures.left_out;
    mended = subst (λ (image : List ℕ). ArePutRight (MayBePutRight c.in_ok-given.given.left_out image) image c.in_ok-known.known.image) c.in_ok-given.ensures.image c.in_ok-known.ensures.read;
  };
  saves = saves_sound c.in_ok-known.known c.in_ok-add_loose.ensures.0 c.add_loose.new.gathered c.into_headers-deleted.result.items c.in_ok-add_loose.ensures.1
      c.in_ok-known.ensures.deleted c.into_headers-deleted.ensures;
}

pub returns-clause-holes : goal.returns-clause-holes
returns-clause-holes c = ap (λ marks. marks.items) (c.in_ok-known.ensures.holes ∙ c.in_ok-given.ensures.holes)

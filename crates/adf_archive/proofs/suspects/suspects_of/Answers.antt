use Rattle.std.proofs.Common.{◌≡◌, ◌+◌, ◌<◌, ◌≤◌, length, All, Vec, Global, vec_len, Some, slice_get, sym, ap, ◌∙◌, subst, arith}
use Rattle.adf_archive.proofs.Common.{block_count, Owns, Owner, Suspect, HasItsPath}
use Rattle.std.proofs.lemmas.Option.{slice_get_read}
use Rattle.ados_model.proofs.Standing.{count_same}
use Rattle.adf_archive.proofs.Suspecting.{AreSuspectsBelow, inside, suspects_all, suspects_more, suspects_same}
use Rattle.adf_archive.proofs.suspects.suspects_of.Goals as goal
use Rattle.adf_archive.proofs.suspects.suspects_of.Goals.{in-Some+in_ok-push, in_default}

pub index-requires : goal.index-requires
index-requires c =
    let t = c.image.ensures.stands.0 in
    let s = c.image.ensures.stands.1 in
    omega (
      arith,
      c.loop-block-test.true,
      c.in_ok-owners.owners.ok.0,
      (c.in_ok-owners.ensures t s).count,
      count_same c.args.volume.now.image t s,
      c.blocks-block-end.ensures.count,
      ap block_count c.image.ensures.same,
    )

pub suspect_at-requires-clause-owner : goal.suspect_at-requires-clause-owner
suspect_at-requires-clause-owner c = λ t s.
    let owned = c.in_ok-owners.ensures t s in
    let n : c.loop-block.block < vec_len c.in_ok-owners.owners =
    omega (arith, c.loop-block-test.true, c.in_ok-owners.owners.ok.0, owned.count, count_same c.args.volume.now.image t s, c.blocks-block-end.ensures.count, ap block_count c.image.ensures.same) in
    owned.owned c.loop-block.block c.index.result.now (slice_get_read c.in_ok-owners.owners.items _ c.loop-block.block c.index.result.now c.in_ok-owners.owners.ok.0 n c.index.ensures)

pub suspect_at-requires-clause-found : goal.suspect_at-requires-clause-found
suspect_at-requires-clause-found c = λ t s.
    subst (All (HasItsPath t)) (sym c.deref.ensures.value) (λ k d l. ((c.loop-block.invariant t s).told k d l).path)

pub loop-block-preserved : goal.loop-block-preserved
loop-block-preserved c = λ t s.
    let image = c.args.volume.now.image in
    let block = c.loop-block.block in
    let filler = c.args.search.filler in
    let marks = c.args.search.marks.now in
    let owned = c.in_ok-owners.ensures t s in
    let n : block < vec_len c.in_ok-owners.owners =
    omega (arith, c.loop-block-test.true, c.in_ok-owners.owners.ok.0, owned.count, count_same image t s, c.blocks-block-end.ensures.count, ap block_count c.image.ensures.same) in
    let at : slice_get c.in_ok-owners.owners.items block ≡ Some c.index.result.now =
    slice_get_read c.in_ok-owners.owners.items _ block c.index.result.now c.in_ok-owners.owners.ok.0 n c.index.ensures in
    let alone : (other : Owner) → Owns image t block other → other ≡ c.index.result.now = λ other owns. owned.alone block c.index.result.now other at owns in
    elim c.match-branch-4.branch [
      | in-Some+in_ok-push w ↦
          subst (AreSuspectsBelow filler marks image t (block + 1)) (sym (ap (λ (v : Vec Suspect Global). v.items) w.found-is ∙ w.in_ok-push.ensures.items))
          (suspects_more filler marks image t block c.index.result.now alone c.loop-block.found.items (c.loop-block.invariant t s) _ (rw w.in-Some.is at c.in_ok-suspect.ensures t s))
      | in_default w ↦
          subst (λ (v : Vec Suspect Global). AreSuspectsBelow filler marks image t (block + 1) v.items) (sym w.found-is)
          (suspects_same filler marks image t block c.index.result.now alone c.loop-block.found.items (c.loop-block.invariant t s) (rw w.in_default.is at c.in_ok-suspect.ensures t s))
    ]

pub returns : goal.returns
returns c = λ t s.
    let image = c.args.volume.now.image in
    let filler = c.args.search.filler in
    let marks = c.args.search.marks.now in
    let few : length marks ≤ t.blocks = omega (arith, c.requires, count_same image t s) in
    suspects_all filler marks image t c.loop-block.block c.loop-block.found.items
    (λ block owner is. let within = inside filler marks image t s few block owner is in omega (arith, within, c.loop-block-test.false, count_same image t s, c.blocks-block-end.ensures.count, ap block_count c.image.ensures.same))
    (c.loop-block.invariant t s)

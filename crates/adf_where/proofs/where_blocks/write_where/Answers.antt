use Rattle.adf_where.proofs.Common.{ℕ, sym, ap, ◌∙◌, subst, count_same, AreNamed, AreOwners}
use Rattle.adf_block.specs.Image.{block_count}
use Rattle.adf_where.specs.Where.{IsWhere}
use Rattle.adf_where.proofs.Leaving.{leaves_front}
use Rattle.adf_where.proofs.TellingOwned.{front_where, writes_where}
use Rattle.adf_where.proofs.where_blocks.write_where.Goals as goal

pub write_owned-requires-clause-owners : goal.write_owned-requires-clause-owners
write_owned-requires-clause-owners g c = λ t s. subst (AreOwners c.args.volume.now.image t) (sym c.deref.ensures.value) (c.in_ok-owners.ensures t s)

pub returns-in-Ok-write_owned-clause-ok : goal.returns-in-Ok-write_owned-clause-ok
returns-in-Ok-write_owned-clause-ok g c = λ t s.
    let image = c.args.volume.now.image in
    let count = c.blocks-count.ensures.count ∙ ap block_count c.image.ensures.same ∙ count_same image t s in
    let are = subst (AreOwners image t) (sym c.deref.ensures.value) (c.in_ok-owners.ensures t s) in
    let named = subst (AreNamed t.blocks c.args.asking.words.now) (sym c.deref-2.ensures.value) (subst (λ (n : ℕ). AreNamed n c.args.asking.words.now c.in-Ok.blocks.items) count c.in-Ok.ensures.named) in
    writes_where c.args.asking.json c.args.asking.unread.now image t c.args.asking.words.now c.deref-2.result.now c.deref.result.now named are _ _ (c.in-Ok-write_owned.ensures.ok t s)

pub returns-clause-front : goal.returns-clause-front
returns-clause-front g c = λ t s.
    let image = c.args.volume.now.image in
    let count = c.blocks-count.ensures.count ∙ ap block_count c.image.ensures.same ∙ count_same image t s in
    let are = subst (AreOwners image t) (sym c.deref.ensures.value) (c.in_ok-owners.ensures t s) in
    let named = subst (AreNamed t.blocks c.args.asking.words.now) (sym c.deref-2.ensures.value) (subst (λ (n : ℕ). AreNamed n c.args.asking.words.now c.in-Ok.blocks.items) count c.in-Ok.ensures.named) in
    leaves_front (IsWhere c.args.asking.json c.args.asking.unread.now image t c.args.asking.words.now) _ _ c.in-Err-write_owned.fault c.from.result c.from.ensures
    (front_where c.args.asking.json c.args.asking.unread.now image t c.args.asking.words.now c.deref-2.result.now c.deref.result.now named are _ _ (c.in-Err-write_owned.ensures.front t s))

use Rattle.ados_volume.proofs.Common.{AreWhole, BTreeSet, Stands, Tree, ap, name_in, name_of, refl, some_in, subst, sym, ℕ, ◌∙◌, ◌≡◌}
use Rattle.ados_volume.proofs.Cached.{kept, more, whole_more, whole_on}
use Rattle.ados_volume.proofs.Holding.{dir_inside, fewer_steps, here_child, here_inside, here_key, holds_all, holds_more, holds_none}
use Rattle.ados_volume.proofs.cache.NameCache.hold.Goals as goal

pub long-key-requires-clause-block : goal.long-key-requires-clause-block
long-key-requires-clause-block c =
    let t = c.requires.tree.0 in
    let s = c.requires.tree.1 in
    dir_inside c.args.image.now t s c.args.dir c.args.slot c.requires.slot (c.requires.dir t s)

pub loop-key-init : goal.loop-key-init
loop-key-init c = record {
  children = c.requires.children;
  slots = c.requires.whole;
  on = λ t s. holds_none c.args.image.now t s c.args.dir c.args.slot c.requires.slot (c.requires.dir t s) c.args.self.now.pairs c.long-key.result c.long-key.ensures;
}

pub name_in-requires-clause-key : goal.name_in-requires-clause-key
name_in-requires-clause-key c = λ t s.
    here_key c.args.image.now t s c.args.dir c.args.slot c.requires.slot (c.requires.dir t s) c.loop-key.self.pairs c.loop-key.key (c.loop-key.invariant.on t s) c.loop-key-test.true

pub returns-then-not-put-clause-children : goal.returns-then-not-put-clause-children
returns-then-not-put-clause-children c =
    let image = c.args.image.now in
    let dir = c.args.dir in
    let slot = c.args.slot in
    let key = c.loop-key.key in
    let small = c.requires.slot in
    let old = c.loop-key.self.pairs in
    let inv = c.loop-key.invariant in
    let there = c.loop-key-test.true in
    let new = c.put.new.self.pairs in
    let name = c.name_in.result in
    let child = λ (t : Tree) (s : Stands image t).
    let node = some_in (t.nodes key) (here_key image t s dir slot small (c.requires.dir t s) old key (inv.on t s) there) in
    let own : name ≡ name_of t key = c.name_in.ensures t node.0 s node.1 ∙ sym (ap name_in node.1) in
    here_child image t s dir slot small (c.requires.dir t s) old key (inv.on t s) there name own in
    more image old new dir name key inv.children c.put.ensures.pairs.adds child

pub returns-then-not-put-clause-whole : goal.returns-then-not-put-clause-whole
returns-then-not-put-clause-whole c =
    let image = c.args.image.now in
    let dir = c.args.dir in
    let slot = c.args.slot in
    let key = c.loop-key.key in
    let small = c.requires.slot in
    let old = c.loop-key.self.pairs in
    let inv = c.loop-key.invariant in
    let there = c.loop-key-test.true in
    let new = c.put.new.self.pairs in
    let name = c.name_in.result in
    let child = λ (t : Tree) (s : Stands image t).
    let node = some_in (t.nodes key) (here_key image t s dir slot small (c.requires.dir t s) old key (inv.on t s) there) in
    let own : name ≡ name_of t key = c.name_in.ensures t node.0 s node.1 ∙ sym (ap name_in node.1) in
    here_child image t s dir slot small (c.requires.dir t s) old key (inv.on t s) there name own in
    subst (λ (whole : BTreeSet ℕ). AreWhole image new whole) (sym c.put.ensures.whole)
    (whole_on image old new c.loop-key.self.whole (kept image c.requires.tree.0 c.requires.tree.1 old new dir name key inv.children c.put.ensures.pairs.keeps (child c.requires.tree.0 c.requires.tree.1)) inv.slots)

pub long-key-requires-in-loop-key-clause-block : goal.long-key-requires-in-loop-key-clause-block
long-key-requires-in-loop-key-clause-block c =
    let t = c.requires.tree.0 in
    let s = c.requires.tree.1 in
    here_inside c.args.image.now t s c.args.dir c.args.slot c.requires.slot (c.requires.dir t s) c.loop-key.self.pairs c.loop-key.key (c.loop-key.invariant.on t s) c.loop-key-test.true

pub loop-key-smaller : goal.loop-key-smaller
loop-key-smaller c =
    let t = c.requires.tree.0 in
    let s = c.requires.tree.1 in
    fewer_steps c.args.image.now t s c.args.dir c.args.slot c.requires.slot (c.requires.dir t s) c.loop-key.self.pairs c.loop-key.key (c.loop-key.invariant.on t s) c.loop-key-test.true c.long-key-in-loop-key.result c.long-key-in-loop-key.ensures

pub loop-key-preserved : goal.loop-key-preserved
loop-key-preserved c =
    let image = c.args.image.now in
    let dir = c.args.dir in
    let slot = c.args.slot in
    let key = c.loop-key.key in
    let small = c.requires.slot in
    let old = c.loop-key.self.pairs in
    let inv = c.loop-key.invariant in
    let there = c.loop-key-test.true in
    let new = c.put.new.self.pairs in
    let name = c.name_in.result in
    let child = λ (t : Tree) (s : Stands image t).
    let node = some_in (t.nodes key) (here_key image t s dir slot small (c.requires.dir t s) old key (inv.on t s) there) in
    let own : name ≡ name_of t key = c.name_in.ensures t node.0 s node.1 ∙ sym (ap name_in node.1) in
    here_child image t s dir slot small (c.requires.dir t s) old key (inv.on t s) there name own in
    record {
      children = more image old new dir name key inv.children c.put.ensures.pairs.adds child;
      slots =
          subst (λ (whole : BTreeSet ℕ). AreWhole image new whole) (sym c.put.ensures.whole)
          (whole_on image old new c.loop-key.self.whole (kept image c.requires.tree.0 c.requires.tree.1 old new dir name key inv.children c.put.ensures.pairs.keeps (child c.requires.tree.0 c.requires.tree.1)) inv.slots);
      on = λ t s.
          let node = some_in (t.nodes key) (here_key image t s dir slot small (c.requires.dir t s) old key (inv.on t s) there) in
          let own : name ≡ name_of t key = c.name_in.ensures t node.0 s node.1 ∙ sym (ap name_in node.1) in
          holds_more image t s dir slot small (c.requires.dir t s) old key (inv.on t s) there new name own inv.children c.put.ensures.pairs.keeps (c.if-not-put.ensures.pairs.there refl) c.long-key-in-loop-key.result c.long-key-in-loop-key.ensures;
    }

pub returns-clause-whole : goal.returns-clause-whole
returns-clause-whole c =
    let image = c.args.image.now in
    let pairs = c.loop-key.self.pairs in
    whole_more image pairs c.loop-key.self.whole c.insert.new.self c.args.dir c.args.slot c.slot_number.result c.slot_number.ensures c.requires.slot
    (λ t s. holds_all image t s c.args.dir c.args.slot c.requires.slot (c.requires.dir t s) pairs c.loop-key.key c.loop-key-test.false (c.loop-key.invariant.on t s))
    c.loop-key.invariant.slots c.insert.result c.insert.ensures.updates c.insert.ensures.err

use Rattle.adf_export.proofs.Common.{refl, some_in, HostItem}
use Rattle.adf_host.specs.declared.trees.items.ItemKind.TheVariants as kinds
use Rattle.adf_export.proofs.Entries.{alone, source_alone, source_with_note, with_note}
use Rattle.adf_export.proofs.entry.Outgoing.push_entry.Goals as goal

pub returns-then-not-meta-clause-items : goal.returns-then-not-meta-clause-items
returns-then-not-meta-clause-items c = λ t s.
    let n = some_in (t.nodes c.args.entry.now.key) (c.requires.key t s) in
    let item : HostItem = record { above = c.item_place-above.result; name = c.in_ok-name.name; kind = c.kind_of.result; date = c.examine-told.result.date } in
    alone t c.args.entry.now n.0 n.1 c.examine-told.result (c.examine-told.ensures t n.0 s n.1)
    c.args.meta item c.item_place-above.ensures c.in_ok-name.ensures (c.kind_of.ensures t n.0 s n.1) refl
    c.args.self.now.items.items c.push.new.self.items.items c.if-not-meta.true c.in_ok-push.ensures.items

pub returns-then-not-meta-clause-sources : goal.returns-then-not-meta-clause-sources
returns-then-not-meta-clause-sources c =
    source_alone c.args.meta c.args.entry.now c.args.self.now.sources.items c.push.new.self.sources.items c.if-not-meta.true c.in_ok-push.ensures.sources

pub returns-clause-items : goal.returns-clause-items
returns-clause-items c = λ t s.
    let n = some_in (t.nodes c.args.entry.now.key) (c.requires.key t s) in
    let item : HostItem = record { above = c.item_place-above.result; name = c.in_ok-name.name; kind = c.kind_of.result; date = c.examine-told.result.date } in
    let note : HostItem = record { above = c.item_place-above.result; name = c.in_ok-note.note; kind = kinds.File; date = c.examine-told.result.date } in
    with_note t c.args.entry.now n.0 n.1 c.examine-told.result (c.examine-told.ensures t n.0 s n.1)
    c.args.meta item c.item_place-above.ensures c.in_ok-name.ensures (c.kind_of.ensures t n.0 s n.1) refl
    note refl c.in_ok-note.ensures refl refl
    c.args.self.now.items.items c.push.new.self.items.items c.push-2.new.self.items.items c.if-not-meta.false c.in_ok-push.ensures.items c.in_ok-push-2.ensures.items

pub returns-clause-sources : goal.returns-clause-sources
returns-clause-sources c =
    source_with_note c.args.meta c.args.entry.now c.args.self.now.sources.items c.push.new.self.sources.items c.push-2.new.self.sources.items c.if-not-meta.false c.in_ok-push.ensures.sources c.in_ok-push-2.ensures.sources

use Rattle.std.proofs.Common.{◌≡◌, ◌≤◌, ℕ, List, true, cond, length, ap, ◌∙◌, arith}
use Rattle.std.specs.BTreeSet.{contains_text}
use Rattle.std.specs.Str.{bytes_eq}
use Rattle.std.specs.String.{string_bytes}
use Rattle.std.proofs.lemmas.Map.Text.{btree_set_updates_text}
use Rattle.adf_host.specs.declared.trees.items.HostItem.{HostItem}
use Rattle.adf_rescue.specs.declared.sourced.SourcedItems.{SourcedItems}
use Rattle.adf_rescue.specs.steps.Sourcing.{place_text}
use Rattle.adf_rescue.proofs.Sourcing.{apart_more}
use Rattle.adf_rescue.proofs.sourced.SourcedItems.push.Goals as goal

pub returns-clause-taken : goal.returns-clause-taken
returns-clause-taken c = λ text.
    btree_set_updates_text (string_bytes c.in_ok-text.text) c.args.self.now.taken c.insert.new.self true c.in_ok-insert.ensures.updates text
    ∙ ap (λ (key : List ℕ). cond (bytes_eq key text) true (contains_text c.args.self.now.taken text)) c.in_ok-text.ensures

pub returns-clause-apart : goal.returns-clause-apart
returns-clause-apart c =
    let item : HostItem = record { above = c.args.above; name = c.args.name; kind = c.kind-kind.result; date = c.args.date } in
    let new : SourcedItems = record { items = c.push.new.self; sources = c.push-2.new.self; meta = c.args.self.now.meta; taken = c.insert.new.self; longest = c.max-self.result } in
    let long : length (string_bytes c.in_ok-text.text) ≡ length (place_text c.args.above c.args.name) = ap length c.in_ok-text.ensures in
    let kept : c.args.self.now.longest ≤ c.max-self.result = omega arith in
    let fits : length (place_text c.args.above c.args.name) ≤ c.max-self.result = omega (arith, long) in
    apart_more c.args.self.now new item c.requires.apart c.requires.free
    (λ text. btree_set_updates_text (string_bytes c.in_ok-text.text) c.args.self.now.taken c.insert.new.self true c.in_ok-insert.ensures.updates text
    ∙ ap (λ (key : List ℕ). cond (bytes_eq key text) true (contains_text c.args.self.now.taken text)) c.in_ok-text.ensures)
    kept fits c.in_ok-push.ensures.items

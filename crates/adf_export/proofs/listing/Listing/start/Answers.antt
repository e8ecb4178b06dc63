use Rattle.adf_export.proofs.Common.{◌++◌, List, [], ◌∷◌, ap, ◌∙◌, arith, some_in, Level}
use Rattle.adf_export.proofs.Left.{starts}
use Rattle.adf_export.proofs.Levels.{none_are, pushed_are}
use Rattle.adf_export.proofs.listing.Listing.start.Goals as goal

pub returns-clause-keys : goal.returns-clause-keys
returns-clause-keys c =
    let image = c.args.volume.now.image in
    let level : Level = record { keys = c.in_ok-keys.keys; next = 0; path = c.len.result } in
    pushed_are image _ _ level c.in_ok-push.ensures.items (none_are image _ c.new-levels.ensures.items) c.in_ok-keys.ensures.keys

pub returns-clause-starts : goal.returns-clause-starts
returns-clause-starts c = λ t s.
    let level : Level = record { keys = c.in_ok-keys.keys; next = 0; path = c.len.result } in
    let levels = c.in_ok-push.ensures.items ∙ ap (λ (l : List Level). l ++ level ∷ []) c.new-levels.ensures.items in
    let node = some_in (t.nodes c.args.key) (c.requires t s) in
    let begun = starts t c.args.order s.proper c.args.key node.0 level c.push.new.self.items c.in_ok-path.path.items node.1 levels (c.in_ok-path.ensures t s) (c.in_ok-keys.ensures.first t s) (omega (arith, c.len.ensures, c.in_ok-path.path.ok.0)) in
    (c.in_ok-text.ensures t s, begun.0, begun.1)

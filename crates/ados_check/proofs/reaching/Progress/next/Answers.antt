use Rattle.ados_check.proofs.Common.{◌≡◌, ◌<◌, ◌≤◌, ◌++◌, ◌∷◌, [], ℕ, List, length, Contains, Option, None, Some, sym, ◌∙◌, subst, arith, block_count, page_count, Mark, mark_at, IsBetween, Contains-push}
use Rattle.ados_check.proofs.MarkLemmas.{marked_within, mark_read}
use Rattle.ados_check.proofs.Moves.{taken_up}
use Rattle.ados_check.proofs.reaching.Progress.next.Goals as goal

-- the last of the pending blocks is marked
last_marked : (image : List ℕ) (marks : List (Option Mark)) (pending rest : List ℕ) (block : ℕ) → IsBetween image marks pending → pending ≡ rest ++ block ∷ [] → (mark : Mark) × (mark_at marks block ≡ Some mark) × (block < length marks)
last_marked image marks pending rest block b e =
    let last = b.waiting.marked block (subst (λ (xs : List ℕ). Contains xs block) (sym e) (Contains-push rest block)) in
    (last.0, last.1, marked_within marks block last.0 last.1)

pub index-requires : goal.index-requires
index-requires c =
    let marks = c.args.self.now.marks in
    let block = c.in_ok-block.block in
    let last = last_marked c.args.source.now.bytes marks.items c.args.self.now.pending.items c.pop.new.self.items block c.requires.between c.in_ok-block.ensures.items in
    omega (arith, last.2, marks.ok.0)

pub unreachable-requires : goal.unreachable-requires
unreachable-requires c =
    let marks = c.args.self.now.marks in
    let block = c.in_ok-block.block in
    let last = last_marked c.args.source.now.bytes marks.items c.args.self.now.pending.items c.pop.new.self.items block c.requires.between c.in_ok-block.ensures.items in
    let h : Some last.0 ≡ None = sym last.1 ∙ mark_read marks.items block c.index.result.now last.2 c.index.ensures ∙ c.in-None.is in
    cc h

pub returns-clause-hand : goal.returns-clause-hand
returns-clause-hand c =
    let marks = c.args.self.now.marks in
    let image = c.args.source.now.bytes in
    let block = c.in_ok-block.block in
    let last = last_marked image marks.items c.args.self.now.pending.items c.pop.new.self.items block c.requires.between c.in_ok-block.ensures.items in
    let pages : page_count (block_count image) ≤ 25 = omega (arith, c.blocks-2.ensures.count, c.blocks-2.ensures.size) in
    taken_up image marks.items c.pop.new.self.items block c.in-Some.mark pages
    (subst (λ (xs : List ℕ). IsBetween image marks.items xs) c.in_ok-block.ensures.items c.requires.between)
    (mark_read marks.items block c.index.result.now last.2 c.index.ensures ∙ c.in-Some.is)

use Rattle.ados_faults.proofs.Common.{flat_map, ℕ, ◌+◌, ◌≤◌, List, length, slice_index, refl, sym, ap, ◌∙◌, subst, arith, false≢true, append-nil, length_push, block_count, NEXT_EXTENSION, InImage, last_link, pointers_of, IsChain}
use Rattle.ados_faults.proofs.Enumerated.{only_one}
use Rattle.ados_faults.proofs.HeaderLists.{count_next, link_read, list_joined, list_whole}
use Rattle.ados_faults.proofs.Linking.{chain_few, chain_more, chain_start, head_kept}
use Rattle.ados_faults.proofs.OfEach.{count_read}
use Rattle.ados_faults.proofs.header_list.HeaderList.list.Goals as goal

pub loop-passed-init : goal.loop-passed-init
loop-passed-init c =
    let image = c.args.image.now in
    let only = only_one image c.args.file c.clear.new.self.list.items c.add.new.self.list.items c.clear.ensures.none c.in_ok-add.ensures.grown (c.in_ok-add.ensures.there c.requires.inside) in
    let own = count_read image c.args.table.now.counts.items c.requires.table.counts_are c.args.file c.index.result.now c.requires.inside.1 c.index.ensures in
    record {
      chain = subst (IsChain image NEXT_EXTENSION) (sym only) (chain_start image NEXT_EXTENSION c.args.file c.requires.inside);
      met = c.in_ok-add.ensures.met;
      head = ap (λ (xs : List ℕ). slice_index xs 0) only;
      counted = ap length only;
      count = c.from-self.ensures ∙ own.0 ∙ sym (ap (λ (xs : List ℕ). length (flat_map (pointers_of image) xs)) only ∙ ap length (append-nil (pointers_of image c.args.file)));
      few = omega (arith, c.from-self.ensures, own.1);
      nothing = refl;
      closed = refl;
    }

pub returns-then-not-is_inside-clause-list : goal.returns-then-not-is_inside-clause-list
returns-then-not-is_inside-clause-list c = λ cells tails.
    let image = c.args.image.now in
    let v = c.loop-passed.invariant in
    let list = c.loop-passed.self.listed.list in
    let link = link_read image c.args.table.now.nexts.items list.items c.len.result c.index-last.result.now c.index-next.result.now c.requires.table.nexts_are v.chain (omega (arith, c.len.ensures, list.ok.0)) c.index-last.ensures c.index-next.ensures in
    let outside : ¬ InImage image c.index-next.result.now = λ inside. false≢true (sym c.if-not-is_inside.true ∙ c.is_inside.ensures.1 inside) in
    list_whole image cells c.args.file list.items _ v.chain v.head v.count c.index-next.result.now link (λ inside. absurd (outside inside)) v.nothing (λ _. outside)

pub returns-in-Some-clause-list : goal.returns-in-Some-clause-list
returns-in-Some-clause-list c = λ cells tails.
    let image = c.args.image.now in
    let v = c.loop-passed.invariant in
    let list = c.loop-passed.self.listed.list in
    let link = link_read image c.args.table.now.nexts.items list.items c.len.result c.index-last.result.now c.index-next.result.now c.requires.table.nexts_are v.chain (omega (arith, c.len.ensures, list.ok.0)) c.index-last.ensures c.index-next.ensures in
    list_joined image cells c.args.file list.items _ v.chain v.head v.count c.index-next.result.now link c.in-Some.tail (tails.each c.index-next.result.now c.in-Some.tail c.in-Some.ensures.0)
    (c.is_inside.ensures.0 c.if-not-is_inside.false) refl c.in-Some.ensures.1

pub returns-then-not-is_new-clause-list : goal.returns-then-not-is_new-clause-list
returns-then-not-is_new-clause-list c = λ cells tails.
    let image = c.args.image.now in
    let v = c.loop-passed.invariant in
    let list = c.loop-passed.self.listed.list in
    let link = link_read image c.args.table.now.nexts.items list.items c.len.result c.index-last.result.now c.index-next.result.now c.requires.table.nexts_are v.chain (omega (arith, c.len.ensures, list.ok.0)) c.index-last.ensures c.index-next.ensures in
    let done = c.in_ok-is_new.ensures in
    let same = done.same c.if-not-is_new.true in
    list_whole image cells c.args.file c.add-in-loop-passed.new.self.list.items _ (subst (IsChain image NEXT_EXTENSION) (sym same) v.chain) (ap (λ (xs : List ℕ). slice_index xs 0) same ∙ v.head)
    (v.count ∙ sym (ap (λ (xs : List ℕ). length (flat_map (pointers_of image) xs)) same)) c.index-next.result.now (ap (last_link image NEXT_EXTENSION) same ∙ link)
    done.there v.nothing (λ opens. absurd (false≢true (sym v.closed ∙ opens)))

pub loop-passed-preserved : goal.loop-passed-preserved
loop-passed-preserved c =
    let image = c.args.image.now in
    let v = c.loop-passed.invariant in
    let list = c.loop-passed.self.listed.list in
    let next = c.index-next.result.now in
    let link = link_read image c.args.table.now.nexts.items list.items c.len.result c.index-last.result.now next c.requires.table.nexts_are v.chain (omega (arith, c.len.ensures, list.ok.0)) c.index-last.ensures c.index-next.ensures in
    let done = c.in_ok-is_new.ensures in
    let new = done.new c.if-not-is_new.false in
    let inside = done.inside c.if-not-is_new.false in
    let own = count_read image c.args.table.now.counts.items c.requires.table.counts_are next c.index-in-loop-passed.result.now inside.1 c.index-in-loop-passed.ensures in
    record {
      chain = subst (IsChain image NEXT_EXTENSION) (sym new) (chain_more image NEXT_EXTENSION list.items v.chain next link inside (done.fresh c.if-not-is_new.false));
      met = done.met;
      head = ap (λ (xs : List ℕ). slice_index xs 0) new ∙ head_kept list.items next v.chain.not_empty ∙ v.head;
      counted = ap length new ∙ length_push list.items next ∙ ap (λ (n : ℕ). n + 1) v.counted;
      count = omega (arith, c.from.ensures, own.0, v.count, ap (λ (xs : List ℕ). length (flat_map (pointers_of image) xs)) new, count_next image list.items next);
      few = omega (arith, c.from.ensures, own.1, v.few);
      nothing = v.nothing;
      closed = v.closed;
    }

-- there are no more blocks than the image has
pub returns-clause-list : goal.returns-clause-list
returns-clause-list c = λ cells tails.
    let few : length c.loop-passed.self.listed.list.items ≤ block_count c.args.image.now = chain_few c.args.image.now NEXT_EXTENSION c.loop-passed.self.listed.list.items c.loop-passed.invariant.chain in
    absurd (omega (arith, few, c.blocks-passed-end.ensures.count, c.loop-passed.invariant.counted, c.loop-passed-test.false))

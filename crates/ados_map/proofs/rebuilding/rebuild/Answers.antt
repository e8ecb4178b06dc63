use Rattle.ados_map.proofs.Common.{◌<◌, arith, ◌∙◌, pages_of}
use Rattle.ados_map.proofs.Begun.{begun_page, begun_more, begun_all}
use Rattle.ados_map.proofs.PageLemmas.{lawful_in_pages}
use Rattle.ados_map.proofs.rebuilding.rebuild.Goals as goal

pub page_at-page-requires-clause-pages : goal.page_at-page-requires-clause-pages
page_at-page-requires-clause-pages c = lawful_in_pages c.args.image.now c.loop-p.image c.loop-p.invariant.begun.rest (omega arith) c.requires.pages

pub loop-p-preserved : goal.loop-p-preserved
loop-p-preserved c =
    let within : c.loop-p.p < pages_of c.args.image.now = omega arith in
    let at = c.page_at-page.ensures.page ∙ begun_page c.args.image.now c.args.named.now c.loop-p.p c.loop-p.image c.requires.pages c.loop-p.invariant.begun c.loop-p.p (omega arith) in
    record {
      begun = begun_more c.args.image.now c.args.named.now c.loop-p.p c.page_at-page.result c.loop-p.image c.fill_page.new.image c.requires.pages within at c.loop-p.invariant.begun c.fill_page.ensures.longs c.fill_page.ensures.sum c.fill_page.ensures.rest;
      image = c.fill_page.ensures.image;
    }

pub returns-clause-rebuilt : goal.returns-clause-rebuilt
returns-clause-rebuilt c = begun_all c.args.image.now c.args.named.now c.loop-p.p c.loop-p.image c.requires.pages (omega arith) (omega arith) c.loop-p.invariant.begun

pub returns-clause-pages : goal.returns-clause-pages
returns-clause-pages c = lawful_in_pages c.args.image.now c.loop-p.image c.loop-p.invariant.begun.rest (omega arith) c.requires.pages

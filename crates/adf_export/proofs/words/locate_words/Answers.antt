use Rattle.adf_export.proofs.Common.{◌+◌, All, map, take, sym, ◌∙◌, subst, arith, All-push, Stands, HasKey, LeadTo}
use Rattle.ados_volume.specs.Shown.{Shown}
use Rattle.adf_export.proofs.Leading.{lead_more, no_word, some_fault, text_of}
use Rattle.adf_export.proofs.words.locate_words.Goals as goal

pub returns-in-Err-clause-fault : goal.returns-in-Err-clause-fault
returns-in-Err-clause-fault c = λ t s.
    let here : Stands c.loop-word.volume.image t = subst (λ (v : Shown). Stands v.image t) (sym c.loop-word.invariant.same) s in
    some_fault t text_of c.args.words.now c.loop-word.word-index no_word (omega arith) c.in-Err.fault (c.in-Err.ensures.fault t here)

pub loop-word-preserved : goal.loop-word-preserved
loop-word-preserved c = record {
  same = c.locate_word.ensures.same ∙ c.loop-word.invariant.same;
  keys = subst (All (HasKey c.args.volume.now.image)) (sym c.in-Ok-push.ensures.items)
      (All-push (HasKey c.args.volume.now.image) c.loop-word.keys.items c.in-Ok.key c.loop-word.invariant.keys
      (subst (λ (v : Shown). HasKey v.image c.in-Ok.key) c.loop-word.invariant.same c.in-Ok.ensures.key));
  lead = λ t s.
      let here : Stands c.loop-word.volume.image t = subst (λ (v : Shown). Stands v.image t) (sym c.loop-word.invariant.same) s in
      subst (LeadTo t (map text_of (take (c.loop-word.word-index + 1) c.args.words.now))) (sym c.in-Ok-push.ensures.items)
      (lead_more t text_of c.args.words.now c.loop-word.word-index no_word (omega arith) c.loop-word.keys.items c.in-Ok.key (c.loop-word.invariant.lead t s) (c.in-Ok.ensures.leads t here));
}

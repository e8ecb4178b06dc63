use Rattle.ados_faults.proofs.Common.{◌≡◌, ◌<◌, ℕ, length, slice_index, sym, subst, arith, ◌∙◌, Contains, get_or_default, long, NEXT_IN_CHAIN, InImage, IsEntryIn, IsGrown}
use Rattle.ados_faults.proofs.Enumerated.{all_entries, grown_all, next_is_entry, next_more, slots_on}
use Rattle.ados_faults.proofs.entries.meet_chains.Goals as goal

pub loop-i-init : goal.loop-i-init
loop-i-init c = record { met = c.requires.met; entries = c.requires.entries; slots = c.requires.slots; next = record { met = λ k l m inside. absurd (omega (arith, l)) } }

pub loop-i-preserved : goal.loop-i-preserved
loop-i-preserved c =
    let image = c.args.image.now in
    let old = c.loop-i.entries.list.items in
    let new = c.add.new.self.list.items in
    let done = c.in_ok-add.ensures in
    let entry = c.index-entry.result.now in
    let within : c.loop-i.i < length old = omega arith in
    let at : entry ≡ slice_index old c.loop-i.i = c.index-entry.ensures ∙ get_or_default old c.loop-i.i entry 0 within in
    let inside : InImage image entry = subst (InImage image) (sym c.index-entry.ensures) (c.loop-i.invariant.met.inside c.loop-i.i entry within) in
    let there : long image entry NEXT_IN_CHAIN ≡ slice_index c.args.nexts.now entry = sym (c.requires.nexts.each entry inside.1) in
    let entry_in : IsEntryIn image c.args.dir entry = subst (IsEntryIn image c.args.dir) (sym c.index-entry.ensures) (c.loop-i.invariant.entries c.loop-i.i entry within) in
    record {
      met = done.met;
      entries = grown_all image (slice_index c.args.nexts.now entry) old new done.grown (IsEntryIn image c.args.dir) c.loop-i.invariant.entries
          (λ inside. subst (IsEntryIn image c.args.dir) there (next_is_entry image c.args.dir entry entry_in (subst (InImage image) (sym there) inside)));
      slots = slots_on image c.args.dir (slice_index c.args.nexts.now entry) old new 72 c.loop-i.invariant.slots done.grown;
      next = next_more image old new c.loop-i.i entry at within c.loop-i.invariant.next (subst (λ (b : ℕ). IsGrown image b old new) (sym there) done.grown)
          (subst (λ (b : ℕ). InImage image b → Contains new b) (sym there) done.there);
    }

pub returns-clause-all : goal.returns-clause-all
returns-clause-all c = all_entries c.args.image.now c.args.dir c.loop-i.entries.list.items c.loop-i.i c.loop-i.invariant.entries c.loop-i.invariant.slots c.loop-i.invariant.next (omega arith)

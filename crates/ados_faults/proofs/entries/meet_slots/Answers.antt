use Rattle.ados_faults.proofs.Common.{◌≡◌, ◌+◌, ℕ, sym, subst, arith, Contains, long, FIRST_SLOT, InImage, IsEntryIn, IsGrown}
use Rattle.ados_faults.proofs.Enumerated.{grown_all, slot_entry, slots_more}
use Rattle.ados_faults.proofs.entries.meet_slots.Goals as goal

pub loop-i-init : goal.loop-i-init
loop-i-init c = record { met = c.requires.met; entries = c.requires.entries; slots = record { met = λ s l inside. absurd (omega (arith, l)) } }

pub loop-i-preserved : goal.loop-i-preserved
loop-i-preserved c =
    let image = c.args.image.now in
    let old = c.loop-i.entries.list.items in
    let new = c.add.new.self.list.items in
    let done = c.in_ok-add.ensures in
    let there : long image c.args.dir (FIRST_SLOT + c.loop-i.i) ≡ c.long-first.result = sym c.long-first.ensures in
    record {
      met = done.met;
      entries = grown_all image c.long-first.result old new done.grown (IsEntryIn image c.args.dir) c.loop-i.invariant.entries
          (λ inside. subst (IsEntryIn image c.args.dir) there (slot_entry image c.args.dir c.loop-i.i c.requires.holder c.loop-i-test.true (subst (InImage image) (sym there) inside)));
      slots = slots_more image c.args.dir old new c.loop-i.i c.loop-i.invariant.slots (subst (λ (b : ℕ). IsGrown image b old new) (sym there) done.grown)
          (subst (λ (b : ℕ). InImage image b → Contains new b) (sym there) done.there);
    }

pub returns-clause-slots : goal.returns-clause-slots
returns-clause-slots c = record { met = λ s l inside. c.loop-i.invariant.slots.met s (omega (arith, l, c.loop-i-test.false)) inside }

use Rattle.std.proofs.Common.{◌≡◌, take}
use Rattle.adf_rescue.specs.steps.Reporting.{AreParts}
use Rattle.adf_io.proofs.Telling.{IsBegun}
use Rattle.adf_rescue.proofs.TellingObjects.{are_told}
use Rattle.adf_rescue.proofs.damaged.Rescue.tell.Given as goal

-- the entries before this one are told
abbrev pub invariant-loop-place : goal.invariant-loop-place
invariant-loop-place g l = record {
  begun : IsBegun (AreParts l.json l.self (take l.place l.self.salvage.entries)) (g.W.Write.contents l.fn.writer) (g.W.Write.contents l.writer) l.text.items;
  after : l.after ≡ are_told (take l.place l.self.salvage.entries);
}

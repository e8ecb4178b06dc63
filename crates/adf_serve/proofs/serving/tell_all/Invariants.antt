use Rattle.std.proofs.Common.{flat_map, take}
use Rattle.std.specs.Io.KnownBytes.{Appends}
use Rattle.adf_serve.specs.Served.{text_of}
use Rattle.adf_serve.proofs.serving.tell_all.Given as goal

-- the texts of the clients before this one are written
abbrev pub invariant-loop-told : goal.invariant-loop-told
invariant-loop-told g l = Appends (g.W.Write.contents l.initial.writer) (g.W.Write.contents l.writer) (flat_map text_of (take l.told-index l.texts))

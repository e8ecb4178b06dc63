use Rattle.std.proofs.Common.{inl, inr}
use Rattle.ados_salvage.specs.Doubtful.NamesEntries.{of_root}
use Rattle.ados_salvage.proofs.Naming.{header_names, names_kinds}
use Rattle.ados_salvage.proofs.known.image_known.Known.names_entries.Goals as goal

pub returns-then-is_header : goal.returns-then-is_header
returns-then-is_header c = (
  λ yes. header_names c.args.self.now.left_out c.args.self.now.image c.args.block (rw c.if-is_header.true at c.is_header.ensures),
  λ names. c.if-is_header.true,
)

pub returns-else-is_header : goal.returns-else-is_header
returns-else-is_header c = (
  λ yes. of_root (c.is_root.ensures.0 yes),
  λ names. elim (names_kinds c.args.self.now.left_out c.args.self.now.image names) [
    | inl root ↦ c.is_root.ensures.1 root
    | inr header ↦ absurd ((rw c.if-is_header.false at c.is_header.ensures) header)
  ],
)

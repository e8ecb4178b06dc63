use Rattle.ados_check.proofs.Common.{◌≤◌, ◌<◌, length, refl, inl, inr, arith, subst, HasKind, byte_at}
use Rattle.ados_check.proofs.KindLemmas.{dos_bytes, is_dos, not_dos}
use Rattle.ados_check.proofs.file_system.check_kind.Goals as goal

pub returns-in-Ofs : goal.returns-in-Ofs
returns-in-Ofs c =
    let room : 4 ≤ length c.args.image.now = omega arith in
    elim c.in-Ofs.is [
      | inl ofs ↦ let kind = subst (HasKind c.args.image.now) ofs c.boot_kind.ensures in dos_bytes c.args.image.now 0 refl room kind.0 kind.1
      | inr ffs ↦ let kind = subst (HasKind c.args.image.now) ffs c.boot_kind.ensures in dos_bytes c.args.image.now 1 refl room kind.0 kind.1
    ]

pub returns-in-OtherDos : goal.returns-in-OtherDos
returns-in-OtherDos c =
    let room : 4 ≤ length c.args.image.now = omega arith in
    let kind = c.in-OtherDos.ensures in
    let above : 1 < byte_at c.args.image.now 0 3 = omega (arith, kind.1, kind.2, kind.3) in
    (is_dos c.args.image.now room kind.0, above, refl)

pub returns-in-NotDos : goal.returns-in-NotDos
returns-in-NotDos c =
    let room : 4 ≤ length c.args.image.now = omega arith in
    (not_dos c.args.image.now room c.in-NotDos.ensures, refl)

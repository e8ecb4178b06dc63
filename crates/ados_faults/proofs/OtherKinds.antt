-- The kind of a disk, by its first four bytes.
use Rattle.ados_faults.proofs.Common.{◌≡◌, ℕ, ◌<◌, ◌≤◌, ◌⊎◌, inl, inr, List, length, refl, subst, arith, byte_at, FaultKind, NotADosDisk, UnsupportedKind, Shows, IsOtherKind, ShowsOtherKind}
use Rattle.adf_block.specs.Boot.{HasKind, IsDos}
use Rattle.adf_block.specs.declared.boot.BootKind.{BootKind}
use Rattle.adf_block.specs.declared.boot.BootKind.TheVariants.{Ofs, Ffs, OtherDos, NotDos}
use Rattle.ados_check.proofs.KindLemmas.{is_dos, not_dos}

supported : (image : List ℕ) (k : BootKind) → HasKind image k → (k ≡ Ofs) ⊎ (k ≡ Ffs) → IsDos image × (byte_at image 0 3 ≤ 1)
supported image Ofs has is = (has.0, omega (arith, has.1))
supported image Ffs has is = (has.0, omega (arith, has.1))
supported image (OtherDos n) has (inl e) = absurd (cc e)
supported image (OtherDos n) has (inr e) = absurd (cc e)
supported image NotDos has (inl e) = absurd (cc e)
supported image NotDos has (inr e) = absurd (cc e)

-- OFS and FFS are no other kinds
pub no_other : (image : List ℕ) (k : BootKind) → 4 ≤ length image → HasKind image k → (k ≡ Ofs) ⊎ (k ≡ Ffs) → ¬ ShowsOtherKind image
no_other image k long has is (kind, other) = go other.of_boot
  where
    dos : IsDos image × (byte_at image 0 3 ≤ 1)
    dos = supported image k has is

    go : (kind ≡ NotADosDisk) ⊎ (kind ≡ UnsupportedKind) → ⊥
    go (inl e) = (subst (λ (k : FaultKind). Shows image k 0) e other.shown).0 (is_dos image long dos.0)
    go (inr e) = let above : 1 < byte_at image 0 3 = (subst (λ (k : FaultKind). Shows image k 0) e other.shown).1 in omega (arith, dos.1)

pub unsupported : (image : List ℕ) (n : ℕ) → 4 ≤ length image → HasKind image (OtherDos n) → IsOtherKind image UnsupportedKind
unsupported image n long has =
    let above : 1 < byte_at image 0 3 = omega (arith, has.1, has.2, has.3) in
    record { of_boot = inr refl; shown = (is_dos image long has.0, above, refl) }

pub no_dos_disk : (image : List ℕ) → 4 ≤ length image → HasKind image NotDos → IsOtherKind image NotADosDisk
no_dos_disk image long has = record { of_boot = inl refl; shown = (not_dos image long has, refl) }

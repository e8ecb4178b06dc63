use Rattle.std.proofs.Common.{◌≡◌, ℕ, List, ◌++◌, length, take, sym, ap, ◌∙◌, subst, arith}
use Rattle.std.proofs.lemmas.List.{take_all, take-append-le}
use Rattle.adf_io.specs.Input.{ReadsUpTo}
use Rattle.adf_serve.proofs.boot.load_boot.Goals as goal
use Rattle.adf_serve.proofs.boot.load_boot.Goals.{then-len-eq-BOOT_BYTES+in-Ok, else-len-eq-BOOT_BYTES}

-- the first bytes of a longer list
front : (bytes more image : List ℕ) → image ≡ take 8192 bytes ++ more → length bytes ≡ 1024 → bytes ≡ take 1024 image
front bytes more image is all =
    sym
    (ap (take 1024) (is ∙ ap (λ (l : List ℕ). l ++ more) (take_all 8192 bytes (omega (arith, all)))) ∙ take-append-le 1024 bytes more (omega (arith, all)) ∙ take_all 1024 bytes (omega (arith, all)))

pub returns-in-Ok-from_bytes : goal.returns-in-Ok-from_bytes
returns-in-Ok-from_bytes g c =
    let bytes = c.in_ok-bytes.bytes.items in
    let image = c.in-Ok-from_bytes.image in
    let read = c.in_ok-bytes.ensures in
    let whole = c.in-Ok-from_bytes.ensures.ok in
    let first : bytes ≡ take 1024 image = elim c.if-len-eq-BOOT_BYTES.branch [
      | then-len-eq-BOOT_BYTES+in-Ok w ↦
          let grown : image ≡ w.resize.new.self.items = rw w.bytes-is at whole.0 in
          front bytes _ image (grown ∙ w.in-Ok.ensures.items) (omega (arith, c.len.ensures, w.if-len-eq-BOOT_BYTES.true))
      | else-len-eq-BOOT_BYTES w ↦
          let all : image ≡ bytes = rw w.bytes-is at whole.0 in
          absurd (omega (arith, read.within, ap length all, whole.1.whole, whole.1.size.0))
    ] in
    subst (ReadsUpTo 1024 (g.R.Read.remaining c.args.reader.now) (g.R.Read.remaining c.read_bounded.new.reader)) first read

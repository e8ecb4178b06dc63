-- Cells hold the text that was copied into them.
use Rattle.ados_name.proofs.Common.{ℕ, ◌<◌, ◌≤◌, List, ◌++◌, length, drop, replicate, get_or, All, Fits, w8, sym, ap, refl, arith, take-append_seam, drop-replicate, All-from_get_or}
use Rattle.ados_name.specs.ShortText.{HoldsText}

pub bytes_fit : (text : List ℕ) → ((k : ℕ) → Fits w8 (get_or text k 0)) → All (λ c. c < 256) text
bytes_fit text fit = All-from_get_or (λ c. c < 256) text 0 (λ k inside. let fits = fit k in omega arith)

pub HoldsText-copied : (capacity : ℕ) (text : List ℕ) → length text ≤ capacity → All (λ c. c < 256) text
    → HoldsText capacity (length text) (text ++ drop (length text) (replicate capacity 0))
HoldsText-copied capacity text fits bytes =
    let seam = take-append_seam text (drop (length text) (replicate capacity 0)) in
    record {
      fits = fits;
      front = ap length (sym seam);
      back = rw (seam, drop-replicate) refl;
      bytes = rw seam bytes;
    }

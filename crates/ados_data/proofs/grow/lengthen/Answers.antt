use Rattle.ados_data.proofs.Common.{◌≡◌, ◌<◌, ◌≤◌, ◌-◌, ◌*◌, ◌/◌, ℕ, length, sym, ap, arith, subst, Format, NoneFreeBelow, data_size, contents, data_blocks, extension_blocks, GrowsFile, IsLonger}
use Rattle.ados_data.proofs.Bounds.{below_taken}
use Rattle.ados_data.proofs.Composing.{grows_both, below_grown}
use Rattle.ados_data.proofs.Overlaid.{longer_zeros}
use Rattle.ados_data.proofs.grow.lengthen.Goals as goal

pub long-requires-clause-block : goal.long-requires-clause-block
long-requires-clause-block c = omega (arith, c.requires.writable.lawful.places.headers_inside 0 (omega arith))

pub loop-reached-preserved : goal.loop-reached-preserved
loop-reached-preserved c =
    let here : c.loop-reached.reached ≡ data_size c.format-format.result * c.loop-reached.end.count = c.loop-reached.invariant.full c.loop-reached-test.true in
    let room : c.data_size-room.result ≡ data_size c.format-format.result = c.data_size-room.ensures in
    let next_over : c.loop-reached.reached ≤ c.min-next.result = omega (arith, c.min-next.ensures, c.loop-reached-test.true) in
    let e = c.append-end.ensures in
    let last = length (data_blocks c.append-end.new.image c.args.file) - 1 in
    let last_behind : length (data_blocks c.loop-reached.image c.args.file) ≤ last = omega (arith, e.end.counted, e.count, c.loop-reached.invariant.end_is.counted) in
    let last_within : last < length (data_blocks c.append-end.new.image c.args.file) = omega (arith, e.end.counted, e.count) in
    record {
      below = omega (arith, c.min-next.ensures);
      grown = grows_both c.requires.writable c.loop-reached.invariant.grown e.grown;
      end_is = e.end;
      bound = subst (NoneFreeBelow c.append-end.new.image) (sym e.end.last_is)
          (below_taken c.loop-reached.image c.append-end.new.image c.args.file (data_blocks c.loop-reached.image c.args.file) (extension_blocks c.loop-reached.image c.args.file) (data_blocks c.append-end.new.image c.args.file) (extension_blocks c.append-end.new.image c.args.file)
          (ap (λ (n : ℕ). n / 512) e.grown.leaves.same_length) e.grown.gains last last_behind last_within
          (e.grown.writable.lawful.places.data_inside last last_within) (e.grown.writable.data_used last last_within).marked);
      full = λ l. omega (arith, l, c.min-next.ensures, here, room, e.count, ap (λ (n : ℕ). data_size c.format-format.result * n) e.count);
      bytes = longer_zeros c.format-format.result (contents c.args.image.now c.args.file) (contents c.loop-reached.image c.args.file) (contents c.append-end.new.image c.args.file) c.loop-reached.reached c.min-next.result
          c.loop-reached.invariant.grown.longer next_over c.loop-reached.invariant.bytes e.bytes;
    }

pub loop-reached-init : goal.loop-reached-init
loop-reached-init c =
    let e = c.fill_last-reached.ensures in
    record { below = e.reached; grown = e.grown; end_is = e.end; bound = below_grown c.args.from e.grown c.requires.below; full = e.full; bytes = e.bytes }

pub returns-clause-grown : goal.returns-clause-grown
returns-clause-grown c =
    subst (λ (n : ℕ). GrowsFile c.args.image.now c.args.file n c.loop-reached.image) (omega (arith, c.loop-reached.invariant.below, c.loop-reached-test.false)) c.loop-reached.invariant.grown

pub returns-clause-bytes : goal.returns-clause-bytes
returns-clause-bytes c =
    subst (λ (f : Format). IsLonger f (contents c.args.image.now c.args.file) c.args.size (contents c.loop-reached.image c.args.file)) c.format-format.ensures
    (subst (λ (n : ℕ). IsLonger c.format-format.result (contents c.args.image.now c.args.file) n (contents c.loop-reached.image c.args.file)) (omega (arith, c.loop-reached.invariant.below, c.loop-reached-test.false)) c.loop-reached.invariant.bytes)

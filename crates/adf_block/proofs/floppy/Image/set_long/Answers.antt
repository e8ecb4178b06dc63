use Rattle.adf_block.proofs.Common.{◌≡◌, ◌+◌, ◌-◌, ◌*◌, ◌/◌, ◌≤◌, ◌<◌, ◌++◌, ℕ, List, length, take, drop, arith, ap, ap₂, sym, ◌∙◌, put_mid, big_bytes, big_number, long}
use Rattle.adf_block.proofs.Bytes.{with_number, length-with_number, number-with_number, written_rest, written_whole}
use Rattle.adf_block.proofs.Frames.{only-with_number, other_long}
use Rattle.adf_block.proofs.floppy.Image.set_long.Goals as goal

-- the four bytes of the long are inside the image
room : (n b i : ℕ) → b < n / 512 → i < 128 → 512 * b + 4 * i + 4 ≤ n
room n b i inside place = omega arith

-- the resulting image has the bytes of v at the long's position
left : (len b i v : ℕ) (now xs buf w : List ℕ) → len ≡ length xs → xs ≡ now → buf ≡ now → 512 * b + 4 * i + 4 ≤ length now
    → w ≡ big_bytes 4 v ++ drop 4 (take (length buf - (b * 512 + i * 4)) (drop (b * 512 + i * 4) buf))
    → (let ys = put_mid (b * 512 + i * 4) (length buf - (b * 512 + i * 4)) buf w in take len (ys ++ drop (length ys) xs) ≡ with_number now (512 * b + 4 * i) v)
left len b i v now xs buf w whole view before fits written =
    let at : b * 512 + i * 4 ≡ 512 * b + 4 * i = omega arith in
    let ys : List ℕ = put_mid (b * 512 + i * 4) (length buf - (b * 512 + i * 4)) buf w in
    let fit : b * 512 + i * 4 + 4 ≤ length buf = omega (arith, ap length before) in
    let is : ys ≡ with_number now (512 * b + 4 * i) v =
    ap (put_mid (b * 512 + i * 4) (length buf - (b * 512 + i * 4)) buf) written
    ∙ written_rest buf (b * 512 + i * 4) (big_bytes 4 v) fit
    ∙ ap₂ (λ (n : ℕ) (zs : List ℕ). with_number zs n v) at before in
    let same : length ys ≡ length xs = ap length is ∙ length-with_number now (512 * b + 4 * i) v fits ∙ sym (ap length view) in
    ap (λ (k : ℕ). take k (ys ++ drop (length ys) xs)) whole ∙ written_whole xs ys same ∙ is

pub returns-clause-long : goal.returns-clause-long
unfolding long
returns-clause-long c =
    let fits = room (length c.args.self.now) c.args.b c.args.i c.requires.block c.requires.place in
    let is = left c.self.inside.bytes.len c.args.b c.args.i c.args.v c.args.self.now c.self.inside.bytes.items c.deref_mut.result.now c.write_u32.new.buf (omega (arith, c.self.inside.bytes.ok.0)) c.self.view_is (c.deref_mut.ensures.value ∙ c.self.view_is) fits c.write_u32.ensures in
    ap (λ (xs : List ℕ). big_number 4 (drop (512 * c.args.b + 4 * c.args.i) xs)) is
    ∙ number-with_number c.args.self.now (512 * c.args.b + 4 * c.args.i) c.args.v fits (omega arith)

pub returns-clause-rest : goal.returns-clause-rest
returns-clause-rest c =
    let fits = room (length c.args.self.now) c.args.b c.args.i c.requires.block c.requires.place in
    let is = left c.self.inside.bytes.len c.args.b c.args.i c.args.v c.args.self.now c.self.inside.bytes.items c.deref_mut.result.now c.write_u32.new.buf (omega (arith, c.self.inside.bytes.ok.0)) c.self.view_is (c.deref_mut.ensures.value ∙ c.self.view_is) fits c.write_u32.ensures in
    only-with_number c.args.b c.args.i c.args.v c.args.self.now _ c.requires.place fits is

pub returns-clause-others : goal.returns-clause-others
returns-clause-others c = other_long c.args.b c.args.i c.args.self.now _ (returns-clause-rest c)

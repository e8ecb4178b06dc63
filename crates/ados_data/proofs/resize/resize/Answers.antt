use Rattle.ados_data.proofs.Common.{◌≢◌, ◌<◌, ◌-◌, ◌*◌, ◌/◌, inl, inr, ℕ, sym, ap, ◌∙◌, arith, FILE_SIZE, NEXT_EXTENSION, same_long, same_sum, AtEnd}
use Rattle.ados_data.proofs.Untouched.{beside_field, sum_field, sum_settled, wider_field}
use Rattle.ados_data.proofs.resize.resize.Goals as goal
use Rattle.ados_data.proofs.resize.resize.Goals.{then-end-eq0, else-end-eq0}

pub returns : goal.returns
returns c =
    let end = c.args.end in
    -- the longs and sums of blocks beside the pointer block and the header, since the data were ended
    let later = λ (x n : ℕ) (l : n < 128) (a : x ≢ end.holder) (f : x ≢ c.args.file).
    beside_field c.args.file FILE_SIZE c.set_settled.ensures.rest x n l (λ e. absurd (f e))
    ∙ beside_field c.args.file 4 c.set_summed-3.ensures.rest x n l (λ e. absurd (f e))
    ∙ beside_field end.holder NEXT_EXTENSION c.set_summed-2.ensures.rest x n l (λ e. absurd (a e))
    ∙ beside_field end.holder 2 c.set_summed.ensures.rest x n l (λ e. absurd (a e)) in
    -- the sums before the checksum of the header was made anew
    let sums = λ (x : ℕ).
    sum_field c.args.file 4 c.set_summed-3.ensures.rest c.set_summed-3.ensures.sum x
    ∙ sum_field end.holder NEXT_EXTENSION c.set_summed-2.ensures.rest c.set_summed-2.ensures.sum x
    ∙ sum_field end.holder 2 c.set_summed.ensures.rest c.set_summed.ensures.sum x in
    -- the sums before
    let before = λ (x : ℕ) (free : 0 < end.count → end.last ≢ x).
    same_sum (AtEnd c.args.format end.count end.last) c.args.image.now c.end_data.new.image c.end_data.ensures.rest x (λ k l at. free at.1 (sym at.2.0)) in
    record {
      counted = beside_field c.args.file FILE_SIZE c.set_settled.ensures.rest end.holder 2 (omega arith) (λ e. (omega arith, omega arith)) ∙ beside_field c.args.file 4 c.set_summed-3.ensures.rest end.holder 2 (omega arith) (λ e. (omega arith, omega arith))
          ∙ beside_field end.holder NEXT_EXTENSION c.set_summed-2.ensures.rest end.holder 2 (omega arith) (λ e. (omega arith, omega arith)) ∙ c.set_summed.ensures.long ∙ ap (λ (n : ℕ). c.args.end.count - 72 * (n / 72)) c.saturating_sub.ensures;
      no_next = beside_field c.args.file FILE_SIZE c.set_settled.ensures.rest end.holder NEXT_EXTENSION (omega arith) (λ e. (omega arith, omega arith)) ∙ beside_field c.args.file 4 c.set_summed-3.ensures.rest end.holder NEXT_EXTENSION (omega arith) (λ e. (omega arith, omega arith))
          ∙ c.set_summed-2.ensures.long;
      holder_sum = λ z. sum_settled c.args.file FILE_SIZE c.set_settled.ensures.rest c.set_settled.ensures.sum end.holder (λ ne. sums end.holder ∙ before end.holder (λ l. (c.requires.apart l).0) ∙ z);
      sized = c.set_settled.ensures.long;
      no_first = λ z. elim c.if-end-eq0.branch [
        | then-end-eq0 w ↦ beside_field c.args.file FILE_SIZE c.set_settled.ensures.rest c.args.file 4 (omega arith) (λ e. (omega arith, omega arith)) ∙ c.set_summed-3.ensures.long ∙ w.first-is
        | else-end-eq0 w ↦ absurd (w.if-end-eq0.false z)
      ];
      first = λ l. elim c.if-end-eq0.branch [
        | then-end-eq0 w ↦ absurd (omega (arith, l, w.if-end-eq0.true))
        | else-end-eq0 w ↦ beside_field c.args.file FILE_SIZE c.set_settled.ensures.rest c.args.file 4 (omega arith) (λ e. (omega arith, omega arith)) ∙ c.set_summed-3.ensures.long ∙ w.first-is ∙ w.long-first.ensures
            ∙ beside_field end.holder NEXT_EXTENSION c.set_summed-2.ensures.rest c.args.file 4 (omega arith) (λ e. (omega arith, omega arith))
            ∙ beside_field end.holder 2 c.set_summed.ensures.rest c.args.file 4 (omega arith) (λ e. (omega arith, omega arith))
            ∙ same_long (AtEnd c.args.format end.count end.last) c.args.image.now c.end_data.new.image c.end_data.ensures.rest c.args.file 4 (omega arith) (λ k e at. (c.requires.apart l).1 (sym at.2.0))
      ];
      file_sum = c.set_settled.ensures.sum;
      held = λ f l. later end.last 3 (omega arith) (c.requires.apart l).0 (c.requires.apart l).1 ∙ c.end_data.ensures.held f l;
      last_next = λ f l. later end.last 4 (omega arith) (c.requires.apart l).0 (c.requires.apart l).1 ∙ c.end_data.ensures.next f l;
      last_sum = λ f l z. sum_settled c.args.file FILE_SIZE c.set_settled.ensures.rest c.set_settled.ensures.sum end.last (λ ne. sums end.last ∙ c.end_data.ensures.sum f l z);
      rest = record {
        same_length = c.set_settled.ensures.rest.same_length ∙ c.set_summed-3.ensures.rest.same_length ∙ c.set_summed-2.ensures.rest.same_length ∙ c.set_summed.ensures.rest.same_length ∙ c.end_data.ensures.rest.same_length;
        same_byte = λ b k l un. c.set_settled.ensures.rest.same_byte b k l (λ x. un (inr (inr (x.0, inr x.1)))) ∙ c.set_summed-3.ensures.rest.same_byte b k l (λ x. un (inr (inr (x.0, wider_field x.1))))
            ∙ c.set_summed-2.ensures.rest.same_byte b k l (λ x. un (inr (inl (x.0, inr x.1)))) ∙ c.set_summed.ensures.rest.same_byte b k l (λ x. un (inr (inl (x.0, wider_field x.1)))) ∙ c.end_data.ensures.rest.same_byte b k l (λ x. un (inl x));
      };
    }

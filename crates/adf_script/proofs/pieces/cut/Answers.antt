use Rattle.adf_script.proofs.Common.{◌≡◌, ◌++◌, ◌+◌, ◌-◌, ◌∷◌, length, take, drop, refl, sym, ◌∙◌, subst, arith, length-drop, Some, None, append-nil, append_cancel_left, take-append-drop, take_all, IsBehind}
use Rattle.adf_script.proofs.Splitting.{split_at}
use Rattle.adf_script.proofs.pieces.cut.Goals as goal

pub returns-in-Some : goal.returns-in-Some
returns-in-Some c =
    let bytes = c.args.bytes.now
    in let place = c.in-Some.place
    in let split = split_at 32 bytes (Some place) c.in-Some.ensures
    in let whole : take place bytes ++ drop place bytes ≡ bytes = take-append-drop place bytes
    in let all : take (length bytes - place) (drop place bytes) ≡ drop place bytes = take_all (length bytes - place) (drop place bytes) (omega (arith, length-drop place bytes))
    in record {
      whole = subst (λ l. bytes ≡ take place bytes ++ l) (sym all) (sym whole);
      plain = split.2;
      ended = subst IsBehind (append_cancel_left (take place bytes) (32 ∷ drop (place + 1) bytes) (drop place bytes) (sym split.1 ∙ sym whole) ∙ sym all) refl;
    }

pub returns-in-None : goal.returns-in-None
returns-in-None c = record {
  whole = sym (append-nil c.args.bytes.now);
  plain = split_at 32 c.args.bytes.now None c.in-None.ensures;
  ended = tt;
}

use Rattle.adf_text.proofs.Common.{◌≡◌, ℕ, ◌+◌, ◌-◌, List, [], ◌++◌, length, take, drop, sym, ap, ap₂, ◌∙◌, subst, subst₂, arith, take_rest, on_ok_weaker, Appends, Appends-nil, Appends-trans, encode_utf8, char_indices_offset, char_indices_rest}
use Rattle.adf_text.proofs.PlainLemmas.{IsWritten, written_none, written_as_it_is, written_escaped, written_all}
use Rattle.adf_text.proofs.plain.put_plain.Goals as goal

pub loop-place-init : goal.loop-place-init
loop-place-init g c =
    let it = c.char_indices-place-items.ensures in
    let none = subst₂ (λ r o. IsWritten c.args.has_lines c.args.text.now r [] 0 o) (sym it.rest) (sym it.offset) (written_none c.args.has_lines c.args.text.now c.utf8.text) in (
      [],
      Appends-nil _,
      subst (λ t. IsWritten c.args.has_lines c.args.text.now (char_indices_rest t) [] 0 (char_indices_offset t)) (sym c.into_iter-place-iterator.ensures.into_iter_gives) none,
    )

pub loop-place-preserved-in-Some-escape_of : goal.loop-place-preserved-in-Some-escape_of
loop-place-preserved-in-Some-escape_of g c =
    let w = c.loop-place.invariant in
    let s = c.in-Some.ensures.steps in
    let part = ap₂ (λ p (b : List ℕ). take (p - c.loop-place.front) (drop c.loop-place.front b)) s.0 c.as_bytes-bytes.ensures.value in
    let first = subst (Appends _ _) part c.in_ok-put.ensures in
    let second = subst (Appends _ _) c.as_bytes.ensures.value c.in_ok-put-2.ensures in
    let front : c.in-Some.place + c.len_utf8.result ≡ char_indices_offset c.loop-place.place-iterator + length (encode_utf8 c.in-Some.letter) = omega (arith, s.0, c.len_utf8.ensures.len) in
    let written : List ℕ = (w.0 ++ take (char_indices_offset c.loop-place.place-iterator - c.loop-place.front) (drop c.loop-place.front c.args.text.now)) ++ c.in-Some-escape_of.escape.now in (
      written,
      Appends-trans _ _ _ _ _ (Appends-trans _ _ _ _ _ w.1 first) second,
      subst₂ (λ f o. IsWritten c.args.has_lines c.args.text.now (char_indices_rest c.next.new.self) written f o) (sym front) (sym s.2)
          (written_escaped _ _ _ _ _ _ _ w.2 c.in-Some.letter s.1 c.in-Some-escape_of.escape.now c.in-Some-escape_of.ensures),
    )

pub loop-place-preserved : goal.loop-place-preserved
loop-place-preserved g c =
    let w = c.loop-place.invariant in
    let s = c.in-Some.ensures.steps in (
      w.0,
      w.1,
      subst (λ o. IsWritten c.args.has_lines c.args.text.now (char_indices_rest c.next.new.self) w.0 c.loop-place.front o) (sym s.2)
          (written_as_it_is _ _ _ _ _ _ _ w.2 c.in-Some.letter s.1 c.in_default.ensures),
    )

pub returns : goal.returns
returns g c =
    let w = c.loop-place.invariant in
    let part = take_rest c.as_bytes-bytes.result.now c.loop-place.front ∙ ap (drop c.loop-place.front) c.as_bytes-bytes.ensures.value in
    let all = ap (λ (l : List ℕ). w.0 ++ l) part ∙ written_all _ _ _ _ _ _ w.2 c.in-None.ensures.steps.0 in
    on_ok_weaker c.put-2.result (λ last. subst (Appends _ _) all (Appends-trans _ _ _ _ _ w.1 last)) c.put-2.ensures

use Rattle.adf_record.proofs.Common.{◌≡◌, ℕ, List, [], ◌++◌, refl, ap₂, ◌∙◌, subst, print, Token, AreWithoutZeros, head_tokens}
use Rattle.hex.specs.Hex.{encode_lower}
use Rattle.adf_record.proofs.bundle_lines.head_line.Goals as goal

pub returns : goal.returns
returns c =
    let created = c.in_ok-put_date.ensures.tokens in
    let changed = c.in_ok-put_date-2.ensures.tokens in
    let root = c.in_ok-put_date-3.ensures.tokens in
    let kept = c.without_zeros.result.now in
    let boot : c.as_str.result.now ≡ encode_lower kept = c.as_str.ensures.value ∙ c.in_ok-boot.ensures in
    let tokens : c.begin_array.new.self.tokens ≡ head_tokens c.args.bundle.now.head created.0 changed.0 root.0 kept =
    rw (
      c.in_ok-begin_array.ensures.ok,
      c.in_ok-key.ensures.ok,
      c.in_ok-put_text-2.ensures.tokens,
      root.2,
      changed.2,
      created.2,
      c.in_ok-put_letters.ensures.tokens,
      c.in_ok-put_number.ensures.tokens,
      c.in_ok-put_text.ensures.tokens,
      c.in_ok-begin_object.ensures.ok,
      c.new-writer.ensures.tokens,
      boot,
      c.bytes.ensures.value,
      c.from.ensures,
      c.format_word.ensures,
    ) refl in
    let before : c.begin_array.new.self.before ≡ [] =
    cc (c.in_ok-begin_array.ensures.room.0, c.in_ok-key.ensures.room.0, c.in_ok-begin_object.ensures.room.0, c.new-writer.ensures.before, c.new.ensures.items) in (
      created.0,
      changed.0,
      root.0,
      kept,
      created.1,
      changed.1,
      root.1,
      subst (λ (bytes : List ℕ). AreWithoutZeros bytes kept) c.deref.ensures.value c.without_zeros.ensures,
      c.into_inner.ensures.items ∙ ap₂ (λ (b : List ℕ) (ts : List Token). b ++ print ts) before tokens,
    )

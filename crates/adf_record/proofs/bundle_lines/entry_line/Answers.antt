use Rattle.adf_record.proofs.Common.{◌≡◌, ℕ, List, [], ◌++◌, ap₂, ◌∙◌, append_assoc, print, Token, entry_tokens}
use Rattle.adf_record.proofs.bundle_lines.entry_line.Goals as goal

pub returns : goal.returns
returns c =
    let entry = c.args.entry.now in
    let date = c.in_ok-put_date.ensures.tokens in
    let tokens : c.end_object.new.self.tokens ≡ entry_tokens c.args.entry.now c.args.path.now date.0 =
    simp (
      c.in_ok-end_object.ensures.ok,
      c.in_ok-put_letters-2.ensures.tokens,
      date.2,
      c.in_ok-put_number.ensures.tokens,
      c.in_ok-put_size.ensures.tokens,
      c.in_ok-put_letters.ensures.tokens,
      c.in_ok-begin_object.ensures.ok,
      c.new-writer.ensures.tokens,
      c.bytes.ensures.value,
      c.from.ensures,
      append_assoc,
    ) in
    let before : c.end_object.new.self.before ≡ [] =
    cc (c.in_ok-end_object.ensures.room.0, c.in_ok-begin_object.ensures.room.0, c.new-writer.ensures.before, c.new.ensures.items) in
    (date.0, date.1, c.into_inner.ensures.items ∙ ap₂ (λ (b : List ℕ) (ts : List Token). b ++ print ts) before tokens)

use Rattle.std.proofs.Common.{append_assoc}
use Rattle.adf_archive.proofs.lines.push_suspect.Goals as goal

pub returns : goal.returns
returns c =
    simp (
      c.in_ok-push.ensures.items,
      c.in_ok-push_entry.ensures,
      c.in_ok-extend_from_slice-3.ensures.items,
      c.as_bytes-2.ensures.value,
      c.in_ok-owner.ensures,
      c.in_ok-extend_from_slice-2.ensures.items,
      c.as_bytes.ensures.value,
      c.in_ok-words.ensures.ok,
      c.in_ok-extend_from_slice.ensures.items,
      append_assoc,
    )

use Rattle.adf_text.proofs.Common.{◌≡◌, refl, chars_from_encodes}
use Rattle.std.specs.Str.{chars}
use Rattle.adf_text.proofs.host.host_name_bytes.Goals as goal

pub returns-clause-ok : goal.returns-clause-ok
returns-clause-ok c =
    let stands : c.in_ok-letters.letters.items ≡ chars c.args.text.now = chars_from_encodes c.in_ok-letters.letters.items c.args.text.now c.utf8.text c.in_ok-letters.ensures.ok in
    rw (c.in_ok-append_to.ensures.ok, c.new-bytes.ensures.items, c.percent_decode.ensures.bytes, c.deref.ensures.value, stands) refl

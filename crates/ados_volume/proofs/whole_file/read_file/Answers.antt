use Rattle.ados_volume.proofs.Common.{Content, HasFileKey, List, Option, Some, ap, bytes_in, bytes_of, content_in, contents, file_writable, length, readable, rules, size_in, subst, sym, ℕ, ◌∙◌, ◌≡◌}
use Rattle.ados_model.specs.File.{ReadableFile}
use Rattle.ados_model.specs.Tree.{bytes_in as bytes_held}
use Rattle.ados_volume.proofs.WholeFile.{read_whole, written_back}
use Rattle.ados_volume.proofs.whole_file.read_file.Goals as goal

pub read_near-requires-clause-readable : goal.read_near-requires-clause-readable
read_near-requires-clause-readable c =
    let key : HasFileKey c.args.volume.now.image c.args.key = search rules in
    subst (λ (image : List ℕ). ReadableFile image c.args.key) (sym c.image.ensures.same)
    (readable c.args.volume.now.image c.args.key (file_writable c.args.volume.now.image c.args.key c.image.ensures.stands key).lawful)

pub returns : goal.returns
returns c = λ t s.
    let key : HasFileKey c.args.volume.now.image c.args.key = search rules in
    let file = key t s in
    let n = content_in (t.nodes c.args.key) _ file.1 in
    let whole : c.size.result ≡ length (bytes_of t c.args.key) = c.size.ensures t n.0 s n.1 ∙ ap (λ (content : Content). size_in (Some content)) n.2 ∙ sym (ap (λ (content : Option Content). length (bytes_held content)) file.1) in
    let room = c.as_mut_slice.ensures.len ∙ c.in_ok-bytes.ensures.len in
    let held : contents c.image.result.now c.args.key ≡ bytes_of t c.args.key = ap (λ (image : List ℕ). contents image c.args.key) c.image.ensures.same ∙ bytes_in c.args.volume.now.image t s c.args.key key in
    let read = read_whole (bytes_of t c.args.key) (contents c.image.result.now c.args.key) c.as_mut_slice.result.now c.read_near.new.buffer c.read_near.result c.size.result held room whole c.read_near.ensures.count c.read_near.ensures.bytes in
    written_back (bytes_of t c.args.key) c.read_near.new.buffer c.in_ok-bytes.bytes.items c.in_ok-bytes.bytes.len read (ap length (sym c.as_mut_slice.ensures.value) ∙ room ∙ whole) (c.in_ok-bytes.ensures.len ∙ whole)

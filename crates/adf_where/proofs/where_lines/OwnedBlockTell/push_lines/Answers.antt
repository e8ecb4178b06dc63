use Rattle.adf_where.proofs.Common.{◌≡◌, ℕ, List, [], ◌∷◌, ◌++◌, append_assoc, on_ok_weaker, option_map, ap, ap₂, ◌∙◌, owner_text, path_text, place_text, span_text}
use Rattle.std.specs.String.{string_bytes}
use Rattle.adf_where.specs.Where.{unread_line}
use Rattle.adf_where.proofs.where_lines.OwnedBlockTell.push_lines.Goals as goal

six_pieces : (text a b c d e f : List ℕ) → (((((text ++ a) ++ b) ++ c) ++ d) ++ e) ++ f ≡ text ++ (a ++ b ++ c ++ d ++ e ++ f)
six_pieces text a b c d e f = simp append_assoc

pub returns : goal.returns
returns c =
    let told = c.args.self.now in
    let path = path_text told.block told.owner (option_map string_bytes told.path) in
    let span = span_text told.span in
    let unread = unread_line told.unread told.block in
    let join = λ (a b : List ℕ). a ++ b in
    let place = c.in_ok-extend_from_slice.ensures.items ∙ ap (λ (l : List ℕ). c.args.text.now.items ++ l) (c.as_bytes.ensures.value ∙ c.in_ok-place.ensures) in
    let owner = c.in_ok-extend_from_slice-2.ensures.items ∙ ap₂ join place (c.as_bytes-2.ensures.value ∙ c.in_ok-owner.ensures) in
    let as_far_as_path = c.in_ok-push_path.ensures ∙ ap (λ (l : List ℕ). l ++ path) owner in
    let as_far_as_span = c.in_ok-push_span.ensures ∙ ap (λ (l : List ℕ). l ++ span) as_far_as_path in
    let line = c.in_ok-push.ensures.items ∙ ap (λ (l : List ℕ). l ++ 10 ∷ []) as_far_as_span in
    on_ok_weaker c.push_unread.result
    (λ last. last ∙ ap (λ (l : List ℕ). l ++ unread) line ∙ six_pieces c.args.text.now.items (place_text c.args.blocks told.block) (owner_text told.owner) path span (10 ∷ []) unread)
    c.push_unread.ensures

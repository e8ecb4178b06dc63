use Rattle.std.proofs.Common.{List, [], ◌∷◌, ◌++◌}
use Rattle.std.proofs.lemmas.Result.{on_ok_weaker}
use Rattle.adf_archive.proofs.Common.{Token, begin_object, end_object}
use Rattle.adf_archive.specs.Objects.{owner_tokens, place_tokens}
use Rattle.adf_record.proofs.Tokens.{behind}
use Rattle.adf_archive.proofs.objects.put_suspect.Goals as goal

pub returns-clause-tokens : goal.returns-clause-tokens
returns-clause-tokens c =
    let place : List Token = place_tokens c.args.suspect.now in
    let owner : List Token = owner_tokens c.args.suspect.now.owner in
    let end : List Token = end_object ∷ [] in
    on_ok_weaker c.end_object.result
    (λ last.
    behind c.args.writer.now.tokens c.begin_object.new.self.tokens c.end_object.new.self.tokens (begin_object ∷ []) (place ++ (owner ++ end)) c.in_ok-begin_object.ensures.ok
    (behind c.begin_object.new.self.tokens c.put_place.new.writer.tokens c.end_object.new.self.tokens place (owner ++ end) c.in_ok-put_place.ensures.tokens
    (behind c.put_place.new.writer.tokens c.put_owner.new.writer.tokens c.end_object.new.self.tokens owner end c.in_ok-put_owner.ensures.tokens last)))
    c.end_object.ensures.ok

use Rattle.std.specs.List.{enumerate_from}
use Rattle.adf_where.proofs.Common.{List, [], ◌∷◌, ◌++◌, codes, flat_map, on_ok_weaker}
use Rattle.adf_where.specs.BlockMap.{header_tokens}
use Rattle.json.specs.Token.{Token, begin_array, begin_object, end_array, end_object, key, string}
use Rattle.adf_record.proofs.Tokens.{behind}
use Rattle.adf_where.proofs.map_object.put_object.Goals as goal

pub returns-clause-tokens : goal.returns-clause-tokens
returns-clause-tokens c =
    let new = c.end_object.new.self.tokens in
    let map : List Token = key (codes "map") ∷ string c.args.marks.now ∷ [] in
    let headers : List Token = flat_map header_tokens (enumerate_from 0 c.args.owners.now) in
    let end : List Token = end_array ∷ end_object ∷ [] in
    let array : List Token = key (codes "headers") ∷ begin_array ∷ (headers ++ end) in
    on_ok_weaker c.end_object.result
    (λ last.
    behind c.args.writer.now.tokens c.begin_object.new.self.tokens new (begin_object ∷ []) (map ++ array) c.in_ok-begin_object.ensures.ok
    (behind c.begin_object.new.self.tokens c.put_text.new.writer.tokens new map array c.in_ok-put_text.ensures.tokens
    (behind c.put_text.new.writer.tokens c.key.new.self.tokens new (key (codes "headers") ∷ []) (begin_array ∷ (headers ++ end)) c.in_ok-key.ensures.ok
    (behind c.key.new.self.tokens c.begin_array.new.self.tokens new (begin_array ∷ []) (headers ++ end) c.in_ok-begin_array.ensures.ok
    (behind c.begin_array.new.self.tokens c.put_headers.new.writer.tokens new headers end c.in_ok-put_headers.ensures.tokens
    (behind c.put_headers.new.writer.tokens c.end_array.new.self.tokens new (end_array ∷ []) (end_object ∷ []) c.in_ok-end_array.ensures.ok last))))))
    c.end_object.ensures.ok

use Rattle.std.proofs.Common.{◌≡◌, ℕ, List, [], ◌∷◌, ◌++◌, Option, codes, decimal, option_map, ap, ◌∙◌}
use Rattle.adf_archive.proofs.Common.{Token, begin_object, end_object, key, string, number, found_in, wanted_in}
use Rattle.std.proofs.lemmas.Result.{on_ok_weaker}
use Rattle.adf_record.specs.Members.{number_token, string_token}
use Rattle.adf_record.proofs.Tokens.{behind}
use Rattle.adf_archive.proofs.objects.put_fault.Goals as goal

pub returns-clause-tokens : goal.returns-clause-tokens
returns-clause-tokens c =
    let kind : List Token = key (codes "kind") ∷ string c.args.kind.now ∷ [] in
    let block : List Token = key (codes "block") ∷ number (decimal c.args.block) ∷ [] in
    let path : List Token = key (codes "path") ∷ string_token (option_map (λ text. text.now) c.args.path) ∷ [] in
    let found : List Token = key (codes "found") ∷ number_token (found_in c.args.values) ∷ [] in
    let wanted : List Token = key (codes "wanted") ∷ number_token (wanted_in c.args.values) ∷ [] in
    let text : List Token = key (codes "text") ∷ string_token (option_map (λ text. text.now) c.args.text) ∷ [] in
    let end : List Token = end_object ∷ [] in
    let second : c.put_number.new.writer.tokens ≡ c.put_text.new.writer.tokens ++ block =
    c.in_ok-put_number.ensures.tokens ∙ ap (λ (n : ℕ). c.put_text.new.writer.tokens ++ key (codes "block") ∷ number (decimal n) ∷ []) c.from.ensures in
    let fourth : c.put_number-2.new.writer.tokens ≡ c.put_text-2.new.writer.tokens ++ found =
    c.in_ok-put_number-2.ensures.tokens ∙ ap (λ (n : Option ℕ). c.put_text-2.new.writer.tokens ++ key (codes "found") ∷ number_token n ∷ []) c.found_in.ensures in
    let fifth : c.put_number-3.new.writer.tokens ≡ c.put_number-2.new.writer.tokens ++ wanted =
    c.in_ok-put_number-3.ensures.tokens ∙ ap (λ (n : Option ℕ). c.put_number-2.new.writer.tokens ++ key (codes "wanted") ∷ number_token n ∷ []) c.wanted_in.ensures in
    on_ok_weaker c.end_object.result
    (λ last.
    behind c.args.writer.now.tokens c.begin_object.new.self.tokens c.end_object.new.self.tokens (begin_object ∷ []) (kind ++ (block ++ (path ++ (found ++ (wanted ++ (text ++ end)))))) c.in_ok-begin_object.ensures.ok
    (behind c.begin_object.new.self.tokens c.put_text.new.writer.tokens c.end_object.new.self.tokens kind (block ++ (path ++ (found ++ (wanted ++ (text ++ end))))) c.in_ok-put_text.ensures.tokens
    (behind c.put_text.new.writer.tokens c.put_number.new.writer.tokens c.end_object.new.self.tokens block (path ++ (found ++ (wanted ++ (text ++ end)))) second
    (behind c.put_number.new.writer.tokens c.put_text-2.new.writer.tokens c.end_object.new.self.tokens path (found ++ (wanted ++ (text ++ end))) c.in_ok-put_text-2.ensures.tokens
    (behind c.put_text-2.new.writer.tokens c.put_number-2.new.writer.tokens c.end_object.new.self.tokens found (wanted ++ (text ++ end)) fourth
    (behind c.put_number-2.new.writer.tokens c.put_number-3.new.writer.tokens c.end_object.new.self.tokens wanted (text ++ end) fifth
    (behind c.put_number-3.new.writer.tokens c.put_text-3.new.writer.tokens c.end_object.new.self.tokens text end c.in_ok-put_text-3.ensures.tokens last)))))))
    c.end_object.ensures.ok

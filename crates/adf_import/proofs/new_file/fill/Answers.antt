use Rattle.std.proofs.Common.{[], ◌∷◌, length, subst}
use Rattle.adf_import.proofs.Common.{Stands, written, cut_back, describing, none, one_more}
use Rattle.adf_import.proofs.Filling.{IsEntry, IsFileKey, after_change, content_held, filled_is, held_entry, holds_its_own, holds_put, holds_written}
use Rattle.adf_import.proofs.Turns.{goes_both}
use Rattle.adf_import.proofs.new_file.fill.Goals as goal

pub cut_behind-requires : goal.cut_behind-requires
cut_behind-requires c =
    let t = c.image.ensures.stands.0 in
    let s = c.image.ensures.stands.1 in
    let old = c.requires.key t s in
    let hold = holds_written t t c.args.key old.0 (holds_its_own t c.args.key old.0 old.1) c.args.moment c.args.file.now.bytes.now in
    after_change (IsFileKey c.args.key) (written c.args.moment c.args.key 0 c.args.file.now.bytes.now) c.args.volume.now.image c.write.new.self.image t s (λ v q. (c.in-Ok.ensures.done v q).1)
    (_, content_held t _ c.args.key _ hold)

pub describe-requires : goal.describe-requires
describe-requires c =
    let t = c.image.ensures.stands.0 in
    let s = c.image.ensures.stands.1 in
    let old = c.requires.key t s in
    let u = written c.args.moment c.args.key 0 c.args.file.now.bytes.now t in
    let at_u = (c.in-Ok.ensures.done t s).1 in
    let hold = holds_put t c.args.moment c.args.key old.0 c.args.file.now.bytes.now old.1 in
    after_change (IsEntry c.args.key) (cut_back c.args.moment c.args.key (length c.args.file.now.bytes.now)) c.write.new.self.image c.cut_behind.new.volume.image u at_u c.cut_behind.ensures.stands
    (held_entry t _ c.args.key _ hold (c.cut_behind.ensures.stands u at_u).proper)

pub returns-clause-stands : goal.returns-clause-stands
returns-clause-stands c = λ t s.
    let old = c.requires.key t s in
    subst (Stands c.describe.new.volume.image) (filled_is t c.args.moment c.args.key c.args.file.now old.0 old.1)
    (c.describe.ensures.stands _ (c.cut_behind.ensures.stands _ ((c.in-Ok.ensures.done t s).1)))

pub returns-clause-goes : goal.returns-clause-goes
returns-clause-goes c =
    let t = c.image.ensures.stands.0 in
    let wrote = (c.in-Ok.ensures.done t c.image.ensures.stands.1).1 in
    let cut = c.cut_behind.ensures.stands _ wrote in
    let write = written c.args.moment c.args.key 0 c.args.file.now.bytes.now in
    let shorten = cut_back c.args.moment c.args.key (length c.args.file.now.bytes.now) in
    goes_both c.args.volume.now.image c.cut_behind.new.volume.image c.describe.new.volume.image (write ∷ shorten ∷ []) (describing c.args.moment c.args.key c.args.file.now)
    (one_more (write ∷ []) shorten (one_more [] write none (λ t s. (c.in-Ok.ensures.done t s).1) c.write.ensures.keeps (_, wrote)) c.cut_behind.ensures.stands c.cut_behind.ensures.keeps (_, cut))
    c.describe.ensures.goes

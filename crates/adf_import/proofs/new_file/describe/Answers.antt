use Rattle.std.proofs.Common.{[], ◌∷◌, refl}
use Rattle.adf_import.proofs.Common.{Node, described, none, one_more, with_comment, with_date, with_protection}
use Rattle.adf_import.proofs.Keeping.{keeps_described, keeps_keys, keys_edited}
use Rattle.adf_import.proofs.new_file.describe.Goals as goal

pub set_comment-requires : goal.set_comment-requires
set_comment-requires c =
    (keys_edited c.args.volume.now.image c.set_protect.new.self.image c.args.moment c.args.key (λ (node : Node). record node { protection = c.args.file.now.protection.0 })
    c.image.ensures.stands c.set_protect.ensures.stands (λ node. refl)).entry c.args.key c.requires

pub set_date-requires : goal.set_date-requires
set_date-requires c =
    let bits = keys_edited c.args.volume.now.image c.set_protect.new.self.image c.args.moment c.args.key (λ (node : Node). record node { protection = c.args.file.now.protection.0 })
    c.image.ensures.stands c.set_protect.ensures.stands (λ node. refl) in
    (keys_edited c.set_protect.new.self.image c.set_comment.new.self.image c.args.moment c.args.key (λ (node : Node). record node { comment = c.args.file.now.comment })
    (_, c.set_protect.ensures.stands c.image.ensures.stands.0 c.image.ensures.stands.1) c.set_comment.ensures.stands (λ node. refl)).entry c.args.key (bits.entry c.args.key c.requires)

pub returns-clause-stands : goal.returns-clause-stands
returns-clause-stands c = λ t s. c.set_date.ensures.stands _ (c.set_comment.ensures.stands _ (c.set_protect.ensures.stands t s))

pub returns-clause-keys : goal.returns-clause-keys
returns-clause-keys c =
    keeps_keys c.args.volume.now.image c.set_date.new.self.image (described c.args.moment c.args.key c.args.file.now) c.image.ensures.stands
    (λ t s. c.set_date.ensures.stands _ (c.set_comment.ensures.stands _ (c.set_protect.ensures.stands t s))) (λ t s. keeps_described t c.args.moment c.args.key c.args.file.now)

pub returns-clause-goes : goal.returns-clause-goes
returns-clause-goes c =
    let protect = with_protection c.args.moment c.args.key c.args.file.now.protection.0 in
    let comment = with_comment c.args.moment c.args.key c.args.file.now.comment in
    let t = c.image.ensures.stands.0 in
    let bits = c.set_protect.ensures.stands t c.image.ensures.stands.1 in
    let text = c.set_comment.ensures.stands _ bits in
    let date = c.set_date.ensures.stands _ text in
    one_more (protect ∷ comment ∷ []) (with_date c.args.moment c.args.key c.args.file.now.date)
    (one_more (protect ∷ []) comment (one_more [] protect none c.set_protect.ensures.stands c.set_protect.ensures.keeps (_, bits)) c.set_comment.ensures.stands c.set_comment.ensures.keeps (_, text))
    c.set_date.ensures.stands c.set_date.ensures.keeps (_, date)

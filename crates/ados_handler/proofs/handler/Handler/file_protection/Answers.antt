use Rattle.std.proofs.Common.{sym, subst}
use Rattle.ados_handler.proofs.Common.{HasFileKey, HandlerState}
use Rattle.ados_handler.proofs.HandleFiles.{file_is_key}
use Rattle.ados_handler.proofs.handler.Handler.file_protection.Goals as goal

pub protection-requires : goal.protection-requires
protection-requires c = file_is_key c.self.inside.volume.image c.args.key (subst (λ (h : HandlerState). HasFileKey h.image c.args.key) (sym c.self.view_is) c.requires)

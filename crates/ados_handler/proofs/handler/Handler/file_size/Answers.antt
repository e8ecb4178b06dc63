use Rattle.std.proofs.Common.{arith, sym, subst}
use Rattle.ados_handler.proofs.Common.{HasFileKey, Stands, HandlerState}
use Rattle.ados_handler.proofs.Sizes.{size_small}
use Rattle.ados_handler.proofs.HandleFiles.{file_is_key, size_told}
use Rattle.ados_handler.proofs.handler.Handler.file_size.Goals as goal

pub size-requires : goal.size-requires
size-requires c = file_is_key c.self.inside.volume.image c.args.key (subst (λ (h : HandlerState). HasFileKey h.image c.args.key) (sym c.self.view_is) c.requires)

pub returns-clause-size : goal.returns-clause-size
returns-clause-size c t stands =
    size_told c.self.inside.volume.image c.args.key (subst (λ (h : HandlerState). HasFileKey h.image c.args.key) (sym c.self.view_is) c.requires) c.size.result c.size.ensures t
    (subst (λ (h : HandlerState). Stands h.image t) (sym c.self.view_is) stands)

pub returns-clause-small : goal.returns-clause-small
returns-clause-small c =
    let stands = subst (λ (h : HandlerState). Stands h.image c.self.invariant.tree) c.self.view_is c.self.invariant.stands in
    omega (arith, returns-clause-size c c.self.invariant.tree stands, size_small c.args.self.now.image c.self.invariant.tree stands c.args.key)

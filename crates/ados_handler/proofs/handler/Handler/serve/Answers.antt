use Rattle.std.proofs.Common.{◌≡◌, rules, sym, subst}
use Rattle.ados_handler.proofs.Common.{HandlerGives, answer_to}
use Rattle.ados_model.specs.declared.answer.Answer.{Answer}
use Rattle.ados_handler.proofs.Rooms.{answers_give}
use Rattle.ados_handler.proofs.handler.Handler.serve.Goals as goal

pub returns : goal.returns
returns c =
    let answer : ◌≡◌ {A = Answer} c.to.result (answer_to c.args.packet c.results_of.result) = search rules in
    subst (λ (a : Answer). HandlerGives c.args.self.now c.args.packet c.args.now c.results_of.new.self a) (sym answer)
    (answers_give c.args.self.now c.results_of.new.self c.args.packet c.args.now c.results_of.result c.results_of.ensures.gives c.results_of.ensures.room)

use Rattle.std.proofs.Common.{rules}
use Rattle.ados_handler.proofs.handler.Handler.results_of.Goals as goal

pub returns-in-LocateObject-clause-gives : goal.returns-in-LocateObject-clause-gives
returns-in-LocateObject-clause-gives c = let gives = c.locate_object.ensures.gives c.args.now in search rules

pub returns-in-ExamineNext-clause-gives : goal.returns-in-ExamineNext-clause-gives
returns-in-ExamineNext-clause-gives c = let gives = c.examine_next.ensures.gives c.args.now in search rules

pub returns-in-Read-clause-gives : goal.returns-in-Read-clause-gives
returns-in-Read-clause-gives c = let gives = c.read.ensures.gives c.args.now in search rules

pub returns-in-Seek-clause-gives : goal.returns-in-Seek-clause-gives
returns-in-Seek-clause-gives c = let gives = c.seek.ensures.gives c.args.now in search rules

pub returns-in-Other-clause-gives : goal.returns-in-Other-clause-gives
returns-in-Other-clause-gives c = let gives = c.unknown.ensures c.in-Other.action c.args.now in search rules

-- The names that most of these proofs cite, passed on from one place. Declares nothing.
pub use Rattle.adf_script.specs.Lines.{is_too_long, kept_lines}
pub use Rattle.adf_script.specs.Packets.{ArePackets, NextIsFaulty, NextPuts, NoneIsLeft}
pub use Rattle.adf_script.specs.Spoken.{Spoken, SpokenEnd}
pub use Rattle.adf_script.specs.Text.{closed_line, fault_line, no_reply_line, no_room_line, reply_line, reply_lines}
pub use Rattle.adf_script.specs.declared.ending.ClientEnding.{ClientEnding}
pub use Rattle.adf_script.specs.declared.ending.ClientEnding.TheVariants.{Done, Script, Tries}
pub use Rattle.ados_handler.specs.Gives.{HandlerGives}
pub use Rattle.ados_model.proofs.OneTree.{one_tree}
pub use Rattle.ados_model.specs.Session.{Session, opening_session}
pub use Rattle.ados_handler.specs.HandlerState.{HandlerState}
pub use Rattle.ados_model.specs.Stands.{Stands}
pub use Rattle.ados_model.specs.Tree.{Tree}
pub use Rattle.ados_model.specs.declared.answer.Answer.{Answer}
pub use Rattle.ados_model.specs.declared.packet.Packet.{Packet}
pub use Rattle.ados_name.specs.declared.stamp.Date3.{Date3}
pub use Rattle.ados_port.specs.Ends.{AreEnds, ClientView, CloseMeansDeath, HandlerView, IsNew, Serves}
pub use Rattle.ados_port.specs.Grown.{EachDid, Grown}
pub use Rattle.ados_port.specs.History.{Event, OutcomeFits, PortHistory, PortState, Run, ServerMeaning, Serving, events_of, last_server, opening_port, served_count}
pub use Rattle.ados_port.specs.Lawful.{ClientLists, Lawful, numbered, served_by}
pub use Rattle.ados_port.specs.declared.step.Outcome.{Outcome}
pub use Rattle.ados_port.specs.declared.step.Reply.{Reply}
pub use Rattle.ados_port.specs.declared.step.Step.{Step}
pub use Rattle.ados_run.specs.Asking.{Replied, Rests, StoppedBy, stop_ending, stop_line}
pub use Rattle.ados_run.specs.Keeping.{KeepsServed, KeepsVolume, ServesBoth}
pub use Rattle.ados_run.specs.Runs.{BothSides, FollowsTree, HandlerPort, MeansBoth, PacketOutcomes, PacketSteps, RestsAfter, RunsVolume, RunsWith, handler_after, port_beside}
pub use Rattle.ados_run.specs.Scripts.{AreUnused, EachTells, IsUnused, Tells}
pub use Rattle.ados_run.specs.ServesVolume.{handler_over}
pub use Rattle.ados_run.specs.TreeLists.{ListsFollowTree, beside, both_died, handler_died, handlers_of}
pub use Rattle.std.proofs.lemmas.List.{length-map, map-append, take-map}
pub use Rattle.std.proofs.lemmas.Option.{none-some, same_Some, slice_get_cases, slice_get_within}
pub use Rattle.std.specs.Prelude.{All, IsTrue, Option, Vec}

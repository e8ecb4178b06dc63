-- The names that most of these proofs cite, passed on from one place. Declares nothing.
pub use Rattle.adf_script.specs.Grammar.{Field, IsFaulty, IsNumber, IsPacketLine, IsSigned, IsValue, LongText, Number, Signed, SpellsField, SpellsFields, Text, Value, Zeros, form_of}
pub use Rattle.adf_script.specs.Lines.{is_skipped, is_too_long, kept_from, kept_lines, lines_of, on_first}
pub use Rattle.adf_script.specs.Packets.{ArePackets, NextIsFaulty, NextPuts, NoneIsLeft}
pub use Rattle.adf_script.specs.Pieces.{IsBehind, IsCut, IsSplit, has_byte}
pub use Rattle.adf_script.specs.Text.{closed_line, fault_line, hex_byte, reply_line, reply_lines}
pub use Rattle.adf_script.specs.Told.{LinesTell, Told, outcomes_of, steps_of}
pub use Rattle.adf_script.specs.Told.LinesTell.{answered, closed, ended, faulty}
pub use Rattle.adf_script.specs.Values.{answer_value, answer_values}
pub use Rattle.adf_script.specs.steps.Calls.{Calls, IsQuiet, quiet_port}
pub use Rattle.adf_script.specs.steps.Left.{IsLeft}
pub use Rattle.ados_model.specs.declared.answer.Answer.{Answer}
pub use Rattle.ados_model.specs.declared.packet.Packet.{Packet}
pub use Rattle.ados_port.proofs.Histories.{history_nil, slice_get-push_at}
pub use Rattle.ados_port.specs.Gives.{PutGives, ServeGives, StepGives, TakeGives}
pub use Rattle.ados_port.specs.History.{ClientState, PortHistory, PortState, client_state, opening_port}
pub use Rattle.ados_port.specs.Lawful.{numbered}
pub use Rattle.ados_port.specs.declared.step.Outcome.TheVariants.{Accepted, Refused, Served, Taken}
pub use Rattle.ados_port.specs.declared.step.PutRefused.TheVariants.{Closed, NoRoom}
pub use Rattle.ados_port.specs.declared.step.Reply.{Reply}
pub use Rattle.std.proofs.Common.{Bool, Bor, List, MatchOption, None, Option, Some, [], ap, append_assoc, arith, cond, drop, eq-eqb, false, get_or, inl, inr, length, length-append, length-drop, nat_lt, refl, replicate, rules, slice_get, subst, suc, sym, take, true, zero, ℕ, ℤ, ◌++◌, ◌+◌, ◌-◌, ◌<◌, ◌^◌, ◌∙◌, ◌∷◌, ◌≡◌, ◌≢◌, ◌≤◌, ◌⊎◌}
pub use Rattle.std.proofs.lemmas.Bool.{cases_lt, lt-ltb, ltb-false, ltb-true}
pub use Rattle.std.proofs.lemmas.Bool.Decides.{eqb_tells}
pub use Rattle.std.proofs.lemmas.Int.{to_z-of_z}
pub use Rattle.std.proofs.lemmas.List.{append-nil, append_cancel_left, get_or_default, length-replicate, length-take, map-append, nil_from_length, take-append-drop, take-append-le, take_all}
pub use Rattle.std.proofs.lemmas.Option.{none-some, same_Some, slice_get_past, slice_get_within}
pub use Rattle.std.proofs.lemmas.Result.{IfOk-weaker, on_ok_weaker}
pub use Rattle.std.proofs.lemmas.Str.Parse.{digit_from_value}
pub use Rattle.std.specs.Bool.{MatchBool}
pub use Rattle.std.specs.List.{enumerate_from, position, position_or_len}
pub use Rattle.std.specs.Prelude.{All, filter, flat_map, if◌then◌else◌, not, slice_set, ◌&&◌, ◌==◌, ◌||◌}
pub use Rattle.std.specs.Str.Parse.{AllDigits}

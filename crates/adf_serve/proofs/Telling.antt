-- The output of a script over a handler is its output over the tree.
use Rattle.std.proofs.Common.{◌≡◌, ℕ, Bool, true, false, List, [], ◌++◌, Option, Some, None, codes, sym, ap, ◌∙◌, subst}
use Rattle.std.specs.Bool.{MatchBool}
use Rattle.adf_block.specs.declared.layout.Format.TheVariants.{Ffs}
use Rattle.ados_model.specs.Tree.{Tree}
use Rattle.ados_model.specs.Blank.{IsBlank, blank_tree}
use Rattle.ados_model.specs.Stands.{Stands}
use Rattle.ados_port.specs.History.{PortState, opening_port}
use Rattle.ados_model.specs.declared.packet.Packet.{Packet}
use Rattle.ados_model.specs.declared.answer.Answer.{Answer}
use Rattle.ados_model.specs.Session.{Session, opening_session}
use Rattle.ados_handler.specs.HandlerState.{HandlerState}
use Rattle.ados_handler.specs.Gives.{HandlerGives}
use Rattle.ados_run.specs.TreePort.{means, tree_died, over_tree}
use Rattle.ados_run.specs.TreeLists.{handler_died}
use Rattle.ados_run.proofs.Following.{each_side_is_a_history, histories_follow_trees}
use Rattle.adf_script.specs.Lines.{kept_lines, is_too_long}
use Rattle.adf_script.specs.Streams.{ReadsAndWrites}
use Rattle.adf_script.specs.Text.{fault_line}
use Rattle.adf_script.specs.Told.{LinesTell, Told}
use Rattle.adf_script.specs.Told.LinesTell.{ended, answered, closed, faulty}
use Rattle.adf_serve.specs.Script.{RunsScript, TellsScript, first_moment, work_floppy}
use Rattle.std.proofs.KnownBytes.{Keeps-refl}
use Rattle.std.proofs.lemmas.List.{append-nil}
use Rattle.adf_io.specs.Input.{ReadsFront}
use Rattle.adf_script.proofs.Telling.{told_through}
use Rattle.adf_serve.proofs.Floppy.{work_stands}

lines_follow_trees : {port : PortState HandlerState Packet Answer} {lines : List (ℕ × List ℕ)} {values : List (Option ℕ)} {next : ℕ} {text : List ℕ} {whole : Bool}
    → LinesTell HandlerGives handler_died first_moment port lines values next text whole → (t : Tree) → Stands port.server.image t
    → LinesTell means tree_died first_moment (over_tree t port) lines values next text whole
lines_follow_trees ended t stood = ended
lines_follow_trees (answered {port = port} {new = new} puts history rest) t stood =
    let follows = histories_follow_trees t port _ _ new stood history in
    answered puts (each_side_is_a_history t port _ _ new follows).0 (lines_follow_trees rest follows.last_tree follows.stands)
lines_follow_trees (closed {port = port} {new = new} puts history) t stood =
    closed puts (each_side_is_a_history t port _ _ new (histories_follow_trees t port _ _ new stood history)).0
lines_follow_trees (faulty none) t stood = faulty none

told : (t : Tree) (opening : PortState HandlerState Packet Answer) → Stands opening.server.image t → (read written : List ℕ) (whole : Bool)
    → Told HandlerGives handler_died opening first_moment read written whole → Told means tree_died (over_tree t opening) first_moment read written whole
told t opening stood read written whole = go (is_too_long read)
  where
    go : (b : Bool)
        → MatchBool b ((whole ≡ false) × (written ≡ fault_line 1 0)) (LinesTell HandlerGives handler_died first_moment opening (kept_lines read) [] 1 written whole)
        → MatchBool b ((whole ≡ false) × (written ≡ fault_line 1 0)) (LinesTell means tree_died first_moment (over_tree t opening) (kept_lines read) [] 1 written whole)
    go true w = w
    go false w = lines_follow_trees w t stood

pub runs_script : (handler : HandlerState) → IsBlank Ffs 1760 (codes "Work") first_moment handler.image → handler.session ≡ opening_session
    → (reader_old reader_new writer_old writer_new : Option (List ℕ)) (whole : Bool)
    → ReadsAndWrites reader_old reader_new writer_old writer_new (λ read written. Told HandlerGives handler_died (opening_port handler 1) first_moment read written whole)
    → RunsScript reader_old reader_new writer_old writer_new whole
runs_script handler blank none reader_old reader_new writer_old writer_new whole w =
    let t : Tree = blank_tree Ffs 1760 (codes "Work") first_moment in (
      w.0,
      w.1,
      w.2,
      (
        w.3.0,
        w.3.1,
        subst (λ (s : Session). Told means tree_died (opening_port (record { tree = t; session = s }) 1) first_moment w.0 w.3.0 whole) none
            (told t (opening_port handler 1) (work_stands handler.image blank) w.0 w.3.0 whole w.3.2),
      ),
    )

-- the output of a script that is read from its own bytes
pub of_bytes : (script : List ℕ) (after writer_old writer_new : Option (List ℕ)) (whole : Bool)
    → RunsScript (Some script) after writer_old writer_new whole → TellsScript script writer_old writer_new whole
of_bytes script None writer_old writer_new whole w = absurd w.1
of_bytes script (Some rest) writer_old writer_new whole w =
    let same : w.0 ≡ script = sym (w.1 ∙ ap (λ (l : List ℕ). w.0 ++ l) w.2 ∙ append-nil w.0) in
    subst (λ (s : List ℕ). TellsScript s writer_old writer_new whole) same w.3

-- the output of the first bytes of a script is that of the script
pub of_front : (reader_old reader_new writer_old writer_new : Option (List ℕ)) (kept view : List ℕ) (whole : Bool) → view ≡ kept
    → ReadsFront 1048577 reader_old reader_new kept → TellsScript view writer_old writer_new whole → RunsScript reader_old reader_new writer_old writer_new whole
of_front reader_old reader_new writer_old writer_new kept view whole same read told =
    told_through means tree_died (opening_port work_floppy 1) first_moment reader_old reader_new writer_old writer_new writer_new kept view whole same read
    (Keeps-refl writer_new) told

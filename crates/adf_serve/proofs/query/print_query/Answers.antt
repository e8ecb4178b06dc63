use Rattle.std.proofs.Common.{subst, sym}
use Rattle.adf_serve.specs.Commands.{TellsSome}
use Rattle.adf_serve.specs.Texts.{BeginsQueryText, IsQueryText}
use Rattle.adf_serve.specs.declared.query.Query.{Query}
use Rattle.adf_serve.proofs.Printing.{tells_no_image}
use Rattle.adf_serve.proofs.query.print_query.Goals as goal

pub returns-in_err-image : goal.returns-in_err-image
returns-in_err-image g c =
    tells_no_image (IsQueryText c.args.styled c.args.query) (BeginsQueryText c.args.styled c.args.query) _ c.in_err-image.field-0.0 _ c.in_err-image.ensures c.from_residual.ensures.1

pub returns-in-Disk : goal.returns-in-Disk
returns-in-Disk g c =
    subst (λ (query : Query). TellsSome (IsQueryText c.args.styled query) (BeginsQueryText c.args.styled query) (g.W.Write.contents c.args.writer.now) (g.W.Write.contents c.tell_info.new.writer) c.tell_info.result)
    (sym c.in-Disk.is) (c.in_ok-image.image, c.tell_info.ensures)

pub returns-in-List : goal.returns-in-List
returns-in-List g c =
    subst (λ (query : Query). TellsSome (IsQueryText c.args.styled query) (BeginsQueryText c.args.styled query) (g.W.Write.contents c.args.writer.now) (g.W.Write.contents c.tell_list.new.writer) c.tell_list.result)
    (sym c.in-List.is) (c.in_ok-image.image, c.tell_list.ensures)

pub returns-in-Bytes : goal.returns-in-Bytes
returns-in-Bytes g c =
    subst (λ (query : Query). TellsSome (IsQueryText c.args.styled query) (BeginsQueryText c.args.styled query) (g.W.Write.contents c.args.writer.now) (g.W.Write.contents c.tell_bytes.new.writer) c.tell_bytes.result)
    (sym c.in-Bytes.is) (c.in_ok-image.image, c.tell_bytes.ensures)

pub returns-in-Look : goal.returns-in-Look
returns-in-Look g c =
    subst (λ (query : Query). TellsSome (IsQueryText c.args.styled query) (BeginsQueryText c.args.styled query) (g.W.Write.contents c.args.writer.now) (g.W.Write.contents c.tell_look.new.writer) c.tell_look.result)
    (sym c.in-Look.is) (c.in_ok-image.image, c.tell_look.ensures)

pub returns-in-Entry : goal.returns-in-Entry
returns-in-Entry g c =
    subst (λ (query : Query). TellsSome (IsQueryText c.args.styled query) (BeginsQueryText c.args.styled query) (g.W.Write.contents c.args.writer.now) (g.W.Write.contents c.tell_entry.new.writer) c.tell_entry.result)
    (sym c.in-Entry.is) (c.in_ok-image.image, c.tell_entry.ensures)

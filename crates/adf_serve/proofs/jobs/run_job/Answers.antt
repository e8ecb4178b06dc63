use Rattle.std.proofs.Common.{subst, sym}
use Rattle.adf_cli.specs.declared.job.ImageJob.{ImageJob}
use Rattle.adf_serve.specs.Commands.{DoesJob}
use Rattle.adf_serve.proofs.jobs.run_job.Goals as goal

pub returns-in-Blank : goal.returns-in-Blank
returns-in-Blank g c =
    subst (λ (job : ImageJob). DoesJob c.args.screen.styled job (g.W.Write.contents c.args.writer.now) (g.W.Write.contents c.make_blank.new.writer) c.make_blank.result) (sym c.in-Blank.is) c.make_blank.ensures

pub returns-in-AddBundle : goal.returns-in-AddBundle
returns-in-AddBundle g c =
    subst (λ (job : ImageJob). DoesJob c.args.screen.styled job (g.W.Write.contents c.args.writer.now) (g.W.Write.contents c.put_bundle.new.writer) c.put_bundle.result) (sym c.in-AddBundle.is) c.put_bundle.ensures

pub returns-in-Change : goal.returns-in-Change
returns-in-Change g c =
    subst (λ (job : ImageJob). DoesJob c.args.screen.styled job (g.W.Write.contents c.args.writer.now) (g.W.Write.contents c.change.new.writer) c.change.result) (sym c.in-Change.is) c.change.ensures

pub returns-in-Boot : goal.returns-in-Boot
returns-in-Boot g c =
    subst (λ (job : ImageJob). DoesJob c.args.screen.styled job (g.W.Write.contents c.args.writer.now) (g.W.Write.contents c.change_boot.new.writer) c.change_boot.result) (sym c.in-Boot.is) c.change_boot.ensures

pub returns-in-Info : goal.returns-in-Info
returns-in-Info g c =
    subst (λ (job : ImageJob). DoesJob c.args.screen.styled job (g.W.Write.contents c.args.writer.now) (g.W.Write.contents c.print_query.new.writer) c.print_query.result) (sym c.in-Info.is) c.print_query.ensures

pub returns-in-List : goal.returns-in-List
returns-in-List g c =
    subst (λ (job : ImageJob). DoesJob c.args.screen.styled job (g.W.Write.contents c.args.writer.now) (g.W.Write.contents c.print_query-in-List.new.writer) c.print_query-in-List.result) (sym c.in-List.is) c.print_query-in-List.ensures

pub returns-in-Print : goal.returns-in-Print
returns-in-Print g c =
    subst (λ (job : ImageJob). DoesJob c.args.screen.styled job (g.W.Write.contents c.args.writer.now) (g.W.Write.contents c.print_query-in-Print.new.writer) c.print_query-in-Print.result) (sym c.in-Print.is) c.print_query-in-Print.ensures

pub returns-in-Salvage : goal.returns-in-Salvage
returns-in-Salvage g c =
    subst (λ (job : ImageJob). DoesJob c.args.screen.styled job (g.W.Write.contents c.args.writer.now) (g.W.Write.contents c.take_rescue.new.writer) c.take_rescue.result) (sym c.in-Salvage.is) c.take_rescue.ensures

pub returns-in-ShowBoot : goal.returns-in-ShowBoot
returns-in-ShowBoot g c =
    subst (λ (job : ImageJob). DoesJob c.args.screen.styled job (g.W.Write.contents c.args.writer.now) (g.W.Write.contents c.show_boot.new.writer) c.show_boot.result) (sym c.in-ShowBoot.is) c.show_boot.ensures

pub returns-in-Show : goal.returns-in-Show
returns-in-Show g c =
    subst (λ (job : ImageJob). DoesJob c.args.screen.styled job (g.W.Write.contents c.args.writer.now) (g.W.Write.contents c.print_query-in-Show.new.writer) c.print_query-in-Show.result) (sym c.in-Show.is) c.print_query-in-Show.ensures

pub returns-in-Validate : goal.returns-in-Validate
returns-in-Validate g c =
    subst (λ (job : ImageJob). DoesJob c.args.screen.styled job (g.W.Write.contents c.args.writer.now) (g.W.Write.contents c.validate_file.new.writer) c.validate_file.result) (sym c.in-Validate.is) c.validate_file.ensures

pub returns-in-Where : goal.returns-in-Where
returns-in-Where g c =
    subst (λ (job : ImageJob). DoesJob c.args.screen.styled job (g.W.Write.contents c.args.writer.now) (g.W.Write.contents c.tell_where.new.writer) c.tell_where.result) (sym c.in-Where.is) c.tell_where.ensures

pub returns-in-WherePath : goal.returns-in-WherePath
returns-in-WherePath g c =
    subst (λ (job : ImageJob). DoesJob c.args.screen.styled job (g.W.Write.contents c.args.writer.now) (g.W.Write.contents c.print_query-in-WherePath.new.writer) c.print_query-in-WherePath.result) (sym c.in-WherePath.is) c.print_query-in-WherePath.ensures

pub returns-in-Map : goal.returns-in-Map
returns-in-Map g c =
    subst (λ (job : ImageJob). DoesJob c.args.screen.styled job (g.W.Write.contents c.args.writer.now) (g.W.Write.contents c.tell_map.new.writer) c.tell_map.result) (sym c.in-Map.is) c.tell_map.ensures

pub returns-in-Undelete : goal.returns-in-Undelete
returns-in-Undelete g c =
    subst (λ (job : ImageJob). DoesJob c.args.screen.styled job (g.W.Write.contents c.args.writer.now) (g.W.Write.contents c.undelete.new.writer) c.undelete.result) (sym c.in-Undelete.is) c.undelete.ensures

pub returns-in-SaveBoot : goal.returns-in-SaveBoot
returns-in-SaveBoot g c =
    subst (λ (job : ImageJob). DoesJob c.args.screen.styled job (g.W.Write.contents c.args.writer.now) (g.W.Write.contents c.save_boot.new.writer) c.save_boot.result) (sym c.in-SaveBoot.is) c.save_boot.ensures

pub returns-in-Check : goal.returns-in-Check
returns-in-Check g c =
    subst (λ (job : ImageJob). DoesJob c.args.screen.styled job (g.W.Write.contents c.args.writer.now) (g.W.Write.contents c.check_images.new.writer) c.check_images.result) (sym c.in-Check.is) c.check_images.ensures

use Rattle.std.proofs.Common.{ap, sym, subst, ◌∙◌, ◌≡◌, ◌+◌, ℕ, length, length-append, ◌∷◌, [], ◌++◌}
use Rattle.ados_port.proofs.Handling.{ends_more, each_more}
use Rattle.ados_port.specs.Ends.{AreEnds, IsFresh}
use Rattle.ados_port.proofs.open.open_port.Goals as goal

pub loop-preserved : goal.loop-preserved
loop-preserved g c =
    let h = c.loop.invariant in
    let a = c.in-Ok.ensures.ok in
    let added = a.1.1 in
    let is = added.0 in
    let items = c.push_reserved.ensures.items ∙ ap (λ l. l ++ c.in-Ok.end ∷ []) c.reserve.ensures.items in
    record {
      new = (ap (λ v. v.opening) is ∙ h.new.0, ap (λ v. v.server) is ∙ h.new.1, ap (λ v. v.served) is ∙ h.new.2, ap (λ v. v.knows) is ∙ h.new.3, ap (λ v. v.takes) is ∙ h.new.4);
      empty = each_more (λ o. (o.posted ≡ []) × (o.waiting ≡ [])) _ _ a.1.0 (ap (λ v. v.outlets) is) h.empty (added.1, added.2);
      ends = subst (λ l. AreEnds c.add_client.new.self l) (sym items) (ends_more _ _ _ _ _ is h.ends added.3);
      fresh = each_more IsFresh _ _ _ items h.fresh a.0;
      count = ap (λ l. length l) items ∙ (length-append _ _ ∙ ap (λ (n : ℕ). n + 1) h.count);
      places = each_more (λ o. o.places ≡ c.args.ring) _ _ a.1.0 (ap (λ v. v.outlets) is) h.places added.4;
    }

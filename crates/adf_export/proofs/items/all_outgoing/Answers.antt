use Rattle.adf_export.proofs.Common.{flat_map, ◌≡◌, None, length, All, sym, subst, arith, Stands, Tree, AreBelow, AllGoOut, EachGoesOut, HasSource, sources_of, tops, IfOk-weaker, if_ok_both}
use Rattle.adf_export.proofs.Under.{all_before, found_there, sources_there}
use Rattle.adf_export.proofs.items.all_outgoing.Goals as goal

pub items_of-requires-clause-keys : goal.items_of-requires-clause-keys
items_of-requires-clause-keys c =
    found_there c.args.volume.now.image c.args.keys.now c.deref.result.now c.requires
    (λ t s. subst (AreBelow t None 0 (flat_map (tops t) c.args.keys.now)) (sym c.deref.ensures.value) (c.in_ok-found.ensures t s))

pub items_of-requires-clause-places : goal.items_of-requires-clause-places
items_of-requires-clause-places c =
    let t = c.image.ensures.stands.0 in
    let s = c.image.ensures.stands.1 in
    all_before t (length c.deref.result.now) None 0 (flat_map (tops t) c.args.keys.now) c.deref.result.now tt (omega arith)
    (subst (AreBelow t None 0 (flat_map (tops t) c.args.keys.now)) (sym c.deref.ensures.value) (c.in_ok-found.ensures t s))

pub returns-clause-items : goal.returns-clause-items
returns-clause-items c =
    if_ok_both c.items_of.result
    (λ out. (t : Tree) → Stands c.args.volume.now.image t → EachGoesOut t c.args.meta c.deref.result.now out.items.items)
    (λ out. out.sources.items ≡ flat_map (sources_of c.args.meta) c.deref.result.now)
    (λ out. (t : Tree) → Stands c.args.volume.now.image t → AllGoOut t c.args.meta c.args.keys.now out)
    (λ out each from t s. record {
      found = c.deref.result.now;
      below = subst (AreBelow t None 0 (flat_map (tops t) c.args.keys.now)) (sym c.deref.ensures.value) (c.in_ok-found.ensures t s);
      items = each t s;
      sources = from;
    })
    c.items_of.ensures.items c.items_of.ensures.sources

pub returns-clause-sources : goal.returns-clause-sources
returns-clause-sources c =
    IfOk-weaker c.items_of.result
    (λ out. out.sources.items ≡ flat_map (sources_of c.args.meta) c.deref.result.now)
    (λ out. All (HasSource c.args.volume.now.image) out.sources.items)
    (λ out from. subst (All (HasSource c.args.volume.now.image)) (sym from) (sources_there c.args.volume.now.image c.args.meta c.deref.result.now
    (found_there c.args.volume.now.image c.args.keys.now c.deref.result.now c.requires
    (λ t s. subst (AreBelow t None 0 (flat_map (tops t) c.args.keys.now)) (sym c.deref.ensures.value) (c.in_ok-found.ensures t s)))))
    c.items_of.ensures.sources

use Rattle.adf_export.proofs.Common.{◌≡◌, ◌≢◌, ℕ, List, [], ◌∷◌, ◌++◌, Some, append-nil, arith, refl, sym, ap, ◌∙◌, subst, eq-eqb, count_same, entries, IsListed, listing_goes_on, listing_small}
use Rattle.ados_chain.specs.Look.{first_left}
use Rattle.ados_chain.specs.declared.read.Next.TheVariants.{Entry}
use Rattle.ados_model.specs.Tree.{behind}
use Rattle.adf_export.proofs.order.keys_in.Goals as goal

-- all of them follow the directory itself
behind_first : (dir : ℕ) (xs : List ℕ) → behind dir (dir ∷ xs) ≡ Some xs
behind_first dir xs = rw (eq-eqb dir dir refl) refl

-- if no entry is left, no key is
none_left : (keys : List ℕ) → ((key : ℕ) → first_left (Some keys) ≢ Entry key) → keys ≡ []
none_left [] h = refl
none_left (key ∷ keys) h = absurd (h key refl)

pub loop-key-init : goal.loop-key-init
loop-key-init c = λ t s.
    let dir = c.args.dir in
    subst (IsListed t dir dir) (sym c.new-keys.ensures.items) (record { left = entries t dir; all = refl; behind_last = behind_first dir (entries t dir) })

pub entry_behind-requires-clause-place : goal.entry_behind-requires-clause-place
entry_behind-requires-clause-place c = λ t s. rw (c.loop-key.invariant t s).behind_last refl

pub loop-key-smaller : goal.loop-key-smaller
loop-key-smaller c =
    let t = c.image.ensures.stands.0 in
    let s = c.image.ensures.stands.1 in
    let small = listing_small t s.proper c.args.dir c.loop-key.last c.in-Some.key c.loop-key.keys.items (c.loop-key.invariant t s) (sym (c.in-Some.ensures.next t s)) in
    let blocks = count_same c.args.volume.now.image t s in
    omega (arith, small, blocks, c.in_ok-push.ensures.len)

pub loop-key-preserved : goal.loop-key-preserved
loop-key-preserved c = λ t s.
    subst (IsListed t c.args.dir c.in-Some.key) (sym c.in_ok-push.ensures.items)
    (listing_goes_on t s.proper c.args.dir c.loop-key.last c.in-Some.key c.loop-key.keys.items (c.loop-key.invariant t s) (sym (c.in-Some.ensures.next t s)))

pub returns : goal.returns
returns c = λ t s.
    let l = c.loop-key.invariant t s in
    let none = none_left l.left (λ key f. c.in_default.ensures.none t s key (ap first_left l.behind_last ∙ f)) in
    let keys = c.loop-key.keys.items in
    sym (l.all ∙ ap (λ (ks : List ℕ). keys ++ ks) none ∙ append-nil keys)

-- The results of a packet that opens a file; and FINDINPUT.
use Rattle.std.proofs.Common.{◌≡◌, ℕ, pos, Bool, true, false, List, ◌∷◌, Option, Some, None, IsSome, Ok, MatchOption, inl, inr, refl, sym, ap, ◌∙◌, subst}
use Rattle.ados_handler.proofs.Common.{IsTrue, nat_cmp, FinMap, insert, Date3, Tree, Stands, is_file, DosError, DeviceNotMounted, NoFreeStore, error_number, dos_false, failure_of, handed_back, Packet, FindInput, Results, Empty, HandleHold, Session, IsFreeNumber, is_in_use, HandlerState, object, walked, first_refusal, refusal, refuse, refusals, After, after, GivesHandle, Success, IsRefused, makes_hold, ServedOrFull, room_for, sets_disk_date, IsProperSession, MethodGives, MethodMeans, answer_to, BringsHandle, IsOpened, IsUnopened, OpenedOrFull, Opens, open_refusals}
use Rattle.ados_handler.proofs.Holding.{not_in_use, proper_with_handle}
use Rattle.ados_handler.proofs.Meant.{walked_on, meaning_by, stays_gives}

-- ---- the meaning of a packet that opens a file

module _ (packet : Packet) (now : Date3) (rows : Tree → List (Option DosError)) (success : Tree → After → Type 0) (old new : HandlerState) (results : Results) where
  -- the packet is this opening
  pub record IsOpening (t : Tree) : Type 0 where
    pub fails : failure_of packet ≡ dos_false
    pub back : handed_back packet ≡ Empty
    pub makes : IsTrue (makes_hold t old.session packet)
    pub takes : room_for old.places packet ≡ old.places.for_handle
    pub row : refusal t old.session packet ≡ first_refusal (rows t)
    pub serves : (left : After) → success t left → Success t old.session packet now left
    pub quiet : sets_disk_date t old.session packet ≡ false → new.image ≡ old.image

  pub opening_gives : (o : Opens rows success old new results) → IsOpening o.tree → MethodGives old packet now new results
  opening_gives o is = go (first_refusal (rows o.tree)) refl o.means
    where
      refused : (code : DosError) → IsUnopened code old new results → IsRefused o.tree old.session packet code o.tree new.session (answer_to packet results)
      refused code u = record {
        tree = refl;
        session = u.session;
        answered = ap (answer_to packet) (u.told ∙ (λ i. record { res1 = sym is.fails i; res2 = pos (error_number code); body = sym is.back i }));
      }

      meaning : (u : Tree) (r : Option DosError) → first_refusal (rows o.tree) ≡ r → MatchOption r (ServedOrFull old.places o.tree old.session packet now u new.session (answer_to packet results)) (λ code. IsRefused o.tree old.session packet code u new.session (answer_to packet results)) → MethodMeans old.places o.tree old.session packet now u new.session results
      meaning u r e m = meaning_by old.places o.tree u old.session new.session packet now results r (is.row ∙ e) m

      go : (r : Option DosError) → first_refusal (rows o.tree) ≡ r → MatchOption r (OpenedOrFull (success o.tree) old new results) (λ code. IsUnopened code old new results) → MethodGives old packet now new results
      go (Some code) e u = stays_gives old new packet now results o.tree o.stood u.image u.validated (meaning o.tree (Some code) e (refused code u))
      go None e (inr w) = stays_gives old new packet now results o.tree o.stood w.1.image w.1.validated (meaning o.tree None e (inr (is.makes, is.takes ∙ w.0, refused NoFreeStore w.1)))
      go None e (inl d) = record {
        old_tree = o.tree;
        new_tree = d.tree;
        stood = o.stood;
        stands = d.stands;
        means = meaning d.tree None e (inl (record { success = is.serves _ d.success; action = refl; res2 = d.res2 }));
        leaves = record { keeps = d.keeps; rest = λ why. elim why [ inl other ↦ absurd (other d.res2) | inr quiet ↦ is.quiet quiet ] };
        validated = d.validated;
      }

-- a completed opening that no refusal excludes
pub done_opens : (rows : Tree → List (Option DosError)) (gives : Tree → After → Type 0) (old new : HandlerState) (results : Results) (t : Tree) → Stands old.image t → first_refusal (rows t) ≡ None
    → IsOpened (gives t) old new results → Opens rows gives old new results
done_opens rows gives old new results t stood none done = record {
  tree = t;
  stood = stood;
  means = subst (λ (r : Option DosError). MatchOption r (OpenedOrFull (gives t) old new results) (λ code. IsUnopened code old new results)) (sym none) (inl done);
}

-- ---- FINDINPUT

module _ (old : HandlerState) (lock : ℕ) (path : List ℕ) (key : ℕ) (alive : old.session.died ≡ false) where
  input_row : (t : Tree) → walked t old.session lock path ≡ Ok key → (refusal t old.session (FindInput lock path) ≡ first_refusal (open_refusals old.session key t)) × (object t old.session lock path ≡ key)
  input_row t walk =
      let s = old.session in
      let w = walked_on t s lock path key (open_refusals s (object t s lock path) t) walk in
      (ap (λ (b : Bool). first_refusal (refuse DeviceNotMounted b ∷ refusals t s (FindInput lock path))) alive ∙ w.0 ∙ ap (λ (k : ℕ). first_refusal (open_refusals s k t)) w.1, w.1)

  pub input_gives : (there new : HandlerState) (results : Results) (now : Date3) → ((t : Tree) → Stands old.image t → walked t old.session lock path ≡ Ok key)
      → there ≡ old → Opens (open_refusals there.session key) (λ t left. GivesHandle t there.session key false left) there new results → new.image ≡ there.image → MethodGives old (FindInput lock path) now new results
  input_gives there new results now walk same opens image =
      let o = subst (λ (h : HandlerState). Opens (open_refusals h.session key) (λ t left. GivesHandle t h.session key false left) h new results) same opens in
      let row = input_row o.tree (walk o.tree o.stood) in
      opening_gives (FindInput lock path) now _ _ old new results o (record {
        fails = refl;
        back = refl;
        makes = refl;
        takes = refl;
        row = row.0;
        serves = λ left w. subst (λ (k : ℕ). GivesHandle o.tree old.session k false left) (sym row.1) w;
        quiet = λ _. image ∙ ap (λ (h : HandlerState). h.image) same;
      })

-- ---- the handle

module _ (key : ℕ) (exclusive : Bool) (s : Session) (ready held : FinMap nat_cmp HandleHold) (results : Results) (a : BringsHandle key exclusive ready held results) (same : ready ≡ s.handles) where
  added : held ≡ insert s.handles a.number (record { key = key; position = 0; exclusive = exclusive })
  added = a.added ∙ ap (λ (m : FinMap nat_cmp HandleHold). insert m a.number (record { key = key; position = 0; exclusive = exclusive })) same

  pub gives_handle : (u : Tree) → GivesHandle u s key exclusive (after u (record s { handles = held }) results.res1 results.body)
  gives_handle u = (a.number, subst (λ (m : FinMap nat_cmp HandleHold). IsFreeNumber m a.number) same a.free, λ i. after u (record s { handles = added i }) (a.told i).res1 (a.told i).body)

  -- the holds stay proper if no refusal of the handle holds
  pub proper_opened : (u : Tree) → IsProperSession u s → IsSome (u.nodes key) → is_file u key ≡ true → is_in_use s key exclusive ≡ false → IsProperSession u (record s { handles = held })
  proper_opened u holds there file free =
      subst (IsProperSession u) (λ i. record s { handles = sym added i }) (proper_with_handle u s holds a.number key exclusive there file (not_in_use s key exclusive free))

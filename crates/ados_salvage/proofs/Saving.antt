-- The entries of all sound headers, and what can be read of them.
use Rattle.ados_salvage.specs.Doubtful.{IsHeader}
use Rattle.ados_salvage.proofs.Common.{◌≡◌, ◌≢◌, ℕ, ◌<◌, inl, inr, false, All, AllPairs, Bool, List, drop, IsTold, length, slice_index, Some, IsSome, sym, ap, ◌∙◌, subst, arith, get_or_default, Gathered, Known, IsLost, AreDeleted, AreSalvaged, SavesSound, headers_of, AreAllHeaders, AreGathered, place_at, AreSettled}

-- no two entries have one header
pub headers_once : (before : ℕ) (out : List ℕ) (holes : List Bool) (fillers : Bool) (image : List ℕ) (gathered : Gathered) → AreGathered before out holes fillers image gathered → AllPairs (λ a b. a ≢ b) (headers_of gathered.entries.items)
headers_once before out holes fillers image gathered g i j d l m e =
    let headers = headers_of gathered.entries.items in
    let first : i < length (headers_of gathered.entries.items) = omega (arith, l, m) in
    let same : slice_index (headers_of gathered.entries.items) i ≡ slice_index (headers_of gathered.entries.items) j =
    get_or_default (headers_of gathered.entries.items) i 0 d first ∙ e ∙ get_or_default (headers_of gathered.entries.items) j d 0 m in
    let both : Some i ≡ Some j = sym (g.placed i first) ∙ ap (place_at gathered.places.items) same ∙ g.placed j m in
    let is : i ≡ j = cc both in
    omega (arith, l, is)

module _ (known : Known) (gathered : Gathered) (g : AreGathered known.before known.left_out known.holes.items known.fillers known.image gathered) (none : known.before ≡ 0) where
  pub all_salvaged : AreAllHeaders known gathered.places.items → ((block : ℕ) → IsLost known.left_out known.image block → IsSome (place_at gathered.places.items block)) → AreSalvaged known.left_out known.holes.items known.fillers known.image gathered.entries.items
  all_salvaged met lost_met = record {
    told = λ i d l. inl (subst (λ (n : ℕ). All (IsTold known.left_out known.holes.items known.fillers known.image) (drop n gathered.entries.items)) none g.told i d l);
    once = headers_once known.before known.left_out known.holes.items known.fillers known.image gathered g;
    sound = λ block sound. g.met block (met block (inl sound));
    doubtful = λ block doubtful. g.met block (met block (inr doubtful.header));
    lost = λ block lost. g.met block (lost_met block lost);
  }

-- what was gathered of an image, as it is told
pub saves_sound : (known : Known) (next : ℕ) (gathered : Gathered) (deleted : List ℕ) → AreSettled known next gathered → AreDeleted known.image known.left_out → deleted ≡ known.left_out
    → SavesSound (record { accepted = false; image = known.image; trusted = known.trusted; entries = gathered.entries.items; deleted = deleted; given = gathered.giving.pieces.items; holes = known.holes.items; fillers = known.fillers })
saves_sound known next gathered deleted s are is = record {
  trust = s.sure.trust;
  deleted = subst (AreDeleted known.image) (sym is) are;
  salvaged = subst (λ (out : List ℕ). AreSalvaged out known.holes.items known.fillers known.image gathered.entries.items) (sym is) s.salvaged;
  apart = s.giving.once;
  there = s.giving.there;
  bounded = omega (arith, s.bounded);
  missing = λ place entry inside at told. s.counted.counted place entry (omega arith) inside at (subst (λ (out : List ℕ). IsHeader out known.image entry.header) is told);
  due = record { within = s.counted.within; due = s.counted.due };
}

-- The results of the handler's batches.
use Rattle.std.specs.Prelude.{◌≡◌, ◌⊎◌, ℕ, Bool, true, false, List, [], ◌∷◌, ◌++◌, length, map, replicate, Option, Some, None}
use Rattle.ados_port.specs.History.{ServerMeaning, Serving}
use Rattle.ados_port.specs.Lawful.{packets_of}
use Rattle.ados_port.specs.declared.handler.ServeEnd.{ServeEnd}
use Rattle.ados_port.specs.declared.handler.ServeEnd.TheVariants.{Closed, Idle}
use Rattle.ados_port.specs.Rings.{EachOffers}
use Rattle.ados_port.specs.Ends.{HandlerView, Serves}

module _ {S Q M A : Type 0} where
  -- any number of packets, or none, were served at this time stamp
  abbrev pub ServesSome : ServerMeaning S Q M A → M → HandlerView S Q M A → HandlerView S Q M A → Type 0
  ServesSome gives moment old new = (xs : List (Serving Q M A)) × Serves gives moment old xs new

  -- this many packets were served at this time stamp
  abbrev pub ServesSoMany : ServerMeaning S Q M A → M → HandlerView S Q M A → ℕ → HandlerView S Q M A → Type 0
  ServesSoMany gives moment old count new = (xs : List (Serving Q M A)) × (length xs ≡ count) × Serves gives moment old xs new

  -- waiting replies were offered to their rings, and nothing else changed
  abbrev pub OnlyOffers : HandlerView S Q M A → HandlerView S Q M A → Type 0
  OnlyOffers old new = (new ≡ record old { outlets = new.outlets }) × EachOffers old.outlets new.outlets

  -- the takes of a batch that served this many packets: each packet was found by one, in order. If they are fewer than the
  -- limit, one more take found nothing, or the count of served packets is at its maximum
  abbrev pub TakesUpTo : ℕ → HandlerView S Q M A → ℕ → HandlerView S Q M A → Type 0
  TakesUpTo limit old count new =
      (packets : List (ℕ × Q)) × (length packets ≡ count) × (packets_of new.served ≡ packets_of old.served ++ packets)
      × (((new.takes ≡ old.takes ++ map Some packets) × ((count ≡ limit) ⊎ (length new.served ≡ 18446744073709551615)))
      ⊎ (new.takes ≡ old.takes ++ (map Some packets ++ None ∷ [])))

  -- the last takes, this many, found nothing, or the count of served packets is at its maximum
  abbrev pub LastFoundNothing : ℕ → HandlerView S Q M A → Type 0
  LastFoundNothing times h =
      ((before : List (Option (ℕ × Q))) × (h.takes ≡ before ++ replicate times None)) ⊎ (length h.served ≡ 18446744073709551615)

-- batches end as closed if the server has died, and otherwise as idle
abbrev pub EndsAs : ServeEnd → Bool → Type 0
EndsAs end died = ((end ≡ Closed) × (died ≡ true)) ⊎ ((end ≡ Idle) × (died ≡ false))

-- the number of empty batches before the end: one if closed, the idle limit in a row if idle
abbrev pub empty_batches : ServeEnd → ℕ → ℕ
empty_batches Closed idle_limit = 1
empty_batches Idle idle_limit = idle_limit

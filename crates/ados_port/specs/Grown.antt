-- A client's end, later.
use Rattle.std.specs.Prelude.{◌≡◌, ℕ, true, List, ◌++◌, length, Some, slice_get}
use Rattle.ados_port.specs.Ends.{ClientView}

-- the same end, with more puts and more takes. An end that knew of the close still knows
pub record Grown {Q M A : Type 0} (old new : ClientView Q M A) : Type 0 where
  pub port : new.port ≡ old.port
  pub mark : new.mark ≡ old.mark
  pub ring : new.ring ≡ old.ring
  pub number : new.number ≡ old.number
  pub put : (xs : List Q) × (new.put ≡ old.put ++ xs)
  pub taken : (ys : List (M × A)) × (new.taken ≡ old.taken ++ ys)
  pub knows : old.knows ≡ true → new.knows ≡ true

-- the meaning of a job: from this client's end, it may leave this end and report this
abbrev pub JobMeaning : Type 0 → Type 0 → Type 0 → Type 0 → Type 0 → Type 1
JobMeaning J Q M A T = J → ClientView Q M A → ClientView Q M A → T → Type 0

module _ {Q M A J T : Type 0} where
  -- a client did its job: its end has grown, and its report is allowed by the job
  abbrev pub Did : JobMeaning J Q M A T → J → ClientView Q M A → ClientView Q M A → T → Type 0
  Did does job old new report = Grown old new × does job old new report

  -- the client at this index did the job at this index, and left the end and the report at this index
  abbrev pub DidAt : JobMeaning J Q M A T → ℕ → ClientView Q M A → List J → List (ClientView Q M A) → List T → Type 0
  DidAt does k old jobs new reports =
      (job : J) × (n : ClientView Q M A) × (report : T)
      × (slice_get jobs k ≡ Some job) × (slice_get new k ≡ Some n) × (slice_get reports k ≡ Some report) × Did does job old n report

  -- each client did its job, and there are no more ends and reports than clients
  abbrev pub EachDid : JobMeaning J Q M A T → List J → List (ClientView Q M A) → List (ClientView Q M A) → List T → Type 0
  EachDid does jobs old new reports = (length new ≡ length old) × (length reports ≡ length old)
      × ((k : ℕ) (o : ClientView Q M A) → slice_get old k ≡ Some o → DidAt does k o jobs new reports)

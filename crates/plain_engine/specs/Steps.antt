-- What the steps of the engine promise one another.
use Rattle.std.specs.Prelude.{◌≡◌, ℕ, ◌<◌, Bool, true, false, List, [], ◌∷◌, ◌++◌, slice_get, Some, None}
use Rattle.run_types.specs.declared.run.Event.{Event}
use Rattle.c_tree.specs.declared.def.Program.{Program}
use Rattle.c_semantics.specs.SourceTexts.{Text, text_of}
use Rattle.source_model.specs.Answers.{Installed}
use Rattle.source_model.specs.Guards.{Guard, Rules, Setup, answered, is_open}
use Rattle.source_model.specs.Journals as journal
use Rattle.effects.specs.Rows.{AreRows}
use Rattle.patch_build.specs.declared.patch.Versions.{Versions}
use Rattle.installed_versions.specs.Installed.{HasItsRows, IsInstalled}
use Rattle.offer_decision.specs.declared.answer.Decision.{Decision}
use Rattle.offer_decision.specs.declared.seat.Seat.{Seat as Seen}
use Rattle.offer_decision.specs.Decided.{ForOffer, IsDecision}
use Rattle.dsu_runs.specs.Books.{Entries, IsBook}
use Rattle.dsu_runs.specs.UndefinedNames.{UsesUndefined}
use Rattle.dsu_runs.specs.declared.engine.Undecided.{Undecided}
use Rattle.dsu_runs.specs.declared.engine.Undecided.TheVariants as why
use Rattle.plain_engine.specs.declared.seat.Seat.{Seat}
use Rattle.plain_engine.specs.Kept.{ArePinned}
use Rattle.plain_engine.specs.Needs.{IsReached, MeetsNeeds}
use Rattle.plain_engine.specs.Plain.{AreSeats, IsRunAt, IsStateAt, ShownState}
use Rattle.plain_engine.specs.Prepared.{AreVersionsAt}
use Rattle.plain_engine.specs.Seen.{AreSeen, AreWithin}

-- an event was made, and it printed so many bytes
pub record Happened (setup : Setup) (e : Event) (g : Guard) (new : ShownState) (more : List ℕ) : Type 0 where
  pub after : Guard
  pub happens : (rules : Rules) → AreRows rules.row → journal.happens rules setup e g ≡ Some after
  pub there : IsStateAt setup after new
  pub grew : after.world.output ≡ g.world.output ++ more

-- an event can't happen, and the state stays at its guard
pub record Stayed (setup : Setup) (e : Event) (g : Guard) (new : ShownState) : Type 0 where
  pub never : (rules : Rules) → AreRows rules.row → journal.happens rules setup e g ≡ None
  pub stays : IsStateAt setup g new

-- what came of a move
abbrev pub MovesTo : Setup → Event → Guard → ShownState → Bool → Type 0
MovesTo setup e g new true = (more : List ℕ) × Happened setup e g new more
MovesTo setup e g new false = Stayed setup e g new

-- what came of an event that prints nothing
abbrev pub ComesTo : Setup → Event → Guard → ShownState → Bool → Type 0
ComesTo setup e g new true = Happened setup e g new []
ComesTo setup e g new false = Stayed setup e g new

-- why nothing is decided on an offer: out of memory, or since its text uses a name that it doesn't define
abbrev pub MayWithhold : ShownState → ℕ → Undecided → Type 0
MayWithhold s k why.Memory = Unit {0}
MayWithhold s k why.Misused = ⊥
MayWithhold s k why.UndefinedName = 0 < k → (setup : Setup) (g : Guard) → IsStateAt setup g s → UsesUndefined setup k

-- what is decided on an offer, over the versions and the slots of a state
pub record IsDecided (s : ShownState) (k : ℕ) (decision : Decision) : Type 0 where
  pub versions : Versions
  pub next : Program
  pub seats : List Seen
  pub at : AreVersionsAt s k versions next
  pub seen : AreSeen s.run.words s.installed.names s.installed.count s.seats seats
  pub within : (setup : Setup) (g : Guard) → IsRunAt setup g s.run → AreWithin g.world seats
  pub says : ForOffer versions seats (λ rules texts slots. IsDecision rules texts slots versions next seats decision)

-- a patch was installed in the machine and in the versions; this guard is the one after it, and the state is at it once the
-- pins are set and the offer is closed
pub record IsFollowed (setup : Setup) (g : Guard) (k : ℕ) (pins : List Bool) (s : ShownState) (after : Guard) : Type 0 where
  pub run : IsRunAt setup after s.run
  pub installed : IsInstalled after.versions s.installed.count s.installed.names s.installed.store
  pub rows : HasItsRows s.installed
  pub tree : Program
  pub numbered : slice_get s.run.trees k ≡ Some tree
  pub versions : after.versions ≡ g.versions ++ text_of tree ∷ []
  pub seats : (later : List Seat) → ArePinned pins s.seats later → AreSeats after s.run later
  pub offered : is_open g k ≡ true
  pub book : IsBook setup g s.installed.names s.book
  pub closed : (book : Entries) → IsBook setup (answered k (Installed s.installed.count) g) s.installed.names book
      → IsBook setup after s.installed.names book
  pub reached : IsReached setup after
  pub meets : MeetsNeeds s.run.needs setup

-- Laws of journals, for each guard that a legal one comes to.
use Rattle.std.specs.Prelude.{◌≡◌, ℕ, ◌==◌, ◌≤◌, Bool, false, IsTrue, List, ◌∷◌, map, length, count_by, codes, Some}
use Rattle.std.specs.Option.{is_some}
use Rattle.run_types.specs.declared.run.Event.{Event}
use Rattle.run_types.specs.declared.run.Event.TheVariants.{Move, CheckIn, Offer, Decide, Withdraw}
use Rattle.c_tree.specs.BareDef.{BareDef}
use Rattle.c_semantics.specs.Texts.{definition}
use Rattle.source_model.specs.Versions.{current}
use Rattle.source_model.specs.Worlds.{Slot, alive_in, first_world}
use Rattle.source_model.specs.Runs.{run, is_live}
use Rattle.source_model.specs.Guards.{Guard, Seat, Setup, Rules, has_ended, in_transaction, offer_at, seat_of}
use Rattle.source_model.specs.Guards.{Offer as Offered}
use Rattle.source_model.specs.Journals.{happens, guard_after, moves}

-- the texts of a run: the first, and those of the offers
abbrev pub texts_of : Setup → List (List BareDef)
texts_of setup = setup.first.definitions ∷ map (λ o. o.text.definitions) setup.offers

-- the moves of a legal journal are a run of the source machine, to the world that the journal comes to
abbrev pub JournalIsARun : Type 0
JournalIsARun =
    (rules : Rules) (setup : Setup) (events : List Event) (g : Guard)
    → guard_after rules setup events ≡ Some g
    → run (texts_of setup) (moves g.answers events) (first_world setup.first.definitions setup.limits) ≡ Some g.world

-- a seat at a check-in, and one with a mark, has a thread that lives; a pinned one has a thread in a transaction
pub record Fits (alive : Slot) (s : Seat) : Type 0 where
  pub at_check_in : IsTrue s.at_check_in → IsTrue (is_live alive)
  pub marked : IsTrue (is_some s.mark) → IsTrue (is_live alive)
  pub pinned : IsTrue s.pinned → IsTrue (in_transaction alive)

-- there are as many seats as slots, and each fits its slot
pub record SeatsFit (g : Guard) : Type 0 where
  pub count : length g.seats ≡ length g.world.slots
  pub fits : (t : ℕ) → Fits (alive_in g.world t) (seat_of g t)

abbrev pub SeatsAlwaysFit : Type 0
SeatsAlwaysFit =
    (rules : Rules) (setup : Setup) (events : List Event) (g : Guard) → guard_after rules setup events ≡ Some g → SeatsFit g

-- each text of a run defines main
abbrev pub HasMain : List BareDef → Type 0
HasMain text = IsTrue (is_some (definition text (codes "main")))

abbrev pub AllHaveMain : Setup → Type 0
AllHaveMain setup =
    HasMain setup.first.definitions × ((k : ℕ) (o : Offered) → offer_at setup k ≡ Some o → HasMain o.text.definitions)

-- the current version is the number of texts so far
abbrev pub VersionsAreCounted : Type 0
VersionsAreCounted =
    (rules : Rules) (setup : Setup) (events : List Event) (g : Guard)
    → AllHaveMain setup → guard_after rules setup events ≡ Some g → current g.world.table ≡ length g.versions

-- whether an event closes offer k
abbrev pub closes : ℕ → Event → Bool
closes k (Decide n) = n == k
closes k (Withdraw n) = n == k
closes k (Move t) = false
closes k (CheckIn t) = false
closes k (Offer n) = false

-- each offer is closed at most once
abbrev pub ClosedOnce : Type 0
ClosedOnce =
    (rules : Rules) (setup : Setup) (events : List Event) (g : Guard) (k : ℕ)
    → guard_after rules setup events ≡ Some g → count_by (closes k) events ≤ 1

-- an event can happen
abbrev pub CanHappen : Rules → Setup → Event → Guard → Type 0
CanHappen rules setup e g = (after : Guard) × (happens rules setup e g ≡ Some after)

-- an open offer can be decided, as long as the run hasn't ended and no definition was misused
abbrev pub OpenCanBeDecided : Type 0
OpenCanBeDecided =
    (rules : Rules) (setup : Setup) (events : List Event) (g : Guard) (k : ℕ)
    → guard_after rules setup events ≡ Some g
    → has_ended g ≡ false → g.world.misused ≡ false → g.open_offer ≡ Some k
    → CanHappen rules setup (Decide k) g

-- where a definition was misused, a decision changes nothing of the world: it refuses the offer, or finds that it is no
-- patch, and that on an admitted patch can't happen
abbrev pub MarkedDecides : Type 0
MarkedDecides =
    (rules : Rules) (setup : Setup) (g after : Guard) (k : ℕ)
    → IsTrue g.world.misused → happens rules setup (Decide k) g ≡ Some after → after.world ≡ g.world

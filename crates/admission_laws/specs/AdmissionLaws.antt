-- Laws of admission, for each guard that a legal journal comes to, over rules whose rows are those of the effects.
use Rattle.std.specs.Prelude.{◌≡◌, ℕ, true, false, List, [], ◌∷◌, All, Some, Option, slice_get}
use Rattle.run_types.specs.declared.run.Event.{Event}
use Rattle.c_tree.specs.BareExpr.{Bytes}
use Rattle.name_sets.specs.NameLists.{is_among}
use Rattle.c_semantics.specs.Standing.{stands_at}
use Rattle.c_semantics.specs.Store.{Body, Mark, Start, generation_by, body_in}
use Rattle.c_semantics.specs.Threads.{Frame, Enter, Thread}
use Rattle.effects.specs.Sites.{Site}
use Rattle.effects.specs.Concrete.{Concrete}
use Rattle.effects.specs.Rows.{Covered, AreRows}
use Rattle.source_model.specs.Uses.{IsConsistent}
use Rattle.source_model.specs.Worlds.{Live, in_slot}
use Rattle.source_model.specs.Guards.{Guard, Seat, Setup, Rules, has_ended, bodies_of, seat_of, in_force}
use Rattle.source_model.specs.Journals.{guard_after}
use Rattle.source_model.specs.Runs.{Result, result}
use Rattle.admission_laws.specs.SoundTexts.{AllSound}
use Rattle.admission_laws.specs.Stacks.{Level, Stacked, MayUse}
use Rattle.admission_laws.specs.Standing.{SlotStands}

-- no move misuses a definition
abbrev pub NothingIsMisused : Type 0
NothingIsMisused =
    (rules : Rules) (setup : Setup) (events : List Event) (g : Guard)
    → AreRows rules.row → AllSound setup → guard_after rules setup events ≡ Some g → g.world.misused ≡ false

-- as long as the run goes on, each thread stands in the store of its versions
abbrev pub EachThreadStands : Type 0
EachThreadStands =
    (rules : Rules) (setup : Setup) (events : List Event) (g : Guard) (t : ℕ)
    → AreRows rules.row → AllSound setup → guard_after rules setup events ≡ Some g → has_ended g ≡ false
    → SlotStands g.versions g.world.table (in_slot g.world t) (seat_of g t)

-- the point of a frame in the body in force in its version is covered by the mark of the seat
pub record IsCovered (bodies : List Body) (f : Frame) (due : Option Enter) (seat : Seat) : Type 0 where
  pub body : Body
  pub found : body_in bodies f.function (generation_by f.function f.version bodies) ≡ Some body
  pub site : Site
  pub stored : slice_get bodies site.body ≡ Some body
  pub point : site.point ≡ stands_at body.skeleton due f
  pub mark : Mark
  pub marked : seat.mark ≡ Some mark
  pub covered : Covered bodies mark site

-- so it is for the innermost frame of each thread that lives
abbrev pub EachPointIsCovered : Type 0
EachPointIsCovered =
    (rules : Rules) (setup : Setup) (events : List Event) (g : Guard) (t : ℕ) (th : Thread) (f : Frame) (fs : List Frame)
    → AreRows rules.row → AllSound setup → guard_after rules setup events ≡ Some g → has_ended g ≡ false
    → in_slot g.world t ≡ Live th → th.frames ≡ f ∷ fs → IsCovered (bodies_of g) f th.entering (seat_of g t)

-- and for a thread without frames, which was started, the row of the start of its function is in force
abbrev pub EachStartIsMarked : Type 0
EachStartIsMarked =
    (rules : Rules) (setup : Setup) (events : List Event) (g : Guard) (t : ℕ) (th : Thread)
    → AreRows rules.row → AllSound setup → guard_after rules setup events ≡ Some g → has_ended g ≡ false
    → in_slot g.world t ≡ Live th → th.frames ≡ []
    → (e : Enter) × (th.entering ≡ Some e) × ((seat_of g t).mark ≡ Some (Start e.function))

-- what the frames of a thread may still use is in the concrete effect of the point of the innermost
abbrev pub UsesAreConcrete : Type 0
UsesAreConcrete =
    (bodies : List Body) (p : Site) (version : ℕ) (below : List Level) (on_behalf : ℕ) (name : Bytes)
    → Stacked bodies p below → MayUse bodies p version below on_behalf name → Concrete bodies p name

-- as long as the run goes on, what a thread recorded in its transaction is in the prior set of its row in force
abbrev pub RecordedArePrior : Type 0
RecordedArePrior =
    (rules : Rules) (setup : Setup) (events : List Event) (g : Guard) (t : ℕ) (th : Thread)
    → AreRows rules.row → AllSound setup → guard_after rules setup events ≡ Some g → has_ended g ≡ false → in_slot g.world t ≡ Live th
    → All (λ u. is_among (in_force rules (bodies_of g) (seat_of g t)).row.prior u.name ≡ true) th.uses

-- what a run gives is consistent with its versions: no definition was misused, and of each transaction, closed or open, the
-- recorded definitions share a version (transactional version consistency, POPL 2008)
pub record IsVersionConsistent (r : Result) : Type 0 where
  pub unmisused : r.misused ≡ false
  pub closed : All (λ c. IsConsistent r.world.table c.uses) r.closed
  pub in_progress : All (IsConsistent r.world.table) r.open_records

abbrev pub TransactionsShareAVersion : Type 0
TransactionsShareAVersion =
    (rules : Rules) (setup : Setup) (events : List Event) (g : Guard)
    → AreRows rules.row → AllSound setup → guard_after rules setup events ≡ Some g → IsVersionConsistent (result g.world)

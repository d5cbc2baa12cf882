-- Where the threads of a run stand in the store of its versions, and by which marks that is covered.
use Rattle.std.specs.Prelude.{◌≡◌, ℕ, ◌≤◌, Bool, true, false, List, [], ◌∷◌, Option, Some, None, not, slice_get}
use Rattle.run_types.specs.Skeleton.{Call, Spawn, kind_at}
use Rattle.c_tree.specs.BareExpr.{Bytes, BareType}
use Rattle.c_semantics.specs.Resolved.{Statements}
use Rattle.c_semantics.specs.Skeletons.{skeleton, is_check_in_kind}
use Rattle.c_semantics.specs.SkeletonLaws.{Comes}
use Rattle.c_semantics.specs.SourceTexts.{Text}
use Rattle.c_semantics.specs.Standing.{stands_at}
use Rattle.c_semantics.specs.Store.{Body, Mark, Start, CheckInOf, store, generation_by, body_in}
use Rattle.c_semantics.specs.Threads.{Frame, Enter, Record}
use Rattle.effects.specs.Sites.{Site, Passes, stays}
use Rattle.effects.specs.Rows.{Covers, Covered, IsCheckIn}
use Rattle.source_model.specs.Versions.{Table}
use Rattle.source_model.specs.Uses.{is_right}
use Rattle.source_model.specs.Worlds.{Slot, Free, Live, Over}
use Rattle.source_model.specs.Guards.{Seat}
use Rattle.admission_laws.specs.SoundTexts.{is_function, version_in, newest}
use Rattle.admission_laws.specs.Stacks.{Level, AtCall, Stacked, MayUse}
use Rattle.admission_laws.specs.InTransactions.{InTransaction, IsStill}

-- a frame goes through a body of the store, the one at a place of the list: that which is in force in the frame's version.
-- With the function's tree, through which the frame comes; what it calls or spawns is a function in that version
pub record Sits (texts : List Text) (f : Frame) (place : ℕ) : Type 0 where
  pub body : Body
  pub found : body_in (store texts) f.function (generation_by f.function f.version (store texts)) ≡ Some body
  pub function_is : body.function ≡ f.function
  pub generation_is : body.generation ≡ generation_by f.function f.version (store texts)
  pub stored : slice_get (store texts) place ≡ Some body
  pub code : Statements
  pub result : BareType
  pub skeleton_is : body.skeleton ≡ skeleton code
  pub depth : ℕ
  pub comes : Comes code result (stands_at (skeleton code) None f) depth f.pieces
  pub version : f.version ≤ newest texts
  pub calls : (n : ℕ) (name : Bytes) → kind_at (skeleton code) n ≡ Some (Call name) → is_function (version_in texts f.version name) ≡ true
  pub spawns : (n : ℕ) (name : Bytes) → kind_at (skeleton code) n ≡ Some (Spawn name) → is_function (version_in texts f.version name) ≡ true

-- a frame that another is above, as a level
abbrev pub level_of : Frame → ℕ → Level
level_of f place = record { site = record { body = place; point = f.standing }; version = f.version }

pub data Wait (texts : List Text) : List Frame → List Level → Type 0 where
  none : Wait texts [] []
  one : (f : Frame) (fs : List Frame) (place : ℕ) (ls : List Level)
      → Sits texts f place → Wait texts fs ls → Wait texts (f ∷ fs) (level_of f place ∷ ls)

-- a mark of a check-in from which a thread came to a site with no check-in between
pub record Behind (bodies : List Body) (mark : Mark) (p : Site) : Type 0 where
  pub function : Bytes
  pub generation : ℕ
  pub number : ℕ
  pub is_mark : mark ≡ CheckInOf function generation number
  pub check_in : Site
  pub is_check_in : IsCheckIn bodies check_in function generation number
  pub covers : Covers bodies check_in p

-- how a thread is at a site, by the enter that is due and by whether its seat says that it is at a check-in: at the call
-- whose enter is due; before a check-in; after it has passed one; at a stop. Always its mark covers the site
pub data Placed (bodies : List Body) (mark : Mark) (p : Site) (version : ℕ) : Option Enter → Bool → Type 0 where
  calling : (e : Enter) → Behind bodies mark p → AtCall bodies p e.function → e.version ≡ version
      → Placed bodies mark p version (Some e) false
  coming : Covered bodies mark p → Passes bodies p (λ at. is_check_in_kind at.kind) → Placed bodies mark p version None true
  passed : (f : Bytes) (generation number : ℕ) → mark ≡ CheckInOf f generation number → IsCheckIn bodies p f generation number
      → Placed bodies mark p version None false
  stopped : Behind bodies mark p → Passes bodies p (λ at. not (is_check_in_kind at.kind)) → Passes bodies p (λ at. stays at.kind)
      → Placed bodies mark p version None false

-- where a thread with frames stands, the innermost frame first, in so many transactions and with that record. Each name that
-- its frames may still use has now the interface that it has in the version on whose behalf it is used
pub record StandsAt (texts : List Text) (table : Table) (f : Frame) (fs : List Frame) (due : Option Enter) (depth : ℕ) (uses : Record)
    (seat : Seat) : Type 0 where
  pub site : Site
  pub sits : Sits texts f site.body
  pub point : site.point ≡ stands_at (skeleton sits.code) due f
  pub levels : List Level
  pub wait : Wait texts fs levels
  pub stacked : Stacked (store texts) site levels
  pub mark : Mark
  pub marked : seat.mark ≡ Some mark
  pub placed : Placed (store texts) mark site f.version due seat.at_check_in
  pub right : (version : ℕ) (name : Bytes) → MayUse (store texts) site f.version levels version name → is_right table version name ≡ true
  pub still : IsStill (store texts) site
  pub own : ℕ
  pub transaction : InTransaction texts table depth uses seat.pinned site own due levels

-- a thread that was started, whose function is to be entered: the row of its start is in force, and it is in no transaction
pub record Starting (texts : List Text) (table : Table) (due : Option Enter) (depth : ℕ) (uses : Record) (seat : Seat) : Type 0 where
  pub enter : Enter
  pub is_due : due ≡ Some enter
  pub marked : seat.mark ≡ Some (Start enter.function)
  pub at_check_in : seat.at_check_in ≡ false
  pub version : enter.version ≤ newest texts
  pub function_is : is_function (version_in texts enter.version enter.function) ≡ true
  pub right : is_right table enter.version enter.function ≡ true
  pub outside : depth ≡ 0
  pub none_recorded : uses ≡ []
  pub unpinned : seat.pinned ≡ false

abbrev pub FramesStand : List Text → Table → List Frame → Option Enter → ℕ → Record → Seat → Type 0
FramesStand texts table [] due depth uses seat = Starting texts table due depth uses seat
FramesStand texts table (f ∷ fs) due depth uses seat = StandsAt texts table f fs due depth uses seat

-- a slot with its seat
abbrev pub SlotStands : List Text → Table → Slot → Seat → Type 0
SlotStands texts table (Live th) seat = FramesStand texts table th.frames th.entering th.depth th.uses seat
SlotStands texts table Free seat = Unit {0}
SlotStands texts table (Over serial result) seat = Unit {0}

-- In how many transactions a thread is, by its frames.
use Rattle.std.specs.Prelude.{◌≡◌, ℕ, ◌≤◌, ◌+◌, List, [], ◌∷◌, length, None}
use Rattle.c_tree.specs.BareDef.{BareDef}
use Rattle.c_semantics.specs.Resolved.{Statements}
use Rattle.c_semantics.specs.Resolution.{resolved_body}
use Rattle.c_semantics.specs.Skeletons.{skeleton}
use Rattle.c_semantics.specs.SkeletonLaws.{Comes}
use Rattle.c_semantics.specs.Standing.{stands_at}
use Rattle.c_semantics.specs.Threads.{Frame, Thread}
use Rattle.source_model.specs.Worlds.{World, Live, in_slot}
use Rattle.typed_runs.specs.TypedFrames.{result_in, version_in}

-- the body of a frame's function in the text of its version
abbrev pub body_in : List (List BareDef) → Frame → Statements
body_in texts f = resolved_body (version_in texts f.version) (version_in texts f.version f.function)

-- a frame comes through that body, where it began so many transactions that it didn't end
pub record ComesIn (texts : List (List BareDef)) (depth : ℕ) (f : Frame) : Type 0 where
  pub known : f.version ≤ length texts
  pub comes : Comes (body_in texts f) (result_in texts f.version f.function) (stands_at (skeleton (body_in texts f)) None f) depth f.pieces

-- frames are in so many transactions together
abbrev pub SumsTo : List (List BareDef) → List Frame → ℕ → Type 0
SumsTo texts [] n = n ≡ 0
SumsTo texts (f ∷ below) n =
    (own : ℕ) × (lower : ℕ) × (n ≡ own + lower) × ComesIn texts own f × SumsTo texts below lower

-- each thread of a world is in as many transactions as its frames together
abbrev pub DepthsAddUp : List (List BareDef) → World → Type 0
DepthsAddUp texts w = (t : ℕ) (th : Thread) → in_slot w t ≡ Live th → SumsTo texts th.frames th.depth

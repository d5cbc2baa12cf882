-- The mark of a row in force, by where the row comes from.
use Rattle.std.specs.Prelude.{◌≡◌, ℕ, ◌<◌, List, ◌++◌}
use Rattle.std.specs.List.{All}
use Rattle.std.specs.Option.{option_map_or}
use Rattle.name_sets.specs.Texts.{text_of}
use Rattle.run_types.specs.Skeleton.{reached}
use Rattle.c_tree.specs.BareExpr.{Bytes}
use Rattle.c_semantics.specs.Store.{Body, Mark, CheckInOf, generation_by, body_in, check_in_number}
use Rattle.c_semantics.specs.Store as mark
use Rattle.c_semantics.specs.Threads.{Frame}
use Rattle.source_model.specs.Guards.{mark_in}
use Rattle.rows_in_force.specs.declared.origin.Origin.{Origin}
use Rattle.rows_in_force.specs.declared.origin.Origin.TheVariants.{Start, Passed}

-- the mark of a check-in that a frame passed, by its function, the version under which it was entered, and its last stop:
-- the body is the one in force in that version
abbrev pub mark_at : List Body → Bytes → ℕ → ℕ → Mark
mark_at bodies f version point =
    let generation = generation_by f version bodies in
    CheckInOf f generation (option_map_or (λ b. check_in_number b (reached b.skeleton point)) (body_in bodies f generation) 0)

-- the mark of the row in force, by a table of names
abbrev pub mark_of : List Bytes → List Body → Origin → Mark
mark_of names bodies (Start id) = mark.Start (text_of names id)
mark_of names bodies (Passed id version point) = mark_at bodies (text_of names id) version point

-- the id of the function
abbrev pub function_of : Origin → ℕ
function_of (Start id) = id
function_of (Passed id version point) = id

-- the mark by what is kept of a frame is the frame's
abbrev pub MarksAreOfFrames : Type 0
MarksAreOfFrames = (bodies : List Body) (f : Frame) → mark_at bodies f.function f.version f.standing ≡ mark_in bodies f

-- where bodies of later versions are added, the mark of a frame stays what it was
abbrev pub MarksStay : Type 0
MarksStay =
    (bodies more : List Body) (f : Bytes) (version point : ℕ) → All (λ b. version < b.generation) more
    → mark_at (bodies ++ more) f version point ≡ mark_at bodies f version point

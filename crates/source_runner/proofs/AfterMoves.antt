-- The world after one move more, and the texts of the versions so far.
use Rattle.std.proofs.Common.{◌≡◌, ℕ, List, [], ◌∷◌, ◌++◌, slice_get, slice_index_or, Option, Some, None, refl, ap, ◌∙◌}
use Rattle.std.specs.Option.{option_and_then}
use Rattle.c_tree.specs.BareDef.{BareDef}
use Rattle.source_model.specs.Worlds.{World, Limits}
use Rattle.source_model.specs.Moves.{move}
use Rattle.source_model.specs.Runs.{SourceMove, Move, Install, install, run, start, step}
use Rattle.version_laws.specs.Histories.{texts_installed, versions_by}
use Rattle.source_runner.specs.SourceRuns.{world_after}

nothing_more : (texts : List (List BareDef)) (o : Option World) → option_and_then (run texts []) o ≡ o
nothing_more texts None = refl
nothing_more texts (Some w) = refl

run_more : (texts : List (List BareDef)) (ms : List SourceMove) (m : SourceMove) (w : World)
    → run texts (ms ++ m ∷ []) w ≡ option_and_then (step texts m) (run texts ms w)
run_more texts [] m w = nothing_more texts (step texts m w)
run_more texts (k ∷ ms) m w = behind (run_more texts ms m) (step texts k w)
  where
    behind : ((v : World) → run texts (ms ++ m ∷ []) v ≡ option_and_then (step texts m) (run texts ms v)) → (o : Option World)
        → option_and_then (run texts (ms ++ m ∷ [])) o ≡ option_and_then (step texts m) (option_and_then (run texts ms) o)
    behind more None = refl
    behind more (Some v) = more v

after_more : (texts : List (List BareDef)) (limits : Limits) (ms : List SourceMove) (m : SourceMove)
    → world_after texts limits (ms ++ m ∷ []) ≡ option_and_then (step texts m) (world_after texts limits ms)
after_more texts limits ms m = behind (start texts limits)
  where
    behind : (o : Option World)
        → option_and_then (run texts (ms ++ m ∷ [])) o ≡ option_and_then (step texts m) (option_and_then (run texts ms) o)
    behind None = refl
    behind (Some v) = run_more texts ms m v

-- the world after one move more
pub then_move : (texts : List (List BareDef)) (limits : Limits) (ms : List SourceMove) (slot : ℕ) (w : World)
    → world_after texts limits ms ≡ Some w → world_after texts limits (ms ++ Move slot ∷ []) ≡ move w slot
then_move texts limits ms slot w e =
    after_more texts limits ms (Move slot) ∙ ap (option_and_then (step texts (Move slot))) e

pub then_install : (texts : List (List BareDef)) (limits : Limits) (ms : List SourceMove) (k : ℕ) (w : World)
    → world_after texts limits ms ≡ Some w → world_after texts limits (ms ++ Install k ∷ []) ≡ install w (slice_get texts k)
then_install texts limits ms k w e =
    after_more texts limits ms (Install k) ∙ ap (option_and_then (step texts (Install k))) e

-- a move installs no text, and an install one more
pub moved_versions : (texts : List (List BareDef)) (ms : List SourceMove) (slot : ℕ)
    → versions_by texts (ms ++ Move slot ∷ []) ≡ versions_by texts ms
moved_versions texts ms slot = ap (λ ts. slice_index_or texts 0 [] ∷ ts) (none_more ms)
  where
    none_more : (ms : List SourceMove) → texts_installed texts (ms ++ Move slot ∷ []) ≡ texts_installed texts ms
    none_more [] = refl
    none_more (Move t ∷ ms) = none_more ms
    none_more (Install k ∷ ms) = ap (λ ts. slice_index_or texts k [] ∷ ts) (none_more ms)

pub installed_versions : (texts : List (List BareDef)) (ms : List SourceMove) (k : ℕ)
    → versions_by texts (ms ++ Install k ∷ []) ≡ versions_by texts ms ++ slice_index_or texts k [] ∷ []
installed_versions texts ms k = ap (λ ts. slice_index_or texts 0 [] ∷ ts) (one_more ms)
  where
    one_more : (ms : List SourceMove) → texts_installed texts (ms ++ Install k ∷ []) ≡ texts_installed texts ms ++ slice_index_or texts k [] ∷ []
    one_more [] = refl
    one_more (Move t ∷ ms) = one_more ms
    one_more (Install n ∷ ms) = ap (λ ts. slice_index_or texts n [] ∷ ts) (one_more ms)

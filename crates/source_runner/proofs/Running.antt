-- One move more of a run.
use Rattle.std.proofs.Common.{◌≡◌, ℕ, ◌<◌, Bool, true, false, List, [], ◌∷◌, length, Option, Some, None, Ok, refl, sym, ap, subst, ◌∙◌, arith}
use Rattle.std.specs.Prelude.{option_map, slice_index_or}
use Rattle.c_tree.specs.BareDef.{BareDef}
use Rattle.source_model.specs.Worlds.{World, Limits, first_world, is_over}
use Rattle.source_model.specs.Moves.{move}
use Rattle.source_model.specs.Runs.{SourceMove, Result, result, source_run}
use Rattle.source_model.specs.Runs as source
use Rattle.version_laws.specs.Histories.{versions_by}
use Rattle.source_programs.specs.Programs.{texts_of, versions_of}
use Rattle.source_programs.specs.declared.programs.Programs.{Programs}
use Rattle.source_runner.specs.declared.machine.Machine.{Machine}
use Rattle.source_runner.specs.declared.run.SourceMove.{SourceMove as Code}
use Rattle.source_runner.specs.declared.run.SourceMove.TheVariants.{Move}
use Rattle.source_runner.specs.declared.run.Stepped.TheVariants.{Done, CannotMove}
use Rattle.source_runner.specs.declared.run.SourceRun.{SourceRun}
use Rattle.source_runner.specs.Machines.{Stands, Came as MachineCame}
use Rattle.source_runner.specs.SourceRuns.{CameBy, IsRun, Steps, world_after}
use Rattle.source_runner.proofs.AfterMoves.{moved_versions, then_move}

pub some_is : {A : Type 0} (x y : A) → Some x ≡ Some y → x ≡ y
some_is x y e = cc

-- the world after a move that was made
pub record IsMade (m : Machine) (w : World) (slot : ℕ) : Type 0 where
  pub after : World
  pub moved : move w slot ≡ Some after
  pub stands : Stands m after

pub made : (m : Machine) (w : World) (slot : ℕ) (b : Bool) → b ≡ true → MachineCame m w b (move w slot) → IsMade m w slot
made m w slot b is came = to (move w slot) refl (subst (λ x. MachineCame m w x (move w slot)) is came)
  where
    to : (o : Option World) → move w slot ≡ o → MachineCame m w true o → IsMade m w slot
    to None e c = absurd c
    to (Some after) e c = record { after = after; moved = e; stands = c }

-- the texts of a run are those of the moves before, where the programs are
texts_stay : (p q : Programs) (texts : List (List BareDef)) → q ≡ p → texts_of p ≡ texts → texts_of q ≡ texts
texts_stay p q texts same h = ap texts_of same ∙ h

versions_stay : (p q : Programs) (versions : List (List BareDef)) → q ≡ p → versions_of p ≡ versions → versions_of q ≡ versions
versions_stay p q versions same h = ap versions_of same ∙ h

-- a move was made
pub done : (texts : List (List BareDef)) (limits : Limits) (ms : List SourceMove) (slot : ℕ) (old new : SourceRun)
    → (h : IsRun texts limits ms old) → IsMade new.machine h.world slot → new.machine.program ≡ old.machine.program
    → Steps texts limits ms (Move slot) new (Ok Done)
done texts limits ms slot old new h is same = record {
  came = record {
    world = is.after;
    ran = then_move texts limits ms slot h.world h.ran ∙ is.moved;
    stands = is.stands;
    loaded = texts_stay old.machine.program new.machine.program texts same h.loaded;
    versions =
        versions_stay old.machine.program new.machine.program (versions_by texts ms) same h.versions
        ∙ sym (moved_versions texts ms slot);
  };
}

-- a move can't be made
pub cannot : (texts : List (List BareDef)) (limits : Limits) (ms : List SourceMove) (slot : ℕ) (old new : SourceRun) (b : Bool)
    → b ≡ false → new.machine.program ≡ old.machine.program
    → (h : IsRun texts limits ms old) → MachineCame new.machine h.world b (move h.world slot)
    → Steps texts limits ms (Move slot) new (Ok CannotMove)
cannot texts limits ms slot old new b is same h came =
    record { came = to (move h.world slot) refl (subst (λ x. MachineCame new.machine h.world x (move h.world slot)) is came) }
  where
    to : (o : Option World) → move h.world slot ≡ o → MachineCame new.machine h.world false o
        → CameBy texts limits ms (source.Move slot) new CannotMove
    to None e c = (
      record {
        world = h.world;
        ran = h.ran;
        stands = c;
        loaded = texts_stay old.machine.program new.machine.program texts same h.loaded;
        versions = versions_stay old.machine.program new.machine.program (versions_by texts ms) same h.versions;
      },
      then_move texts limits ms slot h.world h.ran ∙ e,
    )
    to (Some after) e c = absurd c

-- what a run gives is what its world gives
pub given : {A : Type 0} (of : Result → A) (texts : List (List BareDef)) (limits : Limits) (ms : List SourceMove) (r : SourceRun)
    → (h : IsRun texts limits ms r) → option_map of (source_run texts limits ms) ≡ Some (of (result h.world))
given of texts limits ms r h = ap (λ o. option_map of (option_map result o)) h.ran

-- a run that isn't over
pub going_on : (texts : List (List BareDef)) (limits : Limits) (ms : List SourceMove) (r : SourceRun) (h : IsRun texts limits ms r)
    → option_map (λ x. is_over x.world) (source_run texts limits ms) ≡ Some false → is_over h.world ≡ false
going_on texts limits ms r h going = some_is _ _ (sym (given (λ x. is_over x.world) texts limits ms r h) ∙ going)

-- a run at the start
started_with : (texts : List (List BareDef)) (limits : Limits) → 0 < length texts
    → world_after texts limits [] ≡ Some (first_world (slice_index_or texts 0 []) limits)
started_with [] limits some = absurd (omega (arith, some))
started_with (text ∷ more) limits some = refl

pub first_run : (texts : List (List BareDef)) (limits : Limits) (r : SourceRun) → 0 < length texts
    → Stands r.machine (first_world (slice_index_or texts 0 []) limits) → texts_of r.machine.program ≡ texts
    → versions_of r.machine.program ≡ slice_index_or texts 0 [] ∷ [] → IsRun texts limits [] r
first_run texts limits r some h loaded versions = record {
  world = first_world (slice_index_or texts 0 []) limits;
  ran = started_with texts limits some;
  stands = h;
  loaded = loaded;
  versions = versions;
}

-- what holds of the move of each slot holds of each move
pub by_slot : (P : Code → Type 0) → ((slot : ℕ) → P (Move slot)) → (m : Code) → P m
by_slot P each (Move slot) = each slot

-- What the first world has and what moves and installs keep, over accepted texts.
use Rattle.std.proofs.Common.{◌≡◌, List, [], ◌∷◌, ◌++◌, length, Option, Some, All, refl, sym, ap, subst, ◌∙◌, arith}
use Rattle.std.proofs.lemmas.List.{map-append}
use Rattle.std.proofs.lemmas.List.Elements.{All-get_or, All-map, All-weaker}
use Rattle.c_tree.specs.BareDef.{BareDef}
use Rattle.c_semantics.specs.SourceTexts.{Text}
use Rattle.source_model.specs.Worlds.{World}
use Rattle.source_model.specs.Moves.{move}
use Rattle.source_model.specs.Installs.{installed}
use Rattle.version_laws.specs.Histories.{last_text}
use Rattle.version_laws.proofs.TableHistories.{last_is_next}
use Rattle.frame_bodies.specs.AcceptedTexts.{AreAccepted, IsAccepted, definitions_of}
use Rattle.typed_texts.proofs.Functions.{functions_are_typed}
use Rattle.typed_runs.proofs.Stops.{Outcome}
use Rattle.typed_runs.specs.TypedWorlds.{WorldTyped}
use Rattle.typed_runs.specs.TypedRunLaws.{FirstWorldTyped, InstallsKeepTypes, IsWorldOf, MovesKeepTypes}
use Rattle.typed_runs.proofs.FirstWorld.{first_typed, main_typed}
use Rattle.typed_runs.proofs.Installed.{Transforms, installed_typed}
use Rattle.typed_runs.proofs.Moves.{FunctionsTyped, IsTyped, move_kept}

-- ---- accepted texts

no_functions : FunctionsTyped []
no_functions f = record { statements = tt; stays = refl }

last_has : (P : List BareDef → Type 0) → P [] → (texts : List (List BareDef)) → All P texts → P (last_text texts)
last_has P none [] h = none
last_has P none (t ∷ texts) h = All-get_or P (t ∷ texts) (length texts) [] (omega arith) h

-- what each accepted text has each of the run's has
pub each_has : (P : List BareDef → Type 0) → ((text : Text) → IsAccepted text → P text.definitions) → (texts : List Text) → AreAccepted texts
    → All P (definitions_of texts)
each_has P has texts accepted =
    All-map P (λ (t : Text). t.definitions) texts (All-weaker IsAccepted (λ (t : Text). P t.definitions) has texts accepted)

accepted_functions : (texts : List Text) → AreAccepted texts → FunctionsTyped (last_text (definitions_of texts))
accepted_functions texts accepted =
    last_has FunctionsTyped no_functions (definitions_of texts) (each_has FunctionsTyped (λ t a f. functions_are_typed t f a) texts accepted)

-- ---- laws

pub first_world_typed : FirstWorldTyped
first_world_typed text limits accepted = first_typed text.definitions limits (main_typed text accepted)

-- what a move leaves
outcome : (P : World → Type 0) (o : Option World) (after : World) → o ≡ Some after → Outcome (Unit {0}) P o → P after
outcome P o after e h = subst (Outcome (Unit {0}) P) e h

pub typed_of : (texts : List Text) (w : World) → AreAccepted texts → IsWorldOf texts w → WorldTyped (definitions_of texts) w
    → IsTyped (definitions_of texts) w
typed_of texts w accepted of typed = record {
  of = record { history = of.history; last = of.last };
  holds = of.holds;
  typed = typed;
  bodies = accepted_functions texts accepted;
}

pub moves_keep_types : MovesKeepTypes
moves_keep_types texts w after t accepted of typed e =
    outcome (WorldTyped (definitions_of texts)) (move w t) after e (move_kept (definitions_of texts) w t (typed_of texts w accepted of typed))

pub installs_keep_types : Transforms → InstallsKeepTypes
installs_keep_types transforms texts p q w follows of typed =
    let defs = definitions_of (texts ++ p ∷ []) in
    let more = map-append (λ (t : Text). t.definitions) texts (p ∷ []) in
    subst (λ ts. WorldTyped ts (installed q.definitions w)) (sym (map-append (λ (t : Text). t.definitions) (texts ++ p ∷ []) (q ∷ [])))
    (installed_typed transforms defs p q w (ap last_text more ∙ last_is_next (definitions_of texts) p.definitions) of.last follows of.holds typed)

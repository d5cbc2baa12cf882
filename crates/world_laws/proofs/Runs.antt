-- Each world that a run comes to holds the globals, arrays and mutexes of its text.
use Rattle.std.proofs.Common.{◌≡◌, ◌≢◌, ◌<◌, List, map, option_and_then, Some, All, sym, ap, subst, subst₂, ◌∙◌, arith}
use Rattle.std.specs.Prelude.{AllPairs}
use Rattle.std.proofs.lemmas.List.{get_or-map, length-map}
use Rattle.std.proofs.lemmas.List.Elements.{All-map, All-weaker}
use Rattle.c_tree.specs.BareDef.{BareDef}
use Rattle.c_semantics.specs.SourceTexts.{Text}
use Rattle.source_model.specs.Worlds.{World, Limits}
use Rattle.source_model.specs.Runs.{SourceMove, run, start}
use Rattle.source_model.specs.JournalLaws.{HasMain}
use Rattle.version_laws.proofs.MovesSustain.{moves_sustain}
use Rattle.version_laws.proofs.RunHistories.{holds_in_runs}
use Rattle.frame_bodies.specs.AcceptedTexts.{AreAccepted, IsAccepted, definitions_of}
use Rattle.world_laws.specs.Holdings.{names_with_cells}
use Rattle.world_laws.specs.WorldLaws.{NamesAreOfTexts, WorldsHold}
use Rattle.world_laws.proofs.Accepted.{main_in, named_once}
use Rattle.world_laws.proofs.Cells.{first_named, named_after}
use Rattle.world_laws.proofs.Moves.{at_number, runs_sustained}
use Rattle.world_laws.proofs.TypedBodies.{BodiesStore, accepted_bodies_store}

pub names_are_of_texts : NamesAreOfTexts
names_are_of_texts texts limits =
    holds_in_runs texts limits (λ before w. map (λ g. g.name) w.globals ≡ names_with_cells w.text) (λ text is. first_named text)
    (λ before w after t e h.
    let kept = moves_sustain w after t e in
    kept.globals ∙ h ∙ ap names_with_cells (sym kept.same_text))
    (λ before w k q is h. named_after w q)

-- ---- each name once

-- what holds of two values of a function holds of what it is applied to
pairs_unmapped : {A B : Type 0} (R : B → B → Type 0) (f : A → B) (xs : List A) → AllPairs R (map f xs) → AllPairs (λ x y. R (f x) (f y)) xs
pairs_unmapped R f xs h i j d less within =
    subst₂ R (get_or-map f xs i d (f d) (omega arith)) (get_or-map f xs j d (f d) within)
    (h i j (f d) less (subst (λ n. j < n) (sym (length-map xs f)) within))

abbrev Once : List BareDef → Type 0
Once text = AllPairs (λ a b. a ≢ b) (names_with_cells text)

text_names_once : (texts : List (List BareDef)) (limits : Limits) (ms : List SourceMove) (w : World) → All Once texts
    → option_and_then (run texts ms) (start texts limits) ≡ Some w → Once w.text
text_names_once texts limits ms w once e =
    holds_in_runs texts limits (λ before v. Once v.text) (λ text is. at_number Once texts 0 text once is)
    (λ before v after t f h. subst Once (sym (moves_sustain v after t f).same_text) h)
    (λ before v k q is h. at_number Once texts k q once is) ms w e

-- ---- accepted texts

-- what each accepted text has each of the run's has
each_has : (P : List BareDef → Type 0) → ((text : Text) → IsAccepted text → P text.definitions) → (texts : List Text) → AreAccepted texts
    → All P (definitions_of texts)
each_has P has texts accepted =
    All-map P (λ (t : Text). t.definitions) texts (All-weaker IsAccepted (λ (t : Text). P t.definitions) has texts accepted)

pub worlds_hold : WorldsHold
worlds_hold texts limits ms w accepted e =
    let named = names_are_of_texts (definitions_of texts) limits ms w e in
    let once = text_names_once (definitions_of texts) limits ms w (each_has Once named_once texts accepted) e in
    let h = runs_sustained (definitions_of texts) limits ms w (each_has HasMain main_in texts accepted)
    (each_has BodiesStore accepted_bodies_store texts accepted) e in (
      record { named = named; variables = h.globals.variables; arrays = h.globals.arrays },
      pairs_unmapped (λ a b. a ≢ b) (λ g. g.name) w.globals (subst (AllPairs (λ a b. a ≢ b)) (sym named) once),
      record { declared = h.mutexes.declared; once = h.mutexes.once },
    )

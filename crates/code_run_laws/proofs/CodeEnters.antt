-- An enter of code is that of the source machine.
use Rattle.std.proofs.Common.{◌≡◌, ℕ, suc, ◌<◌, ◌==◌, true, false, List, [], ◌∷◌, ◌++◌, append_assoc, length, length-set, map, reverse, slice_get, Some, None, refl, sym, ap, ap₂, subst, ◌∙◌, le_refl, arith, if◌then◌else◌}
use Rattle.std.specs.Prelude.{slice_set}
use Rattle.std.proofs.lemmas.List.{reverse-append}
use Rattle.run_types.specs.declared.trap.TrapKind.TheVariants.{Depth}
use Rattle.c_tree.specs.BareExpr.{Bytes, BareType}
use Rattle.c_tree.specs.BareDef.{BareBinding, BareDef}
use Rattle.c_semantics.specs.Texts.{Definitions, definition, parameters_of, result_type}
use Rattle.c_semantics.specs.Resolution.{resolved_body}
use Rattle.c_semantics.specs.Values.{Value}
use Rattle.c_semantics.specs.Threads.{Enter, Frame, Thread, bind, entered}
use Rattle.source_model.specs.Versions.{current}
use Rattle.source_model.specs.Worlds.{World, Live, Trapped, now, with_thread as with_source_thread}
use Rattle.source_model.specs.Moves.{enter_with, frame_count, frame_of}
use Rattle.version_laws.specs.Histories.{last_text}
use Rattle.version_laws.proofs.EntersAlike.{enters_alike}
use Rattle.version_laws.proofs.TableHistories.{last_as_current}
use Rattle.typed_trees.specs.ValueTypes.{HaveTypes}
use Rattle.typed_trees.specs.ExpressionTypes.{parameter_types}
use Rattle.typed_runs.specs.TypedFrames.{result_in, version_in}
use Rattle.typed_runs.specs.TypedWorlds.{tags_of}
use Rattle.typed_runs.proofs.Arguments.{bound_have}
use Rattle.typed_runs.proofs.SameUses.{SameUse}
use Rattle.bytecode.specs.Words.{Naming, word_of}
use Rattle.tree_code.specs.Ranges.{AllRanged}
use Rattle.tree_code.specs.CodeLaws.{Holds}
use Rattle.code_kinds.specs.WellFormed.{most_variables}
use Rattle.code_runs.specs.CodeData.{Names}
use Rattle.code_runs.specs.CodeThreads.{CodeEnter, CodeFrame, CodeThread, CodeWorld, Live as CodeLive}
use Rattle.code_runs.specs.CodeMoves.{GoesOn, IsEntered, going, trapped, with_thread}
use Rattle.code_runs.specs.CodeWaits.{in_slot}
use Rattle.code_run_laws.specs.MoveLaws.{IsCoded}
use Rattle.code_run_laws.specs.ThreadMatches.{BelowMatch, EnterMatches, FrameRests, SlotStands}
use Rattle.code_run_laws.specs.WorldMatches.{WorldMatches}
use Rattle.code_run_laws.proofs.SlotsStanding.{still_standing}
use Rattle.code_run_laws.proofs.FramesRest.{goes_on_resting}
use Rattle.code_run_laws.proofs.Between.{Between, begun, changed, done, ended, told_apart}
use Rattle.code_run_laws.proofs.ThreadAtStop.{KnownLaws, MadeAlike, Running, silent}

-- ---- arguments as variables

at_length : (xs : List ℕ) (y : ℕ) (ys : List ℕ) → slice_get (xs ++ y ∷ ys) (length xs) ≡ Some y
at_length [] y ys = refl
at_length (x ∷ xs) y ys = at_length xs y ys

bound_length : (tags : List Bytes) (naming : Naming) (ps : List BareBinding) (vs : List Value) → HaveTypes tags (map (λ p. p.declared) ps) vs
    → length (bind ps vs) ≡ length (reverse (map (word_of naming) vs))
bound_length tags naming [] [] h = refl
bound_length tags naming [] (v ∷ vs) h = absurd h
bound_length tags naming (p ∷ ps) [] h = absurd h
bound_length tags naming (p ∷ ps) (v ∷ vs) h =
    ap suc (bound_length tags naming ps vs h.1) ∙ sym (one_longer (reverse (map (word_of naming) vs)))
    ∙ ap length (sym (reverse-append (word_of naming v ∷ []) (map (word_of naming) vs)))
  where
    one_longer : (xs : List ℕ) → length (xs ++ word_of naming v ∷ []) ≡ suc (length xs)
    one_longer [] = refl
    one_longer (x ∷ xs) = ap suc (one_longer xs)

-- the last argument is the first variable
bound_hold : (tags : List Bytes) (naming : Naming) (ps : List BareBinding) (vs : List Value) (others locals : List ℕ)
    → HaveTypes tags (map (λ p. p.declared) ps) vs → AllRanged vs → locals ≡ reverse (map (word_of naming) vs) ++ others
    → Holds naming (bind ps vs) locals
bound_hold tags naming [] vs others locals h ranged is = tt
bound_hold tags naming (p ∷ ps) [] others locals h ranged is = absurd h
bound_hold tags naming (p ∷ ps) (v ∷ vs) others locals h ranged is =
    let words = map (word_of naming) vs in
    let later : locals ≡ reverse words ++ word_of naming v ∷ others =
    is ∙ ap (λ xs. xs ++ others) (reverse-append (word_of naming v ∷ []) words) ∙ append_assoc (reverse words) (word_of naming v ∷ []) others in (
      ap₂ slice_get later (bound_length tags naming ps vs h.1) ∙ at_length (reverse words) (word_of naming v) others,
      ranged.0,
      bound_hold tags naming ps vs (word_of naming v ∷ others) locals h.1 ranged.1 later,
    )

below_as_many : (texts : List (List BareDef)) (tags : List Bytes) (naming : Naming) (type : BareType) (fs : List Frame) (owns : List CodeFrame)
    → BelowMatch texts tags naming type fs owns → length fs ≡ length owns
below_as_many texts tags naming type [] [] h = refl
below_as_many texts tags naming type [] (own ∷ owns) h = absurd h
below_as_many texts tags naming type (f ∷ fs) [] h = absurd h
below_as_many texts tags naming type (f ∷ fs) (own ∷ owns) h =
    ap suc (below_as_many texts tags naming (result_in texts f.version f.function) fs owns h.1)

less_no : (n m : ℕ) → n < m → (n == m) ≡ false
less_no n m h = grind arith

same_yes : (n m : ℕ) → n ≡ m → (n == m) ≡ true
same_yes n m h = grind arith

module _ (laws : KnownLaws) (texts : List (List BareDef)) (names : Names) (w : World) (own : CodeWorld) (r : Running texts names w own)
    (coded : IsCoded (last_text texts)) (t : ℕ) (th : Thread) (own_th : CodeThread) (serial : own_th.serial ≡ th.serial)
    (depth : own_th.depth ≡ th.depth) (e : Enter) (due : CodeEnter) where
  abbrev tags : List Bytes
  tags = tags_of w.objects

  abbrev naming : Naming
  naming = r.matches.naming

  abbrev look : Definitions
  look = definition (last_text texts)

  abbrev start : Between texts names w naming w own
  start = begun texts names w own r.matches r.going

  module _ (m : EnterMatches texts tags naming e due) (below : BelowMatch texts tags naming (result_in texts e.version e.function) th.frames own_th.below) where
    -- ---- there is room

    -- the frame of the newest text
    abbrev newest : Frame
    newest = entered look e.function (length texts) e.arguments

    newest_is : frame_of w e ≡ newest
    newest_is =
        enters_alike (now w) look (last_as_current texts w.table r.of.history) e.function (current w.table) e.arguments
        ∙ ap (λ n. entered look e.function n e.arguments) r.of.history.count

    module _ (own_f next : CodeFrame) (same : SameUse (version_in texts e.version e.function) (look e.function)) (is : IsEntered texts due own_f)
        (goes : GoesOn texts own_f 1 [] 0 next) where
      have : HaveTypes tags (parameter_types (look e.function)) e.arguments
      have = subst (λ ts. HaveTypes tags ts e.arguments) same.parameters_are m.typed.arguments

      newest_rests : FrameRests texts tags naming newest next
      newest_rests =
          goes_on_resting laws.local texts tags naming
          (told_apart laws.apart texts names naming r.matches.objects w own.shared r.matches.threads_named r.matches.shared) newest own_f next 1 []
          (r.words (length texts) e.function) (is.function ∙ m.function) is.version (le_refl (length texts)) goes
          (laws.entered most_variables look (result_type (look e.function)) tags naming (parameters_of (look e.function))
          (resolved_body look (look e.function)) (bind (parameters_of (look e.function)) e.arguments) own_f.state.locals (coded.typed e.function)
          (coded.room e.function) (bound_have tags (parameters_of (look e.function)) e.arguments have)
          (bound_hold tags naming (parameters_of (look e.function)) e.arguments is.others own_f.state.locals have m.ranged
          (is.locals ∙ ap (λ ws. reverse ws ++ is.others) m.arguments)) is.room)

      abbrev entered_thread : Frame → Thread
      entered_thread f = record th { frames = f ∷ th.frames; entering = None }

      entered_matches : WorldMatches texts names (with_source_thread t (entered_thread newest) w) (with_thread t (going own_th next) own)
      entered_matches =
          done texts names w naming _ (with_thread t (going own_th next) own)
          (changed texts names w naming w own start t (Live (entered_thread newest)) (CodeLive (going own_th next))
          (record {
            serial = serial;
            depth = depth;
            next = (newest_rests, subst (λ u. BelowMatch texts tags naming u th.frames own_th.below) same.result_is below);
          }))

      pub entered_alike : length own_th.below < frame_count
          → MadeAlike texts names w (enter_with w t e th) (with_thread t (going own_th next) own) []
      entered_alike room =
          subst (λ b. MadeAlike texts names w
          (if b then Some (record (with_source_thread t th w) { finish = Some (Trapped Depth t) }) else Some (with_source_thread t (entered_thread (frame_of w e)) w))
          (with_thread t (going own_th next) own) [])
          (sym (ap (λ n. n == frame_count) (below_as_many texts tags naming (result_in texts e.version e.function) th.frames own_th.below below)
          ∙ less_no (length own_th.below) frame_count room))
          (record {
            after = with_source_thread t (entered_thread newest) w;
            is = ap (λ f. Some (with_source_thread t (entered_thread f) w)) newest_is;
            output = silent w.output [] refl;
            matches = entered_matches;
          })

    -- ---- there is none

    pub overflows_alike : in_slot own t ≡ CodeLive own_th → length own_th.below ≡ frame_count
        → MadeAlike texts names w (enter_with w t e th) (trapped Depth t own) []
    overflows_alike there full =
        subst (λ b. MadeAlike texts names w
        (if b then Some (record (with_source_thread t th w) { finish = Some (Trapped Depth t) })
        else Some (with_source_thread t (record th { frames = frame_of w e ∷ th.frames; entering = None }) w))
        (trapped Depth t own) [])
        (sym (ap (λ n. n == frame_count) (below_as_many texts tags naming (result_in texts e.version e.function) th.frames own_th.below below)
        ∙ same_yes (length own_th.below) frame_count full))
        (record {
          after = record (with_source_thread t th w) { finish = Some (Trapped Depth t) };
          is = refl;
          output = silent w.output [] refl;
          matches =
              ended texts names w naming w own start (Trapped Depth t) (slice_set w.slots t (Live th)) (length-set w.slots t (Live th))
              (still_standing w.slots own.slots t (Live th) (subst (SlotStands (Live th)) (sym there) (serial, depth)));
        })

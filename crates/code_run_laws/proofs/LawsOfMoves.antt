-- Over accepted texts each move of code is one of the source machine, and threads of code wait for what its threads wait for.
use Rattle.std.proofs.Common.{◌≡◌, ℕ, zero, suc, ◌<◌, ◌||◌, List, [], length, slice_get, Some, None, is_some, refl, sym, ap, subst, ◌∙◌, arith, if◌then◌else◌}
use Rattle.std.specs.Prelude.{◌^◌}
use Rattle.c_tree.specs.BareDef.{BareDef}
use Rattle.c_semantics.specs.SourceTexts.{Text}
use Rattle.c_semantics.specs.Texts.{definition, result_type}
use Rattle.c_semantics.specs.Resolution.{resolved_body}
use Rattle.c_semantics.specs.Threads.{Thread}
use Rattle.source_model.specs.Worlds.{World, Live, in_slot}
use Rattle.source_model.specs.Moves.{move, move_of, thread_move}
use Rattle.source_model.specs.Waits.{must_wait, waits_for}
use Rattle.version_laws.specs.Histories.{text_in}
use Rattle.frame_bodies.specs.AcceptedTexts.{definitions_of}
use Rattle.typed_runs.specs.TypedWorlds.{SlotTyped, tags_of}
use Rattle.typed_runs.proofs.Stops.{slot_at}
use Rattle.bytecode.specs.declared.kind.ValueKind.{ValueKind}
use Rattle.bytecode.specs.declared.kind.ValueKind.TheVariants.{Number}
use Rattle.c_ints.specs.declared.kind.Kind.TheVariants.{I32}
use Rattle.bytecode.specs.Instructions.{Constant}
use Rattle.tree_code.specs.Code.{body_code}
use Rattle.tree_code.specs.CodeLaws.{CodeGoesOnAfterStops}
use Rattle.code_runs.specs.CodeData.{Names}
use Rattle.code_runs.specs.CodeThreads.{CodeThread, CodeWorld, Live as CodeLive}
use Rattle.code_runs.specs.CodeMoves.{Moves}
use Rattle.code_runs.specs.CodeWaits.{EndsNone, Stays, Waits, WaitsNext, ends_none, none_lives, over, waits}
use Rattle.code_runs.specs.CodeWaits as code
use Rattle.code_run_laws.specs.MoveLaws.{CodeMovesAlike, CodeWaitsAlike, IsCoded, MovesAlike, Stands, UsesWell}
use Rattle.code_run_laws.proofs.NumberedTexts.{numbered_texts}
use Rattle.code_run_laws.proofs.SharedAlike.{SharedStopsAlike}
use Rattle.code_run_laws.proofs.SlotsMatching.{LivesAs, lives_as, slot_matching}
use Rattle.code_run_laws.proofs.ThreadAtStop.{AllHaveWords, KnownLaws, Running}
use Rattle.code_run_laws.proofs.WaitsAlike.{in_each, waits_alike}
use Rattle.code_run_laws.proofs.MovesAlike.{thread_alike}

-- ---- the code of a text that defines nothing

none_coded : IsCoded []
none_coded = record {
  typed = λ f. record { statements = tt; stays = refl };
  room = λ f. tt;
  words = λ f. by;
  few = λ f. omega arith;
}
  where
    -- its one constant is 0
    zero_word : (k : ValueKind) (kind : ValueKind) (w : ℕ) → Some (Constant k 0) ≡ Some (Constant kind w) → w < 2 ^ 64
    zero_word k kind w e = let is : 0 ≡ w = cc in subst (λ n. n < 2 ^ 64) is (omega arith)

    by : (p : ℕ) (kind : ValueKind) (w : ℕ)
        → slice_get (body_code (definition []) [] (result_type None) (resolved_body (definition []) None)) p ≡ Some (Constant kind w) → w < 2 ^ 64
    by zero kind w e = cc
    by (suc zero) kind w e = zero_word (Number I32) kind w e
    by (suc (suc zero)) kind w e = cc
    by (suc (suc (suc p))) kind w e = cc

module _ (texts : List Text) (names : Names) (w : World) (own : CodeWorld) (s : Stands texts names w own) where
  abbrev texts_of : List (List BareDef)
  texts_of = definitions_of texts

  each_coded : (n : ℕ) → IsCoded (text_in texts_of n)
  each_coded = in_each IsCoded none_coded texts_of s.coded

  all_words : AllHaveWords texts_of
  all_words n f = let c : IsCoded (text_in texts_of n) = each_coded n in c.words f

  abbrev running : w.finish ≡ None → Running texts_of names w own
  running going = record {
    of = record { history = s.of.history; last = s.of.last };
    holds = s.of.holds;
    typed = s.typed;
    going = going;
    words = all_words;
    numbers = s.numbers;
    numbered = numbered_texts names texts s.accepted s.numbers;
    matches = s.matches;
  }

  -- the move of a thread that lives and waits for nothing
  module _ (laws : KnownLaws) (shared : SharedStopsAlike) (t : ℕ) (uses : UsesWell w t) (own_th : CodeThread) (new : CodeWorld) (printed : List ℕ)
      (going : w.finish ≡ None) (waiting : WaitsNext texts_of names own t own_th.next None) (moves : Moves texts_of names own t own_th new printed) where
    move_is : (th : Thread) → in_slot w t ≡ Live th → waits_for w t ≡ None → move w t ≡ thread_move w t th th.entering
    move_is th there none =
        ap (λ m. if (m || is_some w.finish) || must_wait w t then None else move_of w t (in_slot w t)) s.matches.used_well
        ∙ ap (λ f. if is_some f || must_wait w t then None else move_of w t (in_slot w t)) going
        ∙ ap (λ o. if is_some o then None else move_of w t (in_slot w t)) none ∙ ap (move_of w t) there

    lives_moves : LivesAs texts_of (tags_of w.objects) s.matches.naming (in_slot w t) own_th → waits_for w t ≡ None
        → code.in_slot own t ≡ CodeLive own_th → MovesAlike texts names w t new printed
    lives_moves l none there =
        let is = move_is l.thread l.is none in
        let made =
        thread_alike laws shared texts_of names w own (running going) (each_coded (length texts_of)) t l.thread own_th there l.matches
        (subst (SlotTyped texts_of (tags_of w.objects)) l.is (slot_at texts_of (tags_of w.objects) w.slots t (s.typed.slots going)))
        waiting (λ after e. uses after (is ∙ e)) new printed moves in
        record { after = made.after; moves = is ∙ made.is; output = made.output; matches = made.matches }

pub code_waits_alike : CodeGoesOnAfterStops → CodeWaitsAlike
code_waits_alike resumed texts names w own t what s going waiting =
    waits_alike resumed (definitions_of texts) names s.numbers w own s.matches (sym s.matches.finish ∙ going) t what waiting

pub code_moves_alike : KnownLaws → SharedStopsAlike → CodeMovesAlike
code_moves_alike laws shared texts names w own t own_th new printed s uses going there waiting moves =
    let on : w.finish ≡ None = sym s.matches.finish ∙ going in
    lives_moves texts names w own s laws shared t uses own_th new printed on waiting moves
    (lives_as (definitions_of texts) (tags_of w.objects) s.matches.naming (in_slot w t) (code.in_slot own t) own_th there
    (slot_matching (definitions_of texts) (tags_of w.objects) s.matches.naming w.slots own.slots t (s.matches.slots on)))
    (code_waits_alike laws.resumed texts names w own t None s going
    (subst (λ x. Waits (definitions_of texts) names own t x None) (sym there) waiting)) there

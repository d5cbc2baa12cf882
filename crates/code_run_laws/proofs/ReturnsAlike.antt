-- A return, and the begin and the end of a transaction of code, are those of the source machine.
use Rattle.std.proofs.Common.{◌≡◌, ℕ, zero, suc, List, [], ◌∷◌, ◌++◌, Option, Some, refl, sym, ap, subst, ◌∙◌}
use Rattle.c_ints.specs.Number.{value_of}
use Rattle.c_tree.specs.BareExpr.{Bytes, BareType}
use Rattle.c_tree.specs.BareDef.{BareDef}
use Rattle.c_semantics.specs.Texts.{Definitions, int}
use Rattle.c_semantics.specs.Values.{Value, Number, Reference, Started}
use Rattle.c_semantics.specs.Stops.{Stop}
use Rattle.c_semantics.specs.Threads.{Frame}
use Rattle.source_model.specs.Worlds.{World, Closed, Live, Over, Finished, with_slot as with_source_slot, with_thread as with_source_thread}
use Rattle.source_model.specs.Moves.{Standing, begin_at, end_at, finish_thread, gone_on, return, return_to}
use Rattle.typed_trees.specs.ValueTypes.{HasType}
use Rattle.typed_trees.specs.PieceTypes.{Stack, Top}
use Rattle.typed_runs.specs.TypedFrames.{result_in, version_in}
use Rattle.typed_runs.specs.TypedWorlds.{tags_of}
use Rattle.bytecode.specs.Words.{Naming, word_of}
use Rattle.tree_code.specs.Ranges.{Ranged}
use Rattle.code_runs.specs.CodeData.{Names}
use Rattle.code_runs.specs.CodeThreads.{CodeFrame, CodeThread, CodeWorld, Live as CodeLive, Over as CodeOver, Rests}
use Rattle.code_runs.specs.SharedStops.{One}
use Rattle.code_runs.specs.CodeMoves.{At as CodeAt, Closes, Continues, GoesOn, Returned, ended as code_ended, with_slot, with_thread}
use Rattle.code_run_laws.specs.ThreadMatches.{BelowMatch, FrameAwaits, FrameRests, NextMatches}
use Rattle.code_run_laws.specs.WorldMatches.{WorldMatches}
use Rattle.code_run_laws.proofs.FramesRest.{goes_on_resting}
use Rattle.code_run_laws.proofs.Between.{Between, changed, counted, done, ended, told_apart}
use Rattle.code_run_laws.proofs.ThreadAtStop.{AtStop, KnownLaws, MadeAlike, On, Running, at, continues, here, silent}
use Rattle.code_run_laws.proofs.StopsOfThreads.{int_back, newest}

module _ (laws : KnownLaws) (texts : List (List BareDef)) (names : Names) (s : Standing) (own : CodeWorld) (r : Running texts names s.world own)
    (th : CodeThread) (f : CodeFrame) (after : ℕ) where
  abbrev tags : List Bytes
  tags = tags_of s.world.objects

  abbrev naming : Naming
  naming = r.matches.naming

  abbrev look : Definitions
  look = version_in texts s.frame.version

  abbrev result : BareType
  result = result_in texts s.frame.version s.frame.function

  abbrev own_at : CodeAt
  own_at = at laws texts names s own r th f after

  abbrev start : Between texts names s.world naming s.world own
  start = here laws texts names s own r th f after

  abbrev Ready : Stop → List Value → Type 0
  Ready = AtStop laws texts names s own r th f after

  abbrev Alike : Option World → CodeWorld → List ℕ → Type 0
  Alike = MadeAlike texts names s.world

  module _ (x : Stop) (values : List Value) (h : Ready x values) (new : CodeWorld) (printed : List ℕ) (none : printed ≡ []) where
    abbrev Then : Stack → Type 0
    Then = On laws texts names s own r th f after x values h

    -- ---- a return

    -- of a thread's first frame, by the thread's slot
    main_ended : (v : Value) → HasType tags int v → Ranged v → new ≡ code_ended own zero th.serial (word_of naming v)
        → Alike (finish_thread s v zero) new printed
    main_ended (Number n) hv rv is = record {
      after = record s.world { finish = Some (Finished (value_of n)) };
      is = refl;
      output = silent s.world.output printed none;
      matches =
          subst (WorldMatches texts names (record s.world { finish = Some (Finished (value_of n)) }))
          (ap (λ z. record own { finish = Some (Finished z) }) (sym (int_back n hv rv)) ∙ sym is)
          (ended texts names s.world naming s.world own start (Finished (value_of n)) s.world.slots refl (λ h. h));
    }
    main_ended (Reference o) hv rv is = absurd hv
    main_ended (Started o) hv rv is = absurd hv

    thread_ended : (t : ℕ) (v : Value) → s.slot ≡ t → HasType tags int v → Ranged v → new ≡ code_ended own t th.serial (word_of naming v)
        → Alike (finish_thread s v t) new printed
    thread_ended zero v place hv rv is = main_ended v hv rv is
    thread_ended (suc t) v place hv rv is = record {
      after = with_source_slot s.slot (Over s.thread.serial v) s.world;
      is = refl;
      output = silent s.world.output printed none;
      matches =
          subst (WorldMatches texts names (with_source_slot s.slot (Over s.thread.serial v) s.world))
          (ap (λ k. with_slot k (CodeOver th.serial (word_of naming v)) own) place ∙ sym is)
          (done texts names s.world naming _ (with_slot s.slot (CodeOver th.serial (word_of naming v)) own)
          (changed texts names s.world naming s.world own start s.slot (Over s.thread.serial v) (CodeOver th.serial (word_of naming v))
          (h.serial, (refl, (rv, hv)))));
    }

    -- to the frame that called
    caller_rests : (v : Value) (caller : Frame) (own_caller next : CodeFrame) → HasType tags result v → Ranged v
        → FrameAwaits texts tags naming result caller own_caller
        → GoesOn texts own_caller own_caller.state.place (word_of naming v ∷ own_caller.state.stack) own_caller.standing next
        → FrameRests texts tags naming (record caller { values = v ∷ caller.values }) next
    caller_rests v caller own_caller next hv rv awaits goes =
        goes_on_resting laws.local texts tags naming
        (told_apart laws.apart texts names naming r.matches.objects s.world own.shared r.matches.threads_named r.matches.shared)
        (record caller { values = v ∷ caller.values }) own_caller next own_caller.state.place
        (word_of naming v ∷ own_caller.state.stack) (r.words caller.version caller.function) awaits.0.function awaits.0.version awaits.0.known
        (subst (λ n. GoesOn texts own_caller own_caller.state.place (word_of naming v ∷ own_caller.state.stack) n next) awaits.0.standing goes)
        (record {
          stack = result ∷ awaits.1.stack;
          env = awaits.1.env;
          coded = awaits.1.coded;
          values_have = (hv, awaits.1.values_have);
          scopes_have = awaits.1.scopes_have;
          ranged = (rv, awaits.1.ranged);
          words = ap (λ ws. word_of naming v ∷ ws) awaits.1.words;
          variables = awaits.1.variables;
          room = awaits.1.room;
        })

    returned_to : (v : Value) (fs : List Frame) (owns : List CodeFrame) → HasType tags result v → Ranged v → BelowMatch texts tags naming result fs owns
        → Returned texts own_at own (word_of naming v) owns new → Alike (return_to s v fs) new printed
    returned_to v [] [] hv rv below returned = thread_ended s.slot v refl (subst (λ t. HasType tags t v) below hv) rv returned
    returned_to v [] (own_caller ∷ owns) hv rv below returned = absurd below
    returned_to v (caller ∷ fs) [] hv rv below returned = absurd below
    returned_to v (caller ∷ fs) (own_caller ∷ owns) hv rv below returned =
        let left = record s.thread { frames = record caller { values = v ∷ caller.values } ∷ fs } in
        let own_left = record th { next = Rests returned.0; below = owns } in
        record {
          after = with_source_thread s.slot left s.world;
          is = refl;
          output = silent s.world.output printed none;
          matches =
              subst (WorldMatches texts names (with_source_thread s.slot left s.world)) (sym returned.1.1)
              (done texts names s.world naming _ (with_thread s.slot own_left own)
              (changed texts names s.world naming s.world own start s.slot (Live left) (CodeLive own_left)
              (record {
                serial = h.serial;
                depth = h.depth;
                next =
                    subst (λ e. NextMatches texts tags naming e (record caller { values = v ∷ caller.values } ∷ fs) (Rests returned.0) owns)
                    (sym h.entering) (caller_rests v caller own_caller returned.0 hv rv below.0 returned.1.0, below.1);
              })));
        }

    pub return_alike : Top h.matches.stack (λ t under. t ≡ result)
        → One f.state.stack (λ v under. Returned texts own_at own v th.below new) → Alike (return s values) new printed
    return_alike typed one =
        newest tags naming (λ t under. t ≡ result) (λ v under. Returned texts own_at own v th.below new)
        (λ vs. Alike (return s vs) new printed)
        (λ t under v left p hv have rv ranged returned.
        returned_to v s.below th.below (subst (λ u. HasType tags u v) p hv) rv h.below returned)
        h.matches.stack values typed h.matches.values_have h.matches.ranged
        (subst (λ ws. One ws (λ v under. Returned texts own_at own v th.below new)) h.matches.words one)

    -- ---- transactions

    pub begin_alike : (depth : ℕ) → s.thread.depth ≡ depth → Then h.matches.stack
        → Continues texts own_at (record th { depth = suc th.depth }) f.state.stack own new → Alike (begin_at s depth (gone_on s values)) new printed
    begin_alike zero is on goes = record {
      after = with_source_thread s.slot (record (gone_on s values) { depth = 1; uses = [] }) s.world;
      is = refl;
      output = silent s.world.output printed none;
      matches =
          continues laws texts names s own r th f after x values h s.world own start h.matches.stack values f.state.stack 1 [] new on
          h.matches.values_have h.matches.ranged h.matches.words
          (subst (λ d. Continues texts own_at (record th { depth = suc d }) f.state.stack own new) (h.depth ∙ is) goes);
    }
    begin_alike (suc depth) is on goes = record {
      after = with_source_thread s.slot (record (gone_on s values) { depth = suc (suc depth) }) s.world;
      is = refl;
      output = silent s.world.output printed none;
      matches =
          continues laws texts names s own r th f after x values h s.world own start h.matches.stack values f.state.stack (suc (suc depth))
          s.thread.uses new on h.matches.values_have h.matches.ranged h.matches.words
          (subst (λ d. Continues texts own_at (record th { depth = suc d }) f.state.stack own new) (h.depth ∙ is) goes);
    }

    pub end_alike : (depth : ℕ) → Then h.matches.stack → Closes texts own_at own depth new → Alike (end_at s depth (gone_on s values)) new printed
    end_alike zero on closes = absurd closes
    end_alike (suc zero) on closes =
        let closed : List Closed = s.world.closed ++ record { slot = s.slot; uses = s.thread.uses } ∷ [] in
        record {
          after = with_source_thread s.slot (record (gone_on s values) { depth = 0; uses = [] }) (record s.world { closed = closed });
          is = refl;
          output = silent s.world.output printed none;
          matches =
              continues laws texts names s own r th f after x values h (record s.world { closed = closed }) own
              (counted texts names s.world naming s.world own start s.world.threads own.threads closed r.matches.threads)
              h.matches.stack values f.state.stack 0 [] new on h.matches.values_have h.matches.ranged h.matches.words closes;
        }
    end_alike (suc (suc depth)) on closes = record {
      after = with_source_thread s.slot (record (gone_on s values) { depth = suc depth }) s.world;
      is = refl;
      output = silent s.world.output printed none;
      matches =
          continues laws texts names s own r th f after x values h s.world own start h.matches.stack values f.state.stack (suc depth) s.thread.uses
          new on h.matches.values_have h.matches.ranged h.matches.words closes;
    }

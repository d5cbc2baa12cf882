-- A thread of code at a stop, and how it goes on.
use Rattle.std.proofs.Common.{◌≡◌, ℕ, ◌≤◌, List, [], ◌∷◌, ◌++◌, append-nil, length, length-set, map, Option, Some, None, All, refl, sym, ap, subst, ◌∙◌}
use Rattle.std.specs.Prelude.{slice_set}
use Rattle.run_types.specs.declared.trap.TrapKind.{TrapKind}
use Rattle.c_tree.specs.BareExpr.{Bytes, BareType}
use Rattle.c_tree.specs.BareDef.{BareDef}
use Rattle.c_semantics.specs.Texts.{Definitions}
use Rattle.c_semantics.specs.Values.{Value}
use Rattle.c_semantics.specs.Stops.{Stop}
use Rattle.c_semantics.specs.Pieces.{At as StopAt}
use Rattle.c_semantics.specs.Threads.{Record}
use Rattle.source_model.specs.Worlds.{World, Live, Trapped, with_thread as with_source_thread}
use Rattle.source_model.specs.Moves.{Standing, gone_on, goes_on, traps as source_traps}
use Rattle.version_laws.proofs.RunHistories.{IsOf}
use Rattle.world_laws.specs.Holdings.{HoldsGlobals}
use Rattle.typed_trees.specs.ValueTypes.{HaveTypes}
use Rattle.typed_trees.specs.PieceTypes.{Stack, StopTyped}
use Rattle.typed_runs.specs.TypedFrames.{Below, result_in, version_in}
use Rattle.typed_runs.specs.TypedWorlds.{WorldTyped, tags_of}
use Rattle.typed_runs.proofs.MoreObjects.{scopes_still}
use Rattle.bytecode.specs.Words.{Naming, word_of}
use Rattle.tree_code.specs.Ranges.{AllRanged}
use Rattle.tree_code.specs.Code.{Code}
use Rattle.tree_code.specs.CodedPieces.{At, Stops, coding}
use Rattle.tree_code.specs.CodeLaws.{CodeDoesLocalEvaluation, CodeGoesOnAfterStops, EnteredFramesMatch, HasWords, Matches}
use Rattle.code_kinds.specs.WellFormed.{most_variables}
use Rattle.store_laws.specs.HandleLaws.{HandlesDistinguish}
use Rattle.code_runs.specs.CodeData.{Names}
use Rattle.code_runs.specs.CodeThreads.{CodeFrame, CodeThread, CodeWorld, Live as CodeLive, Rests}
use Rattle.code_runs.specs.CodeMoves.{At as CodeAt, Continues, GoesOn, code_in, going, trapped, with_thread}
use Rattle.code_runs.specs.CodeWaits.{in_slot}
use Rattle.code_run_laws.specs.ThreadMatches.{BelowMatch, FrameRests, NextMatches, SlotStands, SlotsStand}
use Rattle.code_run_laws.specs.WorldMatches.{Numbers, WorldMatches}
use Rattle.code_run_laws.proofs.NumberedTexts.{Numbered}
use Rattle.code_run_laws.proofs.MoreNames.{holds_still}
use Rattle.code_run_laws.proofs.FramesStill.{below_match_still}
use Rattle.code_run_laws.proofs.SlotsStanding.{still_standing}
use Rattle.code_run_laws.proofs.FramesRest.{goes_on_resting}
use Rattle.code_run_laws.proofs.Between.{Between, begun, changed, done, ended, told_apart}

-- what is known of code, of frames that enter, and of handles
pub record KnownLaws : Type 0 where
  pub local : CodeDoesLocalEvaluation
  pub resumed : CodeGoesOnAfterStops
  pub entered : EnteredFramesMatch
  pub apart : HandlesDistinguish

-- what a move comes to: a world that prints these bytes more, for which code stands
pub record MadeAlike (texts : List (List BareDef)) (names : Names) (w : World) (made : Option World) (new : CodeWorld) (printed : List ℕ) : Type 0 where
  pub after : World
  pub is : made ≡ Some after
  pub output : after.output ≡ w.output ++ printed
  pub matches : WorldMatches texts names after new

-- nothing is printed
pub silent : (out printed : List ℕ) → printed ≡ [] → out ≡ out ++ printed
silent out printed e = sym (append-nil out) ∙ ap (λ p. out ++ p) (sym e)

-- the code of each function of each version has words
abbrev pub AllHaveWords : List (List BareDef) → Type 0
AllHaveWords texts = (n : ℕ) (f : Bytes) → HasWords (code_in texts n f)

-- a typed world that goes on, for which code stands
pub record Running (texts : List (List BareDef)) (names : Names) (w : World) (own : CodeWorld) : Type 0 where
  pub of : IsOf texts w
  pub holds : HoldsGlobals w
  pub typed : WorldTyped texts w
  pub going : w.finish ≡ None
  pub words : AllHaveWords texts
  pub numbers : All (Numbers names) texts
  pub numbered : All (Numbered names) texts
  pub matches : WorldMatches texts names w own

module _ (laws : KnownLaws) (texts : List (List BareDef)) (names : Names) (s : Standing) (own : CodeWorld) (r : Running texts names s.world own)
    (th : CodeThread) (f : CodeFrame) (after : ℕ) where
  abbrev tags : List Bytes
  tags = tags_of s.world.objects

  abbrev naming : Naming
  naming = r.matches.naming

  abbrev look : Definitions
  look = version_in texts s.frame.version

  abbrev result : BareType
  result = result_in texts s.frame.version s.frame.function

  abbrev code : Code
  code = code_in texts s.frame.version s.frame.function

  -- the frame of code is that of the source machine at this stop, over frames that match
  pub record AtStop (x : Stop) (values : List Value) : Type 0 where
    pub function : f.function ≡ s.frame.function
    pub version : f.version ≡ s.frame.version
    pub known : s.frame.version ≤ length texts
    pub stops : Stops code x s.frame.standing f.state.place after
    pub matches : Matches code most_variables look result tags naming (StopAt x s.frame.standing ∷ s.frame.pieces) values s.frame.scopes f.state
    pub below : BelowMatch texts tags naming result s.below th.below
    pub below_typed : Below texts tags result s.below
    pub lives : in_slot own s.slot ≡ CodeLive th
    pub serial : th.serial ≡ s.thread.serial
    pub depth : th.depth ≡ s.thread.depth
    pub entering : s.thread.entering ≡ None

  -- as code has it
  abbrev pub at : CodeAt
  at = record { slot = s.slot; thread = th; frame = f; point = s.frame.standing; after = after }

  abbrev pub here : Between texts names s.world naming s.world own
  here = begun texts names s.world own r.matches r.going

  module _ (x : Stop) (values : List Value) (h : AtStop x values) where
    -- the code goes on from values of these types
    abbrev pub On : Stack → Type 0
    On under = (coding code most_variables look result s.frame.pieces).on under h.matches.env (At after)

    pub typed_stop : StopTyped look result x h.matches.stack On
    typed_stop =
        laws.resumed code most_variables look result x s.frame.standing s.frame.pieces h.matches.stack h.matches.env f.state.place after
        h.matches.coded h.stops

    module _ (now : World) (mid : CodeWorld) (b : Between texts names s.world naming now mid) where
      resting : (under : Stack) (left : List Value) (stack : List ℕ) (next : CodeFrame) → On under → HaveTypes (tags_of now.objects) under left
          → AllRanged left → stack ≡ map (word_of b.names_now) left → GoesOn texts f after stack s.frame.standing next
          → FrameRests texts (tags_of now.objects) b.names_now (record s.frame { values = left }) next
      resting under left stack next on have ranged words goes =
          goes_on_resting laws.local texts (tags_of now.objects) b.names_now
          (told_apart laws.apart texts names b.names_now b.objects now mid.shared b.threads_named b.shared) (record s.frame { values = left }) f next after
          stack (r.words s.frame.version s.frame.function) h.function h.version h.known goes
          (record {
            stack = under;
            env = h.matches.env;
            coded = on;
            values_have = have;
            scopes_have = scopes_still tags (tags_of now.objects) b.grows h.matches.env s.frame.scopes h.matches.scopes_have;
            ranged = ranged;
            words = words;
            variables =
                holds_still tags naming b.names_now b.more h.matches.env s.frame.scopes f.state.locals h.matches.scopes_have h.matches.variables;
            room = h.matches.room;
          })

      -- the thread goes on in so many transactions
      pub continues : (under : Stack) (left : List Value) (stack : List ℕ) (depth : ℕ) (uses : Record) (new : CodeWorld) → On under
          → HaveTypes (tags_of now.objects) under left → AllRanged left → stack ≡ map (word_of b.names_now) left
          → Continues texts at (record th { depth = depth }) stack mid new
          → WorldMatches texts names (with_source_thread s.slot (record (gone_on s left) { depth = depth; uses = uses }) now) new
      continues under left stack depth uses new on have ranged words goes =
          let next = goes.0 in
          subst (WorldMatches texts names (with_source_thread s.slot (record (gone_on s left) { depth = depth; uses = uses }) now)) (sym goes.1.1)
          (done texts names s.world naming _ (with_thread s.slot (going (record th { depth = depth }) next) mid)
          (changed texts names s.world naming now mid b s.slot (Live (record (gone_on s left) { depth = depth; uses = uses }))
          (CodeLive (going (record th { depth = depth }) next))
          (record {
            serial = h.serial;
            depth = refl;
            next =
                subst (λ e. NextMatches texts (tags_of now.objects) b.names_now e (record s.frame { values = left } ∷ s.below) (Rests next) th.below)
                (sym h.entering) (
                  resting under left stack next on have ranged words goes.1.0,
                  below_match_still tags (tags_of now.objects) naming b.names_now b.grows b.more texts result s.below th.below h.below,
                );
          })))

      -- and in as many as before
      pub goes_alike : (under : Stack) (left : List Value) (stack printed : List ℕ) (new : CodeWorld) → now.output ≡ s.world.output ++ printed
          → On under → HaveTypes (tags_of now.objects) under left → AllRanged left → stack ≡ map (word_of b.names_now) left
          → Continues texts at th stack mid new → MadeAlike texts names s.world (goes_on s now left) new printed
      goes_alike under left stack printed new output on have ranged words goes = record {
        after = with_source_thread s.slot (gone_on s left) now;
        is = refl;
        output = output;
        matches =
            continues under left stack s.thread.depth s.thread.uses new on have ranged words
            (subst (λ d. Continues texts at (record th { depth = d }) stack mid new) h.depth goes);
      }

    -- the slots stay alike where the stop traps
    pub still_there : (vs : List Value) → SlotsStand s.world.slots own.slots
        → SlotsStand (slice_set s.world.slots s.slot (Live (gone_on s vs))) own.slots
    still_there vs =
        still_standing s.world.slots own.slots s.slot (Live (gone_on s vs))
        (subst (SlotStands (Live (gone_on s vs))) (sym h.lives) (h.serial, h.depth))

    -- the stop traps
    pub traps_alike : (kind : TrapKind) (printed : List ℕ) (new : CodeWorld) → printed ≡ [] → new ≡ trapped kind s.slot own
        → MadeAlike texts names s.world (source_traps s kind) new printed
    traps_alike kind printed new none is = record {
      after = record (with_source_thread s.slot (gone_on s s.frame.values) s.world) { finish = Some (Trapped kind s.slot) };
      is = refl;
      output = silent s.world.output printed none;
      matches =
          subst
          (WorldMatches texts names (record (with_source_thread s.slot (gone_on s s.frame.values) s.world) { finish = Some (Trapped kind s.slot) }))
          (sym is)
          (ended texts names s.world naming s.world own here (Trapped kind s.slot)
          (slice_set s.world.slots s.slot (Live (gone_on s s.frame.values)))
          (length-set s.world.slots s.slot (Live (gone_on s s.frame.values))) (still_there s.frame.values));
    }

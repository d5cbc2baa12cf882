-- Stops on what threads share: what they come to in each world.
use Rattle.std.proofs.Common.{◌≡◌, inl, ℕ, ◌+◌, ◌-◌, ◌<◌, ◌==◌, List, [], ◌∷◌, ◌++◌, length, Bool, true, false, Option, Some, None, if◌then◌else◌, refl, sym, subst, ap, ◌∙◌, arith}
use Rattle.std.specs.declared.alloc.Global.{Global}
use Rattle.std.specs.Prelude.{Vec, slice_index, slice_index_or}
use Rattle.std.proofs.lemmas.List.{length-map}
use Rattle.std.proofs.lemmas.Option.{none-some}
use Rattle.run_types.specs.declared.trap.TrapKind.{TrapKind}
use Rattle.run_types.specs.declared.trap.TrapKind.TheVariants.{Relock}
use Rattle.c_tree.specs.BareExpr.{Bytes}
use Rattle.c_tree.specs.BareDef.{BareBinding, BareDef}
use Rattle.c_semantics.specs.Stops.{Stop, ReadGlobal, WriteGlobal, ReadElement, WriteElement, ReadField, WriteField, New, Free, Print, InitMutex, Lock, Unlock, Join}
use Rattle.source_model.specs.Waits.{Waiting, ForMutex, held_by}
use Rattle.version_laws.specs.Histories.{last_text, text_in}
use Rattle.resolved_tree.specs.Nodes.{Table}
use Rattle.local_evaluation.specs.Pieces.{stop_of}
use Rattle.program_locks.specs.declared.answer.LockAnswer.TheVariants.{Waits as LockWaits, Trap as LockTrap}
use Rattle.program_locks.specs.Locking.{holder_of, lock_answer}
use Rattle.thread_state.specs.Frames.{downward}
use Rattle.thread_state.specs.declared.steps.End.TheVariants.{Rests as RestsThere}
use Rattle.code_runs.specs.CodeData.{Data, Names, field_word, number_of}
use Rattle.code_runs.specs.CodeThreads.{CodeFrame, CodeWorld}
use Rattle.code_runs.specs.CodeMoves.{At, Comes, GoesOn, StopMade}
use Rattle.code_runs.specs.CodeWaits.{at_stop}
use Rattle.code_runs.specs.SharedStops.{Answered, Came, Does, Done, One, Two, goes, members_in, on_object, write_field}
use Rattle.code_runs.specs.Layouts.{Freshens, brings, field_tag, newest, none_lives, null, one_text, uses_none}
use Rattle.code_runs.specs.SharedStops as shared
use Rattle.word_frames.specs.declared.frame.Frame.{Frame}
use Rattle.word_frames.specs.declared.frames.Frames.{Frames}
use Rattle.word_frames.specs.Blocks.{low_of}
use Rattle.word_frames.specs.Seen.{depth_of, frame_of, frames_below, frames_of, innermost, stack_base, stack_of}
use Rattle.word_frames.specs.Laws.{StackChanged, with_stack}
use Rattle.word_frames.proofs.FrameLists.{innermost_first}
use Rattle.word_data.specs.declared.stop.SharedStop.{SharedStop}
use Rattle.word_data.specs.declared.stop.SharedStop.TheVariants as shared_stop
use Rattle.word_data.specs.Performing.{MayFail}
use Rattle.word_data.specs.Resolved.{Resolves}
use Rattle.word_layouts.specs.declared.layouts.WordLayouts.{WordLayouts}
use Rattle.code_image.specs.declared.act.Act.TheVariants.{Shared as SharedAct}
use Rattle.code_image.specs.declared.act.StopPlace.{StopPlace}
use Rattle.code_image.specs.declared.image.CodeImage.{CodeImage}
use Rattle.code_image.specs.Acts.{Acts, named}
use Rattle.code_image.specs.Images.{names_in}
use Rattle.code_machine.specs.declared.running.Running.{Running}
use Rattle.code_machine.specs.declared.running.Stand.TheVariants.{Live as LiveStand}
use Rattle.code_machine.specs.declared.state.Finish.TheVariants.{Trapped}
use Rattle.code_machine.specs.declared.stops.Outcome.TheVariants.{Goes, Stays, Ends}
use Rattle.code_machine.specs.Kept.{Stood}
use Rattle.code_machine.specs.Seen.{slot_of, words_of}
use Rattle.code_machine.specs.Stops.{RestsAt, Stopped, WentOn, at, resting, settled}
use Rattle.code_machine.specs.Versions.{HasLayoutsOf, RunsCode, UsesObjectsWell, texts_by}
use Rattle.code_machine.proofs.Acting.{acts_at, stops_at}
use Rattle.code_machine.proofs.Fitting.{head_is, same_head, same_rest}
use Rattle.code_machine.proofs.StackChanges.{stack_changed}
use Rattle.code_machine.proofs.Resuming.{continues, stood_there}

-- ---- locks

-- a lock that was answered isn't waited for
lock_ready : (name : Bytes) (slot : ℕ) (o : Option ℕ) (d e : Data) (st : List ℕ) (x : Done) → Answered (lock_answer o slot) d e st x → held_by name slot o ≡ None
lock_ready name slot None d e st x h = refl
lock_ready name slot (Some holder) d e st x h = by (holder == slot) h
  where
    by : (b : Bool) → Answered (if b then LockTrap Relock else LockWaits holder) d e st x → (if b then None else Some (ForMutex name holder)) ≡ None
    by true h = refl
    by false h = absurd h

-- one that waits
lock_waits : (name : Bytes) (slot holder : ℕ) (o : Option ℕ) → lock_answer o slot ≡ LockWaits holder → (what : Waiting) × (held_by name slot o ≡ Some what)
lock_waits name slot holder None e = absurd (cc)
lock_waits name slot holder (Some h) e = by (h == slot) e
  where
    by : (b : Bool) → (if b then LockTrap Relock else LockWaits h) ≡ LockWaits holder → (what : Waiting) × ((if b then None else Some (ForMutex name h)) ≡ Some what)
    by true e = absurd (cc)
    by false e = (ForMutex name h, refl)

-- ---- an object that was brought

-- it changes no mutex
same_holders : (texts : List (List BareDef)) (names : Names) (s : Stop) (st : List ℕ) (d e : Data) → Freshens texts names s st d e → e.holders ≡ d.holders
same_holders texts names s st d _ (one_text one) = refl
same_holders texts names s st d _ (uses_none uses) = refl
same_holders texts names s st d _ (null tag uses) = refl
same_holders texts names s st d _ (none_lives tag h uses none) = refl
same_holders texts names s st d _ (newest tag h own uses there last) = refl
same_holders texts names s st d _ (brings tag h old new uses there made) = refl

-- a lock uses none
kept_by_lock : (texts : List (List BareDef)) (names : Names) (name : Bytes) (st : List ℕ) (d e : Data) → Freshens texts names (Lock name) st d e → e ≡ d
kept_by_lock texts names name st d _ (one_text one) = refl
kept_by_lock texts names name st d _ (uses_none uses) = refl
kept_by_lock texts names name st d _ (null tag uses) = refl
kept_by_lock texts names name st d _ (none_lives tag h uses none) = refl
kept_by_lock texts names name st d _ (newest tag h own uses there last) = refl
kept_by_lock texts names name st d _ (brings tag h old new uses there made) = absurd (none-some (tag, h) uses)

-- ---- a stop that was made

module _ (t : Table) (names : Names) (text : List BareDef) (texts : List (List BareDef)) where
  -- it does the same by the last text, where that has the same fields
  does_last : (s : Stop) → ((tag : Bytes) → field_tag s ≡ Some tag → members_in text tag ≡ members_in (last_text texts) tag)
      → (slot : ℕ) (d : Data) (st : List ℕ) (x : Done) → Does names text slot s d st x → Does names (last_text texts) slot s d st x
  does_last (ReadField tag name) same slot d st x does =
      subst (λ (ms : List BareBinding). One st (λ h under. x ≡ on_object d h (λ o. goes d (field_word ms name o ∷ under)))) (same tag refl) does
  does_last (WriteField tag name) same slot d st x does =
      subst (λ (ms : List BareBinding). Two st (λ w h under. x ≡ write_field d ms name h w under)) (same tag refl) does
  does_last _ same slot d st x does = does

  made : (s : Stop) (sh : SharedStop) → Resolves t names text s sh → (a : At) (w new : CodeWorld) (d : Data) (x : Done)
      → Freshens texts names s a.frame.state.stack w.shared d → Does names (last_text texts) a.slot s d a.frame.state.stack x
      → Comes texts a w x.shared x.came new → StopMade texts names a s w new x.printed
  made (ReadGlobal name) sh r a w new d x fresh does comes = (d, (fresh, (x, (does, (refl, comes)))))
  made (WriteGlobal name) sh r a w new d x fresh does comes = (d, (fresh, (x, (does, (refl, comes)))))
  made (ReadElement name) sh r a w new d x fresh does comes = (d, (fresh, (x, (does, (refl, comes)))))
  made (WriteElement name) sh r a w new d x fresh does comes = (d, (fresh, (x, (does, (refl, comes)))))
  made (ReadField tag name) sh r a w new d x fresh does comes = (d, (fresh, (x, (does, (refl, comes)))))
  made (WriteField tag name) sh r a w new d x fresh does comes = (d, (fresh, (x, (does, (refl, comes)))))
  made (New tag) sh r a w new d x fresh does comes = (d, (fresh, (x, (does, (refl, comes)))))
  made (Free tag) sh r a w new d x fresh does comes = (d, (fresh, (x, (does, (refl, comes)))))
  made (Print format n) sh r a w new d x fresh does comes = (d, (fresh, (x, (does, (refl, comes)))))
  made (InitMutex name) sh r a w new d x fresh does comes = (d, (fresh, (x, (does, (refl, comes)))))
  made (Lock name) sh r a w new d x fresh does comes = (d, (fresh, (x, (does, (refl, comes)))))
  made (Unlock name) sh r a w new d x fresh does comes = (d, (fresh, (x, (does, (refl, comes)))))
  made _ sh r a w new d x fresh does comes = absurd r

  -- which isn't waited for
  ready : (s : Stop) (sh : SharedStop) → Resolves t names text s sh → (w : CodeWorld) (slot : ℕ) (st : List ℕ) (d : Data) (x : Done)
      → d.holders ≡ w.shared.holders → Does names (last_text texts) slot s d st x → at_stop names w slot s st ≡ None
  ready (Lock name) sh r w slot st d x same does =
      ap (λ (hs : List (Option ℕ)). held_by name slot (holder_of hs (number_of names.mutexes name))) (sym same)
      ∙ lock_ready name slot (holder_of d.holders (number_of names.mutexes name)) d _ st x does
  ready Join sh r w slot st d x same does = absurd r
  ready _ sh r w slot st d x same does = refl

module _ (all : List (List BareDef)) (versions : List ℕ) (image : CodeImage) (slot : ℕ) (r : Running) (x : StopPlace) (what : SharedStop)
    (code : RunsCode all versions image r) (rests : RestsAt image.functions.items (length image.callees.items) r x) (act : x.act ≡ SharedAct what) where
  abbrev texts : List (List BareDef)
  texts = texts_by all versions

  abbrev names : Names
  names = names_in all

  -- the text of its innermost frame
  abbrev own : List BareDef
  own = text_in texts (innermost r.frames).version

  abbrev s : Stop
  s = stop_of (words_of image) x.stop

  -- the words of its stack
  abbrev stack : List ℕ
  stack = downward r.frames.words.items (stack_base r.frames) (innermost r.frames).height

  -- its innermost frame, and those that wait
  abbrev first : CodeFrame
  first = frame_of (words_of image) r.frames.highest_stack r.frames.words.items (depth_of r.frames - 1) (innermost r.frames)

  abbrev others : List CodeFrame
  others = frames_below (words_of image) r.frames.highest_stack r.frames.words.items r.frames.frames.items (depth_of r.frames - 1)

  stood : Stood image.functions.items r.frames RestsThere
  stood = stood_there image.functions.items (length image.callees.items) r x rests

  first_is : frames_of (words_of image) r.frames ≡ first ∷ others
  first_is = innermost_first (words_of image) r.frames.highest_stack r.frames.words.items r.frames.frames.items (depth_of r.frames) stood.some

  -- the act does what the stop says
  pub resolves : Resolves (words_of image) names own s what
  resolves = subst (Acts (words_of image) names own (named (words_of image) image.callees.items) s) act (acts_at all versions image r x code rests first others first_is)

  module _ (layouts : WordLayouts) (c d e : Data) (well : UsesObjectsWell all versions layouts image r c) (bytes before after : List ℕ) (printed : after ≡ before ++ bytes)
      (fresh : Freshens texts names s stack c d) where
    -- the last text has the fields that it uses
    same_fields : (tag : Bytes) → field_tag s ≡ Some tag → members_in own tag ≡ members_in (last_text texts) tag
    same_fields tag is =
        well.fields first others first_is s x.point x.after tag (stops_at all versions image r x code rests first others first_is) is

    -- what it came to in each world
    came_so : (w : CodeWorld) (a : At) (new : CodeWorld) (came : Came) → w.shared ≡ c → a.slot ≡ slot → stack ≡ a.frame.state.stack
        → Does names own slot s d stack (record { shared = e; printed = bytes; came = came }) → Comes texts a w e came new
        → (at_stop names w a.slot s a.frame.state.stack ≡ None) × StopMade texts names a s w new bytes
    came_so w a new came there in' words does comes =
        let done : Done = record { shared = e; printed = bytes; came = came } in
        let last : Does names (last_text texts) slot s d stack done = does_last (words_of image) names own texts s same_fields slot d stack done does in
        let does_so : Does names (last_text texts) a.slot s d a.frame.state.stack done =
        subst (λ (ws : List ℕ). Does names (last_text texts) a.slot s d ws done) words
        (subst (λ (n : ℕ). Does names (last_text texts) n s d stack done) (sym in') last) in
        let fresh_so : Freshens texts names s a.frame.state.stack w.shared d =
        subst (λ (ws : List ℕ). Freshens texts names s ws w.shared d) words (subst (λ (q : Data). Freshens texts names s stack q d) (sym there) fresh) in
        let holders : d.holders ≡ w.shared.holders = same_holders texts names s stack c d fresh ∙ ap (λ (q : Data). q.holders) (sym there) in (
          ready (words_of image) names own texts s what resolves w a.slot a.frame.state.stack d done holders does_so,
          made (words_of image) names own texts s what resolves a w new d done fresh_so does_so comes,
        )

    -- it goes on
    pub performed_on : (mid : Frames) (new : Running) (h : ℕ) → mid.highest_stack ≡ r.frames.highest_stack → mid.frames.items ≡ r.frames.frames.items
        → ((i : ℕ) → i < stack_base r.frames → slice_index mid.words.items i ≡ slice_index r.frames.words.items i) → new.stand ≡ LiveStand
        → Does names own slot s d stack (record { shared = e; printed = bytes; came = shared.On (downward mid.words.items (stack_base r.frames) h) })
        → WentOn texts image (record r { frames = mid }) new x.point x.after h
        → Stopped texts names image slot x r new c e before after Goes
    performed_on mid new h high same elsewhere stand does w =
        let t = words_of image in
        let changed : StackChanged t r.frames mid = stack_changed t r.frames mid rests.fits.kept stood.some high same elsewhere in
        let st : List ℕ = stack_of mid (innermost mid).height in
        let head : w.frame ≡ with_stack st changed.frame = same_head w.frame (with_stack st changed.frame) w.below changed.below (sym w.before ∙ changed.after) in
        let rest : w.below ≡ changed.below = same_rest w.frame (with_stack st changed.frame) w.below changed.below (sym w.before ∙ changed.after) in
        let low : stack_base mid ≡ stack_base r.frames = ap (λ (fs : List Frame). low_of mid.highest_stack (length fs - 1)) same ∙ ap (λ (k : ℕ). low_of k (depth_of r.frames - 1)) high in
        let g : GoesOn texts (with_stack st changed.frame) x.after (downward mid.words.items (stack_base r.frames) h) x.point w.next =
        subst (λ (b : ℕ). GoesOn texts (with_stack st changed.frame) x.after (downward mid.words.items b h) x.point w.next) low
        (subst (λ (f : CodeFrame). GoesOn texts f x.after (stack_of mid h) x.point w.next) head w.goes) in
        let on : GoesOn texts changed.frame x.after (downward mid.words.items (stack_base r.frames) h) x.point w.next =
        record { function = g.function; version = g.version; stood = g.stood; runs = g.runs; ends = g.ends } in
        let a : At = at slot r x changed.frame changed.below in
        let words : stack ≡ changed.frame.state.stack = ap (λ (f : CodeFrame). f.state.stack) (sym (head_is t r.frames changed.frame changed.below stood.some changed.before)) in
        let thread = w.after ∙ ap (resting r w.next) rest in
        record {
          frame = changed.frame;
          below = changed.below;
          frames = changed.before;
          printed = bytes;
          output = printed;
          unchanged = tt;
          came = λ v there.
              came_so v a (settled Goes slot (slot_of image new) e v) (shared.On (downward mid.words.items (stack_base r.frames) h)) there refl words does
              (w.next, (on, continues image new slot e v (resting r changed.frame changed.below) w.next stand thread));
        }

    -- it traps
    pub performed_trap : (new : Running) (kind : TrapKind) → slot_of image new ≡ slot_of image r
        → Does names own slot s d stack (record { shared = e; printed = bytes; came = shared.Traps kind })
        → Stopped texts names image slot x r new c e before after (Ends (Trapped kind slot))
    performed_trap new kind same does = record {
      frame = first;
      below = others;
      frames = first_is;
      printed = bytes;
      output = printed;
      unchanged = same;
      came = λ v there.
          came_so v (at slot r x first others) (settled (Ends (Trapped kind slot)) slot (slot_of image new) e v) (shared.Traps kind) there refl refl does refl;
    }

    -- it waits
    pub performed_waits : (new : Running) (holder : ℕ) (name : Bytes) → slot_of image new ≡ slot_of image r → e ≡ d → bytes ≡ []
        → s ≡ Lock name → lock_answer (holder_of d.holders (number_of names.mutexes name)) slot ≡ LockWaits holder
        → Stopped texts names image slot x r new c e before after Stays
    performed_waits new holder name same kept none lock answer =
        let found = lock_waits name slot holder (holder_of d.holders (number_of names.mutexes name)) answer in
        let still : d ≡ c = kept_by_lock texts names name stack c d (subst (λ (q : Stop). Freshens texts names q stack c d) lock fresh) in
        record {
          frame = first;
          below = others;
          frames = first_is;
          printed = bytes;
          output = printed;
          unchanged = (same, kept ∙ still);
          came = λ v there. (
            none,
            inl (
              found.0,
              ap (λ (q : Stop). at_stop names v slot q first.state.stack) lock
                  ∙ ap (λ (q : Data). held_by name slot (holder_of q.holders (number_of names.mutexes name))) (there ∙ sym still) ∙ found.1,
            ),
          );
        }

-- what a stop did, by where its words are
pub does_so : (names : Names) (text : List BareDef) (slot : ℕ) (s : Stop) (d e : Data) (bytes ws vs xs ys : List ℕ) (low height base high h : ℕ)
    → ws ≡ xs → vs ≡ ys → low ≡ base → height ≡ high
    → Does names text slot s d (downward ws low height) (record { shared = e; printed = bytes; came = shared.On (downward vs low h) })
    → Does names text slot s d (downward xs base high) (record { shared = e; printed = bytes; came = shared.On (downward ys base h) })
does_so names text slot s d e bytes ws vs xs ys low height base high h same now there tall does =
    subst (λ (k : ℕ). Does names text slot s d (downward xs base k) (record { shared = e; printed = bytes; came = shared.On (downward ys base h) })) tall
    (subst (λ (b : ℕ). Does names text slot s d (downward xs b height) (record { shared = e; printed = bytes; came = shared.On (downward ys b h) })) there
    (subst (λ (l : List ℕ). Does names text slot s d (downward xs low height) (record { shared = e; printed = bytes; came = shared.On (downward l low h) })) now
    (subst (λ (l : List ℕ). Does names text slot s d (downward l low height) (record { shared = e; printed = bytes; came = shared.On (downward vs low h) })) same does)))

-- one that traps
pub traps_so : (names : Names) (text : List BareDef) (slot : ℕ) (s : Stop) (d e : Data) (bytes ws xs : List ℕ) (low height base high : ℕ) (kind : TrapKind)
    → ws ≡ xs → low ≡ base → height ≡ high
    → Does names text slot s d (downward ws low height) (record { shared = e; printed = bytes; came = shared.Traps kind })
    → Does names text slot s d (downward xs base high) (record { shared = e; printed = bytes; came = shared.Traps kind })
traps_so names text slot s d e bytes ws xs low height base high kind same there tall does =
    subst (λ (k : ℕ). Does names text slot s d (downward xs base k) (record { shared = e; printed = bytes; came = shared.Traps kind })) tall
    (subst (λ (b : ℕ). Does names text slot s d (downward xs b height) (record { shared = e; printed = bytes; came = shared.Traps kind })) there
    (subst (λ (l : List ℕ). Does names text slot s d (downward l low height) (record { shared = e; printed = bytes; came = shared.Traps kind })) same does))

-- the object was brought, by where the words are
pub fresh_so : (texts : List (List BareDef)) (names : Names) (s : Stop) (d e : Data) (ws xs : List ℕ) (low height base high : ℕ) → ws ≡ xs → low ≡ base → height ≡ high
    → Freshens texts names s (downward ws low height) d e → Freshens texts names s (downward xs base high) d e
fresh_so texts names s d e ws xs low height base high same there tall fresh =
    subst (λ (k : ℕ). Freshens texts names s (downward xs base k) d e) tall
    (subst (λ (b : ℕ). Freshens texts names s (downward xs b height) d e) there (subst (λ (l : List ℕ). Freshens texts names s (downward l low height) d e) same fresh))

-- the version in force is that of the last text
pub counted : (all : List (List BareDef)) (versions : List ℕ) (layouts : WordLayouts) (d : Data) → HasLayoutsOf all versions layouts d
    → d.version + 1 ≡ length (texts_by all versions)
counted all versions layouts d has =
    let one : d.version + 1 ≡ length versions = omega (arith, has.version) in one ∙ sym (length-map versions (λ n. slice_index_or all n []))

-- it takes no handle
pub may_fail_so : (t : Table) (what : SharedStop) (d e : Data) (printed : Vec ℕ Global) → e.objects.created ≡ d.objects.created → MayFail t what e printed
    → MayFail t what d printed
may_fail_so t (shared_stop.New tag) d e printed same fails = sym same ∙ fails
may_fail_so t (shared_stop.Print format count) d e printed same fails = fails
may_fail_so t _ d e printed same fails = absurd fails

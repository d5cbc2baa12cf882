-- Stops that change no other thread, but for those on what is shared: what they come to in each world.
use Rattle.std.proofs.Common.{◌≡◌, inr, ℕ, zero, suc, ◌-◌, ◌<◌, ◌≤◌, List, [], ◌∷◌, length, take, reverse, Option, Some, refl, sym, subst, ap, ◌∙◌, arith}
use Rattle.std.specs.Prelude.{unwrap_or}
use Rattle.std.proofs.lemmas.List.{append-nil}
use Rattle.c_ints.specs.declared.kind.Kind.TheVariants.{I32}
use Rattle.c_tree.specs.BareExpr.{Bytes}
use Rattle.c_tree.specs.BareDef.{BareDef}
use Rattle.c_semantics.specs.Stops.{Stop, Call, Return, Begin, End, Back, Update}
use Rattle.version_laws.specs.Histories.{text_in}
use Rattle.source_model.specs.Worlds.{Finish as FinishSeen, Finished as FinishedSeen}
use Rattle.resolved_tree.specs.Nodes.{Table}
use Rattle.local_evaluation.specs.Pieces.{stop_of}
use Rattle.bytecode.specs.Words.{number_at}
use Rattle.thread_state.specs.Frames.{downward}
use Rattle.code_runs.specs.CodeData.{Data, Names}
use Rattle.code_runs.specs.CodeThreads.{CodeEnter, CodeFrame, CodeSlot, CodeThread, CodeWorld, Live, Over, Enters as EntersSeen}
use Rattle.code_runs.specs.CodeMoves.{At, Closes, Continues, GoesOn, Returned, StopMade, called, ended, going, with_slot}
use Rattle.code_runs.specs.SharedStops.{One, goes}
use Rattle.code_runs.specs.Layouts.{uses_none}
use Rattle.word_frames.specs.declared.frames.Frames.{Frames}
use Rattle.word_frames.specs.Seen.{depth_of, frame_of, frames_below, frames_of, innermost, stack_base, stack_of}
use Rattle.word_frames.proofs.FrameLists.{innermost_first}
use Rattle.word_frames.specs.Changes as change
use Rattle.code_image.specs.declared.act.Act.{Act}
use Rattle.code_image.specs.declared.act.Act.TheVariants.{Call as CallAct, Return as ReturnAct, Begin as BeginAct, End as EndAct, Pass as PassAct}
use Rattle.code_image.specs.declared.act.StopPlace.{StopPlace}
use Rattle.code_image.specs.declared.image.CodeImage.{CodeImage}
use Rattle.code_image.specs.Acts.{Acts, named}
use Rattle.code_image.specs.Images.{names_in}
use Rattle.code_machine.specs.declared.running.Next.TheVariants.{Enters}
use Rattle.code_machine.specs.declared.running.Running.{Running}
use Rattle.code_machine.specs.declared.running.Stand.TheVariants.{Live as LiveStand, Over as OverStand}
use Rattle.code_machine.specs.declared.state.Finish.{Finish}
use Rattle.code_machine.specs.declared.stops.Outcome.{Outcome}
use Rattle.code_machine.specs.declared.stops.Outcome.TheVariants.{Goes, Stays, Ends}
use Rattle.code_machine.specs.Seen.{enter_of, finish_of, name_at, slot_by, slot_of, thread_of, words_of}
use Rattle.code_machine.specs.Stops.{RestsAt, Resumed, StopCame, Stopped, StoppedAlone, WentOn, at, resting, settled}
use Rattle.code_machine.specs.Versions.{RunsCode, texts_by}
use Rattle.code_machine.proofs.Acting.{acts_at}
use Rattle.code_machine.proofs.Resuming.{continues, depth_set, stood_there}
use Rattle.code_machine.proofs.Fitting.{head_is, same_head, same_rest}

-- ---- the stops that acts stand for
module _ (t : Table) (names : Names) (text : List BareDef) (function : ℕ → Option Bytes) where
  call_is : (s : Stop) (n count : ℕ) → Acts t names text function s (CallAct n count) → (name : Bytes) × ((s ≡ Call name count) × (function n ≡ Some name))
  call_is (Call name k) n count e = (name, (ap (Call name) (sym e.1), e.0))
  call_is _ n count e = absurd e

  return_is : (s : Stop) → Acts t names text function s ReturnAct → s ≡ Return
  return_is Return e = refl
  return_is _ e = absurd e

  begin_is : (s : Stop) → Acts t names text function s BeginAct → s ≡ Begin
  begin_is Begin e = refl
  begin_is _ e = absurd e

  end_is : (s : Stop) → Acts t names text function s EndAct → s ≡ End
  end_is End e = refl
  end_is _ e = absurd e

  pass_came : (s : Stop) → Acts t names text function s PassAct → (texts : List (List BareDef)) (a : At) (w new : CodeWorld)
      → Continues texts a a.thread a.frame.state.stack (record w { shared = w.shared }) new → StopCame texts names a s w Goes new []
  pass_came Back e texts a w new c = (refl, (w.shared, (uses_none refl, (goes w.shared a.frame.state.stack, (refl, (refl, c))))))
  pass_came Update e texts a w new c = (refl, (w.shared, (uses_none refl, (goes w.shared a.frame.state.stack, (refl, (refl, c))))))
  pass_came _ e texts a w new c = absurd e

module _ (all : List (List BareDef)) (versions : List ℕ) (image : CodeImage) (r : Running) (x : StopPlace) (code : RunsCode all versions image r)
    (rests : RestsAt image.functions.items (length image.callees.items) r x) where
  abbrev texts : List (List BareDef)
  texts = texts_by all versions

  abbrev names : Names
  names = names_in all

  -- its innermost frame, and those that wait
  abbrev first : CodeFrame
  first = frame_of (words_of image) r.frames.highest_stack r.frames.words.items (depth_of r.frames - 1) (innermost r.frames)

  abbrev others : List CodeFrame
  others = frames_below (words_of image) r.frames.highest_stack r.frames.words.items r.frames.frames.items (depth_of r.frames - 1)

  first_is : frames_of (words_of image) r.frames ≡ first ∷ others
  first_is =
      innermost_first (words_of image) r.frames.highest_stack r.frames.words.items r.frames.frames.items (depth_of r.frames)
      (stood_there image.functions.items (length image.callees.items) r x rests).some

  abbrev own : List BareDef
  own = text_in texts first.version

  abbrev function : ℕ → Option Bytes
  function = named (words_of image) image.callees.items

  abbrev stop : Stop
  stop = stop_of (words_of image) x.stop

  acts_so : (act : Act) → x.act ≡ act → Acts (words_of image) names own function stop act
  acts_so act e = subst (Acts (words_of image) names own function stop) e (acts_at all versions image r x code rests first others first_is)

  -- the same for a stop that it is
  came_by : (s : Stop) → stop ≡ s → (a : At) (w : CodeWorld) (outcome : Outcome) (new : CodeWorld) → StopCame texts names a s w outcome new []
      → StopCame texts names a stop w outcome new []
  came_by s e a w outcome new h = subst (λ (q : Stop). StopCame texts names a q w outcome new []) (sym e) h

  -- what is shared is the same
  in_each : (a : At) (slot : ℕ) (s : CodeSlot) (d : Data) (q : Stop) (outcome : Outcome)
      → ((w : CodeWorld) → StopCame texts names a q w outcome (settled outcome slot s w.shared w) [])
      → (w : CodeWorld) → w.shared ≡ d → StopCame texts names a q w outcome (settled outcome slot s d w) []
  in_each a slot s d q outcome h w same = subst (λ (e : Data). StopCame texts names a q w outcome (settled outcome slot s e w) []) same (h w)

  -- ---- a stop that does nothing
  pub passed : (new : Running) → x.act ≡ PassAct → new.stand ≡ LiveStand → Resumed texts image r new x → StoppedAlone texts names image x r new Goes
  passed new act stand w = λ slot d output. record {
    frame = w.frame;
    below = w.below;
    frames = w.before;
    printed = [];
    output = sym (append-nil output);
    unchanged = tt;
    came =
        in_each (at slot r x w.frame w.below) slot (slot_of image new) d stop Goes
        (λ v. pass_came (words_of image) names own function stop (acts_so PassAct act) texts
        (at slot r x w.frame w.below) v (settled Goes slot (slot_of image new) v.shared v)
        (w.next, (w.goes, continues image new slot v.shared v (resting r w.frame w.below) w.next stand w.after)));
  }

  -- ---- transactions
  pub begun : (m : Running) (k : ℕ) → x.act ≡ BeginAct → m.stand ≡ LiveStand → k ≡ suc r.depth → Resumed texts image r m x
      → StoppedAlone texts names image x r (record m { depth = k }) Goes
  begun m k act stand deeper w = λ slot d output.
      let new : Running = record m { depth = k } in
      let a : At = at slot r x w.frame w.below in
      let th : CodeThread = record (resting r w.frame w.below) { depth = suc r.depth } in
      let thread : thread_of image new ≡ going th w.next =
      depth_set image m k ∙ ap (λ (y : CodeThread). record y { depth = k }) w.after ∙ ap (λ (n : ℕ). record (resting r w.next w.below) { depth = n }) deeper in
      record {
        frame = w.frame;
        below = w.below;
        frames = w.before;
        printed = [];
        output = sym (append-nil output);
        unchanged = tt;
        came =
            in_each a slot (slot_of image new) d stop Goes
            (λ v. came_by Begin (begin_is (words_of image) names own function stop (acts_so BeginAct act)) a v Goes
            (settled Goes slot (slot_of image new) v.shared v)
            (refl, (refl, (w.next, (w.goes, continues image new slot v.shared v th w.next stand thread)))));
      }

  pub closed : (m : Running) (k : ℕ) → x.act ≡ EndAct → m.stand ≡ LiveStand → r.depth ≡ suc k → Resumed texts image r m x
      → StoppedAlone texts names image x r (record m { depth = k }) Goes
  closed m k act stand deep w = λ slot d output.
      let new : Running = record m { depth = k } in
      let a : At = at slot r x w.frame w.below in
      let th : CodeThread = record (resting r w.frame w.below) { depth = k } in
      let thread : thread_of image new ≡ going th w.next = depth_set image m k ∙ ap (λ (y : CodeThread). record y { depth = k }) w.after in
      record {
        frame = w.frame;
        below = w.below;
        frames = w.before;
        printed = [];
        output = sym (append-nil output);
        unchanged = tt;
        came =
            in_each a slot (slot_of image new) d stop Goes
            (λ v. came_by End (end_is (words_of image) names own function stop (acts_so EndAct act)) a v Goes
            (settled Goes slot (slot_of image new) v.shared v) (
              refl,
              (
                refl,
                subst (λ (n : ℕ). Closes texts a v n (settled Goes slot (slot_of image new) v.shared v)) (sym deep)
                    (w.next, (w.goes, continues image new slot v.shared v th w.next stand thread)),
              ),
            ));
      }

  pub stays_out : x.act ≡ EndAct → r.depth ≡ 0 → StoppedAlone texts names image x r r Stays
  stays_out act none = λ slot d output.
      record {
        frame = first;
        below = others;
        frames = first_is;
        printed = [];
        output = sym (append-nil output);
        unchanged = (refl, refl);
        came = λ v same. (refl, inr (end_is (words_of image) names own function stop (acts_so EndAct act), none));
      }

  -- ---- a call
  pub called_so : (mid : Frames) (version n count : ℕ) → x.act ≡ CallAct n count → version ≡ (innermost r.frames).version
      → change.Waits (words_of image) r.frames mid count x.point x.after
      → StoppedAlone texts names image x r (record r { frames = mid; next = Enters n count; version = version }) Goes
  called_so mid version n count act behalf w = λ slot d output.
      let new : Running = record r { frames = mid; next = Enters n count; version = version } in
      let a : At = at slot r x w.frame w.below in
      let made = call_is (words_of image) names own function stop n count (acts_so (CallAct n count) act) in
      let stood = stood_there image.functions.items (length image.callees.items) r x rests in
      let same : w.frame.version ≡ version = ap (λ (f : CodeFrame). f.version) (head_is (words_of image) r.frames w.frame w.below stood.some w.before) ∙ sym behalf in
      let name : name_at image n ≡ made.0 = ap (λ (o : Option Bytes). unwrap_or o []) made.1.1 in
      let enter : enter_of image new n count ≡ record { function = made.0; arguments = reverse (take count w.frame.state.stack); version = w.frame.version } =
      ap (λ (f : Bytes). record (enter_of image new n count) { function = f }) name
      ∙ ap (λ (vs : List ℕ). record { function = made.0; arguments = vs; version = version }) w.arguments
      ∙ ap (λ (v : ℕ). record { function = made.0; arguments = reverse (take count w.frame.state.stack); version = v }) (sym same) in
      let thread : thread_of image new ≡ called a made.0 count =
      ap (λ (fs : List CodeFrame). record { serial = r.serial; depth = r.depth; next = EntersSeen (enter_of image new n count); below = fs }) w.after
      ∙ ap (λ (e : CodeEnter). record { serial = r.serial; depth = r.depth; next = EntersSeen e; below = change.waiting count x.point x.after w.frame ∷ w.below }) enter in
      let now : slot_of image new ≡ Live (called a made.0 count) = ap (slot_by image new) rests.live ∙ ap Live thread in
      record {
        frame = w.frame;
        below = w.below;
        frames = w.before;
        printed = [];
        output = sym (append-nil output);
        unchanged = tt;
        came =
            in_each a slot (slot_of image new) d stop Goes
            (λ v. came_by (Call made.0 count) made.1.0 a v Goes (settled Goes slot (slot_of image new) v.shared v)
            (refl, (refl, ap (λ (s : CodeSlot). with_slot slot s v) now)));
      }

  -- ---- returns
  return_so : x.act ≡ ReturnAct → stop ≡ Return
  return_so act = return_is (words_of image) names own function stop (acts_so ReturnAct act)

  pub handed : (mid : Frames) (new : Running) → x.act ≡ ReturnAct → new.stand ≡ LiveStand → 0 < depth_of mid → change.Leaves (words_of image) r.frames mid
      → WentOn texts image (record r { frames = mid }) new (innermost mid).point (innermost mid).place (innermost mid).height
      → StoppedAlone texts names image x r new Goes
  handed mid new act stand some l w = λ slot d output.
      let a : At = at slot r x l.frame (l.next ∷ l.below) in
      let caller : CodeFrame = change.with_word l.word l.next in
      let head : w.frame ≡ caller = same_head w.frame caller w.below l.below (sym w.before ∙ l.after) in
      let rest : w.below ≡ l.below = same_rest w.frame caller w.below l.below (sym w.before ∙ l.after) in
      let seen : caller ≡ frame_of (words_of image) mid.highest_stack mid.words.items (depth_of mid - 1) (innermost mid) = sym head ∙ head_is (words_of image) mid w.frame w.below some w.before in
      let place : (innermost mid).place ≡ l.next.state.place = ap (λ (f : CodeFrame). f.state.place) (sym seen) in
      let stack : stack_of mid (innermost mid).height ≡ l.word ∷ l.next.state.stack = ap (λ (f : CodeFrame). f.state.stack) (sym seen) in
      let point : (innermost mid).point ≡ l.next.standing = ap (λ (f : CodeFrame). f.standing) (sym seen) in
      let g : GoesOn texts caller l.next.state.place (l.word ∷ l.next.state.stack) l.next.standing w.next =
      subst (λ (n : ℕ). GoesOn texts caller l.next.state.place (l.word ∷ l.next.state.stack) n w.next) point
      (subst (λ (st : List ℕ). GoesOn texts caller l.next.state.place st (innermost mid).point w.next) stack
      (subst (λ (p : ℕ). GoesOn texts caller p (stack_of mid (innermost mid).height) (innermost mid).point w.next) place
      (subst (λ (f : CodeFrame). GoesOn texts f (innermost mid).place (stack_of mid (innermost mid).height) (innermost mid).point w.next) head w.goes))) in
      let on : GoesOn texts l.next l.next.state.place (l.word ∷ l.next.state.stack) l.next.standing w.next =
      record { function = g.function; version = g.version; stood = g.stood; runs = g.runs; ends = g.ends } in
      let thread : thread_of image new ≡ resting r w.next l.below = w.after ∙ ap (resting r w.next) rest in
      let now : slot_of image new ≡ Live (resting r w.next l.below) = ap (slot_by image new) stand ∙ ap Live thread in
      record {
        frame = l.frame;
        below = l.next ∷ l.below;
        frames = l.before;
        printed = [];
        output = sym (append-nil output);
        unchanged = tt;
        came =
            in_each a slot (slot_of image new) d stop Goes
            (λ v. came_by Return (return_so act) a v Goes (settled Goes slot (slot_of image new) v.shared v) (
              refl,
              (
                refl,
                subst (λ (st : List ℕ). One st (λ n under. Returned texts a v n (l.next ∷ l.below) (settled Goes slot (slot_of image new) v.shared v))) (sym l.newest)
                    (w.next, (on, ap (λ (s : CodeSlot). with_slot slot s v) now)),
              ),
            ));
      }

  -- the only frame of a thread
  only : depth_of r.frames ≤ 1 → frames_of (words_of image) r.frames ≡ first ∷ []
  only few =
      let stood = stood_there image.functions.items (length image.callees.items) r x rests in
      let none : depth_of r.frames - 1 ≡ 0 = omega (arith, stood.some) in
      innermost_first (words_of image) r.frames.highest_stack r.frames.words.items r.frames.frames.items (depth_of r.frames) stood.some
      ∙ ap (λ (n : ℕ). first ∷ frames_below (words_of image) r.frames.highest_stack r.frames.words.items r.frames.frames.items n) none

  -- what a return from it comes to
  returned : (slot word : ℕ) (rest : List ℕ) (new : CodeWorld) (w : CodeWorld) → downward r.frames.words.items (stack_base r.frames) (innermost r.frames).height ≡ word ∷ rest
      → new ≡ ended w slot r.serial word
      → StopMade texts names (at slot r x first []) Return w new []
  returned slot word rest new w read is_ended =
      let a : At = at slot r x first [] in
      (refl, subst (λ (st : List ℕ). One st (λ n under. Returned texts a w n [] new)) (sym read) is_ended)

  pub finished : (f : Finish) (word : ℕ) (rest : List ℕ) (slot : ℕ) → x.act ≡ ReturnAct → depth_of r.frames ≤ 1 → slot ≡ 0
      → downward r.frames.words.items (stack_base r.frames) (innermost r.frames).height ≡ word ∷ rest → finish_of f ≡ FinishedSeen (number_at I32 word)
      → (d : Data) (output : List ℕ) → Stopped texts names image slot x r r d d output output (Ends f)
  finished f word rest slot act few main read number = λ d output.
      let a : At = at slot r x first [] in
      record {
        frame = first;
        below = [];
        frames = only few;
        printed = [];
        output = sym (append-nil output);
        unchanged = refl;
        came =
            in_each a slot (slot_of image r) d stop (Ends f)
            (λ v. came_by Return (return_so act) a v (Ends f) (settled (Ends f) slot (slot_of image r) v.shared v) (
              refl,
              returned slot word rest (settled (Ends f) slot (slot_of image r) v.shared v) v read
                  (ap (λ (q : FinishSeen). record v { finish = Some q }) number ∙ ap (λ (k : ℕ). ended v k r.serial word) (sym main)),
            ));
      }

  ended_other : (slot serial word : ℕ) (w : CodeWorld) → (slot ≡ 0 → ⊥) → with_slot slot (Over serial word) w ≡ ended w slot serial word
  ended_other zero serial word w other = absurd (other refl)
  ended_other (suc slot) serial word w other = refl

  pub ended_so : (word : ℕ) (rest : List ℕ) (slot : ℕ) → x.act ≡ ReturnAct → depth_of r.frames ≤ 1 → (slot ≡ 0 → ⊥)
      → downward r.frames.words.items (stack_base r.frames) (innermost r.frames).height ≡ word ∷ rest
      → (d : Data) (output : List ℕ) → Stopped texts names image slot x r (record r { stand = OverStand word }) d d output output Goes
  ended_so word rest slot act few other read = λ d output.
      let new : Running = record r { stand = OverStand word } in
      let a : At = at slot r x first [] in
      record {
        frame = first;
        below = [];
        frames = only few;
        printed = [];
        output = sym (append-nil output);
        unchanged = tt;
        came =
            in_each a slot (slot_of image new) d stop Goes
            (λ v. came_by Return (return_so act) a v Goes (settled Goes slot (slot_of image new) v.shared v)
            (refl, returned slot word rest (settled Goes slot (slot_of image new) v.shared v) v read (ended_other slot r.serial word v other)));
      }

-- What each step of a turn keeps.
use Rattle.std.proofs.Common.{◌≡◌, ℕ, zero, suc, ◌+◌, ◌≤◌, ◌<◌, true, List, [], ◌∷◌, ◌++◌, length, Option, None, All, sym, ◌∙◌, ap, subst, arith, length-append}
use Rattle.std.proofs.lemmas.List.{append_assoc, length-map}
use Rattle.std.proofs.lemmas.List.Elements.{All-append}
use Rattle.std.proofs.lemmas.List.Sums.{sum_by-append}
use Rattle.std.specs.Prelude.{◌-◌, cond}
use Rattle.dsu_runs.specs.declared.ran.StopCause.TheVariants.{Memory}
use mathlib.Core.List.{map-append}
use Rattle.dsu_io.specs.Causes.{Rose}
use Rattle.run_types.specs.declared.run.Event.{Event}
use Rattle.run_types.specs.declared.run.Event.TheVariants.{Move}
use Rattle.source_model.specs.Guards.{Guard, Setup}
use Rattle.source_model.specs.Schedules.{due, makes_move, move_count}
use Rattle.dsu_runs.specs.Engines.{Fails, Grew, Makes}
use Rattle.threaded_vm.specs.declared.notes.Noted.{Noted}
use Rattle.threaded_vm.specs.declared.notes.Course.TheVariants.{Going, Failing, Over}
use Rattle.threaded_vm.specs.Opened.{Comes, GoesOn, Opened}
use Rattle.threaded_vm.specs.Locked.{EndsHere, InCourse, IsMadeBy, Kept, Locked, NamesItsPass, Stands, event, events}
use Rattle.threaded_vm.specs.Turns.{Finds, Surely}
use Rattle.threaded_vm.proofs.Coming.{comes_more, comes_once}
use Rattle.threaded_vm.proofs.Rooms.{Happens, played_since, room_for_one}
use Rattle.threaded_vm.proofs.Ending.{ended_there}
use Rattle.dsu_runs.proofs.Happening.{any_are_rows, any_rules}
use Rattle.source_model.specs.JournalLaws.{SeatsAlwaysFit}
use Rattle.source_model.specs.Endings.{ending, ends, int_ending}
use Rattle.run_types.specs.declared.run.Ending.{Ending}

pub noted_by : ℕ → Event → Noted
noted_by pass e = record { pass = pass; event = e }

events_more : (noted : List Noted) (pass : ℕ) (e : Event) → events (noted ++ record { pass = pass; event = e } ∷ []) ≡ events noted ++ e ∷ []
events_more noted pass e = map-append event noted (record { pass = pass; event = e } ∷ [])

history_more : (before : List Event) (noted all : List Noted) (pass : ℕ) (e : Event) → all ≡ noted ++ record { pass = pass; event = e } ∷ []
    → before ++ events all ≡ (before ++ events noted) ++ e ∷ []
history_more before noted all pass e is =
    ap (λ l. before ++ events l) is ∙ ap (λ l. before ++ l) (events_more noted pass e) ∙ sym (append_assoc before (events noted) (e ∷ []))

moves_of : (a b : List Event) → move_count (a ++ b) ≡ move_count a + move_count b
moves_of a b = sum_by-append (λ e. cond (makes_move e) 1 0) a b

-- how many moves are left after an event
pub left_same : (n : ℕ) → n + 0 ≡ n
left_same n = omega arith

pub left_less : (n : ℕ) → 0 < n → (n - 1) + 1 ≡ n
left_less n some = omega (arith, some)

pub no_move : (n : ℕ) → 0 ≤ n
no_move n = omega arith

pub one_move : (n : ℕ) → 0 < n → 1 ≤ n
one_move n some = omega (arith, some)

rose_more : {a b c : ℕ} → a ≤ b → Rose b c → Rose a c
rose_more {a} {b} {c} h r = omega (arith, h, r)

module _ {E : Type 0} (is_at : Setup → Guard → E → Type 0) (told : E → Option (List ℕ)) (faults : E → ℕ) (o : Opened) where
  abbrev Invariant : Locked E → Type 0
  Invariant s = Kept is_at told faults o s

  -- a run that goes on stands at a guard
  pub stands : (s : Locked E) → Invariant s → s.course ≡ Going → (setup : Setup) (first : Guard) → o.at setup first
      → Stands is_at told faults setup first (o.history ++ events s.noted) o.faults o.told (move_count o.history + o.left) s.engine
  stands s kept going setup first at =
      subst (InCourse is_at told faults setup first (o.history ++ events s.noted) o.faults o.told (move_count o.history + o.left) s.engine)
      going (kept.course setup first at)

  -- the engine is at each guard to which the events come
  pub there : (s : Locked E) → Invariant s → s.course ≡ Going → (setup : Setup) (first g : Guard) → o.at setup first
      → Comes setup (o.history ++ events s.noted) g → is_at setup g s.engine
  there s kept going setup first g at comes =
      let now = stands s kept going setup first at in
      subst (λ x. is_at setup x s.engine) (comes_once setup (o.history ++ events s.noted) now.after g now.goes.comes comes) now.goes.there

  -- the same of a value that is seen so
  pub there_seen : (s v : Locked E) → Invariant s → s ≡ v → v.course ≡ Going → (setup : Setup) (first g : Guard) → o.at setup first
      → Comes setup (o.history ++ events v.noted) g → is_at setup g s.engine
  there_seen s v kept is going setup first g at comes =
      there s kept (ap (λ x. x.course) is ∙ going) setup first g at
      (subst (λ x. Comes setup (o.history ++ events x.noted) g) (sym is) comes)

  -- something holds of the guard of a run that goes on
  pub finds : (s v : Locked E) (P : Setup → Guard → Type 0) → Invariant s → s ≡ v → v.course ≡ Going
      → ((setup : Setup) (first g : Guard) → o.at setup first → Comes setup (o.history ++ events v.noted) g → is_at setup g s.engine → P setup g)
      → Finds o (events v.noted) P
  finds s v P kept is going holds setup first at =
      let now = stands s kept (ap (λ x. x.course) is ∙ going) setup first at in
      let comes = subst (λ x. Comes setup (o.history ++ events x.noted) now.after) is now.goes.comes in
      record { after = now.after; comes = comes; says = holds setup first now.after at comes now.goes.there }

  -- the run ends at its guard
  pub ends_here : (s : Locked E) (engine : E) (end : Ending) → Invariant s → s.course ≡ Going
      → ((setup : Setup) (g : Guard) → is_at setup g s.engine → is_at setup g engine) → told engine ≡ told s.engine
      → ((setup : Setup) (first g : Guard) → o.at setup first → Comes setup (o.history ++ events s.noted) g → is_at setup g engine
      → (end ≡ int_ending (ending g)) × (ends setup (move_count o.history + o.left) (o.history ++ events s.noted) g ≡ true))
      → (setup : Setup) (first : Guard) → o.at setup first
      → EndsHere is_at told faults setup first (o.history ++ events s.noted) o.faults o.told (move_count o.history + o.left) engine end
  ends_here s engine end kept going stays silent holds setup first at =
      let now = stands s kept going setup first at in
      let at_it = stays setup now.after now.goes.there in
      let is = holds setup first now.after at now.goes.comes at_it in
      record {
        after = now.after;
        goes = record { comes = now.goes.comes; there = at_it };
        grew = λ base told_is. silent ∙ now.grew base told_is;
        so = is.0;
        ends = ended_there setup (move_count o.history + o.left) (o.history ++ events s.noted) now.after is.1;
      }

  -- all moves were made
  pub used : (s : Locked E) → Invariant s → s.left ≡ 0 → move_count (o.history ++ events s.noted) ≡ move_count o.history + o.left
  used s kept none = let parts = moves_of o.history (events s.noted) in omega (arith, parts, kept.moves, none)

  -- so is the number of slots
  pub fits : (law : SeatsAlwaysFit) (setup : Setup) (history : List Event) (g : Guard) → Comes setup history g → length g.seats ≡ length g.world.slots
  fits law setup history g comes = (law any_rules setup history g (comes.legal any_rules any_are_rows)).count

  -- there is room for one event more
  pub has_room : (s : Locked E) (e : Event) → Invariant s → s.course ≡ Going → move_count (e ∷ []) ≤ s.left
      → ((setup : Setup) (first g : Guard) → o.at setup first → is_at setup g s.engine → Happens setup e g) → length s.noted < o.room
  has_room s e kept going some happens =
      let setup = kept.run.0 in
      let first = kept.run.1 in
      let now = stands s kept going setup first kept.run.2 in
      let h = happens setup first now.after kept.run.2 now.goes.there in
      let begun = kept.begun setup first kept.run.2 in
      let count = length-map s.noted event in
      let few =
      room_for_one setup (events s.noted) e first now.after o.left o.room
      (played_since setup o.history (events s.noted) first now.after begun.comes now.goes.comes) h (let m = kept.moves in omega (arith, m, some)) begun.room in
      omega (arith, count, few)

  module _ (s t : Locked E) (pass : ℕ) (e : Event) (kept : Invariant s) (going : s.course ≡ Going)
      (noted : t.noted ≡ s.noted ++ record { pass = pass; event = e } ∷ []) (by : IsMadeBy pass e)
      (counted : t.left + move_count (e ∷ []) ≡ s.left) (more : faults s.engine ≤ faults t.engine) where
    named : All NamesItsPass t.noted
    named =
        subst (All NamesItsPass) (sym noted)
        (All-append NamesItsPass s.noted (record { pass = pass; event = e } ∷ []) kept.named (one by))
      where
        one : NamesItsPass (record { pass = pass; event = e }) → All NamesItsPass (record { pass = pass; event = e } ∷ [])
        one h zero d l = h
        one h (suc k) d l = absurd (omega (arith, l))

    moves : move_count (events t.noted) + t.left ≡ o.left
    moves =
        let parts = ap (λ l. move_count (events l)) noted ∙ ap move_count (events_more s.noted pass e) ∙ moves_of (events s.noted) (e ∷ []) in
        omega (arith, parts, kept.moves, counted)

    few : ((setup : Setup) (first g : Guard) → o.at setup first → is_at setup g s.engine → Happens setup e g) → length t.noted ≤ o.room
    few happens =
        let n = ap length noted ∙ length-append s.noted (record { pass = pass; event = e } ∷ []) in
        let room = has_room s e kept going (omega (arith, counted)) happens in
        omega (arith, n, room)

    later : o.faults ≤ faults t.engine
    later = let before = kept.later in omega (arith, before, more)

    grown : (setup : Setup) (first g : Guard) → (m : Makes (λ x. is_at setup x t.engine) setup e g (told s.engine) (told t.engine))
        → GoesOn is_at setup g (o.history ++ events s.noted) s.engine → Grew first g o.told (told s.engine)
        → (makes_move e ≡ true → due setup g ≡ None)
        → Stands is_at told faults setup first (o.history ++ events t.noted) o.faults o.told (move_count o.history + o.left) t.engine
    grown setup first g m goes grew prompt = record {
      after = m.after;
      goes = record {
        comes = subst (λ l. Comes setup l m.after) (sym (history_more o.history s.noted t.noted pass e noted))
            (comes_more setup (o.history ++ events s.noted) e g m.after goes.comes m.happens prompt);
        there = m.there;
      };
      grew = λ base is. m.grew base (grew base is);
    }

    -- an event was made
    pub kept_more : t.course ≡ Going
        → ((setup : Setup) (first g : Guard) → o.at setup first → is_at setup g s.engine
        → Makes (λ x. is_at setup x t.engine) setup e g (told s.engine) (told t.engine))
        → (makes_move e ≡ true → Surely o (events s.noted) (λ setup g. due setup g ≡ None))
        → Invariant t
    kept_more goes made prompt = record {
      course = λ setup first at.
          let now = stands s kept going setup first at in
          subst
          (InCourse is_at told faults setup first (o.history ++ events t.noted) o.faults o.told (move_count o.history + o.left) t.engine)
          (sym goes)
          (grown setup first now.after (made setup first now.after at now.goes.there) now.goes now.grew
          (λ moves. prompt moves setup first now.after at now.goes.comes));
      run = kept.run;
      begun = kept.begun;
      named = named;
      moves = moves;
      later = later;
      few = few (λ setup first g at there. let m = made setup first g at there in record { after = m.after; made = m.happens });
    }

    -- a move was made, and not all that it printed could be written
    pub kept_broken : (slot : ℕ) → e ≡ Move slot → t.course ≡ Failing
        → ((setup : Setup) (g : Guard) → is_at setup g s.engine → Fails setup e g (told s.engine) (told t.engine))
        → Surely o (events s.noted) (λ setup g. due setup g ≡ None) → Rose (faults s.engine) (faults t.engine)
        → Invariant t
    kept_broken slot is fails made prompt rose = record {
      course = λ setup first at.
          let now = stands s kept going setup first at in
          let f = made setup now.after now.goes.there in
          let whole = history_more o.history s.noted t.noted pass e noted in
          subst
          (InCourse is_at told faults setup first (o.history ++ events t.noted) o.faults o.told (move_count o.history + o.left) t.engine)
          (sym fails)
          (record {
            after = f.after;
            comes = subst (λ l. Comes setup l f.after) (sym whole)
                (comes_more setup (o.history ++ events s.noted) e now.after f.after now.goes.comes f.happens
                (λ moves. prompt setup first now.after at now.goes.comes));
            failed = record {
              earlier = o.history ++ events s.noted;
              slot = slot;
              before = now.after;
              split = whole ∙ ap (λ x. (o.history ++ events s.noted) ++ x ∷ []) is;
              legal = now.goes.comes.legal;
              longer = f.longer;
              grew = λ base told_is. f.grew base (now.grew base told_is);
              rose = rose_more kept.later rose;
            };
          });
      run = kept.run;
      begun = kept.begun;
      named = named;
      moves = moves;
      later = later;
      few = few (λ setup first g at there. let m = made setup g there in record { after = m.after; made = m.happens });
    }

  module _ (s t : Locked E) (kept : Invariant s) (going : s.course ≡ Going)
      (noted : t.noted ≡ s.noted) (left : t.left ≡ s.left) (silent : told t.engine ≡ told s.engine) (more : faults s.engine ≤ faults t.engine) where
    same_few : length t.noted ≤ o.room
    same_few = let n = ap length noted in let f = kept.few in omega (arith, n, f)

    same_moves : move_count (events t.noted) + t.left ≡ o.left
    same_moves = let n = ap (λ l. move_count (events l)) noted in omega (arith, n, left, kept.moves)

    same_later : o.faults ≤ faults t.engine
    same_later = let before = kept.later in omega (arith, before, more)

    -- nothing changed in what the engine stands for
    pub kept_still : t.course ≡ Going
        → ((setup : Setup) (first g : Guard) → o.at setup first → is_at setup g s.engine → is_at setup g t.engine)
        → Invariant t
    kept_still goes stays = record {
      course = λ setup first at.
          let now = stands s kept going setup first at in
          subst
          (InCourse is_at told faults setup first (o.history ++ events t.noted) o.faults o.told (move_count o.history + o.left) t.engine)
          (sym goes)
          (record {
            after = now.after;
            goes = record {
              comes = subst (λ l. Comes setup (o.history ++ events l) now.after) (sym noted) now.goes.comes;
              there = stays setup first now.after at now.goes.there;
            };
            grew = λ base is. silent ∙ now.grew base is;
          });
      run = kept.run;
      begun = kept.begun;
      named = subst (All NamesItsPass) (sym noted) kept.named;
      moves = same_moves;
      later = same_later;
      few = same_few;
    }

    -- out of memory
    pub kept_lacks : (pass : ℕ) → t.course ≡ Over pass Memory → Invariant t
    kept_lacks pass over = record {
      course = λ setup first at.
          let now = stands s kept going setup first at in
          subst
          (InCourse is_at told faults setup first (o.history ++ events t.noted) o.faults o.told (move_count o.history + o.left) t.engine)
          (sym over)
          (record {
            after = now.after;
            comes = subst (λ l. Comes setup (o.history ++ events l) now.after) (sym noted) now.goes.comes;
            grew = λ base is. silent ∙ now.grew base is;
          });
      run = kept.run;
      begun = kept.begun;
      named = subst (All NamesItsPass) (sym noted) kept.named;
      moves = same_moves;
      later = same_later;
      few = same_few;
    }

-- Each stop of code is that of the source machine.
use Rattle.std.proofs.Common.{◌≡◌, ℕ, List, ◌++◌, length, length-set, Option, Some, None, refl, sym, ap, subst, ◌∙◌}
use Rattle.std.specs.Prelude.{slice_set}
use Rattle.run_types.specs.declared.trap.TrapKind.{TrapKind}
use Rattle.c_tree.specs.BareExpr.{Bytes}
use Rattle.c_tree.specs.BareDef.{BareDef}
use Rattle.c_semantics.specs.Values.{Value}
use Rattle.c_semantics.specs.Stops.{Stop, Spawn, Join, Call, Return, Begin, End}
use Rattle.source_model.specs.Worlds.{World, Live, Trapped, with_thread as with_source_thread}
use Rattle.source_model.specs.Waits.{at_stop}
use Rattle.source_model.specs.Moves.{Standing, gone_on, perform}
use Rattle.version_laws.specs.Histories.{last_text}
use Rattle.typed_trees.specs.PieceTypes.{Stack}
use Rattle.typed_runs.specs.TypedWorlds.{tags_of}
use Rattle.bytecode.specs.Words.{Naming}
use Rattle.code_runs.specs.CodeData.{Data, Names}
use Rattle.code_runs.specs.CodeThreads.{CodeFrame, CodeThread, CodeWorld}
use Rattle.code_runs.specs.SharedStops.{Came, Does, Done, On as GoesTo, Traps}
use Rattle.code_runs.specs.Layouts.{Freshens}
use Rattle.code_runs.specs.CodeMoves.{At as CodeAt, Closes, Comes, StopMade}
use Rattle.code_run_laws.specs.ThreadMatches.{SlotsMatch}
use Rattle.code_run_laws.specs.WorldMatches.{WorldMatches}
use Rattle.code_run_laws.proofs.SharedAlike.{ComesAlike, GoesAlike, IsSameNow, SharedStopsAlike, TrapsAlike}
use Rattle.code_run_laws.proofs.MoreNames.{by_tags}
use Rattle.code_run_laws.proofs.FramesStill.{slots_still}
use Rattle.code_run_laws.proofs.Between.{Between, ended, told_apart}
use Rattle.code_run_laws.proofs.ThreadAtStop.{AtStop, KnownLaws, MadeAlike, On, Running, at, goes_alike, here, silent, still_there, typed_stop}
use Rattle.code_run_laws.proofs.StopsOfThreads.{call_alike, join_alike, spawn_alike}
use Rattle.code_run_laws.proofs.ReturnsAlike.{begin_alike, end_alike, return_alike}

module _ (laws : KnownLaws) (shared : SharedStopsAlike) (texts : List (List BareDef)) (names : Names) (s : Standing) (own : CodeWorld)
    (r : Running texts names s.world own) (th : CodeThread) (f : CodeFrame) (after : ℕ) where
  abbrev tags : List Bytes
  tags = tags_of s.world.objects

  abbrev naming : Naming
  naming = r.matches.naming

  abbrev own_at : CodeAt
  own_at = at laws texts names s own r th f after

  abbrev start : Between texts names s.world naming s.world own
  start = here laws texts names s own r th f after

  abbrev Ready : Stop → List Value → Type 0
  Ready = AtStop laws texts names s own r th f after

  abbrev Alike : Option World → CodeWorld → List ℕ → Type 0
  Alike = MadeAlike texts names s.world

  module _ (x : Stop) (values : List Value) (h : Ready x values) (new : CodeWorld) (printed : List ℕ) where
    abbrev Then : Stack → Type 0
    Then = On laws texts names s own r th f after x values h

    -- ---- a stop that changes no other thread

    module _ (d : Done) (says : printed ≡ d.printed) where
      -- where the frame goes on
      abbrev amid : (stack : List ℕ) (g : GoesAlike texts names s naming Then x values d stack)
          → Between texts names s.world naming g.world (record own { shared = d.shared })
      amid stack g = record {
        names_now = g.naming_after;
        threads_named = λ t. g.more.threads t ∙ r.matches.threads_named t;
        objects = g.objects_after;
        shared = g.shared;
        count = r.matches.count ∙ sym (ap length g.slots);
        slots =
            subst (λ ss. SlotsMatch texts (tags_of g.world.objects) g.naming_after ss own.slots) (sym g.slots)
            (slots_still tags (tags_of g.world.objects) naming g.naming_after g.grows
            (by_tags s.world.objects naming g.naming_after g.more) texts s.world.slots own.slots (r.matches.slots r.going));
        threads = r.matches.threads ∙ sym g.threads;
        finish = r.matches.finish ∙ sym g.finish;
        used_well = g.misused ∙ r.matches.used_well;
        grows = g.grows;
        more = by_tags s.world.objects naming g.naming_after g.more;
      }

      -- where it traps
      abbrev aside : (kind : TrapKind) (g : TrapsAlike texts names s naming Then x values d kind)
          → Between texts names s.world naming s.world (record own { shared = d.shared })
      aside kind g = record {
        names_now = naming;
        threads_named = r.matches.threads_named;
        objects = g.objects_after;
        shared = g.shared;
        count = r.matches.count;
        slots = r.matches.slots r.going;
        threads = r.matches.threads;
        finish = r.matches.finish;
        used_well = r.matches.used_well;
        grows = start.grows;
        more = start.more;
      }

      abbrev trap_world : TrapKind → World
      trap_world kind = record (with_source_thread s.slot (gone_on s s.frame.values) s.world) { finish = Some (Trapped kind s.slot) }

      came_alike : (c : Came) → ComesAlike texts names s naming Then x values d c → Comes texts own_at own d.shared c new
          → Alike (perform x s values) new printed
      came_alike (GoesTo stack) g goes =
          subst (λ o. Alike o new printed) (sym g.performs)
          (goes_alike laws texts names s own r th f after x values h g.world (record own { shared = d.shared }) (amid stack g) g.types_after
          g.values_after stack printed new (g.output ∙ ap (λ p. s.world.output ++ p) (sym says)) g.goes g.have g.ranged g.words goes)
      came_alike (Traps kind) g is =
          subst (λ o. Alike o new printed) (sym g.performs)
          (record {
            after = trap_world kind;
            is = refl;
            output = silent s.world.output printed (says ∙ g.silent);
            matches =
                subst (WorldMatches texts names (trap_world kind)) (sym is)
                (ended texts names s.world naming s.world (record own { shared = d.shared }) (aside kind g) (Trapped kind s.slot)
                (slice_set s.world.slots s.slot (Live (gone_on s s.frame.values)))
                (length-set s.world.slots s.slot (Live (gone_on s s.frame.values)))
                (still_there laws texts names s own r th f after x values h s.frame.values));
          })

    shared_alike : IsSameNow texts s x → at_stop x s.world s.slot values ≡ None
        → (fresh : Data) × (Freshens texts names x f.state.stack own.shared fresh
        × ((d : Done) × (Does names (last_text texts) s.slot x fresh f.state.stack d
        × ((printed ≡ d.printed) × Comes texts own_at own d.shared d.came new))))
        → Alike (perform x s values) new printed
    shared_alike same waits made =
        let does = made.1.1 in
        came_alike does.0 does.1.1.0 does.0.came
        (shared texts names s naming r.matches.objects own.shared made.0 x values h.matches.stack Then f.state.stack does.0
        (record {
          of = r.of;
          holds = r.holds;
          world = r.typed;
          runs = r.going;
          known = h.known;
          env = h.matches.env;
          scopes_have = h.matches.scopes_have;
          below = h.below_typed;
          entering = h.entering;
        }) r.numbered (told_apart laws.apart texts names naming r.matches.objects s.world own.shared r.matches.threads_named r.matches.shared)
        r.matches.shared (typed_stop laws texts names s own r th f after x values h)
        h.matches.values_have h.matches.ranged h.matches.words same waits made.1.0 does.1.0)
        does.1.1.1

  -- ---- each stop

  pub stop_alike : (x : Stop) (values : List Value) (h : Ready x values) (new : CodeWorld) (printed : List ℕ) → IsSameNow texts s x
      → at_stop x s.world s.slot values ≡ None → StopMade texts names own_at x own new printed → Alike (perform x s values) new printed
  stop_alike (Spawn name) values h new printed same waits made =
      spawn_alike laws texts names s own r th f after (Spawn name) values h new printed made.0 name
      (typed_stop laws texts names s own r th f after (Spawn name) values h) made.1
  stop_alike Join values h new printed same waits made =
      join_alike laws texts names s own r th f after Join values h new printed made.0
      (typed_stop laws texts names s own r th f after Join values h) made.1
  stop_alike (Call name n) values h new printed same waits made =
      let t = typed_stop laws texts names s own r th f after (Call name n) values h in
      call_alike laws texts names s own r th f after (Call name n) values h new printed made.0 name n t.0 t.1 t.2 made.1
  stop_alike Return values h new printed same waits made =
      return_alike laws texts names s own r th f after Return values h new printed made.0
      (typed_stop laws texts names s own r th f after Return values h) made.1
  stop_alike Begin values h new printed same waits made =
      begin_alike laws texts names s own r th f after Begin values h new printed made.0 s.thread.depth refl
      (typed_stop laws texts names s own r th f after Begin values h) made.1
  stop_alike End values h new printed same waits made =
      end_alike laws texts names s own r th f after End values h new printed made.0 s.thread.depth
      (typed_stop laws texts names s own r th f after End values h) (subst (λ d. Closes texts own_at own d new) h.depth made.1)
  stop_alike x values h new printed same waits made = shared_alike x values h new printed same waits made

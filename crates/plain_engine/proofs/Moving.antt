-- Moves and check-ins.
use Rattle.std.proofs.Common.{◌≡◌, ℕ, Bool, true, false, List, [], ◌∷◌, ◌++◌, map, length, slice_get, Option, Some, None, refl, sym, ◌∙◌, ap, subst}
use Rattle.std.specs.Prelude.{IfOk, Ok, Result as Outcome, ◌||◌, option_map, if◌then◌else◌}
use Rattle.std.specs.declared.alloc.AllocError.{AllocError}
use Rattle.std.proofs.lemmas.Bool.{false≢true}
use Rattle.run_types.specs.declared.run.Event.TheVariants.{Move}
use Rattle.c_tree.specs.BareDef.{BareDef}
use Rattle.c_semantics.specs.SourceTexts.{Text, text_of}
use Rattle.source_model.specs.Worlds.{World, Limits, in_slot, is_over}
use Rattle.source_model.specs.Moves.{move}
use Rattle.source_model.specs.Runs.{SourceMove, source_run}
use Rattle.source_model.specs.Runs as source
use Rattle.source_model.specs.Guards.{Guard, Rules, Setup, bodies_of, has_ended, move_leads, moved, seat_of}
use Rattle.source_model.specs.JournalLaws.{texts_of}
use Rattle.source_model.specs.Journals.{happens}
use Rattle.source_model.proofs.Moved.{Keeps, move_keeps, of_outcome}
use Rattle.run_machine.specs.declared.machine.Moved.{Moved}
use Rattle.run_machine.specs.Machines.{KeepsTexts, MovedBy, NeedsHold, Shown}
use Rattle.effects.specs.Rows.{AreRows}
use Rattle.version_laws.specs.Histories.{versions_by}
use Rattle.source_runner.specs.SourceRuns.{world_after}
use Rattle.source_runner.proofs.AfterMoves.{moved_versions, then_move}
use Rattle.dsu_runs.proofs.Books.{same_offers}
use Rattle.plain_engine.specs.declared.seat.Seat.{Seat}
use Rattle.plain_engine.specs.Kept.{AreAfter, IsSeat, NoneNew}
use Rattle.plain_engine.specs.Needs.{IsReached}
use Rattle.plain_engine.specs.Plain.{AreSeats, IsRunAt, IsStateAt, ShownState}
use Rattle.plain_engine.specs.Steps.{MovesTo, Stayed}
use Rattle.plain_engine.proofs.Reaching.{needed_there, still_meets, then_reached}
use Rattle.plain_engine.proofs.SlotsAfter.{goes_on, mover, none_new, slots_after}
use Rattle.plain_engine.proofs.Standing.{Gives, given, gives}

-- a move is made where the run goes on and the thread is at no check-in, and only there
goes : (a b : Bool) (g : Guard) (slot : ℕ) (o : Option World) (w : World) → a ≡ false → b ≡ false → o ≡ Some w
    → (if a || b then None else option_map (moved g slot) o) ≡ Some (moved g slot w)
goes a b g slot o w going at made =
    ap (λ x. if x || b then None else option_map (moved g slot) o) going
    ∙ ap (λ x. if x then None else option_map (moved g slot) o) at
    ∙ ap (option_map (moved g slot)) made

stays_at : (a b : Bool) (o : Option Guard) → (a ≡ false → b ≡ true) → (if a || b then None else o) ≡ None
stays_at true b o at = refl
stays_at false true o at = refl
stays_at false false o at = absurd (false≢true (at refl))

no_move : (b : Bool) (o : Option World) (g : Guard) (slot : ℕ) → o ≡ None
    → (if b then None else option_map (moved g slot) o) ≡ None
no_move true o g slot none = refl
no_move false o g slot none = ap (option_map (moved g slot)) none

-- what a step came to
pub stepped : (texts : List (List BareDef)) (limits : Limits) (moves : List SourceMove) (slot : ℕ) (new : Shown)
    (r : Outcome Moved AllocError) (m : Moved) → r ≡ Ok m → IfOk r (MovedBy texts limits moves slot new)
    → MovedBy texts limits moves slot new m
stepped texts limits moves slot new r m is steps = subst (λ x. IfOk x (MovedBy texts limits moves slot new)) is steps

-- ---- a run that has the same texts

pub same_seats : (g : Guard) (old new : Shown) (seats : List Seat) → new.words ≡ old.words → AreSeats g old seats
    → AreSeats g new seats
same_seats g old new seats words are = record {
  many = are.many;
  each = λ going n kept own at_kept at_own.
      subst (λ t. IsSeat t (bodies_of g) (length g.versions) (is_over g.world) (in_slot g.world n) kept own) (sym words)
      (are.each going n kept own at_kept at_own);
}

pub same_state : (setup : Setup) (g : Guard) (s : ShownState) (new : Shown) → IsStateAt setup g s → KeepsTexts s.run new
    → IsRunAt setup g new → IsStateAt setup g (record s { run = new })
same_state setup g s new at keeps run = record {
  run = run;
  seats = same_seats g s.run new s.seats keeps.1 at.seats;
  versions = record {
    installed = at.versions.installed;
    before = at.versions.before;
    tree = at.versions.tree;
    numbered = ap (λ ts. slice_get ts s.last) keeps.0 ∙ at.versions.numbered;
    last_is = at.versions.last_is;
    rows = at.versions.rows;
  };
  book = at.book;
  reached = at.reached;
  meets = still_meets setup s.run new keeps.2 at.meets;
}

-- a run that made no move
pub unmoved : (setup : Setup) (g : Guard) (s : ShownState) (at : IsStateAt setup g s) (new : Shown) → KeepsTexts s.run new
    → new.is_run (texts_of setup) setup.limits at.run.moves → IsStateAt setup g (record s { run = new })
unmoved setup g s at new keeps r = same_state setup g s new at keeps (record {
  moves = at.run.moves;
  run = r;
  world = at.run.world;
  trees = ap (map text_of) keeps.0 ∙ at.run.trees;
  versions = at.run.versions;
})

module _ (setup : Setup) (g : Guard) (s : ShownState) (at : IsStateAt setup g s) where
  -- nothing happens where the thread is at a check-in
  pub refused_at : (slot : ℕ) → (has_ended g ≡ false → (seat_of g slot).at_check_in ≡ true) → Stayed setup (Move slot) g s
  refused_at slot e = record {
    never = λ rules rows. stays_at (has_ended g) (seat_of g slot).at_check_in (option_map (moved g slot) (move g.world slot)) e;
    stays = at;
  }

  -- or where it can't move
  pub refused : (new : Shown) (slot : ℕ) → KeepsTexts s.run new → new.is_run (texts_of setup) setup.limits at.run.moves
      → world_after (texts_of setup) setup.limits (at.run.moves ++ source.Move slot ∷ []) ≡ None
      → Stayed setup (Move slot) g (record s { run = new })
  refused new slot keeps r none = record {
    never = λ rules rows.
        no_move (has_ended g || (seat_of g slot).at_check_in) (move g.world slot) g slot
        (sym (then_move (texts_of setup) setup.limits at.run.moves slot g.world at.run.world) ∙ none);
    stays = unmoved setup g s at new keeps r;
  }

  -- a move of a thread that is at no check-in is an event
  module _ (slot : ℕ) (none_at : has_ended g ≡ false → (seat_of g slot).at_check_in ≡ false) (w : World)
      (ran : world_after (texts_of setup) setup.limits (at.run.moves ++ source.Move slot ∷ []) ≡ Some w) where
    to : move g.world slot ≡ Some w
    to = sym (then_move (texts_of setup) setup.limits at.run.moves slot g.world at.run.world) ∙ ran

    mine : (is_over g.world ≡ false) × (source.is_live (in_slot g.world slot) ≡ true)
    mine = mover g.world w slot to

    happens_so : (rules : Rules) → AreRows rules.row → happens rules setup (Move slot) g ≡ Some (moved g slot w)
    happens_so rules rows =
        goes (has_ended g) (seat_of g slot).at_check_in g slot (move g.world slot) w (goes_on g.world mine.0)
        (none_at (goes_on g.world mine.0)) to

    reached_so : IsReached setup (moved g slot w)
    reached_so = then_reached setup (Move slot) g (moved g slot w) at.reached happens_so

    versions_so : versions_by (texts_of setup) (at.run.moves ++ source.Move slot ∷ []) ≡ map (λ (t : Text). t.definitions) g.versions
    versions_so = moved_versions (texts_of setup) at.run.moves slot ∙ at.run.versions

  -- so the machine has what it needs to make it
  pub move_needs : (slot : ℕ) → (has_ended g ≡ false → (seat_of g slot).at_check_in ≡ false)
      → NeedsHold s.run (texts_of setup) setup.limits (at.run.moves ++ source.Move slot ∷ [])
  move_needs slot none_at = λ w ran.
      needed_there setup (moved g slot w) s.run (at.run.moves ++ source.Move slot ∷ []) at.meets (reached_so slot none_at w ran) ran
      (versions_so slot none_at w ran)

  module _ (new : Shown) (slot : ℕ) (leads : Bool) (keeps_texts : KeepsTexts s.run new)
      (none_at : has_ended g ≡ false → (seat_of g slot).at_check_in ≡ false)
      (r : new.is_run (texts_of setup) setup.limits (at.run.moves ++ source.Move slot ∷ [])) (w : World)
      (ran : world_after (texts_of setup) setup.limits (at.run.moves ++ source.Move slot ∷ []) ≡ Some w)
      (led : Gives (λ x. is_over x.world) setup at.run.moves false
      → Gives (λ x. move_leads (in_slot x.world slot)) setup at.run.moves leads) where
    goes_to : move g.world slot ≡ Some w
    goes_to = to slot none_at w ran

    keeps : Keeps slot g.world w
    keeps = of_outcome (Keeps slot g.world) (move g.world slot) w goes_to (move_keeps g.world slot)

    leads_is : move_leads (in_slot g.world slot) ≡ leads
    leads_is =
        gives (λ x. move_leads (in_slot x.world slot)) setup at.run.moves g.world leads at.run.world
        (led (ap (λ o. option_map (λ x. is_over x.world) (option_map source.result o)) at.run.world ∙ ap Some (mine slot none_at w ran).0))

    pub made : (later : List Seat) → AreAfter new.words w slot leads s.seats later
        → MovesTo setup (Move slot) g (record s { run = new; seats = later }) true
    made later after = (
      keeps.grows.0,
      record {
        after = moved g slot w;
        happens = happens_so slot none_at w ran;
        there = record {
          run = record {
            moves = at.run.moves ++ source.Move slot ∷ [];
            run = r;
            world = ran;
            trees = ap (map text_of) keeps_texts.0 ∙ at.run.trees;
            versions = versions_so slot none_at w ran;
          };
          seats = slots_after g slot w s.run new s.seats later leads at.seats goes_to leads_is keeps_texts.1 after;
          versions = record {
            installed = at.versions.installed;
            before = at.versions.before;
            tree = at.versions.tree;
            numbered = ap (λ ts. slice_get ts s.last) keeps_texts.0 ∙ at.versions.numbered;
            last_is = at.versions.last_is;
            rows = at.versions.rows;
          };
          book = same_offers setup g (moved g slot w) s.installed.names s.book refl refl refl refl at.book;
          reached = reached_so slot none_at w ran;
          meets = still_meets setup s.run new keeps_texts.2 at.meets;
        };
        grew = keeps.grows.1;
      },
    )

    -- the same of a move that started no thread
    pub made_alone : length s.seats ≡ 16
        → option_map (λ x. x.world.threads) (source_run (texts_of setup) setup.limits (at.run.moves ++ source.Move slot ∷ []))
        ≡ option_map (λ x. x.world.threads) (source_run (texts_of setup) setup.limits at.run.moves)
        → (later : List Seat) → (NoneNew w slot s.seats → AreAfter new.words w slot leads s.seats later)
        → MovesTo setup (Move slot) g (record s { run = new; seats = later }) true
    made_alone many same later follows =
        made later
        (follows (none_new g slot w s.run s.seats at.seats many goes_to
        (gives (λ x. x.world.threads) setup (at.run.moves ++ source.Move slot ∷ []) w g.world.threads ran
        (same ∙ given setup g s.run at.run (λ x. x.world.threads) g.world.threads refl))))

-- The install of an admitted patch.
use Rattle.std.proofs.Common.{◌≡◌, ℕ, zero, suc, ◌+◌, ◌<◌, Bool, true, false, List, [], ◌∷◌, ◌++◌, All, map, length, slice_get, slice_index_or, Option, Some, None, refl, sym, ◌∙◌, ap, subst, arith}
use Rattle.std.specs.Prelude.{◌||◌, nat_le, option_map, if◌then◌else◌}
use Rattle.std.specs.Option.{option_or}
use Rattle.std.proofs.lemmas.Bool.Decides.{nat_tests}
use Rattle.std.proofs.lemmas.Bool.{true≢false}
use Rattle.std.proofs.lemmas.List.{append-nil, length-append, map-append}
use Rattle.std.proofs.lemmas.List.Elements.{All-weaker}
use Rattle.std.proofs.lemmas.Option.{get_or_from_slice_get, none-some, same_Some}
use Rattle.run_types.specs.declared.run.Event.TheVariants.{Decide}
use Rattle.c_tree.specs.Bare.{bare_def}
use Rattle.c_tree.specs.BareDef.{BareDef}
use Rattle.c_tree.specs.declared.def.Program.{Program}
use Rattle.c_semantics.specs.Changes.{changed}
use Rattle.c_semantics.specs.SourceTexts.{Text, text_of}
use Rattle.c_semantics.specs.Store.{Body, body_of, brought_bodies, store}
use Rattle.con_freeness.specs.Rows.{Names}
use Rattle.source_model.specs.Answers.{Installed}
use Rattle.source_model.specs.Guards.{Guard, Offer, Rules, Setup, answered, bodies_of, decide, has_ended, installed_over, is_open, offer_at, pinned_from, pinned_seat}
use Rattle.source_model.specs.Guards as guard
use Rattle.source_model.specs.Installs.{installed}
use Rattle.source_model.specs.JournalLaws.{texts_of}
use Rattle.source_model.specs.Journals.{happens}
use Rattle.source_model.specs.Patches.{all_names, cause_if, last_definitions}
use Rattle.source_model.specs.declared.patch.NotPatch.{NotPatch}
use Rattle.source_model.specs.declared.patch.NotPatch.TheVariants.{Versions as Limit}
use Rattle.source_model.specs.Runs.{SourceMove, install, is_live}
use Rattle.source_model.specs.Runs as source
use Rattle.source_model.specs.Worlds.{World, Slot, Free, Live, Over, alive_in, in_slot, is_over}
use Rattle.version_laws.specs.Histories.{last_text, text_in, versions_by}
use Rattle.resolved_tree.specs.Nodes.{Table}
use Rattle.rows_in_force.proofs.LaterBodies.{mark_stays}
use Rattle.patch_build.proofs.Stores.{all_kept, generation_if_new, last_definitions_are, store_of_more}
use Rattle.patch_build.specs.Versions.{AreVersions, IsTableOf}
use Rattle.code_store.specs.Limits.{are_too_many}
use Rattle.code_store.specs.Stored.{IsStoreOf, meant_body}
use Rattle.c_tree.specs.BareExpr.{Bytes}
use Rattle.patch_build.specs.declared.patch.Patch.{Patch}
use Rattle.run_machine.specs.Machines.{KeepsTexts, NeedsHold, Shown}
use Rattle.source_runner.specs.SourceRuns.{world_after}
use Rattle.source_runner.proofs.AfterMoves.{installed_versions, then_install}
use Rattle.type_transformers.specs.Changes.{IsChange, changing, name_of}
use Rattle.installed_versions.specs.Installed.{HasItsRows, IsInstalled}
use Rattle.installed_versions.specs.declared.installed.Installed.{Installed as Versions}
use Rattle.offer_decision.specs.declared.answer.Decision.TheVariants as decision
use Rattle.offer_decision.specs.Decided.{IsDecision}
use Rattle.offer_decision.specs.Patches.{IsPatchFor}
use Rattle.offer_decision.proofs.Decided.{admission_is_decided}
use Rattle.dsu_runs.specs.Books.{IsBook}
use Rattle.effects.specs.Rows.{AreRows}
use Rattle.dsu_runs.proofs.Books.{more_names, same_offers}
use Rattle.dsu_runs.proofs.Happening.{any_are_rows, any_rules}
use Rattle.plain_engine.specs.declared.seat.Kept.{Kept}
use Rattle.plain_engine.specs.declared.seat.Kept.TheVariants.{Empty, Started, Passed}
use Rattle.plain_engine.specs.declared.seat.Seat.{Seat}
use Rattle.plain_engine.specs.Kept.{ArePinned, IsOfVersion, is_there, mark_of}
use Rattle.plain_engine.specs.Needs.{IsReached}
use Rattle.plain_engine.specs.Plain.{AreSeats, IsStateAt, ShownState}
use Rattle.plain_engine.specs.Steps.{Happened, IsDecided, IsFollowed, Stayed}
use Rattle.plain_engine.proofs.Moving.{unmoved}
use Rattle.plain_engine.proofs.Reaching.{needed_there, still_meets, then_reached}
use Rattle.plain_engine.proofs.SlotsAfter.{alive_is, from_zero}
use Rattle.plain_engine.proofs.Deciding.{decides_none, decides_one, not_over, offer_is, says, text_is, within_for}

-- ---- marks over the bodies of one version more

brought_are_later : (n : ℕ) (p : List BareDef) (q : Text) → All (λ b. n < b.generation) (brought_bodies (suc n) p q)
brought_are_later n p q =
    All-weaker (λ b. b.generation ≡ suc n) (λ b. n < b.generation) (λ b e. let same = e in omega (arith, same)) (brought_bodies (suc n) p q)
    (all_kept (body_of (suc n) p q) (λ b. b.generation ≡ suc n) q.definitions (generation_if_new (suc n) p q))

marks_stay : (t : Table) (bodies more : List Body) (count : ℕ) (kept : Kept) → IsOfVersion count kept
    → All (λ b. count < b.generation) more → mark_of t (bodies ++ more) kept ≡ mark_of t bodies kept
marks_stay t bodies more count Empty early later = refl
marks_stay t bodies more count (Started function) early later = refl
marks_stay t bodies more count (Passed None) early later = refl
marks_stay t bodies more count (Passed (Some f)) early later =
    ap Some
    (mark_stays bodies more _ f.version f.point
    (All-weaker (λ b. count < b.generation) (λ b. f.version < b.generation) (λ b l. omega (arith, early, l)) more later))

marks_of_more : (t : Table) (versions : List Text) (q : Text) (kept : Kept) → IsOfVersion (length versions) kept
    → mark_of t (store (versions ++ q ∷ [])) kept ≡ mark_of t (store versions) kept
marks_of_more t versions q kept early =
    ap (λ bodies. mark_of t bodies kept) (store_of_more versions q)
    ∙ marks_stay t (store versions) (brought_bodies (suc (length versions)) (last_definitions versions) q) (length versions) kept early
    (brought_are_later (length versions) (last_definitions versions) q)

more_versions : (count : ℕ) (kept : Kept) → IsOfVersion count kept → IsOfVersion (suc count) kept
more_versions count Empty early = tt
more_versions count (Started function) early = tt
more_versions count (Passed None) early = tt
more_versions count (Passed (Some f)) early = omega (arith, early)

-- ---- pins

abbrev with_pins : List Bool → List guard.Seat → List guard.Seat
with_pins pins [] = []
with_pins [] (s ∷ ss) = []
with_pins (p ∷ pins) (s ∷ ss) = record s { pinned = p } ∷ with_pins pins ss

pins_are_set : (rules : Rules) (bodies : List Body) (names : Names) (w : World) (n : ℕ) (ss : List guard.Seat) (pins : List Bool)
    → map (λ (s : guard.Seat). s.pinned) (pinned_from rules bodies names w n ss) ≡ pins
    → pinned_from rules bodies names w n ss ≡ with_pins pins ss
pins_are_set rules bodies names w n ss pins e =
    own n ss ∙ ap (λ ps. with_pins ps ss) e
  where
    own : (n : ℕ) (ss : List guard.Seat)
        → pinned_from rules bodies names w n ss
        ≡ with_pins (map (λ (s : guard.Seat). s.pinned) (pinned_from rules bodies names w n ss)) ss
    own n [] = refl
    own n (s ∷ ss) = ap (λ rest. pinned_seat rules bodies names (alive_in w n) s ∷ rest) (own (suc n) ss)

length_pinned : (rules : Rules) (bodies : List Body) (names : Names) (w : World) (n : ℕ) (ss : List guard.Seat)
    → length (pinned_from rules bodies names w n ss) ≡ length ss
length_pinned rules bodies names w n [] = refl
length_pinned rules bodies names w n (s ∷ ss) = ap suc (length_pinned rules bodies names w (suc n) ss)

pinned_from_at : (rules : Rules) (bodies : List Body) (names : Names) (w : World) (m : ℕ) (ss : List guard.Seat) (i n : ℕ) (now : guard.Seat)
    → m + i ≡ n → slice_get (pinned_from rules bodies names w m ss) i ≡ Some now
    → (own : guard.Seat) × (slice_get ss i ≡ Some own) × (now ≡ pinned_seat rules bodies names (alive_in w n) own)
pinned_from_at rules bodies names w m [] i n now e at = absurd (none-some now at)
pinned_from_at rules bodies names w m (s ∷ ss) zero n now e at =
    (s, refl, sym (same_Some _ now at) ∙ ap (λ k. pinned_seat rules bodies names (alive_in w k) s) same)
  where
    same : m ≡ n
    same = omega (arith, e)
pinned_from_at rules bodies names w m (s ∷ ss) (suc i) n now e at =
    pinned_from_at rules bodies names w (suc m) ss i n now (omega (arith, e)) at

-- an install pins no slot without a live thread
dead_unpinned : (rules : Rules) (bodies : List Body) (names : Names) (alive : Slot) (s : guard.Seat) → is_live alive ≡ false → s.pinned ≡ false
    → (pinned_seat rules bodies names alive s).pinned ≡ false
dead_unpinned rules bodies names (Live th) s dead e = absurd (true≢false dead)
dead_unpinned rules bodies names Free s dead e = ap (λ b. b || false) e
dead_unpinned rules bodies names (Over serial result) s dead e = ap (λ b. b || false) e

pinned_at : (pins : List Bool) (ss : List guard.Seat) (n : ℕ) (now : guard.Seat) → slice_get (with_pins pins ss) n ≡ Some now
    → (own : guard.Seat) × (slice_get ss n ≡ Some own) × (now.mark ≡ own.mark) × (now.at_check_in ≡ own.at_check_in)
    × (slice_get pins n ≡ Some now.pinned)
pinned_at pins [] n now e = absurd (none-some now e)
pinned_at [] (s ∷ ss) n now e = absurd (none-some now e)
pinned_at (p ∷ pins) (s ∷ ss) zero now e =
    let same : record s { pinned = p } ≡ now = same_Some (record s { pinned = p }) now e in (
      s,
      refl,
      sym (ap (λ (x : guard.Seat). x.mark) same),
      sym (ap (λ (x : guard.Seat). x.at_check_in) same),
      ap (λ (x : guard.Seat). Some x.pinned) same,
    )
pinned_at (p ∷ pins) (s ∷ ss) (suc n) now e = pinned_at pins ss n now e

-- ---- texts

last_of : (texts : List Text) (q : Text)
    → last_text (map (λ (t : Text). t.definitions) (texts ++ q ∷ [])) ≡ q.definitions
last_of texts q =
    ap last_text (map-append (λ (t : Text). t.definitions) texts (q ∷ [])) ∙ at_end (map (λ (t : Text). t.definitions) texts)
  where
    at_end : (xs : List (List BareDef)) → last_text (xs ++ q.definitions ∷ []) ≡ q.definitions
    at_end xs =
        ap (text_in (xs ++ q.definitions ∷ [])) (length-append xs (q.definitions ∷ []) ∙ one (length xs)) ∙ here xs
      where
        one : (n : ℕ) → n + 1 ≡ suc n
        one n = omega arith

        here : (xs : List (List BareDef)) → slice_index_or (xs ++ q.definitions ∷ []) (length xs) [] ≡ q.definitions
        here [] = refl
        here (x ∷ xs) = here xs

same_last : (before other : List Text) (p q : Text) → before ++ p ∷ [] ≡ other ++ q ∷ [] → p.definitions ≡ q.definitions
same_last before other p q e =
    sym (last_definitions_are before p) ∙ ap last_definitions e ∙ last_definitions_are other q

-- an install of a text that is there
installs : (w after : World) (q : List BareDef) → is_over w ≡ false → install w (Some q) ≡ Some after → installed q w ≡ after
installs w after q on e =
    same_Some (installed q w) after (ap (λ b. if b then None else Some (installed q w)) (sym on) ∙ e)

-- where the limit is no cause, there are fewer versions
few_versions : (n : ℕ) (rest : Option NotPatch) (b : Bool) → nat_le 64 n ≡ b → option_or (cause_if b Limit) rest ≡ None → n < 64
few_versions n rest true e none = absurd (none-some Limit (sym none))
few_versions n rest false e none = grind (arith, nat_tests, e)

module _ (setup : Setup) (g : Guard) (k : ℕ) (s : ShownState) (at : IsStateAt setup g s) (going : has_ended g ≡ false)
    (right : g.world.misused ≡ false) (offered : is_open g k ≡ true) (some : 0 < k) (patch : Patch) (pins : List Bool)
    (is : IsDecided s k (decision.Admitted patch pins)) where
  on : is_over g.world ≡ false
  on = not_over g going right

  said : (rules : Rules) → AreRows rules.row → IsDecision rules g.versions g.seats is.versions is.next is.seats (decision.Admitted patch pins)
  said rules rows = says setup g k s at going right offered some (decision.Admitted patch pins) is rules rows

  pub patch_for : IsPatchFor g.versions is.versions is.next patch
  patch_for = (said any_rules any_are_rows).2

  -- it has room
  pub few : s.installed.count < 64
  few =
      subst (λ n. n < 64) at.versions.installed.count_is
      (few_versions (length g.versions) _ (nat_le 64 (length g.versions)) refl (said any_rules any_are_rows).0)

  pub roomy : (names : List Bytes)
      → are_too_many (map (meant_body names) s.installed.store ++ map (meant_body names) patch.bodies.items) ≡ false
  roomy names =
      subst (λ bodies. are_too_many (map (meant_body names) bodies ++ map (meant_body names) patch.bodies.items) ≡ false)
      is.at.same.bodies_are (patch_for.room names)

  -- what the machine and the versions are given
  pub store_is : IsStoreOf patch.names (store (g.versions ++ text_of is.next ∷ [])) (s.installed.store ++ patch.bodies.items)
  store_is =
      subst (λ bodies. IsStoreOf patch.names (store (g.versions ++ text_of is.next ∷ [])) (bodies ++ patch.bodies.items)) is.at.same.bodies_are
      patch_for.store

  pub names_are : IsTableOf (all_names (g.versions ++ text_of is.next ∷ [])) patch.names
  names_are = patch_for.names

  -- the versions that the decision saw are those of the guard, so its last text is theirs
  old_is : map bare_def is.versions.last.now.definitions ≡ last_text (versions_by (texts_of setup) at.run.moves)
  old_is =
      same_last seen.before seen.before (text_of is.versions.last.now) (text_of is.versions.last.now) refl
      ∙ sym (last_of seen.before (text_of is.versions.last.now))
      ∙ ap (λ ts. last_text (map (λ (t : Text). t.definitions) ts)) (sym seen.last_is)
      ∙ ap last_text (sym at.run.versions)
    where
      seen : AreVersions g.versions is.versions
      seen = is.at.are g.versions at.versions.before at.versions.installed
          (at.versions.last_is
          ∙ ap (λ (p : Program). at.versions.before ++ text_of p ∷ [])
          (same_Some at.versions.tree is.at.last (sym at.versions.numbered ∙ is.at.last_at)))

  new_is : (text_of is.next).definitions ≡ slice_index_or (texts_of setup) k []
  new_is = sym (get_or_from_slice_get (texts_of setup) k (text_of is.next).definitions [] (text_is setup g s.run k is.next at.run is.at.next_at))

  pub changing_is : map name_of patch.transforms.items
      ≡ changing (last_text (versions_by (texts_of setup) at.run.moves)) (slice_index_or (texts_of setup) k [])
  changing_is =
      patch_for.changing
      ∙ ap (λ p. changing p (map bare_def is.next.definitions)) old_is
      ∙ ap (changing (last_text (versions_by (texts_of setup) at.run.moves))) new_is

  pub transforms_are : All (IsChange (last_text (versions_by (texts_of setup) at.run.moves)) (slice_index_or (texts_of setup) k []))
      patch.transforms.items
  transforms_are =
      subst (λ p. All (IsChange p (slice_index_or (texts_of setup) k [])) patch.transforms.items) old_is
      (subst (λ q. All (IsChange (map bare_def is.versions.last.now.definitions) q) patch.transforms.items) new_is patch_for.transforms)

  decided : (rules : Rules) → AreRows rules.row
      → decide rules g k (offer_at setup k)
      ≡ option_map (installed_over rules g k (text_of is.next) (changed (last_definitions g.versions) (text_of is.next).definitions))
      (install g.world (Some (text_of is.next).definitions))
  decided rules rows =
      let o = offer_is setup g s.run k is.next at.run some is.at.next_at in
      ap (decide rules g k) o.1
      ∙ admission_is_decided rules g k o.0 is.versions is.next is.seats patch pins (said rules rows)

  came : (new_world : Option World) → world_after (texts_of setup) setup.limits (at.run.moves ++ source.Install k ∷ []) ≡ new_world
      → install g.world (Some (text_of is.next).definitions) ≡ new_world
  came new_world e =
      sym (then_install (texts_of setup) setup.limits at.run.moves k g.world at.run.world
      ∙ ap (install g.world) (text_is setup g s.run k is.next at.run is.at.next_at))
      ∙ e

  -- where the machine can't take it
  pub cannot : (new : Shown) → KeepsTexts s.run new → new.is_run (texts_of setup) setup.limits at.run.moves
      → world_after (texts_of setup) setup.limits (at.run.moves ++ source.Install k ∷ []) ≡ None
      → Stayed setup (Decide k) g (record s { run = new })
  cannot new keeps r none = record {
    never = λ rules rows.
        decides_none (has_ended g) (is_open g k) (decide rules g k (offer_at setup k))
        (λ _ _. decided rules rows
        ∙ ap (option_map (installed_over rules g k (text_of is.next) (changed (last_definitions g.versions) (text_of is.next).definitions)))
        (came None none));
    stays = unmoved setup g s at new keeps r;
  }

  -- where the source machine takes it, the install is the decision on the offer
  module _ (w : World) (ran : world_after (texts_of setup) setup.limits (at.run.moves ++ source.Install k ∷ []) ≡ Some w) where
    abbrev pub after : Guard
    after = answered k (Installed (suc (length g.versions))) (record g {
      world = w;
      seats = with_pins pins g.seats;
      versions = g.versions ++ text_of is.next ∷ [];
    })

    took : install g.world (Some (text_of is.next).definitions) ≡ Some w
    took = came (Some w) ran

    world_is : installed (text_of is.next).definitions g.world ≡ w
    world_is = installs g.world w (text_of is.next).definitions on took

    pins_set : (rules : Rules) → AreRows rules.row
        → pinned_from rules (bodies_of g) (changed (last_definitions g.versions) (text_of is.next).definitions) g.world 0 g.seats
        ≡ with_pins pins g.seats
    pins_set rules rows =
        pins_are_set rules (bodies_of g) (changed (last_definitions g.versions) (text_of is.next).definitions) g.world 0 g.seats pins
        ((said rules rows).1.pins_are g.world (within_for g is.seats going (is.within setup g at.run)))

    happens_so : (rules : Rules) → AreRows rules.row → happens rules setup (Decide k) g ≡ Some after
    happens_so rules rows =
        decides_one (has_ended g) (is_open g k) (decide rules g k (offer_at setup k)) going offered
        ∙ decided rules rows
        ∙ ap (option_map (installed_over rules g k (text_of is.next) (changed (last_definitions g.versions) (text_of is.next).definitions))) took
        ∙ ap (λ ss. Some (answered k (Installed (suc (length g.versions))) (record g {
          world = w;
          seats = ss;
          versions = g.versions ++ text_of is.next ∷ [];
        }))) (pins_set rules rows)

    reached_so : IsReached setup after
    reached_so = then_reached setup (Decide k) g after at.reached happens_so

    versions_so : versions_by (texts_of setup) (at.run.moves ++ source.Install k ∷ [])
        ≡ map (λ (x : Text). x.definitions) (g.versions ++ text_of is.next ∷ [])
    versions_so =
        installed_versions (texts_of setup) at.run.moves k
        ∙ ap (λ ts. ts ++ slice_index_or (texts_of setup) k [] ∷ []) at.run.versions
        ∙ ap (λ t. map (λ (x : Text). x.definitions) g.versions ++ t ∷ []) (sym new_is)
        ∙ sym (map-append (λ (x : Text). x.definitions) g.versions (text_of is.next ∷ []))

    slots_stay : (n : ℕ) → in_slot w n ≡ in_slot g.world n
    slots_stay n = ap (λ w. in_slot w n) (sym world_is)

    over_stays : is_over w ≡ is_over g.world
    over_stays = ap is_over (sym world_is)

  -- so the machine has what it needs to take it
  pub install_needs : NeedsHold s.run (texts_of setup) setup.limits (at.run.moves ++ source.Install k ∷ [])
  install_needs = λ w ran.
      needed_there setup (after w ran) s.run (at.run.moves ++ source.Install k ∷ []) at.meets (reached_so w ran) ran (versions_so w ran)

  module _ (new : Shown) (i : Versions) (keeps : KeepsTexts s.run new)
      (r : new.is_run (texts_of setup) setup.limits (at.run.moves ++ source.Install k ∷ [])) (w : World)
      (ran : world_after (texts_of setup) setup.limits (at.run.moves ++ source.Install k ∷ []) ≡ Some w)
      (brought : IsInstalled (g.versions ++ text_of is.next ∷ []) i.count i.names i.store) (named : i.names ≡ patch.names)
      (fresh : HasItsRows i) where
    seats_are : (later : List Seat) → ArePinned pins s.seats later → AreSeats (after w ran) new later
    seats_are later pinned = record {
      many = ap length (sym (pins_set w ran any_rules any_are_rows))
          ∙ length_pinned any_rules (bodies_of g) (changed (last_definitions g.versions) (text_of is.next).definitions) g.world 0 g.seats
          ∙ at.seats.many;
      each = λ still n kept own at_kept at_own.
          let was = pinned n kept at_kept in
          let old = pinned_at pins g.seats n own at_own in
          let base = at.seats.each going n was.0 old.0 was.1 old.1 in
          record {
            at_check_in = old.3 ∙ base.at_check_in ∙ sym was.3;
            pinned = same_Some own.pinned kept.pinned (sym old.4 ∙ was.4);
            there = ap is_there was.2 ∙ base.there ∙ ap is_live (sym (slots_stay w ran n));
            lives = λ e. ap is_live (slots_stay w ran n) ∙ base.lives (sym was.3 ∙ e);
            idle = λ none.
                let from =
                pinned_from_at any_rules (bodies_of g) (changed (last_definitions g.versions) (text_of is.next).definitions) g.world 0 g.seats n n own (from_zero n)
                (ap (λ ss. slice_get ss n) (pins_set w ran any_rules any_are_rows) ∙ at_own) in
                let there_not = ap is_there (sym was.2) ∙ none in
                sym (same_Some own.pinned kept.pinned (sym old.4 ∙ was.4))
                ∙ ap (λ (x : guard.Seat). x.pinned) from.2
                ∙ dead_unpinned any_rules (bodies_of g) (changed (last_definitions g.versions) (text_of is.next).definitions) (alive_in g.world n) from.0
                (ap is_live (alive_is g.world n going) ∙ sym base.there ∙ there_not)
                (ap (λ (x : guard.Seat). x.pinned) (same_Some from.0 old.0 (sym from.1 ∙ old.1)) ∙ base.pinned ∙ base.idle there_not);
            mark = λ _.
                old.2 ∙ base.mark on
                ∙ sym (marks_of_more s.run.words g.versions (text_of is.next) was.0.kept (base.version on))
                ∙ ap (mark_of s.run.words (store (g.versions ++ text_of is.next ∷ []))) (sym was.2)
                ∙ ap (λ t. mark_of t (store (g.versions ++ text_of is.next ∷ [])) kept.kept) (sym keeps.1);
            version = λ _.
                subst (λ n. IsOfVersion n kept.kept) (sym (length-append g.versions (text_of is.next ∷ []) ∙ one (length g.versions)))
                (subst (IsOfVersion (suc (length g.versions))) (sym was.2) (more_versions (length g.versions) was.0.kept (base.version on)));
          };
    }
      where
        one : (n : ℕ) → n + 1 ≡ suc n
        one n = omega arith

    book_is : IsBook setup g i.names s.book
    book_is =
        subst (λ names. IsBook setup g names s.book) (sym (named ∙ patch_for.ids.is ∙ ap (λ ns. ns ++ patch_for.ids.more) is.at.same.names_are))
        (more_names setup g s.installed.names patch_for.ids.more s.book at.book)

    pub followed : IsFollowed setup g k pins (record s { run = new; installed = i }) (after w ran)
    followed = record {
      run = record {
        moves = at.run.moves ++ source.Install k ∷ [];
        run = r;
        world = ran;
        trees = ap (map text_of) keeps.0 ∙ at.run.trees;
        versions = versions_so w ran;
      };
      installed = brought;
      rows = fresh;
      tree = is.next;
      numbered = ap (λ ts. slice_get ts k) keeps.0 ∙ is.at.next_at;
      versions = refl;
      seats = seats_are;
      offered = offered;
      book = book_is;
      closed = λ book b.
          same_offers setup (answered k (Installed i.count) g) (after w ran) i.names book refl refl refl
          (ap (λ n. g.answers ++ record { offer = k; answer = Installed n } ∷ [])
          (sym (length-append g.versions (text_of is.next ∷ []) ∙ one (length g.versions)) ∙ brought.count_is))
          b;
      reached = reached_so w ran;
      meets = still_meets setup s.run new keeps.2 at.meets;
    }
      where
        one : (n : ℕ) → n + 1 ≡ suc n
        one n = omega arith

    pub installs_so : (there : ShownState) → IsStateAt setup (after w ran) there → Happened setup (Decide k) g there []
    installs_so there is_there = record {
      after = after w ran;
      happens = happens_so w ran;
      there = is_there;
      grew = ap (λ (w : World). w.output) (sym (world_is w ran)) ∙ sym (append-nil g.world.output);
    }

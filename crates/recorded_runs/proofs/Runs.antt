-- One move more of a recorded run.
use Rattle.std.proofs.Common.{Bor, Err, ◌≡◌, ℕ, zero, suc, ◌<◌, ◌≤◌, Bool, true, false, List, [], ◌∷◌, ◌++◌, map, length, Option, Some, None, Ok, All, refl, sym, ap, subst, ◌∙◌, arith}
use Rattle.std.specs.Prelude.{◌&&◌, ◌==◌, not, OnErr, option_copied, option_map, replicate, ◌-◌, slice_get, slice_index_or, if◌then◌else◌}
use Rattle.std.specs.declared.result.Result as outcome
use Rattle.std.specs.Option.{is_some}
use Rattle.std.proofs.lemmas.Bool.Decides.{nat_tests}
use Rattle.std.proofs.lemmas.List.{append-nil, length-replicate}
use Rattle.std.proofs.lemmas.Option.{slice_get-get_or, slice_get-map, slice_get_within}
use Rattle.std.proofs.lemmas.List.Elements.{All-map}
use Rattle.c_tree.specs.BareDef.{BareDef}
use Rattle.c_tree.specs.declared.def.Program.{Program as Tree}
use Rattle.c_semantics.specs.Threads.{Record}
use Rattle.source_model.specs.Versions.{Table, current, next_table}
use Rattle.source_model.specs.Worlds.{World, Free, first_world, Slot, Closed, Limits, in_slot, is_over}
use Rattle.source_model.specs.Moves.{move}
use Rattle.source_model.specs.Guards.{in_transaction}
use Rattle.source_model.specs.Runs.{SourceMove, Move, Install, Result, install, is_live, open_of, result, source_run}
use Rattle.source_model.specs.Installs.{installed}
use Rattle.source_model.specs.JournalLaws.{HasMain}
use Rattle.source_model.proofs.Moved.{Keeps, move_keeps, of_outcome}
use Rattle.version_laws.specs.Histories.{last_text, versions_by}
use Rattle.source_programs.specs.declared.programs.Programs.{Programs}
use Rattle.source_programs.specs.declared.ready.Ready.{Ready}
use Rattle.source_programs.specs.Programs.{texts_of, text_in, text_of, trees_of as trees}
use Rattle.source_runner.specs.declared.run.SourceMove.{SourceMove as Code}
use Rattle.source_runner.specs.declared.run.SourceMove.TheVariants as code
use Rattle.source_runner.specs.declared.run.SourceRun.{SourceRun}
use Rattle.source_runner.specs.SourceRuns.{IsRun, trees_of, world_after}
use Rattle.source_runner.proofs.AfterMoves.{installed_versions, moved_versions, then_install, then_move}
use Rattle.version_laws.proofs.TableHistories.{last_is_next}
use Rattle.version_spans.specs.declared.began.Began.{Began}
use Rattle.version_spans.specs.Beginnings.{IsTableOf}
use Rattle.version_spans.specs.SpanLaws.{TablesOfRuns}
use Rattle.version_spans.specs.Kept.{AreBeginnings}
use Rattle.recorded_runs.specs.declared.records.Records.{Records}
use Rattle.recorded_runs.specs.declared.records.Stand.{Stand}
use Rattle.recorded_runs.specs.declared.records.Stand.TheVariants.{Inside, Outside, Gone}
use Rattle.recorded_runs.specs.declared.run.RecordedRun.{RecordedRun}
use Rattle.recorded_runs.specs.MoveRecords.{RecordsMoved, RecordsStay, closed_by, is_outside, open_by, use_made, with_uses}
use Rattle.recorded_runs.specs.RecordedRuns.{AreClosed, AreKept, AreRecords, IsOpen, IsRecorded, changed_at, has_left, is_inside, open_in, stand_in}
use Rattle.recorded_runs.proofs.MovedRecords.{mover_goes, mover_lives, within}
use Rattle.recorded_runs.proofs.KeptRecords.{other_number, same_number}

some_is : {A : Type 0} (x y : A) → Some x ≡ Some y → x ≡ y
some_is x y e = cc

-- what a run gives is what its world gives
pub given : {A : Type 0} (of : Result → A) (texts : List (List BareDef)) (limits : Limits) (ms : List SourceMove) (r : SourceRun)
    → (h : IsRun texts limits ms r) → option_map of (source_run texts limits ms) ≡ Some (of (result h.world))
given of texts limits ms r h = ap (λ o. option_map of (option_map result o)) h.ran

-- what is answered of it
pub answered : {A : Type 0} (of : Result → A) (texts : List (List BareDef)) (limits : Limits) (ms : List SourceMove) (r : SourceRun)
    → (h : IsRun texts limits ms r) (x : A) → option_map of (source_run texts limits ms) ≡ Some x → of (result h.world) ≡ x
answered of texts limits ms r h x e = some_is _ _ (sym (given of texts limits ms r h) ∙ e)

-- a run comes to one world
pub same_world : (texts : List (List BareDef)) (limits : Limits) (ms : List SourceMove) (a b : SourceRun)
    → (h : IsRun texts limits ms a) (g : IsRun texts limits ms b) → h.world ≡ g.world
same_world texts limits ms a b h g = some_is _ _ (sym h.ran ∙ g.ran)

-- ---- where a thread is

module _ (texts : List (List BareDef)) (limits : Limits) (ms : List SourceMove) (r : SourceRun) (slot : ℕ) (h : IsRun texts limits ms r) where
  pub stands_as : (inside live : Bool) (stand : Stand)
      → option_map (λ x. in_transaction (in_slot x.world slot)) (source_run texts limits ms) ≡ Some inside
      → option_map (λ x. is_live (in_slot x.world slot)) (source_run texts limits ms) ≡ Some live
      → (if inside then Inside else (if live then Outside else Gone)) ≡ stand
      → option_map (λ x. stand_in (in_slot x.world slot)) (source_run texts limits ms) ≡ Some stand
  stands_as inside live stand in_one lives is =
      given (λ x. stand_in (in_slot x.world slot)) texts limits ms r h
      ∙ ap Some
      (ap (λ b. if b then Inside else (if is_live (in_slot h.world slot) then Outside else Gone))
      (answered (λ x. in_transaction (in_slot x.world slot)) texts limits ms r h inside in_one)
      ∙ ap (λ b. if inside then Inside else (if b then Outside else Gone))
      (answered (λ x. is_live (in_slot x.world slot)) texts limits ms r h live lives)
      ∙ is)

  -- whatever lives there
  pub stands_inside : option_map (λ x. in_transaction (in_slot x.world slot)) (source_run texts limits ms) ≡ Some true
      → option_map (λ x. stand_in (in_slot x.world slot)) (source_run texts limits ms) ≡ Some Inside
  stands_inside in_one =
      stands_as true (is_live (in_slot h.world slot)) Inside in_one (given (λ x. is_live (in_slot x.world slot)) texts limits ms r h) refl

inside_is : (s : Slot) → is_inside (stand_in s) ≡ in_transaction s
inside_is s = by (in_transaction s) (is_live s)
  where
    by : (a b : Bool) → is_inside (if a then Inside else (if b then Outside else Gone)) ≡ a
    by true b = refl
    by false true = refl
    by false false = refl

left_is : (s : Slot) → has_left (stand_in s) ≡ is_outside s
left_is s = by (in_transaction s) (is_live s)
  where
    by : (a b : Bool) → has_left (if a then Inside else (if b then Outside else Gone)) ≡ (b && not a)
    by true true = refl
    by true false = refl
    by false true = refl
    by false false = refl

-- ---- the records of a world after a move

-- the records of another world that are the same ones
pub carried : (w after : World) (r : Records) (slots : ℕ → Option Record) (closed : List Closed) → after.table ≡ w.table
    → ((k : ℕ) → open_in after k ≡ slots k) → after.closed ≡ closed → AreKept w.table slots closed r → AreKept after.table (open_in after) after.closed r
carried w after r slots closed table each same kept =
    subst (λ t. AreKept t (open_in after) after.closed r) (sym table)
    (record {
      of_slots = λ k. subst (λ o. IsOpen w.table (slice_index_or r.of_slots.items k None) o) (sym (each k)) (kept.of_slots k);
      closed_ones = subst (λ c. AreClosed w.table r.closed.items c) (sym same) kept.closed_ones;
    })

-- where the move misused a definition
pub stayed : (w after : World) (r : Records) (t : ℕ) → move w t ≡ Some after → RecordsStay w after → AreRecords w r → AreRecords after r
stayed w after r t moved stay are = record {
  count = are.count ∙ sym keeps.count;
  kept = carried w after r (open_in w) w.closed keeps.same_table stay.each stay.closed are.kept;
}
  where
    keeps : Keeps t w after
    keeps = of_outcome (Keeps t w) (move w t) after moved (move_keeps w t)

-- a slot's own record
itself : (t : ℕ) → (t == t) ≡ true
itself t = grind (arith, nat_tests)

own_changed : (t : ℕ) (changed : Option Record) (slots : ℕ → Option Record) → changed_at t changed slots t ≡ changed
own_changed t changed slots = ap (λ b. if b then changed else slots t) (itself t)

-- no use is made
pub nothing_used : (table : Table) (slots : ℕ → Option Record) (closed : List Closed) (r : Records) (t : ℕ) → AreKept table slots closed r
    → AreKept table (changed_at t (with_uses [] (slots t)) slots) closed r
nothing_used table slots closed r t kept = record {
  of_slots = λ k. subst (λ o. IsOpen table (slice_index_or r.of_slots.items k None) o) (sym (same k)) (kept.of_slots k);
  closed_ones = kept.closed_ones;
}
  where
    without : (o : Option Record) → with_uses [] o ≡ o
    without None = refl
    without (Some uses) = ap Some (append-nil uses)

    same : (k : ℕ) → changed_at t (with_uses [] (slots t)) slots k ≡ slots k
    same k = by (k == t) refl
      where
        by : (b : Bool) → (k == t) ≡ b → (if b then with_uses [] (slots t) else slots k) ≡ slots k
        by true e = without (slots t) ∙ ap slots (sym (same_number k t e))
        by false e = refl

-- the records of the slot have the move's use and stand as its thread does
pub settled : (w after : World) (new : Records) (t : ℕ) (stand : Stand) → move w t ≡ Some after → RecordsMoved t w after
    → stand_in (in_slot after t) ≡ stand → length new.of_slots.items ≡ length w.slots
    → let slots = changed_at t (with_uses (use_made w t) (open_in w t)) (open_in w) in
    AreKept w.table (changed_at t (open_by (is_inside stand) (slots t)) slots) (closed_by (has_left stand) t (slots t) w.closed) new
    → AreRecords after new
settled w after new t stand moved records is count kept = record {
  count = count ∙ sym keeps.count;
  kept = carried w after new _ _ keeps.same_table each closed kept;
}
  where
    keeps : Keeps t w after
    keeps = of_outcome (Keeps t w) (move w t) after moved (move_keeps w t)

    used : Option Record
    used = with_uses (use_made w t) (open_in w t)

    slots : ℕ → Option Record
    slots = changed_at t used (open_in w)

    inside : is_inside stand ≡ in_transaction (in_slot after t)
    inside = ap is_inside (sym is) ∙ inside_is (in_slot after t)

    left : has_left stand ≡ is_outside (in_slot after t)
    left = ap has_left (sym is) ∙ left_is (in_slot after t)

    each : (k : ℕ) → open_in after k ≡ changed_at t (open_by (is_inside stand) (slots t)) slots k
    each k = by (k == t) refl
      where
        by : (b : Bool) → (k == t) ≡ b → open_in after k ≡ (if b then open_by (is_inside stand) (slots t) else (if b then used else open_in w k))
        by true e =
            ap (open_in after) (same_number k t e)
            ∙ records.own
            ∙ ap (λ b. open_by b used) (sym inside)
            ∙ ap (open_by (is_inside stand)) (sym (own_changed t used (open_in w)))
        by false e = records.others k (other_number k t e)

    closed : after.closed ≡ closed_by (has_left stand) t (slots t) w.closed
    closed =
        records.closed
        ∙ ap (λ b. closed_by b t used w.closed) (sym left)
        ∙ ap (λ o. closed_by (has_left stand) t o w.closed) (sym (own_changed t used (open_in w)))

-- ---- the texts of a run

pub all_main : (texts : List (List BareDef)) (limits : Limits) (ms : List SourceMove) (r : SourceRun) → IsRun texts limits ms r → All HasMain texts
all_main texts limits ms r h =
    subst (All HasMain) h.loaded
    (All-map HasMain text_of r.machine.program.texts.items (λ k text below. (h.stands.all.program.ready k text below).main))

-- the table of its world
pub table_is : TablesOfRuns → (texts : List (List BareDef)) (limits : Limits) (ms : List SourceMove) (r : SourceRun) (h : IsRun texts limits ms r)
    → IsTableOf (versions_by texts ms) h.world.table × (0 < current h.world.table)
table_is law texts limits ms r h = law texts limits ms h.world (all_main texts limits ms r h) h.ran

-- ---- one move more

-- the move that was made
pub is_moved : (texts : List (List BareDef)) (limits : Limits) (ms : List SourceMove) (slot : ℕ) (before after : SourceRun)
    (h : IsRun texts limits ms before) (g : IsRun texts limits (ms ++ Move slot ∷ []) after) → move h.world slot ≡ Some g.world
is_moved texts limits ms slot before after h g = sym (then_move texts limits ms slot h.world h.ran) ∙ g.ran

-- the slot that has moved is there
pub slot_within : (w after : World) (r : Records) (t : ℕ) → move w t ≡ Some after → AreRecords w r → t < length r.of_slots.items
slot_within w after r t moved are =
    let lives = mover_lives w after t moved in
    subst (λ n. t < n) (sym are.count) (within w.slots t lives.0 lives.1)

-- a recorded run after a move, of which its records are
pub after_move : (texts : List (List BareDef)) (limits : Limits) (ms : List SourceMove) (slot : ℕ) (old new : RecordedRun)
    → IsRecorded texts limits ms old → (g : IsRun texts limits (ms ++ Move slot ∷ []) new.run) → AreRecords g.world new.records
    → length new.records.of_slots.items ≡ length old.records.of_slots.items → new.began ≡ old.began → new.text ≡ old.text
    → IsRecorded texts limits (ms ++ Move slot ∷ []) new
after_move texts limits ms slot old new h g are count began text = record {
  run = g;
  records = are;
  small = subst (λ n. n ≤ 256) (sym count) h.small;
  began = subst (λ b. AreBeginnings (versions_by texts (ms ++ Move slot ∷ [])) b) (sym began)
      (subst (λ vs. AreBeginnings vs old.began) (sym (moved_versions texts ms slot)) h.began);
  text =
      ap (slice_get texts) text
      ∙ h.text
      ∙ ap (λ vs. Some (last_text vs)) (sym (moved_versions texts ms slot));
}

-- a recorded run whose run is another of the same moves
pub with_run : (texts : List (List BareDef)) (limits : Limits) (ms : List SourceMove) (old : RecordedRun) (run : SourceRun)
    → IsRecorded texts limits ms old → IsRun texts limits ms run → IsRecorded texts limits ms (record old { run = run })
with_run texts limits ms old run h g = record {
  run = g;
  records = subst (λ w. AreRecords w old.records) (same_world texts limits ms old.run run h.run g) h.records;
  small = h.small;
  began = h.began;
  text = h.text;
}

-- a run that a move goes on from isn't over
pub goes : (texts : List (List BareDef)) (limits : Limits) (ms : List SourceMove) (slot : ℕ) (before after : SourceRun)
    → (h : IsRun texts limits ms before) → IsRun texts limits (ms ++ Move slot ∷ []) after
    → option_map (λ x. is_over x.world) (source_run texts limits ms) ≡ Some false
goes texts limits ms slot before after h g =
    given (λ x. is_over x.world) texts limits ms before h
    ∙ ap Some (mover_goes h.world g.world slot (is_moved texts limits ms slot before after h g))

-- what holds of the move of each slot holds of each move
pub by_slot : (P : Code → Type 0) → ((slot : ℕ) → P (code.Move slot)) → (m : Code) → P m
by_slot P each (code.Move slot) = each slot

-- ---- the texts of a run, by their trees

text_at_place : (p : Programs) → map text_in (trees p) ≡ texts_of p
text_at_place p = each p.texts.items
  where
    each : (rs : List Ready) → map text_in (map (λ r. r.text) rs) ≡ map text_of rs
    each [] = refl
    each (r ∷ rs) = ap (λ ts. text_of r ∷ ts) (each rs)

pub texts_are : (texts : List (List BareDef)) (limits : Limits) (ms : List SourceMove) (r : SourceRun) → IsRun texts limits ms r
    → map text_in (trees_of r) ≡ texts
texts_are texts limits ms r h = text_at_place r.machine.program ∙ h.loaded

-- whether there is a text with a number, as it was asked
pub asked : (texts : List (List BareDef)) (limits : Limits) (ms : List SourceMove) (r : SourceRun) (k : ℕ) (o : Option (Bor Tree)) → IsRun texts limits ms r
    → option_copied o ≡ slice_get (trees_of r) k → slice_get texts k ≡ option_map text_in (option_copied o)
asked texts limits ms r k o h e =
    ap (λ ts. slice_get ts k) (sym (texts_are texts limits ms r h))
    ∙ slice_get-map text_in (trees_of r) k
    ∙ ap (option_map text_in) (sym e)

pub no_text : (texts : List (List BareDef)) (k : ℕ) (o : Option (Bor Tree)) → slice_get texts k ≡ option_map text_in (option_copied o)
    → is_some o ≡ false → slice_get texts k ≡ None
no_text texts k None e none = e
no_text texts k (Some b) e none = absurd (not_so none)
  where
    not_so : true ≡ false → ⊥
    not_so e = cc

pub some_text : (texts : List (List BareDef)) (k : ℕ) (o : Option (Bor Tree)) → slice_get texts k ≡ option_map text_in (option_copied o)
    → is_some o ≡ true → slice_get texts k ≡ Some (slice_index_or texts k [])
some_text texts k None e some = absurd (not_so some)
  where
    not_so : false ≡ true → ⊥
    not_so e = cc
some_text texts k (Some b) e some = slice_get-get_or texts k [] (slice_get_within texts k (text_in b.now) e)

-- ---- an install

-- a text that isn't there isn't installed
pub cannot_install : (texts : List (List BareDef)) (limits : Limits) (ms : List SourceMove) (k : ℕ) (r : SourceRun) → IsRun texts limits ms r
    → slice_get texts k ≡ None → world_after texts limits (ms ++ Install k ∷ []) ≡ None
cannot_install texts limits ms k r h none = then_install texts limits ms k h.world h.ran ∙ ap (install h.world) none

-- the world after an install that was made
pub is_installed : (texts : List (List BareDef)) (limits : Limits) (ms : List SourceMove) (k : ℕ) (before after : SourceRun) (q : List BareDef)
    → (h : IsRun texts limits ms before) (g : IsRun texts limits (ms ++ Install k ∷ []) after) → slice_get texts k ≡ Some q
    → g.world ≡ installed q h.world
is_installed texts limits ms k before after q h g there =
    by (is_over h.world) (sym (ap (install h.world) there) ∙ sym (then_install texts limits ms k h.world h.ran) ∙ g.ran)
  where
    by : (b : Bool) → (if b then None else Some (installed q h.world)) ≡ Some g.world → g.world ≡ installed q h.world
    by true e = absurd (no e)
      where
        no : None ≡ Some g.world → ⊥
        no e = cc
    by false e = sym (some_is _ _ e)

-- the text of a run's world is the last one installed
pub text_is : (texts : List (List BareDef)) (limits : Limits) (ms : List SourceMove) (r : SourceRun) (h : IsRun texts limits ms r)
    → h.world.text ≡ last_text (versions_by texts ms)
text_is texts limits ms r h = h.stands.all.text ∙ ap last_text h.versions

-- a recorded run after an install that was made
pub after_install : (texts : List (List BareDef)) (limits : Limits) (ms : List SourceMove) (k : ℕ) (q : List BareDef) (old new : RecordedRun)
    → (h : IsRecorded texts limits ms old) → IsRun texts limits (ms ++ Install k ∷ []) new.run → slice_get texts k ≡ Some q
    → AreKept (next_table (current h.run.world.table) (last_text (versions_by texts ms)) q h.run.world.table) (open_in h.run.world) h.run.world.closed new.records
    → length new.records.of_slots.items ≡ length old.records.of_slots.items
    → AreBeginnings (versions_by texts ms ++ q ∷ []) new.began → new.text ≡ k
    → IsRecorded texts limits (ms ++ Install k ∷ []) new
after_install texts limits ms k q old new h g there kept count began text = record {
  run = g;
  records = subst (λ w. AreRecords w new.records) (sym world) (record {
    count = count ∙ h.records.count;
    kept =
        subst (λ p. AreKept (next_table (current w.table) p q w.table) (open_in w) w.closed new.records)
        (sym (text_is texts limits ms old.run h.run)) kept;
  });
  small = subst (λ n. n ≤ 256) (sym count) h.small;
  began = subst (λ vs. AreBeginnings vs new.began) (sym versions) began;
  text = ap (slice_get texts) text ∙ there ∙ ap Some (sym (ap last_text versions ∙ last_is_next (versions_by texts ms) q));
}
  where
    w : World
    w = h.run.world

    world : g.world ≡ installed q w
    world = is_installed texts limits ms k old.run new.run q h.run g there

    number : slice_index_or texts k [] ≡ q
    number = some_is _ _ (sym (slice_get-get_or texts k [] (slice_get_within texts k q there)) ∙ there)

    versions : versions_by texts (ms ++ Install k ∷ []) ≡ versions_by texts ms ++ q ∷ []
    versions = installed_versions texts ms k ∙ ap (λ t. versions_by texts ms ++ t ∷ []) number

-- a text of a run has a main
pub main_at : (texts : List (List BareDef)) (k : ℕ) (q : List BareDef) → All HasMain texts → slice_get texts k ≡ Some q → HasMain q
main_at texts k q all there =
    let below = slice_get_within texts k q there in
    subst HasMain (some_is _ _ (sym (slice_get-get_or texts k [] below) ∙ there)) (all k [] below)

-- a recorded run whose texts were followed and forgotten
pub with_began : (texts : List (List BareDef)) (limits : Limits) (ms : List SourceMove) (old : RecordedRun) (began : Began)
    → IsRecorded texts limits ms old → AreBeginnings (versions_by texts ms) began → IsRecorded texts limits ms (record old { began = began })
with_began texts limits ms old began h b = record { run = h.run; records = h.records; small = h.small; began = b; text = h.text }

pub on_err : {T E P : Type 0} (r : outcome.Result T E) → P → OnErr r P
on_err (Ok x) p = tt
on_err (Err e) p = p

-- ---- the start of a run

all_alike : {A : Type 0} (n k : ℕ) (x : A) → slice_index_or (replicate n x) k x ≡ x
all_alike zero k x = refl
all_alike (suc n) zero x = refl
all_alike (suc n) (suc k) x = all_alike n k x

-- the world of the start, and its text
starts_with : (texts : List (List BareDef)) (limits : Limits) (w : World) → world_after texts limits [] ≡ Some w
    → (w ≡ first_world (slice_index_or texts 0 []) limits) × (slice_get texts 0 ≡ Some (slice_index_or texts 0 []))
starts_with [] limits w e = absurd (no e)
  where
    no : None ≡ Some w → ⊥
    no e = cc
starts_with (t ∷ ts) limits w e = (sym (some_is _ _ e), refl)

-- the text that comes first, by its tree
pub first_text : (trees : List Tree) (first : Tree) → 0 < length trees → first ≡ slice_index_or trees 0 first
    → text_in first ≡ slice_index_or (map text_in trees) 0 []
first_text [] first some e = absurd (omega (arith, some))
first_text (t ∷ ts) first some e = ap text_in e

pub first_run : (texts : List (List BareDef)) (limits : Limits) (r : RecordedRun) (n : ℕ) → IsRun texts limits [] r.run
    → r.records.of_slots.items ≡ replicate n None → n ≡ suc (limits.slots - 1) → limits.slots ≤ 255 → r.records.closed.items ≡ []
    → AreBeginnings (slice_index_or texts 0 [] ∷ []) r.began → r.text ≡ 0 → IsRecorded texts limits [] r
first_run texts limits r n g none count small empty began text = record {
  run = g;
  records = subst (λ w. AreRecords w r.records) (sym start.0) (record {
    count = long ∙ count ∙ ap suc (sym (length-replicate (limits.slots - 1) Free));
    kept = record {
      of_slots = λ k. subst (λ o. IsOpen first.table o (open_in first k)) (sym (nothing k)) (closed_at_first k);
      closed_ones = subst (λ kept. AreClosed first.table kept []) (sym empty) tt;
    };
  });
  small = omega (arith, long, count, small);
  began = began;
  text = ap (slice_get texts) text ∙ start.1;
}
  where
    first : World
    first = first_world (slice_index_or texts 0 []) limits

    start : (g.world ≡ first) × (slice_get texts 0 ≡ Some (slice_index_or texts 0 []))
    start = starts_with texts limits g.world g.ran

    long : length r.records.of_slots.items ≡ n
    long = ap length none ∙ length-replicate n None

    nothing : (k : ℕ) → slice_index_or r.records.of_slots.items k None ≡ None
    nothing k = ap (λ items. slice_index_or items k None) none ∙ all_alike n k None

    closed_at_first : (k : ℕ) → IsOpen first.table None (open_in first k)
    closed_at_first zero = tt
    closed_at_first (suc k) = subst (λ s. IsOpen first.table None (open_of s)) (sym (all_alike (limits.slots - 1) k Free)) tt

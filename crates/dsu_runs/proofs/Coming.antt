-- The guard that a run has come to: its events are legal, and what was printed was written.
use Rattle.std.proofs.Common.{◌≡◌, ℕ, ◌≤◌, ◌<◌, true, List, [], ◌∷◌, ◌++◌, take, Option, Some, None, refl, sym, ◌∙◌, ap, subst, arith}
use Rattle.std.specs.Prelude.{length}
use Rattle.std.specs.Option.{option_and_then}
use Rattle.std.specs.Io.KnownBytes.{Appends}
use Rattle.std.proofs.lemmas.List.{append-nil}
use Rattle.dsu_io.specs.Causes.{Rose}
use Rattle.run_types.specs.declared.run.Event.{Event}
use Rattle.source_model.specs.Guards.{Guard, Rules, Setup, first_guard}
use Rattle.source_model.specs.Journals.{guard_after, happens, play}
use Rattle.source_model.specs.Schedules.{makes_move}
use Rattle.effects.specs.Rows.{AreRows}
use Rattle.dsu_runs.specs.Engines.{Fails, Grew, GrewPartly, Makes}
use Rattle.dsu_runs.specs.Ran.{FailedAt, Printed}
use Rattle.dsu_runs.specs.Finishes.{FailedFrom}
use Rattle.dsu_runs.specs.Turns.{Steps, history_after}
use Rattle.dsu_runs.specs.declared.running.Running.{Running}
use Rattle.dsu_runs.specs.declared.running.Step.{Step}
use Rattle.dsu_runs.specs.declared.running.Step.TheVariants.{SinkFailed}

-- events in two parts
pub play_parts : (rules : Rules) (setup : Setup) (es fs : List Event) (g : Guard)
    → play rules setup (es ++ fs) g ≡ option_and_then (play rules setup fs) (play rules setup es g)
play_parts rules setup [] fs g = refl
play_parts rules setup (e ∷ es) fs g = by (happens rules setup e g) (λ mid. play_parts rules setup es fs mid)
  where
    by : (o : Option Guard)
        → ((mid : Guard) → play rules setup (es ++ fs) mid ≡ option_and_then (play rules setup fs) (play rules setup es mid))
        → option_and_then (play rules setup (es ++ fs)) o
        ≡ option_and_then (play rules setup fs) (option_and_then (play rules setup es) o)
    by None rest = refl
    by (Some mid) rest = rest mid

-- one event more
pub legal_more : (rules : Rules) (setup : Setup) (es : List Event) (e : Event) (g after : Guard)
    → guard_after rules setup es ≡ Some g → happens rules setup e g ≡ Some after → guard_after rules setup (es ++ e ∷ []) ≡ Some after
legal_more rules setup es e g after legal made =
    play_parts rules setup es (e ∷ []) (first_guard setup)
    ∙ ap (option_and_then (play rules setup (e ∷ []))) legal
    ∙ ap (option_and_then (play rules setup [])) made

-- what was told at the start is all that was told before, where nothing was printed
told_before : (told : Option (List ℕ)) (bytes : List ℕ) → told ≡ Some bytes → told ≡ Some (bytes ++ [])
told_before told bytes is = is ∙ ap Some (sym (append-nil bytes))

pub printed_by : (told now : Option (List ℕ)) (setup : Setup) (g : Guard) → Grew (first_guard setup) g told now → Appends told now g.world.output
printed_by None now setup g grew = tt
printed_by (Some bytes) now setup g grew =
    subst (λ o. Appends (Some bytes) o g.world.output) (sym (grew bytes (told_before (Some bytes) bytes refl))) refl

-- a prefix of it, and not all of it
abbrev pub Part : Option (List ℕ) → Option (List ℕ) → Guard → Guard → Type 0
Part told now before after =
    (n : ℕ) × (length before.world.output ≤ n) × (n < length after.world.output) × Appends told now (take n after.world.output)

part_by : (told mid now : Option (List ℕ)) (setup : Setup) (g after : Guard) → Grew (first_guard setup) g told mid
    → length g.world.output < length after.world.output → GrewPartly g after mid now → Part told now g after
part_by None mid now setup g after grew longer part = (length g.world.output, same (length g.world.output), longer, tt)
  where
    same : (n : ℕ) → n ≤ n
    same n = omega arith
part_by (Some bytes) mid now setup g after grew longer part =
    let last = part bytes (grew bytes (told_before (Some bytes) bytes refl)) in
    (last.0, last.1, last.2, subst (λ o. Appends (Some bytes) o (take last.0 after.world.output)) (sym last.3) refl)

-- some events were made, by an engine whose sink showed some bytes before and shows some now
pub record Came (setup : Setup) (start : Guard) (told : Option (List ℕ)) (history : List Event) (g : Guard) (now : Option (List ℕ)) : Type 0 where
  pub legal : (rules : Rules) → AreRows rules.row → guard_after rules setup history ≡ Some g
  pub grew : Grew start g told now

pub came_first : (setup : Setup) (told : Option (List ℕ)) → Came setup (first_guard setup) told [] (first_guard setup) told
came_first setup told = record { legal = λ rules rows. refl; grew = λ before is. is }

-- nothing was made yet
pub came_none : (setup : Setup) (start : Guard) (told : Option (List ℕ)) (history : List Event)
    → ((rules : Rules) → AreRows rules.row → guard_after rules setup history ≡ Some start) → Came setup start told history start told
came_none setup start told history legal = record { legal = legal; grew = λ before is. is }

pub came_more : (at : Guard → Type 0) (setup : Setup) (start : Guard) (told now next : Option (List ℕ)) (history : List Event) (g : Guard) (e : Event)
    → Came setup start told history g now → (m : Makes at setup e g now next)
    → Came setup start told (history ++ e ∷ []) m.after next
came_more at setup start told now next history g e came m = record {
  legal = λ rules rows. legal_more rules setup history e g m.after (came.legal rules rows) (m.happens rules rows);
  grew = λ before is. m.grew before (came.grew before is);
}

pub printed : (setup : Setup) (told now : Option (List ℕ)) (history : List Event) (g : Guard) → Came setup (first_guard setup) told history g now
    → Printed told now g
printed setup told now history g came = printed_by told now setup g came.grew

-- the same, where the engine printed nothing since
pub printed_still : (setup : Setup) (told now next : Option (List ℕ)) (history : List Event) (g : Guard) → next ≡ now
    → Came setup (first_guard setup) told history g now → Printed told next g
printed_still setup told now next history g silent came =
    subst (λ o. Printed told o g) (sym silent) (printed setup told now history g came)

-- the sink failed in one event more
pub failed_at : (setup : Setup) (told now next : Option (List ℕ)) (history all : List Event) (g : Guard) (e : Event) (counted count : ℕ)
    → Came setup (first_guard setup) told history g now → (f : Fails setup e g now next) → makes_move e ≡ true → Rose counted count
    → all ≡ history ++ e ∷ [] → FailedAt setup all f.after told next counted count
failed_at setup told now next history all g e counted count came f moves rose split =
    let part = part_by told now next setup g f.after came.grew f.longer f.grew in
    record {
      earlier = history;
      event = e;
      before = g;
      split = split;
      moves = moves;
      legal = came.legal;
      grew = f.longer;
      written = part.0;
      least = part.1;
      most = part.2;
      printed = part.3;
      rose = rose;
    }

pub failed_legal : (setup : Setup) (start : Guard) (told now next : Option (List ℕ)) (history all : List Event) (g : Guard) (e : Event)
    → Came setup start told history g now → (f : Fails setup e g now next) → all ≡ history ++ e ∷ []
    → (rules : Rules) → AreRows rules.row → guard_after rules setup all ≡ Some f.after
failed_legal setup start told now next history all g e came f split rules rows =
    ap (guard_after rules setup) split ∙ legal_more rules setup history e g f.after (came.legal rules rows) (f.happens rules rows)

-- the same from any guard on
pub failed_from : (setup : Setup) (start : Guard) (told now next : Option (List ℕ)) (history all : List Event) (g : Guard) (e : Event)
    (counted count : ℕ) → Came setup start told history g now → (f : Fails setup e g now next) → makes_move e ≡ true
    → Rose counted count → all ≡ history ++ e ∷ [] → FailedFrom setup start all f.after told next counted count
failed_from setup start told now next history all g e counted count came f moves rose split = record {
  earlier = history;
  event = e;
  before = g;
  split = split;
  moves = moves;
  legal = came.legal;
  grew = f.longer;
  written = λ bytes is. f.grew bytes (came.grew bytes is);
  rose = rose;
}

-- an event tried by an engine: what the call says that makes it
pub record Tries {E : Type 0} (setup : Setup) (is_at : Guard → E → Type 0) (told : E → Option (List ℕ)) (faults : E → ℕ)
    (now next : Running E) (e : Event) (step : Step) : Type 0 where
  pub made : (g : Guard) → is_at g now.engine
      → Steps (λ x. is_at x next.engine) setup e g (told now.engine) (told next.engine) step
  pub history : next.history.items ≡ history_after e now.history.items step
  pub later : faults now.engine ≤ faults next.engine
  pub cause : step ≡ SinkFailed → Rose (faults now.engine) (faults next.engine)
  pub moves : step ≡ SinkFailed → makes_move e ≡ true

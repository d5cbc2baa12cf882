-- What comes next in a run with one slot: what its thread can do.
use Rattle.std.proofs.Common.{◌≡◌, ℕ, ◌+◌, ◌-◌, Bool, true, false, Option, Some, None, refl, sym, ◌∙◌, ap, arith}
use Rattle.std.specs.Prelude.{length, nat_lt, if◌then◌else◌}
use Rattle.std.specs.Option.{option_or}
use Rattle.std.specs.List.{range_with_len}
use Rattle.std.proofs.lemmas.Bool.Decides.{nat_tests}
use Rattle.run_types.specs.declared.run.Event.{Event}
use Rattle.source_model.specs.Guards.{Guard}
use Rattle.source_model.specs.Schedules.{act_of, first_act, slots_after}
use Rattle.dsu_runs.specs.Engines.{first_after}
use Rattle.dsu_runs.proofs.Slots.{in_turn}

or_none : (a : Option Event) → option_or a None ≡ a
or_none None = refl
or_none (Some event) = refl

-- the slots in turn, of which one is there
abbrev from_first : Guard → ℕ → Option Event
from_first g first = option_or (first_act g (range_with_len first (1 - first))) (first_act g (range_with_len 0 (first - 0)))

at_start : (g : Guard) → from_first g 0 ≡ act_of g 0
at_start g = or_none (option_or (act_of g 0) None) ∙ or_none (act_of g 0)

at_end : (g : Guard) → from_first g 1 ≡ act_of g 0
at_end g = or_none (act_of g 0)

pub one_slot : (g : Guard) (last : Option ℕ) → length g.seats ≡ 1 → length g.seats ≡ length g.world.slots
    → act_of g 0 ≡ first_act g (slots_after (length g.seats) last)
one_slot g last one same =
    sym (in_turn g last same
    ∙ ap (λ n. option_or (first_act g (range_with_len (first_after n last) (n - first_after n last)))
    (first_act g (range_with_len 0 (first_after n last - 0)))) one
    ∙ by last)
  where
    first : (slot : ℕ) → nat_lt slot 1 ≡ true → slot + 1 ≡ 1
    first slot e = grind (arith, nat_tests, e)

    slot_by : (slot : ℕ) (b : Bool) → nat_lt slot 1 ≡ b → from_first g (if b then slot + 1 else 0) ≡ act_of g 0
    slot_by slot true e = ap (from_first g) (first slot e) ∙ at_end g
    slot_by slot false e = at_start g

    by : (o : Option ℕ) → from_first g (first_after 1 o) ≡ act_of g 0
    by None = at_start g
    by (Some slot) = slot_by slot (nat_lt slot 1) refl

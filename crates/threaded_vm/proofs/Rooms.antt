-- There is room for the events of a run.
use Rattle.std.proofs.Common.{◌≡◌, ℕ, ◌+◌, ◌*◌, ◌≤◌, ◌<◌, List, [], ◌∷◌, ◌++◌, length, Option, Some, None, refl, sym, ◌∙◌, ap, subst, arith}
use Rattle.std.specs.Option.{option_and_then}
use Rattle.std.proofs.lemmas.Option.{none-some, same_Some}
use Rattle.std.proofs.lemmas.List.Sums.{sum_by-append}
use Rattle.std.specs.Prelude.{cond}
use Rattle.run_types.specs.declared.run.Event.{Event}
use Rattle.effects.specs.Rows.{AreRows}
use Rattle.source_model.specs.Guards.{Guard, Rules, Setup, first_guard}
use Rattle.source_model.specs.Journals.{happens, play}
use Rattle.source_model.specs.Schedules.{makes_move, move_count}
use Rattle.dsu_runs.proofs.Coming.{play_parts}
use Rattle.dsu_runs.proofs.Happening.{any_are_rows, any_rules}
use Rattle.dsu_runs.proofs.Room.{few_left, offers_left, pays}
use Rattle.dsu_runs.proofs.Seats.{check_ins, few_check_ins}
use Rattle.threaded_vm.specs.Opened.{Comes}

-- the event can happen
pub record Happens (setup : Setup) (e : Event) (g : Guard) : Type 0 where
  pub after : Guard
  pub made : (rules : Rules) → AreRows rules.row → happens rules setup e g ≡ Some after

-- events that come to a guard after an earlier one are played from there
pub played_since : (setup : Setup) (before es : List Event) (first after : Guard) → Comes setup before first
    → Comes setup (before ++ es) after → play any_rules setup es first ≡ Some after
played_since setup before es first after came all =
    sym (ap (option_and_then (play any_rules setup es)) (came.legal any_rules any_are_rows))
    ∙ sym (play_parts any_rules setup before es (first_guard setup))
    ∙ all.legal any_rules any_are_rows

one_and_rest : (e : Event) (es : List Event) → move_count (e ∷ es) ≡ move_count (e ∷ []) + move_count es
one_and_rest e es = sum_by-append (λ x. cond (makes_move x) 1 0) (e ∷ []) es

sum_nil : (a b : ℕ) → a + b + 0 ≤ a + b + 2 * 0
sum_nil a b = omega arith

sum_more : (a b n c d k h i m p : ℕ) → c + d + 1 ≤ h + i + 2 * m → a + b + n ≤ c + d + 2 * p → k ≡ m + p → a + b + (n + 1) ≤ h + i + 2 * k
sum_more a b n c d k h i m p first rest all = omega (arith, first, rest, all)

one_longer : (e : Event) (es : List Event) → length es + 1 ≡ length (e ∷ es)
one_longer e es = omega arith

-- each event pays for what it leaves
pays_all : (setup : Setup) (es : List Event) (g after : Guard) → play any_rules setup es g ≡ Some after
    → check_ins after.seats + offers_left setup after + length es ≤ check_ins g.seats + offers_left setup g + 2 * move_count es
pays_all setup [] g after played =
    subst (λ x. check_ins x.seats + offers_left setup x + 0 ≤ check_ins g.seats + offers_left setup g + 2 * 0) (same_Some g after played)
    (sum_nil (check_ins g.seats) (offers_left setup g))
pays_all setup (e ∷ es) g after played = by (λ next. pays_all setup es next after) (happens any_rules setup e g) refl played
  where
    by : ((next : Guard) → play any_rules setup es next ≡ Some after
        → check_ins after.seats + offers_left setup after + length es ≤ check_ins next.seats + offers_left setup next + 2 * move_count es)
        → (o : Option Guard) → happens any_rules setup e g ≡ o → option_and_then (play any_rules setup es) o ≡ Some after
        → check_ins after.seats + offers_left setup after + length (e ∷ es) ≤ check_ins g.seats + offers_left setup g + 2 * move_count (e ∷ es)
    by rest None is h = absurd (none-some after h)
    by rest (Some next) is h =
        subst
        (λ n. check_ins after.seats + offers_left setup after + n ≤ check_ins g.seats + offers_left setup g + 2 * move_count (e ∷ es))
        (one_longer e es)
        (sum_more (check_ins after.seats) (offers_left setup after) (length es) (check_ins next.seats) (offers_left setup next)
        (move_count (e ∷ es)) (check_ins g.seats) (offers_left setup g) (move_count (e ∷ [])) (move_count es)
        (pays any_rules setup e g next is).paid (rest next h) (one_and_rest e es))

sum_room : (a b n c d p q m k seats offers left room : ℕ) → a + b + n ≤ c + d + 2 * m → p + q + 1 ≤ a + b + 2 * k → c ≤ seats → d ≤ 2 * offers + 1
    → m + k ≤ left → 2 * left + seats + 2 * offers + 1 ≤ room → n < room
sum_room a b n c d p q m k seats offers left room all one few closings moves wide = omega (arith, all, one, few, closings, moves, wide)

-- there is room for one event more
pub room_for_one : (setup : Setup) (es : List Event) (e : Event) (first g : Guard) (left room : ℕ) → play any_rules setup es first ≡ Some g
    → Happens setup e g → move_count es + move_count (e ∷ []) ≤ left
    → 2 * left + length first.seats + 2 * length setup.offers + 1 ≤ room → length es < room
room_for_one setup es e first g left room played h moves wide =
    sum_room (check_ins g.seats) (offers_left setup g) (length es) (check_ins first.seats) (offers_left setup first) (check_ins h.after.seats)
    (offers_left setup h.after) (move_count es) (move_count (e ∷ [])) (length first.seats) (length setup.offers) left room
    (pays_all setup es first g played) (pays any_rules setup e g h.after (h.made any_rules any_are_rows)).paid
    (few_check_ins first.seats) (few_left setup first) moves wide

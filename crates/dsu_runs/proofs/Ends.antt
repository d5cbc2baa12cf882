-- What is next in a run with so many moves left, and whether such a run has ended.
use Rattle.std.proofs.Common.{◌≡◌, ℕ, ◌+◌, Bool, true, false, List, Option, Some, None, refl, sym, ◌∙◌, ap, arith, eq-eqb}
use Rattle.std.specs.Prelude.{◌&&◌, ◌||◌, ◌==◌, not, length, option_map, if◌then◌else◌}
use Rattle.std.specs.Option.{is_none, option_or}
use Rattle.std.proofs.lemmas.Bool.{false≢true}
use Rattle.std.proofs.lemmas.Bool.Decides.{nat_tests}
use Rattle.std.proofs.lemmas.Option.{none-some}
use Rattle.run_types.specs.declared.run.Event.{Event}
use Rattle.run_types.specs.declared.run.Event.TheVariants.{Decide, Offer}
use Rattle.source_model.specs.Guards.{Guard, Setup, has_ended}
use Rattle.source_model.specs.Schedules.{due, first_act, move_count, slots_after, solo_next}
use Rattle.source_model.specs.Endings.{ending, ends, is_stuck, no_offer_waits, run_ending}
use Rattle.dsu_runs.specs.Turns.{next_within, offer_or_act}
use Rattle.dsu_runs.proofs.Standing.{stuck_acts_none}

-- what is next by whether the run has ended, whether a move is left, whether it is stuck, the open offer, the due one, and
-- what a thread can do
abbrev next_by : Bool → Bool → Bool → Option ℕ → Option ℕ → Option Event → Option Event
next_by over used stuck opened to_open act =
    if over || (used && not stuck)
    then None
    else option_or (option_map Decide opened) (option_or (option_map Offer to_open) (if used then None else act))

-- what is next is what the solo schedule has next
or_more : (a b c : Option Event) (e : Event) → option_or a (option_or b None) ≡ Some e → option_or a (option_or b c) ≡ Some e
or_more (Some x) b c e is = is
or_more None (Some y) c e is = is
or_more None None c e is = absurd (none-some e is)

next_solo : (over used stuck : Bool) (opened to_open : Option ℕ) (act : Option Event) (e : Event)
    → next_by over used stuck opened to_open act ≡ Some e
    → (if over then None else option_or (option_map Decide opened) (option_or (option_map Offer to_open) act)) ≡ Some e
next_solo true used stuck opened to_open act e is = absurd (none-some e is)
next_solo false true false opened to_open act e is = absurd (none-some e is)
next_solo false true true opened to_open act e is = or_more (option_map Decide opened) (option_map Offer to_open) act e is
next_solo false false stuck opened to_open act e is = is

pub next_is : (setup : Setup) (g : Guard) (last : Option ℕ) (left : ℕ) (e : Event) → next_within setup g last left ≡ Some e
    → solo_next setup g last ≡ Some e
next_is setup g last left e is =
    next_solo (has_ended g) (left == 0) (is_stuck g) g.open_offer (due setup g) (first_act g (slots_after (length g.seats) last)) e is

-- the run hasn't ended where something is next
nothing_of : (used : Bool) (e : Event) → (if used then None else None) ≡ Some e → ⊥
nothing_of true e is = none-some e is
nothing_of false e is = none-some e is

goes_on : (over used stuck made : Bool) (opened to_open : Option ℕ) (act : Option Event) (e : Event)
    → (stuck ≡ true → act ≡ None) → (used ≡ false → made ≡ false) → next_by over used stuck opened to_open act ≡ Some e
    → (over || (if stuck then is_none opened && is_none to_open else made)) ≡ false
goes_on true used stuck made opened to_open act e none count is = absurd (none-some e is)
goes_on false used true made (Some k) to_open act e none count is = refl
goes_on false used true made None (Some k) act e none count is = refl
goes_on false true true made None None act e none count is = absurd (none-some e is)
goes_on false false true made None None act e none count is = absurd (none-some e (sym (none refl) ∙ is))
goes_on false true false made opened to_open act e none count is = absurd (none-some e is)
goes_on false false false made opened to_open act e none count is = count refl

pub not_ended : (setup : Setup) (g : Guard) (last : Option ℕ) (left moves : ℕ) (events : List Event) (e : Event)
    → next_within setup g last left ≡ Some e → left + move_count events ≡ moves → run_ending setup moves events g ≡ None
not_ended setup g last left moves events e is count =
    ap (λ b. if b then Some (ending g) else None)
    (goes_on (has_ended g) (left == 0) (is_stuck g) (move_count events == moves) g.open_offer (due setup g)
    (first_act g (slots_after (length g.seats) last)) e
    (λ stuck. stuck_acts_none g stuck (slots_after (length g.seats) last))
    (unequal left (move_count events) moves count) is)
  where
    unequal : (a b c : ℕ) → a + b ≡ c → (a == 0) ≡ false → (b == c) ≡ false
    unequal a b c sum some = grind (arith, nat_tests, sum, some)

-- and it has ended where nothing is
no_next : (opened to_open : Option ℕ) → option_or (option_map Decide opened) (option_or (option_map Offer to_open) None) ≡ None
    → (is_none opened && is_none to_open) ≡ true
no_next (Some k) to_open is = absurd (none-some (Decide k) (sym is))
no_next None (Some k) is = absurd (none-some (Offer k) (sym is))
no_next None None is = refl

ends_here : (over used stuck made : Bool) (opened to_open : Option ℕ) (act : Option Event) → (used ≡ true → made ≡ true)
    → ((if over then None else option_or (option_map Decide opened) (option_or (option_map Offer to_open) act)) ≡ None
    → (over || (stuck && (is_none opened && is_none to_open))) ≡ true)
    → next_by over used stuck opened to_open act ≡ None
    → (over || (if stuck then is_none opened && is_none to_open else made)) ≡ true
ends_here true used stuck made opened to_open act count law is = refl
ends_here false true false made opened to_open act count law is = count refl
ends_here false true true made opened to_open act count law is = no_next opened to_open is
ends_here false false true made opened to_open act count law is = law is
ends_here false false false made opened to_open act count law is = absurd (false≢true (law is))

pub has_an_end : (setup : Setup) (g : Guard) (last : Option ℕ) (left moves : ℕ) (events : List Event)
    → (solo_next setup g last ≡ None → (has_ended g || (is_stuck g && no_offer_waits setup g)) ≡ true)
    → next_within setup g last left ≡ None → left + move_count events ≡ moves → ends setup moves events g ≡ true
has_an_end setup g last left moves events law is count =
    ends_here (has_ended g) (left == 0) (is_stuck g) (move_count events == moves) g.open_offer (due setup g)
    (first_act g (slots_after (length g.seats) last)) (equal left (move_count events) moves count) law is
  where
    equal : (a b c : ℕ) → a + b ≡ c → (a == 0) ≡ true → (b == c) ≡ true
    equal a b c sum none = grind (arith, nat_tests, sum, none)

-- a run has ended, too, in which no move is left and no offer is open or due
by_use : (over stuck waits made : Bool) → waits ≡ true → made ≡ true → (over || (if stuck then waits else made)) ≡ true
by_use true stuck waits made w m = refl
by_use false true waits made w m = w
by_use false false waits made w m = m

pub used_up : (setup : Setup) (g : Guard) (moves : ℕ) (events : List Event) → no_offer_waits setup g ≡ true
    → move_count events ≡ moves → ends setup moves events g ≡ true
used_up setup g moves events waits all =
    by_use (has_ended g) (is_stuck g) (no_offer_waits setup g) (move_count events == moves) waits (eq-eqb (move_count events) moves all)

-- what is next where the run has ended, where no move is left, and else
pub next_ended : (setup : Setup) (g : Guard) (last : Option ℕ) (left : ℕ) → has_ended g ≡ true → next_within setup g last left ≡ None
next_ended setup g last left over =
    ap
    (λ b. if b || (left == 0 && not (is_stuck g)) then None else option_or (option_map Decide g.open_offer) (offer_or_act setup g last left))
    over

abbrev going_next : Guard → Option Event → Bool → Bool → Bool → Option Event
going_next g next over used stuck = if over || (used && not stuck) then None else next

pub next_used : (setup : Setup) (g : Guard) (last : Option ℕ) (left : ℕ) → has_ended g ≡ false → left ≡ 0 → is_stuck g ≡ false
    → next_within setup g last left ≡ None
next_used setup g last left going none goes =
    ap (λ b. going_next g next b (left == 0) (is_stuck g)) going
    ∙ ap (λ b. going_next g next false b (is_stuck g)) (eq-eqb left 0 none)
    ∙ ap (λ b. going_next g next false true b) goes
  where
    next : Option Event
    next = option_or (option_map Decide g.open_offer) (offer_or_act setup g last left)

pub next_going : (setup : Setup) (g : Guard) (last : Option ℕ) (left : ℕ) → has_ended g ≡ false → (left == 0 && not (is_stuck g)) ≡ false
    → next_within setup g last left ≡ option_or (option_map Decide g.open_offer) (offer_or_act setup g last left)
next_going setup g last left going test =
    ap (λ b. if b || (left == 0 && not (is_stuck g)) then None else next) going ∙ ap (λ b. if b then None else next) test
  where
    next : Option Event
    next = option_or (option_map Decide g.open_offer) (offer_or_act setup g last left)

-- What is reported of offers: each is closed at most once, and an open one can be decided.
use Rattle.std.proofs.Common.{◌≡◌, ℕ, ◌+◌, ◌<◌, ◌≤◌, Bool, true, false, List, [], ◌∷◌, Option, Some, None, refl, sym, ◌∙◌, ap, subst, arith}
use Rattle.std.specs.Prelude.{◌==◌, ◌&&◌, ◌||◌, not, cond, nat_lt, count_by, option_map, if◌then◌else◌}
use Rattle.std.specs.Option.{is_some, option_and_then, option_map_or}
use Rattle.std.proofs.lemmas.Bool.Decides.{nat_tests}
use Rattle.std.proofs.lemmas.List.Sums.{sum_by-cons}
use Rattle.std.proofs.lemmas.Option.{same_Some}
use Rattle.run_types.specs.declared.run.Event.{Event}
use Rattle.run_types.specs.declared.run.Event.TheVariants.{Decide}
use Rattle.con_freeness.specs.Verdicts.{Verdict, Admitted, Refused}
use Rattle.con_freeness.specs.Rows.{Names}
use Rattle.c_tree.specs.BareDef.{BareDef}
use Rattle.c_semantics.specs.SourceTexts.{Text}
use Rattle.source_model.specs.declared.patch.NotPatch.{NotPatch}
use Rattle.source_model.specs.Worlds.{is_over}
use Rattle.source_model.specs.Patches.{last_definitions}
use Rattle.source_model.specs.Installs.{installed}
use Rattle.source_model.specs.Guards.{Guard, Setup, Rules, first_guard, has_ended, offer_at, is_open, is_reached, decide, decided, decided_by, installed_over}
use Rattle.source_model.specs.Guards as guard
use Rattle.source_model.specs.Journals.{happens, play, guard_after}
use Rattle.source_model.specs.JournalLaws.{closes, ClosedOnce, CanHappen, OpenCanBeDecided, MarkedDecides}
use Rattle.source_model.proofs.Events.{AllOf, of_outcome, Handles, each_event, in_each_guard}

not_so : false ≡ true → ⊥
not_so e = cc

-- the open offer is one of those that were offered, and it is there
pub record OpenOffer (setup : Setup) (g : Guard) : Type 0 where
  pub within : (k : ℕ) → g.open_offer ≡ Some k → k ≤ g.greatest
  pub there : (k : ℕ) → g.open_offer ≡ Some k → is_some (offer_at setup k) ≡ true

reached_is_there : (g : Guard) (o : Option guard.Offer) → is_reached g o ≡ true → is_some o ≡ true
reached_is_there g None h = absurd (not_so h)
reached_is_there g (Some o) h = refl

none_open : (k : ℕ) → None ≡ Some k → ⊥
none_open k h = cc

at_most_itself : (n : ℕ) → n ≤ n
at_most_itself n = omega arith

nothing_open : (setup : Setup) (g : Guard) → g.open_offer ≡ None → OpenOffer setup g
nothing_open setup g none = record {
  within = λ k is. absurd (none_open k (sym none ∙ is));
  there = λ k is. absurd (none_open k (sym none ∙ is));
}

handles : (rules : Rules) (setup : Setup) (e : Event) (g : Guard) → OpenOffer setup g → Handles rules setup e g (OpenOffer setup)
handles rules setup e g h = record {
  moves = λ none t w made. record { within = h.within; there = h.there };
  checks = λ none t test. record { within = h.within; there = h.there };
  opens = λ none k more reached. record {
    within = λ m is. subst (λ n. n ≤ k) (same_Some k m is) (at_most_itself k);
    there = λ m is. subst (λ n. is_some (offer_at setup n) ≡ true) (same_Some k m is) (reached_is_there g (offer_at setup k) reached);
  };
  ends = λ k closing a is. nothing_open setup _ refl;
  installs = λ k closing o names is at. nothing_open setup _ refl;
}

pub open_offer : (rules : Rules) (setup : Setup) (events : List Event) (g : Guard)
    → guard_after rules setup events ≡ Some g → OpenOffer setup g
open_offer rules setup events g legal =
    in_each_guard rules setup (OpenOffer setup) (nothing_open setup _ refl) (handles rules setup) events g legal

-- how often offer k may still be closed: once while it is open or wasn't offered yet
abbrev one_if : Bool → ℕ
one_if true = 1
one_if false = 0

abbrev is_opened : ℕ → Option ℕ → Bool
is_opened k o = option_map_or (λ n. n == k) o false

abbrev left : ℕ → Guard → ℕ
left k g = one_if (is_opened k g.open_offer || nat_lt g.greatest k)

-- an event takes from that what it closes
pub record Takes (setup : Setup) (k : ℕ) (e : Event) (g after : Guard) : Type 0 where
  pub opened : OpenOffer setup after
  pub most : one_if (closes k e) + left k after ≤ left k g

-- of two tests, which may hold
opened_now : (k n : ℕ) (o : Option ℕ) (greatest : ℕ) → greatest < n
    → one_if (is_opened k (Some n) || nat_lt n k) ≤ one_if (is_opened k o || nat_lt greatest k)
opened_now k n o greatest more = by (is_opened k o) (n == k) (nat_lt n k) (nat_lt greatest k) refl refl refl
  where
    by : (a b c d : Bool) → (n == k) ≡ b → nat_lt n k ≡ c → nat_lt greatest k ≡ d → one_if (b || c) ≤ one_if (a || d)
    by a b c true is is_less is_more = most (b || c) a
      where
        most : (x y : Bool) → one_if x ≤ one_if (y || true)
        most true true = omega arith
        most true false = omega arith
        most false true = omega arith
        most false false = omega arith
    by a true c false is is_less is_more = absurd (grind (arith, nat_tests, is, is_more, more))
    by a false true false is is_less is_more = absurd (grind (arith, nat_tests, is_less, is_more, more))
    by true false false false is is_less is_more = omega arith
    by false false false false is is_less is_more = omega arith

closed_now : (k n greatest : ℕ) → n ≤ greatest
    → one_if (n == k) + one_if (is_opened k None || nat_lt greatest k) ≤ one_if (is_opened k (Some n) || nat_lt greatest k)
closed_now k n greatest within = by (n == k) (nat_lt greatest k) refl refl
  where
    by : (b c : Bool) → (n == k) ≡ b → nat_lt greatest k ≡ c → one_if b + one_if c ≤ one_if (b || c)
    by true true is is_less = absurd (grind (arith, nat_tests, is, is_less, within))
    by true false is is_less = omega arith
    by false true is is_less = omega arith
    by false false is is_less = omega arith

nothing_closed : (k : ℕ) (e : Event) (n m : ℕ) → closes k e ≡ false → n ≤ m → one_if (closes k e) + n ≤ m
nothing_closed k e n m none le = subst (λ b. one_if b + n ≤ m) (sym none) (omega (arith, le))

closing_one : (setup : Setup) (k n : ℕ) (e : Event) (g : Guard) → closes k e ≡ (n == k) → OpenOffer setup g → g.open_offer ≡ Some n
    → one_if (closes k e) + one_if (is_opened k None || nat_lt g.greatest k) ≤ left k g
closing_one setup k n e g closing h is =
    subst (λ b. one_if b + one_if (is_opened k None || nat_lt g.greatest k) ≤ left k g) (sym closing)
    (subst (λ o. one_if (n == k) + one_if (is_opened k None || nat_lt g.greatest k) ≤ one_if (is_opened k o || nat_lt g.greatest k)) (sym is)
    (closed_now k n g.greatest (h.within n is)))

takes : (rules : Rules) (setup : Setup) (k : ℕ) (e : Event) (g : Guard) → OpenOffer setup g
    → Handles rules setup e g (Takes setup k e g)
takes rules setup k e g h = record {
  moves = λ none t w made. record { opened = (handles rules setup e g h).moves none t w made; most = nothing_closed k e _ _ (none k) (at_most_itself (left k g)) };
  checks = λ none t test. record { opened = (handles rules setup e g h).checks none t test; most = nothing_closed k e _ _ (none k) (at_most_itself (left k g)) };
  opens = λ none n more reached. record {
    opened = (handles rules setup e g h).opens none n more reached;
    most = nothing_closed k e _ _ (none k) (opened_now k n g.open_offer g.greatest more);
  };
  ends = λ n closing a is. record { opened = nothing_open setup _ refl; most = closing_one setup k n e g (closing k) h is };
  installs = λ n closing o names is at. record { opened = nothing_open setup _ refl; most = closing_one setup k n e g (closing k) h is };
}

-- what a list closes is at most what is left before it
count_one : (e : Event) (es : List Event) (k a b : ℕ) → one_if (closes k e) + a ≤ b → count_by (closes k) es ≤ a
    → count_by (closes k) (e ∷ es) ≤ b
count_one e es k a b h rest =
    subst (λ n. n ≤ b) (sym (sum_by-cons (λ x. cond (closes k x) 1 0) e es)) (by (closes k e) h)
  where
    by : (c : Bool) → one_if c + a ≤ b → cond c 1 0 + count_by (closes k) es ≤ b
    by true le = omega (arith, le, rest)
    by false le = omega (arith, le, rest)

all_take : (rules : Rules) (setup : Setup) (k : ℕ) (events : List Event) (g : Guard) → OpenOffer setup g
    → AllOf (λ after. count_by (closes k) events ≤ left k g) (play rules setup events g)
all_take rules setup k [] g h = zero_least (left k g)
  where
    zero_least : (n : ℕ) → 0 ≤ n
    zero_least n = omega arith
all_take rules setup k (e ∷ es) g h =
    by (happens rules setup e g) (each_event rules setup e g (Takes setup k e g) (takes rules setup k e g h))
    (λ mid opened. all_take rules setup k es mid opened)
  where
    further : (mid : Guard) → Takes setup k e g mid → (o : Option Guard)
        → AllOf (λ after. count_by (closes k) es ≤ left k mid) o → AllOf (λ after. count_by (closes k) (e ∷ es) ≤ left k g) o
    further mid t None rest = tt
    further mid t (Some after) rest = count_one e es k (left k mid) (left k g) t.most rest

    by : (o : Option Guard) → AllOf (Takes setup k e g) o
        → ((mid : Guard) → OpenOffer setup mid → AllOf (λ after. count_by (closes k) es ≤ left k mid) (play rules setup es mid))
        → AllOf (λ after. count_by (closes k) (e ∷ es) ≤ left k g) (option_and_then (play rules setup es) o)
    by None t rest = tt
    by (Some mid) t rest = further mid t (play rules setup es mid) (rest mid t.opened)

at_most_one : (b : Bool) (n : ℕ) → n ≤ one_if b → n ≤ 1
at_most_one true n h = h
at_most_one false n h = omega (arith, h)

pub closed_once : ClosedOnce
closed_once rules setup events g k legal =
    at_most_one _ _
    (of_outcome (λ after. count_by (closes k) events ≤ left k (first_guard setup)) (guard_after rules setup events) g legal
    (all_take rules setup k events (first_guard setup) (nothing_open setup _ refl)))

-- a decision can be made
pub there : (o : Option Guard) → is_some o ≡ true → (after : Guard) × (o ≡ Some after)
there None h = absurd (not_so h)
there (Some after) h = (after, refl)

some_mapped : {A : Type 0} (f : A → Guard) (over : Bool) (a : A) → over ≡ false → is_some (option_map f (if over then None else Some a)) ≡ true
some_mapped f true a e = absurd (not_so (sym e))
some_mapped f false a e = refl

verdict_given : (rules : Rules) (g : Guard) (k : ℕ) (q : Text) (names : Names) (v : Verdict) → is_over g.world ≡ false
    → is_some (decided_by rules g k q names v) ≡ true
verdict_given rules g k q names Admitted going =
    some_mapped (installed_over rules g k q names) (is_over g.world) (installed q.definitions g.world) going
verdict_given rules g k q names (Refused r) going = refl

patch_given : (rules : Rules) (g : Guard) (k : ℕ) (p : List BareDef) (q : Text) (cause : Option NotPatch) → is_over g.world ≡ false
    → is_some (decided rules g k p q cause) ≡ true
patch_given rules g k p q (Some cause) going = refl
patch_given rules g k p q None going = verdict_given rules g k q _ _ going

offer_given : (rules : Rules) (g : Guard) (k : ℕ) (o : Option guard.Offer) → is_some o ≡ true → is_over g.world ≡ false
    → is_some (decide rules g k o) ≡ true
offer_given rules g k None h going = absurd (not_so h)
offer_given rules g k (Some o) h going = patch_given rules g k (last_definitions g.versions) o.text _ going

both_hold : (ended opened : Bool) (o : Option Guard) → ended ≡ false → opened ≡ true → is_some o ≡ true
    → is_some (if not ended && opened then o else None) ≡ true
both_hold true opened o e f h = absurd (not_so (sym e))
both_hold false false o e f h = absurd (not_so f)
both_hold false true o e f h = h

opened_is : (k : ℕ) (o : Option ℕ) → o ≡ Some k → option_map_or (λ n. n == k) o false ≡ true
opened_is k o e = ap (λ p. option_map_or (λ n. n == k) p false) e ∙ same k
  where
    same : (n : ℕ) → (n == n) ≡ true
    same n = grind (arith, nat_tests)

not_over : (marked ended : Bool) → marked ≡ false → ended ≡ false → (marked || ended) ≡ false
not_over true ended e f = e
not_over false ended e f = f

pub can_decide : (rules : Rules) (setup : Setup) (g : Guard) (k : ℕ) → OpenOffer setup g → has_ended g ≡ false → g.world.misused ≡ false
    → g.open_offer ≡ Some k → CanHappen rules setup (Decide k) g
can_decide rules setup g k h going right is =
    there (happens rules setup (Decide k) g)
    (both_hold (has_ended g) (is_open g k) (decide rules g k (offer_at setup k)) going (opened_is k g.open_offer is)
    (offer_given rules g k (offer_at setup k) (h.there k is) (not_over g.world.misused (has_ended g) right going)))

pub open_can_be_decided : OpenCanBeDecided
open_can_be_decided rules setup events g k legal going right is =
    can_decide rules setup g k (open_offer rules setup events g legal) going right is

-- where a definition was misused
abbrev SameWorld : Guard → Guard → Type 0
SameWorld g after = after.world ≡ g.world

marked_verdict : (rules : Rules) (g : Guard) (k : ℕ) (q : Text) (names : Names) (v : Verdict) → is_over g.world ≡ true
    → AllOf (SameWorld g) (decided_by rules g k q names v)
marked_verdict rules g k q names Admitted over = by (is_over g.world) over
  where
    by : (b : Bool) → b ≡ true
        → AllOf (SameWorld g) (option_map (installed_over rules g k q names) (if b then None else Some (installed q.definitions g.world)))
    by true e = tt
    by false e = absurd (not_so e)
marked_verdict rules g k q names (Refused r) over = refl

marked_patch : (rules : Rules) (g : Guard) (k : ℕ) (p : List BareDef) (q : Text) (cause : Option NotPatch) → is_over g.world ≡ true
    → AllOf (SameWorld g) (decided rules g k p q cause)
marked_patch rules g k p q (Some cause) over = refl
marked_patch rules g k p q None over = marked_verdict rules g k q _ _ over

marked_offer : (rules : Rules) (g : Guard) (k : ℕ) (o : Option guard.Offer) → is_over g.world ≡ true
    → AllOf (SameWorld g) (decide rules g k o)
marked_offer rules g k None over = tt
marked_offer rules g k (Some o) over = marked_patch rules g k (last_definitions g.versions) o.text _ over

where_open : (g : Guard) (b : Bool) (o : Option Guard) → AllOf (SameWorld g) o → AllOf (SameWorld g) (if b then o else None)
where_open g true o h = h
where_open g false o h = tt

over_then : (marked ended : Bool) → marked ≡ true → (marked || ended) ≡ true
over_then true ended e = refl
over_then false ended e = absurd (not_so e)

pub marked_decides : MarkedDecides
marked_decides rules setup g after k marked made =
    of_outcome (SameWorld g) (happens rules setup (Decide k) g) after made
    (where_open g (not (has_ended g) && is_open g k) (decide rules g k (offer_at setup k))
    (marked_offer rules g k (offer_at setup k) (over_then g.world.misused (has_ended g) marked)))

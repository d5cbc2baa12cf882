-- What the solo schedule has next can happen, and its journals are prompt.
use Rattle.std.proofs.Common.{◌≡◌, inl, inr, ℕ, zero, suc, ◌+◌, ◌-◌, ◌<◌, Bool, true, false, IsTrue, List, [], ◌∷◌, ◌++◌, Option, Some, None, refl, sym, ◌∙◌, ap, subst, arith}
use Rattle.std.specs.Prelude.{◌==◌, ◌&&◌, ◌||◌, not, length, nat_lt, reverse, option_map, slice_index_or, if◌then◌else◌}
use Rattle.std.specs.Option.{is_some, is_none, option_and_then, option_map_or, option_or}
use Rattle.std.specs.List.{list_any, range_with_len}
use Rattle.std.proofs.lemmas.Bool.Decides.{nat_tests}
use Rattle.std.proofs.lemmas.List.{reverse-append}
use Rattle.std.proofs.lemmas.Option.{same_Some}
use Rattle.run_types.specs.declared.run.Event.{Event}
use Rattle.run_types.specs.declared.run.Event.TheVariants.{Move, CheckIn, Offer, Decide}
use Rattle.source_model.specs.Worlds.{World}
use Rattle.source_model.specs.Moves.{move}
use Rattle.source_model.specs.Runs.{can_move, some_can_move}
use Rattle.source_model.specs.Guards.{Guard, Seat, Setup, Rules, empty_seat, first_guard, has_ended, bodies_of, seat_of, moved, checked_in, is_reached, offer_at}
use Rattle.source_model.specs.Journals.{happens, play, guard_after, guard_if}
use Rattle.source_model.specs.JournalLaws.{SeatsFit, CanHappen}
use Rattle.source_model.specs.Schedules.{MayStand, act_of, due, first_act, makes_move, prompt_from, slots_after, solo_next}
use Rattle.source_model.specs.Endings.{is_stuck, no_offer_waits}
use Rattle.source_model.specs.ScheduleLaws.{NextCanHappen, SoloIsLegal, SoloIsPrompt, NothingNext}
use Rattle.source_model.proofs.Offers.{OpenOffer, can_decide, open_offer, there}
use Rattle.source_model.proofs.Seats.{seats_always_fit}

not_so : false ≡ true → ⊥
not_so e = cc

none_isnt_some : {A : Type 0} (a : A) → None ≡ Some a → ⊥
none_isnt_some a e = cc

-- where the schedule's next event comes from
pub data Source (setup : Setup) (g : Guard) (last : Option ℕ) : Event → Type 0 where
  decides : (k : ℕ) → g.open_offer ≡ Some k → Source setup g last (Decide k)
  opens : (k : ℕ) → g.open_offer ≡ None → due setup g ≡ Some k → Source setup g last (Offer k)
  acts : (e : Event) → g.open_offer ≡ None → due setup g ≡ None → first_act g (slots_after (length g.seats) last) ≡ Some e
      → Source setup g last e

by_due : (setup : Setup) (g : Guard) (last : Option ℕ) (e : Event) → g.open_offer ≡ None → (o : Option ℕ) → due setup g ≡ o
    → option_or (option_map Offer o) (first_act g (slots_after (length g.seats) last)) ≡ Some e → Source setup g last e
by_due setup g last e none (Some k) is next = subst (Source setup g last) (same_Some (Offer k) e next) (opens k none is)
by_due setup g last e none None is next = acts e none is next

by_open : (setup : Setup) (g : Guard) (last : Option ℕ) (e : Event) (o : Option ℕ) → g.open_offer ≡ o
    → option_or (option_map Decide o) (option_or (option_map Offer (due setup g)) (first_act g (slots_after (length g.seats) last))) ≡ Some e
    → Source setup g last e
by_open setup g last e (Some k) is next = subst (Source setup g last) (same_Some (Decide k) e next) (decides k is)
by_open setup g last e None is next = by_due setup g last e is (due setup g) refl next

-- the run goes on where something is next
going : (setup : Setup) (g : Guard) (last : Option ℕ) (e : Event) → solo_next setup g last ≡ Some e
    → (has_ended g ≡ false) × Source setup g last e
going setup g last e next = by (has_ended g) refl next
  where
    by : (b : Bool) → has_ended g ≡ b
        → (if b then None else option_or (option_map Decide g.open_offer) (option_or (option_map Offer (due setup g)) (first_act g (slots_after (length g.seats) last)))) ≡ Some e
        → (has_ended g ≡ false) × Source setup g last e
    by true is h = absurd (none_isnt_some e h)
    by false is h = (is, by_open setup g last e g.open_offer refl h)

-- the thread that acts
pub data Act (g : Guard) : Event → Type 0 where
  checks : (t : ℕ) → (seat_of g t).at_check_in ≡ true → Act g (CheckIn t)
  moves : (t : ℕ) → (seat_of g t).at_check_in ≡ false → is_some (move g.world t) ≡ true → Act g (Move t)

by_test : (g : Guard) (t : ℕ) (e : Event) (a b : Bool) → (seat_of g t).at_check_in ≡ a → can_move g.world t ≡ b
    → (if a then Some (CheckIn t) else (if b then Some (Move t) else None)) ≡ Some e → Act g e
by_test g t e true b at can is = subst (Act g) (same_Some (CheckIn t) e is) (checks t at)
by_test g t e false true at can is = subst (Act g) (same_Some (Move t) e is) (moves t at can)
by_test g t e false false at can is = absurd (none_isnt_some e is)

first_acts : (g : Guard) (ts : List ℕ) (e : Event) → first_act g ts ≡ Some e → Act g e
first_acts g [] e h = absurd (none_isnt_some e h)
first_acts g (t ∷ ts) e h = by (act_of g t) refl (first_acts g ts e) h
  where
    by : (o : Option Event) → act_of g t ≡ o → (first_act g ts ≡ Some e → Act g e) → option_or o (first_act g ts) ≡ Some e → Act g e
    by (Some f) is later same = by_test g t e (seat_of g t).at_check_in (can_move g.world t) refl refl (is ∙ same)
    by None is later rest = later rest

-- each of them can happen
mapped : {A B : Type 0} (f : A → B) (o : Option A) → is_some o ≡ true → is_some (option_map f o) ≡ true
mapped f None h = absurd (not_so h)
mapped f (Some a) h = refl

move_there : (g : Guard) (t : ℕ) (a b : Bool) → a ≡ false → b ≡ false → is_some (move g.world t) ≡ true
    → is_some (if a || b then None else option_map (moved g t) (move g.world t)) ≡ true
move_there g t true b e f h = absurd (not_so (sym e))
move_there g t false true e f h = absurd (not_so (sym f))
move_there g t false false e f h = mapped (moved g t) (move g.world t) h

where_all : (a b c : Bool) (g : Guard) → a ≡ false → b ≡ true → c ≡ true → is_some (guard_if (not a && b && c) g) ≡ true
where_all true b c g e f h = absurd (not_so (sym e))
where_all false false c g e f h = absurd (not_so f)
where_all false true false g e f h = absurd (not_so h)
where_all false true true g e f h = refl

act_happens : (rules : Rules) (setup : Setup) (g : Guard) (e : Event) → has_ended g ≡ false → g.open_offer ≡ None → Act g e
    → CanHappen rules setup e g
act_happens rules setup g e goes none (checks t at) =
    there (happens rules setup (CheckIn t) g)
    (where_all (has_ended g) (seat_of g t).at_check_in (is_none g.open_offer) (checked_in (bodies_of g) g t) goes at (ap is_none none))
act_happens rules setup g e goes none (moves t at can) =
    there (happens rules setup (Move t) g) (move_there g t (has_ended g) (seat_of g t).at_check_in goes at can)

-- a due offer can be opened
both_of : (a b : Bool) → (a && b) ≡ true → (a ≡ true) × (b ≡ true)
both_of true b h = (refl, h)
both_of false b h = absurd (not_so h)

pub due_is : (setup : Setup) (g : Guard) (k : ℕ) → due setup g ≡ Some k → (suc g.greatest ≡ k) × (is_reached g (offer_at setup (suc g.greatest)) ≡ true)
due_is setup g k e = by (g.closed == g.greatest && is_reached g (offer_at setup (suc g.greatest))) refl e
  where
    by : (b : Bool) → (g.closed == g.greatest && is_reached g (offer_at setup (suc g.greatest))) ≡ b
        → (if b then Some (suc g.greatest) else None) ≡ Some k
        → (suc g.greatest ≡ k) × (is_reached g (offer_at setup (suc g.greatest)) ≡ true)
    by true is h = (same_Some (suc g.greatest) k h, (both_of (g.closed == g.greatest) _ is).1)
    by false is h = absurd (none_isnt_some k h)

next_is_more : (n : ℕ) → nat_lt n (suc n) ≡ true
next_is_more n = grind (arith, nat_tests)

opens_next : (a b c d : Bool) (g : Guard) → a ≡ false → b ≡ true → c ≡ true → d ≡ true → is_some (guard_if (not a && (b && c && d)) g) ≡ true
opens_next true b c d g e f h i = absurd (not_so (sym e))
opens_next false false c d g e f h i = absurd (not_so f)
opens_next false true false d g e f h i = absurd (not_so h)
opens_next false true true false g e f h i = absurd (not_so i)
opens_next false true true true g e f h i = refl

pub due_happens : (rules : Rules) (setup : Setup) (g : Guard) (k : ℕ) → has_ended g ≡ false → g.open_offer ≡ None
    → suc g.greatest ≡ k → is_reached g (offer_at setup (suc g.greatest)) ≡ true → CanHappen rules setup (Offer k) g
due_happens rules setup g k goes none same reached =
    subst (λ n. CanHappen rules setup (Offer n) g) same
    (there (happens rules setup (Offer (suc g.greatest)) g)
    (opens_next (has_ended g) (is_none g.open_offer) (nat_lt g.greatest (suc g.greatest)) (is_reached g (offer_at setup (suc g.greatest))) _
    goes (ap is_none none) (next_is_more g.greatest) reached))

source_happens : (rules : Rules) (setup : Setup) (g : Guard) (last : Option ℕ) (e : Event) → OpenOffer setup g → has_ended g ≡ false
    → g.world.misused ≡ false → Source setup g last e → CanHappen rules setup e g
source_happens rules setup g last e h goes right (decides k is) = can_decide rules setup g k h goes right is
source_happens rules setup g last e h goes right (opens k none is) =
    due_happens rules setup g k goes none (due_is setup g k is).0 (due_is setup g k is).1
source_happens rules setup g last e h goes right (acts f none not_due first) =
    act_happens rules setup g f goes none (first_acts g _ f first)

pub next_can_happen : NextCanHappen
next_can_happen rules setup events g last e legal right next =
    source_happens rules setup g last e (open_offer rules setup events g legal) (going setup g last e next).0 right
    (going setup g last e next).1

-- events in two parts
play_parts : (rules : Rules) (setup : Setup) (es fs : List Event) (g : Guard)
    → play rules setup (es ++ fs) g ≡ option_and_then (play rules setup fs) (play rules setup es g)
play_parts rules setup [] fs g = refl
play_parts rules setup (e ∷ es) fs g = by (happens rules setup e g) (play_parts rules setup es fs)
  where
    by : (o : Option Guard)
        → ((mid : Guard) → play rules setup (es ++ fs) mid ≡ option_and_then (play rules setup fs) (play rules setup es mid))
        → option_and_then (play rules setup (es ++ fs)) o
        ≡ option_and_then (play rules setup fs) (option_and_then (play rules setup es) o)
    by None rest = refl
    by (Some mid) rest = rest mid

one_played : (rules : Rules) (setup : Setup) (e : Event) (g after : Guard) → happens rules setup e g ≡ Some after
    → play rules setup (e ∷ []) g ≡ Some after
one_played rules setup e g after h = ap (option_and_then (play rules setup [])) h

pub solo_is_legal : SoloIsLegal
solo_is_legal rules setup [] g last (is, none) = ap Some (sym is)
solo_is_legal rules setup (e ∷ es) g last (before, before_last, due_next, solo, next, stands, made, acted) =
    ap (λ l. guard_after rules setup l) (reverse-append (e ∷ []) es)
    ∙ play_parts rules setup (reverse es) (e ∷ []) (first_guard setup)
    ∙ ap (option_and_then (play rules setup (e ∷ []))) (solo_is_legal rules setup es before before_last solo)
    ∙ one_played rules setup e before g made

-- a move comes only where no offer is due
prompt_source : (setup : Setup) (g : Guard) (last : Option ℕ) (e : Event) → Source setup g last e
    → (makes_move e && is_some (due setup g)) ≡ false
prompt_source setup g last e (decides k is) = refl
prompt_source setup g last e (opens k none is) = refl
prompt_source setup g last e (acts f none not_due first) = ap (λ o. makes_move f && is_some o) not_due ∙ and_false (makes_move f)
  where
    and_false : (b : Bool) → (b && false) ≡ false
    and_false true = refl
    and_false false = refl

-- and so it is where the open offer is withdrawn instead
prompt_stand : (setup : Setup) (g : Guard) (next made : Event) → MayStand next made
    → (makes_move next && is_some (due setup g)) ≡ false → (makes_move made && is_some (due setup g)) ≡ false
prompt_stand setup g next made (inl same) h = ap (λ e. makes_move e && is_some (due setup g)) same ∙ h
prompt_stand setup g next made (inr (k, decision, withdrawal)) h = ap (λ e. makes_move e && is_some (due setup g)) withdrawal

prompt_parts : (rules : Rules) (setup : Setup) (es fs : List Event) (g mid : Guard) → play rules setup es g ≡ Some mid
    → IsTrue (prompt_from rules setup es g) → IsTrue (prompt_from rules setup fs mid) → IsTrue (prompt_from rules setup (es ++ fs) g)
prompt_parts rules setup [] fs g mid played first second = subst (λ m. IsTrue (prompt_from rules setup fs m)) (sym (same_Some g mid played)) second
prompt_parts rules setup (e ∷ es) fs g mid played first second =
    by (not (makes_move e && is_some (due setup g))) (happens rules setup e g)
    (λ next is h. prompt_parts rules setup es fs next mid is h second) played first
  where
    by : (b : Bool) (o : Option Guard)
        → ((next : Guard) → play rules setup es next ≡ Some mid → IsTrue (prompt_from rules setup es next)
        → IsTrue (prompt_from rules setup (es ++ fs) next))
        → option_and_then (play rules setup es) o ≡ Some mid
        → (b && option_map_or (prompt_from rules setup es) o true) ≡ true
        → (b && option_map_or (prompt_from rules setup (es ++ fs)) o true) ≡ true
    by false o rest is h = h
    by true None rest is h = absurd (none_isnt_some mid is)
    by true (Some next) rest is h = rest next is h

one_prompt : (rules : Rules) (setup : Setup) (e : Event) (g : Guard) → (makes_move e && is_some (due setup g)) ≡ false
    → IsTrue (prompt_from rules setup (e ∷ []) g)
one_prompt rules setup e g h = ap (λ b. not b && option_map_or (λ after. true) (happens rules setup e g) true) h ∙ always (happens rules setup e g)
  where
    always : (o : Option Guard) → option_map_or (λ after. true) o true ≡ true
    always None = refl
    always (Some after) = refl

pub solo_is_prompt : SoloIsPrompt
solo_is_prompt rules setup [] g last h = refl
solo_is_prompt rules setup (e ∷ es) g last (before, before_last, due_next, solo, next, stands, made, acted) =
    subst (λ l. IsTrue (prompt_from rules setup l (first_guard setup))) (sym (reverse-append (e ∷ []) es))
    (prompt_parts rules setup (reverse es) (e ∷ []) (first_guard setup) before
    (solo_is_legal rules setup es before before_last solo)
    (solo_is_prompt rules setup es before before_last solo)
    (one_prompt rules setup e before
    (prompt_stand setup before due_next e stands
    (prompt_source setup before before_last due_next (going setup before before_last due_next next).1))))

-- where nothing is next
nothing_left : (a b : Option Event) → option_or a b ≡ None → (a ≡ None) × (b ≡ None)
nothing_left None b h = (refl, h)
nothing_left (Some e) b h = absurd (none_isnt_some e (sym h))

unmapped : (f : ℕ → Event) (o : Option ℕ) → option_map f o ≡ None → o ≡ None
unmapped f None h = refl
unmapped f (Some k) h = absurd (none_isnt_some (f k) (sym h))

none_acts : (g : Guard) (t : ℕ) → act_of g t ≡ None → ((seat_of g t).at_check_in ≡ false) × (can_move g.world t ≡ false)
none_acts g t h = by (seat_of g t).at_check_in (can_move g.world t) refl refl h
  where
    by : (a b : Bool) → (seat_of g t).at_check_in ≡ a → can_move g.world t ≡ b
        → (if a then Some (CheckIn t) else (if b then Some (Move t) else None)) ≡ None
        → ((seat_of g t).at_check_in ≡ false) × (can_move g.world t ≡ false)
    by true b at can e = absurd (none_isnt_some (CheckIn t) (sym e))
    by false true at can e = absurd (none_isnt_some (Move t) (sym e))
    by false false at can e = (at, can)

-- none of some slots from one on acts
none_in_range : (g : Guard) (a n k : ℕ) → first_act g (range_with_len a n) ≡ None → k < n → act_of g (a + k) ≡ None
none_in_range g a zero k h below = absurd (omega (arith, below))
none_in_range g a (suc n) zero h below = ap (act_of g) (no_more a) ∙ (nothing_left (act_of g a) (first_act g (range_with_len (a + 1) n)) h).0
  where
    no_more : (m : ℕ) → m + 0 ≡ m
    no_more m = omega arith
none_in_range g a (suc n) (suc k) h below =
    ap (act_of g) (further a k)
    ∙ none_in_range g (a + 1) n k (nothing_left (act_of g a) (first_act g (range_with_len (a + 1) n)) h).1 (less_by_one k n below)
  where
    further : (m i : ℕ) → m + suc i ≡ (m + 1) + i
    further m i = omega arith

    less_by_one : (i m : ℕ) → suc i < suc m → i < m
    less_by_one i m lt = omega (arith, lt)

none_in_parts : (g : Guard) (ts us : List ℕ) → first_act g (ts ++ us) ≡ None → (first_act g ts ≡ None) × (first_act g us ≡ None)
none_in_parts g [] us h = (refl, h)
none_in_parts g (t ∷ ts) us h = by (act_of g t) (none_in_parts g ts us) h
  where
    by : (o : Option Event) → (first_act g (ts ++ us) ≡ None → (first_act g ts ≡ None) × (first_act g us ≡ None))
        → option_or o (first_act g (ts ++ us)) ≡ None → (option_or o (first_act g ts) ≡ None) × (first_act g us ≡ None)
    by None rest e = rest e
    by (Some f) rest e = absurd (none_isnt_some f (sym e))

from_first : (k : ℕ) → k ≡ 0 + k
from_first k = omega arith

none_after : (g : Guard) (count : ℕ) (last : Option ℕ) → first_act g (slots_after count last) ≡ None → (k : ℕ) → k < count → act_of g k ≡ None
none_after g count None h k below = ap (act_of g) (from_first k) ∙ none_in_range g 0 count k h below
none_after g count (Some t) h k below = by (nat_lt t k) refl
  where
    parts : (first_act g (range_with_len (suc t) (count - suc t)) ≡ None) × (first_act g (range_with_len 0 (suc t)) ≡ None)
    parts = none_in_parts g (range_with_len (suc t) (count - suc t)) (range_with_len 0 (suc t)) h

    by : (b : Bool) → nat_lt t k ≡ b → act_of g k ≡ None
    by true more =
        ap (act_of g) (sym (split k t (behind k t more)))
        ∙ none_in_range g (suc t) (count - suc t) (k - suc t) parts.0 (still k t count below (behind k t more))
      where
        behind : (a b : ℕ) → nat_lt b a ≡ true → b < a
        behind a b e = grind (arith, nat_tests, e)

        split : (a b : ℕ) → b < a → suc b + (a - suc b) ≡ a
        split a b lt = omega (arith, lt)

        still : (a b n : ℕ) → a < n → b < a → a - suc b < n - suc b
        still a b n lt more_than = omega (arith, lt, more_than)
    by false less = ap (act_of g) (from_first k) ∙ none_in_range g 0 (suc t) k parts.1 (within k t less)
      where
        within : (a b : ℕ) → nat_lt b a ≡ false → a < suc b
        within a b e = grind (arith, nat_tests, e)

-- a seat at a check-in has a number, and so has a slot that can move
none_at : (ss : List Seat) → ((k : ℕ) → k < length ss → (slice_index_or ss k empty_seat).at_check_in ≡ false) → list_any (λ s. s.at_check_in) ss ≡ false
none_at [] h = refl
none_at (s ∷ ss) h = ap (λ b. b || list_any (λ x. x.at_check_in) ss) (h 0 (positive (length ss))) ∙ none_at ss (λ k below. h (suc k) (one_more k (length ss) below))
  where
    positive : (n : ℕ) → 0 < suc n
    positive n = omega arith

    one_more : (a b : ℕ) → a < b → suc a < suc b
    one_more a b lt = omega (arith, lt)

none_moves : (w : World) (a n : ℕ) → ((k : ℕ) → k < n → can_move w (a + k) ≡ false) → list_any (can_move w) (range_with_len a n) ≡ false
none_moves w a zero h = refl
none_moves w a (suc n) h =
    ap (λ b. b || list_any (can_move w) (range_with_len (a + 1) n)) (ap (can_move w) (sym (no_more a)) ∙ h 0 (positive n))
    ∙ none_moves w (a + 1) n (λ k below. ap (can_move w) (sym (further a k)) ∙ h (suc k) (one_more k n below))
  where
    no_more : (m : ℕ) → m + 0 ≡ m
    no_more m = omega arith

    positive : (m : ℕ) → 0 < suc m
    positive m = omega arith

    further : (m i : ℕ) → m + suc i ≡ (m + 1) + i
    further m i = omega arith

    one_more : (i m : ℕ) → i < m → suc i < suc m
    one_more i m lt = omega (arith, lt)

-- all tests of the law
all_tests : (ended at can opened is_due : Bool) → ended ≡ false → at ≡ false → can ≡ false → opened ≡ true → is_due ≡ true
    → (ended || ((not ended && (not at && not can)) && (opened && is_due))) ≡ true
all_tests ended at can opened is_due e f g h i = all e f g h i
  where
    all : ended ≡ false → at ≡ false → can ≡ false → opened ≡ true → is_due ≡ true
        → (ended || ((not ended && (not at && not can)) && (opened && is_due))) ≡ true
    all a b c d x =
        ap (λ y. y || ((not y && (not at && not can)) && (opened && is_due))) a
        ∙ ap (λ y. (not y && not can) && (opened && is_due)) b
        ∙ ap (λ y. not y && (opened && is_due)) c
        ∙ ap (λ y. y && is_due) d
        ∙ x

pub nothing_next : NothingNext
nothing_next rules setup events g last legal none = by (has_ended g) refl none
  where
    seats : SeatsFit g
    seats = seats_always_fit rules setup events g legal

    nothing : option_or (option_map Decide g.open_offer) (option_or (option_map Offer (due setup g)) (first_act g (slots_after (length g.seats) last))) ≡ None
        → has_ended g ≡ false → IsTrue (has_ended g || (is_stuck g && no_offer_waits setup g))
    nothing h goes =
        all_tests (has_ended g) (list_any (λ s. s.at_check_in) g.seats) (some_can_move g.world) (is_none g.open_offer) (is_none (due setup g)) goes
        (none_at g.seats (λ k below. (none_acts g k (none_after g (length g.seats) last acting k below)).0))
        (ap (λ n. list_any (can_move g.world) (range_with_len 0 n)) (sym seats.count)
        ∙ none_moves g.world 0 (length g.seats)
        (λ k below.
        ap (can_move g.world) (nothing_more k)
        ∙ (none_acts g k (none_after g (length g.seats) last acting k below)).1))
        (ap is_none (unmapped Decide g.open_offer (nothing_left (option_map Decide g.open_offer) _ h).0))
        (ap is_none (unmapped Offer (due setup g) (nothing_left (option_map Offer (due setup g)) _ (nothing_left (option_map Decide g.open_offer) _ h).1).0))
      where
        acting : first_act g (slots_after (length g.seats) last) ≡ None
        acting = (nothing_left (option_map Offer (due setup g)) _ (nothing_left (option_map Decide g.open_offer) _ h).1).1

        nothing_more : (n : ℕ) → 0 + n ≡ n
        nothing_more n = omega arith

    by : (b : Bool) → has_ended g ≡ b
        → (if b then None else option_or (option_map Decide g.open_offer) (option_or (option_map Offer (due setup g)) (first_act g (slots_after (length g.seats) last)))) ≡ None
        → IsTrue (has_ended g || (is_stuck g && no_offer_waits setup g))
    by true ended h = ap (λ b. b || (is_stuck g && no_offer_waits setup g)) ended
    by false goes h = nothing h goes

-- Events in groups.
use Rattle.std.proofs.Common.{◌≡◌, inl, inr, ℕ, zero, suc, ◌+◌, ◌-◌, ◌<◌, ◌≤◌, List, [], ◌∷◌, ◌++◌, length, length-drop, get_or, drop, take, drop-cons, replicate, Bool, true, false, cond, refl, sym, ap, subst, ◌∙◌, arith, add-one}
use Rattle.std.specs.Prelude.{IsTrue}
use Rattle.std.specs.List.{All, flat_map}
use Rattle.std.proofs.lemmas.Bool.{cases_lt, eqb-true, false≢true}
use Rattle.std.proofs.lemmas.List.{drop_all, take_all}
use Rattle.std.proofs.lemmas.List.Elements.{All-cons, All-head, All-tail}
use Rattle.run_types.specs.declared.run.Event.{Event}
use Rattle.run_types.specs.declared.run.Event.TheVariants.{Move, CheckIn, Offer, Decide, Withdraw}
use Rattle.journal_versions.specs.declared.form.Form.{Form}
use Rattle.journal_versions.specs.Journals.{before_groups, groups, has_counts, is_same_move, most_events, slots_of}
use Rattle.journal_versions.specs.Laws.{IsGroup, MayBeLine, MovesInARowAreOneLine, may_be_in_journal}

-- ---- the same move

pub same_move : (e d : Event) → is_same_move e d ≡ true → (t : ℕ) × ((e ≡ Move t) × (d ≡ Move t))
same_move (Move s) (Move t) is = (s, (refl, ap (λ n. Move n) (sym (eqb-true s t is))))
same_move (Move s) (CheckIn n) is = absurd (false≢true is)
same_move (Move s) (Offer n) is = absurd (false≢true is)
same_move (Move s) (Decide n) is = absurd (false≢true is)
same_move (Move s) (Withdraw n) is = absurd (false≢true is)
same_move (CheckIn n) d is = absurd (false≢true is)
same_move (Offer n) d is = absurd (false≢true is)
same_move (Decide n) d is = absurd (false≢true is)
same_move (Withdraw n) d is = absurd (false≢true is)

pub same_event : (e d : Event) → is_same_move e d ≡ true → e ≡ d
same_event e d is = let m = same_move e d is in m.1.0 ∙ sym m.1.1

pub moves_itself : (e d : Event) → is_same_move e d ≡ true → is_same_move e e ≡ true
moves_itself e d is = ap (λ x. is_same_move e x) (same_event e d is) ∙ is

-- ---- the events of groups

abbrev pub ungrouped : List (Event × ℕ) → List Event
ungrouped gs = flat_map (λ g. replicate g.1 g.0) gs

ungrouped_before : (e : Event) (gs : List (Event × ℕ)) → ungrouped (before_groups e gs) ≡ e ∷ ungrouped gs
ungrouped_before e [] = refl
ungrouped_before e ((d, n) ∷ rest) = by (is_same_move e d) refl
  where
    by : (b : Bool) → is_same_move e d ≡ b → ungrouped (cond b ((d, n + 1) ∷ rest) ((e, 1) ∷ (d, n) ∷ rest)) ≡ e ∷ (replicate n d ++ ungrouped rest)
    by true is = ap (λ k. replicate k d ++ ungrouped rest) (add-one n) ∙ ap (λ x. x ∷ (replicate n d ++ ungrouped rest)) (sym (same_event e d is))
    by false is = refl

pub ungrouped_groups : (events : List Event) → ungrouped (groups events) ≡ events
ungrouped_groups [] = refl
ungrouped_groups (e ∷ es) = ungrouped_before e (groups es) ∙ ap (λ rest. e ∷ rest) (ungrouped_groups es)

-- ---- how many events groups have

abbrev pub total : List (Event × ℕ) → ℕ
total [] = 0
total ((e, n) ∷ rest) = n + total rest

total_before : (e : Event) (gs : List (Event × ℕ)) → total (before_groups e gs) ≡ total gs + 1
total_before e [] = refl
total_before e ((d, n) ∷ rest) = by (is_same_move e d)
  where
    by : (b : Bool) → total (cond b ((d, n + 1) ∷ rest) ((e, 1) ∷ (d, n) ∷ rest)) ≡ n + total rest + 1
    by true = omega arith
    by false = omega arith

pub total_groups : (events : List Event) → total (groups events) ≡ length events
total_groups [] = refl
total_groups (e ∷ es) = let before = total_before e (groups es) in let rest = total_groups es in omega (arith, before, rest)

-- ---- each group may be a line

abbrev pub AllLines : Form → List (Event × ℕ) → Type 0
AllLines form [] = Unit {0}
AllLines form ((e, n) ∷ rest) = MayBeLine form e n × AllLines form rest

some : (form : Form) (e : Event) (n : ℕ) → MayBeLine form e n → 1 ≤ n
some form e n (may, inl one) = omega (arith, one)
some form e n (may, inr moves) = let m : 2 ≤ n = moves.several in omega (arith, m)

lines_before : (form : Form) (e : Event) (gs : List (Event × ℕ)) → IsTrue (has_counts form) → IsTrue (may_be_in_journal (slots_of form) e)
    → AllLines form gs → total gs + 1 ≤ most_events → AllLines form (before_groups e gs)
lines_before form e [] counts may all few = ((may, inl refl), tt)
lines_before form e ((d, n) ∷ rest) counts may all few = by (is_same_move e d) refl
  where
    by : (b : Bool) → is_same_move e d ≡ b → AllLines form (cond b ((d, n + 1) ∷ rest) ((e, 1) ∷ (d, n) ∷ rest))
    by true is =
        let m = same_move e d is in
        let one : 1 ≤ n = some form d n all.0 in
        let several : 2 ≤ n + 1 = omega (arith, one) in
        let fit : n + 1 ≤ most_events = omega (arith, few) in
        ((all.0.0, inr (record { counts = counts; slot = m.0; is = m.1.1; several = several; fit = fit })), all.1)
    by false is = ((may, inl refl), all)

pub groups_are_lines : (form : Form) (events : List Event) → IsTrue (has_counts form)
    → All (λ e. IsTrue (may_be_in_journal (slots_of form) e)) events → length events ≤ most_events → AllLines form (groups events)
groups_are_lines form [] counts all few = tt
groups_are_lines form (e ∷ es) counts all few =
    let may = All-head (λ e. IsTrue (may_be_in_journal (slots_of form) e)) e es all in
    let others = All-tail (λ e. IsTrue (may_be_in_journal (slots_of form) e)) e es all in
    let rest = groups_are_lines form es counts others (omega (arith, few)) in
    let sum = total_groups es in
    lines_before form e (groups es) counts may rest (omega (arith, few, sum))

-- ---- groups are whole

-- the first group is no move of the same thread
abbrev NextDiffers : Event → List (Event × ℕ) → Type 0
NextDiffers e [] = Unit {0}
NextDiffers e ((d, n) ∷ gs) = is_same_move e d ≡ false

-- nor is any of its neighbour's
abbrev Apart : List (Event × ℕ) → Type 0
Apart [] = Unit {0}
Apart ((e, n) ∷ gs) = NextDiffers e gs × Apart gs

apart_before : (e : Event) (gs : List (Event × ℕ)) → Apart gs → Apart (before_groups e gs)
apart_before e [] apart = (tt, tt)
apart_before e ((d, n) ∷ rest) apart = by (is_same_move e d) refl
  where
    by : (b : Bool) → is_same_move e d ≡ b → Apart (cond b ((d, n + 1) ∷ rest) ((e, 1) ∷ (d, n) ∷ rest))
    by true is = apart
    by false is = (is, apart)

apart_groups : (events : List Event) → Apart (groups events)
apart_groups [] = tt
apart_groups (e ∷ es) = apart_before e (groups es) (apart_groups es)

apart_inside : (above below : List (Event × ℕ)) (e d : Event) (times more : ℕ) → Apart (above ++ ((e, times) ∷ (d, more) ∷ below))
    → is_same_move e d ≡ false
apart_inside [] below e d times more apart = apart.0
apart_inside ((x, n) ∷ above) below e d times more apart = apart_inside above below e d times more apart.1

group_before : (e : Event) (gs : List (Event × ℕ)) → All IsGroup gs → All IsGroup (before_groups e gs)
group_before e [] all = All-cons IsGroup (e, 1) [] (inl refl) all
group_before e ((d, n) ∷ rest) all = by (is_same_move e d) refl
  where
    some : IsGroup (d, n) → 1 ≤ n
    some (inl one) = omega (arith, one)
    some (inr moves) = omega (arith, moves.0)

    by : (b : Bool) → is_same_move e d ≡ b → All IsGroup (cond b ((d, n + 1) ∷ rest) ((e, 1) ∷ (d, n) ∷ rest))
    by true is =
        let one = some (All-head IsGroup (d, n) rest all) in
        let itself : is_same_move d d ≡ true = ap (λ x. is_same_move x d) (sym (same_event e d is)) ∙ is in
        All-cons IsGroup (d, n + 1) rest (inr (omega (arith, one), itself)) (All-tail IsGroup (d, n) rest all)
    by false is = All-cons IsGroup (e, 1) ((d, n) ∷ rest) (inl refl) all

each_group : (events : List Event) → All IsGroup (groups events)
each_group [] = λ k d within. absurd (omega (arith, within))
each_group (e ∷ es) = group_before e (groups es) (each_group es)

pub groups_are_whole : MovesInARowAreOneLine
groups_are_whole events = record {
  in_order = ungrouped_groups events;
  each = each_group events;
  apart = λ above below e d times more is.
      apart_inside above below e d times more (subst {A = List (Event × ℕ)} (λ gs. Apart gs) is (apart_groups events));
}

-- ---- a group at the start

-- an event so many times before groups
abbrev pub repeated : ℕ → Event → List (Event × ℕ) → List (Event × ℕ)
repeated zero e gs = gs
repeated (suc n) e gs = before_groups e (repeated n e gs)

repeated_inside : (n : ℕ) (e : Event) (gs : List (Event × ℕ)) → repeated n e (before_groups e gs) ≡ before_groups e (repeated n e gs)
repeated_inside zero e gs = refl
repeated_inside (suc n) e gs = ap (λ g. before_groups e g) (repeated_inside n e gs)

-- one more, where the next event is the same move
pub one_more : (n : ℕ) (e d : Event) (es : List Event) → is_same_move e d ≡ true → repeated n e (groups (d ∷ es)) ≡ repeated (n + 1) e (groups es)
one_more n e d es is =
    ap (λ x. repeated n e (before_groups x (groups es))) (sym (same_event e d is))
    ∙ repeated_inside n e (groups es) ∙ ap (λ k. repeated k e (groups es)) (sym (add-one n))

-- groups begin with the first event
starts : (d : Event) (es : List Event) → (n : ℕ) × ((rest : List (Event × ℕ)) × (groups (d ∷ es) ≡ (d, n) ∷ rest))
starts d es = by (groups es)
  where
    by : (gs : List (Event × ℕ)) → (n : ℕ) × ((rest : List (Event × ℕ)) × (before_groups d gs ≡ (d, n) ∷ rest))
    by [] = (1, ([], refl))
    by ((x, n) ∷ rest) = at (is_same_move d x) refl
      where
        at : (b : Bool) → is_same_move d x ≡ b
            → (k : ℕ) × ((more : List (Event × ℕ)) × (cond b ((x, n + 1) ∷ rest) ((d, 1) ∷ (x, n) ∷ rest) ≡ (d, k) ∷ more))
        at true is = (n + 1, (rest, ap (λ y. (y, n + 1) ∷ rest) (sym (same_event d x is))))
        at false is = (1, ((x, n) ∷ rest, refl))

-- the next event is another
abbrev pub Differs : Event → List Event → Type 0
Differs e [] = Unit {0}
Differs e (d ∷ es) = is_same_move e d ≡ false

one_before : (e : Event) (es : List Event) → Differs e es → before_groups e (groups es) ≡ (e, 1) ∷ groups es
one_before e [] other = refl
one_before e (d ∷ es) other =
    let s = starts d es in
    ap (λ gs. before_groups e gs) s.1.1 ∙ ap (λ b. cond b ((d, s.0 + 1) ∷ s.1.0) ((e, 1) ∷ (d, s.0) ∷ s.1.0)) other
    ∙ ap (λ gs. (e, 1) ∷ gs) (sym s.1.1)

-- an event once, or a move so many times, before another
pub group_ends : (n : ℕ) (e : Event) (es : List Event) → (1 ≤ n → is_same_move e e ≡ true) → Differs e es
    → repeated (n + 1) e (groups es) ≡ (e, n + 1) ∷ groups es
group_ends n e es move other = ap (λ k. repeated k e (groups es)) (add-one n) ∙ by n move
  where
    by : (n : ℕ) → (1 ≤ n → is_same_move e e ≡ true) → repeated (suc n) e (groups es) ≡ (e, n + 1) ∷ groups es
    by zero move = one_before e es other
    by (suc n) move =
        ap (λ gs. before_groups e gs) (by n (λ some. move (omega arith)))
        ∙ ap (λ b. cond b ((e, n + 1 + 1) ∷ groups es) ((e, 1) ∷ (e, n + 1) ∷ groups es)) (move (omega arith))
        ∙ ap (λ k. (e, k) ∷ groups es) (omega arith)

-- ---- the first group, counted event by event

-- one more event is the same move
pub counted_more : (times : ℕ) (first : Event) (events : List Event) (d : Event) → times < length events
    → is_same_move first (get_or events times d) ≡ true → groups events ≡ repeated times first (groups (drop times events))
    → groups events ≡ repeated (times + 1) first (groups (drop (times + 1) events))
counted_more times first events d within same so_far =
    so_far ∙ ap (λ es. repeated times first (groups es)) (drop-cons events times d within)
    ∙ one_more times first (get_or events times d) (drop (suc times) events) same
    ∙ ap (λ k. repeated (times + 1) first (groups (drop k events))) (sym (add-one times))

differs : (times : ℕ) (first : Event) (events : List Event) (d : Event)
    → (times < length events → is_same_move first (get_or events times d) ≡ false) → Differs first (drop times events)
differs times first events d other =
    elim (cases_lt times (length events)) [
      | inl within ↦ subst {A = List Event} (λ es. Differs first es) (sym (drop-cons events times d within)) (other within)
      | inr past ↦ subst {A = List Event} (λ es. Differs first es) (sym (drop_all times events past)) tt
    ]

-- the next event is none, or another
pub all_counted : (times : ℕ) (first : Event) (events : List Event) (d : Event) → 1 ≤ times
    → (1 < times → is_same_move first first ≡ true) → (times < length events → is_same_move first (get_or events times d) ≡ false)
    → groups events ≡ repeated times first (groups (drop times events)) → groups events ≡ (first, times) ∷ groups (drop times events)
all_counted times first events d some move other so_far =
    let eq : times ≡ times - 1 + 1 = omega arith in
    so_far ∙ ap (λ k. repeated k first (groups (drop times events))) eq
    ∙ group_ends (times - 1) first (drop times events) (λ more. move (omega (arith, more))) (differs times first events d other)
    ∙ ap (λ k. (first, k) ∷ groups (drop times events)) (sym eq)

pub rest_of : (events : List Event) (n : ℕ) → take (length events - n) (drop n events) ≡ drop n events
rest_of events n = take_all (length events - n) (drop n events) (omega (arith, length-drop {A = Event}))

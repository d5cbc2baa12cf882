-- The moves of a journal are a run of the source machine, to the world that the journal comes to.
use Rattle.std.proofs.Common.{◌≡◌, ℕ, zero, suc, ◌<◌, ◌≤◌, Bool, true, false, List, [], ◌∷◌, ◌++◌, Option, Some, None, refl, sym, ◌∙◌, ap, subst, arith}
use Rattle.std.specs.Prelude.{◌==◌, ◌&&◌, ◌||◌, not, cond, find, length, map, nat_lt, option_map, slice_get, if◌then◌else◌}
use Rattle.std.specs.Option.{option_and_then, option_map_or, is_none}
use Rattle.std.specs.List.{cons_option}
use Rattle.std.proofs.lemmas.List.{append-nil, append_assoc}
use Rattle.std.proofs.lemmas.Bool.Decides.{nat_tests}
use Rattle.std.proofs.lemmas.Option.{same_Some}
use Rattle.run_types.specs.declared.run.Event.{Event}
use Rattle.run_types.specs.declared.run.Event.TheVariants.{Move, CheckIn, Offer, Decide, Withdraw}
use Rattle.c_tree.specs.BareExpr.{Bytes}
use Rattle.c_tree.specs.BareDef.{BareDef}
use Rattle.con_freeness.specs.Verdicts.{Verdict, Admitted, Refused}
use Rattle.source_model.specs.declared.patch.NotPatch.{NotPatch}
use Rattle.source_model.specs.Worlds.{World}
use Rattle.source_model.specs.Moves.{move}
use Rattle.source_model.specs.Runs.{SourceMove, install, run}
use Rattle.source_model.specs.Answers.{Answer, Installed, RefusedFor, NoPatch, Withdrawn, NotOffered}
use Rattle.source_model.specs.Guards.{Guard, Setup, Rules, Answered, Seat, first_guard, has_ended, bodies_of, seat_of, moved, checked_in, offer_at, can_open, is_open, decide, decided, decided_by, answered, installed_over}
use Rattle.source_model.specs.Guards as guard
use Rattle.source_model.specs.Patches.{last_definitions}
use Rattle.source_model.specs.Journals.{happens, play, guard_after, guard_if, answer_of, install_of, move_by, moves}
use Rattle.source_model.specs.JournalLaws.{texts_of, JournalIsARun}

-- a guard that is there satisfies P
abbrev AllOf : (Guard → Type 0) → Option Guard → Type 0
AllOf P None = Unit {0}
AllOf P (Some g) = P g

-- no answer to offer k is among some
abbrev Fresh : ℕ → List Answered → Type 0
Fresh k answers = find (λ a. a.offer == k) answers ≡ None

-- offers that are open or greater than those offered aren't answered
pub record Orderly (g : Guard) : Type 0 where
  pub above : (k : ℕ) → g.greatest < k → Fresh k g.answers
  pub at_open : (k : ℕ) → g.open_offer ≡ Some k → Fresh k g.answers
  pub within : (k : ℕ) → g.open_offer ≡ Some k → k ≤ g.greatest

-- what an event does: answers are added, and its move is the world's, for all answers that go on from those
pub record Does (setup : Setup) (e : Event) (g after : Guard) : Type 0 where
  pub added : List Answered
  pub adds : after.answers ≡ g.answers ++ added
  pub moves_on : (more : List Answered) (ms : List SourceMove)
      → run (texts_of setup) (cons_option (move_by (after.answers ++ more) e) ms) g.world ≡ run (texts_of setup) ms after.world
  pub orderly : Orderly after

-- nothing but what is kept beside the world changes, and no answer is added
still : (setup : Setup) (e : Event) (g after : Guard) → after.world ≡ g.world → after.answers ≡ g.answers
    → ((given : List Answered) → move_by given e ≡ None) → Orderly after → Does setup e g after
still setup e g after same answers none o = record {
  added = [];
  adds = answers ∙ sym (append-nil g.answers);
  moves_on = λ more ms.
      ap (λ m. run (texts_of setup) (cons_option m ms) g.world) (none (after.answers ++ more))
      ∙ ap (run (texts_of setup) ms) (sym same);
  orderly = o;
}

-- a search goes on after what it doesn't find
find_after : (k : ℕ) (xs ys : List Answered) → Fresh k xs → find (λ a. a.offer == k) (xs ++ ys) ≡ find (λ a. a.offer == k) ys
find_after k [] ys fresh = refl
find_after k (x ∷ xs) ys fresh = by (x.offer == k) fresh (find_after k xs ys)
  where
    by : (b : Bool) → cond b (Some x) (find (λ a. a.offer == k) xs) ≡ None
        → (Fresh k xs → find (λ a. a.offer == k) (xs ++ ys) ≡ find (λ a. a.offer == k) ys)
        → cond b (Some x) (find (λ a. a.offer == k) (xs ++ ys)) ≡ find (λ a. a.offer == k) ys
    by true e rest = absurd (no e)
      where
        no : Some x ≡ None → ⊥
        no h = cc
    by false e rest = rest e

same_number : (k : ℕ) → (k == k) ≡ true
same_number k = grind (arith, nat_tests)

other_number : (k n : ℕ) → k ≤ n → (m : ℕ) → n < m → (k == m) ≡ false
other_number k n le m lt = grind (arith, nat_tests, le, lt)

-- an answer that is added is the one that is found
found : (k : ℕ) (a : Answer) (xs more : List Answered) → Fresh k xs
    → answer_of ((xs ++ record { offer = k; answer = a } ∷ []) ++ more) k ≡ a
found k a xs more fresh =
    ap (λ l. answer_of l k) (append_assoc xs (record { offer = k; answer = a } ∷ []) more)
    ∙ ap (λ o. option_map_or (λ x. x.answer) o NotOffered) (find_after k xs (record { offer = k; answer = a } ∷ more) fresh)
    ∙ ap (λ b. option_map_or (λ x. x.answer) (cond b (Some (record { offer = k; answer = a })) (find (λ x. x.offer == k) more)) NotOffered) (same_number k)

-- closing the open offer keeps the order
closes : (g : Guard) (k : ℕ) (a : Answer) → Orderly g → g.open_offer ≡ Some k → Orderly (answered k a g)
closes g k a o is = record {
  above = λ m lt.
      find_after m g.answers (record { offer = k; answer = a } ∷ []) (o.above m lt)
      ∙ ap (λ b. cond b (Some (record { offer = k; answer = a })) None) (other_number k g.greatest (o.within k is) m lt);
  at_open = λ m none. absurd (nothing_open m none);
  within = λ m none. absurd (nothing_open m none);
}
  where
    nothing_open : (m : ℕ) → None ≡ Some m → ⊥
    nothing_open m h = cc

-- an offer closed without an install
closed_still : (setup : Setup) (e : Event) (k : ℕ) (a : Answer) (g : Guard) → Orderly g → g.open_offer ≡ Some k
    → ((given : List Answered) → answer_of given k ≡ a → move_by given e ≡ None) → Does setup e g (answered k a g)
closed_still setup e k a g o is none = record {
  added = record { offer = k; answer = a } ∷ [];
  adds = refl;
  moves_on = λ more ms.
      ap (λ m. run (texts_of setup) (cons_option m ms) g.world)
      (none ((g.answers ++ record { offer = k; answer = a } ∷ []) ++ more) (found k a g.answers more (o.at_open k is)));
  orderly = closes g k a o is;
}

-- the text of an offer is among the texts of the run
offered_text : (offers : List guard.Offer) (k : ℕ) (o : guard.Offer) → slice_get offers k ≡ Some o
    → slice_get (map (λ x. x.text.definitions) offers) k ≡ Some o.text.definitions
offered_text [] k o e = absurd (no e)
  where
    no : None ≡ Some o → ⊥
    no h = cc
offered_text (x ∷ xs) zero o e = ap (option_map (λ (y : guard.Offer). y.text.definitions)) e
offered_text (x ∷ xs) (suc k) o e = offered_text xs k o e

text_of_offer : (setup : Setup) (k : ℕ) (o : guard.Offer) → offer_at setup k ≡ Some o
    → slice_get (texts_of setup) k ≡ Some o.text.definitions
text_of_offer setup zero o e = absurd (no e)
  where
    no : None ≡ Some o → ⊥
    no h = cc
text_of_offer setup (suc k) o e = offered_text setup.offers k o e

-- an offer that is installed
installs : (rules : Rules) (setup : Setup) (k : ℕ) (o : guard.Offer) (names : List Bytes) (g : Guard) (r : Option World)
    → install g.world (Some o.text.definitions) ≡ r → offer_at setup k ≡ Some o → Orderly g → g.open_offer ≡ Some k
    → AllOf (Does setup (Decide k) g) (option_map (installed_over rules g k o.text names) r)
installs rules setup k o names g None e at order is = tt
installs rules setup k o names g (Some w) e at order is = record {
  added = record { offer = k; answer = Installed (suc (length g.versions)) } ∷ [];
  adds = refl;
  moves_on = λ more ms.
      ap (λ a. run (texts_of setup) (cons_option (install_of k a) ms) g.world)
      (found k (Installed (suc (length g.versions))) g.answers more (order.at_open k is))
      ∙ ap (λ q. option_and_then (run (texts_of setup) ms) (install g.world q)) (text_of_offer setup k o at)
      ∙ ap (option_and_then (run (texts_of setup) ms)) e;
  orderly = record {
    above = (closes g k (Installed (suc (length g.versions))) order is).above;
    at_open = (closes g k (Installed (suc (length g.versions))) order is).at_open;
    within = (closes g k (Installed (suc (length g.versions))) order is).within;
  };
}

by_verdict : (rules : Rules) (setup : Setup) (k : ℕ) (o : guard.Offer) (names : List Bytes) (g : Guard) (v : Verdict)
    → offer_at setup k ≡ Some o → Orderly g → g.open_offer ≡ Some k
    → AllOf (Does setup (Decide k) g) (decided_by rules g k o.text names v)
by_verdict rules setup k o names g Admitted at order is = installs rules setup k o names g _ refl at order is
by_verdict rules setup k o names g (Refused r) at order is =
    closed_still setup (Decide k) k (RefusedFor r) g order is (λ given e. ap (install_of k) e)

by_patch : (rules : Rules) (setup : Setup) (k : ℕ) (p : List BareDef) (o : guard.Offer) (g : Guard) (cause : Option NotPatch)
    → offer_at setup k ≡ Some o → Orderly g → g.open_offer ≡ Some k
    → AllOf (Does setup (Decide k) g) (decided rules g k p o.text cause)
by_patch rules setup k p o g (Some cause) at order is =
    closed_still setup (Decide k) k (NoPatch cause) g order is (λ given e. ap (install_of k) e)
by_patch rules setup k p o g None at order is = by_verdict rules setup k o _ g _ at order is

by_offer : (rules : Rules) (setup : Setup) (k : ℕ) (o : Option guard.Offer) (g : Guard)
    → offer_at setup k ≡ o → Orderly g → g.open_offer ≡ Some k
    → AllOf (Does setup (Decide k) g) (decide rules g k o)
by_offer rules setup k None g at order is = tt
by_offer rules setup k (Some o) g at order is = by_patch rules setup k (last_definitions g.versions) o g _ at order is

-- what a test that holds says
left_of : (a b : Bool) → (a && b) ≡ true → a ≡ true
left_of true b h = refl
left_of false b h = h

right_of : (a b : Bool) → (a && b) ≡ true → b ≡ true
right_of true b h = h
right_of false b h = absurd (no h)
  where
    no : false ≡ true → ⊥
    no e = cc

equal_numbers : (n k : ℕ) → (n == k) ≡ true → n ≡ k
equal_numbers n k h = grind (arith, nat_tests, h)

less : (a b : ℕ) → nat_lt a b ≡ true → a < b
less a b h = grind (arith, nat_tests, h)

opened_by : (k : ℕ) (o : Option ℕ) → option_map_or (λ n. n == k) o false ≡ true → o ≡ Some k
opened_by k None h = absurd (no h)
  where
    no : false ≡ true → ⊥
    no e = cc
opened_by k (Some n) h = ap Some (equal_numbers n k h)

-- where a guard is there only by a test
where_test : (setup : Setup) (e : Event) (g after : Guard) (b : Bool) → (b ≡ true → Does setup e g after)
    → AllOf (Does setup e g) (guard_if b after)
where_test setup e g after true does = does refl
where_test setup e g after false does = tt

where_open : (setup : Setup) (e : Event) (g : Guard) (b : Bool) (o : Option Guard) → (b ≡ true → AllOf (Does setup e g) o)
    → AllOf (Does setup e g) (if b then o else None)
where_open setup e g true o does = does refl
where_open setup e g false o does = tt

-- a move of a thread
moves_by : (setup : Setup) (t : ℕ) (g : Guard) (r : Option World) → move g.world t ≡ r → Orderly g
    → AllOf (Does setup (Move t) g) (option_map (moved g t) r)
moves_by setup t g None e o = tt
moves_by setup t g (Some w) e o = record {
  added = [];
  adds = sym (append-nil g.answers);
  moves_on = λ more ms. ap (option_and_then (run (texts_of setup) ms)) e;
  orderly = record { above = o.above; at_open = o.at_open; within = o.within };
}

unless : (setup : Setup) (e : Event) (g : Guard) (b : Bool) (o : Option Guard) → AllOf (Does setup e g) o
    → AllOf (Does setup e g) (if b then None else o)
unless setup e g true o does = tt
unless setup e g false o does = does

-- an offer that is opened
opens : (setup : Setup) (k : ℕ) (g : Guard) → Orderly g → g.greatest < k
    → Does setup (Offer k) g (record g { open_offer = Some k; greatest = k })
opens setup k g o lt = still setup (Offer k) g (record g { open_offer = Some k; greatest = k }) refl refl (λ given. refl) (record {
  above = λ m h. o.above m (between m h);
  at_open = λ m h. subst (λ n. Fresh n g.answers) (same_Some k m h) (o.above k lt);
  within = λ m h. subst (λ n. n ≤ k) (same_Some k m h) (at_most_itself k);
})
  where
    between : (m : ℕ) → k < m → g.greatest < m
    between m h = omega (arith, h, lt)

    at_most_itself : (n : ℕ) → n ≤ n
    at_most_itself n = omega arith

event_does : (rules : Rules) (setup : Setup) (e : Event) (g : Guard) → Orderly g → AllOf (Does setup e g) (happens rules setup e g)
event_does rules setup (Move t) g o =
    unless setup (Move t) g (has_ended g || (seat_of g t).at_check_in) (option_map (moved g t) (move g.world t))
    (moves_by setup t g (move g.world t) refl o)
event_does rules setup (CheckIn t) g o =
    where_test setup (CheckIn t) g (checked_in (bodies_of g) g t) (not (has_ended g) && (seat_of g t).at_check_in && is_none g.open_offer)
    (λ h. still setup (CheckIn t) g (checked_in (bodies_of g) g t) refl refl (λ given. refl)
    (record { above = o.above; at_open = o.at_open; within = o.within }))
event_does rules setup (Offer k) g o =
    where_test setup (Offer k) g (record g { open_offer = Some k; greatest = k }) (not (has_ended g) && can_open setup g k)
    (λ h. opens setup k g o (less g.greatest k (right_of _ _ (left_of _ _ (right_of _ _ h)))))
event_does rules setup (Decide k) g o =
    where_open setup (Decide k) g (not (has_ended g) && is_open g k) (decide rules g k (offer_at setup k))
    (λ h. by_offer rules setup k (offer_at setup k) g refl o (opened_by k g.open_offer (right_of _ _ h)))
event_does rules setup (Withdraw k) g o =
    where_test setup (Withdraw k) g (answered k Withdrawn g) (not (has_ended g) && is_open g k)
    (λ h. closed_still setup (Withdraw k) k Withdrawn g o (opened_by k g.open_offer (right_of _ _ h)) (λ given e. refl))

-- what events do one after the other
pub record DoAll (setup : Setup) (events : List Event) (g after : Guard) : Type 0 where
  pub added : List Answered
  pub adds : after.answers ≡ g.answers ++ added
  pub runs : run (texts_of setup) (moves after.answers events) g.world ≡ Some after.world

one_and_all : (setup : Setup) (e : Event) (es : List Event) (g mid after : Guard) → Does setup e g mid → DoAll setup es mid after
    → DoAll setup (e ∷ es) g after
one_and_all setup e es g mid after d all = record {
  added = d.added ++ all.added;
  adds = all.adds ∙ ap (λ l. l ++ all.added) d.adds ∙ append_assoc g.answers d.added all.added;
  runs =
      ap (λ given. run (texts_of setup) (cons_option (move_by given e) (moves after.answers es)) g.world) all.adds
      ∙ d.moves_on all.added (moves after.answers es)
      ∙ all.runs;
}

then_all : (setup : Setup) (e : Event) (es : List Event) (g mid : Guard) (o : Option Guard) → Does setup e g mid
    → AllOf (DoAll setup es mid) o → AllOf (DoAll setup (e ∷ es) g) o
then_all setup e es g mid None d all = tt
then_all setup e es g mid (Some after) d all = one_and_all setup e es g mid after d all

and_then_all : (rules : Rules) (setup : Setup) (e : Event) (es : List Event) (g : Guard) (o : Option Guard) → AllOf (Does setup e g) o
    → ((mid : Guard) → Orderly mid → AllOf (DoAll setup es mid) (play rules setup es mid))
    → AllOf (DoAll setup (e ∷ es) g) (option_and_then (play rules setup es) o)
and_then_all rules setup e es g None d rest = tt
and_then_all rules setup e es g (Some mid) d rest = then_all setup e es g mid (play rules setup es mid) d (rest mid d.orderly)

all_do : (rules : Rules) (setup : Setup) (events : List Event) (g : Guard) → Orderly g
    → AllOf (DoAll setup events g) (play rules setup events g)
all_do rules setup [] g o = record { added = []; adds = sym (append-nil g.answers); runs = refl }
all_do rules setup (e ∷ es) g o =
    and_then_all rules setup e es g (happens rules setup e g) (event_does rules setup e g o) (λ mid order. all_do rules setup es mid order)

first_orderly : (setup : Setup) → Orderly (first_guard setup)
first_orderly setup = record {
  above = λ k lt. refl;
  at_open = λ k h. refl;
  within = λ k h. absurd (nothing_open k h);
}
  where
    nothing_open : (k : ℕ) → None ≡ Some k → ⊥
    nothing_open k h = cc

of_outcome : (P : Guard → Type 0) (o : Option Guard) (g : Guard) → o ≡ Some g → AllOf P o → P g
of_outcome P o g e p = subst (AllOf P) e p

pub journal_is_a_run : JournalIsARun
journal_is_a_run rules setup events g legal =
    (of_outcome (DoAll setup events (first_guard setup)) (guard_after rules setup events) g legal
    (all_do rules setup events (first_guard setup) (first_orderly setup))).runs

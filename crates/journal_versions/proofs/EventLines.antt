-- The line of an event, and of several moves: it is read as these, and nothing else is.
use Rattle.std.proofs.Common.{◌≡◌, inl, inr, ℕ, ◌+◌, ◌^◌, ◌<◌, ◌≤◌, List, [], ◌∷◌, ◌++◌, codes, Option, Some, None, Bool, true, false, ◌&&◌, cond, eqb, ltb, decimal, refl, sym, ap, ap₂, subst, ◌∙◌, arith}
use Rattle.std.specs.Prelude.{IsTrue}
use Rattle.std.specs.Option.{option_map}
use Rattle.std.proofs.lemmas.Bool.{and_from, and_parts, eqb-true, lt-ltb, ltb-true, ne_eqb}
use Rattle.std.proofs.lemmas.Option.{none-some, same_Some, some_pair_parts}
use Rattle.run_types.specs.declared.run.Event.{Event}
use Rattle.run_types.specs.declared.run.Event.TheVariants.{Move, CheckIn, Offer, Decide, Withdraw}
use Rattle.journal_versions.specs.declared.form.Form.{Form}
use Rattle.journal_versions.specs.declared.form.Form.TheVariants.{One, Two16, Two32}
use Rattle.journal_versions.specs.Journals.{after_word, event_line, event_with, first_word, group_line, group_of, group_with, has_counts, is_comment, most_events, moves_of, moves_with, number, once, slots_of}
use Rattle.journal_versions.specs.Laws.{MayBeLine, is_offer, may_be_in_journal}
use Rattle.journal_versions.proofs.Numbers.{decimal_without, number_is, number_reads}
use Rattle.journal_versions.proofs.Splits.{Without, Without-append, no_space, word_ends, word_is}

-- ---- numbers in range

pub few_slots : (form : Form) → slots_of form ≤ 32
few_slots One = omega arith
few_slots Two16 = omega arith
few_slots Two32 = omega arith

slot_below : (slots n : ℕ) → slots ≤ 64 → ltb n slots ≡ true → n < 64
slot_below slots n few is = omega (arith, few, ltb-true n slots is)

offer_range : (n : ℕ) → is_offer n ≡ true → (0 < n) × (n < 64)
offer_range n is = let p = and_parts (ltb 0 n) (ltb n 64) is in (ltb-true 0 n p.0, ltb-true n 64 p.1)

offer_below : (n : ℕ) → is_offer n ≡ true → n < 64
offer_below n is = (offer_range n is).1

offer_passes : (n : ℕ) → 1 ≤ n → n < 64 → is_offer n ≡ true
offer_passes n from below = and_from (ltb 0 n) (ltb n 64) (lt-ltb 0 n (omega (arith, from))) (lt-ltb n 64 below)

wide : (n : ℕ) → n < 64 → n < 2 ^ 64
wide n small = omega (arith, small)

-- ---- an event from its letter and number

letter_of : Event → ℕ
letter_of (Move n) = 115
letter_of (CheckIn n) = 99
letter_of (Offer n) = 111
letter_of (Decide n) = 100
letter_of (Withdraw n) = 119

offer_reads : (n : ℕ) → is_offer n ≡ true → number 1 64 (decimal n) ≡ Some n
offer_reads n may = number_reads 1 64 n (wide n (offer_below n may)) (omega (arith, (offer_range n may).0)) (offer_below n may)

slot_reads : (slots n : ℕ) → slots ≤ 64 → ltb n slots ≡ true → number 0 slots (decimal n) ≡ Some n
slot_reads slots n few may = number_reads 0 slots n (wide n (slot_below slots n few may)) (omega arith) (ltb-true n slots may)

move_reads : (slots n : ℕ) → slots ≤ 64 → ltb n slots ≡ true → event_with slots 115 (decimal n) ≡ Some (Move n)
move_reads slots n few may = ap (λ o. option_map (λ t. Move t) o) (slot_reads slots n few may)

-- ---- one event

-- moves without a number of their own are one move, in each form
one_move : (form : Form) (text : List ℕ) → after_word text ≡ None → group_with form 115 text ≡ once (event_with (slots_of form) 115 text)
one_move One text none = refl
one_move Two16 text none = ap (λ a. moves_of 16 text a) none
one_move Two32 text none = ap (λ a. moves_of 32 text a) none

-- an event that may be in a journal is read from its line
event_reads : (form : Form) (e : Event) → IsTrue (may_be_in_journal (slots_of form) e) → group_of form (event_line e) ≡ Some (e, 1)
event_reads form (Move n) may =
    let few : slots_of form ≤ 64 = omega (arith, few_slots form) in
    one_move form (decimal n) (no_space (decimal n) (decimal_without 32 n (omega arith) (wide n (slot_below (slots_of form) n few may))))
    ∙ ap once (move_reads (slots_of form) n few may)
event_reads form (CheckIn n) may =
    let few : slots_of form ≤ 64 = omega (arith, few_slots form) in
    ap (λ o. once (option_map (λ t. CheckIn t) o)) (slot_reads (slots_of form) n few may)
event_reads form (Offer n) may = ap (λ o. once (option_map (λ t. Offer t) o)) (offer_reads n may)
event_reads form (Decide n) may = ap (λ o. once (option_map (λ t. Decide t) o)) (offer_reads n may)
event_reads form (Withdraw n) may = ap (λ o. once (option_map (λ t. Withdraw t) o)) (offer_reads n may)

-- ---- several moves

-- the text after the letter
abbrev moves_text : ℕ → ℕ → List ℕ
moves_text slot times = decimal slot ++ (32 ∷ decimal times)

moves_line : (slot times : ℕ) → 2 ≤ times → group_line (Move slot) times ≡ 115 ∷ 32 ∷ moves_text slot times
moves_line slot times several = rw (ne_eqb times 1 (λ e. omega (arith, several, e)))

moves_read : (form : Form) (slot times : ℕ) → IsTrue (has_counts form) → ltb slot (slots_of form) ≡ true → 2 ≤ times → times ≤ most_events
    → group_of form (group_line (Move slot) times) ≡ Some (Move slot, times)
moves_read form slot times counts may several fit =
    let few : slots_of form ≤ 64 = omega (arith, few_slots form) in
    let text : List ℕ = moves_text slot times in
    let parts = word_ends (decimal slot) (decimal times) (decimal_without 32 slot (omega arith) (wide slot (slot_below (slots_of form) slot few may))) in
    let small : times < 2 ^ 64 = omega (arith, fit) in
    let below : times < most_events + 1 = omega (arith, fit) in
    ap (λ l. group_of form l) (moves_line slot times several)
    ∙ ap (λ b. cond b (moves_of (slots_of form) text (after_word text)) (once (event_with (slots_of form) 115 text))) counts
    ∙ ap (λ a. moves_of (slots_of form) text a) parts.1
    ∙ ap₂ (λ t n. moves_with t n) (ap (λ w. number 0 (slots_of form) w) parts.0 ∙ slot_reads (slots_of form) slot few may)
    (number_reads 2 (most_events + 1) times small several below)

-- what may be a line is read from it
pub group_reads : (form : Form) (e : Event) (times : ℕ) → MayBeLine form e times → group_of form (group_line e times) ≡ Some (e, times)
group_reads form e times (may, inl one) =
    ap (λ n. group_of form (group_line e n)) one ∙ event_reads form e may ∙ ap (λ n. Some (e, n)) (sym one)
group_reads form e times (may, inr moves) =
    let of_slot : IsTrue (may_be_in_journal (slots_of form) (Move moves.slot)) =
    subst {A = Event} (λ d. IsTrue (may_be_in_journal (slots_of form) d)) moves.is may in
    ap (λ d. group_of form (group_line d times)) moves.is
    ∙ moves_read form moves.slot times moves.counts of_slot moves.several moves.fit
    ∙ ap (λ d. Some (d, times)) (sym moves.is)

-- ---- what is read is such a line

-- what a test lets through
let_through : {A : Type 0} (b : Bool) (o : Option A) (x : A) → cond b o None ≡ Some x → (b ≡ true) × (o ≡ Some x)
let_through true o x is = (refl, is)
let_through false o x is = absurd (none-some x is)

map_some : {A B : Type 0} (f : A → B) (o : Option A) (y : B) → option_map f o ≡ Some y → (x : A) × ((o ≡ Some x) × (f x ≡ y))
map_some f None y is = absurd (none-some y is)
map_some f (Some x) y is = (x, (refl, same_Some (f x) y is))

-- the line is an event's, which may be in a journal
abbrev IsLineOf : ℕ → ℕ → List ℕ → Event → Type 0
IsLineOf slots letter text e = (letter ∷ 32 ∷ text ≡ event_line e) × IsTrue (may_be_in_journal slots e)

-- a letter that is k, or one of the others
by_letter : (slots letter k low end : ℕ) (make : ℕ → Event) (text : List ℕ) (e : Event) (others : Option Event) → end ≤ 64
    → ((n : ℕ) → event_line (make n) ≡ k ∷ 32 ∷ decimal n) → ((n : ℕ) → low ≤ n → n < end → IsTrue (may_be_in_journal slots (make n)))
    → (others ≡ Some e → IsLineOf slots letter text e) → (b : Bool) → eqb letter k ≡ b
    → cond b (option_map make (number low end text)) others ≡ Some e → IsLineOf slots letter text e
by_letter slots letter k low end make text e others few line may later true same is =
    let found = map_some make (number low end text) e is in
    let n : ℕ = found.0 in
    let made : make n ≡ e = found.1.1 in
    let digits = number_is low end text n (omega (arith, few)) found.1.0 in
    let written : letter ∷ 32 ∷ text ≡ event_line (make n) =
    ap₂ (λ c ds. c ∷ 32 ∷ ds) (eqb-true letter k same) digits.0 ∙ sym (line n) in
    (written ∙ ap event_line made, subst {A = Event} (λ d. IsTrue (may_be_in_journal slots d)) made (may n digits.1.0 digits.1.1))
by_letter slots letter k low end make text e others few line may later false same is = later is

event_is : (slots letter : ℕ) (text : List ℕ) (e : Event) → slots ≤ 64 → event_with slots letter text ≡ Some e → IsLineOf slots letter text e
event_is slots letter text e few is =
    by_letter slots letter 115 0 slots (λ n. Move n) text e _ few (λ n. refl) (λ n low below. lt-ltb n slots below)
    (by_letter slots letter 99 0 slots (λ n. CheckIn n) text e _ few (λ n. refl) (λ n low below. lt-ltb n slots below)
    (by_letter slots letter 111 1 64 (λ n. Offer n) text e _ (omega arith) (λ n. refl) (λ n low below. offer_passes n low below)
    (by_letter slots letter 100 1 64 (λ n. Decide n) text e _ (omega arith) (λ n. refl) (λ n low below. offer_passes n low below)
    (by_letter slots letter 119 1 64 (λ n. Withdraw n) text e _ (omega arith) (λ n. refl) (λ n low below. offer_passes n low below)
    (λ none. absurd (none-some e none)) _ refl)
    _ refl)
    _ refl)
    _ refl)
    _ refl is

-- the line is that of an event so many times, which may be one
abbrev IsGroupLine : Form → ℕ → List ℕ → Event → ℕ → Type 0
IsGroupLine form letter text e times = (letter ∷ 32 ∷ text ≡ group_line e times) × MayBeLine form e times

once_is : (form : Form) (letter : ℕ) (text : List ℕ) (e : Event) (times : ℕ) → once (event_with (slots_of form) letter text) ≡ Some (e, times)
    → IsGroupLine form letter text e times
once_is form letter text e times is =
    let few : slots_of form ≤ 64 = omega (arith, few_slots form) in
    let found = map_some (λ d. (d, 1)) (event_with (slots_of form) letter text) (e, times) is in
    let event : found.0 ≡ e = ap (λ p. p.0) found.1.1 in
    let one : 1 ≡ times = ap (λ p. p.1) found.1.1 in
    let line = event_is (slots_of form) letter text e few (found.1.0 ∙ ap (λ d. Some d) event) in
    (line.0 ∙ ap (λ n. group_line e n) one, (line.1, inl (sym one)))

moves_with_is : (a b : Option ℕ) (e : Event) (times : ℕ) → moves_with a b ≡ Some (e, times)
    → (slot : ℕ) × ((a ≡ Some slot) × ((b ≡ Some times) × (e ≡ Move slot)))
moves_with_is None b e times is = absurd (none-some (e, times) is)
moves_with_is (Some slot) None e times is = absurd (none-some (e, times) is)
moves_with_is (Some slot) (Some n) e times is =
    let same = some_pair_parts (Move slot) e n times is in
    (slot, (refl, (ap (λ x. Some x) same.1, sym same.0)))

moves_are : (form : Form) (letter : ℕ) (text : List ℕ) (e : Event) (times : ℕ) → letter ≡ 115 → IsTrue (has_counts form) → (a : Option (List ℕ))
    → after_word text ≡ a → moves_of (slots_of form) text a ≡ Some (e, times) → IsGroupLine form letter text e times
moves_are form letter text e times s counts None none is =
    let line = once_is form 115 text e times is in
    (ap (λ c. c ∷ 32 ∷ text) s ∙ line.0, line.1)
moves_are form letter text e times s counts (Some digits) some is =
    let found = moves_with_is (number 0 (slots_of form) (first_word text)) (number 2 (most_events + 1) digits) e times is in
    let slot : ℕ = found.0 in
    let few : slots_of form ≤ 64 = omega (arith, few_slots form) in
    let first = number_is 0 (slots_of form) (first_word text) slot (omega (arith, few)) found.1.0 in
    let second = number_is 2 (most_events + 1) digits times (omega arith) found.1.1.0 in
    let move : e ≡ Move slot = found.1.1.1 in
    let several : 2 ≤ times = second.1.0 in
    let fit : times ≤ most_events = omega (arith, second.1.1) in
    let written : letter ∷ 32 ∷ text ≡ 115 ∷ 32 ∷ moves_text slot times =
    ap₂ (λ c t. c ∷ 32 ∷ t) s (word_is text digits some ∙ ap₂ (λ x y. x ++ (32 ∷ y)) first.0 second.0) in
    let may : IsTrue (may_be_in_journal (slots_of form) (Move slot)) = lt-ltb slot (slots_of form) first.1.1 in (
      written ∙ sym (moves_line slot times several) ∙ ap (λ d. group_line d times) (sym move),
      (
        subst {A = Event} (λ d. IsTrue (may_be_in_journal (slots_of form) d)) (sym move) may,
        inr (record { counts = counts; slot = slot; is = move; several = several; fit = fit }),
      ),
    )

with_is : (form : Form) (letter : ℕ) (text : List ℕ) (e : Event) (times : ℕ) → (b : Bool) → (eqb letter 115 && has_counts form) ≡ b
    → cond b (moves_of (slots_of form) text (after_word text)) (once (event_with (slots_of form) letter text)) ≡ Some (e, times)
    → IsGroupLine form letter text e times
with_is form letter text e times true both is =
    let p = and_parts (eqb letter 115) (has_counts form) both in
    moves_are form letter text e times (eqb-true letter 115 p.0) p.1 (after_word text) refl is
with_is form letter text e times false both is = once_is form letter text e times is

-- a line that is read is the line of what it is read as
pub line_is : (form : Form) (line : List ℕ) (e : Event) (times : ℕ) → group_of form line ≡ Some (e, times)
    → (line ≡ group_line e times) × MayBeLine form e times
line_is form [] e times is = absurd (none-some (e, times) is)
line_is form (letter ∷ []) e times is = absurd (none-some (e, times) is)
line_is form (letter ∷ space ∷ text) e times is =
    let p = let_through (eqb space 32) (group_with form letter text) (e, times) is in
    let line = with_is form letter text e times (eqb letter 115 && has_counts form) refl p.1 in
    (ap (λ c. letter ∷ c ∷ text) (eqb-true space 32 p.0) ∙ line.0, line.1)

-- ---- the bytes of a line

-- it is no comment
no_comment : (e : Event) (b : Bool) (more : List ℕ) → is_comment (cond b (event_line e) (event_line e ++ more)) ≡ false
no_comment (Move n) true more = refl
no_comment (Move n) false more = refl
no_comment (CheckIn n) true more = refl
no_comment (CheckIn n) false more = refl
no_comment (Offer n) true more = refl
no_comment (Offer n) false more = refl
no_comment (Decide n) true more = refl
no_comment (Decide n) false more = refl
no_comment (Withdraw n) true more = refl
no_comment (Withdraw n) false more = refl

pub not_comment : (e : Event) (times : ℕ) → is_comment (group_line e times) ≡ false
not_comment e times = no_comment e (eqb times 1) (codes " " ++ decimal times)

event_in_line : (slots : ℕ) (e : Event) → slots ≤ 64 → IsTrue (may_be_in_journal slots e) → Without 10 (event_line e)
event_in_line slots (Move n) few may = (refl, (refl, decimal_without 10 n (omega arith) (wide n (slot_below slots n few may))))
event_in_line slots (CheckIn n) few may = (refl, (refl, decimal_without 10 n (omega arith) (wide n (slot_below slots n few may))))
event_in_line slots (Offer n) few may = (refl, (refl, decimal_without 10 n (omega arith) (wide n (offer_below n may))))
event_in_line slots (Decide n) few may = (refl, (refl, decimal_without 10 n (omega arith) (wide n (offer_below n may))))
event_in_line slots (Withdraw n) few may = (refl, (refl, decimal_without 10 n (omega arith) (wide n (offer_below n may))))

-- it is one line
pub in_one_line : (form : Form) (e : Event) (times : ℕ) → MayBeLine form e times → Without 10 (group_line e times)
in_one_line form e times (may, inl one) =
    let few : slots_of form ≤ 64 = omega (arith, few_slots form) in
    subst {A = ℕ} (λ n. Without 10 (group_line e n)) (sym one) (event_in_line (slots_of form) e few may)
in_one_line form e times (may, inr moves) =
    let few : slots_of form ≤ 64 = omega (arith, few_slots form) in
    let several : 2 ≤ times = moves.several in
    let small : times < 2 ^ 64 = omega (arith, moves.fit) in
    let event = event_in_line (slots_of form) e few may in
    rw (ne_eqb times 1 (λ e. omega (arith, several, e)))
    (Without-append 10 (event_line e) (32 ∷ decimal times) event (refl, decimal_without 10 times (omega arith) small))

-- The line of an event: it is read as that event, and nothing else is.
use Rattle.std.proofs.Common.{◌≡◌, ℕ, ◌<◌, List, [], ◌∷◌, Option, Some, None, Bool, true, false, cond, eqb, ltb, decimal, refl, sym, ap, ap₂, subst, ◌∙◌, arith}
use Rattle.std.specs.Prelude.{IsTrue}
use Rattle.std.specs.Option.{option_and_then}
use Rattle.std.proofs.lemmas.Bool.{and_parts, eqb-true, ltb-true}
use Rattle.std.proofs.lemmas.Option.{cond_some, none-some, option_and_then_some, same_Some}
use Rattle.run_types.specs.declared.run.Event.{Event}
use Rattle.run_types.specs.declared.run.Event.TheVariants.{Move, CheckIn, Offer, Decide, Withdraw}
use Rattle.dsu_journal.specs.Journals.{event_line, event_of, event_with, in_range, is_comment, is_offer, is_slot, may_be_in_journal, number}
use Rattle.dsu_journal.proofs.Newlines.{NoNewline}
use Rattle.dsu_journal.proofs.Numbers.{digits_in_line, number_is, number_reads}

slot_below : (n : ℕ) → is_slot n ≡ true → n < 100
slot_below n is = omega (arith, ltb-true n 16 is)

offer_below : (n : ℕ) → is_offer n ≡ true → n < 100
offer_below n is = omega (arith, ltb-true n 64 (and_parts (ltb 0 n) (ltb n 64) is).1)

-- an event that may be in a journal is read from its line
pub event_reads : (e : Event) → IsTrue (may_be_in_journal e) → event_of (event_line e) ≡ Some e
event_reads (Move n) may = rw (number_reads n (slot_below n may), may)
event_reads (CheckIn n) may = rw (number_reads n (slot_below n may), may)
event_reads (Offer n) may = rw (number_reads n (offer_below n may), may)
event_reads (Decide n) may = rw (number_reads n (offer_below n may), may)
event_reads (Withdraw n) may = rw (number_reads n (offer_below n may), may)

-- what a test lets through
let_through : {A : Type 0} (b : Bool) (o : Option A) (x : A) → cond b o None ≡ Some x → (b ≡ true) × (o ≡ Some x)
let_through true o x is = (refl, is)
let_through false o x is = absurd (none-some x is)

-- a letter that is k, or one of the others
by_letter : (letter k n : ℕ) (x e : Event) (others : Option Event) → event_line x ≡ k ∷ 32 ∷ decimal n
    → (others ≡ Some e → event_line e ≡ letter ∷ 32 ∷ decimal n) → (b : Bool) → eqb letter k ≡ b → cond b (Some x) others ≡ Some e
    → event_line e ≡ letter ∷ 32 ∷ decimal n
by_letter letter k n x e others line later true same is =
    ap event_line (sym (same_Some x e is)) ∙ line ∙ ap (λ c. c ∷ 32 ∷ decimal n) (sym (eqb-true letter k same))
by_letter letter k n x e others line later false same is = later is

letter_is : (letter n : ℕ) (e : Event) → event_with letter n ≡ Some e → event_line e ≡ letter ∷ 32 ∷ decimal n
letter_is letter n e is =
    by_letter letter 115 n (Move n) e _ refl
    (by_letter letter 99 n (CheckIn n) e _ refl
    (by_letter letter 111 n (Offer n) e _ refl
    (by_letter letter 100 n (Decide n) e _ refl
    (by_letter letter 119 n (Withdraw n) e _ refl (λ none. absurd (none-some e none)) _ refl)
    _ refl)
    _ refl)
    _ refl)
    _ refl is

-- a line that is read as an event is the event's line
pub line_is : (line : List ℕ) (e : Event) → event_of line ≡ Some e → (line ≡ event_line e) × IsTrue (may_be_in_journal e)
line_is [] e is = absurd (none-some e is)
line_is (letter ∷ []) e is = absurd (none-some e is)
line_is (letter ∷ space ∷ digits) e is =
    let p = let_through (eqb space 32) (option_and_then in_range (option_and_then (event_with letter) (number digits))) e is in
    option_and_then_some in_range (option_and_then (event_with letter) (number digits)) e p.1
    (λ x found range.
    let q = cond_some (may_be_in_journal x) x e range in
    option_and_then_some (event_with letter) (number digits) x found
    (λ n digits_are letter_gives.
    let same : letter ∷ space ∷ digits ≡ event_line x =
    ap₂ (λ c ds. letter ∷ c ∷ ds) (eqb-true space 32 p.0) (number_is digits n digits_are) ∙ sym (letter_is letter n x letter_gives) in
    (same ∙ ap event_line q.1, subst {A = Event} (λ y. IsTrue (may_be_in_journal y)) q.1 q.0)))

-- an event's line is no comment
pub not_comment : (e : Event) → is_comment (event_line e) ≡ false
not_comment (Move n) = refl
not_comment (CheckIn n) = refl
not_comment (Offer n) = refl
not_comment (Decide n) = refl
not_comment (Withdraw n) = refl

-- an event's line is one line
pub in_one_line : (e : Event) → IsTrue (may_be_in_journal e) → NoNewline (event_line e)
in_one_line (Move n) may = (refl, (refl, digits_in_line n (slot_below n may)))
in_one_line (CheckIn n) may = (refl, (refl, digits_in_line n (slot_below n may)))
in_one_line (Offer n) may = (refl, (refl, digits_in_line n (offer_below n may)))
in_one_line (Decide n) may = (refl, (refl, digits_in_line n (offer_below n may)))
in_one_line (Withdraw n) may = (refl, (refl, digits_in_line n (offer_below n may)))

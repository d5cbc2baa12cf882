-- Books of offers: what is opened, closed and answered in them.
use Rattle.std.proofs.Common.{◌≡◌, ℕ, zero, suc, ◌+◌, ◌-◌, ◌<◌, ◌≤◌, Bool, true, false, List, [], ◌∷◌, ◌++◌, length, map, slice_set, Option, Some, None, refl, sym, ◌∙◌, ap, subst, arith}
use Rattle.std.specs.Prelude.{◌&&◌, ◌||◌, ◌==◌, cond, find, nat_le, nat_lt, option_map, replicate, slice_get, if◌then◌else◌}
use Rattle.std.specs.Option.{is_none, is_some, option_map_or, option_or}
use Rattle.std.specs.List.{range_with_len}
use Rattle.std.proofs.lemmas.Bool.{true≢false}
use Rattle.std.proofs.lemmas.Bool.Decides.{nat_tests}
use Rattle.std.proofs.lemmas.List.{append-nil, append_assoc, length-map, length-replicate, map-set}
use Rattle.std.proofs.lemmas.List.Folds.{find-append, list_any-append}
use Rattle.std.proofs.lemmas.Option.{none-some, same_Some, slice_get-map, slice_get_past}
use Rattle.c_tree.specs.BareExpr.{Bytes}
use Rattle.source_model.specs.declared.answer.OfferAnswer.{OfferAnswer}
use Rattle.source_model.specs.declared.answer.OfferAnswer.TheVariants as ids
use Rattle.source_model.specs.Answers.{Answer, NotOffered, answer_seen}
use Rattle.source_model.specs.Guards.{Answered, Guard, Offer as Offered, Setup, answered, can_open, first_guard, is_open, is_reached, lines_written, offer_at}
use Rattle.source_model.specs.Journals.{answer_of, answers}
use Rattle.source_model.specs.Schedules.{due}
use Rattle.source_model.proofs.Events.{left_of, opened_by, right_of}
use Rattle.dsu_runs.specs.Books.{AreEntries, Entries, IsBook, Says, is_answered}

-- a book stays one in a table that has more names
pub more_names : (setup : Setup) (g : Guard) (names more : List Bytes) (book : Entries) → IsBook setup g names book
    → IsBook setup g (names ++ more) book
more_names setup g names more book b = record {
  lines = b.lines;
  open_offer = b.open_offer;
  greatest = b.greatest;
  closed = b.closed;
  answers = λ rest.
      ap (λ (n : List Bytes). map (answer_seen n) book.answers) (append_assoc names more rest) ∙ b.answers (more ++ rest);
  open_unanswered = b.open_unanswered;
  later_unanswered = b.later_unanswered;
}

-- and of a guard whose offers are the same
pub same_offers : (setup : Setup) (g after : Guard) (names : List Bytes) (book : Entries) → after.open_offer ≡ g.open_offer
    → after.greatest ≡ g.greatest → after.closed ≡ g.closed → after.answers ≡ g.answers → IsBook setup g names book
    → IsBook setup after names book
same_offers setup g after names book opened greatest closed given b = record {
  lines = b.lines;
  open_offer = b.open_offer ∙ sym opened;
  greatest = b.greatest ∙ sym greatest;
  closed = b.closed ∙ sym closed;
  answers = λ more.
      b.answers more ∙ ap (λ all. map (answer_of all) (range_with_len 1 (length setup.offers))) (sym given);
  open_unanswered = λ k is. ap (λ all. is_answered all k) given ∙ b.open_unanswered k (sym opened ∙ is);
  later_unanswered = λ k later.
      ap (λ all. is_answered all k) given ∙ b.later_unanswered k (subst (λ n. n < k) greatest later);
}

pub answers_now : (setup : Setup) (g : Guard) (names : List Bytes) (book : Entries) → IsBook setup g names book
    → map (answer_seen names) book.answers ≡ answers setup g
answers_now setup g names book b =
    ap (λ (n : List Bytes). map (answer_seen n) book.answers) (sym (append-nil names)) ∙ b.answers []

-- the start of a run
none_answered : (names : List Bytes) (n a : ℕ)
    → map (answer_seen names) (replicate n ids.NotOffered) ≡ map (answer_of []) (range_with_len a n)
none_answered names zero a = refl
none_answered names (suc n) a = ap (λ all. NotOffered ∷ all) (none_answered names n (a + 1))

pub first_book : (setup : Setup) (names : List Bytes) (lines : List ℕ) (given : List OfferAnswer)
    → lines ≡ map (λ o. o.lines) setup.offers → given ≡ replicate (length lines) ids.NotOffered
    → IsBook setup (first_guard setup) names
    (record { lines = lines; open_offer = None; greatest = 0; closed = 0; answers = given })
first_book setup names lines given same none = record {
  lines = same;
  open_offer = refl;
  greatest = refl;
  closed = refl;
  answers = λ more.
      ap (map (answer_seen (names ++ more))) none
      ∙ none_answered (names ++ more) (length lines) 1
      ∙ ap (λ n. map (answer_of []) (range_with_len 1 n)) (ap length same ∙ length-map setup.offers (λ o. o.lines));
  open_unanswered = λ k is. refl;
  later_unanswered = λ k later. refl;
}

pub first_entries : (lines : List ℕ) (given : List OfferAnswer) → length lines ≤ 63 → given ≡ replicate (length lines) ids.NotOffered
    → AreEntries (record { lines = lines; open_offer = None; greatest = 0; closed = 0; answers = given })
first_entries lines given few none = record {
  few = few;
  each = ap length none ∙ length-replicate (length lines) ids.NotOffered;
  among = omega arith;
  closed = omega arith;
  offered = λ k is. absurd (none-some k is);
}

-- the entries where an offer is opened
pub opened_entries : (book : Entries) (k : ℕ) → AreEntries book → book.greatest < k → k ≤ length book.lines
    → AreEntries (record book { open_offer = Some k; greatest = k })
opened_entries book k are later within = record {
  few = are.few;
  each = are.each;
  among = within;
  closed = let most = are.closed in omega (arith, most, later);
  offered = λ n is.
      let most = are.closed in (sym (same_Some k n is), omega (arith, most, later));
}

-- whether an offer is reached, by the lines in the book
abbrev pub reached_by : ℕ → Option ℕ → Bool
reached_by written lines = option_map_or (λ n. nat_le n written) lines false

pub reached : (setup : Setup) (g : Guard) (names : List Bytes) (book : Entries) (k written : ℕ) → IsBook setup g names book
    → written ≡ lines_written g.world → (k ≡ 0 → ⊥)
    → reached_by written (slice_get book.lines (k - 1)) ≡ is_reached g (offer_at setup k)
reached setup g names book zero written b is some = absurd (some refl)
reached setup g names book (suc n) written b is some =
    ap (λ i. reached_by written (slice_get book.lines i)) (before n)
    ∙ ap (λ (ls : List ℕ). reached_by written (slice_get ls n)) b.lines
    ∙ ap (reached_by written) (slice_get-map (λ o. o.lines) setup.offers n)
    ∙ ap (λ w. reached_by w (option_map (λ o. o.lines) (slice_get setup.offers n))) is
    ∙ by (slice_get setup.offers n)
  where
    before : (m : ℕ) → suc m - 1 ≡ m
    before m = omega arith

    by : (o : Option Offered) → reached_by (lines_written g.world) (option_map (λ o. o.lines) o) ≡ is_reached g o
    by None = refl
    by (Some offer) = refl

-- what is due
pub not_due : (setup : Setup) (g : Guard) (names : List Bytes) (book : Entries) → IsBook setup g names book
    → (book.closed ≡ book.greatest → ⊥) → None ≡ due setup g
not_due setup g names book b other = sym (by (g.closed == g.greatest) (is_reached g (offer_at setup (suc g.greatest))) refl)
  where
    same : (m n : ℕ) → (m == n) ≡ true → m ≡ n
    same m n e = grind (arith, nat_tests, e)

    by : (x y : Bool) → (g.closed == g.greatest) ≡ x → (if x && y then Some (suc g.greatest) else None) ≡ None
    by false y is = refl
    by true y is = absurd (other (b.closed ∙ same g.closed g.greatest is ∙ sym b.greatest))

-- past the last offer there is none
pub none_more : (setup : Setup) (g : Guard) (names : List Bytes) (book : Entries) (written : ℕ) (all : Bool) → IsBook setup g names book
    → written ≡ lines_written g.world → all ≡ (book.greatest == length book.lines) → all ≡ true → None ≡ due setup g
none_more setup g names book written all b is tested offered =
    sym (ap (λ y. if (g.closed == g.greatest) && y then Some (suc g.greatest) else None) never ∙ off (g.closed == g.greatest))
  where
    same : (m n k : ℕ) → (m == n) ≡ true → m ≡ k → n ≤ suc k - 1
    same m n k e f = grind (arith, nat_tests, e, f)

    never : is_reached g (offer_at setup (suc g.greatest)) ≡ false
    never =
        sym (reached setup g names book (suc g.greatest) written b is (λ e. omega (arith, e)))
        ∙ ap (reached_by written)
        (slice_get_past book.lines (suc g.greatest - 1)
        (same book.greatest (length book.lines) g.greatest (sym tested ∙ offered) b.greatest))

    off : (x : Bool) → (if x && false then Some (suc g.greatest) else None) ≡ None
    off true = refl
    off false = refl

pub due_by : (setup : Setup) (g : Guard) (names : List Bytes) (book : Entries) (next : ℕ) (there : Bool) → IsBook setup g names book
    → book.closed ≡ book.greatest → next ≡ book.greatest + 1 → there ≡ is_reached g (offer_at setup next)
    → (if there then Some next else None) ≡ due setup g
due_by setup g names book next there b all is reaches =
    ap (λ x. if x then Some next else None) reaches
    ∙ ap (λ n. if is_reached g (offer_at setup n) then Some n else None) (number book.greatest g.greatest b.greatest is)
    ∙ sym (ap (λ x. if x && is_reached g (offer_at setup (suc g.greatest)) then Some (suc g.greatest) else None)
    (equal g.closed g.greatest (sym b.closed ∙ all ∙ b.greatest)))
  where
    number : (m n : ℕ) → m ≡ n → next ≡ m + 1 → next ≡ suc n
    number m n e f = omega (arith, e, f)

    equal : (m n : ℕ) → m ≡ n → (m == n) ≡ true
    equal m n e = grind (arith, nat_tests, e)

-- whether an offer can be opened
pub may_open : (setup : Setup) (g : Guard) (names : List Bytes) (book : Entries) (k : ℕ) (there : Bool) → IsBook setup g names book
    → is_some book.open_offer ≡ false → book.greatest < k → there ≡ is_reached g (offer_at setup k) → there ≡ can_open setup g k
may_open setup g names book k there b none later reaches =
    reaches
    ∙ sym (ap (λ x. (x && nat_lt g.greatest k) && is_reached g (offer_at setup k))
    (no_open g.open_offer (ap is_some (sym b.open_offer) ∙ none))
    ∙ ap (λ x. x && is_reached g (offer_at setup k)) (less g.greatest k (subst (λ n. n < k) b.greatest later)))
  where
    no_open : (o : Option ℕ) → is_some o ≡ false → is_none o ≡ true
    no_open None e = refl
    no_open (Some n) e = absurd (true≢false e)

    less : (m n : ℕ) → m < n → nat_lt m n ≡ true
    less m n lt = grind (arith, nat_tests, lt)

-- an offer that is opened
pub opened : (setup : Setup) (g : Guard) (names : List Bytes) (book : Entries) (k : ℕ) → IsBook setup g names book
    → can_open setup g k ≡ true
    → IsBook setup (record g { open_offer = Some k; greatest = k }) names (record book { open_offer = Some k; greatest = k })
opened setup g names book k b can = record {
  lines = b.lines;
  open_offer = refl;
  greatest = refl;
  closed = b.closed;
  answers = b.answers;
  open_unanswered = λ n is.
      subst (λ m. is_answered g.answers m ≡ false) (same_Some k n is) (b.later_unanswered k later);
  later_unanswered = λ n more. b.later_unanswered n (omega (arith, later, more));
}
  where
    less : (m n : ℕ) → nat_lt m n ≡ true → m < n
    less m n e = grind (arith, nat_tests, e)

    later : g.greatest < k
    later =
        less g.greatest k
        (right_of (is_none g.open_offer) (nat_lt g.greatest k)
        (left_of (is_none g.open_offer && nat_lt g.greatest k) (is_reached g (offer_at setup k)) can))

-- the answers with one more
not_found : (given : List Answered) (k : ℕ) → is_answered given k ≡ false → find (λ a. a.offer == k) given ≡ None
not_found [] k none = refl
not_found (a ∷ given) k none = by (a.offer == k) none (not_found given k)
  where
    by : (b : Bool) → (b || is_answered given k) ≡ false → (is_answered given k ≡ false → find (λ x. x.offer == k) given ≡ None)
        → cond b (Some a) (find (λ x. x.offer == k) given) ≡ None
    by true e rest = absurd (true≢false e)
    by false e rest = rest e

abbrev one : ℕ → Answer → List Answered
one k meaning = record { offer = k; answer = meaning } ∷ []

abbrev answer_in : Option Answered → Answer
answer_in found = option_map_or (λ a. a.answer) found NotOffered

its_answer : (given : List Answered) (k : ℕ) (meaning : Answer) → is_answered given k ≡ false
    → answer_of (given ++ one k meaning) k ≡ meaning
its_answer given k meaning none =
    ap answer_in (find-append (λ a. a.offer == k) given (one k meaning))
    ∙ ap (λ o. answer_in (option_or o (find (λ a. a.offer == k) (one k meaning)))) (not_found given k none)
    ∙ ap (λ b. answer_in (cond b (Some (record { offer = k; answer = meaning })) None)) (same k)
  where
    same : (n : ℕ) → (n == n) ≡ true
    same n = grind (arith, nat_tests)

other_answer : (given : List Answered) (k n : ℕ) (meaning : Answer) → (k == n) ≡ false
    → answer_of (given ++ one k meaning) n ≡ answer_of given n
other_answer given k n meaning other =
    ap answer_in (find-append (λ a. a.offer == n) given (one k meaning))
    ∙ ap (λ b. answer_in (option_or (find (λ a. a.offer == n) given) (cond b (Some (record { offer = k; answer = meaning })) None))) other
    ∙ ap answer_in (or_none (find (λ a. a.offer == n) given))
  where
    or_none : (o : Option Answered) → option_or o None ≡ o
    or_none None = refl
    or_none (Some a) = refl

later_answers : (given : List Answered) (k a n : ℕ) (meaning : Answer) → k < a
    → map (answer_of (given ++ one k meaning)) (range_with_len a n) ≡ map (answer_of given) (range_with_len a n)
later_answers given k a zero meaning later = refl
later_answers given k a (suc n) meaning later =
    ap (λ x. x ∷ map (answer_of (given ++ one k meaning)) (range_with_len (a + 1) n))
    (other_answer given k a meaning (differs k a later))
    ∙ ap (λ xs. answer_of given a ∷ xs) (later_answers given k (a + 1) n meaning (omega (arith, later)))
  where
    differs : (i j : ℕ) → i < j → (i == j) ≡ false
    differs i j lt = grind (arith, nat_tests, lt)

answers_with : (given : List Answered) (k a n : ℕ) (meaning : Answer) → is_answered given k ≡ false → a ≤ k
    → map (answer_of (given ++ one k meaning)) (range_with_len a n)
    ≡ slice_set (map (answer_of given) (range_with_len a n)) (k - a) meaning
answers_with given k a zero meaning none from = refl
answers_with given k a (suc n) meaning none from = by (k == a) refl (answers_with given k (a + 1) n meaning none)
  where
    same : (i j : ℕ) → (i == j) ≡ true → i ≡ j
    same i j e = grind (arith, nat_tests, e)

    less : (i j : ℕ) → j ≤ i → (i == j) ≡ false → j + 1 ≤ i
    less i j le e = grind (arith, nat_tests, le, e)

    nothing : (i j : ℕ) → i ≡ j → 0 ≡ i - j
    nothing i j e = omega (arith, e)

    one_less : (i j : ℕ) → j + 1 ≤ i → suc (i - (j + 1)) ≡ i - j
    one_less i j le = omega (arith, le)

    next : (i j : ℕ) → i ≡ j → i < j + 1
    next i j e = omega (arith, e)

    rest : List Answer
    rest = map (answer_of (given ++ one k meaning)) (range_with_len (a + 1) n)

    now : List Answer
    now = map (answer_of given) (range_with_len a (suc n))

    by : (b : Bool) → (k == a) ≡ b
        → (a + 1 ≤ k → rest ≡ slice_set (map (answer_of given) (range_with_len (a + 1) n)) (k - (a + 1)) meaning)
        → map (answer_of (given ++ one k meaning)) (range_with_len a (suc n)) ≡ slice_set now (k - a) meaning
    by true is later =
        ap (λ x. x ∷ rest) (ap (answer_of (given ++ one k meaning)) (sym (same k a is)) ∙ its_answer given k meaning none)
        ∙ ap (λ xs. meaning ∷ xs) (later_answers given k (a + 1) n meaning (next k a (same k a is)))
        ∙ ap (λ i. slice_set now i meaning) (nothing k a (same k a is))
    by false is later =
        ap (λ x. x ∷ rest) (other_answer given k a meaning is)
        ∙ ap (λ xs. answer_of given a ∷ xs) (later (less k a from is))
        ∙ ap (λ i. slice_set now i meaning) (one_less k a (less k a from is))

-- an offer that is closed
pub closed : (setup : Setup) (g : Guard) (names : List Bytes) (book : Entries) (k : ℕ) (answer : OfferAnswer) (meaning : Answer)
    → AreEntries book → IsBook setup g names book → is_open g k ≡ true → Says names answer meaning
    → IsBook setup (answered k meaning g) names
    (record book { open_offer = None; closed = book.closed + 1; answers = slice_set book.answers (k - 1) answer })
closed setup g names book k answer meaning are b opens says = record {
  lines = b.lines;
  open_offer = refl;
  greatest = b.greatest;
  closed = one_more book.closed g.closed b.closed;
  answers = λ more.
      map-set (answer_seen (names ++ more)) book.answers (k - 1) answer
      ∙ ap (λ a. slice_set (map (answer_seen (names ++ more)) book.answers) (k - 1) a) (says more)
      ∙ ap (λ all. slice_set all (k - 1) meaning) (b.answers more)
      ∙ sym (answers_with g.answers k 1 (length setup.offers) meaning (b.open_unanswered k is) positive);
  open_unanswered = λ n now. absurd (none-some n now);
  later_unanswered = λ n later.
      list_any-append (λ a. a.offer == n) g.answers (one k meaning)
      ∙ ap (λ x. x || ((k == n) || false)) (b.later_unanswered n later)
      ∙ ap (λ x. x || false) (differs k n (subst (λ m. m < n) (sym (offered.0 ∙ b.greatest)) later));
}
  where
    is : g.open_offer ≡ Some k
    is = opened_by k g.open_offer opens

    offered : (k ≡ book.greatest) × (book.closed < book.greatest)
    offered = are.offered k (b.open_offer ∙ is)

    positive : 1 ≤ k
    positive = omega (arith, offered.0, offered.1)

    one_more : (m n : ℕ) → m ≡ n → m + 1 ≡ suc n
    one_more m n e = omega (arith, e)

    differs : (i j : ℕ) → i < j → (i == j) ≡ false
    differs i j lt = grind (arith, nat_tests, lt)

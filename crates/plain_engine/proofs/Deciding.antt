-- The decision on an offer.
use Rattle.std.proofs.Common.{Bor, ◌≡◌, ℕ, zero, suc, ◌<◌, Bool, true, false, List, [], ◌∷◌, ◌++◌, All, Contains, map, length, slice_get, Option, Some, None, refl, sym, ◌∙◌, ap, subst, arith}
use Rattle.std.specs.Prelude.{◌&&◌, ◌||◌, not, option_copied, IfNone, IfSome, if◌then◌else◌}
use Rattle.patch_build.specs.declared.patch.Versions.{Versions}
use Rattle.patch_build.specs.Versions.{AreVersions}
use Rattle.std.proofs.lemmas.List.{append-nil, length-map}
use Rattle.std.proofs.lemmas.Option.{none-some, same_Some}
use Rattle.run_types.specs.declared.run.Event.TheVariants.{Decide}
use Rattle.c_tree.specs.BareDef.{BareDef}
use Rattle.c_tree.specs.BareExpr.{Bytes}
use Rattle.c_tree.specs.declared.def.Program.{Program}
use Rattle.c_semantics.specs.Changes.{changed, interface}
use Rattle.c_semantics.specs.SourceTexts.{Text, text_of}
use Rattle.c_semantics.specs.Store.{store}
use Rattle.con_freeness.specs.Verdicts.{refusal_seen}
use Rattle.con_freeness.specs.declared.refusal.Refusal.{Refusal as RefusalOfIds}
use Rattle.source_model.specs.declared.patch.NotPatch.{NotPatch}
use Rattle.source_model.specs.Answers.{Answer, NoPatch, RefusedFor}
use Rattle.source_model.specs.Guards.{Guard, Offer, Rules, Setup, answered, bodies_of, decide, has_ended, is_open, offer_at, pinned_from}
use Rattle.source_model.specs.Guards as guard
use Rattle.source_model.specs.JournalLaws.{texts_of}
use Rattle.source_model.specs.Journals.{happens}
use Rattle.source_model.specs.Patches.{last_definitions}
use Rattle.source_model.specs.Worlds.{World, is_over}
use Rattle.run_machine.specs.Machines.{Shown}
use Rattle.offer_decision.specs.declared.answer.Decision.{Decision}
use Rattle.offer_decision.specs.declared.answer.Decision.TheVariants as decision
use Rattle.offer_decision.specs.declared.seat.Seat.{Seat as Seen}
use Rattle.offer_decision.specs.Decided.{IsDecision, verdict_on}
use Rattle.con_freeness.specs.Decisions.{AreKnown}
use Rattle.offer_decision.specs.Seats.{AreSeats as AreSeatsSeen, IsSeat as IsSeatSeen, AreInTransactions}
use Rattle.offer_decision.proofs.ChangedNames.{changed_known, interface_known}
use Rattle.offer_decision.proofs.Decided.{no_patch_is_decided, refusal_is_decided}
use Rattle.offer_decision.proofs.Refusals.{refusals_stay}
use Rattle.offer_decision.proofs.Slots.{map_at}
use Rattle.dsu_runs.specs.Books.{Entries, IsBook, Says}
use Rattle.effects.specs.Rows.{AreRows}
use Rattle.dsu_runs.proofs.Happening.{any_are_rows, any_rules}
use Rattle.source_model.specs.declared.answer.OfferAnswer.TheVariants as ids
use Rattle.plain_engine.specs.declared.seat.Seat.{Seat}
use Rattle.plain_engine.specs.Kept.{IsOfVersion}
use Rattle.plain_engine.specs.Plain.{AreSeats, IsRunAt, IsStateAt, ShownState}
use Rattle.plain_engine.specs.Seen.{AreSeen, AreWithin, mark_among}
use Rattle.plain_engine.specs.Steps.{Happened, IsDecided, Stayed}
use Rattle.plain_engine.proofs.KnownMarks.{AreNamed, pins_same, seat_among, stored_named, verdict_same}
use Rattle.plain_engine.proofs.QuietEvents.{closed_at}
use Rattle.plain_engine.proofs.Reaching.{then_reached}
use Rattle.plain_engine.proofs.SlotsAfter.{alive_is}

-- ---- when a decision can happen

pub decides_none : (a b : Bool) (o : Option Guard) → (a ≡ false → b ≡ true → o ≡ None) → (if not a && b then o else None) ≡ None
decides_none true b o h = refl
decides_none false false o h = refl
decides_none false true o h = h refl refl

pub decides_one : (a b : Bool) (o : Option Guard) → a ≡ false → b ≡ true → (if not a && b then o else None) ≡ o
decides_one a b o going offered = ap (λ x. if not x && b then o else None) going ∙ ap (λ x. if x then o else None) offered

pub never_decides : (setup : Setup) (g : Guard) (k : ℕ) (s : ShownState) → IsStateAt setup g s
    → (has_ended g ≡ false → is_open g k ≡ true → (rules : Rules) → AreRows rules.row → decide rules g k (offer_at setup k) ≡ None)
    → Stayed setup (Decide k) g s
never_decides setup g k s at none = record {
  never = λ rules rows.
      decides_none (has_ended g) (is_open g k) (decide rules g k (offer_at setup k)) (λ going offered. none going offered rules rows);
  stays = at;
}

-- ---- the texts

-- the text of an offer
text_there : (os : List Offer) (j : ℕ) (q : Text) → slice_get (map (λ (o : Offer). o.text) os) j ≡ Some q
    → (lines : ℕ) × (slice_get os j ≡ Some (record { text = q; lines = lines }))
text_there [] j q e = absurd (none-some q e)
text_there (o ∷ os) zero q e = (o.lines, ap (λ t. Some (record { text = t; lines = o.lines })) (same_Some o.text q e))
text_there (o ∷ os) (suc j) q e = text_there os j q e

get_mapped : {A B : Type 0} (f : A → B) (xs : List A) (n : ℕ) (x : A) → slice_get xs n ≡ Some x → slice_get (map f xs) n ≡ Some (f x)
get_mapped f [] n x e = absurd (none-some x e)
get_mapped f (y ∷ xs) zero x e = ap (λ z. Some (f z)) (same_Some y x e)
get_mapped f (y ∷ xs) (suc n) x e = get_mapped f xs n x e

pub offer_is : (setup : Setup) (g : Guard) (r : Shown) (k : ℕ) (next : Program) → IsRunAt setup g r → 0 < k
    → slice_get r.trees k ≡ Some next → (lines : ℕ) × (offer_at setup k ≡ Some (record { text = text_of next; lines = lines }))
offer_is setup g r zero next at some e = absurd (omega (arith, some))
offer_is setup g r (suc j) next at some e =
    text_there setup.offers j (text_of next)
    (ap (λ ts. slice_get ts (suc j)) (sym at.trees) ∙ get_mapped text_of r.trees (suc j) next e)

-- an offer without a text isn't there
no_text_there : (os : List Offer) (j : ℕ) → slice_get (map (λ (o : Offer). o.text) os) j ≡ None → slice_get os j ≡ None
no_text_there [] j e = refl
no_text_there (o ∷ os) zero e = absurd (none-some o.text (sym e))
no_text_there (o ∷ os) (suc j) e = no_text_there os j e

none_mapped : {A B : Type 0} (f : A → B) (xs : List A) (n : ℕ) → slice_get xs n ≡ None → slice_get (map f xs) n ≡ None
none_mapped f [] n e = refl
none_mapped f (x ∷ xs) zero e = absurd (none-some x (sym e))
none_mapped f (x ∷ xs) (suc n) e = none_mapped f xs n e

pub no_offer : (setup : Setup) (g : Guard) (r : Shown) (k : ℕ) → IsRunAt setup g r → 0 < k
    → slice_get r.trees k ≡ None → offer_at setup k ≡ None
no_offer setup g r zero at some e = absurd (omega (arith, some))
no_offer setup g r (suc j) at some e =
    no_text_there setup.offers j
    (ap (λ ts. slice_get ts (suc j)) (sym at.trees) ∙ none_mapped text_of r.trees (suc j) e)

-- the text in force is there
pub no_last : {A : Type 0} (setup : Setup) (g : Guard) (s : ShownState) → IsStateAt setup g s → slice_get s.run.trees s.last ≡ None → A
no_last setup g s at e = absurd (none-some at.versions.tree (sym e ∙ at.versions.numbered))

-- its definitions among the texts of the run
definitions_of : (o : Offer) → List BareDef
definitions_of o = o.text.definitions

texts_are : (first : Text) (os : List Offer) → map (λ (t : Text). t.definitions) (first ∷ map (λ (o : Offer). o.text) os)
    ≡ first.definitions ∷ map (λ (o : Offer). o.text.definitions) os
texts_are first os = ap (λ ts. first.definitions ∷ ts) (each os)
  where
    each : (os : List Offer) → map (λ (t : Text). t.definitions) (map (λ (o : Offer). o.text) os) ≡ map (λ (o : Offer). o.text.definitions) os
    each [] = refl
    each (o ∷ os) = ap (λ ts. o.text.definitions ∷ ts) (each os)

pub text_is : (setup : Setup) (g : Guard) (r : Shown) (k : ℕ) (next : Program) → IsRunAt setup g r
    → slice_get r.trees k ≡ Some next → slice_get (texts_of setup) k ≡ Some (text_of next).definitions
text_is setup g r k next at e =
    ap (λ ts. slice_get ts k) (sym (texts_are setup.first setup.offers) ∙ ap (map (λ (t : Text). t.definitions)) (sym at.trees))
    ∙ get_mapped (λ (t : Text). t.definitions) (map text_of r.trees) k (text_of next) (get_mapped text_of r.trees k next e)

-- ---- the slots

pub seats_for : (g : Guard) (r : Shown) (seats : List Seat) (names : List Bytes) (count : ℕ) (all : List Seen) → AreSeats g r seats
    → length g.versions ≡ count → has_ended g ≡ false → is_over g.world ≡ false → AreSeen r.words names count seats all
    → AreSeatsSeen names (store g.versions) all (map (seat_among names) g.seats)
seats_for g r seats names count all are many going on seen = record {
  many = length-map g.seats (seat_among names) ∙ are.many;
  each = λ n one slot at_one at_slot.
      let own = map_at (seat_among names) g.seats n slot at_slot in
      let was = seen n one at_one in
      let base = are.each going n was.0 own.0 was.1 own.1 in
      subst (IsSeatSeen names (store g.versions) one) own.2 (record {
        mark =
            ap (mark_among names) (base.mark on)
            ∙ was.2.origin.mark (bodies_of g) (subst (λ c. IsOfVersion c was.0.kept) many (base.version on));
        known = was.2.origin.known;
        pinned = base.pinned ∙ was.2.pinned;
      });
}

pub within_for : (g : Guard) (all : List Seen) → has_ended g ≡ false → AreWithin g.world all → AreInTransactions g.world all
within_for g all going within n seen at = ap guard.in_transaction (alive_is g.world n going) ∙ within n seen at

-- ---- what is decided

module _ (rules : Rules) (rows : AreRows rules.row) (names : List Bytes) (texts : List Text) (slots : List guard.Seat) (v : Versions)
    (next : Program) (same : v.names.now ≡ names) (are : AreVersions texts v) where
  named : AreNamed names (store texts)
  named = subst (λ ns. AreNamed ns (store texts)) same (stored_named v.names.now (store texts) v.store.now are.store_is)

  abbrev p : List BareDef
  p = last_definitions texts

  abbrev q : List BareDef
  q = (text_of next).definitions

  changed_in : All (Contains names) (changed p q)
  changed_in = subst (λ ns. All (Contains ns) (changed p q)) same (changed_known texts v q are)

  interface_in : All (Contains names) (interface p q)
  interface_in = subst (λ ns. All (Contains ns) (interface p q)) same (interface_known texts v q are)

  verdict_is : verdict_on rules (store texts) (map (seat_among names) slots) (changed p q) (interface p q)
      ≡ verdict_on rules (store texts) slots (changed p q) (interface p q)
  verdict_is = verdict_same names (store texts) named rules rows (changed p q) (interface p q) changed_in interface_in 0 slots

  pins_are : (w : World)
      → map (λ (s : guard.Seat). s.pinned) (pinned_from rules (store texts) (changed p q) w 0 (map (seat_among names) slots))
      ≡ map (λ (s : guard.Seat). s.pinned) (pinned_from rules (store texts) (changed p q) w 0 slots)
  pins_are w = pins_same names (store texts) named rules rows (changed p q) (interface p q) changed_in interface_in w 0 slots

-- a decision over the slots with the marks that the names have is one over the slots
same_decision : (rules : Rules) → AreRows rules.row → (names : List Bytes) (texts : List Text) (slots : List guard.Seat) (v : Versions)
    (next : Program) (seats : List Seen) (d : Decision) → v.names.now ≡ names → AreVersions texts v
    → IsDecision rules texts (map (seat_among names) slots) v next seats d → IsDecision rules texts slots v next seats d
same_decision rules rows names texts slots v next seats (decision.NotPatch cause) same are says = says
same_decision rules rows names texts slots v next seats (decision.Refused r) same are says = (
  says.0,
  record { verdict_is = sym (verdict_is rules rows names texts slots v next same are) ∙ says.1.verdict_is; known = says.1.known },
)
same_decision rules rows names texts slots v next seats (decision.Admitted patch pins) same are says = (
  says.0,
  record {
    verdict_is = sym (verdict_is rules rows names texts slots v next same are) ∙ says.1.verdict_is;
    pins_are = λ w within. sym (pins_are rules rows names texts slots v next same are w) ∙ says.1.pins_are w within;
  },
  says.2,
)

pub not_over : (g : Guard) → has_ended g ≡ false → g.world.misused ≡ false → is_over g.world ≡ false
not_over g going right = ap (λ b. b || has_ended g) right ∙ going

module _ (setup : Setup) (g : Guard) (k : ℕ) (s : ShownState) (at : IsStateAt setup g s) (going : has_ended g ≡ false)
    (right : g.world.misused ≡ false) (offered : is_open g k ≡ true) (some : 0 < k) where
  module _ (d : Decision) (is : IsDecided s k d) where
    last_is : g.versions ≡ at.versions.before ++ text_of is.at.last ∷ []
    last_is =
        at.versions.last_is
        ∙ ap (λ (p : Program). at.versions.before ++ text_of p ∷ [])
        (same_Some at.versions.tree is.at.last (sym at.versions.numbered ∙ is.at.last_at))

    pub says : (rules : Rules) → AreRows rules.row → IsDecision rules g.versions g.seats is.versions is.next is.seats d
    says rules rows =
        let names = is.versions.names.now in
        let are = is.at.are g.versions at.versions.before at.versions.installed last_is in
        let seen = subst (λ ns. AreSeen s.run.words ns s.installed.count s.seats is.seats) (sym is.at.same.names_are) is.seen in
        same_decision rules rows names g.versions g.seats is.versions is.next is.seats d refl are
        (is.says rules g.versions (map (seat_among names) g.seats) rows are
        (seats_for g s.run s.seats names s.installed.count is.seats at.seats at.versions.installed.count_is going (not_over g going right) seen))

    offer : (lines : ℕ) × (offer_at setup k ≡ Some (record { text = text_of is.next; lines = lines }))
    offer = offer_is setup g s.run k is.next at.run some is.at.next_at

  closes : (a : Answer) (book : Entries) → ((rules : Rules) → AreRows rules.row → decide rules g k (offer_at setup k) ≡ Some (answered k a g))
      → IsBook setup (answered k a g) s.installed.names book → Happened setup (Decide k) g (record s { book = book }) []
  closes a book decided is = record {
    after = answered k a g;
    happens = happens_so;
    there = closed_at setup g k a s book at is (then_reached setup (Decide k) g (answered k a g) at.reached happens_so);
    grew = sym (append-nil g.world.output);
  }
    where
      happens_so : (rules : Rules) → AreRows rules.row → happens rules setup (Decide k) g ≡ Some (answered k a g)
      happens_so rules rows =
          decides_one (has_ended g) (is_open g k) (decide rules g k (offer_at setup k)) going offered ∙ decided rules rows

  -- it is no patch
  pub no_patch : (cause : NotPatch) (book : Entries) → IsDecided s k (decision.NotPatch cause)
      → IsBook setup (answered k (NoPatch cause) g) s.installed.names book → Happened setup (Decide k) g (record s { book = book }) []
  no_patch cause book is booked =
      let o = offer (decision.NotPatch cause) is in
      closes (NoPatch cause) book
      (λ rules rows.
      ap (decide rules g k) o.1
      ∙ no_patch_is_decided rules g k o.0 is.versions is.next is.seats cause (says (decision.NotPatch cause) is rules rows))
      booked

  -- it is refused
  refused_as : (r : RefusalOfIds) (is : IsDecided s k (decision.Refused r))
      → refusal_seen is.versions.names.now r ≡ refusal_seen s.installed.names r
  refused_as r is = ap (λ names. refusal_seen names r) is.at.same.names_are

  pub refused : (r : RefusalOfIds) (book : Entries) → IsDecided s k (decision.Refused r)
      → IsBook setup (answered k (RefusedFor (refusal_seen s.installed.names r)) g) s.installed.names book
      → Happened setup (Decide k) g (record s { book = book }) []
  refused r book is booked =
      let o = offer (decision.Refused r) is in
      closes (RefusedFor (refusal_seen s.installed.names r)) book
      (λ rules rows.
      ap (decide rules g k) o.1
      ∙ refusal_is_decided rules g k o.0 is.versions is.next is.seats r (says (decision.Refused r) is rules rows)
      ∙ ap (λ x. Some (answered k (RefusedFor x) g)) (refused_as r is))
      booked

  pub refusal_says : (r : RefusalOfIds) → IsDecided s k (decision.Refused r)
      → Says s.installed.names (ids.Refused r) (RefusedFor (refusal_seen s.installed.names r))
  refusal_says r is more =
      ap RefusedFor
      (refusals_stay s.installed.names more r
      (subst (λ names. AreKnown names r.effect) is.at.same.names_are (says (decision.Refused r) is any_rules any_are_rows).1.known))

-- a text that was found
pub found : {A : Type 0} (o : Option (Bor A)) (b : Bor A) (xs : List A) (n : ℕ) → option_copied o ≡ slice_get xs n → o ≡ Some b
    → slice_get xs n ≡ Some b.now
found o b xs n e is = sym e ∙ ap option_copied is

-- a text that wasn't
pub not_found : {A : Type 0} (o : Option (Bor A)) (xs : List A) (n : ℕ) → option_copied o ≡ slice_get xs n → o ≡ None
    → slice_get xs n ≡ None
not_found o xs n e is = sym e ∙ ap option_copied is

-- what holds where there is nothing
pub none_there : {A X : Type 0} (o : Option A) → o ≡ None → IfNone o X → X
none_there None e x = x
none_there (Some d) e x = absurd (none-some d (sym e))

-- and where there is something
pub some_there : {A : Type 0} (F : A → Type 0) (o : Option A) (x : A) → o ≡ Some x → IfSome o F → F x
some_there F o x e h = subst (λ p. IfSome p F) e h

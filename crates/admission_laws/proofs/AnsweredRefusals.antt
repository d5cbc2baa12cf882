-- Each refusal that a run answers is the verdict at a decision of its journal.
use Rattle.std.proofs.Common.{◌≡◌, ℕ, Bool, true, false, ◌&&◌, ◌||◌, not, List, [], ◌∷◌, ◌++◌, map, Option, Some, None, ◌⊎◌, inl, inr, refl, sym, ap, subst, ◌∙◌, if◌then◌else◌, option_map, option_and_then}
use Rattle.std.specs.Prelude.{◌==◌, find, is_none}
use Rattle.std.specs.Option.{option_map_or}
use Rattle.std.proofs.lemmas.Bool.Decides.{Decides-eqb}
use Rattle.run_types.specs.declared.run.Event.{Event}
use Rattle.run_types.specs.declared.run.Event.TheVariants.{Move, CheckIn, Offer, Decide, Withdraw}
use Rattle.con_freeness.specs.Verdicts.{Verdict, Admitted, Refused, Refusal}
use Rattle.con_freeness.specs.Rows.{verdict}
use Rattle.c_semantics.specs.Changes.{changed, interface}
use Rattle.source_model.specs.declared.patch.NotPatch.{NotPatch}
use Rattle.source_model.specs.Answers.{Answer, RefusedFor, NoPatch, Withdrawn, NotOffered}
use Rattle.source_model.specs.Worlds.{World}
use Rattle.source_model.specs.Moves.{move}
use Rattle.source_model.specs.Runs.{install}
use Rattle.source_model.specs.Patches.{last_definitions, not_patch}
use Rattle.source_model.specs.Guards.{Guard, Setup, Rules, Answered, first_guard, has_ended, bodies_of, seat_of, moved, checked_in, offer_at, can_open, is_open, decide, decided, decided_by, answered, installed_over, in_force}
use Rattle.source_model.specs.Guards as guard
use Rattle.source_model.specs.Journals.{happens, play, guard_if, answer_of}
use Rattle.source_model.proofs.Events.{AllOf, of_outcome}
use Rattle.admission_laws.specs.RefusalLaws.{IsRefusedAt, RefusalsNameTheLeast, AnsweredRefusalsNameTheLeast}

-- the verdict on an offer by the guard
abbrev verdict_on : Rules → Guard → guard.Offer → Verdict
verdict_on rules g o =
    verdict (map (in_force rules (bodies_of g)) g.seats) (changed (last_definitions g.versions) o.text.definitions)
    (interface (last_definitions g.versions) o.text.definitions)

-- an event decides an offer, which is refused
record Refuses (rules : Rules) (setup : Setup) (e : Event) (g : Guard) (k : ℕ) (r : Refusal) : Type 0 where
  decides : e ≡ Decide k
  offer : guard.Offer
  offered : offer_at setup k ≡ Some offer
  refused : verdict_on rules g offer ≡ Refused r

-- an event leaves the answers as they are, or adds one; a refusal is that of a decision
record Adds (rules : Rules) (setup : Setup) (e : Event) (g after : Guard) : Type 0 where
  one : Answered
  added : after.answers ≡ g.answers ++ one ∷ []
  refused : (r : Refusal) → one.answer ≡ RefusedFor r → Refuses rules setup e g one.offer r

Answers : Rules → Setup → Event → Guard → Guard → Type 0
Answers rules setup e g after = (after.answers ≡ g.answers) ⊎ Adds rules setup e g after

same : (a b : Refusal) → RefusedFor a ≡ RefusedFor b → a ≡ b
same a b e = cc

module _ (rules : Rules) (setup : Setup) (e : Event) (g : Guard) where
  -- another answer than a refusal
  adds_other : (k : ℕ) (a : Answer) (after : Guard) → after.answers ≡ g.answers ++ record { offer = k; answer = a } ∷ []
      → ((r : Refusal) → a ≡ RefusedFor r → ⊥) → Answers rules setup e g after
  unfolding Answers
  adds_other k a after is other =
      inr (record { one = record { offer = k; answer = a }; added = is; refused = λ r same. absurd (other r same) })

  if_test : (b : Bool) (after : Guard) → Answers rules setup e g after → AllOf (Answers rules setup e g) (guard_if b after)
  if_test true after x = x
  if_test false after x = tt

  if_open : (b : Bool) (o : Option Guard) → AllOf (Answers rules setup e g) o → AllOf (Answers rules setup e g) (if b then o else None)
  if_open true o x = x
  if_open false o x = tt

  unless : (b : Bool) (o : Option Guard) → AllOf (Answers rules setup e g) o → AllOf (Answers rules setup e g) (if b then None else o)
  unless true o x = tt
  unless false o x = x

  by_world : (f : World → Guard) (o : Option World) → ((w : World) → Answers rules setup e g (f w)) → AllOf (Answers rules setup e g) (option_map f o)
  by_world f None x = tt
  by_world f (Some w) x = x w

  module _ (k : ℕ) (decides : e ≡ Decide k) (o : guard.Offer) (at : offer_at setup k ≡ Some o) where
    by_verdict : (v : Verdict) → verdict_on rules g o ≡ v
        → AllOf (Answers rules setup e g) (decided_by rules g k o.text (changed (last_definitions g.versions) o.text.definitions) v)
    unfolding Answers
    by_verdict Admitted is =
        by_world (installed_over rules g k o.text (changed (last_definitions g.versions) o.text.definitions)) (install g.world (Some o.text.definitions))
        (λ w. adds_other k _ (installed_over rules g k o.text (changed (last_definitions g.versions) o.text.definitions) w) refl (λ r same. cc))
    by_verdict (Refused r) is =
        inr (record {
          one = record { offer = k; answer = RefusedFor r };
          added = refl;
          refused = λ q again. record {
            decides = decides;
            offer = o;
            offered = at;
            refused = is ∙ ap Refused (same r q again);
          };
        })

    by_patch : (cause : Option NotPatch) → AllOf (Answers rules setup e g) (decided rules g k (last_definitions g.versions) o.text cause)
    by_patch (Some cause) = adds_other k (NoPatch cause) (answered k (NoPatch cause) g) refl (λ r same. cc)
    by_patch None = by_verdict (verdict_on rules g o) refl

  by_offer : (k : ℕ) → e ≡ Decide k → (o : Option guard.Offer) → offer_at setup k ≡ o → AllOf (Answers rules setup e g) (decide rules g k o)
  by_offer k decides None at = tt
  by_offer k decides (Some o) at = by_patch k decides o at (not_patch (bodies_of g) g.versions o.text)

each_answers : (rules : Rules) (setup : Setup) (e : Event) (g : Guard) → AllOf (Answers rules setup e g) (happens rules setup e g)
unfolding Answers
each_answers rules setup (Move t) g =
    unless rules setup (Move t) g (has_ended g || (seat_of g t).at_check_in) (option_map (moved g t) (move g.world t))
    (by_world rules setup (Move t) g (moved g t) (move g.world t) (λ w. inl refl))
each_answers rules setup (CheckIn t) g =
    if_test rules setup (CheckIn t) g (not (has_ended g) && (seat_of g t).at_check_in && is_none g.open_offer) (checked_in (bodies_of g) g t)
    (inl refl)
each_answers rules setup (Offer k) g =
    if_test rules setup (Offer k) g (not (has_ended g) && can_open setup g k) (record g { open_offer = Some k; greatest = k }) (inl refl)
each_answers rules setup (Decide k) g =
    if_open rules setup (Decide k) g (not (has_ended g) && is_open g k) (decide rules g k (offer_at setup k))
    (by_offer rules setup (Decide k) g k refl (offer_at setup k) refl)
each_answers rules setup (Withdraw k) g =
    if_test rules setup (Withdraw k) g (not (has_ended g) && is_open g k) (answered k Withdrawn g)
    (adds_other rules setup (Withdraw k) g k Withdrawn (answered k Withdrawn g) refl (λ r same. cc))

-- ---- along a journal

-- offer k is among some answers as refused
Has : List Answered → ℕ → Refusal → Type 0
Has [] k r = ⊥
Has (a ∷ more) k r = ((a.offer ≡ k) × (a.answer ≡ RefusedFor r)) ⊎ Has more k r

more_has : (more : List Answered) (one : Answered) (k : ℕ) (r : Refusal) → Has (more ++ one ∷ []) k r
    → Has more k r ⊎ ((one.offer ≡ k) × (one.answer ≡ RefusedFor r))
unfolding Has
more_has [] one k r (inl x) = inr x
more_has [] one k r (inr x) = absurd x
more_has (a ∷ more) one k r (inl x) = inl (inl x)
more_has (a ∷ more) one k r (inr x) = elim (more_has more one k r x) [ inl y ↦ inl (inr y) | inr y ↦ inr y ]

-- where it is decided, from a guard on
record From (rules : Rules) (setup : Setup) (events : List Event) (start : Guard) (k : ℕ) (r : Refusal) : Type 0 where
  before : List Event
  later : List Event
  in_order : events ≡ before ++ Decide k ∷ later
  mid : Guard
  reached : play rules setup before start ≡ Some mid
  offer : guard.Offer
  offered : offer_at setup k ≡ Some offer
  refused : verdict_on rules mid offer ≡ Refused r

now_refused : (rules : Rules) (setup : Setup) (e : Event) (es : List Event) (g mid : Guard) (k : ℕ) (r : Refusal)
    → Answers rules setup e g mid → Has mid.answers k r → Has g.answers k r ⊎ From rules setup (e ∷ es) g k r
unfolding Answers Has
now_refused rules setup e es g mid k r (inl same) has = inl (subst (λ a. Has a k r) same has)
now_refused rules setup e es g mid k r (inr x) has = by (more_has g.answers x.one k r (subst (λ a. Has a k r) x.added has))
  where
    by : Has g.answers k r ⊎ ((x.one.offer ≡ k) × (x.one.answer ≡ RefusedFor r)) → Has g.answers k r ⊎ From rules setup (e ∷ es) g k r
    by (inl before) = inl before
    by (inr is) =
        let y = x.refused r is.1 in
        inr (record {
          before = [];
          later = es;
          in_order = ap (λ d. d ∷ es) (y.decides ∙ ap Decide is.0);
          mid = g;
          reached = refl;
          offer = y.offer;
          offered = subst (λ n. offer_at setup n ≡ Some y.offer) is.0 y.offered;
          refused = y.refused;
        })

later_refused : (rules : Rules) (setup : Setup) (e : Event) (es : List Event) (g mid : Guard) (k : ℕ) (r : Refusal)
    → happens rules setup e g ≡ Some mid → From rules setup es mid k r → From rules setup (e ∷ es) g k r
later_refused rules setup e es g mid k r is x = record {
  before = e ∷ x.before;
  later = x.later;
  in_order = ap (λ es. e ∷ es) x.in_order;
  mid = x.mid;
  reached = ap (option_and_then (play rules setup x.before)) is ∙ x.reached;
  offer = x.offer;
  offered = x.offered;
  refused = x.refused;
}

first_some : (f : Guard → Option Guard) (o : Option Guard) (g : Guard) → option_and_then f o ≡ Some g → (mid : Guard) × (o ≡ Some mid) × (f mid ≡ Some g)
first_some f None g e = cc
first_some f (Some mid) g e = (mid, refl, e)

along : (rules : Rules) (setup : Setup) (events : List Event) (start g : Guard) (k : ℕ) (r : Refusal)
    → play rules setup events start ≡ Some g → Has g.answers k r → Has start.answers k r ⊎ From rules setup events start k r
along rules setup [] start g k r legal has = inl (subst (λ h. Has h.answers k r) (sym (item start g legal)) has)
  where
    item : (a b : Guard) → Some a ≡ Some b → a ≡ b
    item a b e = cc
along rules setup (e ∷ es) start g k r legal has =
    let x = first_some (play rules setup es) (happens rules setup e start) g legal in
    elim (along rules setup es x.0 g k r x.2 has) [
      | inl before ↦ now_refused rules setup e es start x.0 k r
          (of_outcome (Answers rules setup e start) (happens rules setup e start) x.0 x.1 (each_answers rules setup e start)) before
      | inr later ↦ inr (later_refused rules setup e es start x.0 k r x.1 later)
    ]

-- the answer that is found
found : (given : List Answered) (k : ℕ) (r : Refusal) → answer_of given k ≡ RefusedFor r → Has given k r
unfolding Has
found [] k r e = cc
found (a ∷ more) k r e = by (a.offer == k) refl e (found more k r)
  where
    by : (b : Bool) → (a.offer == k) ≡ b
        → option_map_or (λ x. x.answer) (if b then Some a else find (λ a. a.offer == k) more) NotOffered ≡ RefusedFor r
        → (answer_of more k ≡ RefusedFor r → Has more k r) → Has (a ∷ more) k r
    by true is e rest = inl ((Decides-eqb a.offer k).0 is, e)
    by false is e rest = inr (rest e)

pub answered_refusals_name_the_least : RefusalsNameTheLeast → AnsweredRefusalsNameTheLeast
unfolding Has
answered_refusals_name_the_least names rules setup events g k r legal e =
    by (along rules setup events (first_guard setup) g k r legal (found g.answers k r e))
  where
    by : Has [] k r ⊎ From rules setup events (first_guard setup) k r → IsRefusedAt rules setup events k r
    by (inl none) = absurd none
    by (inr x) = record {
      before = x.before;
      later = x.later;
      in_order = x.in_order;
      guard = x.mid;
      reached = x.reached;
      offer = x.offer;
      offered = x.offered;
      refusal = names (map (in_force rules (bodies_of x.mid)) x.mid.seats)
          (changed (last_definitions x.mid.versions) x.offer.text.definitions)
          (interface (last_definitions x.mid.versions) x.offer.text.definitions) r x.refused;
    }

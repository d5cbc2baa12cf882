-- A journal depends on rows only where an offer is decided, and there on the rows in force alone.
use Rattle.std.proofs.Common.{◌≡◌, ℕ, suc, length, Bool, true, false, ◌&&◌, ◌||◌, not, List, [], ◌∷◌, ◌++◌, map, Option, Some, None, refl, sym, ap, ap₂, ◌∙◌, if◌then◌else◌, option_map, option_and_then}
use Rattle.std.proofs.lemmas.Bool.{and_parts}
use Rattle.run_types.specs.declared.run.Event.{Event}
use Rattle.run_types.specs.declared.run.Event.TheVariants.{Move, CheckIn, Offer, Decide, Withdraw}
use Rattle.c_semantics.specs.Changes.{changed, interface}
use Rattle.c_semantics.specs.SourceTexts.{Text}
use Rattle.c_semantics.specs.Store.{Body}
use Rattle.con_freeness.specs.Verdicts.{Verdict, Admitted, Refused}
use Rattle.con_freeness.specs.Rows.{Names, InForce, meets, verdict}
use Rattle.source_model.specs.declared.patch.NotPatch.{NotPatch}
use Rattle.source_model.specs.Worlds.{World, alive_in}
use Rattle.source_model.specs.Runs.{install}
use Rattle.source_model.specs.Answers.{Installed}
use Rattle.source_model.specs.Patches.{last_definitions, not_patch}
use Rattle.source_model.specs.Guards.{Guard, Seat, Setup, Rules, first_guard, has_ended, bodies_of, can_open, is_open, offer_at, decide, decided, decided_by, answered, in_force, in_transaction, pinned_from, installed_over}
use Rattle.source_model.specs.Guards as guard
use Rattle.source_model.specs.Journals.{happens, play, guard_after, guard_if}

-- events in two parts
in_parts : (rules : Rules) (setup : Setup) (a b : List Event) (g : Guard)
    → play rules setup (a ++ b) g ≡ option_and_then (play rules setup b) (play rules setup a g)
in_parts rules setup [] b g = refl
in_parts rules setup (e ∷ a) b g = by (happens rules setup e g) (in_parts rules setup a b)
  where
    by : (o : Option Guard) → ((mid : Guard) → play rules setup (a ++ b) mid ≡ option_and_then (play rules setup b) (play rules setup a mid))
        → option_and_then (play rules setup (a ++ b)) o
        ≡ option_and_then (play rules setup b) (option_and_then (play rules setup a) o)
    by None rest = refl
    by (Some mid) rest = rest mid

module _ (a b : Rules) where
  -- the rows in force by both are the same
  abbrev pub Agree : Guard → Type 0
  Agree g = map (in_force a (bodies_of g)) g.seats ≡ map (in_force b (bodies_of g)) g.seats

  -- ---- a decision
  head : (x y : InForce) (xs ys : List InForce) → x ∷ xs ≡ y ∷ ys → x ≡ y
  head x y xs ys e = cc

  tail : (x y : InForce) (xs ys : List InForce) → x ∷ xs ≡ y ∷ ys → xs ≡ ys
  tail x y xs ys e = cc

  same_pins : (bodies : List Body) (names : Names) (w : World) (n : ℕ) (seats : List Seat)
      → map (in_force a bodies) seats ≡ map (in_force b bodies) seats
      → pinned_from a bodies names w n seats ≡ pinned_from b bodies names w n seats
  same_pins bodies names w n [] e = refl
  same_pins bodies names w n (s ∷ ss) e =
      ap₂ (λ x xs. x ∷ xs)
      (ap (λ x. record s { pinned = s.pinned || (in_transaction (alive_in w n) && meets names x.row.prior) })
      (head (in_force a bodies s) (in_force b bodies s) (map (in_force a bodies) ss) (map (in_force b bodies) ss) e))
      (same_pins bodies names w (suc n) ss
      (tail (in_force a bodies s) (in_force b bodies s) (map (in_force a bodies) ss) (map (in_force b bodies) ss) e))

  module _ (g : Guard) (agree : Agree g) (k : ℕ) (q : Text) where
    same_install : (names : Names) (o : Option World) → option_map (installed_over a g k q names) o ≡ option_map (installed_over b g k q names) o
    same_install names None = refl
    same_install names (Some w) =
        ap (λ seats. Some (answered k (Installed (suc (length g.versions))) (record g { world = w; seats = seats; versions = g.versions ++ q ∷ [] })))
        (same_pins (bodies_of g) names g.world 0 g.seats agree)

    same_by : (names : Names) (v : Verdict) → decided_by a g k q names v ≡ decided_by b g k q names v
    same_by names Admitted = same_install names (install g.world (Some q.definitions))
    same_by names (Refused r) = refl

    same_decided : (cause : Option NotPatch) → decided a g k (last_definitions g.versions) q cause ≡ decided b g k (last_definitions g.versions) q cause
    same_decided (Some cause) = refl
    same_decided None =
        ap (λ slots. decided_by a g k q (changed (last_definitions g.versions) q.definitions)
        (verdict slots (changed (last_definitions g.versions) q.definitions) (interface (last_definitions g.versions) q.definitions))) agree
        ∙ same_by (changed (last_definitions g.versions) q.definitions) _

  same_decision : (setup : Setup) (g : Guard) (k : ℕ) → Agree g → happens a setup (Decide k) g ≡ happens b setup (Decide k) g
  same_decision setup g k agree = ap (λ o. if not (has_ended g) && is_open g k then o else None) (by (offer_at setup k))
    where
      by : (o : Option guard.Offer) → decide a g k o ≡ decide b g k o
      by None = refl
      by (Some o) = same_decided g agree k o.text (not_patch (bodies_of g) g.versions o.text)

  -- ---- events
  abbrev pub is_decision : Event → Bool
  is_decision (Decide k) = true
  is_decision _ = false

  abbrev pub no_decision : List Event → Bool
  no_decision [] = true
  no_decision (e ∷ es) = not (is_decision e) && no_decision es

  same_event : (setup : Setup) (e : Event) (g : Guard) → not (is_decision e) ≡ true → happens a setup e g ≡ happens b setup e g
  same_event setup (Move t) g moves = refl
  same_event setup (CheckIn t) g moves = refl
  same_event setup (Offer k) g moves = refl
  same_event setup (Decide k) g moves = cc
  same_event setup (Withdraw k) g moves = refl

  same_events : (setup : Setup) (es : List Event) (g : Guard) → no_decision es ≡ true → play a setup es g ≡ play b setup es g
  same_events setup [] g moves = refl
  same_events setup (e ∷ es) g moves =
      let both = and_parts (not (is_decision e)) (no_decision es) moves in
      ap (option_and_then (play a setup es)) (same_event setup e g both.0)
      ∙ by (happens b setup e g) (λ mid. same_events setup es mid both.1)
    where
      by : (o : Option Guard) → ((mid : Guard) → play a setup es mid ≡ play b setup es mid)
          → option_and_then (play a setup es) o ≡ option_and_then (play b setup es) o
      by None rest = refl
      by (Some mid) rest = rest mid

  -- ---- journals, piece by piece
  abbrev pub Same : Setup → List Event → Type 0
  Same setup events = guard_after a setup events ≡ guard_after b setup events

  pub moved_on : (setup : Setup) (before es : List Event) → no_decision es ≡ true → Same setup before → Same setup (before ++ es)
  moved_on setup before es moves same =
      in_parts a setup before es (first_guard setup)
      ∙ ap (option_and_then (play a setup es)) same
      ∙ by (guard_after b setup before)
      ∙ sym (in_parts b setup before es (first_guard setup))
    where
      by : (o : Option Guard) → option_and_then (play a setup es) o ≡ option_and_then (play b setup es) o
      by None = refl
      by (Some g) = same_events setup es g moves

  -- an offer that is opened and decided at a guard where the rows agree
  pub decided_on : (setup : Setup) (before : List Event) (k : ℕ) (g : Guard) → Same setup before → guard_after b setup before ≡ Some g → Agree g
      → Same setup (before ++ Offer k ∷ Decide k ∷ [])
  decided_on setup before k g same reached agree =
      in_parts a setup before (Offer k ∷ Decide k ∷ []) (first_guard setup)
      ∙ ap (option_and_then (play a setup (Offer k ∷ Decide k ∷ []))) (same ∙ reached)
      ∙ by (not (has_ended g) && can_open setup g k)
      ∙ ap (option_and_then (play b setup (Offer k ∷ Decide k ∷ []))) (sym reached)
      ∙ sym (in_parts b setup before (Offer k ∷ Decide k ∷ []) (first_guard setup))
    where
      by : (test : Bool) → option_and_then (play a setup (Decide k ∷ [])) (guard_if test (record g { open_offer = Some k; greatest = k }))
          ≡ option_and_then (play b setup (Decide k ∷ [])) (guard_if test (record g { open_offer = Some k; greatest = k }))
      by true = ap (option_and_then Some) (same_decision setup (record g { open_offer = Some k; greatest = k }) k agree)
      by false = refl

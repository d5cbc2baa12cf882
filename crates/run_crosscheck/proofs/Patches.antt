-- What a legal journal installs are patches, each over the text in force before it.
use Rattle.std.proofs.Common.{◌≡◌, ℕ, suc, Bool, true, false, List, [], ◌∷◌, ◌++◌, append-nil, length, Option, Some, None, refl, sym, ◌∙◌, ap, subst}
use Rattle.std.specs.Prelude.{◌&&◌, ◌||◌, not, nat_le, nat_lt, option_map, if◌then◌else◌}
use Rattle.std.specs.Option.{is_none, option_and_then, option_or}
use Rattle.std.proofs.lemmas.List.{append_assoc}
use Rattle.std.proofs.lemmas.Option.{none-some}
use Rattle.run_types.specs.declared.run.Event.{Event}
use Rattle.run_types.specs.declared.run.Event.TheVariants.{Move, CheckIn, Offer, Decide, Withdraw}
use Rattle.c_tree.specs.BareDef.{BareDef}
use Rattle.c_tree.specs.declared.def.Def.{Def}
use Rattle.c_semantics.specs.Changes.{changed}
use Rattle.c_semantics.specs.SourceTexts.{Text}
use Rattle.c_semantics.specs.Store.{Body, brought_bodies}
use Rattle.con_freeness.specs.Verdicts.{Verdict, Admitted, Refused}
use Rattle.name_sets.specs.Limit.{most_names}
use Rattle.patch_faults.specs.Sorts.{other_kind}
use Rattle.patch_faults.specs.declared.fault.TransformFault.{TransformFault}
use Rattle.patch_faults.specs.TransformFaults.{first_transform_fault, place_of}
use Rattle.source_model.specs.declared.patch.NotPatch.{NotPatch}
use Rattle.source_model.specs.declared.patch.NotPatch.TheVariants.{Kind, Names, StoreFull, Transform, Versions}
use Rattle.source_model.specs.Answers.{Answer, Installed, NoPatch, RefusedFor, Withdrawn}
use Rattle.source_model.specs.Guards.{Answered, Guard, Rules, Setup, answered, bodies_of, can_open, checked_in, decide, decided, decided_by, first_guard, has_ended, installed_over, is_open, moved, offer_at, seat_of}
use Rattle.source_model.specs.Guards as guard
use Rattle.source_model.specs.Journals.{answer_of, guard_after, guard_if, happens, play}
use Rattle.source_model.specs.Moves.{move}
use Rattle.source_model.specs.Patches.{all_names, cause_if, is_full, last_definitions, last_tree, not_patch, version_limit}
use Rattle.source_model.specs.Runs.{install}
use Rattle.source_model.specs.Worlds.{World}
use Rattle.source_model.proofs.Events.{AllOf, each_event, of_outcome, opened_by, right_of}
use Rattle.run_crosscheck.specs.Following.{ArePatches, IsPatchIf, in_force_after}
use Rattle.run_crosscheck.proofs.AnsweredOnce.{Fresh, Orderly, first_orderly, found, stays_orderly}

-- the fourth cause for which a text is no patch
no_fault : (a b c : Option NotPatch) (f : Option TransformFault) (d : Option NotPatch)
    → option_or a (option_or b (option_or c (option_or (option_map (λ x. Transform (place_of x)) f) d))) ≡ None → f ≡ None
no_fault None None None None d e = refl
no_fault (Some x) b c f d e = absurd (none-some x (sym e))
no_fault None (Some x) c f d e = absurd (none-some x (sym e))
no_fault None None (Some x) f d e = absurd (none-some x (sym e))
no_fault None None None (Some x) d e = absurd (none-some (Transform (place_of x)) (sym e))

patch_fits : (bodies : List Body) (versions : List Text) (q : Text) → not_patch bodies versions q ≡ None
    → first_transform_fault (last_tree versions) q.tree.definitions ≡ None
patch_fits bodies versions q e =
    let p = last_definitions versions in
    let n = length versions in
    no_fault (cause_if (nat_le version_limit n) Versions) (cause_if (nat_lt most_names (length (all_names (versions ++ q ∷ [])))) Names)
    (option_map Kind (other_kind p q.definitions)) (first_transform_fault (last_tree versions) q.tree.definitions)
    (cause_if (is_full (bodies ++ brought_bodies (suc n) p q)) StoreFull) e

last_tree_is : (texts : List Text) (q : Text) → last_tree (texts ++ q ∷ []) ≡ q.tree.definitions
last_tree_is [] q = refl
last_tree_is (t ∷ []) q = refl
last_tree_is (t ∷ u ∷ texts) q = last_tree_is (u ∷ texts) q

module _ (rules : Rules) (setup : Setup) where
  -- an event adds answers, and patches after it are patches from it on, whatever is answered later
  record Next (e : Event) (g mid : Guard) : Type 0 where
    added : List Answered
    adds : mid.answers ≡ g.answers ++ added
    are : (es : List Event) (more : List Answered) → ArePatches setup (mid.answers ++ more) (last_tree mid.versions) es
        → ArePatches setup (mid.answers ++ more) (last_tree g.versions) (e ∷ es)

  unless : (P : Guard → Type 0) (b : Bool) (o : Option Guard) → AllOf P o → AllOf P (if b then None else o)
  unless P true o h = tt
  unless P false o h = h

  only : (P : Guard → Type 0) (b : Bool) (g : Guard) → P g → AllOf P (guard_if b g)
  only P true g h = h
  only P false g h = tt

  where_test : (P : Guard → Type 0) (b : Bool) (o : Option Guard) → (b ≡ true → AllOf P o) → AllOf P (if b then o else None)
  where_test P true o h = h refl
  where_test P false o h = tt

  moves_so : (g : Guard) (t : ℕ) (o : Option World) → AllOf (Next (Move t) g) (option_map (moved g t) o)
  moves_so g t None = tt
  moves_so g t (Some w) = record { added = []; adds = sym (append-nil g.answers); are = λ es more h. h }

  -- a decision answers so, over what is in force then
  decides : (g mid : Guard) (k : ℕ) (o : guard.Offer) (a : Answer) → offer_at setup k ≡ Some o → Fresh k g.answers
      → IsPatchIf (last_tree g.versions) o.text.tree.definitions a
      → mid.answers ≡ g.answers ++ record { offer = k; answer = a } ∷ []
      → last_tree mid.versions ≡ in_force_after (last_tree g.versions) o.text.tree.definitions a → Next (Decide k) g mid
  decides g mid k o a at fresh fits adds now = record {
    added = record { offer = k; answer = a } ∷ [];
    adds = adds;
    are = λ es more h.
        let p = last_tree g.versions in
        let q = o.text.tree.definitions in
        let is = sym (ap (λ given. answer_of (given ++ more) k) adds ∙ found k a g.answers more fresh) in (
          o,
          at,
          subst (IsPatchIf p q) is fits,
          subst (λ x. ArePatches setup (mid.answers ++ more) (in_force_after p q x) es) is
              (subst (λ d. ArePatches setup (mid.answers ++ more) d es) now h),
        );
  }

  by_verdict : (g : Guard) (k : ℕ) (o : guard.Offer) → offer_at setup k ≡ Some o → Fresh k g.answers
      → first_transform_fault (last_tree g.versions) o.text.tree.definitions ≡ None → (v : Verdict)
      → AllOf (Next (Decide k) g) (decided_by rules g k o.text (changed (last_definitions g.versions) o.text.definitions) v)
  by_verdict g k o at fresh fits (Refused r) = decides g (answered k (RefusedFor r) g) k o (RefusedFor r) at fresh tt refl refl
  by_verdict g k o at fresh fits Admitted = by (install g.world (Some o.text.definitions))
    where
      by : (w : Option World)
          → AllOf (Next (Decide k) g) (option_map (installed_over rules g k o.text (changed (last_definitions g.versions) o.text.definitions)) w)
      by None = tt
      by (Some w) =
          decides g (installed_over rules g k o.text (changed (last_definitions g.versions) o.text.definitions) w) k o
          (Installed (suc (length g.versions))) at fresh fits refl (last_tree_is g.versions o.text)

  by_patch : (g : Guard) (k : ℕ) (o : guard.Offer) → offer_at setup k ≡ Some o → Fresh k g.answers → (cause : Option NotPatch)
      → not_patch (bodies_of g) g.versions o.text ≡ cause
      → AllOf (Next (Decide k) g) (decided rules g k (last_definitions g.versions) o.text cause)
  by_patch g k o at fresh (Some cause) is = decides g (answered k (NoPatch cause) g) k o (NoPatch cause) at fresh tt refl refl
  by_patch g k o at fresh None is = by_verdict g k o at fresh (patch_fits (bodies_of g) g.versions o.text is) _

  by_offer : (g : Guard) (k : ℕ) (o : Option guard.Offer) → offer_at setup k ≡ o → Fresh k g.answers
      → AllOf (Next (Decide k) g) (decide rules g k o)
  by_offer g k None at fresh = tt
  by_offer g k (Some o) at fresh = by_patch g k o at fresh (not_patch (bodies_of g) g.versions o.text) refl

  next_of : (e : Event) (g : Guard) → Orderly g → AllOf (Next e g) (happens rules setup e g)
  next_of (Move t) g o =
      unless (Next (Move t) g) (has_ended g || (seat_of g t).at_check_in) (option_map (moved g t) (move g.world t))
      (moves_so g t (move g.world t))
  next_of (CheckIn t) g o =
      only (Next (CheckIn t) g) _ (checked_in (bodies_of g) g t)
      (record { added = []; adds = sym (append-nil g.answers); are = λ es more h. h })
  next_of (Offer k) g o =
      only (Next (Offer k) g) _ (record g { open_offer = Some k; greatest = k })
      (record { added = []; adds = sym (append-nil g.answers); are = λ es more h. h })
  next_of (Decide k) g o =
      where_test (Next (Decide k) g) (not (has_ended g) && is_open g k) (decide rules g k (offer_at setup k))
      (λ test. by_offer g k (offer_at setup k) refl (o.at_open k (opened_by k g.open_offer (right_of _ _ test))))
  next_of (Withdraw k) g o =
      only (Next (Withdraw k) g) _ (answered k Withdrawn g)
      (record { added = record { offer = k; answer = Withdrawn } ∷ []; adds = refl; are = λ es more h. h })

  -- events one after the other
  record All (es : List Event) (g after : Guard) : Type 0 where
    added : List Answered
    adds : after.answers ≡ g.answers ++ added
    are : ArePatches setup after.answers (last_tree g.versions) es

  one_and_all : (e : Event) (es : List Event) (g mid : Guard) (o : Option Guard) → Next e g mid → AllOf (All es mid) o
      → AllOf (All (e ∷ es) g) o
  one_and_all e es g mid None n all = tt
  one_and_all e es g mid (Some after) n all = record {
    added = n.added ++ all.added;
    adds = all.adds ∙ ap (λ l. l ++ all.added) n.adds ∙ append_assoc g.answers n.added all.added;
    are =
        subst (λ given. ArePatches setup given (last_tree g.versions) (e ∷ es)) (sym all.adds)
        (n.are es all.added (subst (λ given. ArePatches setup given (last_tree mid.versions) es) all.adds all.are));
  }

  along : (es : List Event) (g : Guard) → Orderly g → AllOf (All es g) (play rules setup es g)
  along [] g o = record { added = []; adds = sym (append-nil g.answers); are = tt }
  along (e ∷ es) g o =
      by (λ mid order. along es mid order) (happens rules setup e g) (next_of e g o)
      (each_event rules setup e g Orderly (stays_orderly rules setup e g o))
    where
      by : ((mid : Guard) → Orderly mid → AllOf (All es mid) (play rules setup es mid)) → (o : Option Guard)
          → AllOf (Next e g) o → AllOf Orderly o → AllOf (All (e ∷ es) g) (option_and_then (play rules setup es) o)
      by rest None n order = tt
      by rest (Some mid) n order = one_and_all e es g mid (play rules setup es mid) n (rest mid order)

  -- so it is from the start of a run
  pub journal_patches : (es : List Event) (g : Guard) → guard_after rules setup es ≡ Some g
      → ArePatches setup g.answers setup.first.tree.definitions es
  journal_patches es g legal =
      (of_outcome (All es (first_guard setup)) (guard_after rules setup es) g legal (along es (first_guard setup) (first_orderly setup))).are

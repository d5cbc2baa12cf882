-- A journal whose next event installs a text.
use Rattle.std.proofs.Common.{◌≡◌, ℕ, ◌&&◌, not, Bool, true, false, List, [], ◌∷◌, ◌++◌, Option, Some, None, option_map, refl, sym, ap, subst, if◌then◌else◌}
use Rattle.run_types.specs.declared.run.Event.TheVariants.{Decide}
use Rattle.con_freeness.specs.Verdicts.{Verdict, Admitted, Refused}
use Rattle.c_semantics.specs.Changes.{changed}
use Rattle.source_model.specs.declared.patch.NotPatch.{NotPatch}
use Rattle.source_model.specs.Answers.{Answer, Installed, NoPatch, RefusedFor}
use Rattle.source_model.specs.Guards.{Answered, Guard, Offer, Rules, Setup, bodies_of, decide, decided, decided_by, has_ended, installed_over, is_open, offer_at}
use Rattle.source_model.specs.Installs.{installed}
use Rattle.source_model.specs.Journals.{happens}
use Rattle.source_model.specs.Patches.{last_definitions, not_patch}
use Rattle.source_model.specs.Worlds.{is_over}
use Rattle.source_model.proofs.Events.{AllOf, of_outcome}
use Rattle.code_run_laws.specs.MoveLaws.{Stands}
use Rattle.code_install_laws.specs.InstalledTexts.{JournalInstallsStand, PatchesStand}

-- ---- one answer more

same_last : (xs : List Answered) (a b : Answered) → xs ++ a ∷ [] ≡ xs ++ b ∷ [] → a ≡ b
same_last [] a b e = cc
same_last (x ∷ xs) a b e = same_last xs a b cc

module _ (rules : Rules) (g : Guard) (k n : ℕ) (o : Offer) where
  abbrev with_answer : Answer → List Answered
  with_answer a = g.answers ++ record { offer = k; answer = a } ∷ []

  -- the answer after a decision says that the text is installed
  abbrev SaysInstalled : Guard → Type 0
  SaysInstalled after = after.answers ≡ with_answer (Installed n)

  same_answer : (a : Answer) → with_answer a ≡ with_answer (Installed n) → a ≡ Installed n
  same_answer a e =
      ap (λ (x : Answered). x.answer)
      (same_last g.answers (record { offer = k; answer = a }) (record { offer = k; answer = Installed n }) e)

  pub record IsInstall (after : Guard) : Type 0 where
    pub patch : not_patch (bodies_of g) g.versions o.text ≡ None
    pub versions : after.versions ≡ g.versions ++ o.text ∷ []
    pub world : after.world ≡ installed o.text.definitions g.world

  abbrev Installing : Guard → Type 0
  Installing after = SaysInstalled after → IsInstall after

  by_verdict : not_patch (bodies_of g) g.versions o.text ≡ None → (v : Verdict)
      → AllOf Installing (decided_by rules g k o.text (changed (last_definitions g.versions) o.text.definitions) v)
  by_verdict patch (Refused r) = λ says. absurd (refused (same_answer (RefusedFor r) says))
    where
      refused : RefusedFor r ≡ Installed n → ⊥
      refused e = cc
  by_verdict patch Admitted = by (is_over g.world)
    where
      by : (b : Bool)
          → AllOf Installing
          (option_map (installed_over rules g k o.text (changed (last_definitions g.versions) o.text.definitions))
          (if b then None else Some (installed o.text.definitions g.world)))
      by true = tt
      by false = λ says. record { patch = patch; versions = refl; world = refl }

  by_patch : (cause : Option NotPatch) → not_patch (bodies_of g) g.versions o.text ≡ cause
      → AllOf Installing (decided rules g k (last_definitions g.versions) o.text cause)
  by_patch (Some cause) is = λ says. absurd (no_patch (same_answer (NoPatch cause) says))
    where
      no_patch : NoPatch cause ≡ Installed n → ⊥
      no_patch e = cc
  by_patch None is = by_verdict is _

  by_decision : (setup : Setup) → offer_at setup k ≡ Some o → AllOf Installing (happens rules setup (Decide k) g)
  by_decision setup at =
      by (not (has_ended g) && is_open g k)
      (subst (λ x. AllOf Installing (decide rules g k x)) (sym at) (by_patch (not_patch (bodies_of g) g.versions o.text) refl))
    where
      by : (b : Bool) → AllOf Installing (decide rules g k (offer_at setup k))
          → AllOf Installing (if b then decide rules g k (offer_at setup k) else None)
      by true h = h
      by false h = tt

pub journal_installs_stand : PatchesStand → JournalInstallsStand
journal_installs_stand patches rules setup events k o g after names own new accepted legal next numbers s i =
    by
    (of_outcome (Installing rules g k next.version o) (happens rules setup (Decide k) g) after next.decided
    (by_decision rules g k next.version o setup next.offered) next.answered)
  where
    by : IsInstall rules g k next.version o after → Stands after.versions names after.world new
    by is =
        subst (λ ts. Stands ts names after.world new) (sym is.versions)
        (subst (λ w. Stands (g.versions ++ o.text ∷ []) names w new) (sym is.world)
        (patches rules setup events g o.text names own new accepted legal (accepted.offered k o next.offered) is.patch numbers s i))

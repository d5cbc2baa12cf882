-- Why nothing is decided on an offer.
use Rattle.std.proofs.Common.{◌≡◌, ℕ, map, Some, refl, subst, sym}
use Rattle.std.specs.Prelude.{slice_get}
use Rattle.c_tree.specs.Bare.{bare_def}
use Rattle.c_tree.specs.declared.def.Program.{Program}
use Rattle.c_semantics.specs.SourceTexts.{text_of}
use Rattle.brought_bodies.specs.Undefined.{HasUndefinedUse}
use Rattle.dsu_runs.specs.declared.engine.Undecided.{Undecided}
use Rattle.dsu_runs.specs.declared.engine.Undecided.TheVariants as why
use Rattle.offer_decision.specs.Faults.{undecided_by}
use Rattle.offer_decision.specs.declared.answer.DecisionFault.{DecisionFault}
use Rattle.offer_decision.specs.declared.answer.DecisionFault.TheVariants.{UndefinedName, Memory}
use Rattle.plain_engine.specs.Plain.{ShownState}
use Rattle.plain_engine.specs.Steps.{MayWithhold}
use Rattle.plain_engine.proofs.Deciding.{offer_is}

module _ (s : ShownState) (k : ℕ) where
  -- the offer's text uses a name that it doesn't define
  undefined_offer : (next : Program) → slice_get s.run.trees k ≡ Some next → HasUndefinedUse (map bare_def next.definitions)
      → MayWithhold s k why.UndefinedName
  undefined_offer next there undefined some setup g at =
      let found = offer_is setup g s.run k next at.run some there in
      record { offer = record { text = text_of next; lines = found.0 }; offered = found.1; undefined = undefined }

  pub withheld : (next : Program) → slice_get s.run.trees k ≡ Some next → (fault : DecisionFault)
      → (fault ≡ UndefinedName → HasUndefinedUse (map bare_def next.definitions)) → MayWithhold s k (undecided_by fault)
  withheld next there UndefinedName undefined = undefined_offer next there (undefined refl)
  withheld next there Memory undefined = tt

  pub for_memory : (w : Undecided) → w ≡ why.Memory → MayWithhold s k w
  for_memory w is = subst (MayWithhold s k) (sym is) tt

  pub not_misused : (w : Undecided) → MayWithhold s k w → w ≡ why.Misused → ⊥
  not_misused w may is = subst (MayWithhold s k) is may

  pub if_undefined : (w : Undecided) → MayWithhold s k w → w ≡ why.UndefinedName → MayWithhold s k why.UndefinedName
  if_undefined w may is = subst (MayWithhold s k) is may

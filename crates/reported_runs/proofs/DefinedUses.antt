-- No offer of a run of accepted texts uses a name that it doesn't define, and such a run starts unless memory runs out.
use Rattle.std.proofs.Common.{◌≡◌, ℕ, List}
use Rattle.c_tree.specs.declared.def.Program.{Program}
use Rattle.source_model.specs.Guards.{Setup}
use Rattle.accepted_runs.specs.AcceptedRuns.{TextsAreAccepted}
use Rattle.accepted_bodies.proofs.DefinedUses.{accepted_texts_have_none}
use Rattle.installed_versions.specs.Firsts.{IsFirstFault}
use Rattle.installed_versions.specs.declared.fault.FirstFault.{FirstFault}
use Rattle.installed_versions.specs.declared.fault.FirstFault.TheVariants.{Memory}
use Rattle.installed_versions.proofs.Firsts.{accepted_programs_start}
use Rattle.dsu_runs.specs.Setups.{setup_of}
use Rattle.dsu_runs.specs.UndefinedNames.{UsesUndefined}

pub accepted_offers_have_none : (setup : Setup) (k : ℕ) → TextsAreAccepted setup → UsesUndefined setup k → ⊥
accepted_offers_have_none setup k accepted u = accepted_texts_have_none u.offer.text (accepted.offered k u.offer u.offered) u.undefined

pub lacks_memory : (program : Program) (programs : List Program) (lines : List ℕ) (objects : ℕ)
    → TextsAreAccepted (setup_of program programs lines objects) → (fault : FirstFault) → IsFirstFault program fault → fault ≡ Memory
lacks_memory program programs lines objects accepted fault is =
    accepted_programs_start accepted.first.bytes program accepted.first.accepted fault is

-- At a guard whose versions and seats a decision is about, the definitions decide what it says.
use Rattle.std.specs.Prelude.{◌≡◌, ℕ, List, ◌++◌, Bool, Some, option_map}
use Rattle.c_tree.specs.BareExpr.{Bytes}
use Rattle.c_tree.specs.declared.def.Program.{Program}
use Rattle.c_semantics.specs.Changes.{changed}
use Rattle.c_semantics.specs.SourceTexts.{text_of}
use Rattle.con_freeness.specs.declared.refusal.Refusal.{Refusal as RefusalOfIds}
use Rattle.con_freeness.specs.Verdicts.{refusal_seen}
use Rattle.source_model.specs.declared.patch.NotPatch.{NotPatch}
use Rattle.source_model.specs.Answers.{RefusedFor, NoPatch}
use Rattle.source_model.specs.Guards.{Guard, Rules, answered, decide, installed_over}
use Rattle.source_model.specs.Patches.{last_definitions}
use Rattle.source_model.specs.Runs.{install}
use Rattle.patch_build.specs.declared.patch.Patch.{Patch}
use Rattle.patch_build.specs.declared.patch.Versions.{Versions}
use Rattle.offer_decision.specs.declared.answer.Decision.TheVariants as decision
use Rattle.offer_decision.specs.declared.seat.Seat.{Seat}
use Rattle.offer_decision.specs.Decided.{IsDecision}
use Rattle.con_freeness.specs.Decisions.{AreKnown}

-- the text is no patch, and nothing but the offer is closed
abbrev pub NoPatchIsDecided : Type 0
NoPatchIsDecided =
    (rules : Rules) (g : Guard) (k lines : ℕ) (versions : Versions) (next : Program) (seats : List Seat) (cause : NotPatch)
    → IsDecision rules g.versions g.seats versions next seats (decision.NotPatch cause)
    → decide rules g k (Some (record { text = text_of next; lines = lines })) ≡ Some (answered k (NoPatch cause) g)

-- the patch is refused, and nothing but the offer is closed
abbrev pub RefusalIsDecided : Type 0
RefusalIsDecided =
    (rules : Rules) (g : Guard) (k lines : ℕ) (versions : Versions) (next : Program) (seats : List Seat) (r : RefusalOfIds)
    → IsDecision rules g.versions g.seats versions next seats (decision.Refused r)
    → decide rules g k (Some (record { text = text_of next; lines = lines }))
    ≡ Some (answered k (RefusedFor (refusal_seen versions.names.now r)) g)

-- the patch is installed, where the world takes it
abbrev pub AdmissionIsDecided : Type 0
AdmissionIsDecided =
    (rules : Rules) (g : Guard) (k lines : ℕ) (versions : Versions) (next : Program) (seats : List Seat) (patch : Patch) (pins : List Bool)
    → IsDecision rules g.versions g.seats versions next seats (decision.Admitted patch pins)
    → decide rules g k (Some (record { text = text_of next; lines = lines }))
    ≡ option_map (installed_over rules g k (text_of next) (changed (last_definitions g.versions) (text_of next).definitions))
    (install g.world (Some (text_of next).definitions))

-- a refusal whose ids a table has means the same where the table has more names
abbrev pub RefusalsStay : Type 0
RefusalsStay =
    (names more : List Bytes) (r : RefusalOfIds) → AreKnown names r.effect → refusal_seen (names ++ more) r ≡ refusal_seen names r

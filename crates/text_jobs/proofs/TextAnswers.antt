-- What a call answers that printed something of one text, or of two.
use Rattle.std.proofs.Common.{◌≡◌, ◌⊎◌, inl, inr, ℕ, List, [], refl, subst, arith}
use Rattle.c_tree.specs.declared.def.Program.{Program}
use Rattle.dsu_io.specs.Causes.{FailedReads, NoneFailed}
use Rattle.dsu_cli.specs.declared.job.Job.TheVariants.{Admits, Changes, Effects}
use Rattle.dsu_report.specs.declared.fault.FaultLine.{FaultLine}
use Rattle.dsu_report.specs.declared.fault.FaultLine.TheVariants.{Memory}
use Rattle.input_files.specs.Sources.{HoldsProgram, IsFirstOf, IsSource, text_limit}
use Rattle.job_answers.specs.Answers.{AdmitsFailed, AdmitsShown, Answers, ChangesFailed, ChangesShown, EffectsFailed, EffectsShown, IsDone, IsExcused, did, short, stopped}
use Rattle.job_answers.specs.Calls.{Call, Stopped}
use Rattle.job_answers.specs.Jobs.{Contents, IsProgramFault, OutOfMemory}
use Rattle.text_jobs.specs.Newer.{AdmitsTo, ChangesTo, NewerTo}
use Rattle.job_answers.proofs.FailedReads.{none_then}
use Rattle.job_answers.proofs.Stopping.{out_of_memory, fault_since}

-- ---- the effects of a text

-- what came of printing them
abbrev pub PrintsEffects : Program → List ℕ → Call → Type 0
PrintsEffects program text call = EffectsShown program text call ⊎ EffectsFailed program text call ⊎ Stopped Memory [] call

pub effects_answers : (file : List ℕ) (content : Contents) (before now : FailedReads) (call : Call) (text : List ℕ) (program : Program)
    → IsSource (content file) text program → NoneFailed before now → PrintsEffects program text call → Answers (Effects file) content before now call
effects_answers file content before now call text program source none (inl shown) = did none (text, program, source, inl shown)
effects_answers file content before now call text program source none (inr (inl failed)) = did none (text, program, source, inr failed)
effects_answers file content before now call text program source none (inr (inr s)) = short none s

pub effects_done : (call : Call) (text : List ℕ) (program : Program) → PrintsEffects program text call
    → IsDone call.status ⊎ IsExcused call.status
effects_done call text program (inl shown) = let is = shown.status in inl (omega (arith, is))
effects_done call text program (inr (inl failed)) = inr (inr (inl failed.status))
effects_done call text program (inr (inr s)) = inr (inr (inr s.status))

-- ---- a newer text, which is read after an older one

-- what came of printing something of it, whole or not
module _ (Shown Failed : Program → List ℕ → Call → Type 0) where
  pub newer_printed : (content : Contents) (before now : FailedReads) (new : List ℕ) (call : Call) (text : List ℕ) (next : Program)
      → IsSource (content new) text next → NoneFailed before now
      → Shown next text call ⊎ Failed next text call ⊎ Stopped Memory [] call
      → NewerTo Shown Failed content before now new call
  newer_printed content before now new call text next source none (inl shown) = inl (none, inl (text, next, source, inl shown))
  newer_printed content before now new call text next source none (inr (inl failed)) = inl (none, inl (text, next, source, inr failed))
  newer_printed content before now new call text next source none (inr (inr s)) = inl (none, inr s)

  pub newer_stops : (content : Contents) (before now : FailedReads) (new : List ℕ) (call : Call) (line : FaultLine)
      → Stopped line new call → OutOfMemory before now line ⊎ IsProgramFault new (content new) before now line
      → NewerTo Shown Failed content before now new call
  newer_stops content before now new call line s (inl (none, is)) = inl (none, inr (out_of_memory line new call is s))
  newer_stops content before now new call line s (inr wrong) = inr (line, wrong, s)

  -- the same since before the older text was read
  newer_since : (content mid : Contents) (before at now : FailedReads) (new : List ℕ) (call : Call)
      → ((other : List ℕ) → mid other ≡ content other) → NoneFailed before at
      → NewerTo Shown Failed mid at now new call → NewerTo Shown Failed content before now new call
  newer_since content mid before at now new call same none (inl (later, inl (text, next, source, printed))) =
      inl (none_then before at now none later, inl (text, next, subst (λ c. IsSource c text next) (same new) source, printed))
  newer_since content mid before at now new call same none (inl (later, inr s)) = inl (none_then before at now none later, inr s)
  newer_since content mid before at now new call same none (inr (line, wrong, s)) =
      inr (line, fault_since text_limit IsFirstOf new (content new) (mid new) before at now line (same new) none wrong, s)

-- ---- what changes between two texts

pub changes_answers : (old new : List ℕ) (content mid : Contents) (before at now : FailedReads) (call : Call) (program : Program)
    → HoldsProgram (content old) program → ((other : List ℕ) → mid other ≡ content other) → NoneFailed before at
    → ChangesTo mid at now program new call → Answers (Changes old new) content before now call
changes_answers old new content mid before at now call program holds same none to =
    by (newer_since (ChangesShown program) (ChangesFailed program) content mid before at now new call same none to)
  where
    by : ChangesTo content before now program new call → Answers (Changes old new) content before now call
    by (inl (never, inl (text, next, source, printed))) = did never (program, holds, text, next, source, printed)
    by (inl (never, inr s)) = short never s
    by (inr (line, wrong, s)) = stopped line new (inr (program, holds, (refl, wrong))) s

pub changes_done : (call : Call) (program next : Program) (text : List ℕ)
    → ChangesShown program next text call ⊎ ChangesFailed program next text call ⊎ Stopped Memory [] call
    → IsDone call.status ⊎ IsExcused call.status
changes_done call program next text (inl shown) = let is = shown.status in inl (omega (arith, is))
changes_done call program next text (inr (inl failed)) = inr (inr (inl failed.status))
changes_done call program next text (inr (inr s)) = inr (inr (inr s.status))

-- ---- where a run of one text could take another

pub admits_answers : (old new : List ℕ) (content mid : Contents) (before at now : FailedReads) (call : Call) (text : List ℕ) (program : Program)
    → IsSource (content old) text program → ((other : List ℕ) → mid other ≡ content other) → NoneFailed before at
    → AdmitsTo mid at now program text new call → Answers (Admits old new) content before now call
admits_answers old new content mid before at now call text program source same none to =
    by (newer_since (AdmitsShown program text) (AdmitsFailed program text) content mid before at now new call same none to)
  where
    by : AdmitsTo content before now program text new call → Answers (Admits old new) content before now call
    by (inl (never, inl (newer, next, read, printed))) = did never (text, program, source, newer, next, read, printed)
    by (inl (never, inr s)) = short never s
    by (inr (line, wrong, s)) = stopped line new (inr (program, (text, source), (refl, wrong))) s

pub admits_done : (call : Call) (program : Program) (text : List ℕ) (next : Program) (newer : List ℕ)
    → AdmitsShown program text next newer call ⊎ AdmitsFailed program text next newer call ⊎ Stopped Memory [] call
    → IsDone call.status ⊎ IsExcused call.status
admits_done call program text next newer (inl shown) = let is = shown.status in inl (omega (arith, is))
admits_done call program text next newer (inr (inl failed)) = inr (inr (inl failed.status))
admits_done call program text next newer (inr (inr s)) = inr (inr (inr s.status))

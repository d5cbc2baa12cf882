-- What a call that came to nothing answers.
use Rattle.std.proofs.Common.{◌≡◌, ◌⊎◌, inl, inr, ℕ, List, [], Option, sym, ◌∙◌, ap, subst}
use Rattle.c_tree.specs.declared.def.Program.{Program}
use Rattle.dsu_io.specs.Causes.{FailedReads, NoneFailed, ReadFailed}
use Rattle.dsu_cli.specs.declared.job.Job.{Job}
use Rattle.dsu_report.specs.declared.fault.FaultLine.{FaultLine}
use Rattle.dsu_report.specs.declared.fault.FaultLine.TheVariants.{Unread, TooLong, Memory}
use Rattle.dsu_report.specs.Faults.{fault_line}
use Rattle.dsu_report.specs.Statuses.{status_of_line}
use Rattle.input_files.specs.Files.{Exceeds, IsShort}
use Rattle.job_answers.specs.Answers.{Answers, IsExcused, short, stopped}
use Rattle.job_answers.specs.Calls.{Call, Stopped, Writes}
use Rattle.job_answers.specs.Jobs.{Contents, FileStops, IsKnownProgram, IsProgramFault, KnownProgramFault, OutOfMemory, ProgramStops}
use Rattle.job_answers.proofs.FailedReads.{failed_then, none_then}
use Rattle.job_answers.proofs.Reading.{IsAnswered}

-- the line that says that memory ran out has no file
pub out_of_memory : (line : FaultLine) (file : List ℕ) (call : Call) → line ≡ Memory → Stopped line file call → Stopped Memory [] call
out_of_memory line file call is s = record {
  status = s.status ∙ ap status_of_line is;
  history = s.history;
  no_end = record { ending = s.no_end.ending; answers = s.no_end.answers; installed = s.no_end.installed };
  out = s.out;
  err = subst (λ l. Writes call.err (fault_line l file)) is s.err;
}

-- a call that stopped at a fault of a file, or for lack of memory
pub answered : (job : Job) (content : Contents) (before now : FailedReads) (call : Call) (line : FaultLine) (file : List ℕ)
    → Stopped line file call → OutOfMemory before now line ⊎ FileStops job content before now line file → Answers job content before now call
answered job content before now call line file s (inl (none, is)) = short none (out_of_memory line file call is s)
answered job content before now call line file s (inr stops) = stopped line file stops s

-- the file or memory failed
pub excused : (call : Call) (line : FaultLine) (file : List ℕ) → Stopped line file call → IsShort line → IsExcused call.status
excused call line file s (inl is) = inl (s.status ∙ ap status_of_line is)
excused call line file s (inr is) = inr (inr (s.status ∙ ap status_of_line is))

-- or the fault is the one that is known
pub first_stopped : (call : Call) (line known : FaultLine) (file : List ℕ) → Stopped line file call
    → (line ≡ known) ⊎ (line ≡ Unread) ⊎ (line ≡ Memory) → IsExcused call.status ⊎ Stopped known file call
first_stopped call line known file s (inl is) = inr (subst (λ l. Stopped l file call) is s)
first_stopped call line known file s (inr lacks) = inl (excused call line file s lacks)

-- the same where the file is known too
pub first_stopped_at : (call : Call) (line known : FaultLine) (file at : List ℕ) → Stopped line file call
    → ((line ≡ known) × (file ≡ at)) ⊎ IsShort line → IsExcused call.status ⊎ Stopped known at call
first_stopped_at call line known file at s (inl (is, same)) =
    inr (subst (λ l. Stopped l at call) is (subst {A = List ℕ} (λ f. Stopped line f call) same s))
first_stopped_at call line known file at s (inr lacks) = inl (excused call line file s lacks)

-- ---- the program of a file isn't read. The name of the file was taken from the job

module _ (content : Contents) (line : FaultLine) (file named : List ℕ) (same : file ≡ named) where
  -- a fault of the program is one of its file
  pub at_program : (before now : FailedReads) → OutOfMemory before now line ⊎ IsProgramFault file (content file) before now line
      → OutOfMemory before now line ⊎ ProgramStops named content before now line file
  at_program before now (inl lacks) = inl lacks
  at_program before now (inr wrong) = inr (same, subst (λ f. IsProgramFault f (content f) before now line) same wrong)

  -- where the program is known, the file or memory failed
  pub program_excused : (call : Call) → Stopped line file call → ((program : Program) → IsKnownProgram (content file) program → IsShort line)
      → (program : Program) → IsKnownProgram (content named) program → IsExcused call.status
  program_excused call s complete program known =
      excused call line file s (complete program (subst (λ f. IsKnownProgram (content f) program) (sym same) known))

  -- where its fault is known, that fault is answered, or the file or memory failed
  program_first : (call : Call) → Stopped line file call → ((known : FaultLine) → KnownProgramFault (content file) known → IsAnswered known line)
      → (known : FaultLine) (at : List ℕ) → at ≡ named → KnownProgramFault (content named) known
      → IsExcused call.status ⊎ Stopped known at call
  program_first call s first known at is fault =
      subst (λ f. IsExcused call.status ⊎ Stopped known f call) (same ∙ sym is)
      (first_stopped call line known file s (first known (subst (λ f. KnownProgramFault (content f) known) (sym same) fault)))

  -- the same where the fault may be one of files that are read later
  pub first_before : (Later : FaultLine → List ℕ → Type 0) (call : Call) → Stopped line file call
      → ((program : Program) → IsKnownProgram (content file) program → IsShort line)
      → ((known : FaultLine) → KnownProgramFault (content file) known → IsAnswered known line)
      → (known : FaultLine) (at : List ℕ)
      → ((at ≡ named) × KnownProgramFault (content named) known)
      ⊎ ((program : Program) × IsKnownProgram (content named) program × Later known at)
      → IsExcused call.status ⊎ Stopped known at call
  first_before Later call s complete first known at (inl (is, fault)) = program_first call s first known at is fault
  first_before Later call s complete first known at (inr (program, is_known, fault)) =
      inl (program_excused call s complete program is_known)

  -- the same where there is one such file
  pub first_of_two : (Later : FaultLine → Type 0) (other : List ℕ) (call : Call) → Stopped line file call
      → ((program : Program) → IsKnownProgram (content file) program → IsShort line)
      → ((known : FaultLine) → KnownProgramFault (content file) known → IsAnswered known line)
      → (known : FaultLine) (at : List ℕ)
      → ((at ≡ named) × KnownProgramFault (content named) known)
      ⊎ ((program : Program) × IsKnownProgram (content named) program × (at ≡ other) × Later known)
      → IsExcused call.status ⊎ Stopped known at call
  first_of_two Later other call s complete first known at (inl (is, fault)) = program_first call s first known at is fault
  first_of_two Later other call s complete first known at (inr (program, is_known, is, fault)) =
      inl (program_excused call s complete program is_known)

pub or_else : {A B C : Type 0} → A ⊎ B → A ⊎ (B ⊎ C)
or_else (inl a) = inl a
or_else (inr b) = inr (inl b)

-- ---- a file that is read after others

-- a fault of a file that was read after others, whose reads didn't fail
pub fault_since : (limit : ℕ) (Wrong : Option (List ℕ) → FaultLine → Type 0) (name : List ℕ) (content mid : Option (List ℕ))
    (before at now : FailedReads) (line : FaultLine) → mid ≡ content → NoneFailed before at
    → ((line ≡ Unread) × ReadFailed name at now) ⊎ (NoneFailed at now × (((line ≡ TooLong) × Exceeds limit mid) ⊎ Wrong mid line))
    → ((line ≡ Unread) × ReadFailed name before now)
    ⊎ (NoneFailed before now × (((line ≡ TooLong) × Exceeds limit content) ⊎ Wrong content line))
fault_since limit Wrong name content mid before at now line same none (inl (is, failed)) =
    inl (is, failed_then name before at now none failed)
fault_since limit Wrong name content mid before at now line same none (inr (later, wrong)) =
    inr (
      none_then before at now none later,
      subst {A = Option (List ℕ)} (λ c. ((line ≡ TooLong) × Exceeds limit c) ⊎ Wrong c line) same wrong,
    )

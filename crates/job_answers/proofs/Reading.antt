-- What is known of a file's text decides what is read of it.
use Rattle.std.proofs.Common.{◌≡◌, ◌⊎◌, inl, inr, ℕ, ◌<◌, ◌≤◌, List, Option, Some, Ok, Err, sym, ◌∙◌, ap, subst, arith}
use Rattle.std.specs.Prelude.{length, Result, IsErrOf}
use Rattle.c_tree.specs.declared.def.Program.{Program}
use Rattle.c_front.specs.declared.fault.FaultKind.{FaultKind}
use Rattle.c_front.specs.Accepted.{FirstFault}
use Rattle.dsu_journal.specs.Journals.{journal_in}
use Rattle.dsu_journal.specs.declared.fault.JournalFault.{JournalFault}
use Rattle.dsu_journal.specs.declared.fault.JournalFault.TheVariants as journal
use Rattle.dsu_io.specs.Causes.{FailedReads, NoneFailed, ReadFailed}
use Rattle.dsu_io.specs.Files.{IsContent}
use Rattle.dsu_report.specs.declared.fault.FaultLine.{FaultLine}
use Rattle.dsu_report.specs.declared.fault.FaultLine.TheVariants.{Unread, TooLong, Memory}
use Rattle.input_files.specs.Files.{Exceeds, IsOfFile}
use Rattle.input_files.specs.Journals.{IsNoJournal, IsOfJournal, journal_limit, line_of_journal}
use Rattle.input_files.specs.Lines.{line_of}
use Rattle.input_files.specs.Sources.{IsFirstOf, IsOfSource, IsSource, text_limit}
use Rattle.job_answers.specs.Jobs.{IsJournalFault, IsProgramFault, KnownJournalFault, KnownProgramFault, OutOfMemory, first, long}

-- why nothing is read of a file that may also be wrong otherwise
file_fault : {T : Type 0} (name : List ℕ) (before now : FailedReads) (line : FaultLine) (Long Wrong : Type 0)
    → (IsErrOf {T = T} (Err line) Unread → ReadFailed name before now)
    → ((IsErrOf {T = T} (Err line) Unread → ⊥) → NoneFailed before now) → (IsErrOf {T = T} (Err line) TooLong → Long)
    → (Wrong → line ≡ Unread → ⊥) → IsOfFile line ⊎ Wrong
    → OutOfMemory before now line
    ⊎ ((line ≡ Unread) × ReadFailed name before now) ⊎ (NoneFailed before now × (((line ≡ TooLong) × Long) ⊎ Wrong))
file_fault name before now line Long Wrong failed none longer never (inl (inl (inl is))) = inr (inl (is, failed (ap Err is)))
file_fault name before now line Long Wrong failed none longer never (inl (inl (inr is))) = inl (none (λ unread. cc (is, unread)), is)
file_fault name before now line Long Wrong failed none longer never (inl (inr is)) =
    inr (inr (none (λ unread. cc (is, unread)), inl (is, longer (ap Err is))))
file_fault name before now line Long Wrong failed none longer never (inr wrong) =
    inr (inr (none (λ unread. never wrong (cc (unread))), inr wrong))

-- why a program isn't read
pub program_fault : {T : Type 0} (name : List ℕ) (content : Option (List ℕ)) (before now : FailedReads) (line : FaultLine)
    → (IsErrOf {T = T} (Err line) Unread → ReadFailed name before now)
    → ((IsErrOf {T = T} (Err line) Unread → ⊥) → NoneFailed before now)
    → (IsErrOf {T = T} (Err line) TooLong → Exceeds text_limit content) → IsOfSource content line
    → OutOfMemory before now line ⊎ IsProgramFault name content before now line
program_fault name content before now line failed none longer wrong =
    file_fault name before now line (Exceeds text_limit content) (IsFirstOf content line) failed none longer
    (λ other unread. let is = other.first.3 in cc (is, unread)) wrong

no_journal_is_read : (fault : JournalFault) → line_of_journal fault ≡ Unread → ⊥
no_journal_is_read journal.Header is = cc
no_journal_is_read (journal.NoEvent n) is = cc
no_journal_is_read journal.Memory is = cc

-- why events aren't read
pub journal_fault : {T : Type 0} (name : List ℕ) (content : Option (List ℕ)) (before now : FailedReads) (line : FaultLine)
    → (IsErrOf {T = T} (Err line) Unread → ReadFailed name before now)
    → ((IsErrOf {T = T} (Err line) Unread → ⊥) → NoneFailed before now)
    → (IsErrOf {T = T} (Err line) TooLong → Exceeds journal_limit content) → IsOfJournal content line
    → OutOfMemory before now line ⊎ IsJournalFault name content before now line
journal_fault name content before now line failed none longer wrong =
    file_fault name before now line (Exceeds journal_limit content) (IsNoJournal content line) failed none longer
    (λ other unread. no_journal_is_read other.fault (sym other.line_is ∙ unread)) wrong

-- a text that was read of a file whose text is known is that text, so it isn't too long
too_long : (content : Option (List ℕ)) (known read : List ℕ) (limit : ℕ) → content ≡ Some known → limit < length known
    → IsContent content read → length read ≤ limit → ⊥
too_long content known read limit is more at fits =
    let same : read ≡ known = subst (λ c. IsContent c read) is at in
    let eq = ap length same in
    omega (arith, more, fits, eq)

-- a fault is answered, or that reading or memory failed
abbrev pub IsAnswered : FaultLine → FaultLine → Type 0
IsAnswered known line = (line ≡ known) ⊎ (line ≡ Unread) ⊎ (line ≡ Memory)

short_or_long : (line : FaultLine) → IsOfFile line → IsAnswered TooLong line
short_or_long line (inl (inl is)) = inr (inl is)
short_or_long line (inl (inr is)) = inr (inr is)
short_or_long line (inr is) = inl is

-- of a text that is too long no program is read, and no events
pub long_source : (content : Option (List ℕ)) (known read : List ℕ) (program : Program) → content ≡ Some known
    → text_limit < length known → IsSource content read program → ⊥
long_source content known read program is more source = too_long content known read text_limit is more source.read source.fits

pub long_text : (content : Option (List ℕ)) (known : List ℕ) (line : FaultLine) → content ≡ Some known → text_limit < length known
    → IsOfSource content line → IsAnswered TooLong line
long_text content known line is more (inl of_file) = short_or_long line of_file
long_text content known line is more (inr wrong) = absurd (too_long content known wrong.text text_limit is more wrong.read wrong.fits)

pub long_journal : (content : Option (List ℕ)) (known : List ℕ) (line : FaultLine) → content ≡ Some known → journal_limit < length known
    → IsOfJournal content line → IsAnswered TooLong line
long_journal content known line is more (inl of_file) = short_or_long line of_file
long_journal content known line is more (inr wrong) = absurd (too_long content known wrong.text journal_limit is more wrong.read wrong.fits)

-- what holds of both causes of a known fault holds of it
pub by_program_fault : (P : FaultLine → Type 0) (content : Option (List ℕ)) (line : FaultLine) → KnownProgramFault content line
    → ((text : List ℕ) → content ≡ Some text → text_limit < length text → P TooLong)
    → ((text : List ℕ) (what : FaultKind) (at : ℕ) → content ≡ Some text → length text ≤ text_limit → FirstFault text what at
    → P (line_of text what at))
    → P line
by_program_fault P content _ (long text is more) by_long by_first = by_long text is more
by_program_fault P content _ (first text line is fits (what, at, fault, eq)) by_long by_first =
    subst P (sym eq) (by_first text what at is fits fault)

pub by_journal_fault : (P : FaultLine → Type 0) (content : Option (List ℕ)) (line : FaultLine) → KnownJournalFault content line
    → ((text : List ℕ) → content ≡ Some text → journal_limit < length text → P TooLong)
    → ((text : List ℕ) (fault : JournalFault) → content ≡ Some text → length text ≤ journal_limit → journal_in text ≡ Err fault
    → P (line_of_journal fault))
    → P line
by_journal_fault P content _ (long text is more) by_long by_first = by_long text is more
by_journal_fault P content _ (first text fault is fits eq) by_long by_first = by_first text fault is fits eq

-- the same of a result that is a fault, and of one that is none
abbrev pub Answers : {T : Type 0} → Result T FaultLine → FaultLine → Type 0
Answers r known = IsErrOf r known ⊎ IsErrOf r Unread ⊎ IsErrOf r Memory

err_is : {T : Type 0} (line known : FaultLine) → IsErrOf {T = T} (Err line) known → line ≡ known
err_is line known e = cc

pub is_answered : {T : Type 0} (known line : FaultLine) → Answers {T = T} (Err line) known → IsAnswered known line
is_answered known line (inl e) = inl (err_is line known e)
is_answered known line (inr (inl e)) = inr (inl (err_is line Unread e))
is_answered known line (inr (inr e)) = inr (inr (err_is line Memory e))

pub answers : {T : Type 0} (known line : FaultLine) → IsAnswered known line → Answers {T = T} (Err line) known
answers known line (inl e) = inl (ap Err e)
answers known line (inr (inl e)) = inr (inl (ap Err e))
answers known line (inr (inr e)) = inr (inr (ap Err e))

ok_isnt : {T : Type 0} (x : T) (known : FaultLine) → IsErrOf (Ok x) known → ⊥
ok_isnt x known e = cc

pub no_answer : {T : Type 0} (x : T) (known : FaultLine) → Answers (Ok x) known → ⊥
no_answer x known (inl e) = ok_isnt x known e
no_answer x known (inr (inl e)) = ok_isnt x Unread e
no_answer x known (inr (inr e)) = ok_isnt x Memory e

-- a fault that isn't the first file's is one of a later file
pub later_fault : {A B : Type 0} → A ⊎ B → (A → ⊥) → B
later_fault (inl a) never = absurd (never a)
later_fault (inr b) never = b

-- Texts that are known: they are read as programs, or have a first fault.
use Rattle.std.proofs.Common.{◌≡◌, ◌⊎◌, inl, inr, ℕ, ◌<◌, ◌≤◌, List, [], ◌∷◌, Some, Ok, Err, codes, refl, sym, ap, subst, arith}
use Rattle.std.specs.Prelude.{length, Result, IfOk, IfErr, MatchResult}
use Rattle.std.proofs.lemmas.Option.{same_Some}
use Rattle.c_tree.specs.declared.def.Program.{Program}
use Rattle.c_front.specs.declared.fault.FaultKind.{FaultKind}
use Rattle.c_front.specs.Accepted.{Accepted, FirstFault}
use Rattle.dsu_report.specs.declared.fault.FaultLine.{FaultLine}
use Rattle.dsu_report.specs.declared.fault.FaultLine.TheVariants.{TooLong, Memory}
use Rattle.input_files.specs.Lines.{line_of}
use Rattle.input_files.specs.Sources.{IsFirstLine, text_limit}
use Rattle.job_answers.specs.Answers.{IsExcused}
use Rattle.job_answers.specs.Calls.{Call, Stopped}
use Rattle.job_answers.specs.Jobs.{GeneratedFault, IsKnownProgram, KnownProgramFault, long, first}
use Rattle.gen_job.specs.Parts.{IsOnlyOffer, IsTold, IsToldAt}
use Rattle.reported_runs.specs.declared.offers.Offers.{Offers}
use Rattle.job_answers.proofs.Stopping.{first_stopped_at}
use Rattle.job_answers.proofs.Reading.{by_program_fault}

-- ---- a text that is too long

module _ (text : List ℕ) (more : text_limit < length text) where
  pub too_long_is_known : KnownProgramFault (Some text) TooLong
  too_long_is_known = long text refl more

  pub isnt_program : (program : Program) → IsKnownProgram (Some text) program → ⊥
  isnt_program program known =
      let same = ap length (same_Some text known.text known.known) in
      let fits = known.fits in
      omega (arith, more, fits, same)

  pub too_long_told : (line : FaultLine) → KnownProgramFault (Some text) line → IsTold line TooLong
  too_long_told line fault =
      by_program_fault (λ known. IsTold known TooLong) (Some text) line fault (λ other is long. inl refl)
      (λ other what at is fits wrong.
      let same = ap length (same_Some text other is) in
      absurd (omega (arith, more, fits, same)))

-- ---- a text that isn't, with what was read of it

module _ (text : List ℕ) (fits : length text ≤ text_limit) (r : Result Program FaultLine) where
  pub as_known : IfOk r (λ program. Accepted text program) → IfOk r (λ program. IsKnownProgram (Some text) program)
  as_known = by r
    where
      by : (r : Result Program FaultLine) → IfOk r (λ program. Accepted text program) → IfOk r (λ program. IsKnownProgram (Some text) program)
      by (Ok program) accepted = record { text = text; known = refl; fits = fits; accepted = accepted }
      by (Err line) accepted = tt

  pub as_fault : IfErr r (λ line. (line ≡ Memory) ⊎ IsFirstLine text line)
      → IfErr r (λ line. (line ≡ Memory) ⊎ KnownProgramFault (Some text) line)
  as_fault = by r
    where
      by : (r : Result Program FaultLine) → IfErr r (λ line. (line ≡ Memory) ⊎ IsFirstLine text line)
          → IfErr r (λ line. (line ≡ Memory) ⊎ KnownProgramFault (Some text) line)
      by (Ok program) is = tt
      by (Err line) (inl is) = inl is
      by (Err line) (inr wrong) = inr (first text line refl fits wrong)

  pub as_complete : ((program : Program) → Accepted text program → MatchResult r (λ read. read ≡ program) (λ line. line ≡ Memory))
      → (program : Program) → IsKnownProgram (Some text) program → IfErr r (λ line. line ≡ Memory)
  as_complete complete program known =
      by r (complete program (subst {A = List ℕ} (λ t. Accepted t program) (sym (same_Some text known.text known.known)) known.accepted))
    where
      by : (r : Result Program FaultLine) → MatchResult r (λ read. read ≡ program) (λ line. line ≡ Memory) → IfErr r (λ line. line ≡ Memory)
      by (Ok read) is = tt
      by (Err line) is = is

  pub as_first : ((what : FaultKind) (at : ℕ) → FirstFault text what at → (r ≡ Err (line_of text what at)) ⊎ (r ≡ Err Memory))
      → (line : FaultLine) → KnownProgramFault (Some text) line → MatchResult r (λ read. ⊥) (IsTold line)
  as_first told line fault =
      by_program_fault (λ known. MatchResult r (λ read. ⊥) (IsTold known)) (Some text) line fault
      (λ other is more.
      let same = ap length (same_Some text other is) in
      absurd (omega (arith, more, fits, same)))
      (λ other what at is small wrong.
      let same = sym (same_Some text other is) in
      subst {A = List ℕ} (λ t. MatchResult r (λ read. ⊥) (IsTold (line_of t what at))) (sym same)
      (by what at (told what at (subst {A = List ℕ} (λ t. FirstFault t what at) same wrong))))
    where
      by : (what : FaultKind) (at : ℕ) → (r ≡ Err (line_of text what at)) ⊎ (r ≡ Err Memory)
          → MatchResult r (λ read. ⊥) (IsTold (line_of text what at))
      by what at (inl is) = subst {A = Result Program FaultLine} (λ x. MatchResult x (λ read. ⊥) (IsTold (line_of text what at))) (sym is) (inl refl)
      by what at (inr is) = subst {A = Result Program FaultLine} (λ x. MatchResult x (λ read. ⊥) (IsTold (line_of text what at))) (sym is) (inr refl)

-- ---- results

pub if_ok_map : {T E : Type 0} (r : Result T E) (P Q : T → Type 0) → ((x : T) → P x → Q x) → IfOk r P → IfOk r Q
if_ok_map (Ok x) P Q f p = f x p
if_ok_map (Err e) P Q f p = tt

pub if_err_map : {T E : Type 0} (r : Result T E) (P Q : E → Type 0) → ((e : E) → P e → Q e) → IfErr r P → IfErr r Q
if_err_map (Ok x) P Q f p = tt
if_err_map (Err e) P Q f p = f e p

-- the only offer, from its parts
pub only_read : {E : Type 0} (r : Result Offers E) (text : List ℕ) (program : Program) (lines : ℕ) → IsKnownProgram (Some text) program
    → IfOk r (λ o. o.texts.items ≡ text ∷ []) → IfOk r (λ o. o.programs.items ≡ program ∷ []) → IfOk r (λ o. o.lines.items ≡ lines ∷ [])
    → IfOk r (λ o. IsOnlyOffer text lines o)
only_read (Ok o) text program lines known texts programs counts =
    record { next = program; known = known; texts = texts; programs = programs; counts = counts }
only_read (Err e) text program lines known texts programs counts = tt

-- ---- one text after the other

module _ (text offer : List ℕ) where
  -- a fault of the first one
  pub first_fault : (line : FaultLine) → (line ≡ Memory) ⊎ KnownProgramFault (Some text) line
      → (line ≡ Memory) ⊎ GeneratedFault text offer line (codes "generated program")
  first_fault line (inl memory) = inl memory
  first_fault line (inr wrong) = inr (inl (refl, wrong))

  -- a fault of the second one, where the first one was read
  pub second_fault : (program : Program) → IsKnownProgram (Some text) program → (line : FaultLine) (file : List ℕ)
      → (line ≡ Memory) ⊎ ((file ≡ codes "generated offer") × KnownProgramFault (Some offer) line)
      → (line ≡ Memory) ⊎ GeneratedFault text offer line file
  second_fault program is line file (inl memory) = inl memory
  second_fault program is line file (inr (named, wrong)) = inr (inr (program, is, named, wrong))

  -- where the first one has none, the known fault is one of the second
  pub second_told : (P : List ℕ → Type 0) (known : FaultLine) (at : List ℕ) → (KnownProgramFault (Some text) known → ⊥)
      → (KnownProgramFault (Some offer) known → P (codes "generated offer")) → GeneratedFault text offer known at → P at
  second_told P known at never later (inl (is, wrong)) = absurd (never wrong)
  second_told P known at never later (inr (program, read, is, wrong)) = subst {A = List ℕ} P (sym is) (later wrong)

  -- where the first one isn't read, its known fault was answered, or memory ran out
  pub first_told : (line : FaultLine) → ((program : Program) → IsKnownProgram (Some text) program → line ≡ Memory)
      → ((known : FaultLine) → KnownProgramFault (Some text) known → IsTold known line)
      → (known : FaultLine) (at : List ℕ) → GeneratedFault text offer known at → IsToldAt known at line (codes "generated program")
  first_told line complete told known at (inr (program, read, is, wrong)) = inr (complete program read)
  first_told line complete told known at (inl (is, wrong)) = by (told known wrong)
    where
      by : IsTold known line → IsToldAt known at line (codes "generated program")
      by (inl same) = inl (same, sym is)
      by (inr memory) = inr memory

-- a fault with the name of its text
pub named_fault : (offer name : List ℕ) (line : FaultLine) → (line ≡ Memory) ⊎ KnownProgramFault (Some offer) line
    → (line ≡ Memory) ⊎ ((name ≡ name) × KnownProgramFault (Some offer) line)
named_fault offer name line (inl memory) = inl memory
named_fault offer name line (inr wrong) = inr (refl, wrong)

pub named_told : (name : List ℕ) (known line : FaultLine) → IsTold known line → IsToldAt known name line name
named_told name known line (inl same) = inl (same, refl)
named_told name known line (inr memory) = inr memory

-- what a call that stopped so comes to, where the fault is known
pub told_stopped : (call : Call) (line known : FaultLine) (file at : List ℕ) → Stopped line file call → IsToldAt known at line file
    → IsExcused call.status ⊎ Stopped known at call
told_stopped call line known file at s (inl told) = first_stopped_at call line known file at s (inl told)
told_stopped call line known file at s (inr memory) = first_stopped_at call line known file at s (inr (inr memory))

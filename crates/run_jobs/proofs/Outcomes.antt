-- The outcome of a run, and the status with which it ends.
use Rattle.std.proofs.Common.{◌≡◌, ◌⊎◌, inl, inr, Bool, ℕ, zero, suc, List, [], ◌∷◌, ◌++◌, drop, take, Option, Some, None, sym, ◌∙◌, ap, subst}
use Rattle.std.specs.Prelude.{length, slice_get}
use Rattle.std.specs.Option.{option_and_then}
use Rattle.std.proofs.lemmas.Option.{none-some, same_Some}
use Rattle.std.proofs.lemmas.List.{take-append-drop}
use Rattle.run_types.specs.declared.run.Event.{Event}
use Rattle.run_types.specs.declared.run.Ending.{Ending}
use Rattle.c_tree.specs.declared.def.Program.{Program}
use Rattle.source_model.specs.declared.answer.OfferAnswer.{OfferAnswer}
use Rattle.source_model.specs.Guards.{Guard, Rules, Setup, first_guard}
use Rattle.source_model.specs.Journals.{IsLegal, answers, guard_after, happens, play}
use Rattle.dsu_report.specs.declared.fault.FaultLine.TheVariants.{Memory}
use Rattle.dsu_runs.specs.Replays.{events_of}
use Rattle.dsu_runs.proofs.Coming.{play_parts}
use Rattle.effects.specs.Rows.{AreRows}
use Rattle.dsu_runs.specs.Rows.{RulesExist}
use Rattle.dsu_runs.specs.Setups.{setup_of}
use Rattle.dsu_runs.specs.declared.ran.Ran.{Ran as RanOf}
use Rattle.reported_runs.specs.declared.finish.Finish.{Finish}
use Rattle.job_answers.specs.declared.outcome.InForce.{InForce}
use Rattle.job_answers.specs.declared.outcome.Outcome.{Outcome}
use Rattle.job_answers.specs.Answers.{IsDone, IsExcused}
use Rattle.job_answers.specs.Calls.{Call, Output, Stopped, call_of, output_of}
use Rattle.reported_runs.specs.Schedules.{run_call}
use Rattle.job_answers.specs.Plans.{Plan, BySchedule, ByJournal, CannotGoOn, Follows, Impossible}
use Rattle.job_answers.specs.Runs.{Came, ran, print_failed, report_failed, refused, short}
use Rattle.reported_runs.proofs.HandedBack.{done_by}

-- calls whose parts are equal
abbrev pub call : ℕ → List Event → Option Ending → List OfferAnswer → Option InForce → Output → Output → Call
call s h e a i o r = record { status = s; history = h; ending = e; answers = a; installed = i; out = o; err = r }

pub same_call : (s t : ℕ) (h k : List Event) (e f : Option Ending) (a : List OfferAnswer) (i : Option InForce) (o p r : Output)
    → s ≡ t → h ≡ k → e ≡ f → o ≡ p → call s h e a i o r ≡ call t k f a i p r
same_call s t h k e f a i o p r st hk ef op =
    ap (λ x. call x h e a i o r) st ∙ ap (λ x. call t x e a i o r) hk ∙ ap (λ x. call t k x a i o r) ef ∙ ap (λ x. call t k f a i x r) op

pub same_output : {S : Type 0} (told : S → Option (List ℕ)) (faults : S → ℕ) (a b c d : S) → a ≡ b → c ≡ d
    → output_of told faults a c ≡ output_of told faults b d
same_output told faults a b c d ab cd = ap (λ x. output_of told faults x c) ab ∙ ap (λ x. output_of told faults b x) cd

-- the call that came to an outcome of a run
pub came_as : {T O : Type 0} (plan : Plan) (setup : Setup) (texts : List (List ℕ)) (journal : Bool) (file : List ℕ) (finish : Finish)
    (r : RanOf T) (o : Outcome O) (run_out out err : Output) → o.status ≡ finish.status → o.ending ≡ finish.ending
    → o.history ≡ r.history → run_out ≡ out → Came plan setup texts journal file (run_call finish r o.answers.items o.installed run_out err)
    → Came plan setup texts journal file (call_of o out err)
came_as plan setup texts journal file finish r o run_out out err status ending history same came =
    subst (Came plan setup texts journal file)
    (same_call finish.status o.status r.history.items o.history.items finish.ending o.ending o.answers.items o.installed run_out out err
    (sym status) (ap (λ h. h.items) (sym history)) (sym ending) same)
    came

-- the call that an engine's run came to, with the sink that the engine was handed and the texts as they are known elsewhere
pub handed_in : {O : Type 0} (plan : Plan) (setup : Setup) (journal : Bool) (told : O → Option (List ℕ)) (faults : O → ℕ) (o : Outcome O)
    (err : Output) (sink out : O) (texts other : List (List ℕ)) (file named : List ℕ) → sink ≡ out → texts ≡ other → file ≡ named
    → Came plan setup texts journal file (call_of o (output_of told faults sink o.out) err)
    → Came plan setup other journal named (call_of o (output_of told faults out o.out) err)
handed_in {O} plan setup journal told faults o err sink out texts other file named same is known came =
    subst {A = O} (λ s. Came plan setup other journal named (call_of o (output_of told faults s o.out) err)) same
    (subst {A = List (List ℕ)} (λ ts. Came plan setup ts journal named (call_of o (output_of told faults sink o.out) err)) is
    (subst {A = List ℕ} (λ f. Came plan setup texts journal f (call_of o (output_of told faults sink o.out) err)) known came))

-- where no event of the plan is impossible, the run is done or excused
pub came_done : (plan : Plan) (setup : Setup) (texts : List (List ℕ)) (journal : Bool) (file : List ℕ) (c : Call)
    → ((g : Guard) (line : ℕ) → Follows plan setup c.history g → ((rules : Rules) → AreRows rules.row → guard_after rules setup c.history ≡ Some g)
    → Impossible plan setup c.history g line → ⊥)
    → Came plan setup texts journal file c → IsDone c.status ⊎ IsExcused c.status
came_done plan setup texts journal file c possible (ran r) = inl (done_by c.status _ r.status)
came_done plan setup texts journal file c possible (print_failed r) = inr (inr (inl r.status))
came_done plan setup texts journal file c possible (report_failed r) = inr (inr (inl r.status))
came_done plan setup texts journal file c possible (refused r) =
    absurd (possible r.made.guard r.line r.made.follows r.made.legal r.impossible)
came_done plan setup texts journal file c possible (short r) = inr (inr (inr r.status))

pub schedule_done : (moves : ℕ) (setup : Setup) (texts : List (List ℕ)) (journal : Bool) (file : List ℕ) (c : Call)
    → Came (BySchedule moves) setup texts journal file c ⊎ Stopped Memory [] c → IsDone c.status ⊎ IsExcused c.status
schedule_done moves setup texts journal file c (inl came) =
    came_done (BySchedule moves) setup texts journal file c (λ g line follows legal never. never) came
schedule_done moves setup texts journal file c (inr s) = inr (inr (inr s.status))

-- ---- a legal journal

-- the events from a line on
from_line : (lines : List (ℕ × Event)) (n : ℕ) (line : ℕ × Event) → slice_get lines n ≡ Some line
    → (rest : List Event) × (drop n (events_of lines) ≡ line.1 ∷ rest)
from_line [] n line there = absurd (none-some line there)
from_line (l ∷ lines) zero line there = (events_of lines, ap (λ (x : ℕ × Event). x.1 ∷ events_of lines) (same_Some l line there))
from_line (l ∷ lines) (suc n) line there = from_line lines n line there

-- an event that can't happen is in no legal journal
illegal : (rules : Rules) (setup : Setup) (es rest : List Event) (e : Event) (g : Guard)
    → guard_after rules setup es ≡ Some g → happens rules setup e g ≡ None → IsLegal rules setup (es ++ e ∷ rest) → ⊥
illegal rules setup es rest e g before never legal =
    none-some legal.0
    (sym (play_parts rules setup es (e ∷ rest) (first_guard setup) ∙ ap (option_and_then (play rules setup (e ∷ rest))) before
    ∙ ap (option_and_then (play rules setup rest)) never) ∙ legal.1)

can_go_on : RulesExist → (setup : Setup) (lines : List (ℕ × Event)) (history : List Event) (g : Guard) (line : ℕ)
    → history ≡ take (length history) (events_of lines) → ((rules : Rules) → AreRows rules.row → guard_after rules setup history ≡ Some g)
    → ((rules : Rules) → AreRows rules.row → IsLegal rules setup (events_of lines)) → CannotGoOn setup lines history g line → ⊥
can_go_on exist setup lines history g line made before legal stuck =
    let next = from_line lines (length history) (line, stuck.event) stuck.next in
    let parts : events_of lines ≡ history ++ stuck.event ∷ next.0 =
    sym (take-append-drop (length history) (events_of lines))
    ∙ ap (λ es. es ++ drop (length history) (events_of lines)) (sym made) ∙ ap (λ es. history ++ es) next.1 in
    illegal exist.0 setup history next.0 stuck.event g (before exist.0 exist.1) (stuck.never exist.0 exist.1)
    (subst {A = List Event} (IsLegal exist.0 setup) parts (legal exist.0 exist.1))

pub journal_done : RulesExist → (lines : List (ℕ × Event)) (setup : Setup) (texts : List (List ℕ)) (journal : Bool) (file : List ℕ) (c : Call)
    → ((rules : Rules) → AreRows rules.row → IsLegal rules setup (events_of lines))
    → Came (ByJournal lines) setup texts journal file c ⊎ Stopped Memory [] c → IsDone c.status ⊎ IsExcused c.status
journal_done exist lines setup texts journal file c legal (inl came) =
    came_done (ByJournal lines) setup texts journal file c
    (λ g line follows before stuck. can_go_on exist setup lines c.history g line follows before legal stuck) came
journal_done exist lines setup texts journal file c legal (inr s) = inr (inr (inr s.status))

-- the same where the programs and the numbers of lines that were read are those that are known
pub replayed_done : RulesExist → (lines : List (ℕ × Event)) (program : Program) (read programs : List Program) (ns ms : List ℕ) (objects : ℕ)
    (texts : List (List ℕ)) (journal : Bool) (file : List ℕ) (c : Call) → read ≡ programs → ns ≡ ms
    → ((rules : Rules) → AreRows rules.row → IsLegal rules (setup_of program programs ms objects) (events_of lines))
    → Came (ByJournal lines) (setup_of program read ns objects) texts journal file c ⊎ Stopped Memory [] c
    → IsDone c.status ⊎ IsExcused c.status
replayed_done exist lines program read programs ns ms objects texts journal file c same lines_same legal came =
    journal_done exist lines (setup_of program read ns objects) texts journal file c
    (λ rules are. subst {A = List Program} (λ ps. IsLegal rules (setup_of program ps ns objects) (events_of lines)) (sym same)
    (subst {A = List ℕ} (λ m. IsLegal rules (setup_of program programs m objects) (events_of lines)) (sym lines_same) (legal rules are))) came

use Rattle.std.proofs.Common.{◌≡◌, ℕ, ◌<◌, ◌≤◌, List, Option, length, None, subst, sym, ap, ◌∙◌, arith}
use Rattle.std.specs.Prelude.{slice_set}
use Rattle.std.proofs.lemmas.List.{get_or_past, set_past}
use Rattle.program_locks.specs.declared.answer.LockAnswer.{LockAnswer}
use Rattle.program_locks.specs.Locking.{holder_of, lock_answer, locked}
use Rattle.code_runs.specs.CodeData.{Data}
use Rattle.code_runs.specs.SharedStops.{with_holders}
use Rattle.word_data.specs.Performing.{Calls, Settles}
use Rattle.word_data.proofs.SharedChanges.{lock_settles}
use Rattle.word_data.proofs.shared.WordData.lock.Goals as goal
use Rattle.word_data.proofs.shared.WordData.lock.Goals.{in-Some, in-None}

pub returns-clause-calls : goal.returns-clause-calls
returns-clause-calls c =
    let d = c.args.self.now in
    let n = c.args.n in
    let slot = c.args.slot in
    let holders : c.self.inside.locks ≡ d.holders = ap (λ (s : Data). s.holders) c.self.view_is in
    let past : (c.args.n < c.self.inside.mutexes → ⊥) → length d.holders ≤ n = λ none. omega (arith, none, c.self.invariant.counted, ap length holders) in
    let answer : c.match-mutex.answer ≡ lock_answer (holder_of d.holders n) slot = elim c.match-mutex.branch [
      | in-Some w ↦
          w.answer-is ∙ w.lock-answer.ensures.answer
          ∙ ap (λ (l : List (Option ℕ)). lock_answer (holder_of l w.in-Some.name) slot) holders
          ∙ ap (λ (k : ℕ). lock_answer (holder_of d.holders k) slot) w.in-Some.ensures.1
      | in-None w ↦
          w.answer-is ∙ ap (λ (o : Option ℕ). lock_answer o slot) (sym (get_or_past d.holders n None (past w.in-None.ensures)))
    ] in
    let changed : c.match-mutex.self ≡ with_holders d (slice_set d.holders n (locked (holder_of d.holders n) slot)) = elim c.match-mutex.branch [
      | in-Some w ↦
          w.self-is
          ∙ ap (λ (s : Data). with_holders s w.lock-answer.new.self) c.self.view_is
          ∙ ap (with_holders d) (w.lock-answer.ensures.holders
          ∙ ap (λ (l : List (Option ℕ)). slice_set l w.in-Some.name (locked (holder_of l w.in-Some.name) slot)) holders
          ∙ ap (λ (k : ℕ). slice_set d.holders k (locked (holder_of d.holders k) slot)) w.in-Some.ensures.1)
      | in-None w ↦
          let same : c.match-mutex.self ≡ d = cc (w.self-is, c.self.view_is) in
          same ∙ sym (ap (with_holders d) (set_past d.holders n (locked (holder_of d.holders n) slot) (past w.in-None.ensures)))
    ] in
    let settles : Settles c.match-mutex.answer d c.match-mutex.self =
    subst (λ (a : LockAnswer). Settles a d c.match-mutex.self) (sym answer) (lock_settles d c.match-mutex.self n slot changed)
    in
    subst (λ (a : LockAnswer). Calls a d c.match-mutex.self c.args.words.now c.args.stack c.answered.result c.answered.new.words) answer
    (c.answered.ensures.calls d c.match-mutex.self settles)

use Rattle.std.proofs.Common.{ℕ, sym, subst, ◌∙◌, ap}
use denote.Exit.{Kept, if_kept, unseen}
use denote.Param.Send.{Quiet, Quiet-if}
use mir.Syntax.{of_param}
use Rattle.std.proofs.lemmas.List.Elements.{All-set}
use Rattle.threaded_vm.specs.Crews.{AreFree}
use Rattle.threaded_vm.proofs.Crews.{none_free}
use Rattle.threaded_vm.proofs.workers.+make_rounds_from.Goals as goal

leaves_nothing : {D : Type 0} (i : ℕ) (k : Kept) → Quiet {D = D} (if_kept (k (of_param i)) unseen unseen)
leaves_nothing i k = Quiet-if (k (of_param i)) unseen unseen (λ x w. tt) (λ x w. tt)

-- the bounds follow the lifetimes of the six parameters
pub spawn_scoped_with-requires-clause-runs : goal.spawn_scoped_with-requires-clause-runs
spawn_scoped_with-requires-clause-runs g t c κs within =
    let table = c.args.crew.now.lock.table in
    let given : AreFree table c.replace-given.result.items =
    subst (λ w. AreFree table w.items) (sym (c.replace-given.ensures.value ∙ c.index_mut-2.ensures.value)) (c.requires.free c.args.at _ c.requires.at) in
    let bounds = c.requires-raw.1.1.1.1.1.1.1 in (
      given,
      (
        record { owned = bounds.0.owned; leaving = leaves_nothing 0 },
        record { owned = bounds.1.0.owned; leaving = leaves_nothing 1 },
        record { owned = bounds.1.1.0.owned; leaving = leaves_nothing 4 },
        record { owned = bounds.1.1.1.0.owned; leaving = leaves_nothing 5 },
        record { shared = bounds.1.1.1.1.0.shared },
        record { shared = bounds.1.1.1.1.1.0.shared },
        record { shared = bounds.1.1.1.1.1.1.0.shared },
      ),
    )

pub make_rounds_from-requires-clause-free : goal.make_rounds_from-requires-clause-free
make_rounds_from-requires-clause-free g t c κs within =
    let table = c.args.crew.now.lock.table in
    All-set (λ w. AreFree table w.items) c.args.workers.now.items c.args.at c.replace-given.new.dest
    (none_free table c.replace-given.new.dest.items (ap (λ v. v.items) c.replace-given.ensures.after ∙ c.new.ensures.items))
    c.requires.free

pub make_rounds_from-requires-in-Err-clause-free : goal.make_rounds_from-requires-in-Err-clause-free
make_rounds_from-requires-in-Err-clause-free g t c κs within =
    let table = c.args.crew.now.lock.table in
    All-set (λ w. AreFree table w.items) c.args.workers.now.items c.args.at c.replace-given.new.dest
    (none_free table c.replace-given.new.dest.items (ap (λ v. v.items) c.replace-given.ensures.after ∙ c.new.ensures.items))
    c.requires.free

pub returns-in-Ok-clause-free : goal.returns-in-Ok-clause-free
returns-in-Ok-clause-free g t c =
    let table = c.args.crew.now.lock.table in
    All-set (λ w. AreFree table w.items) c.make_rounds_from.new.workers.items c.args.at c.join.result
    (subst (λ p. AreFree p.crew.now.lock.table c.join.result.items) c.in-Ok.ensures.ok c.join.ensures)
    c.make_rounds_from.ensures.free

pub returns-in-Err-clause-free : goal.returns-in-Err-clause-free
returns-in-Err-clause-free g t c =
    let table = c.args.crew.now.lock.table in
    All-set (λ w. AreFree table w.items) c.make_rounds_from-in-Err.new.workers.items c.args.at c.run.result
    (subst (λ f. AreFree f.2.now.lock.table c.run.result.items) c.in-Err.ensures.err c.run.ensures)
    c.make_rounds_from-in-Err.ensures.free

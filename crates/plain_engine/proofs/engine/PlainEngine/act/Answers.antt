use Rattle.std.proofs.Common.{◌≡◌, ◌≤◌, ◌∙◌, ap, subst, sym}
use Rattle.std.specs.Prelude.{is_ok}
use Rattle.std.proofs.lemmas.Bool.{true≢false}
use Rattle.run_types.specs.declared.run.Event.TheVariants.{Move}
use Rattle.dsu_runs.specs.declared.engine.Made.TheVariants.{CannotHappen, Done}
use Rattle.plain_engine.specs.Plain.{state_shown}
use Rattle.plain_engine.specs.Steps.{MovesTo}
use Rattle.plain_engine.proofs.Engines.{moves, refuses, within}
use Rattle.plain_engine.proofs.engine.PlainEngine.act.Goals as goal

pub returns-then-not-moved-clause-made : goal.returns-then-not-moved-clause-made
returns-then-not-moved-clause-made g c = λ setup x at.
    let e = c.args.self.now in
    let slot = c.args.slot in
    let new = state_shown g.M.Machine.shown c.make.new.self in
    refuses setup (Move slot) x (state_shown g.M.Machine.shown e.state) new e.printed e.written (g.S.Sink.told e.sink) at
    (subst (MovesTo setup (Move slot) x new) c.if-not-moved.true (c.in_ok-moved.ensures.made setup x at.state)) c.make.ensures.kept

pub returns-clause-made : goal.returns-clause-made
returns-clause-made g c = λ setup x at.
    let e = c.args.self.now in
    let slot = c.args.slot in
    let old = state_shown g.M.Machine.shown e.state in
    let mid = state_shown g.M.Machine.shown c.make.new.self in
    let last = c.write.new.self in
    let h = subst (MovesTo setup (Move slot) x mid) c.if-not-moved.false (c.in_ok-moved.ensures.made setup x at.state) in
    let kept = subst (λ n. n ≤ e.printed) (sym c.make.ensures.kept) at.kept in
    let room = within setup (Move slot) x old mid e.printed e.written h.0 at h.1 in
    moves setup (Move slot) x old mid (state_shown g.M.Machine.shown last.state) e.printed e.written last.printed last.written
    (g.S.Sink.told e.sink) (g.S.Sink.told last.sink) h.0 c.write.result at h.1
    (c.write.ensures.stays setup h.1.after h.1.there)
    (c.write.ensures.kept setup h.1.after h.1.there.run kept room)
    (c.write.ensures.wrote setup h.1.after h.1.there.run kept room)
    (c.write.ensures.lines x.world.output h.0 setup h.1.after h.1.there.run kept h.1.grew at.printed at.written)

pub returns-in_err-moved-clause-never_out_of_memory : goal.returns-in_err-moved-clause-never_out_of_memory
returns-in_err-moved-clause-never_out_of_memory g c = λ n lasts.
    absurd (true≢false (sym (c.make.ensures.never_out_of_memory n lasts) ∙ ap is_ok c.in_err-moved.was))

pub returns-clause-moved : goal.returns-clause-moved
returns-clause-moved g c = λ n lasts done.
    let written : c.write.result ≡ Done = cc in
    c.write.ensures.lasts n (c.in_ok-moved.ensures.spent n lasts c.if-not-moved.false) written

pub returns-then-not-moved-clause-lasts : goal.returns-then-not-moved-clause-lasts
returns-then-not-moved-clause-lasts g c = λ n lasts none. c.in_ok-moved.ensures.lasts n lasts c.if-not-moved.true

pub returns-clause-lasts : goal.returns-clause-lasts
returns-clause-lasts g c = λ n lasts none.
    let written : c.write.result ≡ CannotHappen = cc in
    absurd (c.write.ensures.writes written)

pub returns-clause-rested : goal.returns-clause-rested
returns-clause-rested g c = λ none.
    let written : c.write.result ≡ CannotHappen = cc in
    absurd (c.write.ensures.writes written)

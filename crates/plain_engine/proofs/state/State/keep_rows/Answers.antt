use Rattle.plain_engine.specs.Plain.{state_shown}
use Rattle.plain_engine.proofs.Preparing.{keeps_state, prepared_rows, still_prepared}
use Rattle.plain_engine.proofs.state.State.keep_rows.Goals as goal

pub returns-in-Patch-clause-stays : goal.returns-in-Patch-clause-stays
returns-in-Patch-clause-stays g c = λ setup x k at is.
    let s = state_shown g.M.Machine.shown c.args.self.now in
    let e = c.keep_rows.ensures in
    keeps_state s c.keep_rows.new.self e.count e.names e.store setup x at
    (e.rows at.versions.rows (prepared_rows setup x s k c.args.prepared.now c.in-Patch.field-0 c.in-Patch.rows at is c.in-Patch.is))

pub returns-in-Patch-clause-prepared : goal.returns-in-Patch-clause-prepared
returns-in-Patch-clause-prepared g c = λ k is.
    let e = c.keep_rows.ensures in
    still_prepared (state_shown g.M.Machine.shown c.args.self.now) c.keep_rows.new.self e.count e.names e.store k c.args.prepared.now is

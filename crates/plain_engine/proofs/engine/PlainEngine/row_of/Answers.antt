use Rattle.source_model.specs.Guards.{bodies_of, seat_of}
use Rattle.source_model.specs.Worlds.{is_over}
use Rattle.plain_engine.proofs.Querying.{not_ended, row_is}
use Rattle.plain_engine.proofs.engine.PlainEngine.row_of.Goals as goal

pub returns : goal.returns
returns g c = λ setup x at going.
    let t = (g.M.Machine.shown c.args.self.now.state.run).words in
    row_is t (bodies_of x) (is_over x.world) c.seat.result (seat_of x c.args.slot) c.row_of.result
    (c.seat.ensures x at.state.seats (not_ended x going)) going (c.row_of.ensures t (bodies_of x))

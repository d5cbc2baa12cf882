use Rattle.std.proofs.Common.{arith, ap, sym}
use Rattle.source_model.specs.JournalLaws.{texts_of}
use Rattle.plain_engine.specs.Plain.{lines_among, state_shown}
use Rattle.plain_engine.proofs.Moving.{unmoved}
use Rattle.plain_engine.proofs.Printing.{all_printed, lines_after, long_enough, none_left, none_there, wrote_all, wrote_none, wrote_partly}
use Rattle.plain_engine.proofs.engine.PlainEngine.write.Goals as goal

pub returns-then-is_empty-clause-wrote : goal.returns-then-is_empty-clause-wrote
returns-then-is_empty-clause-wrote g c = λ setup x at kept within.
    let e = c.args.self.now in
    wrote_none (g.S.Sink.told e.sink) c.output_from-piece.result.now x.world.output e.printed
    (c.output_from-piece.ensures.rest (texts_of setup) setup.limits at.moves x.world at.run at.world kept within)
    (none_there c.output_from-piece.result.now c.is_empty.result c.is_empty.ensures c.if-is_empty.true) within

pub returns-then-is_empty-clause-lines : goal.returns-then-is_empty-clause-lines
returns-then-is_empty-clause-lines g c = λ before more setup x at kept whole from had done.
    let e = c.args.self.now in
    let piece = c.output_from-piece.result.now in
    let within = long_enough before more x.world.output e.printed whole from in
    lines_after before more piece x.world.output e.printed e.written 0 e.written
    (c.output_from-piece.ensures.rest (texts_of setup) setup.limits at.moves x.world at.run at.world kept within) whole from had
    (sym (ap lines_among (none_there piece c.is_empty.result c.is_empty.ensures c.if-is_empty.true)))
    (λ small. omega arith) (c.output_from-piece.ensures.fits (texts_of setup) setup.limits at.moves x.world at.run at.world)

pub returns-then-is_empty-clause-stays : goal.returns-then-is_empty-clause-stays
returns-then-is_empty-clause-stays g c = λ setup x at.
    unmoved setup x (state_shown g.M.Machine.shown c.args.self.now.state) at (g.M.Machine.shown c.forget.new.self) c.forget.ensures.same
    (c.forget.ensures.run (texts_of setup) setup.limits at.run.moves at.run.run)

pub returns-then-is_empty-clause-kept : goal.returns-then-is_empty-clause-kept
returns-then-is_empty-clause-kept g c = λ setup x at kept within done.
    let e = c.args.self.now in
    let piece = c.output_from-piece.result.now in
    let rest = c.output_from-piece.ensures.rest (texts_of setup) setup.limits at.moves x.world at.run at.world kept within in
    let all = none_left piece x.world.output e.printed rest
    (none_there piece c.is_empty.result c.is_empty.ensures c.if-is_empty.true) within in
    let most = c.forget.ensures.kept (texts_of setup) setup.limits at.moves x.world at.run at.world (omega (arith, kept, within)) in
    omega (arith, all, most)

pub returns-in-Ok-clause-wrote : goal.returns-in-Ok-clause-wrote
returns-in-Ok-clause-wrote g c = λ setup x at kept within.
    let e = c.args.self.now in
    let piece = c.output_from-piece.result.now in
    let rest = c.output_from-piece.ensures.rest (texts_of setup) setup.limits at.moves x.world at.run at.world kept within in
    let small = c.output_from-piece.ensures.fits (texts_of setup) setup.limits at.moves x.world at.run at.world in
    wrote_all (g.S.Sink.told e.sink) (g.S.Sink.told c.put.new.sink) piece x.world.output e.printed c.sum-self-in-Ok.result rest
    (all_printed piece x.world.output e.printed c.sum-self-in-Ok.result rest within c.sum-self-in-Ok.ensures small) c.in-Ok.ensures.bytes

pub returns-in-Ok-clause-lines : goal.returns-in-Ok-clause-lines
returns-in-Ok-clause-lines g c = λ before more setup x at kept whole from had done.
    let e = c.args.self.now in
    let within = long_enough before more x.world.output e.printed whole from in
    lines_after before more c.output_from-piece.result.now x.world.output e.printed e.written c.lines_in.result c.sum-self.result
    (c.output_from-piece.ensures.rest (texts_of setup) setup.limits at.moves x.world at.run at.world kept within) whole from had c.lines_in.ensures
    c.sum-self.ensures (c.output_from-piece.ensures.fits (texts_of setup) setup.limits at.moves x.world at.run at.world)

pub returns-in-Ok-clause-stays : goal.returns-in-Ok-clause-stays
returns-in-Ok-clause-stays g c = λ setup x at.
    unmoved setup x (state_shown g.M.Machine.shown c.args.self.now.state) at (g.M.Machine.shown c.forget-in-Ok.new.self) c.forget-in-Ok.ensures.same
    (c.forget-in-Ok.ensures.run (texts_of setup) setup.limits at.run.moves at.run.run)

pub returns-in-Ok-clause-kept : goal.returns-in-Ok-clause-kept
returns-in-Ok-clause-kept g c = λ setup x at kept within done.
    let e = c.args.self.now in
    let piece = c.output_from-piece.result.now in
    let rest = c.output_from-piece.ensures.rest (texts_of setup) setup.limits at.moves x.world at.run at.world kept within in
    let small = c.output_from-piece.ensures.fits (texts_of setup) setup.limits at.moves x.world at.run at.world in
    let all = all_printed piece x.world.output e.printed c.sum-self-in-Ok.result rest within c.sum-self-in-Ok.ensures small in
    let most = c.forget-in-Ok.ensures.kept (texts_of setup) setup.limits at.moves x.world at.run at.world (omega (arith, kept, within)) in
    omega (arith, all, most)

pub returns-in-Err-clause-wrote : goal.returns-in-Err-clause-wrote
returns-in-Err-clause-wrote g c = λ setup x at kept within.
    let e = c.args.self.now in
    wrote_partly (g.S.Sink.told e.sink) (g.S.Sink.told c.put.new.sink) c.output_from-piece.result.now x.world.output e.printed e.printed
    (c.output_from-piece.ensures.rest (texts_of setup) setup.limits at.moves x.world at.run at.world kept within) c.in-Err.ensures.bytes

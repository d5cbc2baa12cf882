use Rattle.plain_engine.proofs.engine.PlainEngine.lines_written.Goals as goal

pub returns : goal.returns
returns g c = λ setup x at. at.written

use Rattle.std.proofs.Common.{sym, subst}
use Rattle.dsu_io.specs.Sinks.{PutAppends}
use Rattle.source_model.specs.declared.answer.OfferAnswer.{OfferAnswer}
use Rattle.source_model.specs.Answers.{answer_seen}
use Rattle.dsu_report.specs.Answers.{answer_words}
use Rattle.dsu_report.proofs.answer.write_words.Goals as goal

pub returns-in-NotOffered-clause-bytes : goal.returns-in-NotOffered-clause-bytes
returns-in-NotOffered-clause-bytes g c =
    let put = c.put-in-NotOffered in
    subst {A = OfferAnswer}
    (λ a. PutAppends (g.S.Sink.told c.args.sink.now) (g.S.Sink.told put.new.sink) put.result (answer_words (answer_seen c.args.names.now a) c.args.text.now))
    (sym c.in-NotOffered.is) put.ensures.bytes

use Rattle.std.proofs.Common.{◌+◌, ◌∷◌, ◌++◌, ap, sym, ◌∙◌, drop, map}
use Rattle.std.proofs.lemmas.List.{append-nil}
use Rattle.source_model.specs.Spans.{span}
use Rattle.version_spans.specs.Kept.{span_of}
use Rattle.recorded_runs.proofs.KeptRecords.{closed_at, closed_end, got_at, plus_one, pushed}
use Rattle.recorded_runs.proofs.records.list_closed.Goals as goal

pub loop-closed-preserved : goal.loop-closed-preserved
loop-closed-preserved c = λ table own newest are.
    let i = c.loop-closed.closed-index in
    let rest = map (λ c. span table c.slot c.uses) (drop (i + 1) own) in
    pushed c.loop-closed.spans.items c.push.new.self.items c.span.result rest _ c.in_ok-push.ensures.items
    (ap (λ xs. map span_of c.loop-closed.spans.items ++ xs)
    (sym
    (closed_at table c.args.records.now own i c.closed-item.result (span_of c.span.result) are
    (got_at c.args.records.now i c.closed-item.result c.loop-closed-test.true c.closed-item.is)
    (λ uses kept. c.span.ensures table uses kept newest)
    ∙ ap (λ xs. span_of c.span.result ∷ xs) (ap (λ n. map (λ c. span table c.slot c.uses) (drop n own)) (plus_one i))))
    ∙ c.loop-closed.invariant table own newest are)

pub returns : goal.returns
returns c = λ table own newest are.
    sym (append-nil (map span_of c.loop-closed.spans.items))
    ∙ ap (λ xs. map span_of c.loop-closed.spans.items ++ map (λ c. span table c.slot c.uses) xs)
    (sym (closed_end table c.args.records.now own c.loop-closed.closed-index are c.loop-closed-test.false))
    ∙ c.loop-closed.invariant table own newest are

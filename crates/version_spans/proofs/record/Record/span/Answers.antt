use Rattle.std.proofs.Common.{◌<◌, ◌≤◌, ap, sym, subst, ◌∙◌}
use Rattle.std.specs.Prelude.{unwrap_or}
use Rattle.version_spans.proofs.Intervals.{span_of_none, span_of_some}
use Rattle.version_spans.proofs.record.Record.span.Goals as goal

pub returns-then-self-last : goal.returns-then-self-last
returns-then-self-last c = λ table uses h count.
    span_of_none table c.args.slot uses c.args.self.now h
    (subst (λ n. n < c.args.self.now.first) (c.unwrap_or-last.ensures ∙ ap (unwrap_or c.args.self.now.last) count) c.if-self-last.true)

pub returns : goal.returns
returns c = λ table uses h count.
    let last = c.unwrap_or-last.ensures ∙ ap (unwrap_or c.args.self.now.last) count in
    span_of_some table c.args.slot uses c.args.self.now h (subst (λ n. c.args.self.now.first ≤ n) last c.if-self-last.false)
    ∙ ap (λ n. record { slot = c.args.slot; first = c.args.self.now.first; last = n }) (sym last)

use Rattle.std.proofs.Common.{◌≡◌, Some, map, sym, ap, ◌∙◌}
use Rattle.std.specs.Prelude.{option_map}
use Rattle.std.proofs.lemmas.Result.{IfOk-weaker}
use Rattle.source_model.specs.Spans.{spans}
use Rattle.source_model.specs.Versions.{current}
use Rattle.source_model.specs.Runs.{source_run}
use Rattle.version_spans.specs.Kept.{span_of}
use Rattle.recorded_runs.proofs.Runs.{answered, given}
use Rattle.recorded_runs.proofs.run.RecordedRun.spans.Goals as goal

pub returns : goal.returns
returns c = λ texts limits moves h.
    let version = answered (λ x. current x.world.table) texts limits moves c.args.self.now.run h.run _ (c.version.ensures.current texts limits moves h.run) in
    IfOk-weaker c.spans.result (λ list. spans h.run.world ≡ map span_of list.items)
    (λ list. option_map (λ x. spans x.world) (source_run texts limits moves) ≡ Some (map span_of list.items))
    (λ list same. given (λ x. spans x.world) texts limits moves c.args.self.now.run h.run ∙ ap Some same)
    (c.spans.ensures h.run.world (sym version) h.small h.records)

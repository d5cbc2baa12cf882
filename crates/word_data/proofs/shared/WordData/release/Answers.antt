use Rattle.std.proofs.Common.{◌≡◌, false, ap, sym, ◌∙◌}
use Rattle.std.specs.FinMap.{contains_key}
use Rattle.std.proofs.lemmas.Bool.{ne_eqb}
use Rattle.run_types.specs.declared.trap.TrapKind.TheVariants.{Stale}
use Rattle.object_store.specs.Stores.{Store, without_object}
use Rattle.code_runs.specs.CodeData.{Data}
use Rattle.code_runs.specs.SharedStops.{traps, with_objects}
use Rattle.word_data.proofs.StackWords.{one}
use Rattle.word_data.proofs.SharedChanges.{none_ended, stale_released}
use Rattle.word_data.proofs.shared.WordData.release.Goals as goal

pub returns-then-not-end-clause-made : goal.returns-then-not-end-clause-made
returns-then-not-end-clause-made c =
    let d = c.args.self.now in
    let h = c.word_under-handle.result in
    let objects : c.self.inside.objects ≡ d.objects = ap (λ (s : Data). s.objects) c.self.view_is in
    let none : contains_key d.objects.live h ≡ false =
    sym (c.if-not-end.ensures.answer ∙ ap (λ (s : Store). contains_key s.live c.new.result) objects ∙ ap (contains_key d.objects.live) c.new.ensures)
    in
    let same : c.end.new.self ≡ d.objects =
    c.end.ensures.ended ∙ ap (λ (s : Store). without_object s c.new.result) objects ∙ ap (without_object d.objects) c.new.ensures ∙ none_ended d.objects h none
    in
    one _ h _ c.word_under-handle.ensures
    (ap (λ (s : Data). traps (with_objects s c.end.new.self) Stale) c.self.view_is
    ∙ ap (λ (s : Store). traps (with_objects d s) Stale) same
    ∙ stale_released d h _ (ne_eqb h 0 c.if-handle-ne0.true) none)

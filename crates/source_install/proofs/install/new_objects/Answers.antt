use Rattle.std.proofs.Common.{◌<◌, length, map, sym, ap, ◌∙◌, arith}
use Rattle.std.proofs.lemmas.List.{length-map}
use Rattle.source_model.specs.Installs.{brought}
use Rattle.version_laws.specs.Fitting.{Fits}
use Rattle.source_programs.specs.Programs.{table_of, text_at}
use Rattle.source_data.specs.Stores.{object_of, objects_of}
use Rattle.source_install.specs.NewData.{with_new}
use Rattle.source_install.proofs.InstallSteps.{brought_all, brought_more, holds_of}
use Rattle.source_install.proofs.install.new_objects.Goals as goal

pub loop-place-preserved : goal.loop-place-preserved
loop-place-preserved c = λ w install.
    let t = table_of c.args.program.now in
    let os = c.as_slice-objects.result.now in
    let o = c.index-objects-place.result in
    let within : c.loop-place.place < length os = omega (arith, c.loop-place-test.true) in
    let shared = ap (λ w. w.objects) install.shared ∙ ap (objects_of t) (sym c.as_slice-objects.ensures.value) in
    ap (λ news. objects_of t (with_new news os)) c.in_ok-add_new.ensures
    ∙ brought_more t (brought w.text (text_at c.args.program.now c.args.number)) os c.loop-place.news.items c.loop-place.place o c.in_ok-fields.fields
    within c.index-objects-place.is (c.loop-place.invariant w install)
    (c.in_ok-fields.ensures w install.follows (holds_of (Fits w.text) t os w.objects c.loop-place.place o shared install.fits within c.index-objects-place.is))

pub returns : goal.returns
returns c = λ w install.
    let t = table_of c.args.program.now in
    let os = c.as_slice-objects.result.now in
    let bring = brought w.text (text_at c.args.program.now c.args.number) in
    let long = length-map os (object_of t) in
    ap (λ l. objects_of t (with_new c.loop-place.news.items l)) (sym c.as_slice-objects.ensures.value)
    ∙ c.loop-place.invariant w install
    ∙ brought_all bring (objects_of t os) c.loop-place.place (omega (arith, c.loop-place-test.false, long))
    ∙ ap (λ l. map bring (objects_of t l)) c.as_slice-objects.ensures.value
    ∙ ap (λ w'. map bring w'.objects) (sym install.shared)

use Rattle.std.proofs.Common.{◌-◌, length, refl, sym, ap, ◌∙◌, arith, if◌then◌else◌}
use Rattle.std.proofs.lemmas.Option.{slice_get_read}
use Rattle.version_spans.specs.Beginnings.{began_by}
use Rattle.version_spans.specs.Kept.{name_of}
use Rattle.version_spans.proofs.FollowingTexts.{began_here}
use Rattle.version_spans.proofs.began.Began.since.Goals as goal

pub returns-then-has : goal.returns-then-has
returns-then-has c = λ texts h.
    let version = c.loop-version.version in
    let items = c.args.self.now.differences.items in
    let positive = c.loop-version-test.true in
    let within = c.loop-version.invariant.within in
    sym
    (c.loop-version.invariant.began texts h
    ∙ began_here texts c.args.self.now c.index.result.now c.args.form c.args.text.now (version - 1) version h (omega (arith, positive))
    (slice_get_read items (length items) (version - 1) c.index.result.now refl (omega (arith, positive, within)) c.index.ensures)
    ∙ ap (λ b. if b then version else began_by texts (name_of c.args.form c.args.text.now) (version - 1)) (sym c.has.ensures ∙ c.if-has.true))

pub loop-version-preserved : goal.loop-version-preserved
loop-version-preserved c =
    let version = c.loop-version.version in
    let items = c.args.self.now.differences.items in
    let positive = c.loop-version-test.true in
    let within = c.loop-version.invariant.within in
    record {
      within = omega (arith, within);
      began = λ texts h.
          c.loop-version.invariant.began texts h
          ∙ began_here texts c.args.self.now c.index.result.now c.args.form c.args.text.now (version - 1) version h (omega (arith, positive))
          (slice_get_read items (length items) (version - 1) c.index.result.now refl (omega (arith, positive, within)) c.index.ensures)
          ∙ ap (λ b. if b then version else began_by texts (name_of c.args.form c.args.text.now) (version - 1)) (sym c.has.ensures ∙ c.if-has.false);
    }

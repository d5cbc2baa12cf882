use Rattle.std.proofs.Common.{refl, length, arith}
use Rattle.std.proofs.lemmas.Option.{slice_get_read}
use Rattle.version_copies.specs.SameBodies.{content_of}
use Rattle.version_copies.proofs.Places.{same_at, same_more}
use Rattle.version_copies.proofs.bodies.same_bodies.Goals as goal

pub returns-then-not-same_body : goal.returns-then-not-same_body
returns-then-not-same_body c =
    let bodies = c.args.bodies.now in
    let others = c.args.others.now in
    let i = c.loop-index.index in
    let body = c.index-bodies-index in
    let other = c.index-others-index in (
      λ e. cc,
      λ e. c.if-not-same_body.ensures.1
          (same_at content_of bodies others i body.result other.result
          (slice_get_read bodies (length bodies) i body.result refl c.loop-index-test.true body.is)
          (slice_get_read others (length others) i other.result refl (omega arith) other.is) e),
    )

pub loop-index-preserved : goal.loop-index-preserved
loop-index-preserved c =
    let bodies = c.args.bodies.now in
    let others = c.args.others.now in
    let i = c.loop-index.index in
    let body = c.index-bodies-index in
    let other = c.index-others-index in
    same_more content_of bodies others i body.result other.result
    (slice_get_read bodies (length bodies) i body.result refl c.loop-index-test.true body.is)
    (slice_get_read others (length others) i other.result refl (omega arith) other.is)
    (c.if-not-same_body.ensures.0 refl) c.loop-index.invariant

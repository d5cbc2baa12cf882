use Rattle.std.proofs.Common.{◌≡◌, ◌+◌, [], ◌∷◌, ◌++◌, length, slice_index, ap, ◌∙◌, arith}
use Rattle.check_in_places.specs.LineStarts.{start_if, starts_to}
use Rattle.check_in_places.proofs.LineLookup.{starts_more}
use Rattle.check_in_places.proofs.lines.Lines.of.Goals as goal

pub loop-at-init : goal.loop-at-init
loop-at-init c = c.in_ok-push.ensures.items ∙ ap (λ starts. starts ++ 0 ∷ []) c.new-starts.ensures.items

pub loop-at-preserved : goal.loop-at-preserved
loop-at-preserved c =
    let text = c.args.text.now in
    let at = c.loop-at.at in
    c.in_ok-add_start.ensures ∙ ap (λ starts. starts ++ start_if (slice_index text at) (at + 1)) c.loop-at.invariant
    ∙ starts_more text at

pub invariant_of-result : goal.invariant_of-result
invariant_of-result c =
    let all : c.loop-at.at ≡ length c.args.text.now = omega (arith, c.loop-at-test.false, c.loop-at.auto.at-end) in
    record { all = c.loop-at.invariant ∙ ap (starts_to c.args.text.now) all }

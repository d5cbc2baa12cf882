use Rattle.std.proofs.lemmas.Str.{IsUtf8-past_char}
use Rattle.c_expr_parser.proofs.StringReading.{after_escape, after_backslash, after_plain}
use Rattle.c_expr_parser.proofs.quoted.append_unescaped.Goals as goal

pub loop-c-preserved-then-behind_backslash : goal.loop-c-preserved-then-behind_backslash
loop-c-preserved-then-behind_backslash c =
    let held = c.loop-c.invariant in
    let parts = c.in-Some.ensures.steps.0 in (
      IsUtf8-past_char _ _ c.in-Some.c held.0 parts,
      after_escape _ _ _ _ _ c.loop-c.behind_backslash c.in-Some.c c.escaped.result c.if-behind_backslash.true parts c.in_ok-push.ensures.bytes c.escaped.ensures held.1,
    )

pub loop-c-preserved-then-c-eq92 : goal.loop-c-preserved-then-c-eq92
loop-c-preserved-then-c-eq92 c =
    let held = c.loop-c.invariant in
    let parts = c.in-Some.ensures.steps.0 in (
      IsUtf8-past_char _ _ c.in-Some.c held.0 parts,
      after_backslash _ _ _ _ c.loop-c.behind_backslash c.in-Some.c c.if-behind_backslash.false parts c.if-c-eq92.true held.1,
    )

pub loop-c-preserved : goal.loop-c-preserved
loop-c-preserved c =
    let held = c.loop-c.invariant in
    let parts = c.in-Some.ensures.steps.0 in (
      IsUtf8-past_char _ _ c.in-Some.c held.0 parts,
      after_plain _ _ _ _ _ c.loop-c.behind_backslash c.in-Some.c c.if-behind_backslash.false parts c.if-c-eq92.false c.in_ok-push-2.ensures.bytes held.1,
    )

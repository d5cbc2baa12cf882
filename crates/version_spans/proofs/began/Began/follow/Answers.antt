use Rattle.std.proofs.Common.{Result, Ok, Err, ap, map, sym, subst, ◌∙◌}
use Rattle.std.specs.Result.{OnErr}
use Rattle.c_tree.specs.Bare.{bare_def}
use Rattle.version_spans.specs.Kept.{AreDifferences}
use Rattle.version_spans.proofs.FollowingTexts.{are_pushed, same_items}
use Rattle.version_spans.proofs.began.Began.follow.Goals as goal

on_err : {T E : Type 0} (r : Result T E) (P : Type 0) → P → OnErr r P
on_err (Ok x) P p = tt
on_err (Err e) P p = p

pub returns-in_err-push-clause-stays : goal.returns-in_err-push-clause-stays
returns-in_err-push-clause-stays c =
    on_err c.from_residual-in_err-push.result _
    (λ texts. same_items texts c.args.self.now (record { differences = c.push.new.self }) c.in_err-push.ensures.items)

pub returns-clause-follows : goal.returns-clause-follows
returns-clause-follows c = λ texts last h.
    let old = c.as_slice-earlier.ensures ∙ ap (λ p. p.definitions) c.program.ensures.tree in
    let new = c.as_slice-later.ensures ∙ ap (λ p. p.definitions) c.program-2.ensures.tree in
    are_pushed texts (map bare_def c.args.new.now.definitions) c.args.self.now (record { differences = c.push.new.self }) c.in_ok-names.names
    c.in_ok-push.ensures.items h
    (subst (λ a. AreDifferences a (map bare_def c.args.new.now.definitions) c.in_ok-names.names) (ap (map bare_def) old ∙ sym last)
    (subst (λ a. AreDifferences (map bare_def c.as_slice-earlier.result.now) a c.in_ok-names.names) (ap (map bare_def) new) c.in_ok-names.ensures))

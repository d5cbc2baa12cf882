use Rattle.std.proofs.Common.{◌≡◌, ◌++◌, ◌∙◌, length, ap, OnOk, Result, Ok, Err}
use Rattle.effect_flow.specs.Parts.{points_from, ways_from}
use Rattle.effect_flow.proofs.Bodies.{flow_with_body}
use Rattle.effect_flow.proofs.flow.Flow.add.Goals as goal

on_ok_both : {T E P Q R : Type 0} (r : Result T E) → (P → Q → R) → OnOk r P → OnOk r Q → OnOk r R
on_ok_both (Ok x) f p q = f p q
on_ok_both (Err e) f p q = tt

on_ok : {T E P Q : Type 0} (r : Result T E) → (P → Q) → OnOk r P → OnOk r Q
on_ok (Ok x) f p = f p
on_ok (Err e) f p = tt

pub returns-clause-body : goal.returns-clause-body
returns-clause-body c =
    let old = c.args.self.now in
    let code = c.args.skeleton.now in
    let fields : c.self.inside.points.items ≡ old.points = ap (λ v. v.points) c.self.view_is in
    let before : c.len-before.result ≡ length old.points = c.len-before.ensures ∙ c.self.inside.points.ok.0 ∙ ap length fields in
    let size : c.len-size.result ≡ length code.points.items = c.len-size.ensures ∙ code.points.ok.0 in
    let points : c.deref-3.result.now ≡ points_from c.args.function c.args.generation 0 code.points.items =
    c.deref-3.ensures.value
    ∙ c.in_ok-points.ensures
    ∙ ap (points_from c.args.function c.args.generation 0) c.deref.ensures.value in
    let ways : c.deref-4.result.now ≡ ways_from (length old.points) (length code.points.items) 0 code.next.items =
    c.deref-4.ensures.value
    ∙ c.in_ok-ways.ensures
    ∙ ap (ways_from c.len-before.result c.len-size.result 0) c.deref-2.ensures.value
    ∙ ap (λ n. ways_from n c.len-size.result 0 code.next.items) before
    ∙ ap (λ n. ways_from (length old.points) n 0 code.next.items) size in
    on_ok_both c.append.result
    (λ p w names bodies tokens flow named.
    flow_with_body names bodies old c.append.new.self c.args.function c.args.generation code tokens flow named
    (p ∙ ap (λ ps. old.points ++ ps) points)
    (w ∙ ap (λ ws. old.ways ++ ws) ways))
    c.append.ensures.points c.append.ensures.ways

pub returns-clause-points : goal.returns-clause-points
returns-clause-points c =
    let code = c.args.skeleton.now in
    let added : c.deref-3.result.now ≡ points_from c.args.function c.args.generation 0 code.points.items =
    c.deref-3.ensures.value
    ∙ c.in_ok-points.ensures
    ∙ ap (points_from c.args.function c.args.generation 0) c.deref.ensures.value in
    on_ok c.append.result (λ p. p ∙ ap (λ ps. c.args.self.now.points ++ ps) added) c.append.ensures.points

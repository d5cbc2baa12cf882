use Rattle.std.proofs.Common.{arith, ◌∙◌, reverse, sym, ap, Some, None}
use Rattle.c_scope.specs.Names.{texts_of}
use Rattle.c_scope.proofs.HistoryLemmas.{nowhere}
use Rattle.c_scope.proofs.KeptLemmas.{finds, stands_within, stands_value, declared_value}
use Rattle.c_scope.proofs.scopes.Scopes.find.Goals as goal

pub returns-in_err-number : goal.returns-in_err-number
returns-in_err-number g c =
    let kept = c.self.invariant.0 in
    rw (c.from_residual.ensures, ← c.self.view_is) (sym (nowhere (texts_of c.self.inside.names.entries) c.args.name.now (reverse c.self.inside.steps.items) c.in_err-number.ensures.absent kept.history).1)

pub returns-in_err-place : goal.returns-in_err-place
returns-in_err-place g c =
    let f = finds c.self.invariant.0 c.args.name.now c.in_ok-number.number c.in_ok-number.ensures.found None c.in_err-place.ensures in
    rw (c.from_residual-in_err-place.ensures, ← c.self.view_is) (sym f)

pub index-requires : goal.index-requires
index-requires g c =
    let f = finds c.self.invariant.0 c.args.name.now c.in_ok-number.number c.in_ok-number.ensures.found (Some c.in_ok-place.place) c.in_ok-place.ensures in
    let within = stands_within c.self.inside.steps.items c.in_ok-place.place f.0 f.1 in let ok = c.self.inside.steps.ok.0 in omega (arith, within, ok)

pub returns-in-Declare : goal.returns-in-Declare
returns-in-Declare g c =
    let f = finds c.self.invariant.0 c.args.name.now c.in_ok-number.number c.in_ok-number.ensures.found (Some c.in_ok-place.place) c.in_ok-place.ensures in
    rw (← c.self.view_is) (sym (ap declared_value c.in-Declare.is) ∙ stands_value c.self.inside.steps.items c.in_ok-place.place f.0 c.index.result.now f.1 c.index.ensures ∙ sym f.2)

pub returns-in-Enter : goal.returns-in-Enter
returns-in-Enter g c =
    let f = finds c.self.invariant.0 c.args.name.now c.in_ok-number.number c.in_ok-number.ensures.found (Some c.in_ok-place.place) c.in_ok-place.ensures in
    rw (← c.self.view_is) (sym (ap declared_value c.in-Enter.is) ∙ stands_value c.self.inside.steps.items c.in_ok-place.place f.0 c.index.result.now f.1 c.index.ensures ∙ sym f.2)

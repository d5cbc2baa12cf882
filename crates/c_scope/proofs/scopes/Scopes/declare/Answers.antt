use Rattle.std.proofs.Common.{◌≡◌, ◌∙◌, ◌∷◌, [], reverse, sym, ap, length, get_or}
use Rattle.std.proofs.lemmas.List.{length-reverse}
use Rattle.c_scope.specs.declared.step.Declaration.{Declaration}
use Rattle.c_scope.specs.declared.step.Step.TheVariants.{Declare}
use Rattle.c_scope.specs.Names.{texts_of}
use Rattle.c_scope.specs.Tables.{look_up_first, declared}
use Rattle.c_scope.specs.History.{tables_of}
use Rattle.c_scope.proofs.HistoryLemmas.{nowhere, reverse-push}
use Rattle.c_scope.proofs.KeptLemmas.{kept-add, kept-declare, first-has, first-lacks, after_fault, none_some, told_some, told_none}
use Rattle.c_scope.proofs.scopes.Scopes.declare.Goals as goal

pub returns-in_err-number-clause-present : goal.returns-in_err-number-clause-present
returns-in_err-number-clause-present g c = λ there.
    let none = (nowhere (texts_of c.self.inside.names.entries) c.args.name.now (reverse c.self.inside.steps.items) c.in_err-number.ensures.absent c.self.invariant.0.history).0 in
    absurd (none_some _ _ (ap (λ ts. look_up_first ts c.args.name.now) c.self.view_is) none there)

pub invariant_of-self-then-is_within : goal.invariant_of-self-then-is_within
invariant_of-self-then-is_within g c =
    let a = kept-add c.self.inside.names.entries c.add.new.names.entries c.args.name.now (reverse c.self.inside.steps.items) c.in_ok-number.ensures.added c.self.invariant.0 in
    (a.0, c.self.invariant.1)

pub returns-then-is_within-clause-told : goal.returns-then-is_within-clause-told
returns-then-is_within-clause-told g c =
    let a = kept-add c.self.inside.names.entries c.add.new.names.entries c.args.name.now (reverse c.self.inside.steps.items) c.in_ok-number.ensures.added c.self.invariant.0 in
    told_some _ _ (ap (λ ts. look_up_first ts c.args.name.now) (a.1 ∙ c.self.view_is))
    (first-has a.0 c.args.name.now c.in_ok-number.number c.in_ok-number.ensures.number c.place-hides.result c.place-hides.ensures (λ before. c.if-is_within.ensures (rw c.self.invariant.1 before)))

pub returns-then-is_within-clause-tables : goal.returns-then-is_within-clause-tables
returns-then-is_within-clause-tables g c =
    let a = kept-add c.self.inside.names.entries c.add.new.names.entries c.args.name.now (reverse c.self.inside.steps.items) c.in_ok-number.ensures.added c.self.invariant.0 in
    a.1 ∙ c.self.view_is

pub invariant_of-self-in_err-push : goal.invariant_of-self-in_err-push
invariant_of-self-in_err-push g c =
    let a = kept-add c.self.inside.names.entries c.add.new.names.entries c.args.name.now (reverse c.self.inside.steps.items) c.in_ok-number.ensures.added c.self.invariant.0 in
    rw c.in_err-push.ensures.items (a.0, c.self.invariant.1)

pub returns-in_err-push-clause-present : goal.returns-in_err-push-clause-present
returns-in_err-push-clause-present g c = λ there.
    let a = kept-add c.self.inside.names.entries c.add.new.names.entries c.args.name.now (reverse c.self.inside.steps.items) c.in_ok-number.ensures.added c.self.invariant.0 in
    absurd (none_some _ _ (ap (λ ts. look_up_first ts c.args.name.now) (a.1 ∙ c.self.view_is))
    (first-lacks a.0 c.args.name.now c.in_ok-number.number c.in_ok-number.ensures.number c.place-hides.result c.place-hides.ensures (rw (← c.self.invariant.1) c.if-is_within.ensures)) there)

pub returns-in_err-push-clause-fault : goal.returns-in_err-push-clause-fault
returns-in_err-push-clause-fault g c =
    let a = kept-add c.self.inside.names.entries c.add.new.names.entries c.args.name.now (reverse c.self.inside.steps.items) c.in_ok-number.ensures.added c.self.invariant.0 in
    after_fault c.from_residual-in_err-push.result _ (ap (λ xs. tables_of (texts_of c.add.new.names.entries) (reverse xs)) c.in_err-push.ensures.items ∙ a.1 ∙ c.self.view_is)

pub invariant_of-self-2 : goal.invariant_of-self-2
invariant_of-self-2 g c =
    let a = kept-add c.self.inside.names.entries c.add.new.names.entries c.args.name.now (reverse c.self.inside.steps.items) c.in_ok-number.ensures.added c.self.invariant.0 in
    let old = c.self.inside.steps.items in
    let d : Declaration g.row.T.Denot = record { name = c.in_ok-number.number; value = c.args.value; hides = c.place-hides.result } in
    let steps : reverse c.push.new.self.items ≡ Declare d ∷ reverse old = ap reverse c.in_ok-push.ensures.items ∙ reverse-push old (Declare d) in
    let place : c.len-place.result ≡ length (reverse old) = c.len-place.ensures ∙ c.self.inside.steps.ok.0 ∙ sym (length-reverse old) in
    rw (steps, c.set_place.ensures.texts, c.set_place.ensures.places, place)
    (kept-declare _ _ (reverse old) d c.in_ok-number.ensures.number.within c.place-hides.ensures (rw (← c.self.invariant.1) c.if-is_within.ensures) a.0, c.self.invariant.1)

pub returns-clause-told : goal.returns-clause-told
returns-clause-told g c =
    let a = kept-add c.self.inside.names.entries c.add.new.names.entries c.args.name.now (reverse c.self.inside.steps.items) c.in_ok-number.ensures.added c.self.invariant.0 in
    told_none _ _ (ap (λ ts. look_up_first ts c.args.name.now) (a.1 ∙ c.self.view_is))
    (first-lacks a.0 c.args.name.now c.in_ok-number.number c.in_ok-number.ensures.number c.place-hides.result c.place-hides.ensures (rw (← c.self.invariant.1) c.if-is_within.ensures))

pub returns-clause-tables : goal.returns-clause-tables
returns-clause-tables g c =
    let a = kept-add c.self.inside.names.entries c.add.new.names.entries c.args.name.now (reverse c.self.inside.steps.items) c.in_ok-number.ensures.added c.self.invariant.0 in
    let old = c.self.inside.steps.items in
    let d : Declaration g.row.T.Denot = record { name = c.in_ok-number.number; value = c.args.value; hides = c.place-hides.result } in
    let steps : reverse c.push.new.self.items ≡ Declare d ∷ reverse old = ap reverse c.in_ok-push.ensures.items ∙ reverse-push old (Declare d) in
    ap (tables_of (texts_of c.set_place.new.names.entries)) steps
    ∙ ap (λ ts. declared (tables_of ts (reverse old)) (get_or ts c.in_ok-number.number []) c.args.value) c.set_place.ensures.texts
    ∙ ap (λ ts. declared ts (get_or (texts_of c.add.new.names.entries) c.in_ok-number.number []) c.args.value) (a.1 ∙ c.self.view_is) ∙ ap (λ n. declared c.args.self.now n c.args.value) c.in_ok-number.ensures.number.is

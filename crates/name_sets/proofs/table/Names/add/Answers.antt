use Rattle.std.proofs.Common.{◌∙◌, sym, ap, arith, map, string_bytes, Contains, length, ◌<◌, ◌++◌, ◌∷◌, [], Global, slice_get}
use Rattle.std.proofs.lemmas.List.{length-map}
use Rattle.name_sets.proofs.TextLemmas.{Contains-at, with_text-present, with_text-absent, at-push, IsTable-push, texts-insert}
use Rattle.name_sets.proofs.table.Names.add.Goals as goal

pub returns-in-Some-clause-texts : goal.returns-in-Some-clause-texts
returns-in-Some-clause-texts c =
    sym (with_text-present c.args.self.now c.args.text.now (Contains-at c.args.self.now c.in-Some.id c.args.text.now c.in-Some.ensures.found))

pub returns-in-Some-clause-full : goal.returns-in-Some-clause-full
returns-in-Some-clause-full c =
    (λ h. (cc), λ h. absurd (h.1 (Contains-at c.args.self.now c.in-Some.id c.args.text.now c.in-Some.ensures.found)))

pub invariant_of-self-2 : goal.invariant_of-self-2
invariant_of-self-2 c =
    let texts = map string_bytes c.self.inside.texts.keys in
    let absent : Contains texts c.args.text.now → ⊥ = rw c.self.view_is c.in_default.ensures.absent in
    let room : length texts < 2048 = omega (arith, length-map c.self.inside.texts.keys (string_bytes {Z = Global})) in
    rw (texts-insert c.self.inside.texts.keys c.insert.new.self.keys c.in-Ok.owned c.args.text.now c.in-Ok.ensures.ok absent c.in-Ok-insert.ensures.keys)
    (IsTable-push texts c.args.text.now c.self.invariant room absent)

pub returns-clause-texts : goal.returns-clause-texts
returns-clause-texts c =
    let texts = map string_bytes c.self.inside.texts.keys in
    let absent : Contains texts c.args.text.now → ⊥ = rw c.self.view_is c.in_default.ensures.absent in
    rw (← c.self.view_is)
    (texts-insert c.self.inside.texts.keys c.insert.new.self.keys c.in-Ok.owned c.args.text.now c.in-Ok.ensures.ok absent c.in-Ok-insert.ensures.keys
    ∙ sym (with_text-absent texts c.args.text.now absent))

pub returns-clause-id : goal.returns-clause-id
returns-clause-id c =
    let texts = map string_bytes c.self.inside.texts.keys in
    let absent : Contains texts c.args.text.now → ⊥ = rw c.self.view_is c.in_default.ensures.absent in
    rw (texts-insert c.self.inside.texts.keys c.insert.new.self.keys c.in-Ok.owned c.args.text.now c.in-Ok.ensures.ok absent c.in-Ok-insert.ensures.keys, c.at.ensures, c.len-index.ensures.len)
    (ap (λ n. slice_get (texts ++ c.args.text.now ∷ []) n) (sym (length-map c.self.inside.texts.keys (string_bytes {Z = Global}))) ∙ at-push texts c.args.text.now)

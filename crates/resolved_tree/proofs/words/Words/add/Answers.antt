use Rattle.std.proofs.Common.{◌∙◌, sym, ap, arith, map, string_bytes, Contains, ◌++◌, ◌∷◌, [], Global, slice_get, length-append}
use Rattle.std.proofs.lemmas.List.{length-map}
use Rattle.name_sets.proofs.TextLemmas.{Contains-at, with_text-present, with_text-absent, at-push, at-lookup, absent-lookup, texts-insert}
use Rattle.resolved_tree.proofs.words.Words.add.Goals as goal

pub returns-in-Some-clause-word : goal.returns-in-Some-clause-word
returns-in-Some-clause-word c =
    rw (← c.self.view_is) (at-lookup c.args.text.now c.self.inside.texts.keys c.in-Some.index c.in-Some.ensures.within (sym c.in-Some.ensures.index))

pub returns-in-Some-clause-texts : goal.returns-in-Some-clause-texts
returns-in-Some-clause-texts c =
    let texts = map string_bytes c.self.inside.texts.keys in
    let at = at-lookup c.args.text.now c.self.inside.texts.keys c.in-Some.index c.in-Some.ensures.within (sym c.in-Some.ensures.index) in
    rw (← c.self.view_is) (sym (with_text-present texts c.args.text.now (Contains-at texts c.in-Some.index c.args.text.now at)))

pub returns-clause-texts : goal.returns-clause-texts
returns-clause-texts c =
    let texts = map string_bytes c.self.inside.texts.keys in
    let absent : Contains texts c.args.text.now → ⊥ = absent-lookup c.args.text.now c.self.inside.texts.keys (sym c.in_default.ensures.found) in
    rw (← c.self.view_is)
    (texts-insert c.self.inside.texts.keys c.insert.new.self.keys c.in_ok-owned.owned c.args.text.now c.in_ok-owned.ensures.ok absent c.in_ok-insert.ensures.keys
    ∙ sym (with_text-absent texts c.args.text.now absent))

pub returns-clause-word : goal.returns-clause-word
returns-clause-word c =
    let texts = map string_bytes c.self.inside.texts.keys in
    let absent : Contains texts c.args.text.now → ⊥ = absent-lookup c.args.text.now c.self.inside.texts.keys (sym c.in_default.ensures.found) in
    rw (texts-insert c.self.inside.texts.keys c.insert.new.self.keys c.in_ok-owned.owned c.args.text.now c.in_ok-owned.ensures.ok absent c.in_ok-insert.ensures.keys, c.len-index.ensures.len)
    (ap (λ n. slice_get (texts ++ c.args.text.now ∷ []) n) (sym (length-map c.self.inside.texts.keys (string_bytes {Z = Global}))) ∙ at-push texts c.args.text.now)

pub returns-clause-within : goal.returns-clause-within
returns-clause-within c =
    let texts = map string_bytes c.self.inside.texts.keys in
    let absent : Contains texts c.args.text.now → ⊥ = absent-lookup c.args.text.now c.self.inside.texts.keys (sym c.in_default.ensures.found) in
    rw (texts-insert c.self.inside.texts.keys c.insert.new.self.keys c.in_ok-owned.owned c.args.text.now c.in_ok-owned.ensures.ok absent c.in_ok-insert.ensures.keys, c.len-index.ensures.len)
    (omega (arith, length-append texts (c.args.text.now ∷ []), length-map c.self.inside.texts.keys (string_bytes {Z = Global})))

use Rattle.std.proofs.Common.{◌≡◌, sym, true, map, string_bytes, ◌∙◌, Contains}
use Rattle.name_sets.specs.NameLists.{is_among}
use Rattle.name_sets.proofs.TextLemmas.{absent-lookup, with_text-absent, texts-insert}
use Rattle.version_spans.proofs.AmongTexts.{among_keys, with_there}
use Rattle.version_spans.proofs.texts.TextSet.put.Goals as goal

pub returns-then-is_some-clause-texts : goal.returns-then-is_some-clause-texts
returns-then-is_some-clause-texts c =
    let keys = c.self.inside.texts.keys in
    let there : is_among (map string_bytes keys) c.args.text.now ≡ true =
    among_keys c.args.text.now keys ∙ sym c.get_index_of.ensures.found ∙ sym c.is_some.ensures ∙ c.if-is_some.true in
    rw (← c.self.view_is) (sym (with_there (map string_bytes keys) c.args.text.now there))

pub returns-clause-texts : goal.returns-clause-texts
returns-clause-texts c =
    let keys = c.self.inside.texts.keys in
    let texts = map string_bytes keys in
    let absent : Contains texts c.args.text.now → ⊥ =
    absent-lookup c.args.text.now keys (sym c.get_index_of.ensures.found ∙ sym c.is_some.ensures ∙ c.if-is_some.false) in
    rw (← c.self.view_is)
    (texts-insert keys c.insert.new.self.keys c.in_ok-owned.owned c.args.text.now c.in_ok-owned.ensures.ok absent c.in_ok-insert.ensures.keys
    ∙ sym (with_text-absent texts c.args.text.now absent))

use Rattle.std.proofs.Common.{◌∙◌, arith, map, string_bytes, length, ◌<◌, Global}
use Rattle.std.proofs.lemmas.List.{length-map}
use Rattle.name_sets.proofs.TextLemmas.{after_from_test, text_of-key}
use Rattle.name_sets.proofs.table.Names.before.Goals as goal

pub returns-clause-other : goal.returns-clause-other
returns-clause-other c =
    let texts = map string_bytes c.self.inside.texts.keys in
    let first : c.args.a < length texts = rw c.self.view_is c.requires.first in
    let second : c.args.b < length texts = rw c.self.view_is c.requires.second in
    rw (← c.self.view_is) (after_from_test texts c.args.a c.args.b c.as_str.result.now c.as_str-2.result.now c.cmp.result c.eq.result c.self.invariant first second
    (c.as_str.ensures.value ∙ text_of-key c.self.inside.texts.keys c.args.a c.index-texts-index.result (omega (arith, length-map c.self.inside.texts.keys (string_bytes {Z = Global}))) (rw (← c.as_slice-texts.ensures.keys, ← c.index.ensures.value) c.index-texts-index.is))
    (c.as_str-2.ensures.value ∙ text_of-key c.self.inside.texts.keys c.args.b c.index-texts-index-2.result (omega (arith, length-map c.self.inside.texts.keys (string_bytes {Z = Global}))) (rw (← c.as_slice-texts.ensures.keys, ← c.index-2.ensures.value) c.index-texts-index-2.is)) c.cmp.ensures c.eq.ensures)

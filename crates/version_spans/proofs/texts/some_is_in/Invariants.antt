use Rattle.std.proofs.Common.{◌≡◌, map, string_bytes}
use Rattle.std.specs.List.{list_any}
use Rattle.name_sets.specs.NameLists.{is_among}
use Rattle.version_spans.proofs.AmongTexts.{some_from}
use Rattle.version_spans.proofs.texts.some_is_in.Given as goal

-- what is found is found from the next text on
abbrev pub invariant-loop-text : goal.invariant-loop-text
invariant-loop-text l = list_any (is_among l.set) (map string_bytes l.texts) ≡ some_from (is_among l.set) l.texts l.text-index

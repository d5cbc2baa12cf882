use Rattle.std.proofs.Common.{ap, ◌∙◌, map, string_bytes}
use Rattle.std.specs.String.{string_eq}
use Rattle.std.proofs.lemmas.List.Filters.{dedup_is}
use Rattle.name_sets.specs.NameLists.{name_set}
use Rattle.sorted_names.proofs.Order.{set_of_sorted}
use Rattle.sorted_names.proofs.names.names_in_order.Goals as goal

pub returns : goal.returns
returns c =
    ap (map string_bytes) (dedup_is string_eq c.sort.new.self.items c.dedup.new.self.items c.dedup.ensures.filtered)
    ∙ set_of_sorted c.in_ok-texts.texts.items c.sort.new.self.items c.in_ok-sort.ensures.permutation c.in_ok-sort.ensures.sorted
    ∙ ap name_set c.in_ok-texts.ensures

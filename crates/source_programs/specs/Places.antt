-- Places by name, as contracts see them.
use Rattle.std.specs.Prelude.{ℕ, Option}
use Rattle.indexmap.specs.IndexMap.{get_by_text}
use Rattle.c_tree.specs.BareExpr.{Bytes}
use Rattle.source_programs.specs.declared.places.Places.{Places}

-- the place of a name
abbrev pub place_in : Places → Bytes → Option ℕ
place_in places name = get_by_text places.by_name name

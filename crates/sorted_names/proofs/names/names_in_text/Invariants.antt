use Rattle.std.proofs.Common.{◌≡◌, map, string_bytes, take}
use Rattle.c_tree.specs.Bare.{bare_def}
use Rattle.c_semantics.specs.Texts.{names}
use Rattle.sorted_names.proofs.names.names_in_text.Given as goal

-- the names of the definitions so far
abbrev pub invariant-loop-definition : goal.invariant-loop-definition
invariant-loop-definition l = map string_bytes l.texts.items ≡ names (map bare_def (take l.definition-index l.definitions))

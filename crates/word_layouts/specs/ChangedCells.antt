-- How the words of globals change.
use Rattle.std.specs.Prelude.{ℕ, ◌-◌, List, [], ◌∷◌, ◌++◌, length, map, replicate, take}
use Rattle.constant_values.specs.Kinds.{converted_to_kind}
use Rattle.constant_values.specs.declared.kind.ValueKind.{ValueKind}
use Rattle.versioned_structs.specs.Formulas.{value_in}
use Rattle.bytecode.specs.Words.{word_of}
use Rattle.type_transformers.specs.declared.global.GlobalChange.{GlobalChange}
use Rattle.type_transformers.specs.declared.global.GlobalChange.TheVariants.{Given, Copied, Zero}
use Rattle.word_layouts.specs.WordValues.{by_word, read_word}

-- the words of the cells of a global after a change, from those of a kind before it
abbrev pub changed_cells : ValueKind → GlobalChange → List ℕ → List ℕ
changed_cells kind (Given to formula) words = word_of by_word (converted_to_kind to (value_in (map (read_word kind) words) formula)) ∷ []
changed_cells kind (Copied n to) words = take n words ++ replicate (n - length words) 0
changed_cells kind (Zero n to) words = replicate n 0

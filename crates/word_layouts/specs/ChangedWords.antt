-- How the words of objects change from version to version.
use Rattle.std.specs.Prelude.{ℕ, zero, suc, ◌+◌, List, replicate, slice_get, Option, Some, None}
use Rattle.std.specs.Option.{option_and_then, option_flatten}
use Rattle.versioned_structs.specs.Limits.{most_fields}
use Rattle.versioned_structs.specs.Transforms.{new_values}
use Rattle.word_layouts.specs.declared.change.Conversion.{Conversion}
use Rattle.word_layouts.specs.declared.change.WordChange.{WordChange}
use Rattle.word_layouts.specs.declared.change.WordChange.TheVariants.{Zero, Given}
use Rattle.word_layouts.specs.declared.layouts.VersionChanges.{VersionChanges}
use Rattle.word_layouts.specs.WordValues.{object_words, read_words}

-- the words of an object that is converted
abbrev pub converted_words : Conversion → List ℕ → List ℕ
converted_words c words = object_words (new_values c.transform (read_words c.kinds.items words))

-- the words of an object after a change, if there is one
abbrev pub changed_words : Option WordChange → List ℕ → List ℕ
changed_words None words = words
changed_words (Some Zero) words = replicate most_fields 0
changed_words (Some (Given c)) words = converted_words c words

-- what changes the objects of a struct, by the number of its tag, where the next version follows one
abbrev pub change_of : VersionChanges → (tag : ℕ) → Option WordChange
change_of v tag = option_flatten (slice_get v.structs.items tag)

abbrev pub change_at : List VersionChanges → (tag version : ℕ) → Option WordChange
change_at versions tag version = option_and_then (λ v. change_of v tag) (slice_get versions version)

-- the words of an object of that version after so many versions more: each change once, in the order of the versions
abbrev pub brought_words : (ℕ → Option WordChange) → (from more : ℕ) → List ℕ → List ℕ
brought_words change from zero words = words
brought_words change from (suc n) words = changed_words (change (from + n)) (brought_words change from n words)

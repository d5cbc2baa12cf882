-- What the threads of code share, as words: globals and arrays, objects, mutexes.
use Rattle.std.specs.Prelude.{ℕ, ◌+◌, ◌*◌, ◌^◌, List, [], replicate, Option, bytes_eq, slice_index_or, slice_set}
use Rattle.std.specs.List.{position_or_len}
use Rattle.c_tree.specs.BareExpr.{Bytes}
use Rattle.c_tree.specs.BareDef.{BareBinding}
use Rattle.c_semantics.specs.Values.{ThreadRef}
use Rattle.object_store.specs.declared.object.Object.{Object}
use Rattle.object_store.specs.Stores.{Store}

-- the names by which a run numbers things: those of globals and arrays, of mutexes, and the tags of structs, of all its texts
pub record Names : Type 0 where
  pub cells : List Bytes
  pub mutexes : List Bytes
  pub tags : List Bytes

-- the number of a name in such a list; the list's length where it isn't there
abbrev pub number_of : List Bytes → Bytes → ℕ
number_of names name = position_or_len (λ n. bytes_eq name n) names

-- the words of each global and array, by the number of its name; the objects that live; the holder of each mutex; and how many texts
-- were installed after the first, which is the number of the text in force, counted from 0
pub record Data : Type 0 where
  pub cells : List (List ℕ)
  pub objects : Store
  pub holders : List (Option ℕ)
  pub version : ℕ

-- the words under a number; none under one that isn't there
abbrev pub row : Data → ℕ → List ℕ
row d n = slice_index_or d.cells n []

-- the words under a number changed
abbrev pub with_row : Data → ℕ → List ℕ → Data
with_row d n words = record d { cells = slice_set d.cells n words }

-- the word of a thread: its slot and its number in one, so that no two threads have the same one, and none has 0
abbrev pub thread_word : ThreadRef → ℕ
thread_word r = 2 ^ r.slot * (2 * r.serial + 1)

-- so many words has an object, whatever its struct
abbrev pub most_fields : ℕ
most_fields = 16

-- the number of a field among the members of a struct
abbrev pub field_number : List BareBinding → Bytes → ℕ
field_number members name = position_or_len (λ b. bytes_eq name b.name) members

-- a field's word, and a field changed
abbrev pub field_word : List BareBinding → Bytes → Object → ℕ
field_word members name o = slice_index_or o.fields (field_number members name) 0

abbrev pub with_field : List BareBinding → Bytes → ℕ → Object → Object
with_field members name w o = record o { fields = slice_set o.fields (field_number members name) w }

-- a new object, with all words 0, of the layout that its struct has in a version. An object's layout is the number of the text by which
-- its words are those of its fields
abbrev pub new_object : (tag version : ℕ) → Object
new_object tag version = record { tag = tag; layout = version; fields = replicate most_fields 0 }

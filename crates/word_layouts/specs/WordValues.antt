-- Values that are read from words. Each object is named by its handle, and each thread by its word, so that what a program does with a
-- value it does with the word.
use Rattle.std.specs.Prelude.{ℕ, ◌==◌, ◌-◌, List, [], ◌∷◌, ◌++◌, map, length, replicate, Option, Some, None, if◌then◌else◌}
use Rattle.std.specs.Option.{option_map}
use Rattle.c_ints.specs.Number.{number}
use Rattle.c_semantics.specs.Values.{Value, ThreadRef, Number, Reference, Started}
use Rattle.constant_values.specs.declared.kind.ValueKind.{ValueKind}
use Rattle.constant_values.specs.declared.kind.ValueKind.TheVariants as kind
use Rattle.versioned_structs.specs.Limits.{most_fields}
use Rattle.bytecode.specs.Words.{Naming, number_at, word_of}

-- a thread that is named by a word
abbrev pub thread_of : ℕ → ThreadRef
thread_of w = record { slot = 0; serial = w }

-- objects and threads that are named by words
abbrev pub by_word : Naming
by_word = record { object = λ o. o; thread = λ t. t.serial }

-- a value, its object or thread named by its word
abbrev pub renamed : Naming → Value → Value
renamed n (Number i) = Number i
renamed n (Reference object) = Reference (option_map n.object object)
renamed n (Started thread) = Started (option_map (λ t. thread_of (n.thread t)) thread)

-- a word that isn't 0
abbrev pub unless_zero : ℕ → Option ℕ
unless_zero w = if w == 0 then None else Some w

-- the value of a kind that a word is read as
abbrev pub read_word : ValueKind → ℕ → Value
read_word (kind.Number k) w = Number (number k (number_at k w))
read_word kind.Reference w = Reference (unless_zero w)
read_word kind.Thread w = Started (option_map thread_of (unless_zero w))

-- those of some kinds that the first of some words are read as
abbrev pub read_words : List ValueKind → List ℕ → List Value
read_words (k ∷ ks) (w ∷ ws) = read_word k w ∷ read_words ks ws
read_words _ _ = []

-- the words of an object with the fields of some values: theirs, and then 0
abbrev pub object_words : List Value → List ℕ
object_words values = map (word_of by_word) values ++ replicate (most_fields - length values) 0

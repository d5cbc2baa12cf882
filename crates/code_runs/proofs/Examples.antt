-- What stops do to some words: what is printed, elements, handles, fields and mutexes; and threads by their words.
use Rattle.std.proofs.Common.{◌≡◌, ◌-◌, ◌^◌, pos, negsuc, List, [], ◌∷◌, ◌++◌, Some, None, codes, refl, ap}
use Rattle.std.specs.Fmt.{signed_decimal}
use Rattle.run_types.specs.declared.trap.TrapKind.TheVariants.{Index, MutexHeld, Null, Relock, Stale, Unlock as NotHeld}
use Rattle.c_ints.specs.declared.kind.Kind.TheVariants.{I32}
use Rattle.c_tree.specs.BareExpr.{Integer}
use Rattle.c_tree.specs.BareDef.{BareBinding}
use Rattle.c_semantics.specs.Stops.{InitMutex, Lock, ReadElement, ReadGlobal, Unlock, WriteGlobal}
use Rattle.source_model.specs.Waits.{ForThread}
use Rattle.object_store.specs.declared.object.Object.{Object}
use Rattle.object_store.specs.Stores.{Store, with_object, without_object}
use Rattle.object_store.proofs.HandleMaps.{get_inserted, get_removed}
use Rattle.code_runs.specs.CodeData.{Data, Names, field_word, new_object, thread_word, with_field}
use Rattle.code_runs.specs.CodeThreads.{CodeSlot, Free, Live, Over, starting}
use Rattle.code_runs.specs.CodeMoves.{left_from}
use Rattle.code_runs.specs.CodeWaits.{joined_from}
use Rattle.code_runs.specs.SharedStops.{Does, Done, goes, on_live, on_object, printed_words, read_element, release, traps, with_holders, with_objects, write_element}

-- ---- printing: the word of -5 as an int, and one of 2 ^ 32 - 1 as an unsigned int

two_arguments : printed_words (codes "%d is %u%%") ((2 ^ 64 - 5) ∷ (2 ^ 32 - 1) ∷ [])
    ≡ signed_decimal (negsuc 4) ++ (codes " is " ++ (signed_decimal (pos 4294967295) ++ codes "%"))
two_arguments = refl

wide_arguments : printed_words (codes "%ld, %lu") ((2 ^ 64 - 1) ∷ (2 ^ 64 - 1) ∷ [])
    ≡ signed_decimal (negsuc 0) ++ (codes ", " ++ (signed_decimal (pos 18446744073709551615) ++ []))
wide_arguments = refl

-- ---- a global g with 7, an array xs with 10 and 20, and two mutexes, of which slot 2 holds the second

names : Names
names = record {
  cells = codes "g" ∷ codes "xs" ∷ [];
  mutexes = codes "m" ∷ codes "n" ∷ [];
  tags = codes "pair" ∷ [];
}

module _ (objects : Store) where
  abbrev d : Data
  d = record { cells = (7 ∷ []) ∷ (10 ∷ 20 ∷ []) ∷ []; objects = objects; holders = None ∷ Some 2 ∷ []; version = 3 }

  global_read : Does names [] 0 (ReadGlobal (codes "g")) d (1 ∷ []) (goes d (7 ∷ 1 ∷ []))
  unfolding names
  global_read = refl

  -- a write leaves its word
  global_written : Does names [] 0 (WriteGlobal (codes "g")) d (8 ∷ 1 ∷ [])
      (goes (record { cells = (8 ∷ []) ∷ (10 ∷ 20 ∷ []) ∷ []; objects = objects; holders = None ∷ Some 2 ∷ []; version = 3 }) (8 ∷ 1 ∷ []))
  unfolding names
  global_written = refl

  last_element : Does names [] 0 (ReadElement (codes "xs")) d (1 ∷ []) (goes d (20 ∷ []))
  unfolding names
  last_element = refl

  past_the_end : read_element d 1 2 [] ≡ traps d Index
  past_the_end = refl

  -- the word of -1 is no index
  before_the_first : read_element d 1 (2 ^ 64 - 1) [] ≡ traps d Index
  before_the_first = refl

  element_written : write_element d 1 1 9 (5 ∷ [])
      ≡ goes (record { cells = (7 ∷ []) ∷ (10 ∷ 9 ∷ []) ∷ []; objects = objects; holders = None ∷ Some 2 ∷ []; version = 3 }) (9 ∷ 5 ∷ [])
  element_written = refl

  not_written : write_element d 1 2 9 [] ≡ traps d Index
  not_written = refl

  -- ---- mutexes

  free_is_taken : Does names [] 1 (Lock (codes "m")) d (5 ∷ []) (goes (with_holders d (Some 1 ∷ Some 2 ∷ [])) (0 ∷ 5 ∷ []))
  unfolding names
  free_is_taken = refl

  own_is_locked : Does names [] 2 (Lock (codes "n")) d [] (traps d Relock)
  unfolding names
  own_is_locked = refl

  own_is_unlocked : Does names [] 2 (Unlock (codes "n")) d [] (goes (with_holders d (None ∷ None ∷ [])) (0 ∷ []))
  unfolding names
  own_is_unlocked = refl

  other_is_unlocked : Does names [] 1 (Unlock (codes "n")) d [] (traps d NotHeld)
  unfolding names
  other_is_unlocked = refl

  held_is_initialised : Does names [] 1 (InitMutex (codes "n")) d [] (traps d MutexHeld)
  unfolding names
  held_is_initialised = refl

  -- ---- handles

  null_is_read : (k : Object → Done) → on_object d 0 k ≡ traps d Null
  null_is_read k = refl

  -- the handle of an object that was ended leads nowhere
  ended_is_read : (k : Object → Done)
      → on_object (with_objects d (without_object objects 5)) 5 k ≡ traps (with_objects d (without_object objects 5)) Stale
  ended_is_read k = ap (on_live (with_objects d (without_object objects 5)) k) (get_removed objects.live 5)

  ended_is_ended : release (with_objects d (without_object objects 5)) 5 [] ≡ traps (with_objects d (without_object objects 5)) Stale
  ended_is_ended = rw (get_removed objects.live 5) refl

  -- one that lives is there until its end
  live_is_read : (o : Object) (k : Object → Done)
      → on_object (with_objects d (with_object objects 5 o)) 5 k ≡ k o
  live_is_read o k = ap (on_live (with_objects d (with_object objects 5 o)) k) (get_inserted objects.live 5 o)

  live_is_ended : (o : Object) → let s = with_object objects 5 o in
      release (with_objects d s) 5 [] ≡ goes (with_objects d (without_object s 5)) (0 ∷ [])
  live_is_ended o = rw (get_inserted objects.live 5 o) refl

  null_is_ended : release d 0 (5 ∷ []) ≡ goes d (0 ∷ 5 ∷ [])
  null_is_ended = refl

-- ---- fields

pair : List BareBinding
pair = record { declared = Integer I32; name = codes "a" } ∷ record { declared = Integer I32; name = codes "b" } ∷ []

one_and_two : Object
one_and_two = record { tag = 0; layout = 0; fields = 1 ∷ 2 ∷ 0 ∷ [] }

second_field : field_word pair (codes "b") one_and_two ≡ 2
unfolding pair one_and_two
second_field = refl

second_written : with_field pair (codes "b") 3 one_and_two ≡ record { tag = 0; layout = 0; fields = 1 ∷ 3 ∷ 0 ∷ [] }
unfolding pair one_and_two
second_written = refl

new_is_zero : field_word pair (codes "b") (new_object 0 3) ≡ 0
unfolding pair
new_is_zero = refl

-- ---- threads

first_thread : thread_word (record { slot = 0; serial = 0 }) ≡ 1
first_thread = refl

second_thread : thread_word (record { slot = 1; serial = 3 }) ≡ 14
second_thread = refl

-- the thread of a word is found where it ended, and where it lives it is waited for; one that was started later in its slot is not it
slots : List CodeSlot
slots =
    Live (starting 0 (record { function = codes "main"; arguments = []; version = 1 })) ∷ Over 3 42
    ∷ Live (starting 5 (record { function = codes "f"; arguments = 1 ∷ []; version = 1 })) ∷ Free ∷ []

ended_is_joined : left_from 14 0 slots ≡ Some (1, 42)
unfolding slots
ended_is_joined = refl

lives_is_waited_for : joined_from (thread_word (record { slot = 2; serial = 5 })) 0 slots ≡ Some (ForThread 2)
unfolding slots
lives_is_waited_for = refl

earlier_is_gone : left_from (thread_word (record { slot = 1; serial = 1 })) 0 slots ≡ None
unfolding slots
earlier_is_gone = refl

none_is_gone : left_from 0 0 slots ≡ None
unfolding slots
none_is_gone = refl

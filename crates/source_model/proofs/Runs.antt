-- Small texts run by the definitions.
use Rattle.std.proofs.Common.{◌≡◌, ℕ, zero, suc, List, [], ◌∷◌, Option, Some, None, refl, pos, negsuc}
use Rattle.std.specs.Prelude.{codes, option_map, replicate, ◌++◌}
use Rattle.std.specs.Fmt.{digits}
use Rattle.run_types.specs.declared.trap.TrapKind.TheVariants.{Overflow, Stale, Index}
use Rattle.c_tree.specs.BareDef.{BareDef}
use Rattle.source_model.specs.Worlds.{World, Limits, first_world}
use Rattle.source_model.specs.Moves.{move}
use Rattle.source_model.specs.Runs.{result, SourceMove, Move, Install, State, Finished, Trapped, Stuck, Going, Result, source_run}
use Rattle.source_model.specs.Spans.{Span, spans}
use Rattle.source_model.proofs.Texts.{overflowing, dividing, ending_objects, counting, locking, calling, calling_2, connection, connection_2, connection_3, indexing, starting, joining, constants, mixing}

-- what a run printed, and how it stands
pub record Seen : Type 0 where
  pub output : List ℕ
  pub state : State

abbrev pub seen_of : Result → Seen
seen_of r = record { output = r.output; state = r.state }

-- 16 slots, and so many objects
abbrev pub with_objects : ℕ → Limits
with_objects n = record { objects = n; slots = 16 }

abbrev pub seen : List (List BareDef) → ℕ → List SourceMove → Option Seen
seen texts capacity moves = option_map seen_of (source_run texts (with_objects capacity) moves)

-- n moves of thread 0
abbrev pub alone : ℕ → List SourceMove
alone n = replicate n (Move 0)

-- a print, then a sum that overflows
overflow : seen (overflowing ∷ []) 4096 (alone 3) ≡ Some (record { output = codes "a\n"; state = Trapped Overflow 0 })
overflow = refl

-- unsigned sums wrap, quotients truncate, `&&` doesn't divide by 0
division : seen (dividing ∷ []) 4096 (alone 5) ≡ Some (record { output = codes "0\n-3 -1\n0\n"; state = Finished (pos 0) })
unfolding digits
division = refl

-- one object may live: the second is null, and the first can't be written once it was ended
objects : seen (ending_objects ∷ []) 1 (alone 8) ≡ Some (record { output = codes "1\n0\n"; state = Trapped Stale 0 })
unfolding digits
objects = refl

-- an endless loop: each back edge is a move
loop : seen (counting ∷ []) 4096 (alone 5) ≡ Some (record { output = codes "0\n1\n"; state = Going })
unfolding digits
loop = refl

-- two threads take two mutexes in opposite orders
deadlock : seen (locking ∷ []) 4096 (Move 0 ∷ Move 0 ∷ Move 1 ∷ Move 0 ∷ Move 1 ∷ []) ≡ Some (record { output = []; state = Stuck })
deadlock = refl

-- and one after the other
one_after_the_other : seen (locking ∷ []) 4096 (alone 6 ++ replicate 6 (Move 1) ++ alone 3)
    ≡ Some (record { output = codes "done\n"; state = Finished (pos 0) })
one_after_the_other = refl

-- g is replaced after the first print, in the middle of the transaction
replaced : seen (calling ∷ calling_2 ∷ []) 4096 (alone 3 ++ Install 1 ∷ alone 16)
    ≡ Some (record { output = codes "start\n2\n2\n"; state = Finished (pos 0) })
unfolding digits
replaced = refl

-- its record has the calls in the transaction, each with the definition that was current, and not the enter of main
recorded : option_map (λ r. r.closed) (source_run (calling ∷ calling_2 ∷ []) (with_objects 4096) (alone 3 ++ Install 1 ∷ alone 16))
    ≡ Some (record {
      slot = 0;
      uses = record { name = codes "h"; entry = 0 } ∷ record { name = codes "g"; entry = 1 } ∷ record { name = codes "f"; entry = 0 }
          ∷ record { name = codes "g"; entry = 1 } ∷ [];
    } ∷ [])
unfolding digits
recorded = refl

-- all that it used belongs to version 2; without the install to version 1
abbrev spans_of : List (List BareDef) → List SourceMove → Option (List Span)
spans_of texts moves = option_map (λ r. spans r.world) (source_run texts (with_objects 4096) moves)

shares : spans_of (calling ∷ calling_2 ∷ []) (alone 3 ++ Install 1 ∷ alone 16)
    ≡ Some (record { slot = 0; first = 2; last = 2 } ∷ [])
shares = refl

shares_1 : spans_of (calling ∷ calling_2 ∷ []) (alone 19) ≡ Some (record { slot = 0; first = 1; last = 1 } ∷ [])
shares_1 = refl

-- after its begin a record has no entry yet, and shares all versions
shares_all : spans_of (calling ∷ calling_2 ∷ []) (alone 2 ++ Install 1 ∷ []) ≡ Some (record { slot = 0; first = 1; last = 2 } ∷ [])
shares_all = refl

-- what is used outside a transaction isn't recorded
unrecorded : option_map (λ r. r.open_records) (source_run (calling ∷ []) (with_objects 4096) (alone 1)) ≡ Some []
unrecorded = refl

-- objects are brought from layout to layout
brought : seen (connection ∷ connection_2 ∷ connection_3 ∷ []) 4096
    (alone 10 ++ Install 1 ∷ alone 2 ++ Install 2 ∷ alone 9)
    ≡ Some (record { output = codes "a\nb\n7 14\n"; state = Finished (pos 0) })
unfolding digits
brought = refl

-- an index at the length of its array
index : seen (indexing ∷ []) 4096 (alone 2) ≡ Some (record { output = []; state = Trapped Index 0 })
index = refl

-- numbers without a suffix, at the first type that holds them
numbers : seen (constants ∷ []) 4096 (alone 4)
    ≡ Some (record { output = codes "4294967295\n4294967295\n"; state = Finished (pos 0) })
unfolding digits
numbers = refl

-- a thread's value comes to who joins it
value_of_a_thread : seen (joining ∷ []) 4096 (alone 3 ++ Move 1 ∷ Move 1 ∷ alone 3)
    ≡ Some (record { output = codes "7\n"; state = Finished (pos 0) })
unfolding digits
value_of_a_thread = refl

-- a thread that lives is waited for
waiting : seen (joining ∷ []) 4096 (alone 3 ++ Move 1 ∷ Move 0 ∷ []) ≡ None
waiting = refl

-- moves of thread 0 as long as it can move, at most n
abbrev pub moved_on : (World → World) → World → Option World → World
moved_on go w None = w
moved_on go w (Some after) = go after

abbrev pub to_the_end : ℕ → World → World
to_the_end zero w = w
to_the_end (suc n) w = moved_on (to_the_end n) w (move w 0)

abbrev pub seen_at_the_end : ℕ → List BareDef → ℕ → Seen
seen_at_the_end n text capacity = seen_of (result (to_the_end n (first_world text (with_objects capacity))))

-- loops, jumps, scopes, objects, arrays and narrow kinds
mixed : seen_at_the_end 300 mixing 4096
    ≡ record { output = codes "-25536 0 3 -6 0 4 5 10\n1%\n"; state = Finished (negsuc 3) }
unfolding digits
mixed = refl

-- a thread more than there are slots
started : seen_at_the_end 300 starting 4096
    ≡ record { output = codes "0\n0\n0\n0\n0\n0\n0\n0\n0\n0\n0\n0\n0\n0\n0\n1\n"; state = Finished (pos 0) }
unfolding digits
started = refl

-- Traps, waits and corners of the rules, computed.
use Rattle.std.proofs.Common.{◌≡◌, ℕ, Bool, true, false, List, [], ◌∷◌, Option, Some, None, refl, pos}
use Rattle.std.specs.Prelude.{codes, option_map, replicate, ◌++◌}
use Rattle.std.specs.Fmt.{digits}
use Rattle.run_types.specs.declared.trap.TrapKind.TheVariants.{Divide, Shift, Null, Stale, Depth, Relock, Unlock, MutexHeld, Join}
use Rattle.c_ints.specs.declared.operator.BinOp.TheVariants.{Div, Shl}
use Rattle.c_tree.specs.BareDef.{BareDef}
use Rattle.c_semantics.specs.Threads.{Use}
use Rattle.c_semantics.specs.Changes.{changed, interface}
use Rattle.source_model.specs.Spans.{Span, spans}
use Rattle.source_model.specs.Runs.{SourceMove, Move, Install, State, Finished, Trapped, Stuck, source_run}
use Rattle.source_model.proofs.Runs.{seen, alone, seen_at_the_end, with_objects}
use Rattle.source_model.proofs.Texts.{connection, connection_2}
use Rattle.source_model.proofs.CornerTexts.{operating, null_handle, freeing_twice, locking_twice, unlocking, initialising, handing_over, unlocking_anothers, joining_none, joining_twice, joining_itself, nesting, nesting_2, ordering, calling_deep, nothing_else, coming_back, array_of_two, array_of_two_unsigned, array_of_three}

-- a run that printed nothing and came to that state
abbrev silent : List BareDef → List SourceMove → State → Type 0
silent text moves state = seen (text ∷ []) 4096 moves ≡ Some (record { output = []; state = state })

-- a division by 0, and a shift by the width
divide : silent (operating Div 1 0) (alone 2) (Trapped Divide 0)
divide = refl

shift : silent (operating Shl 1 32) (alone 2) (Trapped Shift 0)
shift = refl

-- the free of a null handle does nothing, and a field of it traps
null : silent null_handle (alone 3) (Trapped Null 0)
null = refl

-- an object that was ended can't be ended
stale : silent freeing_twice (alone 4) (Trapped Stale 0)
stale = refl

-- a mutex that the thread holds, one that it doesn't hold, and one that is held and can't be made anew
relock : silent locking_twice (alone 3) (Trapped Relock 0)
relock = refl

unlock : silent unlocking (alone 2) (Trapped Unlock 0)
unlock = refl

unlock_anothers : silent unlocking_anothers (alone 3 ++ Move 1 ∷ Move 1 ∷ []) (Trapped Unlock 1)
unlock_anothers = refl

mutex_held : silent initialising (alone 4) (Trapped MutexHeld 0)
mutex_held = refl

-- what a thread holds when it ends, the next thread of its slot holds
handed_over : silent handing_over
    (alone 2 ++ replicate 3 (Move 1) ++ alone 2 ++ replicate 3 (Move 1) ++ alone 2)
    (Finished (pos 0))
handed_over = refl

-- a handle that names no thread, and one that was joined
join_none : silent joining_none (alone 2) (Trapped Join 0)
join_none = refl

join_twice : silent joining_twice (alone 2 ++ replicate 2 (Move 1) ++ alone 2) (Trapped Join 0)
join_twice = refl

-- a thread that joins itself waits, and who joins it waits too
join_itself : silent joining_itself (alone 4 ++ replicate 2 (Move 1)) Stuck
join_itself = refl

-- the record of a transaction has the uses of those within it; each outermost one has a record of its own
abbrev use_of : List ℕ → Use
use_of name = record { name = name; entry = 0 }

nested : option_map (λ r. r.closed) (source_run (nesting ∷ []) (with_objects 4096) (alone 19))
    ≡ Some (record { slot = 0; uses = use_of (codes "g") ∷ use_of (codes "h") ∷ use_of (codes "g") ∷ [] }
    ∷ record { slot = 0; uses = use_of (codes "h") ∷ [] } ∷ [])
nested = refl

-- where g is replaced between its two calls, the transaction used both: the record isn't consistent, and shares no version
abbrev nested_spans : List SourceMove → Option (List Span)
nested_spans moves = option_map (λ r. spans r.world) (source_run (nesting ∷ nesting_2 ∷ []) (with_objects 4096) moves)

split : nested_spans (alone 5 ++ Install 1 ∷ alone 9) ≡ Some (record { slot = 0; first = 0; last = 0 } ∷ [])
split = refl

-- before its first call, or after its last one, it isn't split
whole : nested_spans (alone 2 ++ Install 1 ∷ alone 12) ≡ Some (record { slot = 0; first = 2; last = 2 } ∷ [])
whole = refl

whole_too : nested_spans (alone 14 ++ Install 1 ∷ []) ≡ Some (record { slot = 0; first = 1; last = 1 } ∷ [])
whole_too = refl

-- a place before its value, the read of `x += ..` before its right side, arguments from left to right
ordered : seen_at_the_end 30 ordering 4096 ≡ record { output = codes "0 2\n2 2\n"; state = Finished (pos 0) }
unfolding digits
ordered = refl

-- a call where the thread has 256 frames
depth : seen_at_the_end 2000 calling_deep 4096 ≡ record { output = codes "ok\n"; state = Trapped Depth 0 }
depth = refl

-- main of version 1 still uses a struct whose layout version 2 changed: the read of the global is right, the write of
-- the field after it is a misuse, and nothing moves any more
abbrev misused_by : List SourceMove → Option Bool
misused_by moves = option_map (λ r. r.misused) (source_run (connection ∷ connection_2 ∷ []) (with_objects 4096) (alone 3 ++ Install 1 ∷ moves))

right : misused_by (alone 1) ≡ Some false
right = refl

misused : misused_by (alone 2) ≡ Some true
misused = refl

stands : misused_by (alone 3) ≡ None
stands = refl

-- what is gone and comes back: a mutex is free again, an object zero, a global has its initialiser; a mutex that stays
-- keeps its holder
mutex_again : seen (locking_twice ∷ nothing_else ∷ locking_twice ∷ []) 4096 (alone 2 ++ Install 1 ∷ Install 2 ∷ alone 2)
    ≡ Some (record { output = []; state = Finished (pos 0) })
mutex_again = refl

mutex_still : seen (locking_twice ∷ locking_twice ∷ []) 4096 (alone 2 ++ Install 1 ∷ alone 1)
    ≡ Some (record { output = []; state = Trapped Relock 0 })
mutex_still = refl

values_again : seen (coming_back ∷ nothing_else ∷ coming_back ∷ []) 4096 (alone 5 ++ Install 1 ∷ Install 2 ∷ alone 4)
    ≡ Some (record { output = codes "0 5\n"; state = Finished (pos 0) })
unfolding digits
values_again = refl

values_still : seen (coming_back ∷ coming_back ∷ []) 4096 (alone 5 ++ Install 1 ∷ alone 4)
    ≡ Some (record { output = codes "7 6\n"; state = Finished (pos 0) })
unfolding digits
values_still = refl

-- the length of an array is a number, whatever the type of the constant that tells it
same_length : changed array_of_two array_of_two_unsigned ≡ []
same_length = refl

other_length : interface array_of_two array_of_three ≡ codes "a" ∷ []
other_length = refl

-- Values as the definitions have them.
use Rattle.std.specs.Prelude.{ℕ, Option, Result, Ok, Err}
use Rattle.std.specs.Option.{option_map}
use Rattle.c_ints.specs.declared.operator.ArithTrap.{ArithTrap}
use Rattle.c_semantics.specs.Values.{Value, ThreadRef}
use Rattle.c_semantics.specs.Values as value
use Rattle.local_evaluation.specs.declared.value.ObjectId.{ObjectId}
use Rattle.local_evaluation.specs.declared.value.ThreadRef.{ThreadRef as Thread}
use Rattle.local_evaluation.specs.declared.value.Value.{Value as Held}
use Rattle.local_evaluation.specs.declared.value.Value.TheVariants.{Number, Reference, Started}

-- an object by its number
abbrev pub seen_object : Option ObjectId → Option ℕ
seen_object object = option_map (λ o. o.0) object

-- a thread
abbrev pub seen_thread : Thread → ThreadRef
seen_thread t = record { slot = t.slot; serial = t.serial }

-- a value
abbrev pub seen : Held → Value
seen (Number n) = value.Number n
seen (Reference object) = value.Reference (seen_object object)
seen (Started thread) = value.Started (option_map seen_thread thread)

-- an operator's value, or its trap
abbrev pub seen_result : Result Held ArithTrap → Result Value ArithTrap
seen_result (Ok v) = Ok (seen v)
seen_result (Err trap) = Err trap

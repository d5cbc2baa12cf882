-- What is known of a frame at a place of its code, and what each instruction makes of it.
use Rattle.std.specs.Prelude.{ℕ, zero, suc, ◌+◌, ◌-◌, ◌==◌, nat_le, nat_lt, Bool, true, false, ◌&&◌, List, [], ◌∷◌, ◌++◌, take, length, slice_get, Option, Some, None, option_map, if◌then◌else◌}
use Rattle.std.specs.Option.{option_and_then}
use Rattle.run_types.specs.CheckIns.{CheckInKind}
use Rattle.run_types.specs.CheckIns as check_in
use Rattle.run_types.specs.Skeleton.{check_in_after}
use Rattle.c_semantics.specs.Texts.{Definitions}
use Rattle.c_semantics.specs.Stops.{Stop, Return, Begin, End, kind_of}
use Rattle.bytecode.specs.Instructions.{Instruction, Constant, Load, Store, Copy, CopyUnder, Swap, Drop, Convert, Unary, Binary, IsZero, IsNotZero, Same, Different, Jump, JumpIfZero, JumpUnlessZero, Halt, Back, CheckIn}
use Rattle.bytecode.specs.declared.kind.ValueKind.{ValueKind}
use Rattle.bytecode.specs.declared.kind.ValueKind.TheVariants as value_kind
use Rattle.code_kinds.specs.declared.kind.WordKind.{WordKind}
use Rattle.code_kinds.specs.declared.kind.WordKind.TheVariants.{Integer, Handle, Thread}
use Rattle.code_kinds.specs.WordKinds.{same_kind}
use Rattle.code_kinds.specs.StopKinds.{Words, after_stop}

-- a check-in with its number
pub record Due : Type 0 where
  pub kind : CheckInKind
  pub number : ℕ

-- the words on the stack, the newest first; those of the variables in scope, the one declared first is the first; how many
-- transactions are open; and the check-in that comes next, if one does
pub record Shape : Type 0 where
  pub stack : Words
  pub variables : Words
  pub transactions : ℕ
  pub due : Option Due

-- a shape with another stack
abbrev pub on_stack : Shape → Words → Shape
on_stack s stack = record s { stack = stack }

-- what a constant is; one of a handle is null, one of a thread is none
abbrev pub constant_kind : ValueKind → ℕ → Option WordKind
constant_kind (value_kind.Number k) w = Some Integer
constant_kind value_kind.Handle w = if w == 0 then Some Handle else None
constant_kind value_kind.Thread w = if w == 0 then Some Thread else None

-- the variables after a word is stored in one of them: in one of the kind, or in one that takes the place of those from
-- there on, as the next variable that is declared does; a function has room for so many
abbrev pub keeps_kind : ℕ → WordKind → Words → Bool
keeps_kind n k [] = false
keeps_kind zero k (j ∷ js) = same_kind k j
keeps_kind (suc n) k (j ∷ js) = keeps_kind n k js

abbrev pub stored : ℕ → ℕ → WordKind → Words → Option Words
stored room n k variables =
    if keeps_kind n k variables
    then Some variables
    else (if nat_le n (length variables) && nat_lt n room then Some (take n variables ++ k ∷ []) else None)

-- the newest word and those under it, the two newest
abbrev pub one : Words → (WordKind → Words → Option Shape) → Option Shape
one [] go = None
one (k ∷ under) go = go k under

abbrev pub two : Words → (WordKind → WordKind → Words → Option Shape) → Option Shape
two (b ∷ a ∷ under) go = go b a under
two _ go = None

-- the newest word is an integer
abbrev pub integer : Words → (Words → Option Shape) → Option Shape
integer (Integer ∷ under) go = go under
integer _ go = None

-- what a private instruction makes of a shape; nothing where it doesn't find what it takes
abbrev pub after_private : ℕ → Instruction → Shape → Option Shape
after_private room (Constant kind w) s = option_map (λ k. on_stack s (k ∷ s.stack)) (constant_kind kind w)
after_private room (Load n) s = option_map (λ k. on_stack s (k ∷ s.stack)) (slice_get s.variables n)
after_private room (Store n) s =
    one s.stack (λ k under. option_map (λ variables. record s { stack = under; variables = variables }) (stored room n k s.variables))
after_private room Copy s = one s.stack (λ a under. Some (on_stack s (a ∷ a ∷ under)))
after_private room CopyUnder s = two s.stack (λ b a under. Some (on_stack s (b ∷ a ∷ b ∷ under)))
after_private room Swap s = two s.stack (λ b a under. Some (on_stack s (a ∷ b ∷ under)))
after_private room Drop s = one s.stack (λ a under. Some (on_stack s under))
after_private room (Convert k) s = integer s.stack (λ under. Some (on_stack s (Integer ∷ under)))
after_private room (Unary op k) s = integer s.stack (λ under. Some (on_stack s (Integer ∷ under)))
after_private room (Binary op k) s = integer s.stack (λ below. integer below (λ under. Some (on_stack s (Integer ∷ under))))
after_private room IsZero s = one s.stack (λ a under. Some (on_stack s (Integer ∷ under)))
after_private room IsNotZero s = one s.stack (λ a under. Some (on_stack s (Integer ∷ under)))
after_private room Same s = two s.stack (λ b a under. if same_kind a b then Some (on_stack s (Integer ∷ under)) else None)
after_private room Different s = two s.stack (λ b a under. if same_kind a b then Some (on_stack s (Integer ∷ under)) else None)
after_private room (Jump d) s = Some s
after_private room (JumpIfZero d) s = one s.stack (λ a under. Some (on_stack s under))
after_private room (JumpUnlessZero d) s = one s.stack (λ a under. Some (on_stack s under))
after_private room (Back d n v) s = Some s
after_private room _ s = None

-- the transactions that are open after a stop; a return leaves none open
abbrev pub transactions_after : Stop → ℕ → Option ℕ
transactions_after Begin n = Some (suc n)
transactions_after End zero = None
transactions_after End (suc n) = Some n
transactions_after Return zero = Some 0
transactions_after Return (suc n) = None
transactions_after s n = Some n

-- what a stop makes of a shape; after some stops a check-in comes next, with the next number
abbrev pub after_halt : Definitions → WordKind → Stop → ℕ → Shape → Option Shape
after_halt look result stop n s =
    option_and_then (λ stack. option_map (λ transactions. record {
      stack = stack;
      variables = s.variables;
      transactions = transactions;
      due = option_map (λ kind. record { kind = kind; number = suc n }) (check_in_after (kind_of stop));
    }) (transactions_after stop s.transactions)) (after_stop look result stop s.stack)

-- whether two kinds of check-in are one
abbrev pub same_check_in : CheckInKind → CheckInKind → Bool
same_check_in check_in.Entry check_in.Entry = true
same_check_in check_in.Call check_in.Call = true
same_check_in check_in.Begin check_in.Begin = true
same_check_in check_in.End check_in.End = true
same_check_in check_in.Update check_in.Update = true
same_check_in _ _ = false

-- an instruction where no check-in is due
abbrev pub after_other : Definitions → WordKind → ℕ → Instruction → Shape → Option Shape
after_other look result room (Halt stop n) s = after_halt look result stop n s
after_other look result room i s = after_private room i s

-- an instruction where a check-in is due, which is that check-in
abbrev pub after_due : Due → Instruction → Shape → Option Shape
after_due due (CheckIn kind n) s =
    if same_check_in kind due.kind && (n == due.number) then Some (record s { due = None }) else None
after_due due i s = None

abbrev pub after_by : Option Due → Definitions → WordKind → ℕ → Instruction → Shape → Option Shape
after_by None look result room i s = after_other look result room i s
after_by (Some due) look result room i s = after_due due i s

-- what an instruction makes of a shape, in a function with a value of a kind and room for so many variables
abbrev pub after : Definitions → WordKind → ℕ → Instruction → Shape → Option Shape
after look result room i s = after_by s.due look result room i s

-- the places to which control goes from an instruction at a place; from a back edge that leads further than to the beginning
-- it is the beginning, which no way fits, since the entry check-in is due there
abbrev pub leads_to : ℕ → Instruction → List ℕ
leads_to p (Jump d) = (suc p + d) ∷ []
leads_to p (JumpIfZero d) = suc p ∷ (suc p + d) ∷ []
leads_to p (JumpUnlessZero d) = suc p ∷ (suc p + d) ∷ []
leads_to p (Back d n v) = (p - d) ∷ []
leads_to p (Halt Return n) = []
leads_to p i = suc p ∷ []

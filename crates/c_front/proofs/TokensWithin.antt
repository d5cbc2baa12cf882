-- The tokens of a text begin within it, and so do the faults of tokens and of syntax.
use Rattle.std.proofs.Common.{◌≡◌, ℕ, zero, suc, ◌+◌, ◌≤◌, Bool, true, false, List, [], ◌∷◌, length, map, Option, Some, None, Result, Ok, Err, sym, subst, arith, length-drop, if◌then◌else◌}
use Rattle.std.specs.Prelude.{nat_lt, slice_index, slice_get}
use Rattle.std.specs.Option.{option_map_or}
use Rattle.c_lexer.specs.declared.token.Token.{Token}
use Rattle.c_lexer.specs.declared.token.LexFault.{LexFault}
use Rattle.c_lexer.specs.declared.token.LexFault.TheVariants.{BadByte, BadLiteral, Directive, TooMany, Memory}
use Rattle.c_lexer.specs.declared.unit.Fault.{Fault}
use Rattle.c_lexer.specs.declared.unit.Fault.TheVariants as unit
use Rattle.c_lexer.specs.Cut.{Cut, finish, space, lexeme, bad, fault_at, most_tokens, or_fault, answer, Lexes}

-- each token begins at most at n
abbrev pub TokensWithin : ℕ → List Token → Type 0
TokensWithin n [] = Unit {0}
TokensWithin n (t ∷ ts) = (t.at ≤ n) × TokensWithin n ts

-- a fault of the tokens has such a place
abbrev pub LexFaultWithin : ℕ → LexFault → Type 0
LexFaultWithin n (BadByte at) = at ≤ n
LexFaultWithin n (BadLiteral at) = at ≤ n
LexFaultWithin n (Directive at) = at ≤ n
LexFaultWithin n (TooMany at) = at ≤ n
LexFaultWithin n Memory = Unit {0}

-- so has one that may be there
abbrev MayBeWithin : ℕ → Option LexFault → Type 0
MayBeWithin n None = Unit {0}
MayBeWithin n (Some fault) = LexFaultWithin n fault

-- and what is answered for a text
abbrev pub LexedWithin : ℕ → Result (List Token) LexFault → Type 0
LexedWithin n (Ok tokens) = TokensWithin n tokens
LexedWithin n (Err fault) = LexFaultWithin n fault

fault_at_within : (n at : ℕ) (fault : Fault) → at ≤ n → LexFaultWithin n (fault_at at fault)
fault_at_within n at unit.Byte h = h
fault_at_within n at unit.Literal h = h
fault_at_within n at unit.Directive h = h

cut_within : (text : List ℕ) {at : ℕ} {tokens : List Token} {fault : Option LexFault} → Cut text at tokens fault → at ≤ length text
    → TokensWithin (length text) tokens × MayBeWithin (length text) fault
cut_within text (finish e) h = (tt, tt)
cut_within text {at} (space n u rest) h = cut_within text rest (omega (arith, h, u.within, length-drop at text))
cut_within text {at} (lexeme n kind u rest) h =
    let more = cut_within text rest (omega (arith, h, u.within, length-drop at text)) in
    ((h, more.0), more.1)
cut_within text {at} (bad n fault u) h = (tt, fault_at_within (length text) at fault h)

index_within : (n : ℕ) (ts : List Token) (k : ℕ) → TokensWithin n ts → slice_index (map (λ t. t.at) ts) k ≤ n
index_within n [] k h = omega arith
index_within n (t ∷ ts) zero h = h.0
index_within n (t ∷ ts) (suc k) h = index_within n ts k h.1

answer_by : (n : ℕ) (many : Bool) (ts : List Token) (fault : Option LexFault) → TokensWithin n ts → MayBeWithin n fault
    → LexedWithin n (if many then Err (TooMany (slice_index (map (λ t. t.at) ts) most_tokens)) else or_fault ts fault)
answer_by n true ts fault h k = index_within n ts most_tokens h
answer_by n false ts None h k = h
answer_by n false ts (Some fault) h k = k

pub lexed_within : (text : List ℕ) (result : Result (List Token) LexFault) → Lexes text result → LexedWithin (length text) result
lexed_within text result (ts, fault, cut, is) =
    let cut_is = cut_within text cut (omega arith) in
    subst {A = Result (List Token) LexFault} (LexedWithin (length text)) (sym is)
    (answer_by (length text) (nat_lt most_tokens (length ts)) ts fault cut_is.0 cut_is.1)

-- the byte of a token, or another place where there is none
pub place_within : (n end : ℕ) (ts : List Token) (number : ℕ) → TokensWithin n ts → end ≤ n
    → option_map_or (λ t. t.at) (slice_get ts number) end ≤ n
place_within n end [] number h k = k
place_within n end (t ∷ ts) zero h k = h.0
place_within n end (t ∷ ts) (suc number) h k = place_within n end ts number h.1 k

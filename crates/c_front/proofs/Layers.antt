-- What the layers' answers say of a text: where each is exact, so is that of the whole.
use Rattle.std.proofs.Common.{◌≡◌, ◌≢◌, ◌⊎◌, ◌≤◌, ◌∙◌, ℕ, List, Some, None, Result, Ok, Err, refl, sym, ap, subst, inl, inr}
use Rattle.c_lexer.specs.declared.token.Token.{Token}
use Rattle.c_lexer.specs.declared.token.LexFault.{LexFault}
use Rattle.c_lexer.specs.declared.token.LexFault.TheVariants as lexer
use Rattle.c_lexer.specs.Cut.{Lexes}
use Rattle.c_tree.specs.declared.def.Program.{Program}
use Rattle.c_expr_parser.specs.declared.parser.SyntaxFault.{SyntaxFault}
use Rattle.c_expr_parser.specs.declared.parser.SyntaxFault.TheVariants as parser
use Rattle.c_expr_parser.specs.Readings.{Reads, FaultAt, TooDeepAt}
use Rattle.c_expr_parser.specs.Reading.{IsUnlessMemory}
use Rattle.c_expr_parser.specs.Definitions.{TranslationUnit}
use Rattle.c_parser.specs.Programs.{IsFault}
use Rattle.c_expr_types.specs.declared.fault.Fault.{Fault}
use Rattle.c_expr_types.specs.declared.fault.TypeFault.{TypeFault}
use Rattle.c_expr_types.specs.declared.fault.TypeFault.TheVariants as types
use Rattle.c_expr_types.specs.Faults.{first}
use Rattle.c_types.specs.Definitions.{Types, first_fault}
use Rattle.c_front.specs.declared.fault.FaultKind.{FaultKind}
use Rattle.c_front.specs.declared.fault.FaultKind.TheVariants.{BadByte, BadLiteral, Directive, TooMany, Syntax, TooDeep, Kind}
use Rattle.c_front.specs.declared.fault.TextFault.{TextFault}
use Rattle.c_front.specs.declared.fault.TextFault.TheVariants.{Refused, Memory}
use Rattle.c_front.specs.Accepted.{IsReadAs, Accepted, ending, FirstFault, byte, literal, directive, many, syntax_at, deep, type, byte_of}
use Rattle.c_front.specs.Told.{lexical, syntactic, typed_fault}

-- a fault that is reported isn't another
pub same_wrong : {v w : FaultKind} {i j : ℕ} → Refused v i ≡ Refused w j → v ≡ w
same_wrong is = cc

pub same_byte : {v w : FaultKind} {i j : ℕ} → Refused v i ≡ Refused w j → i ≡ j
same_byte is = cc

-- the fault is reported where another that is equal is
pub first_moved : (text : List ℕ) (v w : FaultKind) (i j : ℕ) → Refused v i ≡ Refused w j → FirstFault text v i → FirstFault text w j
first_moved text v w i j is first =
    subst {A = ℕ} (FirstFault text w) (same_byte is) (subst {A = FaultKind} (λ x. FirstFault text x i) (same_wrong is) first)

-- the text's fault is in the answer
abbrev refused : (T : Type 0) → TextFault → Result T TextFault
refused T fault = Err fault

pub in_answer : (T : Type 0) (told fault a b : TextFault) → told ≡ fault → (fault ≡ a) ⊎ (fault ≡ b)
    → (refused T told ≡ refused T a) ⊎ (refused T told ≡ refused T b)
in_answer T told fault a b is (inl e) = inl (ap (refused T) (is ∙ e))
in_answer T told fault a b is (inr e) = inr (ap (refused T) (is ∙ e))

-- ---- tokens

-- what the lexer may answer
abbrev Lexed : Type 0
Lexed = Result (List Token) LexFault

abbrev lexed : List Token → Lexed
lexed tokens = Ok tokens

abbrev unlexed : LexFault → Lexed
unlexed fault = Err fault

-- a fault of the lexer is reported as the first of the text
pub lexical_first : (text : List ℕ) (fault : LexFault) (wrong : FaultKind) (at : ℕ) → (fault ≢ lexer.Memory → Lexes text (Err fault))
    → lexical fault ≡ Refused wrong at → FirstFault text wrong at
lexical_first text (lexer.BadByte i) wrong at lexes is = first_moved text BadByte wrong i at is (byte (lexes (λ e. cc)))
lexical_first text (lexer.BadLiteral i) wrong at lexes is = first_moved text BadLiteral wrong i at is (literal (lexes (λ e. cc)))
lexical_first text (lexer.Directive i) wrong at lexes is = first_moved text Directive wrong i at is (directive (lexes (λ e. cc)))
lexical_first text (lexer.TooMany i) wrong at lexes is = first_moved text TooMany wrong i at is (many (lexes (λ e. cc)))
lexical_first text lexer.Memory wrong at lexes is = cc

-- what the lexer answers is the one answer for the text, but when out of memory
abbrev pub OnlyFault : List ℕ → LexFault → Type 0
OnlyFault text fault = (other : Result (List Token) LexFault) → Lexes text other → fault ≢ lexer.Memory → other ≡ Err fault

abbrev pub OnlyTokens : List ℕ → List Token → Type 0
OnlyTokens text ts = (other : Result (List Token) LexFault) → Lexes text other → other ≡ Ok ts

-- so where the text has tokens, memory wanted
no_tokens : (fault : LexFault) (tokens : List Token) → (fault ≢ lexer.Memory → lexed tokens ≡ Err fault) → lexical fault ≡ Memory
no_tokens (lexer.BadByte i) tokens is = let e : lexed tokens ≡ Err (lexer.BadByte i) = is (λ m. cc) in cc
no_tokens (lexer.BadLiteral i) tokens is = let e : lexed tokens ≡ Err (lexer.BadLiteral i) = is (λ m. cc) in cc
no_tokens (lexer.Directive i) tokens is = let e : lexed tokens ≡ Err (lexer.Directive i) = is (λ m. cc) in cc
no_tokens (lexer.TooMany i) tokens is = let e : lexed tokens ≡ Err (lexer.TooMany i) = is (λ m. cc) in cc
no_tokens lexer.Memory tokens is = refl

-- and where it has a fault, that one is reported
other_fault : (fault other : LexFault) → (fault ≢ lexer.Memory → unlexed other ≡ Err fault)
    → (lexical fault ≡ lexical other) ⊎ (lexical fault ≡ Memory)
other_fault (lexer.BadByte i) other is = let e : unlexed other ≡ Err (lexer.BadByte i) = is (λ m. cc) in inl (let f : other ≡ lexer.BadByte i = cc in sym (ap lexical f))
other_fault (lexer.BadLiteral i) other is = let e : unlexed other ≡ Err (lexer.BadLiteral i) = is (λ m. cc) in inl (let f : other ≡ lexer.BadLiteral i = cc in sym (ap lexical f))
other_fault (lexer.Directive i) other is = let e : unlexed other ≡ Err (lexer.Directive i) = is (λ m. cc) in inl (let f : other ≡ lexer.Directive i = cc in sym (ap lexical f))
other_fault (lexer.TooMany i) other is = let e : unlexed other ≡ Err (lexer.TooMany i) = is (λ m. cc) in inl (let f : other ≡ lexer.TooMany i = cc in sym (ap lexical f))
other_fault lexer.Memory other is = inr refl

pub lexical_accepts : (text : List ℕ) (fault : LexFault) (program : Program) → OnlyFault text fault → Accepted text program
    → lexical fault ≡ Memory
lexical_accepts text fault program only accepted = no_tokens fault accepted.is_read.tokens (only (Ok accepted.is_read.tokens) accepted.is_read.lexes)

pub lexical_only : (text : List ℕ) (fault : LexFault) (wrong : FaultKind) (at : ℕ) → OnlyFault text fault → FirstFault text wrong at
    → (lexical fault ≡ Refused wrong at) ⊎ (lexical fault ≡ Memory)
lexical_only text fault BadByte at only (byte lexes) = other_fault fault (lexer.BadByte at) (only (Err (lexer.BadByte at)) lexes)
lexical_only text fault BadLiteral at only (literal lexes) = other_fault fault (lexer.BadLiteral at) (only (Err (lexer.BadLiteral at)) lexes)
lexical_only text fault Directive at only (directive lexes) = other_fault fault (lexer.Directive at) (only (Err (lexer.Directive at)) lexes)
lexical_only text fault TooMany at only (many lexes) = other_fault fault (lexer.TooMany at) (only (Err (lexer.TooMany at)) lexes)
lexical_only text fault Syntax at only (syntax_at {tokens} lexes is) = inr (no_tokens fault tokens (only (Ok tokens) lexes))
lexical_only text fault TooDeep at only (deep {tokens} lexes is) = inr (no_tokens fault tokens (only (Ok tokens) lexes))
lexical_only text fault (Kind k) at only (type read is) = inr (no_tokens fault read.tokens (only (Ok read.tokens) read.lexes))

-- ---- syntax

-- what the parser answers is the one answer for the tokens, but when out of memory
pub record IsExact (text : List ℕ) (ts : List Token) (answer : Result Program SyntaxFault) : Type 0 where
  pub complete : (program : Program) → Reads TranslationUnit ts program → IsUnlessMemory answer (Ok (ending text program))
  pub stuck : (k : ℕ) → FaultAt TranslationUnit ts k → ((j : ℕ) → TooDeepAt TranslationUnit ts j → k ≤ j) → IsUnlessMemory answer (Err (parser.At k))
  pub deep : (k : ℕ) → TooDeepAt TranslationUnit ts k → IsUnlessMemory answer (Err (parser.TooDeep k))

abbrev Parsed : Type 0
Parsed = Result Program SyntaxFault

same_tokens : (text : List ℕ) (ts tokens : List Token) → OnlyTokens text ts → Lexes text (Ok tokens) → tokens ≡ ts
same_tokens text ts tokens only lexes = let e : lexed tokens ≡ lexed ts = only (Ok tokens) lexes in cc

not_lexical : (text : List ℕ) (ts : List Token) (fault : LexFault) → OnlyTokens text ts → Lexes text (Err fault) → ⊥
not_lexical text ts fault only lexes = let e : unlexed fault ≡ lexed ts = only (Err fault) lexes in cc

-- the program that the tokens of a text are is the parser's, or memory wanted
read_by : (text : List ℕ) (ts : List Token) (answer : Parsed) (program : Program) → OnlyTokens text ts → IsExact text ts answer
    → IsReadAs text program → (answer ≡ Ok program) ⊎ (answer ≡ Err parser.Memory)
read_by text ts answer program only exact is =
    elim (exact.complete is.read (subst {A = List Token} (λ t. Reads TranslationUnit t is.read) (same_tokens text ts is.tokens only is.lexes) is.reads)) [
      | inl ok ↦ inl (ok ∙ ap Ok (sym is.ends))
      | inr memory ↦ inr memory
    ]

-- a fault of the parser is reported as the first of the text
pub syntax_first : (text : List ℕ) (ts : List Token) (fault : SyntaxFault) (wrong : FaultKind) (at : ℕ) → Lexes text (Ok ts) → IsFault ts fault
    → syntactic text ts fault ≡ Refused wrong at → FirstFault text wrong at
syntax_first text ts (parser.At k) wrong at lexes is told = first_moved text Syntax wrong (byte_of text ts k) at told (syntax_at lexes is)
syntax_first text ts (parser.TooDeep k) wrong at lexes is told = first_moved text TooDeep wrong (byte_of text ts k) at told (deep lexes is)
syntax_first text ts parser.Memory wrong at lexes is told = cc

abbrev parsed : Program → Parsed
parsed program = Ok program

abbrev unparsed : SyntaxFault → Parsed
unparsed fault = Err fault

memory_told : (text : List ℕ) (ts : List Token) (fault : SyntaxFault) → unparsed fault ≡ unparsed parser.Memory → syntactic text ts fault ≡ Memory
memory_told text ts fault is = let e : fault ≡ parser.Memory = cc in ap (syntactic text ts) e

pub syntax_accepts : (text : List ℕ) (ts : List Token) (fault : SyntaxFault) (program : Program) → OnlyTokens text ts → IsExact text ts (Err fault)
    → Accepted text program → syntactic text ts fault ≡ Memory
syntax_accepts text ts fault program only exact accepted =
    elim (read_by text ts (Err fault) program only exact accepted.is_read) [
      | inl found ↦ let e : unparsed fault ≡ parsed program = found in cc
      | inr memory ↦ memory_told text ts fault memory
    ]

-- a fault of syntax that the text has is the parser's, or memory wanted
stuck_by : (text : List ℕ) (ts tokens : List Token) (answer : Parsed) (k : ℕ) → OnlyTokens text ts → IsExact text ts answer → Lexes text (Ok tokens)
    → IsFault tokens (parser.At k) → IsUnlessMemory answer (Err (parser.At k))
stuck_by text ts tokens answer k only exact lexes is =
    let here : IsFault ts (parser.At k) = subst {A = List Token} (λ t. IsFault t (parser.At k)) (same_tokens text ts tokens only lexes) is in
    exact.stuck k here.0 here.1

deep_by : (text : List ℕ) (ts tokens : List Token) (answer : Parsed) (k : ℕ) → OnlyTokens text ts → IsExact text ts answer → Lexes text (Ok tokens)
    → IsFault tokens (parser.TooDeep k) → IsUnlessMemory answer (Err (parser.TooDeep k))
deep_by text ts tokens answer k only exact lexes is =
    let here : IsFault ts (parser.TooDeep k) = subst {A = List Token} (λ t. IsFault t (parser.TooDeep k)) (same_tokens text ts tokens only lexes) is in
    exact.deep k here.0

byte_again : (text : List ℕ) (ts tokens : List Token) (k : ℕ) → tokens ≡ ts → byte_of text ts k ≡ byte_of text tokens k
byte_again text ts tokens k same = ap (λ t. byte_of text t k) (sym same)

pub syntax_only : (text : List ℕ) (ts : List Token) (fault : SyntaxFault) (wrong : FaultKind) (at : ℕ) → OnlyTokens text ts → IsExact text ts (Err fault)
    → FirstFault text wrong at → (syntactic text ts fault ≡ Refused wrong at) ⊎ (syntactic text ts fault ≡ Memory)
syntax_only text ts fault BadByte at only exact (byte lexes) = absurd (not_lexical text ts (lexer.BadByte at) only lexes)
syntax_only text ts fault BadLiteral at only exact (literal lexes) = absurd (not_lexical text ts (lexer.BadLiteral at) only lexes)
syntax_only text ts fault Directive at only exact (directive lexes) = absurd (not_lexical text ts (lexer.Directive at) only lexes)
syntax_only text ts fault TooMany at only exact (many lexes) = absurd (not_lexical text ts (lexer.TooMany at) only lexes)
syntax_only text ts fault Syntax _ only exact (syntax_at {tokens} {number} lexes is) =
    elim (stuck_by text ts tokens (Err fault) number only exact lexes is) [
      | inl told ↦ let e : fault ≡ parser.At number = cc in
          inl (ap (syntactic text ts) e ∙ ap (Refused Syntax) (byte_again text ts tokens number (same_tokens text ts tokens only lexes)))
      | inr memory ↦ inr (memory_told text ts fault memory)
    ]
syntax_only text ts fault TooDeep _ only exact (deep {tokens} {number} lexes is) =
    elim (deep_by text ts tokens (Err fault) number only exact lexes is) [
      | inl told ↦ let e : fault ≡ parser.TooDeep number = cc in
          inl (ap (syntactic text ts) e ∙ ap (Refused TooDeep) (byte_again text ts tokens number (same_tokens text ts tokens only lexes)))
      | inr memory ↦ inr (memory_told text ts fault memory)
    ]
syntax_only text ts fault (Kind kind) _ only exact (type {program} read is) =
    elim (read_by text ts (Err fault) program only exact read) [
      | inl found ↦ let e : unparsed fault ≡ parsed program = found in cc
      | inr memory ↦ inr (memory_told text ts fault memory)
    ]

-- ---- types

-- the program that a text is read as is the parser's
same_program : (text : List ℕ) (ts : List Token) (read program : Program) → OnlyTokens text ts → IsExact text ts (Ok read) → IsReadAs text program
    → program ≡ read
same_program text ts read program only exact is =
    elim (read_by text ts (Ok read) program only exact is) [
      | inl found ↦ let e : parsed read ≡ parsed program = found in cc
      | inr memory ↦ let e : parsed read ≡ unparsed parser.Memory = memory in cc
    ]

-- a text whose types are right has no fault of types
no_fault : (program : Program) (fault : Fault) → Types program → first_fault program ≡ Some fault → ⊥
no_fault program fault types is = let none : first_fault program ≡ None = ap first types in cc

pub types_accepts : (text : List ℕ) (ts : List Token) (read program : Program) → OnlyTokens text ts → IsExact text ts (Ok read) → Accepted text program
    → program ≡ read
types_accepts text ts read program only exact accepted = same_program text ts read program only exact accepted.is_read

-- the first fault of a text that was parsed is of its types
first_of_types : (text : List ℕ) (ts : List Token) (read : Program) (wrong : FaultKind) (at : ℕ) → OnlyTokens text ts → IsExact text ts (Ok read)
    → FirstFault text wrong at
    → (fault : Fault) × (first_fault read ≡ Some fault) × (wrong ≡ Kind fault.kind) × (at ≡ fault.place)
first_of_types text ts read BadByte at only exact (byte lexes) = absurd (not_lexical text ts (lexer.BadByte at) only lexes)
first_of_types text ts read BadLiteral at only exact (literal lexes) = absurd (not_lexical text ts (lexer.BadLiteral at) only lexes)
first_of_types text ts read Directive at only exact (directive lexes) = absurd (not_lexical text ts (lexer.Directive at) only lexes)
first_of_types text ts read TooMany at only exact (many lexes) = absurd (not_lexical text ts (lexer.TooMany at) only lexes)
first_of_types text ts read Syntax _ only exact (syntax_at {tokens} {number} lexes is) =
    elim (stuck_by text ts tokens (Ok read) number only exact lexes is) [
      | inl told ↦ let e : parsed read ≡ unparsed (parser.At number) = told in cc
      | inr memory ↦ let e : parsed read ≡ unparsed parser.Memory = memory in cc
    ]
first_of_types text ts read TooDeep _ only exact (deep {tokens} {number} lexes is) =
    elim (deep_by text ts tokens (Ok read) number only exact lexes is) [
      | inl told ↦ let e : parsed read ≡ unparsed (parser.TooDeep number) = told in cc
      | inr memory ↦ let e : parsed read ≡ unparsed parser.Memory = memory in cc
    ]
first_of_types text ts read (Kind kind) _ only exact (type {program} {fault} is_read is) =
    (fault, subst {A = Program} (λ p. first_fault p ≡ Some fault) (same_program text ts read program only exact is_read) is, refl, refl)

-- what the check of types answers where it refuses
abbrev pub IsTold : Program → TypeFault → Type 0
IsTold program fault = (fault ≡ types.Memory) ⊎ ((f : Fault) × (first_fault program ≡ Some f) × (fault ≡ types.Refused f.kind f.place))

-- a fault of types is reported as the first of the text
pub types_first : (text : List ℕ) (program : Program) (fault : TypeFault) (wrong : FaultKind) (at : ℕ) → IsReadAs text program → IsTold program fault
    → typed_fault fault ≡ Refused wrong at → FirstFault text wrong at
types_first text program fault wrong at read (inl memory) told = let e : typed_fault fault ≡ Memory = ap typed_fault memory in cc
types_first text program fault wrong at read (inr (f, is, same)) told =
    first_moved text (Kind f.kind) wrong f.place at (sym (ap typed_fault same) ∙ told) (type read is)

pub types_refuse_none : (text : List ℕ) (ts : List Token) (read program : Program) (fault : TypeFault) → OnlyTokens text ts → IsExact text ts (Ok read)
    → IsTold read fault → Accepted text program → typed_fault fault ≡ Memory
types_refuse_none text ts read program fault only exact (inl memory) accepted = ap typed_fault memory
types_refuse_none text ts read program fault only exact (inr (f, is, same)) accepted =
    absurd (no_fault read f (subst {A = Program} Types (types_accepts text ts read program only exact accepted) accepted.types) is)

pub types_only : (text : List ℕ) (ts : List Token) (read : Program) (fault : TypeFault) (wrong : FaultKind) (at : ℕ) → OnlyTokens text ts → IsExact text ts (Ok read)
    → IsTold read fault → FirstFault text wrong at
    → (typed_fault fault ≡ Refused wrong at) ⊎ (typed_fault fault ≡ Memory)
types_only text ts read fault wrong at only exact (inl memory) first = inr (ap typed_fault memory)
types_only text ts read fault wrong at only exact (inr (f, is, same)) first =
    let found = first_of_types text ts read wrong at only exact first in
    let one : f ≡ found.0 = (let e : first_fault read ≡ Some found.0 = found.1 in cc) in
    inl (ap typed_fault same ∙ ap (λ (g : Fault). Refused (Kind g.kind) g.place) one ∙ ap (λ w. Refused w found.0.place) (sym found.2) ∙ ap (Refused wrong) (sym found.3))

pub types_have_none : (text : List ℕ) (ts : List Token) (read : Program) (wrong : FaultKind) (at : ℕ) → OnlyTokens text ts → IsExact text ts (Ok read)
    → Types read → FirstFault text wrong at → ⊥
types_have_none text ts read wrong at only exact types first =
    let found = first_of_types text ts read wrong at only exact first in no_fault read found.0 types found.1

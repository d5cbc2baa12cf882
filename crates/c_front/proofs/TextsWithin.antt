-- The place of a text's first fault is within the text.
use Rattle.std.proofs.Common.{◌≡◌, ℕ, ◌≤◌, List, [], ◌∷◌, length, Option, Some, Ok, Err, sym, subst, arith}
use Rattle.std.specs.List.{AllByRecursion}
use Rattle.c_lexer.specs.declared.token.Token.{Token}
use Rattle.c_lexer.specs.declared.token.LexFault.TheVariants as lexer
use Rattle.c_lexer.specs.Cut.{Lexes}
use Rattle.c_tree.specs.declared.def.Program.{Program}
use Rattle.c_expr_parser.specs.Placed.{Placed, tokens}
use Rattle.c_expr_parser.specs.Definitions.{TranslationUnit}
use Rattle.c_expr_types.specs.declared.fault.Fault.{Fault}
use Rattle.c_expr_types.specs.Faults.{first}
use Rattle.c_types.specs.Definitions.{faults_in}
use Rattle.c_front.specs.Accepted.{IsReadAs, ending, FirstFault, byte, literal, directive, many, syntax_at, deep, type}
use Rattle.c_front.specs.Laws.{FaultsWithinTexts}
use Rattle.c_front.proofs.FaultsWithin.{Within, MayBeWithin, first_within}
use Rattle.c_front.proofs.ExpressionsWithin.{Below}
use Rattle.c_front.proofs.DefinitionsWithin.{DefWithin, of_program, items_of_text}
use Rattle.c_front.proofs.TokensWithin.{TokensWithin, lexed_within, place_within}

placed_below : (n : ℕ) (ts : List Placed) → TokensWithin n (tokens ts) → Below n ts
placed_below n [] h = tt
placed_below n (t ∷ ts) (h, k) = (h, placed_below n ts k)

tokens_within : (text : List ℕ) (ts : List Token) → Lexes text (Ok ts) → TokensWithin (length text) ts
tokens_within text ts lexes = lexed_within text (Ok ts) lexes

unit_within : (n : ℕ) {ts : List Placed} {read : Program} → TranslationUnit ts read → Below n ts → AllByRecursion (DefWithin n) read.definitions
unit_within n (TranslationUnit.program items) h = items_of_text n items h

types_within : (text : List ℕ) (program : Program) → IsReadAs text program → Within (length text) (faults_in program)
types_within text program is =
    let n : ℕ = length text in
    let ts : TokensWithin n (tokens is.reads.placed) =
    subst {A = List Token} (TokensWithin n) (sym is.reads.are) (tokens_within text is.tokens is.lexes) in
    subst {A = Program} (λ p. Within n (faults_in p)) (sym is.ends)
    (of_program n (ending text is.read) (omega arith) (unit_within n is.reads.phrase (placed_below n is.reads.placed ts)))

type_fault_within : (text : List ℕ) (program : Program) (fault : Fault) → IsReadAs text program → first (faults_in program) ≡ Some fault
    → fault.place ≤ length text
type_fault_within text program fault is found =
    subst {A = Option Fault} (MayBeWithin (length text)) found (first_within (length text) (faults_in program) (types_within text program is))

pub first_fault_within : FaultsWithinTexts
first_fault_within text _ _ (byte {at} lexes) = lexed_within text (Err (lexer.BadByte at)) lexes
first_fault_within text _ _ (literal {at} lexes) = lexed_within text (Err (lexer.BadLiteral at)) lexes
first_fault_within text _ _ (directive {at} lexes) = lexed_within text (Err (lexer.Directive at)) lexes
first_fault_within text _ _ (many {at} lexes) = lexed_within text (Err (lexer.TooMany at)) lexes
first_fault_within text _ _ (syntax_at {tokens} {number} lexes is) =
    place_within (length text) (length text) tokens number (tokens_within text tokens lexes) (omega arith)
first_fault_within text _ _ (deep {tokens} {number} lexes is) =
    place_within (length text) (length text) tokens number (tokens_within text tokens lexes) (omega arith)
first_fault_within text _ _ (type {program} {fault} is found) = type_fault_within text program fault is found

-- What is known of a text after the units before a place.
use Rattle.std.proofs.Common.{◌≡◌, ℕ, ◌+◌, ◌<◌, ◌≤◌, true, false, List, [], ◌∷◌, ◌++◌, length, take, drop, get_or, map, Option, Some, None, Result, Ok, Err, sym, refl, ap, ◌∙◌, subst, arith, length-drop, length-append, append_assoc}
use Rattle.std.specs.Prelude.{nat_lt, slice_index}
use Rattle.std.proofs.lemmas.Bool.{le-ltb, lt-ltb}
use Rattle.std.proofs.lemmas.List.{append-nil, map-append, length-map}
use Rattle.std.proofs.Math.Seq.{get_or-append_seam}
use Rattle.c_lexer.specs.declared.token.TokenKind.{TokenKind}
use Rattle.c_lexer.specs.declared.token.Token.{Token}
use Rattle.c_lexer.specs.declared.token.LexFault.{LexFault}
use Rattle.c_lexer.specs.declared.token.LexFault.TheVariants.{TooMany}
use Rattle.c_lexer.specs.declared.unit.Reading.{Reading}
use Rattle.c_lexer.specs.declared.unit.Reading.TheVariants.{Space, Lexeme, Bad}
use Rattle.c_lexer.specs.declared.unit.Fault.{Fault}
use Rattle.c_lexer.specs.Cut.{UnitAt, Cut, finish, space, lexeme, bad, token, fault_at, most_tokens, answer, Lexes}
use Rattle.c_lexer.specs.Compute.{lexed, tokens_from}
use Rattle.c_lexer.proofs.Laws.{lexes_once}
use Rattle.c_lexer.proofs.CutExists.{cut_found, lexed_is}

-- a cut from the place on is a cut of the text, with these tokens in front
pub record Reached (text : List ℕ) (tokens : List Token) (at : ℕ) : Type 0 where
  pub within : at ≤ length text
  pub few : length tokens ≤ most_tokens
  pub ahead : (later : List Token) (fault : Option LexFault) → Cut text at later fault → Cut text 0 (tokens ++ later) fault

pub reached_start : (text : List ℕ) → Reached text [] 0
reached_start text = record { within = omega arith; few = omega arith; ahead = λ later fault cut. cut }

pub past_space : (text : List ℕ) (tokens : List Token) (at n : ℕ) → Reached text tokens at → UnitAt text at n Space → Reached text tokens (at + n)
past_space text tokens at n reached unit = record {
  within = omega (arith, reached.within, unit.within, length-drop at text);
  few = reached.few;
  ahead = λ later fault cut. reached.ahead later fault (space n unit cut);
}

pub past_lexeme : (text : List ℕ) (tokens : List Token) (at n : ℕ) (kind : TokenKind) → Reached text tokens at → UnitAt text at n (Lexeme kind)
    → length tokens < most_tokens → Reached text (tokens ++ token kind at (take n (drop at text)) ∷ []) (at + n)
past_lexeme text tokens at n kind reached unit room = record {
  within = omega (arith, reached.within, unit.within, length-drop at text);
  few = simp length-append (omega arith);
  ahead = λ later fault cut.
      subst (λ ts. Cut text 0 ts fault) (sym (append_assoc tokens (token kind at (take n (drop at text)) ∷ []) later)) (reached.ahead _ fault (lexeme n kind unit cut));
}

not_more : (tokens : List Token) → length tokens ≤ most_tokens → nat_lt most_tokens (length tokens) ≡ false
not_more tokens few = le-ltb most_tokens (length tokens) few

pub ends : (text : List ℕ) (tokens : List Token) (at : ℕ) → Reached text tokens at → length text ≤ at → Lexes text (Ok tokens)
ends text tokens at reached past = (
  tokens,
  None,
  subst (λ ts. Cut text 0 ts None) (append-nil tokens) (reached.ahead [] None (finish (let e : at ≡ length text = omega (arith, reached.within) in e))),
  rw (not_more tokens reached.few) refl,
)

pub faults : (text : List ℕ) (tokens : List Token) (at n : ℕ) (why : Fault) → Reached text tokens at → UnitAt text at n (Bad why) → Lexes text (Err (fault_at at why))
faults text tokens at n why reached unit = (
  tokens,
  Some (fault_at at why),
  subst (λ ts. Cut text 0 ts (Some (fault_at at why))) (append-nil tokens) (reached.ahead [] (Some (fault_at at why)) (bad n why unit)),
  rw (not_more tokens reached.few) refl,
)

-- the place of the token past the limit
place_past : (tokens later : List Token) (next : Token) → length tokens ≡ most_tokens → slice_index (map (λ t. t.at) (tokens ++ next ∷ later)) most_tokens ≡ next.at
place_past tokens later next full =
    let whole : map (λ t. t.at) (tokens ++ next ∷ later) ≡ map (λ t. t.at) tokens ++ next.at ∷ map (λ t. t.at) later = map-append (λ t. t.at) tokens (next ∷ later) in
    let count : length (map (λ t. t.at) tokens) ≡ most_tokens = length-map tokens (λ t. t.at) ∙ full in
    ap (λ l. get_or l most_tokens 0) whole ∙ subst (λ k. get_or (map (λ t. t.at) tokens ++ next.at ∷ map (λ t. t.at) later) k 0 ≡ next.at) count
    (get_or-append_seam (map (λ t. t.at) tokens) next.at (map (λ t. t.at) later) 0)

pub too_many : (text : List ℕ) (tokens : List Token) (at n : ℕ) (kind : TokenKind) → Reached text tokens at → UnitAt text at n (Lexeme kind)
    → most_tokens ≤ length tokens → Lexes text (Err (TooMany at))
too_many text tokens at n kind reached unit full =
    let later = (tokens_from (length text) text (at + n)).0 in
    let fault = (tokens_from (length text) text (at + n)).1 in
    let next = token kind at (take n (drop at text)) in
    let more = cut_found (length text) text (at + n) (omega (arith, reached.within, unit.within, length-drop at text)) (omega arith) in
    let count : length tokens ≡ most_tokens = omega (arith, reached.few) in
    (tokens ++ next ∷ later, fault, reached.ahead (next ∷ later) fault (lexeme n kind unit more), one_past tokens later next fault count)
  where
    one_past : (tokens later : List Token) (next : Token) (fault : Option LexFault) → length tokens ≡ most_tokens
        → ◌≡◌ {A = Result (List Token) LexFault} (Err (TooMany next.at)) (answer (tokens ++ next ∷ later) fault)
    one_past tokens later next fault count =
        let past : nat_lt most_tokens (length (tokens ++ next ∷ later)) ≡ true = lt-ltb most_tokens (length (tokens ++ next ∷ later)) (omega (arith, length-append tokens (next ∷ later))) in
        rw (past, place_past tokens later next count) refl

-- a unit with its reading
pub unit_read : (text : List ℕ) (at n : ℕ) (r s : Reading) → UnitAt text at n r → r ≡ s → UnitAt text at n s
unit_read text at n r s unit is = subst (λ q. UnitAt text at n q) is unit

-- the one answer
pub same_answer : (text : List ℕ) (result : Result (List Token) LexFault) → Lexes text result → (other : Result (List Token) LexFault) → Lexes text other → other ≡ result
same_answer text result is other that = lexes_once text that is

pub computed_answer : (text : List ℕ) (result : Result (List Token) LexFault) → Lexes text result → lexed text ≡ result
computed_answer text result is = lexes_once text (lexed_is text) is

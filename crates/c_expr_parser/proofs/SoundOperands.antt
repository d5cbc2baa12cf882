-- What an operand begins with, and what may follow it.
use Rattle.std.specs.Prelude.{◌≡◌, ℕ, suc, pos, Bool, true, List, [], ◌∷◌, Some, codes}
use Rattle.std.specs.Str.{bytes_eq}
use Rattle.std.proofs.Common.{refl}
use Rattle.std.proofs.lemmas.Slice.Eq.{bytes_eq-Decides}
use Rattle.c_ints.specs.declared.kind.Kind.TheVariants.{I32}
use Rattle.c_ints.specs.declared.operator.UnOp.{UnOp}
use Rattle.c_ints.specs.Number.{number}
use Rattle.c_lexer.specs.Bytes.{quote}
use Rattle.c_lexer.specs.declared.token.Token.{Token}
use Rattle.c_lexer.specs.declared.token.TokenKind.{TokenKind}
use Rattle.c_lexer.specs.declared.token.TokenKind.TheVariants.{Identifier, Keyword, LibraryWord, Number, Character, Str, Punctuator}
use Rattle.c_tree.specs.declared.expr.ExprNode.TheVariants as node
use Rattle.c_tree.specs.declared.expr.StepOp.TheVariants.{PreIncrement, PreDecrement}
use Rattle.c_expr_parser.specs.declared.operand.Operand.{Operand}
use Rattle.c_expr_parser.specs.Placed.{Placed, at}
use Rattle.c_expr_parser.specs.Quoted.{IsQuoted}
use Rattle.c_expr_parser.specs.Terminals.{IsPunctuator, IsCharacter}
use Rattle.c_expr_parser.specs.Expressions.{Assignment, Unary, Primary}
use Rattle.c_expr_parser.specs.Tables.{unary_operator, unquoted, only, constant_of}
use Rattle.c_expr_parser.specs.Plans.{Value, Wanted, Plan, after, as_operand, as_expr, unary, punctuator_operand, operand_by, operand_plan, assignment_rest}
use Rattle.c_expr_parser.specs.Plans.Value.{operand}
use Rattle.c_expr_parser.specs.Plans.Plan.{Return, Then}
use Rattle.c_expr_parser.proofs.TraceMeaning.{Sound, sound_map, Behind, behind_return, behind_after}
use Rattle.c_expr_parser.proofs.WantedMeaning.{Reads, AsAssignment, AsOperand, Fits, sound_then, sound_cast_then, reads_case}
use Rattle.c_expr_parser.proofs.SoundAssignment.{sound_assignment_rest}
use Rattle.c_expr_parser.proofs.SoundCalls.{After, unary_operand, postfix_on, primary_on, sound_unary, library_word_taken}
use Rattle.c_expr_parser.proofs.SoundTables.{placed_at, spelled_as, Each, each_at, each_if, each_map, unary_is}
use Rattle.c_expr_parser.proofs.SoundTerminals.{unquoted_is, only_is, constant_is}

-- an operand after a sign
unary_done : {n : ℕ} (casts : Bool) {d : ℕ} {t : Placed} {ts : List Placed} (a : Operand) → Unary d (t ∷ ts) a.expr → a.start ≡ at t
    → Behind n (Reads (AsOperand casts d)) (t ∷ ts) (Return (operand a))
unary_done casts {d} {t} {ts} a u e =
    behind_return (Reads (AsOperand casts d)) (t ∷ ts) (Reads.reads (unary_operand casts a u) e)

operator_sound : {n : ℕ} → Fits n → (casts : Bool) (d : ℕ) (t : Token) (op : UnOp) → unary_operator t ≡ Some op
    → After n casts d (placed_at d t)
    (Then (Wanted.Cast (suc d)) (λ v. Return (operand (unary t.at (node.Unary op (as_expr v))))))
operator_sound fits casts d t op e =
    let is = unary_is d t op e in
    sound_cast_then {k = λ v. Return (operand (unary t.at (node.Unary op (as_expr v))))} fits (λ u us a p l.
    unary_done casts (unary t.at (node.Unary op a.expr)) (Unary.operator is.0 is.1 p.0) refl)

inside_sound : {n : ℕ} → Fits n → (casts : Bool) (d : ℕ) (t : Token) → IsPunctuator d "(" (placed_at d t)
    → After n casts d (placed_at d t) (Then (Wanted.Inside casts d t.at) Return)
inside_sound fits casts d t s = sound_map (λ ts v m. m (placed_at d t) s refl) (fits.wanted (Wanted.Inside casts d t.at))

-- a punctuator that begins an operand
punctuator_taken : {n : ℕ} → Fits n → (casts : Bool) (d : ℕ) (t : Token) → t.kind ≡ Punctuator
    → Each (After n casts d (placed_at d t)) (punctuator_operand casts d t)
punctuator_taken {n} fits casts d t h =
    each_if P (bytes_eq t.text (codes "(")) _ _ (λ e. inside_sound fits casts d t (spelled_as Punctuator d (codes "(") t h ((bytes_eq-Decides t.text _).0 e)))
    (λ e. each_if P (bytes_eq t.text (codes "++")) _ _
    (λ e. sound_unary fits (suc d) (λ u us x p.
    unary_done casts (unary t.at (node.Step PreIncrement x)) (Unary.pre_increment (spelled_as Punctuator d (codes "++") t h ((bytes_eq-Decides t.text _).0 e)) p) refl))
    (λ e. each_if P (bytes_eq t.text (codes "--")) _ _
    (λ e. sound_unary fits (suc d) (λ u us x p.
    unary_done casts (unary t.at (node.Step PreDecrement x)) (Unary.pre_decrement (spelled_as Punctuator d (codes "--") t h ((bytes_eq-Decides t.text _).0 e)) p) refl))
    (λ e. each_map P _ (unary_operator t) (λ op k. operator_sound fits casts d t op k))))
  where
    P : Plan → Type 0
    P p = After n casts d (placed_at d t) p

-- a name, and what may follow it alone
name_sound : {n : ℕ} → Fits n → (casts : Bool) (d : ℕ) (t : Token) → t.kind ≡ Identifier
    → After n casts d (placed_at d t) (Then (Wanted.Behind d t.at t.text) (λ v. Then (Wanted.Postfix d (as_operand v)) Return))
name_sound {n} fits casts d t h =
    sound_then {k = λ v. Then (Wanted.Postfix d (as_operand v)) Return} fits (Wanted.Behind d t.at t.text) (λ ts v m.
    reads_case (Reads (AsOperand casts d)) (λ v. Then (Wanted.Postfix d (as_operand v)) Return)
    (λ u us a p e. postfix_on fits casts a p e)
    (m (placed_at d t) (record { sort = h; stands = refl }) refl refl))

character_at : (d : ℕ) (t : Token) (byte : ℕ) → t.kind ≡ Character → only (unquoted quote t.text) ≡ Some byte
    → IsCharacter d (number I32 (pos byte)) (placed_at d t)
character_at d t byte h e = record {
  sort = h;
  stands = refl;
  byte = byte;
  quoted = each_at (λ b. IsQuoted quote t.text b) (unquoted quote t.text) (byte ∷ []) (only_is (unquoted quote t.text) byte e)
      (unquoted_is quote t.text);
  typed = refl;
}

operand_by_taken : {n : ℕ} → Fits n → (casts : Bool) (d : ℕ) (t : Token) (kind : TokenKind) → t.kind ≡ kind
    → Each (After n casts d (placed_at d t)) (operand_by kind casts d t)
operand_by_taken fits casts d t Identifier h = name_sound fits casts d t h
operand_by_taken fits casts d t Keyword h = tt
operand_by_taken fits casts d t LibraryWord h = library_word_taken fits casts d t h
operand_by_taken {n} fits casts d t Number h =
    each_map (After n casts d (placed_at d t)) _ (constant_of t.text) (λ value e.
    primary_on fits casts (Primary.number (record { sort = h; stands = refl; constant = constant_is t.text value e })))
operand_by_taken {n} fits casts d t Character h =
    each_map (After n casts d (placed_at d t)) _ (only (unquoted quote t.text)) (λ byte e.
    primary_on fits casts (Primary.character (character_at d t byte h e)))
operand_by_taken fits casts d t Str h = tt
operand_by_taken fits casts d t Punctuator h = punctuator_taken fits casts d t h

-- the token that begins an operand
pub operand_taken : {n : ℕ} → Fits n → (casts : Bool) (d : ℕ) (t : Token)
    → Each (λ p. Sound n (λ more v. Reads (AsOperand casts d) (placed_at d t ∷ more) v) p) (operand_plan casts d t)
operand_taken fits casts d t = operand_by_taken fits casts d t t.kind refl

-- an assignment by its first token
pub assignment_begun : {n : ℕ} (Q : List Placed → Value → Type 0) (k : Value → Plan) → Fits n → (d : ℕ) (t : Placed) (p : Plan)
    → After n true d t p
    → ((u : Placed) (us : List Placed) (a : Operand) → Assignment d (u ∷ us) a.expr → a.start ≡ at u → Behind n Q (u ∷ us) (k (operand a)))
    → Behind n Q (t ∷ []) (after (after p (assignment_rest d)) k)
assignment_begun {n} Q k fits d t p s f =
    behind_after (Reads (AsAssignment d)) Q (after p (assignment_rest d)) k (t ∷ [])
    (behind_after (Reads (AsOperand true d)) (Reads (AsAssignment d)) p (assignment_rest d) (t ∷ []) s
    (λ ts v m. reads_case (Reads (AsAssignment d)) (assignment_rest d) (λ u us a q e. sound_assignment_rest fits {d = d} {a = a} q e) m))
    (λ ts v m. reads_case Q k f m)

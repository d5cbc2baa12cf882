-- Whatever the tokens: the plans of expressions and types take what the grammar reads, and where nothing fits, what they
-- took begins a phrase.
use Rattle.std.specs.Prelude.{◌≡◌, ℕ, zero, suc, ◌≤◌, Bool, true, false, List, [], ◌∷◌, ◌++◌, length, Option, Some, None, option_map, codes}
use Rattle.std.proofs.Common.{refl, ap, sym, subst, arith, inl, append-nil}
use Rattle.c_lexer.specs.declared.token.Token.{Token}
use Rattle.c_lexer.specs.declared.token.TokenKind.TheVariants.{Identifier, Number, Str}
use Rattle.c_tree.specs.declared.name.CType.TheVariants.{Integer}
use Rattle.c_tree.specs.declared.expr.ExprNode.TheVariants as node
use Rattle.c_expr_parser.specs.declared.operand.Operand.{Operand}
use Rattle.c_expr_parser.specs.Placed.{Placed, at, text}
use Rattle.c_expr_parser.specs.Terminals.{Strings}
use Rattle.c_expr_parser.specs.TypeNames.{TypeName}
use Rattle.c_expr_parser.specs.Operators.{loosest}
use Rattle.c_expr_parser.specs.Expressions.{Conditional, Unary, Postfix, Primary, Arguments, Further}
use Rattle.c_expr_parser.specs.Plans.{Value, Wanted, Plan, passed, after, unary, depth_of, takes, left_out, Trace, run, assignment, conditional}
use Rattle.c_expr_parser.specs.Plans.Value.{nothing, operand, typed, listed}
use Rattle.c_expr_parser.specs.Plans.Plan.{Return, Then}
use Rattle.c_expr_parser.proofs.Samples.{placed, identifier, punctuator, library_word, is_identifier, is_punctuator, is_library_word, variable, reads_variable, reads as reads_whole}
use Rattle.c_expr_parser.proofs.Examples.{one}
use Rattle.c_expr_parser.proofs.JoinedTraces.{after_return}
use Rattle.c_expr_parser.proofs.TraceMeaning.{Explained, Sound, sound_return, behind_return}
use Rattle.c_expr_parser.proofs.WantedMeaning.{IsWord, IsNamed, IsOne, IsTyped, IsQuotation, Reads, IsListed, AreArguments, IsTarget, AsAssignment, AsConditional, AsBinary, AsOperand, AsPostfix, Means, Fits}
use Rattle.c_expr_parser.proofs.SoundTables.{placed_at, Each, each_at, each_when, token_at, spelled_at}
use Rattle.c_expr_parser.proofs.SoundTypes.{words_taken, words_left, type_taken}
use Rattle.c_expr_parser.proofs.SoundTerminals.{one_taken, strings_taken, further_taken, strings_left}
use Rattle.c_expr_parser.proofs.SoundAssignment.{explained_met, sound_assignment_then}
use Rattle.c_expr_parser.proofs.SoundRest.{sound_conditional_then}
use Rattle.c_expr_parser.proofs.SoundCalls.{unary_operand}
use Rattle.c_expr_parser.proofs.SoundOperands.{operand_taken}
use Rattle.c_expr_parser.proofs.SoundParts.{inside_taken, behind_taken, postfix_taken, assigned_taken, chain_taken, chosen_taken, arguments_taken, further_argument_taken, target_taken}

-- what is read after the first token of something wanted
taken : {n : ℕ} → Fits n → (w : Wanted) (t : Token)
    → Each (λ p. Sound n (λ more v. Means w (placed_at (depth_of w) t ∷ more) v) p) (takes w t)
taken {n} fits (Wanted.Word kind spelling d) t =
    each_when (λ p. Sound n (λ more v. IsWord kind spelling d (placed_at d t ∷ more) v) p) _ _
    (λ h. sound_return (IsWord.word (spelled_at kind d spelling t h)))
taken {n} fits (Wanted.Naming d) t =
    each_when (λ p. Sound n (λ more v. IsNamed d (placed_at d t ∷ more) v) p) _ _
    (λ h. sound_return (IsNamed.identifier (token_at Identifier d t h)))
taken {n} fits (Wanted.One d) t = one_taken n d t
taken fits (Wanted.Typing d) t = type_taken fits d t
taken fits (Wanted.Words d words) t = words_taken fits d words t
taken fits (Wanted.Strings d) t = strings_taken fits d t
taken fits (Wanted.MoreStrings d place bytes) t = further_taken fits d place bytes t
taken fits (Wanted.Cast d) t = operand_taken fits true d t
taken fits (Wanted.Unary d) t = operand_taken fits false d t
taken fits (Wanted.Inside casts d place) t = inside_taken fits casts d place t
taken fits (Wanted.Behind d place spelling) t = behind_taken fits d place spelling t
taken fits (Wanted.Postfix d a) t = postfix_taken fits d a t
taken fits (Wanted.Assigned d a) t = assigned_taken fits d a t
taken fits (Wanted.Chain level d a) t = chain_taken fits level d a t
taken fits (Wanted.Chosen d a) t = chosen_taken fits d a t
taken fits (Wanted.Arguments d) t = arguments_taken fits d t
taken fits (Wanted.Further d es) t = further_argument_taken fits d es t
taken fits (Wanted.Target d) t = target_taken fits d t

left_read : (P Q : List Placed → Operand → Type 0) (a : Operand) → ((ts : List Placed) → P ts a → Q ts a)
    → (t : Placed) (left : List Placed) → P (t ∷ left) a → a.start ≡ at t → Reads Q (t ∷ (left ++ [])) (operand a)
left_read P Q a f t left p e = rw append-nil (Reads.reads (f (t ∷ left) p) e)

name_left : (d place : ℕ) (spelling : List ℕ) → Means (Wanted.Behind d place spelling) [] (operand (unary place (node.Variable spelling)))
name_left d place spelling t i e s =
    rw (e, s) (Reads.reads {a = unary (at t) (node.Variable (text t))} (Postfix.primary (Primary.variable i)) refl)

-- what is read where something is left out
left : (w : Wanted) → Each (Means w []) (left_out w)
left (Wanted.Word kind spelling d) = tt
left (Wanted.Naming d) = tt
left (Wanted.One d) = tt
left (Wanted.Typing d) = tt
left (Wanted.Words d words) = words_left d words
left (Wanted.Strings d) = tt
left (Wanted.MoreStrings d place bytes) = strings_left d place bytes
left (Wanted.Cast d) = tt
left (Wanted.Unary d) = tt
left (Wanted.Inside casts d place) = tt
left (Wanted.Behind d place spelling) = name_left d place spelling
left (Wanted.Postfix d a) = left_read (AsPostfix d) (AsPostfix d) a (λ ts p. p)
left (Wanted.Assigned d a) = inl (refl, refl)
left (Wanted.Chain level d a) = left_read (AsBinary (suc level) d) (AsBinary (suc level) d) a (λ ts p. p)
left (Wanted.Chosen d a) = left_read (AsBinary loosest d) (AsConditional d) a (λ ts p. Conditional.binary p)
left (Wanted.Arguments d) = AreArguments.arguments Arguments.none
left (Wanted.Further d es) = subst (λ l. IsListed d es [] (listed l)) (append-nil es) (IsListed.further Further.no_more)
left (Wanted.Target d) = tt

-- a reading of something wanted
abbrev Sample : Wanted → Type 0
Sample w = (more : List Placed) × (v : Value) × Means w more v

no_kind : {d : ℕ} {words : List (List ℕ)} {v : Value} → left_out (Wanted.Words d words) ≡ None → Means (Wanted.Words d words) [] v
no_kind {d} {words} {v} e left kind ws k = absurd (grind (arith, ap (option_map (λ k. typed (Integer k))) k, e))

sample_operand : (casts : Bool) (d : ℕ) → (more : List Placed) × (v : Value) × Reads (AsOperand casts d) more v
sample_operand casts d = (
  identifier d 0 "x" ∷ [],
  operand (unary 0 (node.Variable (codes "x"))),
  Reads.reads (unary_operand casts (unary 0 (node.Variable (codes "x"))) (reads_variable d 0 "x")) refl,
)

sample : (w : Wanted) → left_out w ≡ None → Sample w
sample (Wanted.Word kind spelling d) e = (
  record { token = record { kind = kind; at = 0; len = 0; text = spelling }; depth = d } ∷ [],
  nothing,
  IsWord.word (record { sort = refl; stands = refl; spelled = refl }),
)
sample (Wanted.Naming d) e = (identifier d 0 "x" ∷ [], _, IsNamed.identifier (is_identifier d 0 "x"))
sample (Wanted.One d) e =
    (placed Number d 0 "1" ∷ [], nothing, IsOne.one _ (record { sort = refl; stands = refl; constant = one }) refl)
sample (Wanted.Typing d) e = (library_word d 0 "thrd_t" ∷ [], _, IsTyped.type_name (TypeName.thread (is_library_word d 0 "thrd_t")))
sample (Wanted.Words d words) e = ([], nothing, no_kind e)
sample (Wanted.Strings d) e = (
  placed Str d 0 "\"\"" ∷ [],
  _,
  IsQuotation.strings (Strings.last (record { sort = refl; stands = refl; quoted = record { body = []; are = refl; means = refl } })),
)
sample (Wanted.MoreStrings d place bytes) e = absurd (grind (arith, e))
sample (Wanted.Cast d) e = sample_operand true d
sample (Wanted.Unary d) e = sample_operand false d
sample (Wanted.Inside casts d place) e = (
  identifier (suc d) 0 "x" ∷ punctuator d 0 ")" ∷ [],
  operand (record { expr = variable 0 "x"; start = place; is_unary = true }),
  λ paren h l. Reads.reads (unary_operand casts (record { expr = variable 0 "x"; start = place; is_unary = true })
      (Unary.postfix (Postfix.primary (Primary.parentheses h (reads_whole (suc d) 0 "x") (is_punctuator d 0 ")"))))) l,
)
sample (Wanted.Behind d place spelling) e = absurd (grind (arith, e))
sample (Wanted.Postfix d a) e = absurd (grind (arith, e))
sample (Wanted.Assigned d a) e = absurd (grind (arith, e))
sample (Wanted.Chain level d a) e = absurd (grind (arith, e))
sample (Wanted.Chosen d a) e = absurd (grind (arith, e))
sample (Wanted.Arguments d) e = absurd (grind (arith, e))
sample (Wanted.Further d es) e = absurd (grind (arith, e))
sample (Wanted.Target d) e = (library_word d 0 "NULL" ∷ [], nothing, IsTarget.null (is_library_word d 0 "NULL"))

-- where nothing is taken
explained_passed : (w : Wanted) (ts : List Token) (o : Option Value) (later : Value → Trace) → left_out w ≡ o
    → ((v : Value) → Means w [] v → Explained (Means w) (later v)) → Explained (Means w) (passed ts o later)
explained_passed w ts None later e f = sample w e
explained_passed w ts (Some v) later e f = f v (each_at (Means w []) (left_out w) v e (left w))

at_end : (w : Wanted) → Explained (Means w) (run [] (Then w Return))
at_end w = explained_passed w [] (left_out w) (λ v. run [] (Return v)) refl (λ v m. m)

later_taken : {n : ℕ} (w : Wanted) (t : Token) (ts : List Token) → length ts ≤ n → (o : Option Plan)
    → Each (λ p. Sound n (λ more v. Means w (placed_at (depth_of w) t ∷ more) v) p) o
    → Each (λ p. Explained (λ more v. Means w (placed_at (depth_of w) t ∷ more) v) (run ts (after p Return))) o
later_taken w t ts h None e = tt
later_taken w t ts h (Some p) e =
    subst (λ q. Explained (λ more v. Means w (placed_at (depth_of w) t ∷ more) v) (run ts q)) (sym (after_return p))
    (e.trace ts h)

at_token : {n : ℕ} → Fits n → (w : Wanted) (t : Token) (ts : List Token) → length ts ≤ n → Explained (Means w) (run (t ∷ ts) (Then w Return))
at_token fits w t ts h =
    explained_met (Means w) (placed_at (depth_of w) t) (λ p. run ts (after p Return))
    (passed (t ∷ ts) (left_out w) (λ v. run (t ∷ ts) (Return v))) (takes w t)
    (explained_passed w (t ∷ ts) (left_out w) (λ v. run (t ∷ ts) (Return v)) refl (λ v m. m))
    (later_taken w t ts h (takes w t) (taken fits w t))

none_fit : (w : Wanted) (ts : List Token) → length ts ≤ 0 → Explained (Means w) (run ts (Then w Return))
none_fit w [] h = at_end w
none_fit w (t ∷ ts) h = absurd (omega arith)

more_fit : {n : ℕ} → Fits n → (w : Wanted) (ts : List Token) → length ts ≤ suc n → Explained (Means w) (run ts (Then w Return))
more_fit fits w [] h = at_end w
more_fit fits w (t ∷ ts) h = at_token fits w t ts (omega arith)

pub fits : (n : ℕ) → Fits n
fits zero = record { wanted = λ w. record { trace = none_fit w } }
fits (suc n) = record { wanted = λ w. record { trace = more_fit (fits n) w } }

-- an assignment expression, and a conditional one
pub sound_assignment : (d : ℕ) (ts : List Token) → Explained (Reads (AsAssignment d)) (run ts (assignment d))
sound_assignment d ts =
    subst (λ p. Explained (Reads (AsAssignment d)) (run ts p)) (after_return (assignment d))
    ((sound_assignment_then {Q = Reads (AsAssignment d)} Return (fits (length ts)) d
    (λ t us a p e. behind_return (Reads (AsAssignment d)) (t ∷ us) (Reads.reads p e))).trace ts (omega arith))

pub sound_conditional : (d : ℕ) (ts : List Token) → Explained (Reads (AsConditional d)) (run ts (conditional d))
sound_conditional d ts =
    subst (λ p. Explained (Reads (AsConditional d)) (run ts p)) (after_return (conditional d))
    ((sound_conditional_then {Q = Reads (AsConditional d)} Return (fits (length ts)) d
    (λ t us a p e. behind_return (Reads (AsConditional d)) (t ∷ us) (Reads.reads p e))).trace ts (omega arith))

-- a cast, and a unary expression where it says so
pub sound_cast : (d : ℕ) (ts : List Token) → Explained (Reads (AsOperand true d)) (run ts (Then (Wanted.Cast d) Return))
sound_cast d ts = ((fits (length ts)).wanted (Wanted.Cast d)).trace ts (omega arith)

pub sound_unary : (d : ℕ) (ts : List Token) → Explained (Reads (AsOperand false d)) (run ts (Then (Wanted.Unary d) Return))
sound_unary d ts = ((fits (length ts)).wanted (Wanted.Unary d)).trace ts (omega arith)

-- a type
pub sound_type : (d : ℕ) (ts : List Token) → Explained (IsTyped d) (run ts (Then (Wanted.Typing d) Return))
sound_type d ts = ((fits (length ts)).wanted (Wanted.Typing d)).trace ts (omega arith)

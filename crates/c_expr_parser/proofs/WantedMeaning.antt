-- What it means in the grammar that something wanted was read: which tokens it is, and which value.
use Rattle.std.specs.Prelude.{◌≡◌, ◌⊎◌, ℕ, suc, pos, Bool, true, false, List, [], ◌∷◌, ◌++◌, Some}
use Rattle.c_ints.specs.declared.int.Int.{Int}
use Rattle.c_ints.specs.declared.kind.Kind.{Kind}
use Rattle.c_ints.specs.Number.{value_of}
use Rattle.c_lexer.specs.declared.token.TokenKind.{TokenKind}
use Rattle.c_tree.specs.declared.name.CType.{CType}
use Rattle.c_tree.specs.declared.expr.Expr.{Expr}
use Rattle.c_expr_parser.specs.declared.operand.Operand.{Operand}
use Rattle.c_expr_parser.specs.Placed.{Placed, at, text}
use Rattle.c_expr_parser.specs.Terminals.{Spells, IsPunctuator, IsLibraryWord, IsIdentifier, IsNumber, Strings, name}
use Rattle.c_expr_parser.specs.TypeNames.{TypeName, IntegerWords}
use Rattle.c_expr_parser.specs.Operators.{loosest}
use Rattle.c_expr_parser.specs.Expressions.{Assignment, Conditional, Binary, Cast, Unary, Postfix, Arguments, Further}
use Rattle.c_expr_parser.specs.Tables.{kind_of}
use Rattle.c_expr_parser.specs.Plans.{Value, Wanted, Plan}
use Rattle.c_expr_parser.specs.Plans.Value.{nothing, operand, named, typed, listed, quoted}
use Rattle.c_expr_parser.specs.Plans.Plan.{Return, Then}
use Rattle.c_expr_parser.proofs.TraceMeaning.{Sound, sound_fewer, sound_after, sound_map, Behind, behind_after}

-- a token of a spelling
pub data IsWord (kind : TokenKind) (spelling : List ℕ) (d : ℕ) : List Placed → Value → Type 0 where
  word : {t : Placed} {v : Value} → Spells kind d spelling t → IsWord kind spelling d (t ∷ []) v

pub data IsNamed (d : ℕ) : List Placed → Value → Type 0 where
  identifier : {t : Placed} → IsIdentifier d t → IsNamed d (t ∷ []) (named (name t))

pub data IsOne (d : ℕ) : List Placed → Value → Type 0 where
  one : {t : Placed} {v : Value} (value : Int) → IsNumber d value t → value_of value ≡ pos 1 → IsOne d (t ∷ []) v

pub data IsTyped (d : ℕ) : List Placed → Value → Type 0 where
  type_name : {ts : List Placed} {t : CType} → TypeName d ts t → IsTyped d ts (typed t)

pub data IsQuotation (d : ℕ) : List Placed → Value → Type 0 where
  strings : {t : Placed} {ts : List Placed} {bytes : List ℕ} → Strings d (t ∷ ts) bytes → IsQuotation d (t ∷ ts) (quoted (at t) bytes)

-- a phrase as an operand: its tree, and where it begins
pub data Reads (Phrase : List Placed → Operand → Type 0) : List Placed → Value → Type 0 where
  reads : {t : Placed} {ts : List Placed} {a : Operand} → Phrase (t ∷ ts) a → a.start ≡ at t → Reads Phrase (t ∷ ts) (operand a)

pub data IsListed (d : ℕ) (es : List Expr) : List Placed → Value → Type 0 where
  further : {ts : List Placed} {more : List Expr} → Further d ts more → IsListed d es ts (listed (es ++ more))

pub data AreArguments (d : ℕ) : List Placed → Value → Type 0 where
  arguments : {ts : List Placed} {es : List Expr} → Arguments d ts es → AreArguments d ts (listed es)

-- the second argument of `thrd_join`
pub data IsTarget (d : ℕ) : List Placed → Value → Type 0 where
  null : {t : Placed} → IsLibraryWord d "NULL" t → IsTarget d (t ∷ []) nothing
  into : {t : Placed} {ts : List Placed} {a : Operand} → IsPunctuator d "&" t → Unary d ts a.expr → IsTarget d (t ∷ ts) (operand a)

abbrev pub AsAssignment : ℕ → List Placed → Operand → Type 0
AsAssignment d ts a = Assignment d ts a.expr

abbrev pub AsConditional : ℕ → List Placed → Operand → Type 0
AsConditional d ts a = Conditional d ts a.expr

abbrev pub AsBinary : ℕ → ℕ → List Placed → Operand → Type 0
AsBinary level d ts a = Binary level d ts a.expr

-- a cast, and a unary expression where it says so; or, where no cast is wanted, a unary expression
abbrev pub AsOperand : Bool → ℕ → List Placed → Operand → Type 0
AsOperand true d ts a = Cast d ts a.expr × (a.is_unary ≡ true → Unary d ts a.expr)
AsOperand false d ts a = Unary d ts a.expr

abbrev pub AsPostfix : ℕ → List Placed → Operand → Type 0
AsPostfix d ts a = Postfix d ts a.expr

-- the tokens go on with any phrase that the operand is, and both together are another phrase
abbrev pub GoesOn : (List Placed → Operand → Type 0) → (List Placed → Operand → Type 0) → Operand → List Placed → Value → Type 0
GoesOn Left Whole a ts v =
    (t : Placed) (left : List Placed) → Left (t ∷ left) a → a.start ≡ at t → Reads Whole (t ∷ (left ++ ts)) v

abbrev pub Means : Wanted → List Placed → Value → Type 0
Means (Wanted.Word kind spelling d) ts v = IsWord kind spelling d ts v
Means (Wanted.Naming d) ts v = IsNamed d ts v
Means (Wanted.One d) ts v = IsOne d ts v
Means (Wanted.Typing d) ts v = IsTyped d ts v
Means (Wanted.Words d words) ts v =
    (left : List Placed) (kind : Kind) → IntegerWords d left words → kind_of words ≡ Some kind → IsTyped d (left ++ ts) v
Means (Wanted.Strings d) ts v = IsQuotation d ts v
Means (Wanted.MoreStrings d place bytes) ts v =
    (t : Placed) (left : List Placed) → Strings d (t ∷ left) bytes → place ≡ at t → IsQuotation d (t ∷ (left ++ ts)) v
Means (Wanted.Cast d) ts v = Reads (AsOperand true d) ts v
Means (Wanted.Unary d) ts v = Reads (AsOperand false d) ts v
Means (Wanted.Inside casts d place) ts v = (t : Placed) → IsPunctuator d "(" t → place ≡ at t → Reads (AsOperand casts d) (t ∷ ts) v
Means (Wanted.Behind d place spelling) ts v =
    (t : Placed) → IsIdentifier d t → place ≡ at t → spelling ≡ text t → Reads (AsPostfix d) (t ∷ ts) v
Means (Wanted.Postfix d a) ts v = GoesOn (AsPostfix d) (AsPostfix d) a ts v
Means (Wanted.Assigned d a) ts v = ((ts ≡ []) × (v ≡ operand a)) ⊎ GoesOn (AsOperand false d) (AsAssignment d) a ts v
Means (Wanted.Chain level d a) ts v = GoesOn (AsBinary (suc level) d) (AsBinary (suc level) d) a ts v
Means (Wanted.Chosen d a) ts v = GoesOn (AsBinary loosest d) (AsConditional d) a ts v
Means (Wanted.Arguments d) ts v = AreArguments d ts v
Means (Wanted.Further d es) ts v = IsListed d es ts v
Means (Wanted.Target d) ts v = IsTarget d ts v

-- on at most so many tokens, whatever is wanted is read as the grammar says
pub record Fits (n : ℕ) : Type 0 where
  pub wanted : (w : Wanted) → Sound n (Means w) (Then w Return)

pub sound_then : {n : ℕ} {Q : List Placed → Value → Type 0} {k : Value → Plan} → Fits n → (w : Wanted)
    → ((ts : List Placed) (v : Value) → Means w ts v → Behind n Q ts (k v)) → Sound n Q (Then w k)
sound_then {k} fits w f = sound_after {p = Then w Return} {k = k} (fits.wanted w) f

word_case : {n : ℕ} (Q : List Placed → Value → Type 0) {p : Plan} {kind : TokenKind} {spelling : List ℕ} {d : ℕ}
    → ((t : Placed) → Spells kind d spelling t → Behind n Q (t ∷ []) p)
    → {ts : List Placed} {v : Value} → IsWord kind spelling d ts v → Behind n Q ts p
word_case Q f (IsWord.word s) = f _ s

pub sound_word : {n : ℕ} {Q : List Placed → Value → Type 0} {p : Plan} {kind : TokenKind} {spelling : List ℕ} {d : ℕ} → Fits n
    → ((t : Placed) → Spells kind d spelling t → Behind n Q (t ∷ []) p) → Sound n Q (Then (Wanted.Word kind spelling d) (λ v. p))
sound_word {Q} {kind} {spelling} {d} fits f = sound_then fits (Wanted.Word kind spelling d) (λ ts v m. word_case Q f m)

naming_case : {n : ℕ} (Q : List Placed → Value → Type 0) (k : Value → Plan) {d : ℕ}
    → ((t : Placed) → IsIdentifier d t → Behind n Q (t ∷ []) (k (named (name t))))
    → {ts : List Placed} {v : Value} → IsNamed d ts v → Behind n Q ts (k v)
naming_case Q k f (IsNamed.identifier i) = f _ i

pub sound_naming : {n : ℕ} {Q : List Placed → Value → Type 0} {k : Value → Plan} {d : ℕ} → Fits n
    → ((t : Placed) → IsIdentifier d t → Behind n Q (t ∷ []) (k (named (name t)))) → Sound n Q (Then (Wanted.Naming d) k)
sound_naming {Q} {k} {d} fits f = sound_then fits (Wanted.Naming d) (λ ts v m. naming_case Q k f m)

one_case : {n : ℕ} (Q : List Placed → Value → Type 0) {p : Plan} {d : ℕ}
    → ((t : Placed) (value : Int) → IsNumber d value t → value_of value ≡ pos 1 → Behind n Q (t ∷ []) p)
    → {ts : List Placed} {v : Value} → IsOne d ts v → Behind n Q ts p
one_case Q f (IsOne.one value i e) = f _ value i e

pub sound_one : {n : ℕ} {Q : List Placed → Value → Type 0} {p : Plan} {d : ℕ} → Fits n
    → ((t : Placed) (value : Int) → IsNumber d value t → value_of value ≡ pos 1 → Behind n Q (t ∷ []) p)
    → Sound n Q (Then (Wanted.One d) (λ v. p))
sound_one {Q} {d} fits f = sound_then fits (Wanted.One d) (λ ts v m. one_case Q f m)

pub typed_case : {n : ℕ} (Q : List Placed → Value → Type 0) (k : Value → Plan) {d : ℕ}
    → ((ts : List Placed) (t : CType) → TypeName d ts t → Behind n Q ts (k (typed t)))
    → {ts : List Placed} {v : Value} → IsTyped d ts v → Behind n Q ts (k v)
typed_case Q k f (IsTyped.type_name t) = f _ _ t

strings_case : {n : ℕ} (Q : List Placed → Value → Type 0) (k : Value → Plan) {d : ℕ}
    → ((t : Placed) (ts : List Placed) (bytes : List ℕ) → Strings d (t ∷ ts) bytes → Behind n Q (t ∷ ts) (k (quoted (at t) bytes)))
    → {ts : List Placed} {v : Value} → IsQuotation d ts v → Behind n Q ts (k v)
strings_case Q k f (IsQuotation.strings s) = f _ _ _ s

pub sound_strings : {n : ℕ} {Q : List Placed → Value → Type 0} {k : Value → Plan} {d : ℕ} → Fits n
    → ((t : Placed) (ts : List Placed) (bytes : List ℕ) → Strings d (t ∷ ts) bytes → Behind n Q (t ∷ ts) (k (quoted (at t) bytes)))
    → Sound n Q (Then (Wanted.Strings d) k)
sound_strings {Q} {k} {d} fits f = sound_then fits (Wanted.Strings d) (λ ts v m. strings_case Q k f m)

further_case : {n : ℕ} (Q : List Placed → Value → Type 0) (k : Value → Plan) {d : ℕ} {es : List Expr}
    → ((ts : List Placed) (more : List Expr) → Further d ts more → Behind n Q ts (k (listed (es ++ more))))
    → {ts : List Placed} {v : Value} → IsListed d es ts v → Behind n Q ts (k v)
further_case Q k f (IsListed.further m) = f _ _ m

pub sound_further : {n : ℕ} {Q : List Placed → Value → Type 0} {k : Value → Plan} {d : ℕ} {es : List Expr} → Fits n
    → ((ts : List Placed) (more : List Expr) → Further d ts more → Behind n Q ts (k (listed (es ++ more))))
    → Sound n Q (Then (Wanted.Further d es) k)
sound_further {Q} {k} {d} {es} fits f = sound_then fits (Wanted.Further d es) (λ ts v m. further_case Q k f m)

arguments_case : {n : ℕ} (Q : List Placed → Value → Type 0) (k : Value → Plan) {d : ℕ}
    → ((ts : List Placed) (es : List Expr) → Arguments d ts es → Behind n Q ts (k (listed es)))
    → {ts : List Placed} {v : Value} → AreArguments d ts v → Behind n Q ts (k v)
arguments_case Q k f (AreArguments.arguments a) = f _ _ a

pub sound_arguments : {n : ℕ} {Q : List Placed → Value → Type 0} {k : Value → Plan} {d : ℕ} → Fits n
    → ((ts : List Placed) (es : List Expr) → Arguments d ts es → Behind n Q ts (k (listed es)))
    → Sound n Q (Then (Wanted.Arguments d) k)
sound_arguments {Q} {k} {d} fits f = sound_then fits (Wanted.Arguments d) (λ ts v m. arguments_case Q k f m)

target_case : {n : ℕ} (Q : List Placed → Value → Type 0) (k : Value → Plan) {d : ℕ}
    → ((t : Placed) → IsLibraryWord d "NULL" t → Behind n Q (t ∷ []) (k nothing))
    → ((t : Placed) (ts : List Placed) (a : Operand) → IsPunctuator d "&" t → Unary d ts a.expr → Behind n Q (t ∷ ts) (k (operand a)))
    → {ts : List Placed} {v : Value} → IsTarget d ts v → Behind n Q ts (k v)
target_case Q k f g (IsTarget.null s) = f _ s
target_case Q k f g (IsTarget.into s u) = g _ _ _ s u

pub sound_target : {n : ℕ} {Q : List Placed → Value → Type 0} {k : Value → Plan} {d : ℕ} → Fits n
    → ((t : Placed) → IsLibraryWord d "NULL" t → Behind n Q (t ∷ []) (k nothing))
    → ((t : Placed) (ts : List Placed) (a : Operand) → IsPunctuator d "&" t → Unary d ts a.expr → Behind n Q (t ∷ ts) (k (operand a)))
    → Sound n Q (Then (Wanted.Target d) k)
sound_target {Q} {k} {d} fits f g = sound_then fits (Wanted.Target d) (λ ts v m. target_case Q k f g m)

pub reads_case : {n : ℕ} (Q : List Placed → Value → Type 0) (k : Value → Plan) {Phrase : List Placed → Operand → Type 0}
    → ((t : Placed) (ts : List Placed) (a : Operand) → Phrase (t ∷ ts) a → a.start ≡ at t → Behind n Q (t ∷ ts) (k (operand a)))
    → {ts : List Placed} {v : Value} → Reads Phrase ts v → Behind n Q ts (k v)
reads_case Q k f (Reads.reads p e) = f _ _ _ p e

pub sound_cast_then : {n : ℕ} {Q : List Placed → Value → Type 0} {k : Value → Plan} {d : ℕ} → Fits n
    → ((t : Placed) (ts : List Placed) (a : Operand) → AsOperand true d (t ∷ ts) a → a.start ≡ at t → Behind n Q (t ∷ ts) (k (operand a)))
    → Sound n Q (Then (Wanted.Cast d) k)
sound_cast_then {Q} {k} {d} fits f = sound_then fits (Wanted.Cast d) (λ ts v m. reads_case Q k f m)

pub sound_unary_then : {n : ℕ} {Q : List Placed → Value → Type 0} {k : Value → Plan} {d : ℕ} → Fits n
    → ((t : Placed) (ts : List Placed) (a : Operand) → Unary d (t ∷ ts) a.expr → a.start ≡ at t → Behind n Q (t ∷ ts) (k (operand a)))
    → Sound n Q (Then (Wanted.Unary d) k)
sound_unary_then {Q} {k} {d} fits f = sound_then fits (Wanted.Unary d) (λ ts v m. reads_case Q k f m)

-- what goes on with the tokens of an operand, after them
pub sound_on : {n : ℕ} (Q : List Placed → Value → Type 0) (k : Value → Plan) (a : Operand) {t : Placed} {left : List Placed}
    (Left Whole : List Placed → Operand → Type 0) (w : Wanted) → Sound n (GoesOn Left Whole a) (Then w Return)
    → Left (t ∷ left) a → a.start ≡ at t
    → ((u : Placed) (ts : List Placed) (b : Operand) → Whole (u ∷ ts) b → b.start ≡ at u → Behind n Q (u ∷ ts) (k (operand b)))
    → Behind n Q (t ∷ left) (Then w k)
sound_on Q k a {t} {left} Left Whole w s l e f =
    behind_after (Reads Whole) Q (Then w Return) k (t ∷ left)
    (sound_map {Q = λ more v. Reads Whole (t ∷ (left ++ more)) v} (λ ts v m. m t left l e) s)
    (λ ts v m. reads_case Q k {Phrase = Whole} f m)

pub fits_fewer : {n : ℕ} → Fits (suc n) → Fits n
fits_fewer fits = record { wanted = λ w. sound_fewer (fits.wanted w) }

-- what is read as one thing is read as another
pub reads_map : {P Q : List Placed → Operand → Type 0} → ((ts : List Placed) (a : Operand) → P ts a → Q ts a)
    → {ts : List Placed} {v : Value} → Reads P ts v → Reads Q ts v
reads_map f (Reads.reads p e) = Reads.reads (f _ _ p) e

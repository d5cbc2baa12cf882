-- What it means in the grammar that something wanted was found in a text.
use Rattle.std.specs.Prelude.{◌≡◌, ℕ, List, [], ◌∷◌, ◌++◌, Option, Some, None}
use Rattle.std.proofs.Common.{refl, subst}
use Rattle.c_lexer.specs.declared.token.Token.{Token}
use Rattle.c_lexer.specs.declared.token.TokenKind.{TokenKind}
use Rattle.c_tree.specs.declared.name.Name.{Name}
use Rattle.c_tree.specs.declared.name.CType.{CType}
use Rattle.c_tree.specs.declared.name.CType.TheVariants.{Integer, Handle, Thread}
use Rattle.c_tree.specs.declared.expr.Expr.{Expr}
use Rattle.c_expr_parser.specs.Placed.{Placed}
use Rattle.c_expr_parser.specs.Terminals.{Spells, IsIdentifier, name}
use Rattle.c_expr_parser.specs.TypeNames.{TypeName, Star}
use Rattle.c_expr_parser.specs.Expressions.{Assignment, Conditional}
use Rattle.c_expr_parser.specs.Plans.{Value, Wanted, Plan, after, takes, depth_of, run, as_expr, as_type, as_name, assignment, conditional, assignment_rest, conditional_rest}
use Rattle.c_expr_parser.specs.Plans.Value.{named, typed}
use Rattle.c_expr_parser.specs.Plans.Plan.{Return, Then}
use Rattle.c_expr_parser.specs.Plans.Wanted.{Word, Naming, Typing, Cast}
use Rattle.c_expr_parser.proofs.CompletePlans.{at_token}
use Rattle.c_expr_parser.proofs.TraceMeaning.{Explained, Sound}
use Rattle.c_expr_parser.proofs.WantedMeaning.{IsWord, IsNamed, IsTyped, Reads, AsAssignment, AsConditional}
use Rattle.c_expr_parser.proofs.SoundTables.{placed_at, Each, each_mapped}
use Rattle.c_expr_parser.proofs.SoundExpressions.{fits, sound_assignment, sound_conditional, sound_type}
use Rattle.c_parser.specs.TextPlans.{TextPlan, behind, begun, name_then, expr_then, conditional_then, type_then, star_then, expr_from, type_from}
use Rattle.c_parser.specs.TextPlans.TextPlan.{Want}
use Rattle.c_parser.specs.TextPlans.TextWanted.{Of}
use Rattle.c_parser.proofs.TraceMeaning.{Meaning, From, Explains, explains_behind}

-- a token that must come
word_case : {n : ℕ} (Q : Meaning) {p : TextPlan} {kind : TokenKind} {spelling : List ℕ} {d : ℕ}
    → ((t : Placed) → Spells kind d spelling t → Explains n (From (t ∷ []) Q) p)
    → {us : List Placed} {v : Value} → IsWord kind spelling d us v → Explains n (From us Q) p
word_case Q f (IsWord.word s) = f _ s

pub text_word : {n : ℕ} (Q : Meaning) {p : TextPlan} {kind : TokenKind} {spelling : List ℕ} {d : ℕ}
    → ((t : Placed) → Spells kind d spelling t → Explains n (From (t ∷ []) Q) p)
    → Explains n Q (Want (Of (Word kind spelling d)) (λ f. p))
text_word {n} Q {p} {kind} {spelling} {d} f =
    explains_behind {p = Then (Word kind spelling d) Return} {k = λ v. p} ((fits n).wanted (Word kind spelling d)) (λ us v m. word_case Q f m)

-- a name
name_case : {n : ℕ} (Q : Meaning) (k : Value → TextPlan) {d : ℕ}
    → ((t : Placed) → IsIdentifier d t → Explains n (From (t ∷ []) Q) (k (named (name t))))
    → {us : List Placed} {v : Value} → IsNamed d us v → Explains n (From us Q) (k v)
name_case Q k f (IsNamed.identifier i) = f _ i

pub text_name : {n : ℕ} (Q : Meaning) (k : Name → TextPlan) {d : ℕ}
    → ((t : Placed) → IsIdentifier d t → Explains n (From (t ∷ []) Q) (k (name t))) → Explains n Q (name_then d k)
text_name {n} Q k {d} f =
    explains_behind {p = Then (Naming d) Return} {k = λ v. k (as_name v)} ((fits n).wanted (Naming d))
    (λ us v m. name_case Q (λ v. k (as_name v)) f m)

-- a type
type_case : {n : ℕ} (Q : Meaning) (k : Value → TextPlan) (front : List Placed) {d : ℕ}
    → ((us : List Placed) (t : CType) → TypeName d (front ++ us) t → Explains n (From us Q) (k (typed t)))
    → (us : List Placed) {v : Value} → IsTyped d (front ++ us) v → Explains n (From us Q) (k v)
type_case {n} Q k front {d} f us {v} m = by_type (front ++ us) v m (f us)
  where
    by_type : (all : List Placed) (v : Value) → IsTyped d all v
        → ((t : CType) → TypeName d all t → Explains n (From us Q) (k (typed t))) → Explains n (From us Q) (k v)
    by_type all v (IsTyped.type_name t) g = g _ t

type_sound : (n d : ℕ) → Sound n (IsTyped d) (Then (Typing d) Return)
type_sound n d = record { trace = λ ts h. sound_type d ts }

pub text_type : {n : ℕ} (Q : Meaning) (k : CType → TextPlan) {d : ℕ}
    → ((us : List Placed) (t : CType) → TypeName d us t → Explains n (From us Q) (k t)) → Explains n Q (type_then d k)
text_type {n} Q k {d} f =
    explains_behind {p = Then (Typing d) Return} {k = λ v. k (as_type v)} (type_sound n d) (λ us v m. type_case Q (λ v. k (as_type v)) [] f us m)

-- an expression
expr_case : {n : ℕ} (Q : Meaning) (k : Expr → TextPlan) (Phrase : List Placed → Expr → Type 0) (front us : List Placed)
    → ((e : Expr) → Phrase (front ++ us) e → Explains n (From us Q) (k e))
    → {v : Value} → Reads (λ ts a. Phrase ts a.expr) (front ++ us) v → Explains n (From us Q) (k (as_expr v))
expr_case {n} Q k Phrase front us f {v} m = by_value (front ++ us) v m f
  where
    by_value : (all : List Placed) (v : Value) → Reads (λ ts a. Phrase ts a.expr) all v
        → ((e : Expr) → Phrase all e → Explains n (From us Q) (k e)) → Explains n (From us Q) (k (as_expr v))
    by_value all v (Reads.reads {a} p e) g = g a.expr p

pub text_expr : {n : ℕ} (Q : Meaning) (k : Expr → TextPlan) {d : ℕ}
    → ((us : List Placed) (e : Expr) → Assignment d us e → Explains n (From us Q) (k e)) → Explains n Q (expr_then d k)
text_expr {n} Q k {d} f =
    explains_behind {p = assignment d} {k = λ v. k (as_expr v)} (record { trace = λ ts h. sound_assignment d ts })
    (λ us v m. expr_case Q k (Assignment d) [] us (f us) m)

pub text_conditional : {n : ℕ} (Q : Meaning) (k : Expr → TextPlan) {d : ℕ}
    → ((us : List Placed) (e : Expr) → Conditional d us e → Explains n (From us Q) (k e)) → Explains n Q (conditional_then d k)
text_conditional {n} Q k {d} f =
    explains_behind {p = conditional d} {k = λ v. k (as_expr v)} (record { trace = λ ts h. sound_conditional d ts })
    (λ us v m. expr_case Q k (Conditional d) [] us (f us) m)

-- a star where the type has one
pub text_star : {n : ℕ} (Q : Meaning) (p : TextPlan) {d : ℕ} (t : CType)
    → ((stars : List Placed) → Star d t stars → Explains n (From stars Q) p) → Explains n Q (star_then d t p)
text_star Q p (Integer kind) f = f [] Star.integer
text_star Q p (Handle tag) f = text_word Q (λ t s. f (t ∷ []) (Star.handle s))
text_star Q p Thread f = f [] Star.thread

-- what is begun with a token that is looked at
begun_sound : (n : ℕ) (w : Wanted) (q : Value → Plan) (P : List Placed → Value → Type 0) (t : Token)
    → ((ts : List Token) → Explained P (run ts (Then w q)))
    → Each (λ p. Sound n (λ more v. P (placed_at (depth_of w) t ∷ more) v) (after p q)) (takes w t)
begun_sound n w q P t s = by_plan (takes w t) refl
  where
    by_plan : (o : Option Plan) → takes w t ≡ o → Each (λ p. Sound n (λ more v. P (placed_at (depth_of w) t ∷ more) v) (after p q)) o
    by_plan None e = tt
    by_plan (Some p) e = record { trace = λ ts h. subst (Explained P) (at_token w t ts q p e) (s (t ∷ ts)) }

pub expr_begun : {n : ℕ} (Q : Meaning) (k : Expr → TextPlan) (d : ℕ) (t : Token)
    → ((us : List Placed) (e : Expr) → Assignment d (placed_at d t ∷ us) e → Explains n (From us Q) (k e))
    → Each (λ p. Explains n Q p) (expr_from d t k)
expr_begun {n} Q k d t f =
    each_mapped (λ p. Sound n (λ more v. Reads (AsAssignment d) (placed_at d t ∷ more) v) (after p (assignment_rest d))) (λ p. Explains n Q p)
    (λ p. behind (after p (assignment_rest d)) (λ v. k (as_expr v))) (takes (Cast d) t)
    (begun_sound n (Cast d) (assignment_rest d) (Reads (AsAssignment d)) t (sound_assignment d))
    (λ p s. explains_behind s (λ us v m. expr_case Q k (Assignment d) (placed_at d t ∷ []) us (f us) m))

pub conditional_begun : {n : ℕ} (Q : Meaning) (k : Expr → TextPlan) (d : ℕ) (t : Token)
    → ((us : List Placed) (e : Expr) → Conditional d (placed_at d t ∷ us) e → Explains n (From us Q) (k e))
    → Each (λ p. Explains n Q p) (begun (takes (Cast d) t) (conditional_rest d) (λ v. k (as_expr v)))
conditional_begun {n} Q k d t f =
    each_mapped (λ p. Sound n (λ more v. Reads (AsConditional d) (placed_at d t ∷ more) v) (after p (conditional_rest d))) (λ p. Explains n Q p)
    (λ p. behind (after p (conditional_rest d)) (λ v. k (as_expr v))) (takes (Cast d) t)
    (begun_sound n (Cast d) (conditional_rest d) (Reads (AsConditional d)) t (sound_conditional d))
    (λ p s. explains_behind s (λ us v m. expr_case Q k (Conditional d) (placed_at d t ∷ []) us (f us) m))

pub type_begun : {n : ℕ} (Q : Meaning) (k : CType → TextPlan) (d : ℕ) (t : Token)
    → ((us : List Placed) (ty : CType) → TypeName d (placed_at d t ∷ us) ty → Explains n (From us Q) (k ty))
    → Each (λ p. Explains n Q p) (type_from d t k)
type_begun {n} Q k d t f =
    each_mapped (λ p. Sound n (λ more v. IsTyped d (placed_at d t ∷ more) v) (after p Return)) (λ p. Explains n Q p)
    (λ p. behind (after p Return) (λ v. k (as_type v))) (takes (Typing d) t)
    (begun_sound n (Typing d) Return (IsTyped d) t (sound_type d))
    (λ p s. explains_behind s (λ us v m. type_case Q (λ v. k (as_type v)) (placed_at d t ∷ []) f us m))

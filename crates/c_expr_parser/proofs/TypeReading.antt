-- Types as the parser reads them, by the first token.
use Rattle.std.proofs.Common.{◌≡◌, ℕ, ◌≤◌, Bool, true, false, List, [], ◌∷◌, ◌++◌, length, Some, None, refl, sym, ap, subst, ◌∙◌, arith, inl, inr}
use Rattle.std.specs.Prelude.{option_map, codes}
use Rattle.std.specs.Str.{bytes_eq}
use Rattle.std.proofs.lemmas.Bool.{false≢true, or_cases}
use Rattle.std.proofs.lemmas.Slice.Eq.{bytes_eq-Decides}
use Rattle.c_ints.specs.declared.kind.Kind.{Kind}
use Rattle.c_lexer.proofs.LongestOfThree.{both_true}
use Rattle.c_lexer.specs.Words.{is_one_of}
use Rattle.c_lexer.specs.declared.token.Token.{Token}
use Rattle.c_lexer.specs.declared.token.TokenKind.TheVariants.{Keyword, LibraryWord}
use Rattle.c_tree.specs.declared.name.CType.TheVariants.{Integer, Handle, Thread}
use Rattle.c_expr_parser.specs.declared.stop.Stop.{Stop}
use Rattle.c_expr_parser.specs.declared.stop.Stop.TheVariants.{Stuck, Deep, Memory}
use Rattle.c_expr_parser.specs.Readings.{most_depth}
use Rattle.c_expr_parser.specs.Tables.{is, is_kind, is_integer_word, kind_of, longer_kind, when_some}
use Rattle.c_expr_parser.specs.TypeNames.{integer_words}
use Rattle.c_expr_parser.specs.Plans.{Value, nothing, typed, Wanted, Word, Typing, Words, Plan, Return, Then, takes, keyword, library_word, punctuator, name_then, Parsed, read, parsed, reads, Stops}
use Rattle.c_expr_parser.proofs.PlanResults.{next, parsed_then, parsed_takes, parsed_left, parsed_dead, parsed_end_left, parsed_return, fits}

-- ---- one thing after another

-- what goes on where the first was read, and what stops where it stops
pub goes : (w : Wanted) (k : Value → Plan) (ts : List Token) (v : Value) (rest : List Token) → reads w ts ≡ read v rest
    → parsed (Then w k) ts ≡ parsed (k v) rest
goes w k ts v rest e = parsed_then w k ts ∙ ap (λ m. next m (λ v rest. parsed (k v) rest)) e

stops_next : (stop : Stop) (m : Parsed) (k : Value → List Token → Parsed) → Stops stop m → Stops stop (next m k)
stops_next (Stuck left) m k h = ap (λ m. next m k) h
stops_next (Deep left) m k h = ap (λ m. next m k) h
stops_next Memory m k h = tt

pub stops : (stop : Stop) (w : Wanted) (k : Value → Plan) (ts : List Token) → Stops stop (reads w ts) → Stops stop (parsed (Then w k) ts)
stops stop w k ts h =
    subst (Stops stop) (sym (parsed_then w k ts)) (stops_next stop (reads w ts) (λ v rest. parsed (k v) rest) h)

-- ---- further words of an integer type

pub longer_means : (words : List (List ℕ)) (t : Token) (kind : Kind) → longer_kind words t ≡ Some kind → kind_of (words ++ t.text ∷ []) ≡ Some kind
longer_means words t kind h = elim (is_integer_word t) as (λ v. when_some v (kind_of (words ++ t.text ∷ [])) ≡ Some kind → kind_of (words ++ t.text ∷ []) ≡ Some kind) [
  | true ↦ λ k. k
  | false ↦ λ k. cc
] h

pub more_words : (d : ℕ) (words : List (List ℕ)) (tokens : List Token) (t : Token) (ts : List Token) (kind : Kind) → tokens ≡ t ∷ ts
    → longer_kind words t ≡ Some kind → d ≤ most_depth → reads (Words d words) tokens ≡ reads (Words d (words ++ t.text ∷ [])) ts
more_words d words tokens t ts kind are e shallow =
    rw are (
    parsed_takes (Words d words) Return t ts (Then (Words d (words ++ t.text ∷ [])) Return)
    (ap (option_map (λ k. Then (Words d (words ++ t.text ∷ [])) Return)) e)
    ∙ fits _ _ _ shallow
    )

pub no_more_words : (d : ℕ) (words : List (List ℕ)) (tokens : List Token) (t : Token) (ts : List Token) (kind : Kind) → tokens ≡ t ∷ ts
    → longer_kind words t ≡ None → kind_of words ≡ Some kind → reads (Words d words) tokens ≡ read (typed (Integer kind)) tokens
no_more_words d words tokens t ts kind are e means =
    rw are (
    parsed_left (Words d words) Return t ts (typed (Integer kind)) (ap (option_map (λ k. Then (Words d (words ++ t.text ∷ [])) Return)) e)
    (ap (option_map (λ k. typed (Integer k))) means)
    ∙ parsed_return (typed (Integer kind)) (t ∷ ts)
    )

pub words_end : (d : ℕ) (words : List (List ℕ)) (tokens : List Token) (kind : Kind) → length tokens ≡ 0 → kind_of words ≡ Some kind
    → reads (Words d words) tokens ≡ read (typed (Integer kind)) tokens
words_end d words [] kind none means =
    parsed_end_left (Words d words) Return (typed (Integer kind)) (ap (option_map (λ k. typed (Integer k))) means)
    ∙ parsed_return (typed (Integer kind)) []
words_end d words (t ∷ ts) kind none means = absurd (omega (arith, none))

-- ---- the first token

-- each word alone means a type
abbrev EachMeans : List (List ℕ) → Type 0
EachMeans [] = Unit {0}
EachMeans (word ∷ words) = (kind_of (word ∷ []) ≡ None → ⊥) × EachMeans words

in_list : (text : List ℕ) (words : List (List ℕ)) → EachMeans words → is_one_of words text ≡ true → kind_of (text ∷ []) ≡ None → ⊥
in_list text [] all h none = false≢true h
in_list text (word ∷ words) all h none = elim (or_cases (bytes_eq text word) _ h) [
  | inl same ↦ all.0 (subst (λ t. kind_of (t ∷ []) ≡ None) ((bytes_eq-Decides text word).0 same) none)
  | inr later ↦ in_list text words all.1 later none
]

word_means : (text : List ℕ) → is_one_of integer_words text ≡ true → kind_of (text ∷ []) ≡ None → ⊥
word_means text h none =
    in_list text integer_words ((λ e. cc), ((λ e. cc), ((λ e. cc), ((λ e. cc), ((λ e. cc), ((λ e. cc), tt)))))) h none

pub begins_word : (t : Token) (kind : Kind) → longer_kind [] t ≡ Some kind → is_integer_word t ≡ true
begins_word t kind h = elim (is_integer_word t) as (λ v. when_some v (kind_of (t.text ∷ [])) ≡ Some kind → v ≡ true) [
  | true ↦ λ k. refl
  | false ↦ λ k. cc
] h

pub begins_no_word : (t : Token) → longer_kind [] t ≡ None → is_integer_word t ≡ false
begins_no_word t h = elim (is_integer_word t) as (λ v. is_integer_word t ≡ v → when_some v (kind_of (t.text ∷ [])) ≡ None → v ≡ false) [
  | true ↦ λ e k. absurd (word_means t.text (both_true (is_kind Keyword t) (is_one_of integer_words t.text) e).1 k)
  | false ↦ λ e k. refl
] refl h

-- what follows a word of an integer type
pub takes_word : (d : ℕ) (t : Token) → is_integer_word t ≡ true → takes (Typing d) t ≡ Some (Then (Words d (t.text ∷ [])) Return)
takes_word d t h = rw h refl

pub integer_type : (d : ℕ) (tokens : List Token) (t : Token) (ts : List Token) → tokens ≡ t ∷ ts → is_integer_word t ≡ true
    → d ≤ most_depth → reads (Typing d) tokens ≡ reads (Words d (t.text ∷ [])) ts
integer_type d tokens t ts are e shallow =
    rw are (parsed_takes (Typing d) Return t ts (Then (Words d (t.text ∷ [])) Return) (takes_word d t e) ∙ fits _ _ _ shallow)

-- a handle's type after `struct`
abbrev pub tagged : ℕ → Plan
tagged d = name_then d (λ tag. punctuator (codes "*") d (Return (typed (Handle tag))))

takes_struct : (d : ℕ) (t : Token) → is_integer_word t ≡ false → is Keyword (codes "struct") t ≡ true → takes (Typing d) t ≡ Some (tagged d)
takes_struct d t e f = rw (e, f) refl

pub handle_type : (d : ℕ) (tokens : List Token) (t : Token) (ts : List Token) → tokens ≡ t ∷ ts → is_integer_word t ≡ false
    → is Keyword (codes "struct") t ≡ true → reads (Typing d) tokens ≡ parsed (keyword (codes "struct") d (tagged d)) tokens
handle_type d tokens t ts are e f =
    rw are (
    parsed_takes (Typing d) Return t ts (tagged d) (takes_struct d t e f)
    ∙ sym (parsed_takes (Word Keyword (codes "struct") d) (λ v. tagged d) t ts (Return nothing) (ap (λ b. when_some b (Some (Return nothing))) f))
    )

takes_thread : (d : ℕ) (t : Token) → is_integer_word t ≡ false → is Keyword (codes "struct") t ≡ false
    → takes (Typing d) t ≡ when_some (is LibraryWord (codes "thrd_t") t) (Some (Return (typed Thread)))
takes_thread d t e f = rw (e, f) refl

pub thread_type : (d : ℕ) (tokens : List Token) (t : Token) (ts : List Token) → tokens ≡ t ∷ ts → is_integer_word t ≡ false
    → is Keyword (codes "struct") t ≡ false → reads (Typing d) tokens ≡ parsed (library_word (codes "thrd_t") d (Return (typed Thread))) tokens
thread_type d tokens t ts are e f = rw are (by_test (is LibraryWord (codes "thrd_t") t) refl)
  where
    by_test : (b : Bool) → is LibraryWord (codes "thrd_t") t ≡ b
        → parsed (Then (Typing d) Return) (t ∷ ts) ≡ parsed (Then (Word LibraryWord (codes "thrd_t") d) (λ v. Return (typed Thread))) (t ∷ ts)
    by_test true h =
        parsed_takes (Typing d) Return t ts (Return (typed Thread)) (takes_thread d t e f ∙ ap (λ b. when_some b (Some (Return (typed Thread)))) h)
        ∙ sym (parsed_takes (Word LibraryWord (codes "thrd_t") d) (λ v. Return (typed Thread)) t ts (Return nothing) (ap (λ b. when_some b (Some (Return nothing))) h))
    by_test false h =
        parsed_dead (Typing d) Return t ts (takes_thread d t e f ∙ ap (λ b. when_some b (Some (Return (typed Thread)))) h) refl
        ∙ sym (parsed_dead (Word LibraryWord (codes "thrd_t") d) (λ v. Return (typed Thread)) t ts (ap (λ b. when_some b (Some (Return nothing))) h) refl)

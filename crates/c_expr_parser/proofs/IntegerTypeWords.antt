-- The words of an integer type as the parser keeps them: how often each was seen says which type they mean.
use Rattle.std.proofs.Common.{◌≡◌, ℕ, ◌+◌, Bool, true, false, List, [], ◌∷◌, ◌++◌, Option, Some, None, refl, sym, ap, subst, ◌∙◌, arith, inl, inr}
use Rattle.std.specs.Prelude.{cond, nat_le, codes}
use Rattle.std.specs.List.{fold, count_by, list_any, list_all, find}
use Rattle.std.specs.Str.{bytes_eq}
use Rattle.std.proofs.lemmas.Bool.{false≢true, or_cases}
use Rattle.std.proofs.lemmas.Slice.Eq.{bytes_eq-Decides}
use Rattle.c_ints.specs.declared.kind.Kind.{Kind}
use Rattle.c_ints.specs.declared.kind.Kind.TheVariants.{I8, U8, I16, U16, I32, U32, I64, U64}
use Rattle.c_lexer.proofs.LongestOfThree.{both_true}
use Rattle.c_expr_parser.specs.declared.type_name.Word.{Word}
use Rattle.c_expr_parser.specs.declared.type_name.Word.TheVariants.{Char, Short, Int, Long, Signed, Unsigned}
use Rattle.c_expr_parser.specs.declared.type_name.Words.{Words}
use Rattle.c_expr_parser.specs.WordCounts.{spelled, times, seen, has}
use Rattle.c_expr_parser.specs.Tables.{kind_of}
use Rattle.c_expr_parser.specs.TypeNames.{counts, spellings, is_spelling}

-- ---- counts of words with one more

fold_more : {A B : Type 0} (f : B → A → B) (b : B) (xs : List A) (y : A) → fold f b (xs ++ y ∷ []) ≡ f (fold f b xs) y
fold_more f b [] y = refl
fold_more f b (x ∷ xs) y = fold_more f (f b x) xs y

one_more : (word text : List ℕ) (words : List (List ℕ)) → bytes_eq word text ≡ true
    → count_by (bytes_eq word) (words ++ text ∷ []) ≡ count_by (bytes_eq word) words + 1
one_more word text words e = fold_more (λ (n : ℕ) (t : List ℕ). n + cond (bytes_eq word t) 1 0) 0 words text ∙ rw e refl

another : (word text : List ℕ) (words : List (List ℕ)) → bytes_eq word text ≡ false
    → count_by (bytes_eq word) (words ++ text ∷ []) ≡ count_by (bytes_eq word) words
another word text words e = fold_more (λ (n : ℕ) (t : List ℕ). n + cond (bytes_eq word t) 1 0) 0 words text ∙ rw e (omega arith)

-- how often a word was seen, with one more
abbrev with_one : Word → List ℕ → List ℕ
with_one Char (a ∷ rest) = (a + 1) ∷ rest
with_one Short (a ∷ b ∷ rest) = a ∷ (b + 1) ∷ rest
with_one Int (a ∷ b ∷ c ∷ rest) = a ∷ b ∷ (c + 1) ∷ rest
with_one Long (a ∷ b ∷ c ∷ d ∷ rest) = a ∷ b ∷ c ∷ (d + 1) ∷ rest
with_one Signed (a ∷ b ∷ c ∷ d ∷ e ∷ rest) = a ∷ b ∷ c ∷ d ∷ (e + 1) ∷ rest
with_one Unsigned (a ∷ b ∷ c ∷ d ∷ e ∷ f ∷ rest) = a ∷ b ∷ c ∷ d ∷ e ∷ (f + 1) ∷ rest
with_one _ c = c

six : {a b c d e f g h i j k l : ℕ} → a ≡ g → b ≡ h → c ≡ i → d ≡ j → e ≡ k → f ≡ l
    → ◌≡◌ {A = List ℕ} (a ∷ b ∷ c ∷ d ∷ e ∷ f ∷ []) (g ∷ h ∷ i ∷ j ∷ k ∷ l ∷ [])
six p q r s t u = cc

abbrev char : List ℕ
char = codes "char"

abbrev short : List ℕ
short = codes "short"

abbrev int : List ℕ
int = codes "int"

abbrev long : List ℕ
long = codes "long"

abbrev signed : List ℕ
signed = codes "signed"

abbrev unsigned : List ℕ
unsigned = codes "unsigned"

counts_more : (word : Word) (words : List (List ℕ)) → counts (words ++ spelled word ∷ []) ≡ with_one word (counts words)
counts_more Char ws =
    six (one_more char char ws refl) (another short char ws refl) (another int char ws refl)
    (another long char ws refl) (another signed char ws refl) (another unsigned char ws refl)
counts_more Short ws =
    six (another char short ws refl) (one_more short short ws refl) (another int short ws refl)
    (another long short ws refl) (another signed short ws refl) (another unsigned short ws refl)
counts_more Int ws =
    six (another char int ws refl) (another short int ws refl) (one_more int int ws refl)
    (another long int ws refl) (another signed int ws refl) (another unsigned int ws refl)
counts_more Long ws =
    six (another char long ws refl) (another short long ws refl) (another int long ws refl)
    (one_more long long ws refl) (another signed long ws refl) (another unsigned long ws refl)
counts_more Signed ws =
    six (another char signed ws refl) (another short signed ws refl) (another int signed ws refl)
    (another long signed ws refl) (one_more signed signed ws refl) (another unsigned signed ws refl)
counts_more Unsigned ws =
    six (another char unsigned ws refl) (another short unsigned ws refl) (another int unsigned ws refl)
    (another long unsigned ws refl) (another signed unsigned ws refl) (one_more unsigned unsigned ws refl)

seen_more : (word : Word) (w : Words) (words : List (List ℕ)) → seen w ≡ counts words
    → counts (words ++ spelled word ∷ []) ≡ with_one word (seen w)
seen_more word w words e = counts_more word words ∙ ap (with_one word) (sym e)

-- ---- a word that stands twice means no type

abbrev once : List ℕ → Bool
once c = list_all (λ n. nat_le n 1) c

abbrev Each : (List ℕ → Type 0) → List (List (List ℕ)) → Type 0
Each P [] = Unit {0}
Each P (words ∷ others) = P (counts words) × Each P others

in_each : (P : List ℕ → Type 0) (c : List ℕ) (rows : List (List (List ℕ))) → Each P rows
    → list_any (λ spelling. bytes_eq c (counts spelling)) rows ≡ true → P c
in_each P c [] e h = absurd (false≢true h)
in_each P c (row ∷ rows) e h = elim (or_cases (bytes_eq c (counts row)) _ h) [
  | inl same ↦ subst P (sym ((bytes_eq-Decides c (counts row)).0 same)) e.0
  | inr later ↦ in_each P c rows e.1 later
]

each_once : (kind : Kind) → Each (λ c. once c ≡ true) (spellings kind)
each_once I8 = (refl, (refl, tt))
each_once U8 = (refl, tt)
each_once I16 = (refl, (refl, (refl, (refl, tt))))
each_once U16 = (refl, (refl, tt))
each_once I32 = (refl, (refl, (refl, tt)))
each_once U32 = (refl, (refl, tt))
each_once I64 = (refl, (refl, (refl, (refl, tt))))
each_once U64 = (refl, (refl, tt))

passes : {A : Type 0} (p : A → Bool) (xs : List A) (x : A) → find p xs ≡ Some x → p x ≡ true
passes p [] x h = cc
passes p (y ∷ xs) x h = elim (p y) as (λ v. p y ≡ v → cond v (Some y) (find p xs) ≡ Some x → p x ≡ true) [
  | true ↦ λ e k. let same : y ≡ x = cc in subst (λ z. p z ≡ true) same e
  | false ↦ λ e k. passes p xs x k
] refl h

means_once : (words : List (List ℕ)) (kind : Kind) → kind_of words ≡ Some kind → once (counts words) ≡ true
means_once words kind h =
    in_each (λ c. once c ≡ true) (counts words) (spellings kind) (each_once kind)
    (passes (λ k. is_spelling k words) (I8 ∷ U8 ∷ I16 ∷ U16 ∷ I32 ∷ U32 ∷ I64 ∷ U64 ∷ []) kind h)

at_most_one : (a b c d e f : ℕ) → once (a ∷ b ∷ c ∷ d ∷ e ∷ f ∷ []) ≡ true
    → (nat_le a 1 ≡ true) × (nat_le b 1 ≡ true) × (nat_le c 1 ≡ true) × (nat_le d 1 ≡ true) × (nat_le e 1 ≡ true) × (nat_le f 1 ≡ true)
at_most_one a b c d e f h =
    let i = both_true (nat_le a 1) (once (b ∷ c ∷ d ∷ e ∷ f ∷ [])) h in
    let j = both_true (nat_le b 1) (once (c ∷ d ∷ e ∷ f ∷ [])) i.1 in
    let k = both_true (nat_le c 1) (once (d ∷ e ∷ f ∷ [])) j.1 in
    let l = both_true (nat_le d 1) (once (e ∷ f ∷ [])) k.1 in
    let m = both_true (nat_le e 1) (once (f ∷ [])) l.1 in
    (i.0, j.0, k.0, l.0, m.0, (both_true (nat_le f 1) (once []) m.1).0)

one_more_is_two : (b : Bool) → b ≡ true → nat_le (times b + 1) 1 ≡ true → ⊥
one_more_is_two true h k = false≢true k
one_more_is_two false h k = false≢true h

not_once : (word : Word) (w : Words) → has word w ≡ true → once (with_one word (seen w)) ≡ true → ⊥
not_once Char w h k = one_more_is_two w.char h (at_most_one (times w.char + 1) (times w.short) (times w.int) (times w.long) (times w.signed) (times w.unsigned) k).0
not_once Short w h k = one_more_is_two w.short h (at_most_one (times w.char) (times w.short + 1) (times w.int) (times w.long) (times w.signed) (times w.unsigned) k).1
not_once Int w h k = one_more_is_two w.int h (at_most_one (times w.char) (times w.short) (times w.int + 1) (times w.long) (times w.signed) (times w.unsigned) k).2
not_once Long w h k = one_more_is_two w.long h (at_most_one (times w.char) (times w.short) (times w.int) (times w.long + 1) (times w.signed) (times w.unsigned) k).3
not_once Signed w h k = one_more_is_two w.signed h (at_most_one (times w.char) (times w.short) (times w.int) (times w.long) (times w.signed + 1) (times w.unsigned) k).4
not_once Unsigned w h k = one_more_is_two w.unsigned h (at_most_one (times w.char) (times w.short) (times w.int) (times w.long) (times w.signed) (times w.unsigned + 1) k).5

pub twice : (word : Word) (w : Words) (words : List (List ℕ)) → has word w ≡ true → seen w ≡ counts words
    → kind_of (words ++ spelled word ∷ []) ≡ None
twice word w words h e = by_kind (kind_of (words ++ spelled word ∷ [])) refl
  where
    by_kind : (k : Option Kind) → kind_of (words ++ spelled word ∷ []) ≡ k → k ≡ None
    by_kind None f = refl
    by_kind (Some kind) f =
        absurd (not_once word w h (subst (λ c. once c ≡ true) (seen_more word w words e) (means_once (words ++ spelled word ∷ []) kind f)))

-- The words of an integer type can be read one by one: some of them from the start on already mean a type.
use Rattle.std.specs.Prelude.{◌≡◌, ◌≤◌, ◌+◌, ◌==◌, ◌&&◌, ◌||◌, ℕ, zero, suc, Bool, true, cond, IsTrue, List, [], ◌∷◌, ◌++◌, is_some, codes}
use Rattle.std.specs.List.{list_any, find, count_by}
use Rattle.std.specs.Str.{bytes_eq}
use Rattle.std.proofs.Common.{refl, ap, sym, subst, ◌∙◌, inl, inr, ◌⊎◌, arith}
use Rattle.std.proofs.lemmas.Slice.Eq.{bytes_eq-Decides}
use Rattle.std.proofs.lemmas.Bool.{false≢true, or_cases, eqb-true, and_parts}
use Rattle.std.proofs.lemmas.List.Sums.{sum_by-append, sum_by-cons}
use Rattle.c_ints.specs.declared.kind.Kind.{Kind}
use Rattle.c_ints.specs.declared.kind.Kind.TheVariants.{I8, U8, I16, U16, I32, U32, I64, U64}
use Rattle.c_lexer.specs.Words.{is_one_of}
use Rattle.c_expr_parser.specs.TypeNames.{spellings, counts, is_spelling, integer_words}
use Rattle.c_expr_parser.specs.Tables.{kind_of}

-- each number is at most the other list's
abbrev Below : List ℕ → List ℕ → Type 0
Below [] [] = Unit {0}
Below [] (n ∷ ns) = ⊥
Below (m ∷ ms) [] = ⊥
Below (m ∷ ms) (n ∷ ns) = (m ≤ n) × Below ms ns

-- a test of all numbers up to one
abbrev up_to : ℕ → (ℕ → Bool) → Bool
up_to zero test = test zero
up_to (suc n) test = test (suc n) && up_to n test

-- a test of all lists whose numbers are at most those of one
abbrev all_below : List ℕ → (List ℕ → Bool) → Bool
all_below [] test = test []
all_below (n ∷ ns) test = up_to n (λ m. all_below ns (λ ms. test (m ∷ ms)))

up_to_means : (n : ℕ) (test : ℕ → Bool) → up_to n test ≡ true → (m : ℕ) → m ≤ n → test m ≡ true
up_to_means zero test h m le = let z : m ≡ 0 = omega arith in rw z h
up_to_means (suc n) test h m le = elim (nearer m n le) [
  | inl e ↦ rw e ((and_parts _ _ h).0)
  | inr less ↦ up_to_means n test ((and_parts _ _ h).1) m less
]
  where
    nearer : (m n : ℕ) → m ≤ suc n → (m ≡ suc n) ⊎ (m ≤ n)
    nearer m n h = grind arith

all_below_means : (ns : List ℕ) (test : List ℕ → Bool) → all_below ns test ≡ true → (ms : List ℕ) → Below ms ns → test ms ≡ true
all_below_means [] test h [] b = h
all_below_means [] test h (m ∷ ms) b = absurd b
all_below_means (n ∷ ns) test h [] b = absurd b
all_below_means (n ∷ ns) test h (m ∷ ms) b =
    all_below_means ns (λ ms. test (m ∷ ms)) (up_to_means n (λ m. all_below ns (λ ms. test (m ∷ ms))) h m b.0) ms b.1

abbrev all_zero : List ℕ → Bool
all_zero [] = true
all_zero (n ∷ ns) = (n == 0) && all_zero ns

-- words of these counts mean an integer type
abbrev is_counted : List ℕ → Bool
is_counted c =
    is_some (find (λ kind. list_any (λ spelling. bytes_eq c (counts spelling)) (spellings kind))
    (I8 ∷ U8 ∷ I16 ∷ U16 ∷ I32 ∷ U32 ∷ I64 ∷ U64 ∷ []))

abbrev fewer_mean : List ℕ → Bool
fewer_mean c = all_below c (λ fewer. all_zero fewer || is_counted fewer)

-- fewer words than a spelling has mean a type, or there are none
abbrev all_rows : List (List (List ℕ)) → Bool
all_rows [] = true
all_rows (words ∷ others) = fewer_mean (counts words) && all_rows others

fewer_rows : (kind : Kind) → all_rows (spellings kind) ≡ true
fewer_rows I8 = refl
fewer_rows U8 = refl
fewer_rows I16 = refl
fewer_rows U16 = refl
fewer_rows I32 = refl
fewer_rows U32 = refl
fewer_rows I64 = refl
fewer_rows U64 = refl

fewer_row : (c : List ℕ) (rows : List (List (List ℕ))) → all_rows rows ≡ true
    → list_any (λ spelling. bytes_eq c (counts spelling)) rows ≡ true → fewer_mean c ≡ true
fewer_row c [] e h = absurd (false≢true h)
fewer_row c (row ∷ rows) e h = elim (or_cases (bytes_eq c (counts row)) _ h) [
  | inl same ↦ subst (λ other. fewer_mean other ≡ true) (sym ((bytes_eq-Decides c (counts row)).0 same)) ((and_parts _ _ e).0)
  | inr later ↦ fewer_row c rows ((and_parts _ _ e).1) later
]

counted_append : (p : List ℕ → Bool) (front back : List (List ℕ)) → count_by p front ≤ count_by p (front ++ back)
counted_append p front back = omega (arith, sum_by-append (λ x. cond (p x) 1 0) front back)

counts_append : (front back : List (List ℕ)) → Below (counts front) (counts (front ++ back))
counts_append front back = (
  counted_append _ front back,
  (counted_append _ front back, (counted_append _ front back, (counted_append _ front back, (counted_append _ front back, (counted_append _ front back, tt))))),
)

counted_one : (p : List ℕ → Bool) (word : List ℕ) (words : List (List ℕ)) → p word ≡ true → (count_by p (word ∷ words) == 0) ≡ true → ⊥
counted_one p word words h z =
    let none : count_by p (word ∷ words) ≡ 0 = eqb-true _ _ z in
    let one : count_by p (word ∷ words) ≡ cond (p word) 1 0 + count_by p words = sum_by-cons (λ x. cond (p x) 1 0) word words in
    let some : count_by p (word ∷ words) ≡ 1 + count_by p words = one ∙ ap (λ b. cond b 1 0 + count_by p words) h in
    omega arith

-- a word of integer types is counted
zero_parts : (a b c d e f : ℕ) → all_zero (a ∷ b ∷ c ∷ d ∷ e ∷ f ∷ []) ≡ true
    → ((a == 0) ≡ true) × (((b == 0) ≡ true) × (((c == 0) ≡ true) × (((d == 0) ≡ true) × (((e == 0) ≡ true) × ((f == 0) ≡ true)))))
zero_parts a b c d e f h =
    let h1 = (and_parts _ _ h).1 in
    let h2 = (and_parts _ _ h1).1 in
    let h3 = (and_parts _ _ h2).1 in
    let h4 = (and_parts _ _ h3).1 in
    let h5 = (and_parts _ _ h4).1 in (
      (and_parts _ _ h).0,
      ((and_parts _ _ h1).0, ((and_parts _ _ h2).0, ((and_parts _ _ h3).0, ((and_parts _ _ h4).0, (and_parts _ _ h5).0)))),
    )

one_of : (text : List ℕ) → (a b c d e f : List ℕ) → is_one_of (a ∷ b ∷ c ∷ d ∷ e ∷ f ∷ []) text ≡ true
    → (text ≡ a) ⊎ ((text ≡ b) ⊎ ((text ≡ c) ⊎ ((text ≡ d) ⊎ ((text ≡ e) ⊎ (text ≡ f)))))
one_of text a b c d e f h = elim (or_cases (bytes_eq text a) _ h) [
  | inl same ↦ inl ((bytes_eq-Decides text a).0 same)
  | inr h ↦ inr (elim (or_cases (bytes_eq text b) _ h) [
    | inl same ↦ inl ((bytes_eq-Decides text b).0 same)
    | inr h ↦ inr (elim (or_cases (bytes_eq text c) _ h) [
      | inl same ↦ inl ((bytes_eq-Decides text c).0 same)
      | inr h ↦ inr (elim (or_cases (bytes_eq text d) _ h) [
        | inl same ↦ inl ((bytes_eq-Decides text d).0 same)
        | inr h ↦ inr (elim (or_cases (bytes_eq text e) _ h) [
          | inl same ↦ inl ((bytes_eq-Decides text e).0 same)
          | inr h ↦ inr (elim (or_cases (bytes_eq text f) _ h) [
            | inl same ↦ (bytes_eq-Decides text f).0 same
            | inr h ↦ absurd (false≢true h)
          ])
        ])
      ])
    ])
  ])
]

some_counted : (word : List ℕ) (words : List (List ℕ)) → IsTrue (is_one_of integer_words word)
    → all_zero (counts (word ∷ words)) ≡ true → ⊥
some_counted word words known z =
    let parts = zero_parts _ _ _ _ _ _ z in
    elim (one_of word _ _ _ _ _ _ known) [
      | inl e ↦ counted_one (bytes_eq (codes "char")) word words (rw e refl) parts.0
      | inr (inl e) ↦ counted_one (bytes_eq (codes "short")) word words (rw e refl) parts.1.0
      | inr (inr (inl e)) ↦ counted_one (bytes_eq (codes "int")) word words (rw e refl) parts.1.1.0
      | inr (inr (inr (inl e))) ↦ counted_one (bytes_eq (codes "long")) word words (rw e refl) parts.1.1.1.0
      | inr (inr (inr (inr (inl e)))) ↦ counted_one (bytes_eq (codes "signed")) word words (rw e refl) parts.1.1.1.1.0
      | inr (inr (inr (inr (inr e)))) ↦ counted_one (bytes_eq (codes "unsigned")) word words (rw e refl) parts.1.1.1.1.1
    ]

-- some of a spelling's words from the start on mean a type
pub front_means : (kind : Kind) (word : List ℕ) (words back : List (List ℕ)) → IsTrue (is_one_of integer_words word)
    → IsTrue (is_spelling kind ((word ∷ words) ++ back)) → is_some (kind_of (word ∷ words)) ≡ true
front_means kind word words back known h =
    let row = fewer_row (counts ((word ∷ words) ++ back)) (spellings kind) (fewer_rows kind) h in
    let either =
    all_below_means (counts ((word ∷ words) ++ back)) (λ fewer. all_zero fewer || is_counted fewer) row
    (counts (word ∷ words)) (counts_append (word ∷ words) back)
    in
    elim (or_cases (all_zero (counts (word ∷ words))) _ either) [
      | inl z ↦ absurd (some_counted word words known z)
      | inr some ↦ some
    ]

-- One struct more among the changes of a version, and one version more.
use Rattle.std.proofs.Common.{◌≡◌, ℕ, zero, suc, ◌+◌, ◌<◌, ◌≤◌, true, true≢false, inl, inr, List, [], ◌∷◌, ◌++◌, length, length-append, get_or, slice_get, Option, Some, Contains, bytes_eq, refl, sym, ap, subst, ◌∙◌, arith}
use Rattle.std.specs.Prelude.{slice_index_or}
use Rattle.std.specs.Option.{option_and_then, option_flatten}
use Rattle.std.proofs.lemmas.Bool.{cases_lt}
use Rattle.std.proofs.lemmas.List.Sums.{fails_before_first}
use Rattle.std.proofs.lemmas.Slice.Eq.{bytes_eq-Decides}
use Rattle.c_tree.specs.BareExpr.{Bytes}
use Rattle.c_tree.specs.BareDef.{BareDef}
use Rattle.version_laws.specs.Histories.{last_text, text_in}
use Rattle.code_runs.specs.CodeData.{number_of}
use Rattle.code_runs.specs.Layouts.{text_at}
use Rattle.word_layouts.specs.declared.change.WordChange.{WordChange}
use Rattle.word_layouts.specs.declared.layouts.VersionChanges.{VersionChanges}
use Rattle.word_layouts.specs.ChangedWords.{change_at, change_of}
use Rattle.word_layouts.specs.WordChanges.{AreChangesOf, HasFewFields, IsWordChange, StandFor}

-- ---- lists

index_left : {X : Type 0} (xs ys : List X) (n : ℕ) (d : X) → n < length xs → slice_index_or (xs ++ ys) n d ≡ slice_index_or xs n d
index_left [] ys n d h = absurd (omega (arith, h))
index_left (x ∷ xs) ys zero d h = refl
index_left (x ∷ xs) ys (suc n) d h = index_left xs ys n d (omega (arith, h))

index_seam : {X : Type 0} (xs : List X) (y d : X) → slice_index_or (xs ++ y ∷ []) (length xs) d ≡ y
index_seam [] y d = refl
index_seam (x ∷ xs) y d = index_seam xs y d

get_left : {X : Type 0} (xs ys : List X) (n : ℕ) → n < length xs → slice_get (xs ++ ys) n ≡ slice_get xs n
get_left [] ys n h = absurd (omega (arith, h))
get_left (x ∷ xs) ys zero h = refl
get_left (x ∷ xs) ys (suc n) h = get_left xs ys n (omega (arith, h))

get_seam : {X : Type 0} (xs : List X) (y : X) → slice_get (xs ++ y ∷ []) (length xs) ≡ Some y
get_seam [] y = refl
get_seam (x ∷ xs) y = get_seam xs y

-- ---- the changes of a version

-- a tag among some is at its number
number_within : (tags : List Bytes) (tag : Bytes) → Contains tags tag → number_of tags tag < length tags
number_within tags tag known = elim (cases_lt (number_of tags tag) (length tags)) [
  | inl inside ↦ inside
  | inr outside ↦
      let within = known.1 in
      let passes : bytes_eq tag (get_or tags known.0 tag) ≡ true = (bytes_eq-Decides tag (get_or tags known.0 tag)).1 (sym known.2) in
      let fails = fails_before_first (bytes_eq tag) tags known.0 tag (omega (arith, outside, within)) in
      absurd (true≢false (sym passes ∙ fails))
]

-- changes are those of the structs whose tags have the first numbers
pub record ArePrepared (p q : List BareDef) (tags : List Bytes) (place : ℕ) (structs : List (Option WordChange)) : Type 0 where
  pub count : length structs ≡ place
  pub each : (tag : Bytes) → Contains tags tag → number_of tags tag < place
      → IsWordChange p q tag (option_flatten (slice_get structs (number_of tags tag)))

pub prepared_none : (p q : List BareDef) (tags : List Bytes) → ArePrepared p q tags 0 []
prepared_none p q tags = record {
  count = refl;
  each = λ tag known below. absurd (omega (arith, below));
}

-- one more
pub prepared_more : (p q : List BareDef) (tags : List Bytes) (place : ℕ) (structs : List (Option WordChange)) (change : Option WordChange)
    → ArePrepared p q tags place structs
    → ((tag : Bytes) → Contains tags tag → number_of tags tag ≡ place → IsWordChange p q tag change)
    → ArePrepared p q tags (place + 1) (structs ++ change ∷ [])
prepared_more p q tags place structs change before is = record {
  count = let count = before.count in let more = length-append structs (change ∷ []) in omega (arith, count, more);
  each = λ tag known below.
      let n = number_of tags tag in
      elim (cases_lt n place) [
        | inl inside ↦
            let count = before.count in
            subst (λ o. IsWordChange p q tag (option_flatten o)) (sym (get_left structs (change ∷ []) n (omega (arith, inside, count))))
            (before.each tag known inside)
        | inr outside ↦
            let here : place ≡ n = omega (arith, below, outside) in
            let last : slice_get (structs ++ change ∷ []) n ≡ Some change =
            ap (slice_get (structs ++ change ∷ [])) (sym (before.count ∙ here)) ∙ get_seam structs change in
            subst (λ o. IsWordChange p q tag (option_flatten o)) (sym last) (is tag known (sym here))
      ];
}

-- all
pub prepared_all : (p q : List BareDef) (tags : List Bytes) (place : ℕ) (structs : List (Option WordChange)) → length tags ≤ place
    → ArePrepared p q tags place structs → (tag : Bytes) → Contains tags tag
    → IsWordChange p q tag (option_flatten (slice_get structs (number_of tags tag)))
prepared_all p q tags place structs enough all tag known =
    let within = number_within tags tag known in all.each tag known (omega (arith, within, enough))

-- ---- versions

pub stands_first : (text : List BareDef) (tags : List Bytes) → HasFewFields text → StandFor (text ∷ []) tags []
stands_first text tags few = record {
  count = refl;
  few = first;
  each = λ n tag below known. absurd (omega (arith, below));
}
  where
    first : (n : ℕ) → n < 1 → HasFewFields (text_at (text ∷ []) n)
    first zero h = few
    first (suc n) h = absurd (omega (arith, h))

module _ (texts : List (List BareDef)) (q : List BareDef) (tags : List Bytes) (versions : List VersionChanges) (v : VersionChanges)
    (all : StandFor texts tags versions) (small : HasFewFields q) (next : AreChangesOf (last_text texts) q tags v) where
  abbrev longer : List (List BareDef)
  longer = texts ++ q ∷ []

  long : length longer ≡ length texts + 1
  long = length-append texts (q ∷ [])

  earlier : (n : ℕ) → n < length texts → text_at longer n ≡ text_at texts n
  earlier n h = index_left texts (q ∷ []) n [] h

  newest : text_at longer (length texts) ≡ q
  newest = index_seam texts q []

  few_more : (n : ℕ) → n < length longer → HasFewFields (text_at longer n)
  few_more n h = elim (cases_lt n (length texts)) [
    | inl inside ↦ subst HasFewFields (sym (earlier n inside)) (all.few n inside)
    | inr outside ↦
        let here : length texts ≡ n = omega (arith, h, outside, long) in
        subst (λ k. HasFewFields (text_at longer k)) here (subst HasFewFields (sym newest) small)
  ]

  each_more : (n : ℕ) (tag : Bytes) → suc n < length longer → Contains tags tag
      → IsWordChange (text_at longer n) (text_at longer (suc n)) tag (change_at (versions ++ v ∷ []) (number_of tags tag) n)
  each_more n tag below known = elim (cases_lt (suc n) (length texts)) [
    | inl inside ↦
        let count = all.count in
        let old : change_at (versions ++ v ∷ []) (number_of tags tag) n ≡ change_at versions (number_of tags tag) n =
        ap (option_and_then (λ x. change_of x (number_of tags tag))) (get_left versions (v ∷ []) n (omega (arith, inside, count))) in
        subst (λ c. IsWordChange (text_at longer n) (text_at longer (suc n)) tag c) (sym old)
        (subst (λ t. IsWordChange (text_at longer n) t tag (change_at versions (number_of tags tag) n)) (sym (earlier (suc n) inside))
        (subst (λ t. IsWordChange t (text_at texts (suc n)) tag (change_at versions (number_of tags tag) n)) (sym (earlier n (omega (arith, inside))))
        (all.each n tag inside known)))
    | inr outside ↦
        let count = all.count in
        let here : length texts ≡ suc n = omega (arith, below, outside, long) in
        let place : length versions ≡ n = omega (arith, here, count) in
        let new : change_at (versions ++ v ∷ []) (number_of tags tag) n ≡ change_of v (number_of tags tag) =
        ap (λ k. change_at (versions ++ v ∷ []) (number_of tags tag) k) (sym place)
        ∙ ap (option_and_then (λ x. change_of x (number_of tags tag))) (get_seam versions v) in
        let last : text_at longer n ≡ last_text texts = earlier n (omega (arith, here)) ∙ ap (text_in texts) (sym here) in
        let newer : text_at longer (suc n) ≡ q = ap (text_at longer) (sym here) ∙ newest in
        subst (λ c. IsWordChange (text_at longer n) (text_at longer (suc n)) tag c) (sym new)
        (subst (λ t. IsWordChange (text_at longer n) t tag (change_of v (number_of tags tag))) (sym newer)
        (subst (λ t. IsWordChange t q tag (change_of v (number_of tags tag))) (sym last) (next tag known)))
  ]

  pub stands_more : StandFor longer tags (versions ++ v ∷ [])
  stands_more = record {
    count = let count = all.count in let more = length-append versions (v ∷ []) in omega (arith, count, more, long);
    few = few_more;
    each = each_more;
  }

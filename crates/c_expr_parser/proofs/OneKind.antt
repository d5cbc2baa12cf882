-- Words mean at most one integer type.
use Rattle.std.specs.Prelude.{◌≡◌, ℕ, true, IsTrue, List, [], ◌∷◌, Option, Some, None}
use Rattle.std.specs.List.{list_any, find}
use Rattle.std.specs.Str.{bytes_eq}
use Rattle.std.proofs.Common.{refl, ap, sym, subst, ◌∙◌, inl, inr}
use Rattle.std.proofs.lemmas.Slice.Eq.{bytes_eq-Decides}
use Rattle.std.proofs.lemmas.Bool.{false≢true, or_cases}
use Rattle.c_ints.specs.declared.kind.Kind.{Kind}
use Rattle.c_ints.specs.declared.kind.Kind.TheVariants.{I8, U8, I16, U16, I32, U32, I64, U64}
use Rattle.c_expr_parser.specs.TypeNames.{spellings, counts, is_spelling}

-- P holds of the counts of each of some lists of words
abbrev Each : (List ℕ → Type 0) → List (List (List ℕ)) → Type 0
Each P [] = Unit {0}
Each P (words ∷ others) = P (counts words) × Each P others

-- the first kind that words of these counts mean
abbrev pub first_kind : List ℕ → Option Kind
first_kind c =
    find (λ kind. list_any (λ spelling. bytes_eq c (counts spelling)) (spellings kind))
    (I8 ∷ U8 ∷ I16 ∷ U16 ∷ I32 ∷ U32 ∷ I64 ∷ U64 ∷ [])

abbrev pub Means : Kind → List ℕ → Type 0
Means kind c = first_kind c ≡ Some kind

each_means : (kind : Kind) → Each (Means kind) (spellings kind)
each_means I8 = (refl, (refl, tt))
each_means U8 = (refl, tt)
each_means I16 = (refl, (refl, (refl, (refl, tt))))
each_means U16 = (refl, (refl, tt))
each_means I32 = (refl, (refl, (refl, tt)))
each_means U32 = (refl, (refl, tt))
each_means I64 = (refl, (refl, (refl, (refl, tt))))
each_means U64 = (refl, (refl, tt))

same_counts : (c r : List ℕ) → bytes_eq c r ≡ true → c ≡ r
same_counts c r h = (bytes_eq-Decides c r).0 h

in_each : (P : List ℕ → Type 0) (c : List ℕ) (rows : List (List (List ℕ))) → Each P rows
    → list_any (λ spelling. bytes_eq c (counts spelling)) rows ≡ true → P c
in_each P c [] e h = absurd (false≢true h)
in_each P c (row ∷ rows) e h = elim (or_cases (bytes_eq c (counts row)) _ h) [
  | inl same ↦ subst P (sym (same_counts c (counts row) same)) e.0
  | inr later ↦ in_each P c rows e.1 later
]

abbrev kind_or : Kind → Option Kind → Kind
kind_or other None = other
kind_or other (Some kind) = kind

pub means : (kind : Kind) (words : List (List ℕ)) → IsTrue (is_spelling kind words) → Means kind (counts words)
means kind words h = in_each (Means kind) (counts words) (spellings kind) (each_means kind) h

-- the kind is the first, so there is one
pub one_kind : (kind other : Kind) (words : List (List ℕ)) → IsTrue (is_spelling kind words) → IsTrue (is_spelling other words)
    → kind ≡ other
one_kind kind other words a b = ap (kind_or kind) (sym (means kind words a) ∙ means other words b)

-- A table of names is the list of its texts, each as its bytes. The id of a name is its place in the list.
use Rattle.std.specs.Prelude.{◌≡◌, ℕ, ◌≤◌, List, [], ◌∷◌, ◌++◌, length, Some, slice_get, slice_index_or, if◌then◌else◌, bytes_eq}
use Rattle.std.specs.List.{list_any}
use Rattle.std.specs.Cmp.Lexicographic.{slice_cmp}
use Rattle.std.specs.Ordering.{nat_cmp}
use Rattle.std.specs.declared.cmp.Ordering.TheVariants.{Less}
use Rattle.name_sets.specs.Limit.{most_names}

-- at most 2,048 texts, none of them twice
pub record IsTable (texts : List (List ℕ)) : Type 0 where
  pub few : length texts ≤ most_names
  pub distinct : (a b : ℕ) (text : List ℕ) → slice_get texts a ≡ Some text → slice_get texts b ≡ Some text → a ≡ b

-- the texts once this one is added: one that is there stays in its place, and another goes last
abbrev pub with_text : List (List ℕ) → List ℕ → List (List ℕ)
with_text texts text = if list_any (bytes_eq text) texts then texts else texts ++ text ∷ []

-- the text of an id
abbrev pub text_of : List (List ℕ) → ℕ → List ℕ
text_of texts id = slice_index_or texts id []

-- the text of a comes before the text of b in the order of bytes (a text before its own continuations)
abbrev pub IsBefore : List (List ℕ) → ℕ → ℕ → Type 0
IsBefore texts a b = slice_cmp nat_cmp (text_of texts a) (text_of texts b) ≡ Less

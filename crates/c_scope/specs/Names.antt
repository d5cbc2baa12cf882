-- What the map of names keeps, for the contracts of the private functions.
use Rattle.std.specs.Prelude.{◌≡◌, ℕ, ◌<◌, ◌⊎◌, List, [], ◌∷◌, ◌++◌, map, length, Option, None, slice_index_or, String, string_bytes}

module _ {A : Type 0} where
  -- the names as their bytes
  abbrev pub texts_of : List (String A × Option ℕ) → List (List ℕ)
  texts_of entries = map (λ entry. string_bytes entry.0) entries

  -- the place of the innermost declaration of each name
  abbrev pub places_of : List (String A × Option ℕ) → List (Option ℕ)
  places_of entries = map (λ entry. entry.1) entries

-- the text is the name with a number
pub record IsNumber (texts : List (List ℕ)) (text : List ℕ) (name : ℕ) : Type 0 where
  pub within : name < length texts
  pub is : slice_index_or texts name [] ≡ text

-- the text is no name
abbrev pub Lacks : List (List ℕ) → List ℕ → Type 0
Lacks texts text = (name : ℕ) → ¬ IsNumber texts text name

-- no text stands twice
abbrev pub AreDistinct : List (List ℕ) → Type 0
AreDistinct texts = (a b : ℕ) → a < length texts → b < length texts → slice_index_or texts a [] ≡ slice_index_or texts b [] → a ≡ b

-- the names once this one is among them: it was there, or it goes last, without a declaration
abbrev pub HasName : {A : Type 0} → List (String A × Option ℕ) → List ℕ → List (String A × Option ℕ) → Type 0
HasName old text new = (new ≡ old) ⊎ (Lacks (texts_of old) text × (texts_of new ≡ texts_of old ++ text ∷ []) × (places_of new ≡ places_of old ++ None ∷ []))

-- The names of a map by their numbers.
use Rattle.std.proofs.Common.{◌≡◌, ℕ, zero, suc, ◌<◌, ◌≤◌, ◌⊎◌, inl, inr, Bool, true, false, true≢false, cond, List, [], ◌∷◌, ◌++◌, map, set, length, get_or, slice_get, Option, None, Some, is_some, String, string_bytes, refl, sym, ap, ◌∙◌, arith, bytes_eq, if◌then◌else◌, length-append}
use Rattle.std.specs.List.{position}
use Rattle.std.specs.Map.{keys_of, lookup}
use Rattle.std.specs.String.{string_eq}
use Rattle.std.proofs.lemmas.Bool.{false_from_ne_true}
use Rattle.indexmap.specs.IndexMap.{set_value_at, insert_entry}
use Rattle.std.proofs.lemmas.List.{get_or-map, length-map}
use Rattle.std.proofs.lemmas.List.Quantifiers.{position-Some}
use Rattle.std.proofs.lemmas.Option.{slice_get_cases}
use Rattle.std.proofs.lemmas.Slice.Eq.{bytes_eq-Decides}
use Rattle.c_scope.specs.Names.{texts_of, places_of, IsNumber, Lacks}

-- texts that pass the comparison are one
pub bytes_same : (x y : List ℕ) → bytes_eq x y ≡ true → x ≡ y
bytes_same x y h = (bytes_eq-Decides x y).0 h

-- and one text passes it
pub same_bytes : (x y : List ℕ) → x ≡ y → bytes_eq x y ≡ true
same_bytes x y e = (bytes_eq-Decides x y).1 e

module _ {A : Type 0} where
  -- the names, by the keys of the map
  pub texts-keys : (entries : List (String A × Option ℕ)) → texts_of entries ≡ map string_bytes (keys_of entries)
  texts-keys [] = refl
  texts-keys (e ∷ es) = ap (λ ts. string_bytes e.0 ∷ ts) (texts-keys es)

  -- the index that the look-up answers is the name's number
  pub number-lookup : (text : List ℕ) (entries : List (String A × Option ℕ)) (i : ℕ) → i < length entries → position (λ key. bytes_eq text (string_bytes key)) (keys_of entries) ≡ Some i → IsNumber (texts_of entries) text i
  number-lookup text entries i within at = by (slice_get_cases (keys_of entries) i).1
    where
      by : ((x : String A) × (i < length (keys_of entries)) × (slice_get (keys_of entries) i ≡ Some x) × (get_or (keys_of entries) i x ≡ x)) ⊎ ((length (keys_of entries) ≤ i) × (slice_get (keys_of entries) i ≡ None)) → IsNumber (texts_of entries) text i
      by (inl h) =
          let passes = (position-Some (λ key. bytes_eq text (string_bytes key)) (keys_of entries) i h.0 at).1 in
          record {
            within = omega (arith, length-map entries (λ entry. string_bytes entry.0));
            is = ap (λ ts. get_or ts i []) (texts-keys entries) ∙ get_or-map string_bytes (keys_of entries) i h.0 [] h.1 ∙ sym (bytes_same text (string_bytes (get_or (keys_of entries) i h.0)) passes);
          }
      by (inr h) = absurd (omega (arith, length-map entries (λ entry. entry.0)))

  -- a text that the look-up misses is no name
  pub lacks-lookup : (text : List ℕ) (entries : List (String A × Option ℕ)) → is_some (lookup (λ key. bytes_eq text (string_bytes key)) entries) ≡ false → Lacks (texts_of entries) text
  lacks-lookup text [] none name h = absurd (omega (arith, h.within))
  lacks-lookup text (e ∷ es) none zero h = absurd (true≢false (sym (ap (λ b. is_some (cond b (Some e.1) (lookup (λ key. bytes_eq text (string_bytes key)) es))) (same_bytes text (string_bytes e.0) (sym h.is))) ∙ none))
  lacks-lookup text (e ∷ es) none (suc name) h = by (bytes_eq text (string_bytes e.0)) none (λ rest. lacks-lookup text es rest name (record { within = omega (arith, h.within); is = h.is }))
    where
      by : (b : Bool) → is_some (cond b (Some e.1) (lookup (λ key. bytes_eq text (string_bytes key)) es)) ≡ false → (is_some (lookup (λ key. bytes_eq text (string_bytes key)) es) ≡ false → ⊥) → ⊥
      by true none rest = true≢false none
      by false none rest = rest none

  -- a write at an index leaves the names
  pub texts-set : (entries : List (String A × Option ℕ)) (i : ℕ) (place : Option ℕ) → texts_of (set_value_at entries i place) ≡ texts_of entries
  texts-set [] i place = refl
  texts-set (e ∷ es) zero place = refl
  texts-set (e ∷ es) (suc i) place = ap (λ ts. string_bytes e.0 ∷ ts) (texts-set es i place)

  -- and changes one place
  pub places-set : (entries : List (String A × Option ℕ)) (i : ℕ) (place : Option ℕ) → places_of (set_value_at entries i place) ≡ set (places_of entries) i place
  places-set [] i place = refl
  places-set (e ∷ es) zero place = refl
  places-set (e ∷ es) (suc i) place = ap (λ ps. e.1 ∷ ps) (places-set es i place)

  -- a text that is no name goes last
  pub insert-lacking : (entries : List (String A × Option ℕ)) (key : String A) (place : Option ℕ) → Lacks (texts_of entries) (string_bytes key) → insert_entry string_eq entries key place ≡ entries ++ (key, place) ∷ []
  insert-lacking [] key place lacks = refl
  insert-lacking (e ∷ es) key place lacks =
      let apart : bytes_eq (string_bytes key) (string_bytes e.0) ≡ false = false_from_ne_true _ (λ s. lacks 0 (record { within = omega arith; is = sym (bytes_same (string_bytes key) (string_bytes e.0) s) })) in
      ap (λ b. if b then (e.0, place) ∷ es else e ∷ insert_entry string_eq es key place) apart
      ∙ ap (λ rest. e ∷ rest) (insert-lacking es key place (λ name h. lacks (suc name) (record { within = omega (arith, h.within); is = h.is })))

  -- and its number is how many there were
  pub number-last : (old : List (String A × Option ℕ)) (key : String A) (place : Option ℕ) → IsNumber (texts_of (old ++ (key, place) ∷ [])) (string_bytes key) (length old)
  number-last old key place = record { within = omega (arith, length-map (old ++ (key, place) ∷ []) (λ entry. string_bytes entry.0), length-append old ((key, place) ∷ [])); is = at old }
    where
      at : (es : List (String A × Option ℕ)) → get_or (texts_of (es ++ (key, place) ∷ [])) (length es) [] ≡ string_bytes key
      at [] = refl
      at (e ∷ es) = at es

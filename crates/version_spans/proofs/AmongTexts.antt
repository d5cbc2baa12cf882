-- Texts among some, and loops over texts.
use Rattle.std.proofs.Common.{◌≡◌, ℕ, ◌+◌, ◌<◌, ◌≤◌, Bool, true, false, ◌||◌, List, [], ◌∷◌, ◌++◌, map, length, get_or, take, drop, string_bytes, String, refl, sym, ap, ap₂, ◌∙◌, bytes_eq, if◌then◌else◌}
use Rattle.std.specs.List.{list_any}
use Rattle.std.proofs.Math.ListN.{drop_of_length-le}
use Rattle.std.proofs.lemmas.List.Folds.{list_any-append}
use Rattle.std.proofs.lemmas.List.{map_more, take_all}
use Rattle.std.proofs.lemmas.Slice.Eq.{bytes_eq-Decides}
use Rattle.c_tree.specs.BareExpr.{Bytes}
use Rattle.name_sets.specs.NameLists.{is_among}
use Rattle.name_sets.specs.Texts.{with_text}
use Rattle.patch_compare.proofs.Items.{item_at}

pub text_is : (x y : Bytes) → bytes_eq x y ≡ true → x ≡ y
text_is x y h = (bytes_eq-Decides x y).0 h

-- a text among those of keys
pub among_keys : {A : Type 0} (text : Bytes) (keys : List (String A))
    → is_among (map string_bytes keys) text ≡ list_any (λ key. bytes_eq text (string_bytes key)) keys
among_keys text [] = refl
among_keys text (key ∷ keys) = ap (λ b. bytes_eq text (string_bytes key) || b) (among_keys text keys)

or_turned : (a b : Bool) → (a || (b || false)) ≡ (b || a)
or_turned true true = refl
or_turned true false = refl
or_turned false true = refl
or_turned false false = refl

-- a text among some with one more
pub among_with : (texts : List Bytes) (text x : Bytes) → is_among (with_text texts text) x ≡ (bytes_eq x text || is_among texts x)
among_with texts text x = by (is_among texts text) refl
  where
    same : (b : Bool) → bytes_eq x text ≡ b → is_among texts text ≡ true → is_among texts x ≡ (b || is_among texts x)
    same true e there = ap (is_among texts) (text_is x text e) ∙ there
    same false e there = refl

    by : (b : Bool) → is_among texts text ≡ b → is_among (if b then texts else texts ++ text ∷ []) x ≡ (bytes_eq x text || is_among texts x)
    by true e = same (bytes_eq x text) refl e
    by false e = list_any-append (bytes_eq x) texts (text ∷ []) ∙ or_turned (is_among texts x) (bytes_eq x text)

-- a text that is there isn't put in again
pub with_there : (texts : List Bytes) (text : Bytes) → is_among texts text ≡ true → with_text texts text ≡ texts
with_there texts text there = ap (λ b. if b then texts else texts ++ text ∷ []) there

-- one of the texts up to a place, with the next one
pub among_more : {A : Type 0} (texts : List (String A)) (i : ℕ) (x : String A) (name : Bytes) → i < length texts → x ≡ get_or texts i x
    → is_among (map string_bytes (take (i + 1) texts)) name ≡ (bytes_eq name (string_bytes x) || is_among (map string_bytes (take i texts)) name)
among_more texts i x name within is =
    ap (λ l. is_among l name) (map_more string_bytes texts i x within ∙ ap (λ y. map string_bytes (take i texts) ++ string_bytes y ∷ []) (sym is))
    ∙ list_any-append (bytes_eq name) (map string_bytes (take i texts)) (string_bytes x ∷ [])
    ∙ or_turned (is_among (map string_bytes (take i texts)) name) (bytes_eq name (string_bytes x))

pub among_all : {A : Type 0} (texts : List (String A)) (i : ℕ) (name : Bytes) → length texts ≤ i
    → is_among (map string_bytes (take i texts)) name ≡ is_among (map string_bytes texts) name
among_all texts i name past = ap (λ l. is_among (map string_bytes l) name) (take_all i texts past)

-- whether a text from a place on passes a test
module _ {A : Type 0} (p : Bytes → Bool) where
  abbrev pub some_from : List (String A) → ℕ → Bool
  some_from texts i = list_any p (map string_bytes (drop i texts))

  pub some_here : (texts : List (String A)) (i : ℕ) (x : String A) → i < length texts → x ≡ get_or texts i x
      → some_from texts i ≡ (p (string_bytes x) || some_from texts (i + 1))
  some_here texts i x within is = ap (λ l. list_any p (map string_bytes l)) (item_at texts i x within is)

  pub some_nowhere : (texts : List (String A)) (i : ℕ) → length texts ≤ i → some_from texts i ≡ false
  some_nowhere texts i past = ap (λ l. list_any p (map string_bytes l)) (drop_of_length-le texts past)

-- what two tests say alike, they say alike of some
pub any_alike : (f g : Bytes → Bool) → ((x : Bytes) → f x ≡ g x) → (xs : List Bytes) → list_any f xs ≡ list_any g xs
any_alike f g same [] = refl
any_alike f g same (x ∷ xs) = ap₂ (λ a b. a || b) (same x) (any_alike f g same xs)

pub any_mapped : (f : Bytes → Bool) (g : Bytes → Bytes) (xs : List Bytes) → list_any f (map g xs) ≡ list_any (λ x. f (g x)) xs
any_mapped f g [] = refl
any_mapped f g (x ∷ xs) = ap (λ b. f (g x) || b) (any_mapped f g xs)

-- Loops over names that list some of them, or find one.
use Rattle.std.proofs.Common.{◌≡◌, ℕ, ◌+◌, ◌<◌, ◌≤◌, Bool, List, [], ◌∷◌, ◌++◌, map, filter, length, get_or, take, drop, string_bytes, String, Option, Some, None, sym, ap, ◌∙◌, if◌then◌else◌}
use Rattle.std.specs.List.{find}
use Rattle.std.proofs.Math.ListN.{drop_of_length-le}
use Rattle.std.proofs.lemmas.List.{map_more, take_all}
use Rattle.std.proofs.lemmas.List.Elements.{filter-append}
use Rattle.c_tree.specs.BareExpr.{Bytes}
use Rattle.patch_compare.proofs.Items.{item_at}

module _ {Z : Type 0} (p : Bytes → Bool) where
  -- one name more is listed where it passes the test
  pub listed_more : (texts : List (String Z)) (i : ℕ) (x : String Z) (done : List Bytes) (listed : Bool) (name : Bytes)
      → i < length texts → x ≡ get_or texts i x → done ≡ filter p (map string_bytes (take i texts)) → listed ≡ p name → name ≡ string_bytes x
      → done ++ (if listed then name ∷ [] else []) ≡ filter p (map string_bytes (take (i + 1) texts))
  listed_more texts i x done listed name within is done_is listed_is named =
      ap (λ l. l ++ (if listed then name ∷ [] else [])) done_is
      ∙ ap (λ b. filter p (map string_bytes (take i texts)) ++ (if b then name ∷ [] else [])) listed_is
      ∙ sym (filter-append p (map string_bytes (take i texts)) (name ∷ []))
      ∙ ap (filter p) (ap (λ n. map string_bytes (take i texts) ++ n ∷ []) (named ∙ ap string_bytes is) ∙ sym (map_more string_bytes texts i x within))

  -- at the end all names were asked
  pub listed_all : (texts : List (String Z)) (i : ℕ) (done names : List Bytes) → length texts ≤ i
      → done ≡ filter p (map string_bytes (take i texts)) → map string_bytes texts ≡ names → done ≡ filter p names
  listed_all texts i done names past done_is are =
      done_is ∙ ap (λ l. filter p (map string_bytes l)) (take_all i texts past) ∙ ap (filter p) are

  -- what is found from a place on
  abbrev pub found_from : List (String Z) → ℕ → Option Bytes
  found_from texts i = find p (map string_bytes (drop i texts))

  pub found_here : (texts : List (String Z)) (i : ℕ) (x : String Z) → i < length texts → x ≡ get_or texts i x
      → found_from texts i ≡ (if p (string_bytes x) then Some (string_bytes x) else found_from texts (i + 1))
  found_here texts i x within is = ap (λ l. find p (map string_bytes l)) (item_at texts i x within is)

  pub found_nowhere : (texts : List (String Z)) (i : ℕ) → length texts ≤ i → found_from texts i ≡ None
  found_nowhere texts i past = ap (λ l. find p (map string_bytes l)) (drop_of_length-le texts past)

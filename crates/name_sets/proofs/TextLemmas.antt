-- Tables of texts: which texts are in them, what adding one does, and the order of the texts.
use Rattle.std.proofs.Common.{Ordering, ◌==◌, ◌≡◌, ℕ, zero, suc, ◌<◌, ◌≤◌, ◌⊎◌, inl, inr, Bool, true, false, true≢false, ◌||◌, List, [], ◌∷◌, ◌++◌, map, length, get_or, Contains, Some, None, slice_get, string_bytes, String, refl, sym, ap, subst, ◌∙◌, arith, bytes_eq, if◌then◌else◌, length-append}
use Rattle.std.specs.List.{list_any, position}
use Rattle.std.specs.Cmp.Lexicographic.{slice_cmp}
use Rattle.std.specs.Ordering.{nat_cmp, is_eq, ordering_reverse, ordering_index}
use Rattle.std.specs.declared.cmp.Ordering.TheVariants.{Less, Equal, Greater}
use Rattle.std.specs.String.{string_eq}
use Rattle.std.proofs.lemmas.Bool.{false_from_ne_true}
use Rattle.std.proofs.lemmas.Cmp.{nat_list_cmp_total, nat_list_eq_equiv, tied_itself}
use Rattle.std.proofs.lemmas.Map.Text.{is_eq-slice_cmp}
use Rattle.std.proofs.lemmas.Map.Views.{Contains-from_any, list_any-from_Contains}
use Rattle.std.specs.Option.{option_map}
use Rattle.std.proofs.lemmas.List.{map-append, get_or-map}
use Rattle.std.specs.Bool.{OnFalse}
use Rattle.std.proofs.lemmas.List.Quantifiers.{position-Some}
use Rattle.std.proofs.lemmas.Option.{slice_get_within, slice_get-get_or, get_or_from_slice_get, slice_get_cases, slice_get-map, same_Some, none-some}
use Rattle.std.proofs.lemmas.Slice.Eq.{bytes_eq-Decides}
use Rattle.indexmap.specs.IndexSet.{insert_key}
use Rattle.name_sets.specs.Texts.{IsTable, with_text, text_of, IsBefore}

bytes_same : (x y : List ℕ) → bytes_eq x y ≡ true → x ≡ y
bytes_same x y h = (bytes_eq-Decides x y).0 h

-- a text with an id is in the table
pub Contains-at : (texts : List (List ℕ)) (id : ℕ) (text : List ℕ) → slice_get texts id ≡ Some text → Contains texts text
Contains-at texts id text at = (id, slice_get_within texts id text at, get_or_from_slice_get texts id text text at)

found : (texts : List (List ℕ)) (text : List ℕ) → Contains texts text → list_any (bytes_eq text) texts ≡ true
found texts text there = list_any-from_Contains nat_list_eq_equiv text texts there

missing : (texts : List (List ℕ)) (text : List ℕ) → (Contains texts text → ⊥) → list_any (bytes_eq text) texts ≡ false
missing texts text absent = false_from_ne_true _ (λ h. absurd (absent (Contains-from_any bytes_same text texts h)))

-- to add a text that is there changes nothing
pub with_text-present : (texts : List (List ℕ)) (text : List ℕ) → Contains texts text → with_text texts text ≡ texts
with_text-present texts text there = ap (λ b. if b then texts else texts ++ text ∷ []) (found texts text there)

-- another text goes last
pub with_text-absent : (texts : List (List ℕ)) (text : List ℕ) → (Contains texts text → ⊥) → with_text texts text ≡ texts ++ text ∷ []
with_text-absent texts text absent = ap (λ b. if b then texts else texts ++ text ∷ []) (missing texts text absent)

list_any-texts : {A : Type 0} (text : List ℕ) (keys : List (String A)) → list_any (bytes_eq text) (map string_bytes keys) ≡ list_any (λ key. bytes_eq text (string_bytes key)) keys
list_any-texts text [] = refl
list_any-texts text (key ∷ keys) = ap (λ b. bytes_eq text (string_bytes key) || b) (list_any-texts text keys)

-- a key that the look-up misses is no text of the table
pub absent-lookup : {A : Type 0} (text : List ℕ) (keys : List (String A)) → list_any (λ key. bytes_eq text (string_bytes key)) keys ≡ false → Contains (map string_bytes keys) text → ⊥
absent-lookup text keys none there = absurd (true≢false (sym (found (map string_bytes keys) text there) ∙ list_any-texts text keys ∙ none))

-- the place that the look-up answers has the text
pub at-lookup : {A : Type 0} (text : List ℕ) (keys : List (String A)) (i : ℕ) → i < length keys → position (λ key. bytes_eq text (string_bytes key)) keys ≡ Some i → slice_get (map string_bytes keys) i ≡ Some text
at-lookup {A} text keys i within at = by (slice_get_cases keys i).1
  where
    by : ((x : String A) × (i < length keys) × (slice_get keys i ≡ Some x) × (get_or keys i x ≡ x)) ⊎ ((length keys ≤ i) × (slice_get keys i ≡ None)) → slice_get (map string_bytes keys) i ≡ Some text
    by (inl h) =
        let passes = (position-Some (λ key. bytes_eq text (string_bytes key)) keys i h.0 at).1 in
        let same : bytes_eq text (string_bytes h.0) ≡ true = ap (λ k. bytes_eq text (string_bytes k)) (sym h.3) ∙ passes in
        slice_get-map string_bytes keys i ∙ ap (option_map string_bytes) h.2 ∙ ap Some (sym (bytes_same text (string_bytes h.0) same))
    by (inr h) = absurd (omega arith)

-- ---- one more text

push_cases : (texts : List (List ℕ)) (text other : List ℕ) (i : ℕ) → slice_get (texts ++ text ∷ []) i ≡ Some other → (slice_get texts i ≡ Some other) ⊎ ((i ≡ length texts) × (text ≡ other))
push_cases [] text other zero at = inr (refl, same_Some text other at)
push_cases [] text other (suc i) at = absurd (none-some other at)
push_cases (x ∷ texts) text other zero at = inl at
push_cases (x ∷ texts) text other (suc i) at = elim (push_cases texts text other i at) [ inl h ↦ inl h | inr h ↦ inr (ap suc h.0, h.1) ]

-- a new text has the number of texts before it as its id
pub at-push : (texts : List (List ℕ)) (text : List ℕ) → slice_get (texts ++ text ∷ []) (length texts) ≡ Some text
at-push [] text = refl
at-push (x ∷ texts) text = at-push texts text

-- a table with room stays a table with one more text
pub IsTable-push : (texts : List (List ℕ)) (text : List ℕ) → IsTable texts → length texts < 2048 → (Contains texts text → ⊥) → IsTable (texts ++ text ∷ [])
IsTable-push texts text table room absent = record {
  few = omega (arith, length-append texts (text ∷ []));
  distinct = λ a b other ha hb. by a b other (push_cases texts text other a ha) (push_cases texts text other b hb);
}
  where
    by : (a b : ℕ) (other : List ℕ) → (slice_get texts a ≡ Some other) ⊎ ((a ≡ length texts) × (text ≡ other)) → (slice_get texts b ≡ Some other) ⊎ ((b ≡ length texts) × (text ≡ other)) → a ≡ b
    by a b other (inl ha) (inl hb) = table.distinct a b other ha hb
    by a b other (inl ha) (inr hb) = absurd (absent (subst (Contains texts) (sym hb.1) (Contains-at texts a other ha)))
    by a b other (inr ha) (inl hb) = absurd (absent (subst (Contains texts) (sym ha.1) (Contains-at texts b other hb)))
    by a b other (inr ha) (inr hb) = ha.0 ∙ sym hb.0

-- the keys after a new text's `insert`, as texts
pub texts-insert : {A : Type 0} (keys new : List (String A)) (key : String A) (text : List ℕ) → string_bytes key ≡ text → (Contains (map string_bytes keys) text → ⊥) → new ≡ insert_key string_eq keys key → map string_bytes new ≡ map string_bytes keys ++ text ∷ []
texts-insert keys new key text bytes absent is =
    let none : list_any (string_eq key) keys ≡ false = sym (list_any-texts (string_bytes key) keys) ∙ missing (map string_bytes keys) (string_bytes key) (λ there. absent (subst (Contains (map string_bytes keys)) bytes there)) in
    let last : new ≡ keys ++ key ∷ [] = is ∙ ap (λ b. if b then keys else keys ++ key ∷ []) none in
    ap (map string_bytes) last ∙ map-append string_bytes keys (key ∷ []) ∙ ap (λ t. map string_bytes keys ++ t ∷ []) bytes

-- ---- the order of texts

-- where a isn't before b, they are one or b is before a
pub before_back : (texts : List (List ℕ)) (a b : ℕ) → IsTable texts → a < length texts → b < length texts → (IsBefore texts a b → ⊥) → (a ≡ b) ⊎ IsBefore texts b a
before_back texts a b table la lb not_before = by (slice_cmp nat_cmp (text_of texts a) (text_of texts b)) refl
  where
    by : (r : Ordering) → slice_cmp nat_cmp (text_of texts a) (text_of texts b) ≡ r → (a ≡ b) ⊎ IsBefore texts b a
    by Less e = absurd (not_before e)
    by Equal e =
        let same : text_of texts a ≡ text_of texts b = bytes_same _ _ (sym (is_eq-slice_cmp (text_of texts a) (text_of texts b)) ∙ ap is_eq e) in
        inl (table.distinct a b (text_of texts b) (slice_get-get_or texts a [] la ∙ ap Some same) (slice_get-get_or texts b [] lb))
    by Greater e = inr (nat_list_cmp_total.antisymm (text_of texts b) (text_of texts a) ∙ ap ordering_reverse e)

-- the order is transitive, and no text is before itself
pub before_trans : (texts : List (List ℕ)) (a b d : ℕ) → IsBefore texts a b → IsBefore texts b d → IsBefore texts a d
before_trans texts a b d = nat_list_cmp_total.trans (text_of texts a) (text_of texts b) (text_of texts d)

pub before_irreflexive : (texts : List (List ℕ)) (a : ℕ) → IsBefore texts a a → ⊥
before_irreflexive texts a h = let e = sym (tied_itself nat_list_cmp_total (text_of texts a)) ∙ h in cc

-- what a look-up by place answers, as the text of the id
pub text_of-key : {A : Type 0} (keys : List (String A)) (id : ℕ) (key : String A) → id < length keys → key ≡ get_or keys id key → string_bytes key ≡ text_of (map string_bytes keys) id
text_of-key keys id key within is = ap string_bytes is ∙ sym (get_or-map string_bytes keys id key [] within)

on_false : (r : Bool) (P : Type 0) → (r ≡ false → P) → OnFalse r P
on_false true P h = tt
on_false false P h = h refl

-- where the comparison of two texts isn't `Less`, their ids are one or the second comes first
pub after_from_test : (texts : List (List ℕ)) (a b : ℕ) (x y : List ℕ) (o : Ordering) (r : Bool) → IsTable texts → a < length texts → b < length texts → x ≡ text_of texts a → y ≡ text_of texts b → o ≡ slice_cmp nat_cmp x y → r ≡ (ordering_index o == 0) → OnFalse r ((a ≡ b) ⊎ IsBefore texts b a)
after_from_test texts a b x y o r table la lb is_x is_y is_o is_r = on_false r _ (λ fails. before_back texts a b table la lb (λ less. by less fails))
  where
    by : IsBefore texts a b → r ≡ false → ⊥
    by less fails =
        let e : o ≡ Less = is_o ∙ ap (λ t. slice_cmp nat_cmp t y) is_x ∙ ap (slice_cmp nat_cmp (text_of texts a)) is_y ∙ less in
        true≢false (sym (is_r ∙ ap (λ p. ordering_index p == 0) e) ∙ fails)

-- ---- what a caller knows after `add`

-- an id keeps its text
pub at-with_text : (texts : List (List ℕ)) (text other : List ℕ) (id : ℕ) → slice_get texts id ≡ Some other → slice_get (with_text texts text) id ≡ Some other
at-with_text texts text other id at = by (list_any (bytes_eq text) texts) refl
  where
    kept : (xs : List (List ℕ)) (id : ℕ) → slice_get xs id ≡ Some other → slice_get (xs ++ text ∷ []) id ≡ Some other
    kept [] id at = absurd (none-some other at)
    kept (x ∷ xs) zero at = at
    kept (x ∷ xs) (suc id) at = kept xs id at

    by : (b : Bool) → list_any (bytes_eq text) texts ≡ b → slice_get (with_text texts text) id ≡ Some other
    by true e = ap (λ b. slice_get (if b then texts else texts ++ text ∷ []) id) e ∙ at
    by false e = ap (λ b. slice_get (if b then texts else texts ++ text ∷ []) id) e ∙ kept texts id at

-- and the table doesn't get shorter
pub length-with_text : (texts : List (List ℕ)) (text : List ℕ) → length texts ≤ length (with_text texts text)
length-with_text texts text = by (list_any (bytes_eq text) texts) refl
  where
    by : (b : Bool) → list_any (bytes_eq text) texts ≡ b → length texts ≤ length (with_text texts text)
    by true e = rw e (omega arith)
    by false e = rw e (omega (arith, length-append texts (text ∷ [])))

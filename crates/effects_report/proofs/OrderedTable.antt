-- A table of texts that ascend is these texts, in order.
use Rattle.std.proofs.Common.{◌≡◌, ℕ, ◌+◌, ◌<◌, min, List, [], ◌∷◌, ◌++◌, map, take, length, get_or, Contains, String, string_bytes, sym, ap, subst, ◌∙◌, arith}
use Rattle.std.specs.Cmp.Lexicographic.{slice_cmp}
use Rattle.std.specs.Ordering.{nat_cmp}
use Rattle.std.specs.declared.cmp.Ordering.TheVariants.{Less, Equal}
use Rattle.std.proofs.lemmas.Cmp.{nat_list_cmp_total, tied_itself}
use Rattle.std.proofs.lemmas.List.{get_or_default, get_or-map, get_or-take, length-map, length-take, map_more, take-map}
use Rattle.std.proofs.lemmas.Map.Keys.{Less-from_sorted}
use Rattle.name_sets.specs.Texts.{IsTable, with_text}
use Rattle.name_sets.proofs.TextLemmas.{with_text-absent}
use Rattle.c_tree.specs.BareExpr.{Bytes}
use Rattle.effects_report.specs.Tables.{Ascend, IsOrdered}

-- no text comes before itself
apart : (text : Bytes) → slice_cmp nat_cmp text text ≡ Less → ⊥
apart text less = let e : Equal ≡ Less = sym (tied_itself nat_list_cmp_total text) ∙ less in cc

-- so one that ascends isn't among those before it
absent : (texts : List Bytes) (i : ℕ) (d : Bytes) → Ascend texts → i < length texts → Contains (take i texts) (get_or texts i d) → ⊥
absent texts i d ascend within there =
    let j = there.0 in
    let short : j < length (take i texts) = there.1 in
    let l : length (take i texts) ≡ min i (length texts) = length-take i texts in
    let below : j < i = omega arith in
    let text = get_or texts i d in
    let item : get_or texts j text ≡ text = sym (get_or-take i texts j text below) ∙ there.2 in
    apart text
    (subst (λ t. slice_cmp nat_cmp t text ≡ Less) item
    (subst (λ t. slice_cmp nat_cmp (get_or texts j text) t ≡ Less) (get_or_default texts i text d within)
    (Less-from_sorted (slice_cmp nat_cmp) texts j i text ascend below within)))

-- a text more
pub ordered_more : {A : Type 0} (texts : List (String A)) (now : List Bytes) (i : ℕ) (item : String A) (text : Bytes)
    → i < length texts → item ≡ get_or texts i item → text ≡ string_bytes item → Ascend (map string_bytes texts)
    → now ≡ map string_bytes (take i texts) → with_text now text ≡ map string_bytes (take (i + 1) texts)
ordered_more texts now i item text within is bytes ascend so_far =
    with_text-absent now text none
    ∙ ap (λ ns. ns ++ text ∷ []) so_far
    ∙ ap (λ t. map string_bytes (take i texts) ++ t ∷ []) bytes_are
    ∙ sym (map_more string_bytes texts i item within)
  where
    all : List Bytes
    all = map string_bytes texts

    bytes_are : text ≡ string_bytes (get_or texts i item)
    bytes_are = bytes ∙ ap string_bytes is

    own : text ≡ get_or all i text
    own = bytes_are ∙ sym (get_or-map string_bytes texts i item text within)

    longer : i < length all
    longer = let long = length-map texts string_bytes in omega (arith, within, long)

    none : Contains now text → ⊥
    none there =
        absent all i text ascend longer
        (subst (Contains (take i all)) own (subst (λ ns. Contains ns text) (so_far ∙ sym (take-map string_bytes i texts)) there))

pub ordered : (names texts : List Bytes) → IsTable names → names ≡ texts → Ascend texts → IsOrdered names
ordered names texts table same ascend = record {
  table = table;
  before = λ a b less within.
      Less-from_sorted (slice_cmp nat_cmp) names a b [] (subst Ascend (sym same) ascend) less within;
}

-- Tables to which texts are added: what they have, and how many.
use Rattle.std.proofs.Common.{◌≡◌, ℕ, ◌+◌, ◌<◌, ◌≤◌, ◌↔◌, min, Bool, true, false, ◌||◌, List, [], ◌∷◌, ◌++◌, flat_map, map, take, drop, length, get_or, Contains, Some, slice_get, String, string_bytes, refl, sym, ap, subst, ◌∙◌, arith, add-one, bytes_eq, append_assoc, if◌then◌else◌, length-append}
use Rattle.std.specs.List.{IsDistinct}
use Rattle.std.specs.Cmp.Lexicographic.{slice_cmp}
use Rattle.std.specs.Ordering.{nat_cmp, is_eq}
use Rattle.std.proofs.lemmas.Bool.{false_from_ne_true}
use Rattle.std.proofs.lemmas.Cmp.{nat_list_eq_equiv}
use Rattle.std.proofs.lemmas.Grind.{flat_map-append}
use Rattle.std.proofs.Math.Seq.{take-suc}
use Rattle.std.proofs.lemmas.List.{append-nil, length-take, get_or-take, map-append, map_more, take-append-drop}
use Rattle.std.proofs.lemmas.List.Folds.{list_any-append}
use Rattle.std.proofs.lemmas.Map.Keys.{IsDistinct-push, IsDistinct-from_apart, Less-from_sorted}
use Rattle.std.proofs.lemmas.Map.Made.{length-from_same_keys}
use Rattle.std.proofs.lemmas.Map.Text.{is_eq-slice_cmp}
use Rattle.std.proofs.lemmas.Map.Views.{Contains-from_any, list_any-from_Contains}
use Rattle.std.proofs.lemmas.Option.{slice_get-get_or, slice_get_within, get_or_from_slice_get}
use Rattle.std.proofs.lemmas.Slice.Eq.{bytes_eq-Decides}
use Rattle.name_sets.specs.NameLists.{is_among, name_set}
use Rattle.name_sets.specs.Limit.{most_names}
use Rattle.name_sets.specs.Texts.{IsTable, with_text}
use Rattle.name_sets.proofs.TextLemmas.{with_text-absent}
use Rattle.c_tree.specs.BareExpr.{Bytes}
use Rattle.c_semantics.specs.Texts.{names}
use Rattle.c_semantics.specs.SourceTexts.{Text}
use Rattle.source_model.specs.Patches.{all_names}
use Rattle.sorted_names.proofs.Order.{set_ascends, among_set}
use Rattle.patch_build.specs.Tables.{with_texts}
use Rattle.patch_build.specs.Versions.{IsTableOf, Extends}

bytes_same : (x y : Bytes) → bytes_eq x y ≡ true → x ≡ y
bytes_same x y h = (bytes_eq-Decides x y).0 h

pub among : (names : List Bytes) (name : Bytes) → Contains names name → is_among names name ≡ true
among names name there = list_any-from_Contains nat_list_eq_equiv name names there

pub found : (names : List Bytes) (name : Bytes) → is_among names name ≡ true → Contains names name
found names name e = Contains-from_any bytes_same name names e

-- two lists with the same members have the same test
alike : (xs ys : List Bytes) (z : Bytes) → (Contains xs z ↔ Contains ys z) → is_among xs z ≡ is_among ys z
alike xs ys z h = by (is_among xs z) (is_among ys z) refl refl
  where
    by : (a b : Bool) → is_among xs z ≡ a → is_among ys z ≡ b → a ≡ b
    by true true ea eb = refl
    by false false ea eb = refl
    by true false ea eb = sym (among ys z (h.0 (found xs z ea))) ∙ eb
    by false true ea eb = sym ea ∙ among xs z (h.1 (found ys z eb))

same_members : (xs ys : List Bytes) (z : Bytes) → is_among xs z ≡ is_among ys z → Contains xs z ↔ Contains ys z
same_members xs ys z e = (
  λ there. found ys z (sym e ∙ among xs z there),
  λ there. found xs z (e ∙ among ys z there),
)

-- no text of a table is there twice
table_is_distinct : (texts : List Bytes) → IsTable texts → IsDistinct bytes_eq texts
table_is_distinct texts table = IsDistinct-from_apart bytes_eq texts (λ i j d a b. false_from_ne_true _ (λ e. absurd (twice i j d a b e)))
  where
    twice : (i j : ℕ) (d : Bytes) → i < j → j < length texts → bytes_eq (get_or texts i d) (get_or texts j d) ≡ true → ⊥
    twice i j d a b e =
        let same : get_or texts i d ≡ get_or texts j d = bytes_same _ _ e in
        let one : i ≡ j = table.distinct i j (get_or texts j d)
        (slice_get-get_or texts i d (omega arith) ∙ ap Some same) (slice_get-get_or texts j d b) in
        omega arith

-- nor one of a set
set_is_distinct : (ns : List Bytes) → IsDistinct bytes_eq (name_set ns)
set_is_distinct ns = IsDistinct-from_apart bytes_eq (name_set ns) (λ i j d a b.
    sym (is_eq-slice_cmp (get_or (name_set ns) i d) (get_or (name_set ns) j d))
    ∙ ap is_eq (Less-from_sorted (slice_cmp nat_cmp) (name_set ns) i j d (set_ascends ns) a b))

-- ---- a text more

among_cases : (names : List Bytes) (text : Bytes) (P : List Bytes → Type 0)
    → (is_among names text ≡ true → P names) → (is_among names text ≡ false → P (names ++ text ∷ [])) → P (with_text names text)
among_cases names text P there absent = by (is_among names text) refl
  where
    by : (b : Bool) → is_among names text ≡ b → P (with_text names text)
    by true e = subst P (ap (λ b. if b then names else names ++ text ∷ []) (sym e)) (there e)
    by false e = subst P (ap (λ b. if b then names else names ++ text ∷ []) (sym e)) (absent e)

distinct_with : (names : List Bytes) (text : Bytes) → IsDistinct bytes_eq names → IsDistinct bytes_eq (with_text names text)
distinct_with names text d =
    among_cases names text (IsDistinct bytes_eq) (λ e. d) (λ e. IsDistinct-push nat_list_eq_equiv names text d e)

or_true : (a b : Bool) → (b ≡ true → a ≡ true) → a ≡ (a || b)
or_true true b h = refl
or_true false true h = h refl
or_true false false h = refl

or_none : (a b : Bool) → (a || (b || false)) ≡ (a || b)
or_none true b = refl
or_none false true = refl
or_none false false = refl

among_with : (names : List Bytes) (text z : Bytes) → is_among (with_text names text) z ≡ (is_among names z || bytes_eq z text)
among_with names text z =
    among_cases names text (λ ns. is_among ns z ≡ (is_among names z || bytes_eq z text))
    (λ e. or_true (is_among names z) (bytes_eq z text) (λ same. ap (is_among names) (bytes_same z text same) ∙ e))
    (λ e. list_any-append (bytes_eq z) names (text ∷ []) ∙ or_none (is_among names z) (bytes_eq z text))

-- ---- several

pub distinct_with_texts : (names texts : List Bytes) → IsDistinct bytes_eq names → IsDistinct bytes_eq (with_texts names texts)
distinct_with_texts names [] d = d
distinct_with_texts names (text ∷ texts) d = distinct_with_texts (with_text names text) texts (distinct_with names text d)

or_assoc : (a b c : Bool) → ((a || b) || c) ≡ (a || (b || c))
or_assoc true b c = refl
or_assoc false b c = refl

or_last : (a : Bool) → a ≡ (a || false)
or_last true = refl
or_last false = refl

pub among_with_texts : (names texts : List Bytes) (z : Bytes)
    → is_among (with_texts names texts) z ≡ (is_among names z || is_among texts z)
among_with_texts names [] z = or_last (is_among names z)
among_with_texts names (text ∷ texts) z =
    among_with_texts (with_text names text) texts z
    ∙ ap (λ b. b || is_among texts z) (among_with names text z)
    ∙ or_assoc (is_among names z) (bytes_eq z text) (is_among texts z)

-- a table with texts added has those before in their places
extends_with : (names : List Bytes) (text : Bytes) → Extends names (with_text names text)
extends_with names text =
    among_cases names text (Extends names) (λ e. record { more = []; is = sym (append-nil names) })
    (λ e. record { more = text ∷ []; is = refl })

pub extends_with_texts : (names texts : List Bytes) → Extends names (with_texts names texts)
extends_with_texts names [] = record { more = []; is = sym (append-nil names) }
extends_with_texts names (text ∷ texts) =
    let first = extends_with names text in
    let rest = extends_with_texts (with_text names text) texts in
    record {
      more = first.more ++ rest.more;
      is = rest.is ∙ ap (λ ns. ns ++ rest.more) first.is ∙ append_assoc names first.more rest.more;
    }

-- so it doesn't get shorter
pub length_with_texts : (names texts : List Bytes) → length names ≤ length (with_texts names texts)
length_with_texts names texts =
    let e = extends_with_texts names texts in
    let n : length (with_texts names texts) ≡ length names + length e.more = ap length e.is ∙ length-append names e.more in
    omega arith

-- ---- the names of all versions

pub among_all : (texts : List Text) (q : Text) (z : Bytes)
    → is_among (all_names (texts ++ q ∷ [])) z ≡ (is_among (all_names texts) z || is_among (names q.definitions) z)
among_all texts q z =
    let each : Text → List Bytes = λ t. names t.definitions in
    among_set z (flat_map each (texts ++ q ∷ []))
    ∙ ap (λ ns. is_among ns z) (flat_map-append each texts (q ∷ []))
    ∙ list_any-append (bytes_eq z) (flat_map each texts) (each q ++ [])
    ∙ ap (λ ns. is_among (flat_map each texts) z || is_among ns z) (append-nil (each q))
    ∙ ap (λ b. b || is_among (each q) z) (sym (among_set z (flat_map each texts)))

all_alike : (texts : List Text) (q : Text) (old : List Bytes) (z : Bytes) → IsTableOf (all_names texts) old
    → is_among (with_texts old (name_set (names q.definitions))) z ≡ is_among (all_names (texts ++ q ∷ [])) z
all_alike texts q old z of =
    among_with_texts old (name_set (names q.definitions)) z
    ∙ ap (λ b. b || is_among (name_set (names q.definitions)) z) (alike old (all_names texts) z (of.members z))
    ∙ ap (λ b. is_among (all_names texts) z || b) (among_set z (names q.definitions))
    ∙ sym (among_all texts q z)

-- a table of the names so far with those of a text added has the names of all, and as many
pub table_of_all : (texts : List Text) (q : Text) (old : List Bytes) → IsTableOf (all_names texts) old
    → IsTable (with_texts old (name_set (names q.definitions)))
    → IsTableOf (all_names (texts ++ q ∷ [])) (with_texts old (name_set (names q.definitions)))
table_of_all texts q old of table = record {
  table_is = table;
  members = λ z. same_members _ _ z (all_alike texts q old z of);
}

pub number_of_all : (texts : List Text) (q : Text) (old : List Bytes) → IsTableOf (all_names texts) old
    → length (with_texts old (name_set (names q.definitions))) ≡ length (all_names (texts ++ q ∷ []))
number_of_all texts q old of =
    length-from_same_keys nat_list_eq_equiv (with_texts old (name_set (names q.definitions))) (all_names (texts ++ q ∷ []))
    (distinct_with_texts old (name_set (names q.definitions)) (table_is_distinct old of.table_is))
    (set_is_distinct (flat_map (λ t. names t.definitions) (texts ++ q ∷ [])))
    (λ z. all_alike texts q old z of)

-- ---- the steps of loops

-- a copy of a table with one text more
pub copied_more : (texts : List Bytes) (i id : ℕ) (text : Bytes) → IsTable texts → id ≡ i → slice_get texts id ≡ Some text
    → with_text (take i texts) text ≡ take (i + 1) texts
copied_more texts i id text table same at =
    with_text-absent (take i texts) text absent ∙ sym more
  where
    here : slice_get texts i ≡ Some text
    here = ap (slice_get texts) (sym same) ∙ at

    within : i < length texts
    within = slice_get_within texts i text here

    absent : Contains (take i texts) text → ⊥
    absent there =
        let j = there.0 in
        let short : j < length (take i texts) = there.1 in
        let l : length (take i texts) ≡ min i (length texts) = length-take i texts in
        let below : j < i = omega arith in
        let item : get_or texts j text ≡ text = sym (get_or-take i texts j text below) ∙ there.2 in
        let one : j ≡ i = table.distinct j i text (slice_get-get_or texts j text (omega arith) ∙ ap Some item) here in
        absurd (omega arith)

    more : take (i + 1) texts ≡ take i texts ++ text ∷ []
    more = ap (λ k. take k texts) (add-one i) ∙ take-suc texts i text within ∙ ap (λ t. take i texts ++ t ∷ []) (get_or_from_slice_get texts i text text here)

with_texts_append : (names xs ys : List Bytes) → with_texts names (xs ++ ys) ≡ with_texts (with_texts names xs) ys
with_texts_append names [] ys = refl
with_texts_append names (x ∷ xs) ys = with_texts_append (with_text names x) xs ys

-- a table with one text more of those that are added
pub added_more : {A : Type 0} (old now : List Bytes) (texts : List (String A)) (i : ℕ) (item : String A) (text : Bytes)
    → i < length texts → item ≡ get_or texts i item → text ≡ string_bytes item
    → now ≡ with_texts old (map string_bytes (take i texts))
    → with_text now text ≡ with_texts old (map string_bytes (take (i + 1) texts))
added_more old now texts i item text l is bytes so_far =
    ap (λ t. with_text now t) (bytes ∙ ap string_bytes is)
    ∙ ap (λ ns. with_text ns (string_bytes (get_or texts i item))) so_far
    ∙ sym (with_texts_append old (map string_bytes (take i texts)) (string_bytes (get_or texts i item) ∷ []))
    ∙ ap (with_texts old) (sym (map_more string_bytes texts i item l))

-- where a full table lacks one of them, they are too many
pub too_many : {A : Type 0} (old now : List Bytes) (texts : List (String A)) (i : ℕ) (item : String A) (text : Bytes)
    → i < length texts → item ≡ get_or texts i item → text ≡ string_bytes item
    → now ≡ with_texts old (map string_bytes (take i texts))
    → length now ≡ most_names → (Contains now text → ⊥)
    → most_names < length (with_texts old (map string_bytes texts))
too_many old now texts i item text l is bytes so_far full absent =
    let next = added_more old now texts i item text l is bytes so_far in
    let longer : length (with_text now text) ≡ length now + 1 =
    ap length (with_text-absent now text absent) ∙ length-append now (text ∷ []) in
    let rest = map string_bytes (drop (i + 1) texts) in
    let parts : with_texts old (map string_bytes texts) ≡ with_texts (with_text now text) rest =
    ap (λ ts. with_texts old (map string_bytes ts)) (sym (take-append-drop (i + 1) texts))
    ∙ ap (with_texts old) (map-append string_bytes (take (i + 1) texts) (drop (i + 1) texts))
    ∙ with_texts_append old (map string_bytes (take (i + 1) texts)) rest
    ∙ ap (λ ns. with_texts ns rest) (sym next) in
    let grows : length (with_text now text) ≤ length (with_texts (with_text now text) rest) = length_with_texts (with_text now text) rest in
    let same : length (with_texts old (map string_bytes texts)) ≡ length (with_texts (with_text now text) rest) = ap length parts in
    omega arith

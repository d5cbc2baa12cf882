-- The tables of a run are those of its texts: the first table, and each next one.
use Rattle.std.proofs.Common.{◌≡◌, ℕ, zero, suc, ◌<◌, ◌≤◌, ◌⊎◌, inl, inr, true, List, [], ◌∷◌, ◌++◌, length, length-append, codes, is_some, Option, Some, None, refl, sym, ap, subst, ◌∙◌, arith, le_antisymm}
use Rattle.std.proofs.lemmas.List.{get_or_past, get_or_append_left}
use Rattle.std.proofs.Math.Seq.{get_or-append_seam}
use Rattle.c_tree.specs.BareExpr.{Bytes}
use Rattle.c_tree.specs.BareDef.{BareDef}
use Rattle.c_semantics.specs.Texts.{definition}
use Rattle.source_model.specs.Versions.{Table, in_version, current, next_table}
use Rattle.source_model.specs.JournalLaws.{HasMain}
use Rattle.version_laws.specs.Histories.{Alike, IsHistory, text_in, last_text}
use Rattle.version_laws.specs.HistoryLaws.{FirstHistory, NextHistory, RightByTexts}
use Rattle.version_laws.proofs.SameDefinitions.{interfaces_alike}
use Rattle.version_laws.proofs.NextVersions.{older_as_before, newest_as_text, none_later, defined_by_current, current_at_most, first_is_next}

-- ---- the texts by their versions

pub text_as_before : (texts : List (List BareDef)) (q : List BareDef) (n : ℕ) → n ≤ length texts
    → text_in (texts ++ q ∷ []) n ≡ text_in texts n
text_as_before texts q zero h = refl
text_as_before texts q (suc n) h = get_or_append_left texts (q ∷ []) [] n (omega (arith, h))

pub text_of_next : (texts : List (List BareDef)) (q : List BareDef) → text_in (texts ++ q ∷ []) (suc (length texts)) ≡ q
text_of_next texts q = get_or-append_seam texts q [] []

pub one_longer : (texts : List (List BareDef)) (q : List BareDef) → length (texts ++ q ∷ []) ≡ suc (length texts)
one_longer texts q = let sum = length-append texts (q ∷ []) in omega (arith, sum)

pub last_is_next : (texts : List (List BareDef)) (q : List BareDef) → last_text (texts ++ q ∷ []) ≡ q
last_is_next texts q = ap (text_in (texts ++ q ∷ [])) (one_longer texts q) ∙ text_of_next texts q

pub no_text_later : (texts : List (List BareDef)) (n : ℕ) → length texts < n → text_in texts n ≡ []
no_text_later texts zero h = refl
no_text_later texts (suc n) h = get_or_past texts n [] (omega (arith, h))

-- ---- the next table

defined_in : (o u : Option BareDef) → Alike o u → is_some u ≡ true → is_some o ≡ true
defined_in None None h i = i
defined_in None (Some b) h i = absurd h
defined_in (Some a) u h i = refl

-- the last text is that of the current version
pub last_as_current : (texts : List (List BareDef)) (table : Table) → IsHistory texts table → (name : Bytes)
    → Alike (in_version table (current table) name) (definition (last_text texts) name)
last_as_current texts table h name =
    subst (λ n. Alike (in_version table (current table) name) (definition (text_in texts n) name)) h.count (h.alike (current table) name)

next_newest : (texts : List (List BareDef)) (table : Table) (q : List BareDef) → IsHistory texts table → (name : Bytes)
    → Alike (in_version (next_table (current table) (last_text texts) q table) (suc (length texts)) name)
    (definition (text_in (texts ++ q ∷ []) (suc (length texts))) name)
next_newest texts table q h name =
    subst (λ text. Alike (in_version (next_table (current table) (last_text texts) q table) (suc (length texts)) name) (definition text name))
    (sym (text_of_next texts q))
    (subst (λ n. Alike (in_version (next_table (current table) (last_text texts) q table) (suc n) name) (definition q name)) h.count
    (newest_as_text (last_text texts) q table name (last_as_current texts table h name)))

next_count : (texts : List (List BareDef)) (table : Table) (q : List BareDef) → IsHistory texts table → HasMain q
    → current (next_table (current table) (last_text texts) q table) ≡ suc (length texts)
next_count texts table q h main =
    le_antisymm
    (subst (λ n. current (next_table (current table) (last_text texts) q table) ≤ suc n) h.count (current_at_most (last_text texts) q table))
    (defined_by_current (next_table (current table) (last_text texts) q table) (suc (length texts)) (codes "main")
    (defined_in (in_version (next_table (current table) (last_text texts) q table) (suc (length texts)) (codes "main")) _
    (next_newest texts table q h (codes "main"))
    (ap (λ text. is_some (definition text (codes "main"))) (text_of_next texts q) ∙ main)))

next_older : (texts : List (List BareDef)) (table : Table) (q : List BareDef) → IsHistory texts table → (n : ℕ) (name : Bytes)
    → n ≤ length texts
    → Alike (in_version (next_table (current table) (last_text texts) q table) n name) (definition (text_in (texts ++ q ∷ []) n) name)
next_older texts table q h n name le =
    subst (λ text. Alike (in_version (next_table (current table) (last_text texts) q table) n name) (definition text name))
    (sym (text_as_before texts q n le))
    (subst (λ o. Alike o (definition (text_in texts n) name))
    (sym (older_as_before (current table) (last_text texts) q table n name (subst (λ m. n ≤ m) (sym h.count) le))) (h.alike n name))

next_later : (texts : List (List BareDef)) (table : Table) (q : List BareDef) → IsHistory texts table → HasMain q → (n : ℕ) (name : Bytes)
    → suc (length texts) < n
    → Alike (in_version (next_table (current table) (last_text texts) q table) n name) (definition (text_in (texts ++ q ∷ []) n) name)
next_later texts table q h main n name less =
    subst (λ o. Alike o (definition (text_in (texts ++ q ∷ []) n) name))
    (sym (none_later (next_table (current table) (last_text texts) q table) n name
    (subst (λ m. m < n) (sym (next_count texts table q h main)) less)))
    (subst (λ text. Alike None (definition text name))
    (sym (no_text_later (texts ++ q ∷ []) n (subst (λ m. m < n) (sym (one_longer texts q)) less))) tt)

where_it_lies : (n m : ℕ) → (n ≤ m) ⊎ ((n ≡ suc m) ⊎ (suc m < n))
where_it_lies zero m = inl (omega arith)
where_it_lies (suc n) zero = by n
  where
    by : (k : ℕ) → (suc k ≤ 0) ⊎ ((suc k ≡ 1) ⊎ (1 < suc k))
    by zero = inr (inl refl)
    by (suc k) = inr (inr (omega arith))
where_it_lies (suc n) (suc m) = by (where_it_lies n m)
  where
    by : (n ≤ m) ⊎ ((n ≡ suc m) ⊎ (suc m < n)) → (suc n ≤ suc m) ⊎ ((suc n ≡ suc (suc m)) ⊎ (suc (suc m) < suc n))
    by (inl h) = inl (omega (arith, h))
    by (inr (inl h)) = inr (inl (ap suc h))
    by (inr (inr h)) = inr (inr (omega (arith, h)))

pub next_history : NextHistory
next_history texts table q h main = record {
  count = next_count texts table q h main ∙ sym (one_longer texts q);
  alike = λ n name. by n name (where_it_lies n (length texts));
}
  where
    by : (n : ℕ) (name : Bytes) → (n ≤ length texts) ⊎ ((n ≡ suc (length texts)) ⊎ (suc (length texts) < n))
        → Alike (in_version (next_table (current table) (last_text texts) q table) n name) (definition (text_in (texts ++ q ∷ []) n) name)
    by n name (inl le) = next_older texts table q h n name le
    by n name (inr (inl is)) =
        subst (λ m. Alike (in_version (next_table (current table) (last_text texts) q table) m name) (definition (text_in (texts ++ q ∷ []) m) name))
        (sym is) (next_newest texts table q h name)
    by n name (inr (inr less)) = next_later texts table q h main n name less

-- ---- the first table

-- before the first text there are no versions
no_history : IsHistory [] []
no_history = record { count = refl; alike = by }
  where
    by : (n : ℕ) (name : Bytes) → Alike None (definition (text_in [] n) name)
    by zero name = tt
    by (suc n) name = tt

pub first_history : FirstHistory
first_history text main = subst (IsHistory (text ∷ [])) (sym (first_is_next text)) (next_history [] [] text no_history main)

-- ---- uses

pub right_by_texts : RightByTexts
right_by_texts texts table h n name =
    interfaces_alike (in_version table n name) (definition (text_in texts n) name) (in_version table (current table) name)
    (definition (last_text texts) name) (h.alike n name) (last_as_current texts table h name)

-- What is kept of the texts of a run where a text follows, and where the last one is forgotten.
use Rattle.std.proofs.Common.{◌≡◌, ℕ, zero, suc, ◌+◌, ◌-◌, ◌<◌, ◌⊎◌, inl, inr, ◌||◌, List, [], ◌∷◌, ◌++◌, length, length-append, map, slice_get, get_or, Option, Some, None, refl, sym, ap, ap₂, subst, ◌∙◌, arith, if◌then◌else◌}
use Rattle.std.specs.List.{list_any}
use Rattle.std.specs.Option.{option_to_list}
use Rattle.std.proofs.lemmas.List.Folds.{list_any-append}
use Rattle.std.proofs.lemmas.Option.{none-some, same_Some, slice_get-get_or, slice_get_within}
use Rattle.c_tree.specs.BareExpr.{Bytes}
use Rattle.c_tree.specs.BareDef.{BareDef}
use Rattle.name_sets.specs.NameLists.{is_among}
use Rattle.c_semantics.specs.Names.{struct_name}
use Rattle.version_laws.specs.Histories.{text_in, last_text}
use Rattle.version_laws.proofs.TableHistories.{text_as_before, text_of_next, one_longer}
use Rattle.version_spans.specs.declared.names.NameForm.{NameForm as Form}
use Rattle.version_spans.specs.declared.names.NameForm.TheVariants.{Plain, Struct}
use Rattle.version_spans.specs.declared.names.NameSet.{NameSet}
use Rattle.version_spans.specs.declared.began.Began.{Began}
use Rattle.version_spans.specs.Beginnings.{differ, began_by}
use Rattle.version_spans.specs.Kept.{AreBeginnings, AreDifferences, name_of, names_in, texts_in}
use Rattle.version_spans.proofs.AmongTexts.{any_alike, any_mapped}

get_pushed : (xs : List NameSet) (x y : NameSet) (i : ℕ) → slice_get (xs ++ x ∷ []) i ≡ Some y
    → (slice_get xs i ≡ Some y) ⊎ ((i ≡ length xs) × (x ≡ y))
get_pushed [] x y zero h = inr (refl, same_Some x y h)
get_pushed [] x y (suc i) h = absurd (none-some y h)
get_pushed (z ∷ xs) x y zero h = inl h
get_pushed (z ∷ xs) x y (suc i) h = by (get_pushed xs x y i h)
  where
    by : (slice_get xs i ≡ Some y) ⊎ ((i ≡ length xs) × (x ≡ y)) → (slice_get xs i ≡ Some y) ⊎ ((suc i ≡ suc (length xs)) × (x ≡ y))
    by (inl at) = inl at
    by (inr (is, same)) = inr (ap suc is, same)

get_kept : (xs ys : List NameSet) (i : ℕ) (x : NameSet) → slice_get xs i ≡ Some x → slice_get (xs ++ ys) i ≡ Some x
get_kept [] ys i x h = absurd (none-some x h)
get_kept (z ∷ xs) ys zero x h = h
get_kept (z ∷ xs) ys (suc i) x h = get_kept xs ys i x h

get_last : (xs : List NameSet) (x : NameSet) → slice_get (xs ++ x ∷ []) (length xs) ≡ Some x
get_last [] x = refl
get_last (y ∷ xs) x = get_last xs x

-- a newer text with the names on which it differs from the last one
pub are_pushed : (texts : List (List BareDef)) (q : List BareDef) (b new : Began) (s : NameSet)
    → new.differences.items ≡ b.differences.items ++ s ∷ [] → AreBeginnings texts b → AreDifferences (last_text texts) q s
    → AreBeginnings (texts ++ q ∷ []) new
are_pushed texts q b new s items h last = record {
  count =
      ap length items ∙ length-append b.differences.items (s ∷ []) ∙ ap (λ n. n + 1) h.count ∙ sym (length-append texts (q ∷ []));
  each = λ n t at. by n t (get_pushed b.differences.items s t n (ap (λ l. slice_get l n) (sym items) ∙ at));
}
  where
    at_last : (t : NameSet) (n : ℕ) → n ≡ length texts → AreDifferences (last_text texts) q t
        → AreDifferences (text_in (texts ++ q ∷ []) n) (text_in (texts ++ q ∷ []) (suc n)) t
    at_last t n is d =
        subst (λ k. AreDifferences (text_in (texts ++ q ∷ []) k) (text_in (texts ++ q ∷ []) (suc k)) t) (sym is)
        (subst (λ a. AreDifferences a (text_in (texts ++ q ∷ []) (suc (length texts))) t) (sym (text_as_before texts q (length texts) (omega arith)))
        (subst (λ a. AreDifferences (last_text texts) a t) (sym (text_of_next texts q)) d))

    before : (t : NameSet) (n : ℕ) → n < length texts → AreDifferences (text_in texts n) (text_in texts (suc n)) t
        → AreDifferences (text_in (texts ++ q ∷ []) n) (text_in (texts ++ q ∷ []) (suc n)) t
    before t n less d =
        subst (λ a. AreDifferences a (text_in (texts ++ q ∷ []) (suc n)) t) (sym (text_as_before texts q n (omega (arith, less))))
        (subst (λ a. AreDifferences (text_in texts n) a t) (sym (text_as_before texts q (suc n) (omega (arith, less)))) d)

    by : (n : ℕ) (t : NameSet) → (slice_get b.differences.items n ≡ Some t) ⊎ ((n ≡ length b.differences.items) × (s ≡ t))
        → AreDifferences (text_in (texts ++ q ∷ []) n) (text_in (texts ++ q ∷ []) (suc n)) t
    by n t (inl at) =
        before t n (subst (λ k. n < k) h.count (slice_get_within b.differences.items n t at)) (h.each n t at)
    by n t (inr (is, same)) = at_last t n (is ∙ h.count) (subst (AreDifferences (last_text texts) q) same last)

-- the last text forgotten
pub are_popped : (texts : List (List BareDef)) (q : List BareDef) (b new : Began) (o : Option NameSet)
    → b.differences.items ≡ new.differences.items ++ option_to_list o → (o ≡ None → length b.differences.items ≡ 0)
    → AreBeginnings (texts ++ q ∷ []) b → AreBeginnings texts new
are_popped texts q b new None items none h = absurd (nothing (none refl) (h.count ∙ one_longer texts q))
  where
    nothing : length b.differences.items ≡ 0 → length b.differences.items ≡ suc (length texts) → ⊥
    nothing zero_is suc_is = omega (arith, zero_is, suc_is)
are_popped texts q b new (Some s) items none h = record {
  count = count;
  each = λ n t at. before t n (subst (λ k. n < k) count (slice_get_within new.differences.items n t at))
      (h.each n t (ap (λ l. slice_get l n) items ∙ get_kept new.differences.items (s ∷ []) n t at));
}
  where
    count : length new.differences.items ≡ length texts
    count =
        let all = h.count in
        let more = one_longer texts q in
        let parts = ap length items in
        let sum = length-append new.differences.items (s ∷ []) in
        omega (arith, all, more, parts, sum)

    before : (t : NameSet) (n : ℕ) → n < length texts
        → AreDifferences (text_in (texts ++ q ∷ []) n) (text_in (texts ++ q ∷ []) (suc n)) t
        → AreDifferences (text_in texts n) (text_in texts (suc n)) t
    before t n less d =
        subst (λ a. AreDifferences a (text_in texts (suc n)) t) (text_as_before texts q n (omega (arith, less)))
        (subst (λ a. AreDifferences (text_in (texts ++ q ∷ []) n) a t) (text_as_before texts q (suc n) (omega (arith, less))) d)

-- a version whose text differs on a name from the one before
pub began_here : (texts : List (List BareDef)) (b : Began) (s : NameSet) (form : Form) (text : Bytes) (n version : ℕ)
    → AreBeginnings texts b → version ≡ suc n → slice_get b.differences.items n ≡ Some s
    → began_by texts (name_of form text) version
    ≡ (if is_among (texts_in s form) text then version else began_by texts (name_of form text) n)
began_here texts b s form text n version h is at =
    ap (began_by texts (name_of form text)) is
    ∙ ap (λ d. if d then suc n else began_by texts (name_of form text) n) (sym (h.each n s at form text))
    ∙ ap (λ v. if is_among (texts_in s form) text then v else began_by texts (name_of form text) n) (sym is)

-- whether the last text differs on one of some names
pub some_differ : (texts : List (List BareDef)) (q : List BareDef) (b : Began) (s names : NameSet)
    → AreBeginnings (texts ++ q ∷ []) b → slice_get b.differences.items (length b.differences.items - 1) ≡ Some s
    → (list_any (is_among s.plain) names.plain || list_any (is_among s.tags) names.tags) ≡ list_any (differ (last_text texts) q) (names_in names)
some_differ texts q b s names h at =
    ap₂ (λ x y. x || y)
    (any_alike (is_among s.plain) (differ (last_text texts) q) (last Plain) names.plain)
    (any_alike (is_among s.tags) (λ t. differ (last_text texts) q (struct_name t)) (last Struct) names.tags
    ∙ sym (any_mapped (differ (last_text texts) q) struct_name names.tags))
    ∙ sym (list_any-append (differ (last_text texts) q) names.plain (map struct_name names.tags))
  where
    place : length b.differences.items - 1 ≡ length texts
    place = let all = h.count in let more = one_longer texts q in omega (arith, all, more)

    last : AreDifferences (last_text texts) q s
    last =
        subst (λ a. AreDifferences a q s) (text_as_before texts q (length texts) (omega arith))
        (subst (λ a. AreDifferences (text_in (texts ++ q ∷ []) (length texts)) a s) (text_of_next texts q)
        (h.each (length texts) s (ap (slice_get b.differences.items) (sym place) ∙ at)))

-- there is a last text
pub some_last : (texts : List (List BareDef)) (q : List BareDef) (b : Began)
    → AreBeginnings (texts ++ q ∷ []) b → slice_get b.differences.items (length b.differences.items - 1) ≡ None → ⊥
some_last texts q b h at = there b.differences.items (h.count ∙ one_longer texts q) at
  where
    there : (xs : List NameSet) → length xs ≡ suc (length texts) → slice_get xs (length xs - 1) ≡ None → ⊥
    there xs is none =
        none-some (get_or xs (length xs - 1) (record { plain = []; tags = [] }))
        (sym none ∙ slice_get-get_or xs (length xs - 1) (record { plain = []; tags = [] }) (omega (arith, is)))

-- what is kept is that of the texts by its items
pub same_items : (texts : List (List BareDef)) (b new : Began) → new.differences.items ≡ b.differences.items
    → AreBeginnings texts b → AreBeginnings texts new
same_items texts b new items h = record {
  count = ap length items ∙ h.count;
  each = λ n s at. h.each n s (ap (λ l. slice_get l n) (sym items) ∙ at);
}

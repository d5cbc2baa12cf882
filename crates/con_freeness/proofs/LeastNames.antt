-- The least common id of two sets is that of the least common name.
use Rattle.std.proofs.Common.{◌≡◌, ℕ, ◌<◌, true, List, [], Option, Some, None, ◌⊎◌, inl, inr, length, refl, sym, ap, subst, ◌∙◌}
use Rattle.std.specs.Prelude.{find, option_map, slice_get, bytes_eq}
use Rattle.std.specs.declared.cmp.Ordering.TheVariants.{Less}
use Rattle.std.proofs.lemmas.Bool.{cases_eq}
use Rattle.std.proofs.lemmas.Cmp.{nat_list_cmp_total, tied_itself}
use Rattle.std.proofs.lemmas.Option.{slice_get-get_or, get_or_from_slice_get}
use Rattle.name_sets.specs.IdSet.{Holds, IsCommon}
use Rattle.name_sets.specs.Least.{IsLeastOf, TellsLeast}
use Rattle.name_sets.specs.NameLists.{is_among, name_set}
use Rattle.name_sets.specs.Texts.{IsTable, IsBefore, text_of}
use Rattle.con_freeness.specs.Rows.{Names, least_common}
use Rattle.con_freeness.specs.Decisions.{IsListOf}
use Rattle.con_freeness.proofs.NameOrder.{order, Finds, finds_in_set, name_set_any}

module _ (table : Names) (a b : ℕ) (x y : Names) (is_table : IsTable table) (is_x : IsListOf table a x) (is_y : IsListOf table b y)
    (known : (id : ℕ) → IsCommon a b id → id < length table) where
  at_text : (id : ℕ) → IsCommon a b id → slice_get table id ≡ Some (text_of table id)
  at_text id h = slice_get-get_or table id [] (known id h)

  -- the text of a common id is in both lists
  in_first : (id : ℕ) → IsCommon a b id → is_among (name_set x) (text_of table id) ≡ true
  in_first id h = name_set_any (bytes_eq (text_of table id)) x ∙ (is_x.same (text_of table id)).1 (id, at_text id h, h.0)

  in_second : (id : ℕ) → IsCommon a b id → is_among y (text_of table id) ≡ true
  in_second id h = (is_y.same (text_of table id)).1 (id, at_text id h, h.1)

  -- a name in both lists has a common id
  common : (z : List ℕ) → is_among (name_set x) z ≡ true → is_among y z ≡ true
      → (id : ℕ) × (slice_get table id ≡ Some z) × IsCommon a b id
  common z first second =
      let i = (is_x.same z).0 (sym (name_set_any (bytes_eq z) x) ∙ first) in
      let j = (is_y.same z).0 second in
      (i.0, i.1, (i.2, subst (λ k. Holds b k) (is_table.distinct j.0 i.0 z j.1 i.1) j.2))

  not_before : (z : List ℕ) → order z z ≡ Less → ⊥
  not_before z e = let equal = sym (tied_itself nat_list_cmp_total z) ∙ e in cc

  same_name : (n : ℕ) (z : List ℕ) → IsLeastOf table (IsCommon a b) n → Finds (is_among y) (name_set x) (Some z) → text_of table n ≡ z
  same_name n z least found = by (common z found.among found.passes)
    where
      after : (id : ℕ) → text_of table id ≡ z → IsBefore table n id
          → (text_of table n ≡ z) ⊎ (order z (text_of table n) ≡ Less) → text_of table n ≡ z
      after id is before (inl e) = e
      after id is before (inr other) =
          absurd (not_before z (nat_list_cmp_total.trans z (text_of table n) z other (subst (λ t. order (text_of table n) t ≡ Less) is before)))

      cases : (id : ℕ) → slice_get table id ≡ Some z → IsCommon a b id → (id ≡ n) ⊎ (id ≡ n → ⊥) → text_of table n ≡ z
      cases id at both (inl same) = ap (text_of table) (sym same) ∙ get_or_from_slice_get table id z [] at
      cases id at both (inr apart) =
          after id (get_or_from_slice_get table id z [] at) (least.least id both apart)
          (found.least (text_of table n) (in_first n least.member) (in_second n least.member))

      by : (id : ℕ) × (slice_get table id ≡ Some z) × IsCommon a b id → text_of table n ≡ z
      by c = cases c.0 c.1 c.2 (cases_eq c.0 n)

  pub least_is : (r : Option ℕ) → TellsLeast table (IsCommon a b) r → option_map (text_of table) r ≡ least_common x y
  least_is r tells = by r (find (is_among y) (name_set x)) tells (finds_in_set (is_among y) x)
    where
      by : (r : Option ℕ) (o : Option (List ℕ)) → TellsLeast table (IsCommon a b) r → Finds (is_among y) (name_set x) o
          → option_map (text_of table) r ≡ o
      by None None none found = refl
      by None (Some z) none found = let c = common z found.among found.passes in absurd (none c.0 c.2)
      by (Some n) None least found = absurd (found (text_of table n) (in_first n least.member) (in_second n least.member))
      by (Some n) (Some z) least found = ap Some (same_name n z least found)

-- Tables by the numbers of names.
use Rattle.std.proofs.Common.{◌≡◌, ◌≤◌, ◌<◌, ◌+◌, inl, inr, ℕ, Bool, true, false, ◌==◌, List, [], ◌∷◌, ◌++◌, length, Option, Some, refl, sym, ap, subst, ◌∙◌, arith}
use Rattle.std.specs.Prelude.{Contains, ◌||◌, slice_get}
use Rattle.std.specs.Option.{option_flatten}
use Rattle.std.proofs.lemmas.List.{length-append}
use Rattle.std.proofs.lemmas.List.Folds.{list_any-append}
use Rattle.std.proofs.lemmas.Bool.{cases_eq, eq-eqb, ne_eqb, or_right}
use Rattle.std.proofs.lemmas.Option.{same_Some, slice_get_within}
use Rattle.c_tree.specs.BareExpr.{Bytes}
use Rattle.c_tree.specs.BareDef.{BareDef}
use Rattle.code_runs.specs.CodeData.{Names, number_of}
use Rattle.word_installs.specs.Prepared.{has_number}
use Rattle.image_load.specs.declared.text_data.TextData.{TextData}
use Rattle.image_load.specs.TextTables.{HaveNumbers, HaveRows, HaveTables, IsDataOf}
use Rattle.image_load.proofs.Lists.{is_last, still_there}
use Rattle.image_load.proofs.NameLists.{at_cases, at_number}

module _ {X : Type 0} (Is : Bytes → Option X → Type 0) (names : List Bytes) (rows : List (Option X)) (have : HaveRows Is names rows) where
  -- what a name has in a table
  pub rows_at : (name : Bytes) → Contains names name → Is name (option_flatten (slice_get rows (number_of names name)))
  rows_at name there = have.each (number_of names name) name (at_number names name there)

  -- one name more
  pub more_rows : (name : Bytes) (x : Option X) → Is name x → HaveRows Is (names ++ name ∷ []) (rows ++ x ∷ [])
  more_rows name x own = record {
    many = let many = have.many in omega (arith, many, length-append rows (x ∷ []), length-append names (name ∷ []));
    each = λ k other at.
        elim (at_cases names name other k at) [
          | inl before ↦
              let within : k < length rows = subst (λ n. k < n) (sym have.many) (slice_get_within names k other before) in
              subst (λ (o : Option (Option X)). Is other (option_flatten o)) (sym (still_there rows (x ∷ []) k within)) (have.each k other before)
          | inr last ↦
              subst (λ (o : Option (Option X)). Is other (option_flatten o)) (sym (is_last rows x k (last.0 ∙ sym have.many)))
              (subst (λ (n : Bytes). Is n x) last.1 own)
        ];
  }

-- ---- numbers of names

-- those of the names before a place
pub record NumbersTo (test : Bytes → Bool) (names : List Bytes) (place : ℕ) (ns : List ℕ) : Type 0 where
  pub each : (k : ℕ) (name : Bytes) → k < place → slice_get names k ≡ Some name → has_number ns k ≡ test name
  pub below : (k : ℕ) → place ≤ k → has_number ns k ≡ false

pub no_numbers : (test : Bytes → Bool) (names : List Bytes) → NumbersTo test names 0 []
no_numbers test names = record { each = λ k name l at. absurd (omega (arith, l)); below = λ k l. refl }

-- the number of one more, or not
module _ (test : Bytes → Bool) (names : List Bytes) (place : ℕ) (ns : List ℕ) (h : NumbersTo test names place ns) (own : Bytes)
    (here : slice_get names place ≡ Some own) where
  pub number_out : test own ≡ false → NumbersTo test names (place + 1) ns
  number_out out = record {
    each = λ k name l at.
        elim (cases_eq k place) [
          | inl same ↦
              let is : own ≡ name = same_Some _ _ (sym here ∙ ap (slice_get names) (sym same) ∙ at) in
              h.below k (omega (arith, same)) ∙ sym out ∙ ap test is
          | inr differs ↦ h.each k name (omega arith) at
        ];
    below = λ k l. h.below k (omega (arith, l));
  }

  one_more : (k : ℕ) → has_number (ns ++ place ∷ []) k ≡ (has_number ns k || (place == k || false))
  one_more k = list_any-append (λ m. m == k) ns (place ∷ [])

  pub number_in : test own ≡ true → NumbersTo test names (place + 1) (ns ++ place ∷ [])
  number_in own_is = record {
    each = λ k name l at.
        elim (cases_eq k place) [
          | inl same ↦
              let is : own ≡ name = same_Some _ _ (sym here ∙ ap (slice_get names) (sym same) ∙ at) in
              let there : (place == k) ≡ true = eq-eqb place k (sym same) in
              one_more k ∙ ap (λ b. has_number ns k || (b || false)) there ∙ or_right (has_number ns k) true refl ∙ sym own_is ∙ ap test is
          | inr differs ↦
              let apart : (place == k) ≡ false = ne_eqb place k (λ e. differs (sym e)) in
              one_more k ∙ ap (λ b. has_number ns k || (b || false)) apart ∙ or_nothing (has_number ns k) ∙ h.each k name (omega arith) at
        ];
    below = λ k l.
        let apart : (place == k) ≡ false = ne_eqb place k (λ e. omega (arith, e, l)) in
        one_more k ∙ ap (λ b. has_number ns k || (b || false)) apart ∙ or_nothing (has_number ns k) ∙ h.below k (omega (arith, l));
  }
    where
      or_nothing : (b : Bool) → (b || false) ≡ b
      or_nothing true = refl
      or_nothing false = refl

pub all_numbers : (test : Bytes → Bool) (names : List Bytes) (place : ℕ) (ns : List ℕ) → length names ≤ place → NumbersTo test names place ns
    → HaveNumbers test names ns
all_numbers test names place ns past h = λ k name at.
    let within = slice_get_within names k name at in h.each k name (omega (arith, within, past)) at

-- ---- tables of texts

pub more_tables : (names : Names) (texts : List (List BareDef)) (made : List TextData) (text : List BareDef) (d : TextData)
    → HaveTables names texts made → IsDataOf names text d → HaveTables names (texts ++ text ∷ []) (made ++ d ∷ [])
more_tables names texts made text d have own = record {
  many = let many = have.many in omega (arith, many, length-append made (d ∷ []), length-append texts (text ∷ []));
  each = λ k other e at there.
      elim (at_cases texts text other k at) [
        | inl before ↦
            let within : k < length made = subst (λ n. k < n) (sym have.many) (slice_get_within texts k other before) in
            have.each k other e before (sym (still_there made (d ∷ []) k within) ∙ there)
        | inr last ↦
            let is : d ≡ e = same_Some d e (sym (is_last made d k (last.0 ∙ sym have.many)) ∙ there) in
            subst (λ (x : TextData). IsDataOf names other x) is (subst (λ (ds : List BareDef). IsDataOf names ds d) last.1 own)
      ];
}

-- The table as a lock is made and closed.
use Rattle.std.proofs.Common.{◌≡◌, ℕ, suc, ◌+◌, ◌≤◌, List, [], ◌∷◌, ◌++◌, map, length, get_or, replicate, sym, ap, ◌∙◌, subst, arith, Option, Some, None, All}
use mathlib.Core.Option.{some}
use mathlib.Core.Option as maybe
use lib.ListN.{get_elem?, length-map, length-replicate}
use Rattle.atomic_table.specs.Seated.{TableId}
use Rattle.atomic_table.specs.Table.{Final, Seen, opening}
use Rattle.pass_lock.specs.declared.notes.Entry.{Entry}
use Rattle.pass_lock.specs.declared.view.View.{View}
use Rattle.pass_lock.specs.declared.view.Stage.TheVariants.{Idle}
use Rattle.pass_lock.specs.Passes.{Known, fresh, fresh_from, Keeps}
use Rattle.pass_lock.specs.Ruled.{Fits, Ruled}
use Rattle.pass_lock.specs.Steps.{first_view, seated, claim_of}
use Rattle.pass_lock.proofs.Calls.{zeros, all_map, fresh_last}
use Rattle.pass_lock.proofs.Kept.{starts, ends}

-- one more pass
pub fresh_next : {E : Type 0} (table : TableId) (n : ℕ) (l : List (Known E)) (p : Known E) → l ≡ fresh_from table 0 n → p ≡ fresh table n → l ++ p ∷ [] ≡ fresh_from table 0 (n + 1)
fresh_next {E} table n l p e f = (λ i. e i ++ f i ∷ []) ∙ (ap (λ (k : ℕ). fresh_from {E = E} table 0 n ++ fresh table k ∷ []) (let z : n ≡ 0 + n = omega arith in z)
    ∙ (sym (fresh_last table 0 n) ∙ ap (λ (k : ℕ). fresh_from {E = E} table 0 k) (let z : suc n ≡ n + 1 = omega arith in z)))

module _ {W E : Type 0} (history : W → List (Entry E)) (passes : ℕ) where
  pub lays : (words : List ℕ) (slots : List (Option W)) (value : W) → words ≡ replicate (passes + 2) 0 → slots ≡ Some value ∷ [] → passes ≤ 64 → history value ≡ [] → Ruled history passes (opening words slots first_view)
  lays words slots value zero_words one few empty = subst (λ (l : List (Option W)). Ruled history passes (opening words l first_view)) (sym one)
      (starts history passes words value (ap length zero_words ∙ length-replicate (passes + 2) 0) few (ap (λ (l : List ℕ). get_or l 0 0) zero_words ∙ zeros (passes + 2) 0)
      (ap (λ (l : List ℕ). get_or l 1 0) zero_words ∙ zeros (passes + 2) 1) empty)

  abbrev inner : W → maybe.Option (Option W) → W
  inner d maybe.none = d
  inner d (some None) = d
  inner d (some (Some w)) = w

  module _ (id : ℕ) (v : View E) (items : List (Known E)) (words : List ℕ) (slots : List (Option W)) (is : v ≡ seated Idle (map claim_of items) v.makes) (whole : length items ≡ passes)
      (final : Final (Seen (Ruled history passes) id v) words slots) where
    last : (w : W) × (get_elem? final.0.homes 0 ≡ some (some (Some w))) × All (Fits (history w)) (map claim_of items)
    last = ends history passes final.0 final.1.0 id v.makes (map claim_of items) (final.1.1 ∙ ap (λ (x : View E). some x) is) (length-map items claim_of ∙ whole)

    -- the slot has a value
    pub has_value : (w : W) × (get_elem? slots 0 ≡ some (Some w))
    has_value = (last.0, final.4 0 (Some last.0) last.1)

    -- its history keeps what each pass knows
    pub value_keeps : (w : W) → get_elem? slots 0 ≡ some (Some w) → All (Keeps (history w)) items
    unfolding last has_value
    value_keeps w e = let same : last.0 ≡ w = ap (inner w) (sym has_value.1 ∙ e) in
        subst (λ (x : W). All (Keeps (history x)) items) same (λ k d h. all_map claim_of (Fits (history last.0)) items last.2 k d h)

-- The map of the objects that live, found by their slots.
use Rattle.std.proofs.Common.{◌≡◌, ◌≢◌, ℕ, zero, suc, ◌+◌, ◌<◌, ◌^◌, cond, ◌==◌, List, [], ◌∷◌, map, Option, Some, None, is_some, IsSome, slice_index_or, Bor, option_copied, count_by, refl, sym, ap, ◌∙◌, inl, inr, arith}
use Rattle.std.proofs.lemmas.Bool.{cases_eq, eq-eqb, ne_eqb}
use Rattle.std.proofs.lemmas.List.Sums.{sum_by-cons}
use Rattle.std.specs.Ordering.{nat_cmp}
use Rattle.std.specs.Cmp.{nat_cmp_total}
use Rattle.std.specs.FinMap.{FinMap, find, get, insert, remove, len, from_entries, get-from_entries, len-insert, len-empty, same_map, nat_cmp-IsAntisymmetric}
use Rattle.slab.specs.Slab.{Slab, ContainsKey, entries_from, entries, slab_len, Updates, with_value}
use Rattle.slab.specs.Slab as slab
use Rattle.slab.proofs.SlabLemmas.{Updates-with_value}
use Rattle.object_store.specs.declared.object.Object.{Object}
use Rattle.object_store.specs.declared.objects.Row.{Row}
use Rattle.object_store.specs.Handles.{handle_of, creation_of, slot_of}
use Rattle.object_store.specs.Rows.{entry_of, live_of}
use Rattle.object_store.proofs.HandleMaps.{unlike, alike, none_isnt, get_inserted, get_not_inserted, get_removed, get_not_removed}

-- what a handle leads to, of what its slot has
abbrev pub in_slot : ℕ → Option Row → Option Object
in_slot handle None = None
in_slot handle (Some row) = cond (row.creation == creation_of handle) (Some row.object) None

-- a handle can name each slot that is in use
abbrev pub Named : ℕ → List (Option Row) → Type 0
Named first slots = (slot : ℕ) → IsSome (slice_index_or slots slot None) → first + slot < 2 ^ 32

later : (first : ℕ) (slot : Option Row) (rest : List (Option Row)) → Named first (slot ∷ rest) → Named (first + 1) rest
later first slot rest named k there = omega (arith, named (suc k) there)

module _ (handle : ℕ) where
  -- no slot before that of the handle leads to it
  pub none_before : (first : ℕ) (slots : List (Option Row)) → Named first slots → slot_of handle < first → find nat_cmp handle (map entry_of (entries_from first slots)) ≡ None
  none_before first [] named less = refl
  none_before first (None ∷ rest) named less = none_before (first + 1) rest (later first None rest named) (omega arith)
  none_before first (Some row ∷ rest) named less =
      let small : first + 0 < 2 ^ 32 = named 0 refl in
      rw (unlike handle (handle_of row.creation first) (λ e. omega (arith, e, small)))
      (none_before (first + 1) rest (later first (Some row) rest named) (omega arith))

  -- the handle leads to what its slot has
  pub in_its_slot : (first : ℕ) (slots : List (Option Row)) → Named first slots → (k : ℕ) → slot_of handle ≡ first + k → find nat_cmp handle (map entry_of (entries_from first slots)) ≡ in_slot handle (slice_index_or slots k None)
  in_its_slot first [] named k is = refl
  in_its_slot first (None ∷ rest) named zero is = none_before (first + 1) rest (later first None rest named) (omega arith)
  in_its_slot first (None ∷ rest) named (suc k) is = in_its_slot (first + 1) rest (later first None rest named) k (omega arith)
  in_its_slot first (Some row ∷ rest) named zero is =
      let small : first + 0 < 2 ^ 32 = named 0 refl in
      elim (cases_eq row.creation (creation_of handle)) [
        | inl same ↦
            let whole : handle ≡ handle_of row.creation first = omega (arith, same, is) in
            rw (alike _ _ whole, eq-eqb _ _ same) refl
        | inr differs ↦
            rw (unlike handle (handle_of row.creation first) (λ e. differs (omega (arith, e, small))), ne_eqb _ _ differs)
            (none_before (first + 1) rest (later first (Some row) rest named) (omega arith))
      ]
  in_its_slot first (Some row ∷ rest) named (suc k) is =
      let small : first + 0 < 2 ^ 32 = named 0 refl in
      rw (unlike handle (handle_of row.creation first) (λ e. omega (arith, e, small)))
      (in_its_slot (first + 1) rest (later first (Some row) rest named) k (omega arith))

module _ (rows : Slab Row) (named : (slot : ℕ) → ContainsKey rows slot → slot < 2 ^ 32) where
  -- the object that lives under a handle
  pub get-live_of : (handle : ℕ) → get (live_of rows) handle ≡ in_slot handle (slab.get rows (slot_of handle))
  get-live_of handle =
      get-from_entries nat_cmp_total _ handle
      ∙ in_its_slot handle 0 rows.slots (λ slot there. omega (arith, named slot there)) (slot_of handle) (omega arith)

  pub get_there : (handle : ℕ) (row : Row) → slab.get rows (slot_of handle) ≡ Some row → row.creation ≡ creation_of handle → get (live_of rows) handle ≡ Some row.object
  get_there handle row there same = rw (get-live_of handle, there, eq-eqb _ _ same) refl

  pub get_other : (handle : ℕ) (row : Row) → slab.get rows (slot_of handle) ≡ Some row → row.creation ≢ creation_of handle → get (live_of rows) handle ≡ None
  get_other handle row there differs = rw (get-live_of handle, there, ne_eqb _ _ differs) refl

  pub get_nothing : (handle : ℕ) → slab.get rows (slot_of handle) ≡ None → get (live_of rows) handle ≡ None
  get_nothing handle nothing = rw (get-live_of handle, nothing) refl

  -- where an object lives, its slot has a row
  pub slot_is_used : (handle : ℕ) → IsSome (get (live_of rows) handle) → IsSome (slab.get rows (slot_of handle))
  slot_is_used handle lives = go (slab.get rows (slot_of handle)) refl
    where
      go : (entry : Option Row) → slab.get rows (slot_of handle) ≡ entry → IsSome entry
      go None is = absurd (none_isnt _ (get_nothing handle is) lives)
      go (Some row) is = refl

  -- and it is that of its creation
  pub creation_there : (handle : ℕ) (row : Row) → slab.get rows (slot_of handle) ≡ Some row → IsSome (get (live_of rows) handle) → row.creation ≡ creation_of handle
  creation_there handle row there lives =
      elim (cases_eq row.creation (creation_of handle)) [
        | inl same ↦ same
        | inr differs ↦ absurd (none_isnt _ (get_other handle row there differs) lives)
      ]

-- how many live
pub len-live_of : (rows : Slab Row) → ((slot : ℕ) → ContainsKey rows slot → slot < 2 ^ 32) → len (live_of rows) ≡ slab_len rows
len-live_of rows named = count 0 rows.slots (λ slot there. omega (arith, named slot there))
  where
    count : (first : ℕ) (slots : List (Option Row)) → Named first slots → len (from_entries {R = nat_cmp} (map entry_of (entries_from first slots))) ≡ count_by is_some slots
    count first [] named = len-empty nat_cmp Object
    count first (None ∷ rest) named = omega (arith, count (first + 1) rest (later first None rest named), sum_by-cons (λ o. cond (is_some o) 1 0) None rest)
    count first (Some row ∷ rest) named =
        let small : first + 0 < 2 ^ 32 = named 0 refl in
        let handle = handle_of row.creation first in
        let others = later first (Some row) rest named in
        let before : FinMap nat_cmp Object = from_entries (map entry_of (entries_from (first + 1) rest)) in
        let new : get before handle ≡ None = get-from_entries nat_cmp_total _ handle ∙ none_before handle (first + 1) rest others (omega (arith, small)) in
        let more : len (insert before handle row.object) ≡ len before + 1 = len-insert nat_cmp_total before handle row.object ∙ ap (λ o. cond (is_some o) (len before) (len before + 1)) new in
        omega (arith, more, count (first + 1) rest others, sum_by-cons (λ o. cond (is_some o) 1 0) (Some row) rest)

-- what a slot has leads to the object of this handle at most
abbrev pub LeadsTo : ℕ → Option Row → Type 0
LeadsTo handle entry = (q : ℕ) → q ≢ handle → slot_of q ≡ slot_of handle → in_slot q entry ≡ None

-- a handle can name each slot after a change of one that it can name
pub within_after : (old new : Slab Row) (slot : ℕ) (entry : Option Row) → ((k : ℕ) → ContainsKey old k → k < 2 ^ 32) → slot < 2 ^ 32 → Updates old new slot entry → (k : ℕ) → ContainsKey new k → k < 2 ^ 32
within_after old new slot entry within small updates k there =
    elim (cases_eq k slot) [
      | inl same ↦ omega (arith, same, small)
      | inr differs ↦ within k (sym (ap is_some (updates.others k differs)) ∙ there)
    ]

-- a slot that has nothing leads nowhere
pub leads_nowhere : (handle : ℕ) (entry : Option Row) → entry ≡ None → LeadsTo handle entry
leads_nowhere handle entry none q differs slot = rw none refl

pub leads_to_own : (handle : ℕ) (row : Row) → row.creation ≡ creation_of handle → LeadsTo handle (Some row)
leads_to_own handle row same q differs slot = rw (ne_eqb row.creation (creation_of q) (λ e. differs (omega (arith, e, same, slot)))) refl

module _
    (old new : Slab Row)
    (within : (slot : ℕ) → ContainsKey old slot → slot < 2 ^ 32)
    (within_new : (slot : ℕ) → ContainsKey new slot → slot < 2 ^ 32)
    (handle : ℕ)
  where
    -- a slot that changes changes its handle alone
    others_stay : (entry : Option Row) → Updates old new (slot_of handle) entry → LeadsTo handle entry → LeadsTo handle (slab.get old (slot_of handle)) → (q : ℕ) → q ≢ handle → get (live_of new) q ≡ get (live_of old) q
    others_stay entry updates leads led q differs =
        get-live_of new within_new q ∙ elim (cases_eq (slot_of q) (slot_of handle)) [
          | inl slot ↦
              ap (in_slot q) (ap (slab.get new) slot ∙ updates.changed) ∙ leads q differs slot
              ∙ sym (ap (λ k. in_slot q (slab.get old k)) slot ∙ led q differs slot)
          | inr other ↦ ap (in_slot q) (updates.others (slot_of q) other)
        ] ∙ sym (get-live_of old within q)

    -- a row that comes into a slot that has none, or in place of one of the same creation
    pub live_after_insert : (row : Row) → Updates old new (slot_of handle) (Some row) → row.creation ≡ creation_of handle → LeadsTo handle (slab.get old (slot_of handle)) → live_of new ≡ insert (live_of old) handle row.object
    live_after_insert row updates same led =
        same_map nat_cmp_total nat_cmp-IsAntisymmetric _ _ (λ q. elim (cases_eq q handle) [
          | inl is ↦ rw is (get_there new within_new handle row updates.changed same ∙ sym (get_inserted (live_of old) handle row.object))
          | inr differs ↦
              others_stay (Some row) updates (leads_to_own handle row same) led q differs ∙ sym (get_not_inserted (live_of old) handle row.object q differs)
        ])

    -- the row of a handle goes
    pub live_after_remove : (row : Row) → Updates old new (slot_of handle) None → slab.get old (slot_of handle) ≡ Some row → row.creation ≡ creation_of handle → live_of new ≡ remove (live_of old) handle
    live_after_remove row updates was same =
        same_map nat_cmp_total nat_cmp-IsAntisymmetric _ _ (λ q. elim (cases_eq q handle) [
          | inl is ↦ rw is (get_nothing new within_new handle updates.changed ∙ sym (get_removed (live_of old) handle))
          | inr differs ↦
              others_stay None updates (λ _ _ _. refl) (rw was (leads_to_own handle row same)) q differs ∙ sym (get_not_removed (live_of old) handle q differs)
        ])

-- where a reference is found, so is its object
pub copied_is_some : (found : Option (Bor Object)) (o : Option Object) → option_copied found ≡ o → is_some found ≡ is_some o
copied_is_some None o is = ap is_some is
copied_is_some (Some x) o is = ap is_some is

-- the object of a handle changed
pub live_after_write : (rows : Slab Row) → ((slot : ℕ) → ContainsKey rows slot → slot < 2 ^ 32) → (handle slot : ℕ) → slot ≡ slot_of handle → (row : Row) → slab.get rows slot ≡ Some row → row.creation ≡ creation_of handle → (object : Object) → live_of (with_value rows slot (record { creation = row.creation; object = object })) ≡ insert (live_of rows) handle object
live_after_write rows within handle slot at row there same object =
    let new : Row = record { creation = row.creation; object = object } in
    let changed : Slab Row = with_value rows slot new in
    let updates : Updates rows changed slot (Some new) = Updates-with_value rows slot new (ap is_some there) in
    let later = within_after rows changed slot (Some new) within (omega (arith, at)) updates in
    let there_by_handle : slab.get rows (slot_of handle) ≡ Some row = rw (← at) there in
    live_after_insert rows changed within later handle new (rw (← at) updates) same (rw there_by_handle (leads_to_own handle row same))

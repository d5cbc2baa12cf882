-- Handles name objects, after each change of a store.
use Rattle.std.proofs.Common.{◌≡◌, ◌≢◌, ℕ, ◌+◌, ◌-◌, ◌<◌, not, Bool, true, false, cond, [], ◌∷◌, ◌++◌, length, Option, Some, None, is_some, IsSome, count_by, get_or, set, refl, sym, ap, ◌∙◌, inl, inr, arith}
use Rattle.std.proofs.lemmas.Bool.{cases_eq, eq-eqb, ne_eqb, true≢false}
use Rattle.std.proofs.lemmas.List.{length-set, get_or-set_same, get_or-set_other, get_or_append_left, length-append, get_or_past}
use Rattle.std.proofs.lemmas.List.Sums.{sum_by-set, sum_by-append}
use Rattle.std.proofs.Math.Seq.{get_or-append_seam}
use Rattle.std.specs.Ordering.{nat_cmp}
use Rattle.std.specs.Cmp.{nat_cmp_total}
use Rattle.std.specs.FinMap.{get, insert, remove, len, get-empty, len-empty, len-insert, len-remove}
use Rattle.object_store.specs.declared.object.Object.{Object}
use Rattle.object_store.specs.Handles.{creation_of}
use Rattle.object_store.specs.Stores.{Store, with_object, without_object}
use Rattle.object_store.specs.Naming.{Objects, IsNamed, extended, HandlesAreApart, StartsNamed, CreationNames, CreationFails, ChangeKeepsNames, EndKeepsNames}
use Rattle.object_store.proofs.HandleMaps.{none_of, none_isnt, get_inserted, get_not_inserted, get_removed, get_not_removed}

pub handles_are_apart : HandlesAreApart
handles_are_apart handle objects s named = (
  λ a b a_there b_there same. omega (arith, named.creation a a_there, named.creation b b_there, same),
  λ n there. omega (arith, named.creation n there),
)

pub starts_named : StartsNamed
starts_named handle capacity =
    record {
      created = refl;
      creation = λ n there. absurd (omega (arith, there));
      leads = λ n there. absurd (omega (arith, there));
      only = λ h there. absurd (true≢false (sym there ∙ ap is_some (get-empty nat_cmp h)));
      living = len-empty nat_cmp Object;
    }

-- whether there is an object, as a number
abbrev one : Option Object → ℕ
one o = cond (is_some o) 1 0

-- a number with an object is that of one
there_of : (objects : Objects) (n : ℕ) → IsSome (get_or objects n None) → n < length objects
there_of objects n there = grind (arith, get_or_past)

module _ (handle : ℕ → ℕ) (objects : Objects) (s : Store) (named : IsNamed handle objects s) where
  -- no object has the handle of the next creation
  fresh : (h : ℕ) → creation_of h ≡ s.created + 1 → get s.live h ≡ None
  fresh h next = none_of _ (λ there.
      let n = named.only h there in
      omega (arith, named.creation n.0 n.1.0, n.1.0, n.1.1, next, named.created))

  -- nor does an object before it
  older : (h : ℕ) → creation_of h ≡ s.created + 1 → (n : ℕ) → n < length objects → handle n ≢ h
  older h next n there same = omega (arith, named.creation n there, there, same, next, named.created)

  -- the handles of the objects before it stay
  kept : (h : ℕ) (n : ℕ) → n < length objects → extended handle (length objects) h n ≡ handle n
  kept h n there = ap (λ b. cond b h (handle n)) (ne_eqb n (length objects) (λ e. omega (arith, e, there)))

  new : (h : ℕ) → extended handle (length objects) h (length objects) ≡ h
  new h = ap (λ b. cond b h (handle (length objects))) (eq-eqb (length objects) (length objects) refl)

  -- as many live as there are objects in the list, and one more
  one_more : (object : Object) (h : ℕ) → creation_of h ≡ s.created + 1 → len (insert s.live h object) ≡ count_by is_some (objects ++ Some object ∷ [])
  one_more object h next =
      let more : len (insert s.live h object) ≡ len s.live + 1 = len-insert nat_cmp_total s.live h object ∙ ap (λ o. cond (is_some o) (len s.live) (len s.live + 1)) (fresh h next) in
      let sum : count_by is_some (objects ++ Some object ∷ []) ≡ count_by is_some objects + count_by is_some (Some object ∷ []) = sum_by-append one objects (Some object ∷ []) in
      more ∙ ap (λ n. n + 1) named.living ∙ sym sum

  created_names : (object : Object) (h : ℕ) → creation_of h ≡ s.created + 1 → IsNamed (extended handle (length objects) h) (objects ++ Some object ∷ []) (record s { created = s.created + 1; live = insert s.live h object })
  created_names object h next =
      let more : length (objects ++ Some object ∷ []) ≡ length objects + 1 = length-append objects (Some object ∷ []) in
      record {
        created = omega (arith, named.created, more);
        creation = λ n there. elim (cases_eq n (length objects)) [
          | inl last ↦ rw (last, new h) (next ∙ ap (λ k. k + 1) named.created)
          | inr before ↦
              let within : n < length objects = omega (arith, there, more, before) in
              rw (kept h n within) (named.creation n within)
        ];
        leads = λ n there. elim (cases_eq n (length objects)) [
          | inl last ↦ rw (last, new h) (get_inserted s.live h object ∙ sym (get_or-append_seam objects (Some object) [] None))
          | inr before ↦
              let within : n < length objects = omega (arith, there, more, before) in
              rw (kept h n within) (get_not_inserted s.live h object (handle n) (older h next n within) ∙ named.leads n within ∙ sym (get_or_append_left objects (Some object ∷ []) None n within))
        ];
        only = λ q there. elim (cases_eq q h) [
          | inl same ↦ (length objects, (omega (arith, more), new h ∙ sym same))
          | inr differs ↦
              let n = named.only q (sym (ap is_some (get_not_inserted s.live h object q differs)) ∙ there) in
              (n.0, (omega (arith, n.1.0, more), kept h n.0 n.1.0 ∙ n.1.1))
        ];
        living = one_more object h next;
      }

  -- the object of a number becomes another, or nothing
  counted : (n : ℕ) → n < length objects → (o : Option Object) → count_by is_some (set objects n o) + one (get_or objects n None) ≡ count_by is_some objects + one o
  counted n within o = sum_by-set one objects n o None within

  changed_living : (object : Object) (n : ℕ) → n < length objects → IsSome (get_or objects n None) → len (insert s.live (handle n) object) ≡ count_by is_some (set objects n (Some object))
  changed_living object n within lives =
      let held : is_some (get s.live (handle n)) ≡ true = ap is_some (named.leads n within) ∙ lives in
      let as_many : len (insert s.live (handle n) object) ≡ len s.live = len-insert nat_cmp_total s.live (handle n) object ∙ ap (λ b. cond b (len s.live) (len s.live + 1)) held in
      let was : one (get_or objects n None) ≡ 1 = ap (λ b. cond b 1 0) lives in
      omega (arith, as_many, was, named.living, counted n within (Some object))

  ended_living : (n : ℕ) → n < length objects → len (remove s.live (handle n)) ≡ count_by is_some (set objects n None)
  ended_living n within = go (is_some (get_or objects n None)) refl
    where
      left : (b : Bool) → is_some (get_or objects n None) ≡ b → len (remove s.live (handle n)) ≡ cond b (len s.live - 1) (len s.live)
      left b is = len-remove nat_cmp_total s.live (handle n) ∙ ap (λ b. cond b (len s.live - 1) (len s.live)) (ap is_some (named.leads n within) ∙ is)

      was : (b : Bool) → is_some (get_or objects n None) ≡ b → one (get_or objects n None) ≡ cond b 1 0
      was b is = ap (λ b. cond b 1 0) is

      go : (b : Bool) → is_some (get_or objects n None) ≡ b → len (remove s.live (handle n)) ≡ count_by is_some (set objects n None)
      go true is = omega (arith, left true is, was true is, named.living, counted n within None)
      go false is = omega (arith, left false is, was false is, named.living, counted n within None)

  -- two numbers with one handle are one number
  apart : (a b : ℕ) → a < length objects → b < length objects → a ≢ b → handle a ≢ handle b
  apart a b a_there b_there differs same = differs (omega (arith, named.creation a a_there, named.creation b b_there, same))

  changed_named : (object : Object) (n : ℕ) → IsSome (get_or objects n None) → IsNamed handle (set objects n (Some object)) (with_object s (handle n) object)
  changed_named object n lives =
      let within : n < length objects = there_of objects n lives in
      let same : length (set objects n (Some object)) ≡ length objects = length-set objects n (Some object) in
      record {
        created = named.created ∙ sym same;
        creation = λ k there. named.creation k (omega (arith, there, same));
        leads = λ k there. elim (cases_eq k n) [
          | inl at ↦ rw at (get_inserted s.live (handle n) object ∙ sym (get_or-set_same objects n (Some object) None within))
          | inr other ↦
              let k_there : k < length objects = omega (arith, there, same) in
              get_not_inserted s.live (handle n) object (handle k) (apart k n k_there within other) ∙ named.leads k k_there ∙ sym (get_or-set_other objects n k (Some object) None other)
        ];
        only = λ q there. elim (cases_eq q (handle n)) [
          | inl at ↦ (n, (omega (arith, within, same), sym at))
          | inr other ↦
              let k = named.only q (sym (ap is_some (get_not_inserted s.live (handle n) object q other)) ∙ there) in
              (k.0, (omega (arith, k.1.0, same), k.1.1))
        ];
        living = changed_living object n within lives;
      }

  ended_named : (n : ℕ) → n < length objects → IsNamed handle (set objects n None) (without_object s (handle n))
  ended_named n within =
      let same : length (set objects n None) ≡ length objects = length-set objects n None in
      record {
        created = named.created ∙ sym same;
        creation = λ k there. named.creation k (omega (arith, there, same));
        leads = λ k there. elim (cases_eq k n) [
          | inl at ↦ rw at (get_removed s.live (handle n) ∙ sym (get_or-set_same objects n None None within))
          | inr other ↦
              let k_there : k < length objects = omega (arith, there, same) in
              get_not_removed s.live (handle n) (handle k) (apart k n k_there within other) ∙ named.leads k k_there ∙ sym (get_or-set_other objects n k None None other)
        ];
        only = λ q there. elim (cases_eq q (handle n)) [
          | inl at ↦ absurd (none_isnt _ (ap (get (remove s.live (handle n))) at ∙ get_removed s.live (handle n)) there)
          | inr other ↦
              let k = named.only q (sym (ap is_some (get_not_removed s.live (handle n) q other)) ∙ there) in
              (k.0, (omega (arith, k.1.0, same), k.1.1))
        ];
        living = ended_living n within;
      }

pub creation_names : CreationNames
creation_names handle objects s t object h named made = rw made.2 (created_names handle objects s named object h made.1)

pub creation_fails : CreationFails
creation_fails handle objects s t object None named made =
    sym (ap not (eq-eqb _ _ (sym named.living ∙ made.0)))
creation_fails handle objects s t object (Some h) named made =
    sym (ap not (ne_eqb _ _ (λ full. omega (arith, full, named.living, made.0))))

pub change_keeps_names : ChangeKeepsNames
change_keeps_names handle objects s object n named lives = changed_named handle objects s named object n lives

pub end_keeps_names : EndKeepsNames
end_keeps_names handle objects s n named there = ended_named handle objects s named n there

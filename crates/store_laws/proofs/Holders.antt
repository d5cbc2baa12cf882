-- Who holds the mutexes of a world, after one was taken or released.
use Rattle.std.proofs.Common.{◌≡◌, ◌≢◌, ℕ, ◌<◌, Bool, true, false, not, List, [], ◌∷◌, length, find, filter, Option, Some, None, option_map, bytes_eq, set, refl, sym, ap, ◌∙◌, inl, inr, arith}
use Rattle.std.proofs.lemmas.Bool.{cases_eq, false_from_ne_true}
use Rattle.std.proofs.lemmas.Slice.Eq.{bytes_eq-Decides}
use Rattle.std.proofs.lemmas.List.{get_or-set_same, get_or-set_other}
use Rattle.c_tree.specs.BareExpr.{Bytes}
use Rattle.source_model.specs.Worlds.{World, Held, holder_of, with_holder, released}
use Rattle.store_laws.specs.LockLaws.{name_at, AreHolders, Mutexes}

same_bytes : (a b : Bytes) → bytes_eq a b ≡ true → a ≡ b
same_bytes a b e = (bytes_eq-Decides a b).0 e

itself : (a : Bytes) → bytes_eq a a ≡ true
itself a = (bytes_eq-Decides a a).1 refl

other : (a b : Bytes) → a ≢ b → bytes_eq a b ≡ false
other a b differs = false_from_ne_true (bytes_eq a b) (λ e. differs (same_bytes a b e))

-- a mutex that was taken, and the others
pub taken : (w : World) (name : Bytes) (slot : ℕ) → holder_of (with_holder name slot w) name ≡ Some slot
taken w name slot = rw (itself name) refl

pub others_after_taking : (w : World) (name : Bytes) (slot : ℕ) (a : Bytes) → a ≢ name → holder_of (with_holder name slot w) a ≡ holder_of w a
others_after_taking w name slot a differs = rw (other a name differs) refl

-- a mutex that was released, and the others
pub freed : (w : World) (name : Bytes) → holder_of (released name w) name ≡ None
freed w name = ap (option_map (λ h. h.slot)) (gone w.holders)
  where
    gone : (hs : List Held) → find (λ h. bytes_eq name h.mutex) (filter (λ h. not (bytes_eq name h.mutex)) hs) ≡ None
    gone [] = refl
    gone (h ∷ hs) = by (bytes_eq name h.mutex) refl (gone hs)
      where
        by : (b : Bool) → bytes_eq name h.mutex ≡ b → find (λ h. bytes_eq name h.mutex) (filter (λ h. not (bytes_eq name h.mutex)) hs) ≡ None → find (λ h. bytes_eq name h.mutex) (filter (λ h. not (bytes_eq name h.mutex)) (h ∷ hs)) ≡ None
        by true is rest = rw is rest
        by false is rest = rw (is, is) rest

pub others_after_release : (w : World) (name a : Bytes) → a ≢ name → holder_of (released name w) a ≡ holder_of w a
others_after_release w name a differs = ap (option_map (λ h. h.slot)) (stay w.holders)
  where
    stay : (hs : List Held) → find (λ h. bytes_eq a h.mutex) (filter (λ h. not (bytes_eq name h.mutex)) hs) ≡ find (λ h. bytes_eq a h.mutex) hs
    stay [] = refl
    stay (h ∷ hs) = by (bytes_eq name h.mutex) refl (bytes_eq a h.mutex) refl (stay hs)
      where
        by : (b : Bool) → bytes_eq name h.mutex ≡ b → (d : Bool) → bytes_eq a h.mutex ≡ d
            → find (λ h. bytes_eq a h.mutex) (filter (λ h. not (bytes_eq name h.mutex)) hs) ≡ find (λ h. bytes_eq a h.mutex) hs
            → find (λ h. bytes_eq a h.mutex) (filter (λ h. not (bytes_eq name h.mutex)) (h ∷ hs)) ≡ find (λ h. bytes_eq a h.mutex) (h ∷ hs)
        by true is true named rest = absurd (differs (same_bytes a h.mutex named ∙ sym (same_bytes name h.mutex is)))
        by true is false named rest = rw (is, named) rest
        by false is true named rest = rw (is, named) refl
        by false is false named rest = rw (is, named) rest

module _ (names : List Bytes) (w : World) (holders : List (Option ℕ)) (n : ℕ) (m : Mutexes names w holders n) where
  -- another number has another name
  unlike : (k : ℕ) → k < length names → k ≢ n → name_at names k ≢ name_at names n
  unlike k there differs same = differs (m.distinct k n there m.within same)

  -- one mutex changes in a world and by number
  pub changed : (after : World) (holder : Option ℕ) → holder_of after (name_at names n) ≡ holder → ((a : Bytes) → a ≢ name_at names n → holder_of after a ≡ holder_of w a) → AreHolders names after (set holders n holder)
  changed after holder own others k there =
      elim (cases_eq k n) [
        | inl same ↦ rw same (get_or-set_same holders n holder None (omega (arith, m.within, m.each)) ∙ sym own)
        | inr differs ↦ get_or-set_other holders n k holder None differs ∙ m.held k there ∙ sym (others (name_at names k) (unlike k there differs))
      ]

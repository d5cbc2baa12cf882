-- What the threads of a world have to evaluate stores values of the declared types, and those that others join return ints.
use Rattle.std.proofs.Common.{◌≡◌, ◌≢◌, ℕ, zero, suc, ◌≤◌, ◌<◌, ◌⊎◌, inl, inr, true, List, [], ◌∷◌, length, get_or-set_same, get_or-set_other, Option, Some, None, refl, sym, subst}
use Rattle.std.specs.Prelude.{slice_index_or, slice_set}
use Rattle.std.proofs.lemmas.Bool.{cases_eq, cases_lt}
use Rattle.std.proofs.lemmas.List.{set_past}
use Rattle.c_tree.specs.BareExpr.{Bytes, BareType}
use Rattle.c_tree.specs.BareDef.{BareDef}
use Rattle.c_semantics.specs.Texts.{Definitions, definition, int, result_type}
use Rattle.c_semantics.specs.Threads.{Enter, Frame}
use Rattle.patch_faults.specs.TransformLaws.{has_type}
use Rattle.source_model.specs.Worlds.{Slot, Free, Live, Over}
use Rattle.version_laws.specs.Histories.{text_in}
use Rattle.world_laws.proofs.Storing.{Newest, asked, PiecesStore}

-- the definitions of a version, and what type a function of it returns
abbrev pub version_in : List (List BareDef) → ℕ → Definitions
version_in texts n = definition (text_in texts n)

abbrev pub result_in : List (List BareDef) → ℕ → Bytes → BareType
result_in texts n f = result_type (version_in texts n f)

module _ (texts : List (List BareDef)) where
  -- what a frame asks of its newest value
  abbrev pub asked_of : Frame → Option BareType
  asked_of f = asked (version_in texts f.version) (result_in texts f.version f.function) f.pieces

  pub record FrameStores (f : Frame) : Type 0 where
    pub known : f.version ≤ length texts
    pub pieces : PiecesStore (version_in texts f.version) (result_in texts f.version f.function) f.pieces

  -- a frame that goes on, and one that waits for another's value
  pub record Goes (f : Frame) : Type 0 where
    pub stores : FrameStores f
    pub newest : Newest (asked_of f) f.values

  pub record Waits (f : Frame) : Type 0 where
    pub stores : FrameStores f
    pub unasked : asked_of f ≡ None

  abbrev pub AllWait : List Frame → Type 0
  AllWait [] = Unit {0}
  AllWait (f ∷ fs) = Waits f × AllWait fs

  -- a thread: its frames, the innermost first, and the enter that is due
  abbrev pub ThreadStores : List Frame → Option Enter → Type 0
  ThreadStores frames (Some e) = (e.version ≤ length texts) × AllWait frames
  ThreadStores [] None = Unit {0}
  ThreadStores (f ∷ fs) None = Goes f × AllWait fs

  -- the type of what it returns at last
  abbrev pub root_type : List Frame → Option Enter → BareType
  root_type [] (Some e) = result_in texts e.version e.function
  root_type [] None = int
  root_type (f ∷ []) e = result_in texts f.version f.function
  root_type (f ∷ g ∷ fs) e = root_type (g ∷ fs) e

  -- the thread of the first slot ends the run; what another one returns is an int
  abbrev pub Returns : ℕ → BareType → Type 0
  Returns zero t = Unit {0}
  Returns (suc n) t = t ≡ int

  pub record SeatStores (t : ℕ) (frames : List Frame) (entering : Option Enter) : Type 0 where
    pub stores : ThreadStores frames entering
    pub returns : Returns t (root_type frames entering)

  abbrev pub SlotStores : ℕ → Slot → Type 0
  SlotStores t Free = Unit {0}
  SlotStores t (Live th) = SeatStores t th.frames th.entering
  SlotStores t (Over serial v) = has_type int v ≡ true

  pub record SlotsStore (slots : List Slot) : Type 0 where
    pub each : (t : ℕ) → SlotStores t (slice_index_or slots t Free)

  pub returns_int : (t : ℕ) (type : BareType) → type ≡ int → Returns t type
  returns_int zero type e = tt
  returns_int (suc n) type e = e

  -- a slot changed
  pub slot_changed : (slots : List Slot) (t : ℕ) (x : Slot) → SlotsStore slots → SlotStores t x → SlotsStore (slice_set slots t x)
  slot_changed slots t x h new = record { each = λ k. by k (cases_eq k t) (cases_lt t (length slots)) }
    where
      by : (k : ℕ) → (k ≡ t) ⊎ (k ≢ t) → (t < length slots) ⊎ (length slots ≤ t) → SlotStores k (slice_index_or (slice_set slots t x) k Free)
      by k (inl same) (inl within) =
          subst (λ n. SlotStores n (slice_index_or (slice_set slots t x) n Free)) (sym same)
          (subst (SlotStores t) (sym (get_or-set_same slots t x Free within)) new)
      by k (inl same) (inr past) = subst (λ ys. SlotStores k (slice_index_or ys k Free)) (sym (set_past slots t x past)) (h.each k)
      by k (inr other) within = subst (SlotStores k) (sym (get_or-set_other slots t k x Free other)) (h.each k)

  -- the last frame alone counts for what a thread returns
  pub root_same : (f g : Frame) (fs : List Frame) (e u : Option Enter) → f.version ≡ g.version → f.function ≡ g.function
      → root_type (f ∷ fs) e ≡ root_type (g ∷ fs) u
  root_same f g [] e u v n = cc
  root_same f g (h ∷ fs) e u v n = root_entering h fs e u
    where
      root_entering : (h : Frame) (fs : List Frame) (e u : Option Enter) → root_type (h ∷ fs) e ≡ root_type (h ∷ fs) u
      root_entering h [] e u = refl
      root_entering h (k ∷ fs) e u = root_entering k fs e u

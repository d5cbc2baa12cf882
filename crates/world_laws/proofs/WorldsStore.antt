-- What each move keeps of a world of accepted texts: it holds the globals, arrays and mutexes of its text, and what its threads
-- have to evaluate stores values of the declared types.
use Rattle.std.proofs.Common.{◌≡◌, ◌≢◌, ℕ, zero, suc, ◌≤◌, ◌==◌, Bool, true, false, List, [], ◌∷◌, filter, find, length, drop, length-set, Option, Some, None, option_map, unwrap_or, unsigned_abs, All, refl, sym, ap, subst, ◌∙◌, bytes_eq, if◌then◌else◌}
use Rattle.std.specs.Prelude.{IsTrue, not, position, slice_get, slice_set}
use Rattle.std.proofs.lemmas.List.Elements.{All-cons, All-filter, All-nil, All-set}
use Rattle.std.proofs.lemmas.List.Kept.{AllPairs-cons, AllPairs-filter}
use Rattle.std.proofs.lemmas.Option.{none-some}
use Rattle.run_types.specs.declared.trap.TrapKind.{TrapKind}
use Rattle.run_types.specs.declared.trap.TrapKind.TheVariants.{Null, Stale, Index, Relock, Unlock as NotHeld, MutexHeld, Join as NotJoined}
use Rattle.c_ints.specs.declared.int.Int.{Int}
use Rattle.c_ints.specs.Number.{value_of}
use Rattle.c_tree.specs.BareExpr.{Bytes, BareType, BareExpr, Thread as ThreadType}
use Rattle.c_tree.specs.BareStmt.{BareDeclaration}
use Rattle.c_tree.specs.BareDef.{BareDef, Struct, Forward, Mutex, Function, Prototype, Global, Array, TransformStruct, TransformGlobal}
use Rattle.c_semantics.specs.Texts.{definition, global_type, int}
use Rattle.c_semantics.specs.Changes.{agree, same_interface}
use Rattle.c_semantics.specs.Values.{ThreadRef, Value, Number, Reference, Started, int_of}
use Rattle.c_semantics.specs.Stops.{Stop, ReadGlobal, WriteGlobal, ReadElement, WriteElement, ReadField, WriteField, New, Free, Print, InitMutex, Lock, Unlock, Spawn, Join, Call, Return, Back, Begin, End, Update}
use Rattle.c_semantics.specs.Threads.{Enter, Frame, Thread}
use Rattle.patch_faults.specs.TransformLaws.{has_type}
use Rattle.source_model.specs.Worlds.{World, Cells, Held, Object, Slot, Live, Over, cells_of, holder_of, in_slot, live_objects, released, with_cells, with_cells_in, with_holder, with_slot, with_thread}
use Rattle.source_model.specs.Worlds as world
use Rattle.source_model.specs.Installs.{is_mutex}
use Rattle.source_model.specs.Uses.{is_right, use_at}
use Rattle.source_model.specs.Moves.{Standing, allocate, begin_at, call, end_at, finish_thread, goes_on, gone_on, in_bounds, initialise, is_free, join, join_slot, lock, number_of, on_live, on_object, perform, read_element, read_field, release, return, return_to, spawn, start_in, traps, unlock, write_element, write_field, write_global}
use Rattle.version_laws.specs.Histories.{IsHistory}
use Rattle.version_laws.proofs.RunHistories.{IsOf}
use Rattle.version_laws.proofs.TableHistories.{right_by_texts}
use Rattle.definition_laws.specs.EqualParts.{HaveEqualInterfaces}
use Rattle.definition_laws.proofs.SameDefinitions.{interface_equal_if_same}
use Rattle.world_laws.specs.Holdings.{IsOne, AreElements}
use Rattle.world_laws.proofs.Found.{cells_in, itself, same_bytes, written}
use Rattle.world_laws.proofs.Cells.{GlobalsHeld, MutexesHeld}
use Rattle.world_laws.proofs.Storing.{Newest, Serves, asked_at, given_at, is_array, is_variable, StopFits}
use Rattle.world_laws.proofs.StoresAhead.{newest_given, unasked, unasked_newest}
use Rattle.world_laws.proofs.Threads.{AllWait, FrameStores, Returns, SeatStores, SlotStores, SlotsStore, asked_of, result_in, returns_int, root_same, root_type, slot_changed, version_in}
use Rattle.world_laws.proofs.TypedBodies.{BodiesStore}

no : false ≡ true → ⊥
no e = cc

-- ---- what is used is now as it was in the version that uses it

record NowVariable (o u : Option BareDef) : Type 0 where
  one : BareDeclaration
  is : u ≡ Some (Global one)
  type : one.declared ≡ global_type o

variable_now : (o u : Option BareDef) → agree same_interface o u ≡ true → is_variable o ≡ true → NowVariable o u
variable_now (Some (Global d)) (Some b) a h = by b (interface_equal_if_same (Global d) b a)
  where
    by : (b : BareDef) → HaveEqualInterfaces (Global d) b → NowVariable (Some (Global d)) (Some b)
    by (Global e) same = record { one = e; is = refl; type = sym same }
    by (Struct tag members) same = absurd same
    by (Forward tag) same = absurd same
    by (Mutex n) same = absurd same
    by (Function r n ps body) same = absurd same
    by (Prototype r n ps) same = absurd same
    by (Array t n k values) same = absurd same
    by (TransformStruct tag values) same = absurd same
    by (TransformGlobal n value) same = absurd same
variable_now (Some (Global d)) None a h = absurd (no a)
variable_now None u a h = absurd (no h)
variable_now (Some (Struct tag members)) u a h = absurd (no h)
variable_now (Some (Forward tag)) u a h = absurd (no h)
variable_now (Some (Mutex n)) u a h = absurd (no h)
variable_now (Some (Function r n ps body)) u a h = absurd (no h)
variable_now (Some (Prototype r n ps)) u a h = absurd (no h)
variable_now (Some (Array t n k values)) u a h = absurd (no h)
variable_now (Some (TransformStruct tag values)) u a h = absurd (no h)
variable_now (Some (TransformGlobal n value)) u a h = absurd (no h)

record NowArray (o u : Option BareDef) : Type 0 where
  element : BareType
  own : Bytes
  number : Int
  values : Option (List BareExpr)
  is : u ≡ Some (Array element own number values)
  type : element ≡ global_type o

array_now : (o u : Option BareDef) → agree same_interface o u ≡ true → is_array o ≡ true → NowArray o u
array_now (Some (Array t n k values)) (Some b) a h = by b (interface_equal_if_same (Array t n k values) b a)
  where
    by : (b : BareDef) → HaveEqualInterfaces (Array t n k values) b → NowArray (Some (Array t n k values)) (Some b)
    by (Array u x m vs) same = record { element = u; own = x; number = m; values = vs; is = refl; type = sym same.0 }
    by (Struct tag members) same = absurd same
    by (Forward tag) same = absurd same
    by (Mutex x) same = absurd same
    by (Function r x ps body) same = absurd same
    by (Prototype r x ps) same = absurd same
    by (Global d) same = absurd same
    by (TransformStruct tag vs) same = absurd same
    by (TransformGlobal x value) same = absurd same
array_now (Some (Array t n k values)) None a h = absurd (no a)
array_now None u a h = absurd (no h)
array_now (Some (Struct tag members)) u a h = absurd (no h)
array_now (Some (Forward tag)) u a h = absurd (no h)
array_now (Some (Mutex n)) u a h = absurd (no h)
array_now (Some (Function r n ps body)) u a h = absurd (no h)
array_now (Some (Prototype r n ps)) u a h = absurd (no h)
array_now (Some (Global d)) u a h = absurd (no h)
array_now (Some (TransformStruct tag values)) u a h = absurd (no h)
array_now (Some (TransformGlobal n value)) u a h = absurd (no h)

mutex_now : (o u : Option BareDef) → agree same_interface o u ≡ true → is_mutex o ≡ true → is_mutex u ≡ true
mutex_now (Some (Mutex n)) (Some (Mutex m)) a h = refl
mutex_now (Some (Mutex n)) (Some (Struct tag members)) a h = absurd (no a)
mutex_now (Some (Mutex n)) (Some (Forward tag)) a h = absurd (no a)
mutex_now (Some (Mutex n)) (Some (Function r x ps body)) a h = absurd (no a)
mutex_now (Some (Mutex n)) (Some (Prototype r x ps)) a h = absurd (no a)
mutex_now (Some (Mutex n)) (Some (Global d)) a h = absurd (no a)
mutex_now (Some (Mutex n)) (Some (Array t x k values)) a h = absurd (no a)
mutex_now (Some (Mutex n)) (Some (TransformStruct tag values)) a h = absurd (no a)
mutex_now (Some (Mutex n)) (Some (TransformGlobal x value)) a h = absurd (no a)
mutex_now (Some (Mutex n)) None a h = absurd (no a)
mutex_now None u a h = absurd (no h)
mutex_now (Some (Struct tag members)) u a h = absurd (no h)
mutex_now (Some (Forward tag)) u a h = absurd (no h)
mutex_now (Some (Function r n ps body)) u a h = absurd (no h)
mutex_now (Some (Prototype r n ps)) u a h = absurd (no h)
mutex_now (Some (Global d)) u a h = absurd (no h)
mutex_now (Some (Array t n k values)) u a h = absurd (no h)
mutex_now (Some (TransformStruct tag values)) u a h = absurd (no h)
mutex_now (Some (TransformGlobal n value)) u a h = absurd (no h)

-- ---- writes

variable_written : (text : List BareDef) (gs : List Cells) (name : Bytes) (v : Value) (o : Option BareDef)
    → agree same_interface o (definition text name) ≡ true → is_variable o ≡ true → has_type (global_type o) v ≡ true
    → GlobalsHeld text gs → GlobalsHeld text (with_cells_in name (v ∷ []) gs)
variable_written text gs name v o a is fits h = record {
  variables = λ n d e. written (IsOne d.declared) name (v ∷ []) gs n (h.variables n d e) (λ same. new n d e same);
  arrays = λ n own t k values e. written (AreElements t k) name (v ∷ []) gs n (h.arrays n own t k values e) (λ same. never n t own k values e same);
}
  where
    now : NowVariable o (definition text name)
    now = variable_now o (definition text name) a is

    here : (n : Bytes) → bytes_eq n name ≡ true → definition text n ≡ Some (Global now.one)
    here n same = ap (definition text) (same_bytes n name same) ∙ now.is

    new : (n : Bytes) (d : BareDeclaration) → definition text n ≡ Some (Global d) → bytes_eq n name ≡ true → IsOne d.declared (v ∷ [])
    new n d e same =
        let one : now.one ≡ d = let both : Some (Global now.one) ≡ Some (Global d) = sym (here n same) ∙ e in cc in
        record { value = v; is = refl; fits = subst (λ t. has_type t v ≡ true) (sym now.type ∙ ap (λ x. x.declared) one) fits }

    never : (n : Bytes) (t : BareType) (own : Bytes) (k : Int) (values : Option (List BareExpr)) → definition text n ≡ Some (Array t own k values)
        → bytes_eq n name ≡ true → AreElements t k (v ∷ [])
    never n t own k values e same = let clash : Some (Global now.one) ≡ Some (Array t own k values) = sym (here n same) ∙ e in cc

element_written : (text : List BareDef) (gs : List Cells) (name : Bytes) (i : ℕ) (v : Value) (o : Option BareDef)
    → agree same_interface o (definition text name) ≡ true → is_array o ≡ true → has_type (global_type o) v ≡ true
    → GlobalsHeld text gs → GlobalsHeld text (with_cells_in name (slice_set (cells_in gs name) i v) gs)
element_written text gs name i v o a is fits h = record {
  variables = λ n d e. written (IsOne d.declared) name cells gs n (h.variables n d e) (λ same. never n d e same);
  arrays = λ n own t k values e. written (AreElements t k) name cells gs n (h.arrays n own t k values e) (λ same. new n t own k values e same);
}
  where
    cells : List Value
    cells = slice_set (cells_in gs name) i v

    now : NowArray o (definition text name)
    now = array_now o (definition text name) a is

    here : (n : Bytes) → bytes_eq n name ≡ true → definition text n ≡ Some (Array now.element now.own now.number now.values)
    here n same = ap (definition text) (same_bytes n name same) ∙ now.is

    never : (n : Bytes) (d : BareDeclaration) → definition text n ≡ Some (Global d) → bytes_eq n name ≡ true → IsOne d.declared cells
    never n d e same =
        let clash : Some (Array now.element now.own now.number now.values) ≡ Some (Global d) = sym (here n same) ∙ e in cc

    made : AreElements now.element now.number cells
    made =
        let before = h.arrays name now.own now.element now.number now.values now.is in
        record {
          count = length-set (cells_in gs name) i v ∙ before.count;
          fit = All-set (λ x. IsTrue (has_type now.element x)) (cells_in gs name) i v
              (subst (λ t. has_type t v ≡ true) (sym now.type) fits) before.fit;
        }

    new : (n : Bytes) (t : BareType) (own : Bytes) (k : Int) (values : Option (List BareExpr)) → definition text n ≡ Some (Array t own k values)
        → bytes_eq n name ≡ true → AreElements t k cells
    new n t own k values e same =
        let both : Some (Array now.element now.own now.number now.values) ≡ Some (Array t own k values) = sym (here n same) ∙ e in
        let types : now.element ≡ t = cc in
        let numbers : now.number ≡ k = cc in
        subst (λ u. AreElements u k cells) types (subst (λ m. AreElements now.element m cells) numbers made)

-- what isn't held has another name than each that is
unheld : (name : Bytes) (hs : List Held) → option_map (λ h. h.slot) (find (λ h. bytes_eq name h.mutex) hs) ≡ None
    → All (λ (h : Held). name ≢ h.mutex) hs
unheld name [] e = All-nil (λ (h : Held). name ≢ h.mutex)
unheld name (x ∷ xs) e = by (unheld name xs) (bytes_eq name x.mutex) refl e
  where
    by : (option_map (λ h. h.slot) (find (λ h. bytes_eq name h.mutex) xs) ≡ None → All (λ (h : Held). name ≢ h.mutex) xs)
        → (b : Bool) → bytes_eq name x.mutex ≡ b
        → option_map (λ h. h.slot) (if b then Some x else find (λ h. bytes_eq name h.mutex) xs) ≡ None → All (λ (h : Held). name ≢ h.mutex) (x ∷ xs)
    by rest true same f = cc
    by rest false other f =
        All-cons (λ (h : Held). name ≢ h.mutex) x xs (λ is. no (sym other ∙ ap (bytes_eq name) (sym is) ∙ itself name)) (rest f)

mutex_locked : (text : List BareDef) (hs : List Held) (name : Bytes) (slot : ℕ) → is_mutex (definition text name) ≡ true
    → option_map (λ h. h.slot) (find (λ h. bytes_eq name h.mutex) hs) ≡ None → MutexesHeld text hs
    → MutexesHeld text (record { mutex = name; slot = slot } ∷ hs)
mutex_locked text hs name slot is none h = record {
  declared = All-cons (λ (x : Held). IsTrue (is_mutex (definition text x.mutex))) _ hs is h.declared;
  once = AllPairs-cons (λ (x y : Held). x.mutex ≢ y.mutex) _ hs (unheld name hs none) h.once;
}

mutex_released : (text : List BareDef) (hs : List Held) (name : Bytes) → MutexesHeld text hs
    → MutexesHeld text (filter (λ h. not (bytes_eq name h.mutex)) hs)
mutex_released text hs name h = record {
  declared = All-filter (λ h. not (bytes_eq name h.mutex)) (λ (x : Held). IsTrue (is_mutex (definition text x.mutex))) hs h.declared;
  once = AllPairs-filter (λ (x y : Held). x.mutex ≢ y.mutex) (λ h. not (bytes_eq name h.mutex)) hs h.once;
}

-- ---- a world

pub record Sustained (texts : List (List BareDef)) (w : World) : Type 0 where
  pub is_of : IsOf texts w
  pub bodies : BodiesStore w.text
  pub globals : GlobalsHeld w.text w.globals
  pub mutexes : MutexesHeld w.text w.holders
  pub slots : w.finish ≡ None → SlotsStore texts w.slots

-- a world that is there satisfies P
abbrev pub AllOf : (World → Type 0) → Option World → Type 0
AllOf P None = Unit {0}
AllOf P (Some w) = P w

pub either_way : (P : World → Type 0) (b : Bool) (x y : Option World) → AllOf P x → AllOf P y → AllOf P (if b then x else y)
either_way P true x y p q = p
either_way P false x y p q = q

module _ (texts : List (List BareDef)) where
  -- another world of the same text
  pub changed : (w after : World) → Sustained texts w → after.table ≡ w.table → after.text ≡ w.text → GlobalsHeld w.text after.globals
      → MutexesHeld w.text after.holders → (after.finish ≡ None → SlotsStore texts after.slots) → Sustained texts after
  changed w after h table text globals mutexes slots = record {
    is_of = record { history = subst (IsHistory texts) (sym table) h.is_of.history; last = text ∙ h.is_of.last };
    bodies = subst BodiesStore (sym text) h.bodies;
    globals = subst (λ t. GlobalsHeld t after.globals) (sym text) globals;
    mutexes = subst (λ t. MutexesHeld t after.holders) (sym text) mutexes;
    slots = slots;
  }

  -- a stop that is made, with what is known of its frame and its values
  pub record Ready (s : Standing) (x : Stop) (values : List Value) : Type 0 where
    pub world : Sustained texts s.world
    pub going : s.world.finish ≡ None
    pub frame : FrameStores texts s.frame
    pub fits : StopFits (version_in texts s.frame.version) x
    pub newest : Newest (asked_at (version_in texts s.frame.version) (result_in texts s.frame.version s.frame.function) x) values
    pub serves : Serves (given_at x) (asked_of texts s.frame)
    pub below : AllWait texts s.below
    pub root : Returns texts s.slot (root_type texts (s.frame ∷ s.below) None)
    pub entering : s.thread.entering ≡ None
    pub right : (name : Bytes) → use_at x ≡ Some name → is_right s.world.table s.frame.version name ≡ true

  module _ (s : Standing) (x : Stop) (values : List Value) (r : Ready s x values) where
    abbrev Kept : Option World → Type 0
    Kept = AllOf (Sustained texts)

    abbrev Unasked : Type 0
    Unasked = Serves None (asked_of texts s.frame)

    slots_now : SlotsStore texts s.world.slots
    slots_now = r.world.slots r.going

    -- the name that is used is now as it was
    agreed : (name : Bytes) → use_at x ≡ Some name
        → agree same_interface (version_in texts s.frame.version name) (definition s.world.text name) ≡ true
    agreed name e =
        subst (λ t. agree same_interface (version_in texts s.frame.version name) (definition t name) ≡ true) (sym r.world.is_of.last)
        (sym (right_by_texts texts s.world.table r.world.is_of.history s.frame.version name) ∙ r.right name e)

    -- the thread with other values
    abbrev frames_with : List Value → List Frame
    frames_with more = record s.frame { values = more } ∷ s.below

    again : (more : List Value) → Newest (asked_of texts s.frame) more → SeatStores texts s.slot (frames_with more) s.thread.entering
    again more h =
        subst (SeatStores texts s.slot (frames_with more)) (sym r.entering)
        (record {
          stores = (record { stores = record { known = r.frame.known; pieces = r.frame.pieces }; newest = h }, r.below);
          returns = subst (Returns texts s.slot) (root_same texts s.frame (record s.frame { values = more }) s.below None None refl refl) r.root;
        })

    seated : (w : World) (th : Thread) → w.table ≡ s.world.table → w.text ≡ s.world.text → GlobalsHeld s.world.text w.globals
        → MutexesHeld s.world.text w.holders → SlotsStore texts w.slots → SeatStores texts s.slot th.frames th.entering
        → Sustained texts (with_thread s.slot th w)
    seated w th table text globals mutexes slots seat =
        changed s.world (with_thread s.slot th w) r.world table text globals mutexes (λ e. slot_changed texts w.slots s.slot (Live th) slots seat)

    goes : (w : World) (more : List Value) → w.table ≡ s.world.table → w.text ≡ s.world.text → GlobalsHeld s.world.text w.globals
        → MutexesHeld s.world.text w.holders → SlotsStore texts w.slots → Newest (asked_of texts s.frame) more → Kept (goes_on s w more)
    goes w more table text globals mutexes slots newest =
        seated w (gone_on s more) table text globals mutexes slots (again more newest)

    -- what changes neither definitions nor globals, mutexes or slots
    aside : (w : World) (more : List Value) → w.table ≡ s.world.table → w.text ≡ s.world.text → w.globals ≡ s.world.globals
        → w.holders ≡ s.world.holders → w.slots ≡ s.world.slots → Unasked → Kept (goes_on s w more)
    aside w more table text globals holders slots none =
        goes w more table text (subst (GlobalsHeld s.world.text) (sym globals) r.world.globals)
        (subst (MutexesHeld s.world.text) (sym holders) r.world.mutexes) (subst (SlotsStore texts) (sym slots) slots_now)
        (unasked_newest (asked_of texts s.frame) more none)

    here : (more : List Value) → Unasked → Kept (goes_on s s.world more)
    here more none = aside s.world more refl refl refl refl refl none

    finished : (w : World) (f : world.Finish) → w.table ≡ s.world.table → w.text ≡ s.world.text → w.globals ≡ s.world.globals
        → w.holders ≡ s.world.holders → Sustained texts (record w { finish = Some f })
    finished w f table text globals holders =
        changed s.world (record w { finish = Some f }) r.world table text (subst (GlobalsHeld s.world.text) (sym globals) r.world.globals)
        (subst (MutexesHeld s.world.text) (sym holders) r.world.mutexes) (λ e. absurd (none-some f (sym e)))

    trapped : (kind : TrapKind) → Kept (traps s kind)
    trapped kind = finished (with_thread s.slot (gone_on s s.frame.values) s.world) (world.Trapped kind s.slot) refl refl refl refl

    -- ---- objects

    live_kept : (f : Object → Option World) (o : Option Object) → ((o : Object) → Kept (f o)) → Kept (on_live s f o)
    live_kept f None h = trapped Stale
    live_kept f (Some o) h = either_way (Sustained texts) o.live (f o) (traps s Stale) (h o) (trapped Stale)

    object_kept : (n : Option ℕ) (f : ℕ → Object → Option World) → ((n : ℕ) (o : Object) → Kept (f n o)) → Kept (on_object s n f)
    object_kept None f h = trapped Null
    object_kept (Some n) f h = live_kept (f n) (slice_get s.world.objects n) (h n)

    read_element_kept : Unasked → (name : Bytes) (values : List Value) → Kept (read_element s name values)
    read_element_kept none name [] = tt
    read_element_kept none name (Number i ∷ more) =
        let cells = cells_of s.world name in
        either_way (Sustained texts) (in_bounds (value_of i) cells)
        (goes_on s s.world (unwrap_or (slice_get cells (unsigned_abs (value_of i))) (int_of 0) ∷ more)) (traps s Index) (here _ none) (trapped Index)
    read_element_kept none name (Reference o ∷ more) = tt
    read_element_kept none name (Started t ∷ more) = tt

    read_field_kept : Unasked → (field : Bytes) (values : List Value) → Kept (read_field s field values)
    read_field_kept none field [] = tt
    read_field_kept none field (Number i ∷ more) = tt
    read_field_kept none field (Started t ∷ more) = tt
    read_field_kept none field (Reference o ∷ more) = object_kept o _ (λ n p. here _ none)

    write_field_kept : Unasked → (field : Bytes) (values : List Value) → Kept (write_field s field values)
    write_field_kept none field [] = tt
    write_field_kept none field (v ∷ []) = tt
    write_field_kept none field (v ∷ Number i ∷ more) = tt
    write_field_kept none field (v ∷ Started t ∷ more) = tt
    write_field_kept none field (v ∷ Reference o ∷ more) = object_kept o _ (λ n p. aside _ _ refl refl refl refl refl none)

    allocate_kept : Unasked → (tag : Bytes) (values : List Value) → Kept (allocate s tag values)
    allocate_kept none tag more =
        either_way (Sustained texts) (live_objects s.world == s.world.capacity) (goes_on s s.world (Reference None ∷ more)) _ (here _ none)
        (aside _ _ refl refl refl refl refl none)

    release_kept : Unasked → (values : List Value) → Kept (release s values)
    release_kept none [] = tt
    release_kept none (Number i ∷ more) = tt
    release_kept none (Started t ∷ more) = tt
    release_kept none (Reference None ∷ more) = here _ none
    release_kept none (Reference (Some n) ∷ more) = live_kept _ (slice_get s.world.objects n) (λ o. aside _ _ refl refl refl refl refl none)

    -- ---- mutexes

    initialise_kept : Unasked → (more : List Value) (h : Option ℕ) → Kept (initialise s more h)
    initialise_kept none more None = here _ none
    initialise_kept none more (Some slot) = trapped MutexHeld

    lock_kept : Unasked → (name : Bytes) → is_mutex (definition s.world.text name) ≡ true → (more : List Value) (h : Option ℕ)
        → holder_of s.world name ≡ h → Kept (lock s name more h)
    lock_kept none name is more None e =
        goes (with_holder name s.slot s.world) _ refl refl r.world.globals (mutex_locked s.world.text s.world.holders name s.slot is e r.world.mutexes)
        slots_now (unasked_newest (asked_of texts s.frame) _ none)
    lock_kept none name is more (Some slot) e = trapped Relock

    unlock_kept : Unasked → (name : Bytes) (more : List Value) (h : Option ℕ) → Kept (unlock s name more h)
    unlock_kept none name more None = trapped NotHeld
    unlock_kept none name more (Some slot) =
        either_way (Sustained texts) (slot == s.slot) (goes_on s (released name s.world) (int_of 0 ∷ more)) (traps s NotHeld)
        (goes (released name s.world) _ refl refl r.world.globals (mutex_released s.world.text s.world.holders name r.world.mutexes) slots_now
        (unasked_newest (asked_of texts s.frame) _ none))
        (trapped NotHeld)

    -- ---- globals

    write_global_kept : Unasked → (name : Bytes) → use_at x ≡ Some name → is_variable (version_in texts s.frame.version name) ≡ true
        → (more : List Value) → Newest (Some (global_type (version_in texts s.frame.version name))) more → Kept (write_global s name more)
    write_global_kept none name used is [] fits = tt
    write_global_kept none name used is (v ∷ more) fits =
        goes (with_cells name (v ∷ []) s.world) _ refl refl
        (variable_written s.world.text s.world.globals name v (version_in texts s.frame.version name) (agreed name used) is fits r.world.globals)
        r.world.mutexes slots_now (unasked_newest (asked_of texts s.frame) _ none)

    write_element_kept : Unasked → (name : Bytes) → use_at x ≡ Some name → is_array (version_in texts s.frame.version name) ≡ true
        → (more : List Value) → Newest (Some (global_type (version_in texts s.frame.version name))) more → Kept (write_element s name more)
    write_element_kept none name used is [] fits = tt
    write_element_kept none name used is (v ∷ []) fits = tt
    write_element_kept none name used is (v ∷ Reference o ∷ more) fits = tt
    write_element_kept none name used is (v ∷ Started t ∷ more) fits = tt
    write_element_kept none name used is (v ∷ Number i ∷ more) fits =
        let cells = cells_of s.world name in
        let at = unsigned_abs (value_of i) in
        either_way (Sustained texts) (in_bounds (value_of i) cells) (goes_on s (with_cells name (slice_set cells at v) s.world) (v ∷ more)) (traps s Index)
        (goes (with_cells name (slice_set cells at v) s.world) _ refl refl
        (element_written s.world.text s.world.globals name at v (version_in texts s.frame.version name) (agreed name used) is fits r.world.globals)
        r.world.mutexes slots_now (unasked_newest (asked_of texts s.frame) _ none))
        (trapped Index)

    -- ---- threads

    start_kept : Serves (Some ThreadType) (asked_of texts s.frame) → (e : Enter) → e.version ≡ s.frame.version
        → result_in texts e.version e.function ≡ int → (more : List Value) (place : Option ℕ) → Kept (start_in s e more place)
    start_kept served e version returns more None =
        goes s.world _ refl refl r.world.globals r.world.mutexes slots_now
        (newest_given ThreadType (asked_of texts s.frame) (Started None) more refl served)
    start_kept served e version returns more (Some t) =
        goes _ _ refl refl r.world.globals r.world.mutexes
        (slot_changed texts s.world.slots t (Live _) slots_now
        (record {
          stores = (subst (λ n. n ≤ length texts) (sym version) r.frame.known, tt);
          returns = returns_int texts t (result_in texts e.version e.function) returns;
        }))
        (newest_given ThreadType (asked_of texts s.frame) (Started _) more refl served)

    spawn_kept : Serves (Some ThreadType) (asked_of texts s.frame) → (name : Bytes) → result_in texts s.frame.version name ≡ int
        → (values : List Value) → Kept (spawn s name values)
    spawn_kept served name returns [] = tt
    spawn_kept served name returns (v ∷ more) =
        start_kept served (record { function = name; arguments = v ∷ []; version = s.frame.version }) refl returns more
        (position is_free s.world.slots)

    join_slot_kept : Serves (Some int) (asked_of texts s.frame) → (ref : ThreadRef) (more : List Value) (y : Slot)
        → in_slot s.world ref.slot ≡ y → Kept (join_slot s ref more y)
    join_slot_kept served ref more world.Free e = trapped NotJoined
    join_slot_kept served ref more (Live th) e = trapped NotJoined
    join_slot_kept served ref more (Over serial v) e =
        let fits : has_type int v ≡ true = subst (SlotStores texts ref.slot) e (slots_now.each ref.slot) in
        either_way (Sustained texts) (serial == ref.serial) (goes_on s (with_slot ref.slot world.Free s.world) (v ∷ more)) (traps s NotJoined)
        (goes (with_slot ref.slot world.Free s.world) _ refl refl r.world.globals r.world.mutexes
        (slot_changed texts s.world.slots ref.slot world.Free slots_now tt) (newest_given int (asked_of texts s.frame) v more fits served))
        (trapped NotJoined)

    join_kept : Serves (Some int) (asked_of texts s.frame) → (values : List Value) → Kept (join s values)
    join_kept served [] = tt
    join_kept served (Number i ∷ more) = tt
    join_kept served (Reference o ∷ more) = tt
    join_kept served (Started None ∷ more) = trapped NotJoined
    join_kept served (Started (Some ref) ∷ more) = join_slot_kept served ref more (in_slot s.world ref.slot) refl

    call_kept : Unasked → (name : Bytes) (n : ℕ) (more : List Value) → Kept (call s name n more)
    call_kept none name n more =
        seated s.world _ refl refl r.world.globals r.world.mutexes slots_now
        (record {
          stores = (
            r.frame.known,
            (record { stores = record { known = r.frame.known; pieces = r.frame.pieces }; unasked = unasked (asked_of texts s.frame) none }, r.below),
          );
          returns = subst (Returns texts s.slot) (root_same texts s.frame (record s.frame { values = drop n more }) s.below None (Some _) refl refl) r.root;
        })

    -- ---- returns

    finish_kept : (v : Value) → Returns texts s.slot (result_in texts s.frame.version s.frame.function)
        → has_type (result_in texts s.frame.version s.frame.function) v ≡ true → (n : ℕ) → s.slot ≡ n → Kept (finish_thread s v n)
    finish_kept v root fits zero e = finished s.world (world.Finished (number_of v)) refl refl refl refl
    finish_kept v root fits (suc n) e =
        let ints : result_in texts s.frame.version s.frame.function ≡ int =
        subst (λ m. Returns texts m (result_in texts s.frame.version s.frame.function)) e root in
        changed s.world (with_slot s.slot (Over s.thread.serial v) s.world) r.world refl refl r.world.globals r.world.mutexes
        (λ f. slot_changed texts s.world.slots s.slot (Over s.thread.serial v) slots_now (subst (λ t. has_type t v ≡ true) ints fits))

    return_to_kept : (v : Value) → has_type (result_in texts s.frame.version s.frame.function) v ≡ true → (below : List Frame) → s.below ≡ below
        → Kept (return_to s v below)
    return_to_kept v fits [] e =
        finish_kept v (subst (λ fs. Returns texts s.slot (root_type texts (s.frame ∷ fs) None)) e r.root) fits s.slot refl
    return_to_kept v fits (f ∷ fs) e =
        let waiting : AllWait texts (f ∷ fs) = subst (AllWait texts) e r.below in
        let root = subst (λ gs. Returns texts s.slot (root_type texts (s.frame ∷ gs) None)) e r.root in
        seated s.world _ refl refl r.world.globals r.world.mutexes slots_now
        (subst (SeatStores texts s.slot (record f { values = v ∷ f.values } ∷ fs)) (sym r.entering)
        (record {
          stores = (
            record {
              stores = record { known = waiting.0.stores.known; pieces = waiting.0.stores.pieces };
              newest = subst (λ o. Newest o (v ∷ f.values)) (sym waiting.0.unasked) tt;
            },
            waiting.1,
          );
          returns = subst (Returns texts s.slot) (root_same texts f (record f { values = v ∷ f.values }) fs None None refl refl) root;
        }))

    return_kept : (more : List Value) → Newest (Some (result_in texts s.frame.version s.frame.function)) more → Kept (return s more)
    return_kept [] fits = tt
    return_kept (v ∷ more) fits = return_to_kept v fits s.below refl

    -- ---- transactions

    begin_kept : Unasked → (more : List Value) (depth : ℕ) → Kept (begin_at s depth (gone_on s more))
    begin_kept none more zero =
        seated s.world _ refl refl r.world.globals r.world.mutexes slots_now (again more (unasked_newest (asked_of texts s.frame) more none))
    begin_kept none more (suc depth) =
        seated s.world _ refl refl r.world.globals r.world.mutexes slots_now (again more (unasked_newest (asked_of texts s.frame) more none))

    end_kept : Unasked → (more : List Value) (depth : ℕ) → Kept (end_at s depth (gone_on s more))
    end_kept none more zero = tt
    end_kept none more (suc zero) =
        seated _ _ refl refl r.world.globals r.world.mutexes slots_now (again more (unasked_newest (asked_of texts s.frame) more none))
    end_kept none more (suc (suc depth)) =
        seated s.world _ refl refl r.world.globals r.world.mutexes slots_now (again more (unasked_newest (asked_of texts s.frame) more none))

  -- ---- each stop

  pub perform_kept : (x : Stop) (s : Standing) (values : List Value) → Ready s x values → AllOf (Sustained texts) (perform x s values)
  perform_kept (ReadGlobal name) s values r = here s (ReadGlobal name) values r _ r.serves
  perform_kept (WriteGlobal name) s values r = write_global_kept s (WriteGlobal name) values r r.serves name refl r.fits values r.newest
  perform_kept (ReadElement name) s values r = read_element_kept s (ReadElement name) values r r.serves name values
  perform_kept (WriteElement name) s values r = write_element_kept s (WriteElement name) values r r.serves name refl r.fits values r.newest
  perform_kept (ReadField tag field) s values r = read_field_kept s (ReadField tag field) values r r.serves field values
  perform_kept (WriteField tag field) s values r = write_field_kept s (WriteField tag field) values r r.serves field values
  perform_kept (New tag) s values r = allocate_kept s (New tag) values r r.serves tag values
  perform_kept (Free tag) s values r = release_kept s (Free tag) values r r.serves values
  perform_kept (Print format n) s values r = aside s (Print format n) values r _ _ refl refl refl refl refl r.serves
  perform_kept (InitMutex name) s values r = initialise_kept s (InitMutex name) values r r.serves values (holder_of s.world name)
  perform_kept (Lock name) s values r =
      lock_kept s (Lock name) values r r.serves name
      (mutex_now (version_in texts s.frame.version name) (definition s.world.text name) (agreed s (Lock name) values r name refl) r.fits) values
      (holder_of s.world name) refl
  perform_kept (Unlock name) s values r = unlock_kept s (Unlock name) values r r.serves name values (holder_of s.world name)
  perform_kept (Spawn name) s values r = spawn_kept s (Spawn name) values r r.serves name r.fits values
  perform_kept Join s values r = join_kept s Join values r r.serves values
  perform_kept (Call name n) s values r = call_kept s (Call name n) values r r.serves name n values
  perform_kept Return s values r = return_kept s Return values r values r.newest
  perform_kept Back s values r = here s Back values r _ r.serves
  perform_kept Begin s values r = begin_kept s Begin values r r.serves values s.thread.depth
  perform_kept End s values r = end_kept s End values r r.serves values s.thread.depth
  perform_kept Update s values r = here s Update values r _ r.serves

-- Each stop of a typed frame leaves a typed world.
use Rattle.std.proofs.Common.{◌≡◌, ℕ, zero, suc, ◌≤◌, ◌<◌, ◌==◌, ◌&&◌, ◌⊎◌, inl, inr, ℤ, pos, negsuc, Bool, true, false, List, [], ◌∷◌, ◌++◌, length, take, drop, reverse, Option, Some, None, is_some, unwrap_or, unsigned_abs, All, refl, sym, ap, subst, ◌∙◌, if◌then◌else◌}
use Rattle.std.specs.Prelude.{IsTrue, position, slice_get, slice_set, slice_index_or}
use Rattle.std.proofs.lemmas.Bool.{cases_lt, ltb-true}
use Rattle.std.proofs.lemmas.List.{get_or_past, length-map, length-reverse, map-append, reverse-reverse}
use Rattle.std.proofs.lemmas.List.Elements.{All-append, All-cons, All-get_or, All-head, All-nil, All-set}
use Rattle.std.proofs.lemmas.Option.{none-some, unwrap_or-slice_get}
use Rattle.run_types.specs.declared.trap.TrapKind.{TrapKind}
use Rattle.run_types.specs.declared.trap.TrapKind.TheVariants.{Null, Stale, Index, Relock, Unlock as NotHeld, MutexHeld, Join as NotJoined}
use Rattle.c_ints.specs.declared.kind.Kind.{Kind}
use Rattle.c_ints.specs.declared.int.Int.{Int}
use Rattle.c_ints.specs.Number.{value_of}
use Rattle.c_format.specs.declared.reading.Reading.TheVariants.{Text}
use Rattle.c_format.specs.Formats.{kinds}
use Rattle.c_tree.specs.BareExpr.{Bytes, BareType, Integer, Handle, Thread as ThreadType}
use Rattle.c_tree.specs.BareDef.{BareBinding, BareDef, Struct, Global}
use Rattle.c_semantics.specs.Names.{struct_name}
use Rattle.c_semantics.specs.Texts.{Definitions, bound, definition, global_type, int, members_of, result_type}
use Rattle.c_semantics.specs.Values.{ThreadRef, Value, Number, Reference, Started, int_of}
use Rattle.c_semantics.specs.Stops.{Stop, ReadGlobal, WriteGlobal, ReadElement, WriteElement, ReadField, WriteField, New, Free, Print, InitMutex, Lock, Unlock, Spawn, Join, Call, Return, Back, Begin, End, Update}
use Rattle.c_semantics.specs.Evaluation.{with_value}
use Rattle.c_semantics.specs.Transformers.{first_cell, zero_fields}
use Rattle.c_semantics.specs.Threads.{Enter, Frame, Thread, started}
use Rattle.source_model.specs.Worlds.{World, Cells, Object, Slot, Live, Over, cells_of, holder_of, in_slot, live_objects, now, released, with_cells, with_slot, with_thread}
use Rattle.source_model.specs.Worlds as world
use Rattle.source_model.specs.Uses.{use_at}
use Rattle.source_model.specs.Moves.{Standing, allocate, begin_at, call, end_at, finish_thread, goes_on, gone_on, in_bounds, initialise, is_free, join, join_slot, lock, new_object, number_of, on_live, on_object, perform, print, read_element, read_field, release, return, return_to, spawn, start_in, traps, unlock, with_object, write_element, write_field, write_global}
use Rattle.version_laws.specs.Histories.{last_text}
use Rattle.version_laws.proofs.RunHistories.{IsOf}
use Rattle.version_laws.proofs.SameDefinitions.{members_alike}
use Rattle.version_laws.proofs.TableHistories.{last_as_current}
use Rattle.world_laws.specs.Holdings.{HoldsGlobals}
use Rattle.world_laws.proofs.Found.{cells_in}
use Rattle.typed_transformers.specs.TransformerTypes.{HasCells}
use Rattle.typed_trees.specs.ValueTypes.{Environment, HasType, HaveTypes, ScopeHas, ScopesHave}
use Rattle.typed_trees.specs.ExpressionTypes.{IsArray, IsFunction, IsInteger, IsStruct, IsVariable, Runs, parameter_types}
use Rattle.typed_trees.specs.PieceTypes.{HasField, Pops, PopsFormat, Stack, StopTyped, Top, field_type, going}
use Rattle.typed_runs.specs.TypedFrames.{Below, FramesTyped, ThreadTyped, result_in, version_in}
use Rattle.typed_runs.specs.TypedWorlds.{FinishTyped, GlobalsTyped, ObjectTyped, SlotTyped, WorldTyped, tags_of}
use Rattle.typed_runs.proofs.Arguments.{printed_left, reversed_have, taken_of}
use Rattle.typed_runs.proofs.MoreObjects.{Grows, before_more, below_still, globals_still, next_number, no_more, objects_still, scopes_still, slots_still, values_still}
use Rattle.typed_runs.proofs.Places.{cells_written, field_has, field_written, object_at, tag_is, tags_kept, zeros_have}
use Rattle.typed_runs.proofs.SameUses.{SameUse, array_cells, variable_cells}

no : false ≡ true → ⊥
no e = cc

-- what is in a slot is typed
pub slot_at : (texts : List (List BareDef)) (tags : List Bytes) (slots : List Slot) (t : ℕ) → All (SlotTyped texts tags) slots
    → SlotTyped texts tags (slice_index_or slots t world.Free)
slot_at texts tags slots t h = by (cases_lt t (length slots))
  where
    by : (t < length slots) ⊎ (length slots ≤ t) → SlotTyped texts tags (slice_index_or slots t world.Free)
    by (inl within) = All-get_or (SlotTyped texts tags) slots t world.Free within h
    by (inr past) = subst (SlotTyped texts tags) (sym (get_or_past slots t world.Free past)) tt

-- the outcome of a stop or a move: a world of which P holds, or none, which says that it stuck
abbrev pub Outcome : Type 0 → (World → Type 0) → Option World → Type 0
Outcome Stuck P None = Stuck
Outcome Stuck P (Some w) = P w

pub either_way : (Stuck : Type 0) (P : World → Type 0) (b : Bool) (x y : Option World) → Outcome Stuck P x → Outcome Stuck P y
    → Outcome Stuck P (if b then x else y)
either_way Stuck P true x y p q = p
either_way Stuck P false x y p q = q

module _ (texts : List (List BareDef)) (s : Standing) where
  abbrev look : Definitions
  look = version_in texts s.frame.version

  abbrev result : BareType
  result = result_in texts s.frame.version s.frame.function

  abbrev text : List BareDef
  text = last_text texts

  abbrev tags : List Bytes
  tags = tags_of s.world.objects

  -- the stop is in a typed world of a frame whose variables have types, over frames that wait for its result
  pub record Ready : Type 0 where
    pub of : IsOf texts s.world
    pub holds : HoldsGlobals s.world
    pub world : WorldTyped texts s.world
    pub runs : s.world.finish ≡ None
    pub known : s.frame.version ≤ length texts
    pub env : Environment
    pub scopes_have : ScopesHave tags env s.frame.scopes
    pub below : Below texts tags result s.below
    pub entering : s.thread.entering ≡ None

  module _ (Stuck : Type 0) (r : Ready) where
    abbrev Kept : Option World → Type 0
    Kept = Outcome Stuck (WorldTyped texts)

    -- the rest goes on well from values of these types
    abbrev On : Stack → Type 0
    On stack = (going look result s.frame.pieces).on stack r.env

    -- the world after a stop, but for the thread that made it
    record After (w : World) : Type 0 where
      grows : Grows tags (tags_of w.objects)
      slots : All (SlotTyped texts (tags_of w.objects)) w.slots
      objects : All (ObjectTyped text (tags_of w.objects)) w.objects
      globals : GlobalsTyped text (tags_of w.objects) w
      finish : FinishTyped w.finish

    here : After s.world
    here = record {
      grows = no_more tags tags refl;
      slots = r.world.slots r.runs;
      objects = r.world.objects;
      globals = r.world.globals;
      finish = r.world.finish;
    }

    -- a thread that is put back
    seated : (w : World) (th : Thread) → After w → ThreadTyped texts (tags_of w.objects) th → WorldTyped texts (with_thread s.slot th w)
    seated w th a h = record {
      slots = λ e. All-set (SlotTyped texts (tags_of w.objects)) w.slots s.slot (Live th) h a.slots;
      objects = a.objects;
      globals = a.globals;
      finish = a.finish;
    }

    -- its frames with other values
    frames_on : (more : List Bytes) (values : List Value) (under : Stack) → Grows tags more → On under → HaveTypes more under values
        → FramesTyped texts more s.thread.entering (record s.frame { values = values } ∷ s.below)
    frames_on more values under grows on h =
        subst (λ e. FramesTyped texts more e (record s.frame { values = values } ∷ s.below)) (sym r.entering) (
          record {
            known = r.known;
            goes_on = record {
              stack = under;
              env = r.env;
              typed = on;
              values_have = h;
              scopes_have = scopes_still tags more grows r.env s.frame.scopes r.scopes_have;
            };
          },
          below_still tags more grows texts result s.below r.below,
        )

    goes : (w : World) (values : List Value) (under : Stack) → After w → On under → HaveTypes (tags_of w.objects) under values
        → Kept (goes_on s w values)
    goes w values under a on h = seated w (gone_on s values) a (frames_on (tags_of w.objects) values under a.grows on h)

    goes_here : (values : List Value) (under : Stack) → On under → HaveTypes tags under values → Kept (goes_on s s.world values)
    goes_here values under = goes s.world values under here

    trapped : (kind : TrapKind) → Kept (traps s kind)
    trapped kind = record {
      slots = λ e. absurd (none-some (world.Trapped kind s.slot) (sym e));
      objects = r.world.objects;
      globals = r.world.globals;
      finish = tt;
    }

    -- ---- the newest value, by its type

    newest : (f : List Value → Option World) (P : BareType → Stack → Type 0) (stack : Stack) (values : List Value)
        → ((t : BareType) (under : Stack) (v : Value) (rest : List Value) → P t under → HasType tags t v → HaveTypes tags under rest
        → Kept (f (v ∷ rest)))
        → Top stack P → HaveTypes tags stack values → Kept (f values)
    newest f P [] values k p h = absurd p
    newest f P (t ∷ under) [] k p h = absurd h
    newest f P (t ∷ under) (v ∷ rest) k p h = k t under v rest p h.0 h.1

    a_number : (f : Value → Option World) (t : BareType) (v : Value) → ((n : Int) → Kept (f (Number n))) → IsInteger t → HasType tags t v → Kept (f v)
    a_number f (Integer j) (Number n) k is h = k n
    a_number f (Integer j) (Reference o) k is h = absurd h
    a_number f (Integer j) (Started o) k is h = absurd h
    a_number f (Handle tag) v k is h = absurd is
    a_number f ThreadType v k is h = absurd is

    a_handle : (f : Value → Option World) (tag : Bytes) (v : Value)
        → ((o : Option ℕ) → HasType tags (Handle tag) (Reference o) → Kept (f (Reference o))) → HasType tags (Handle tag) v → Kept (f v)
    a_handle f tag (Number n) k h = absurd h
    a_handle f tag (Reference o) k h = k o h
    a_handle f tag (Started o) k h = absurd h

    a_thread : (f : Value → Option World) (v : Value) → ((o : Option ThreadRef) → Kept (f (Started o))) → HasType tags ThreadType v → Kept (f v)
    a_thread f (Number n) k h = absurd h
    a_thread f (Reference o) k h = absurd h
    a_thread f (Started o) k h = k o

    -- ---- globals and arrays

    cells_now : (name : Bytes) → SameUse (look name) (definition text name) → HasCells (definition text name)
        → All (HasType tags (global_type (look name))) (cells_of s.world name)
    cells_now name same c =
        subst (λ t. All (HasType tags t) (cells_of s.world name)) (sym same.global_is) (r.world.globals name c)

    -- a variable has one cell
    one_cell : (name : Bytes) (o : Option BareDef) → definition s.world.text name ≡ o → IsVariable o
        → (v : Value) × (cells_of s.world name ≡ v ∷ [])
    one_cell name (Some (Global d)) e is = let one = r.holds.variables name d e in (one.value, one.is)
    one_cell name _ e is = absurd is

    first_has : (t : BareType) (cells : List Value) → (v : Value) × (cells ≡ v ∷ []) → All (HasType tags t) cells → HasType tags t (first_cell cells)
    first_has t cells one h =
        subst (λ vs. HasType tags t (first_cell vs)) (sym one.1)
        (All-head (HasType tags t) one.0 [] (subst (All (HasType tags t)) one.1 h))

    read_global_kept : (name : Bytes) (values : List Value) (stack : Stack) → SameUse (look name) (definition text name) → IsVariable (look name)
        → On (global_type (look name) ∷ stack) → HaveTypes tags stack values → Kept (goes_on s s.world (first_cell (cells_of s.world name) ∷ values))
    read_global_kept name values stack same is on h =
        goes_here _ (global_type (look name) ∷ stack) on (
          first_has (global_type (look name)) (cells_of s.world name)
              (one_cell name (definition s.world.text name) refl
              (subst (λ t. IsVariable (definition t name)) (sym r.of.last) (same.variable is)))
              (cells_now name same (variable_cells (definition text name) (same.variable is))),
          h,
        )

    after_cells : (name : Bytes) (cells : List Value) → SameUse (look name) (definition text name)
        → All (HasType tags (global_type (look name))) cells → After (with_cells name cells s.world)
    after_cells name cells same new = record {
      grows = no_more tags tags refl;
      slots = r.world.slots r.runs;
      objects = r.world.objects;
      globals = cells_written text tags s.world name cells (subst (λ t. All (HasType tags t) cells) same.global_is new) r.world.globals;
      finish = r.world.finish;
    }

    write_global_kept : (name : Bytes) (values : List Value) (stack : Stack) → SameUse (look name) (definition text name)
        → Top stack (λ t under. (t ≡ global_type (look name)) × On (global_type (look name) ∷ under)) → HaveTypes tags stack values
        → Kept (write_global s name values)
    write_global_kept name values stack same =
        let type = global_type (look name) in
        newest (write_global s name) _ stack values (λ t under v rest p h rest_have.
        let has : HasType tags type v = subst (λ u. HasType tags u v) p.0 h in
        goes (with_cells name (v ∷ []) s.world) (v ∷ rest) (type ∷ under)
        (after_cells name (v ∷ []) same (All-cons (HasType tags type) v [] has (All-nil (HasType tags type)))) p.1 (has, rest_have))

    second : (a b : Bool) → (a && b) ≡ true → b ≡ true
    second true b e = e
    second false b e = cc

    within : (i : ℤ) (cells : List Value) → in_bounds i cells ≡ true → unsigned_abs i < length cells
    within (pos n) cells e = ltb-true n (length cells) (second _ _ e)
    within (negsuc n) cells e = absurd (no e)

    read_element_kept : (name : Bytes) (values : List Value) (stack : Stack) → SameUse (look name) (definition text name) → IsArray (look name)
        → Top stack (λ i under. IsInteger i × On (global_type (look name) ∷ under)) → HaveTypes tags stack values
        → Kept (read_element s name values)
    read_element_kept name values stack same array =
        newest (read_element s name) _ stack values (λ t under v rest p h rest_have.
        a_number (λ x. read_element s name (x ∷ rest)) t v (λ n. found n under rest p.1 rest_have) p.0 h)
      where
        found : (n : Int) (under : Stack) (rest : List Value) → On (global_type (look name) ∷ under) → HaveTypes tags under rest
            → Kept (read_element s name (Number n ∷ rest))
        found n under rest on rest_have =
            let cells = cells_of s.world name in
            let at = unsigned_abs (value_of n) in
            by (in_bounds (value_of n) cells) refl
          where
            by : (b : Bool) → in_bounds (value_of n) (cells_of s.world name) ≡ b
                → Kept (if b then goes_on s s.world (unwrap_or (slice_get (cells_of s.world name) (unsigned_abs (value_of n))) (int_of 0) ∷ rest) else traps s Index)
            by true is =
                let cells = cells_of s.world name in
                let at = unsigned_abs (value_of n) in
                goes_here _ (global_type (look name) ∷ under) on (
                  subst (HasType tags (global_type (look name))) (sym (unwrap_or-slice_get cells at (int_of 0)))
                      (All-get_or (HasType tags (global_type (look name))) cells at (int_of 0) (within (value_of n) cells is) (cells_now name same (array_cells (definition text name) (same.array array)))),
                  rest_have,
                )
            by false is = trapped Index

    write_element_kept : (name : Bytes) (values : List Value) (stack : Stack) → SameUse (look name) (definition text name) → IsArray (look name)
        → Top stack (λ t below. (t ≡ global_type (look name)) × Top below (λ i under. IsInteger i × On (global_type (look name) ∷ under)))
        → HaveTypes tags stack values → Kept (write_element s name values)
    write_element_kept name values stack same array =
        newest (write_element s name) _ stack values (λ t below v more p h more_have.
        newest (λ vs. write_element s name (v ∷ vs)) _ below more (λ u under w rest q g rest_have.
        a_number (λ x. write_element s name (v ∷ x ∷ rest)) u w
        (λ n. found n v under rest (subst (λ x. HasType tags x v) p.0 h) q.1 rest_have) q.0 g) p.1 more_have)
      where
        type : BareType
        type = global_type (look name)

        found : (n : Int) (v : Value) (under : Stack) (rest : List Value) → HasType tags type v → On (type ∷ under) → HaveTypes tags under rest
            → Kept (write_element s name (v ∷ Number n ∷ rest))
        found n v under rest has on rest_have =
            let cells = cells_of s.world name in
            let at = unsigned_abs (value_of n) in
            either_way Stuck (WorldTyped texts) (in_bounds (value_of n) cells) (goes_on s (with_cells name (slice_set cells at v) s.world) (v ∷ rest)) (traps s Index)
            (goes (with_cells name (slice_set cells at v) s.world) (v ∷ rest) (type ∷ under)
            (after_cells name (slice_set cells at v) same (All-set (HasType tags type) cells at v has (cells_now name same (array_cells (definition text name) (same.array array))))) on (has, rest_have))
            (trapped Index)

    -- ---- objects

    live_kept : (f : Object → Option World) (o : Option Object) → ((x : Object) → o ≡ Some x → Kept (f x)) → Kept (on_live s f o)
    live_kept f None k = trapped Stale
    live_kept f (Some o) k = either_way Stuck (WorldTyped texts) o.live (f o) (traps s Stale) (k o refl) (trapped Stale)

    -- an object that a handle of a struct names, with the fields of the struct now
    object_kept : (tag : Bytes) (o : Option ℕ) (f : ℕ → Object → Option World)
        → ((n : ℕ) (x : Object) → slice_get s.world.objects n ≡ Some x → tag ≡ x.tag → Kept (f n x))
        → HasType tags (Handle tag) (Reference o) → Kept (on_object s o f)
    object_kept tag None f k h = trapped Null
    object_kept tag (Some n) f k h =
        live_kept (f n) (slice_get s.world.objects n) (λ x at. k n x at (tag_is s.world.objects n x tag at h))

    -- its fields
    fields_now : (tag : Bytes) (n : ℕ) (x : Object) → slice_get s.world.objects n ≡ Some x → tag ≡ x.tag
        → SameUse (look (struct_name tag)) (definition text (struct_name tag)) → IsStruct (look (struct_name tag))
        → ScopeHas tags (members_of (look (struct_name tag))) x.fields
    fields_now tag n x at is same struct =
        subst (λ ms. ScopeHas tags ms x.fields) (sym same.members_are)
        (subst (λ g. IsStruct (definition text (struct_name g)) → ScopeHas tags (members_of (definition text (struct_name g))) x.fields) (sym is)
        (object_at text tags s.world.objects n x at r.world.objects) (same.struct struct))

    -- what has fields is a struct
    with_field : (o : Option BareDef) (name : Bytes) → (b : BareBinding) × (bound (members_of o) name ≡ Some b) → IsStruct o
    with_field (Some (Struct tag ms)) name h = tt
    with_field _ name h = absurd (none-some h.0 h.1)

    there : (ms : List BareBinding) (name : Bytes) → (b : BareBinding) × (bound ms name ≡ Some b) → IsTrue (is_some (bound ms name))
    there ms name h = ap is_some h.1

    read_field_kept : (tag name : Bytes) (values : List Value) (stack : Stack)
        → SameUse (look (struct_name tag)) (definition text (struct_name tag)) → HasField look tag name
        → Top stack (λ h under. (h ≡ Handle tag) × On (field_type look tag name ∷ under)) → HaveTypes tags stack values
        → Kept (read_field s name values)
    read_field_kept tag name values stack same field =
        newest (read_field s name) _ stack values (λ t under v rest p h rest_have.
        a_handle (λ x. read_field s name (x ∷ rest)) tag v (λ o has.
        object_kept tag o _ (λ n x at is.
        goes_here _ (field_type look tag name ∷ under) p.1 (
          field_has tags (members_of (look (struct_name tag))) x.fields name
              (fields_now tag n x at is same (with_field (look (struct_name tag)) name field)) (there _ name field),
          rest_have,
        )) has)
        (subst (λ u. HasType tags u v) p.0 h))

    -- an object of which another is made with its tag
    after_object : (n : ℕ) (x y : Object) → slice_get s.world.objects n ≡ Some x → y.tag ≡ x.tag → ObjectTyped text tags y
        → After (with_object n y s.world)
    after_object n x y at same h =
        let kept = tags_kept s.world.objects n x y at same in
        let grows = no_more tags (tags_of (slice_set s.world.objects n y)) kept in
        let more = tags_of (slice_set s.world.objects n y) in
        record {
          grows = grows;
          slots = slots_still tags more grows texts s.world.slots (r.world.slots r.runs);
          objects = objects_still tags more grows text (slice_set s.world.objects n y)
              (All-set (ObjectTyped text tags) s.world.objects n y h r.world.objects);
          globals = globals_still tags more grows text s.world r.world.globals;
          finish = r.world.finish;
        }

    goes_object : (n : ℕ) (x y : Object) (values : List Value) (under : Stack) → slice_get s.world.objects n ≡ Some x → y.tag ≡ x.tag
        → ObjectTyped text tags y → On under → HaveTypes tags under values → Kept (goes_on s (with_object n y s.world) values)
    goes_object n x y values under at same h on values_have =
        let a = after_object n x y at same h in
        goes (with_object n y s.world) values under a on
        (values_still tags (tags_of (slice_set s.world.objects n y)) a.grows under values values_have)

    write_field_kept : (tag name : Bytes) (values : List Value) (stack : Stack)
        → SameUse (look (struct_name tag)) (definition text (struct_name tag)) → HasField look tag name
        → Top stack (λ t below. (t ≡ field_type look tag name) × Top below (λ h under. (h ≡ Handle tag) × On (field_type look tag name ∷ under)))
        → HaveTypes tags stack values → Kept (write_field s name values)
    write_field_kept tag name values stack same field =
        newest (write_field s name) _ stack values (λ t below v more p h more_have.
        newest (λ vs. write_field s name (v ∷ vs)) _ below more (λ u under w rest q g rest_have.
        a_handle (λ x. write_field s name (v ∷ x ∷ rest)) tag w (λ o has.
        object_kept tag o _ (λ n x at is.
        let new : HasType tags (field_type look tag name) v = subst (λ x. HasType tags x v) p.0 h in
        goes_object n x (record x { fields = with_value name v x.fields }) (v ∷ rest) (field_type look tag name ∷ under) at refl
        (written n x v at is new) q.1 (new, rest_have)) has)
        (subst (λ x. HasType tags x w) q.0 g)) p.1 more_have)
      where
        written : (n : ℕ) (x : Object) (v : Value) → slice_get s.world.objects n ≡ Some x → tag ≡ x.tag → HasType tags (field_type look tag name) v
            → ObjectTyped text tags (record x { fields = with_value name v x.fields })
        written n x v at is new struct =
            subst (λ g. ScopeHas tags (members_of (definition text (struct_name g))) (with_value name v x.fields)) is
            (subst (λ ms. ScopeHas tags ms (with_value name v x.fields)) same.members_are
            (field_written tags (members_of (look (struct_name tag))) x.fields name v
            (fields_now tag n x at is same (with_field (look (struct_name tag)) name field)) new))

    release_kept : (tag : Bytes) (values : List Value) (stack : Stack)
        → Top stack (λ h under. (h ≡ Handle tag) × On (int ∷ under)) → HaveTypes tags stack values → Kept (release s values)
    release_kept tag values stack =
        newest (release s) _ stack values (λ t under v rest p h rest_have.
        a_handle (λ x. release s (x ∷ rest)) tag v (λ o has. by o under rest p.1 rest_have)
        (subst (λ u. HasType tags u v) p.0 h))
      where
        by : (o : Option ℕ) (under : Stack) (rest : List Value) → On (int ∷ under) → HaveTypes tags under rest → Kept (release s (Reference o ∷ rest))
        by None under rest on h = goes_here (int_of 0 ∷ rest) (int ∷ under) on (refl, h)
        by (Some n) under rest on h =
            live_kept _ (slice_get s.world.objects n) (λ x at.
            goes_object n x (record x { live = false }) (int_of 0 ∷ rest) (int ∷ under) at refl
            (object_at text tags s.world.objects n x at r.world.objects) on (refl, h))

    -- a new object
    module _ (tag : Bytes) where
      abbrev created : List Object
      created = s.world.objects ++ new_object s.world tag ∷ []

      tags_more : tags_of created ≡ tags ++ tag ∷ []
      tags_more = map-append (λ (o : Object). o.tag) s.world.objects (new_object s.world tag ∷ [])

      grown : Grows tags (tags_of created)
      grown n g e =
          ap (λ xs. slice_get xs n) tags_more ∙ before_more tags (tag ∷ []) n g e

      members_now : members_of (now s.world (struct_name tag)) ≡ members_of (definition text (struct_name tag))
      members_now =
          members_alike (now s.world (struct_name tag)) (definition text (struct_name tag))
          (last_as_current texts s.world.table r.of.history (struct_name tag))

      after_new : After (record s.world { objects = created })
      after_new = record {
        grows = grown;
        slots = slots_still tags (tags_of created) grown texts s.world.slots (r.world.slots r.runs);
        objects = All-append (ObjectTyped text (tags_of created)) s.world.objects (new_object s.world tag ∷ [])
            (objects_still tags (tags_of created) grown text s.world.objects r.world.objects)
            (All-cons (ObjectTyped text (tags_of created)) (new_object s.world tag) []
            (λ is. subst (λ ms. ScopeHas (tags_of created) (members_of (definition text (struct_name tag))) (zero_fields ms)) (sym members_now)
            (zeros_have (tags_of created) (members_of (definition text (struct_name tag)))))
            (All-nil (ObjectTyped text (tags_of created))));
        globals = globals_still tags (tags_of created) grown text s.world r.world.globals;
        finish = r.world.finish;
      }

      newest_tag : slice_get (tags_of created) (length s.world.objects) ≡ Some tag
      newest_tag =
          ap (λ xs. slice_get xs (length s.world.objects)) tags_more
          ∙ ap (slice_get (tags ++ tag ∷ [])) (sym (length-map s.world.objects (λ (o : Object). o.tag))) ∙ next_number tags tag

      allocate_kept : (values : List Value) (stack : Stack) → On (Handle tag ∷ stack) → HaveTypes tags stack values → Kept (allocate s tag values)
      allocate_kept values stack on h =
          either_way Stuck (WorldTyped texts) (live_objects s.world == s.world.capacity) (goes_on s s.world (Reference None ∷ values))
          (goes_on s (record s.world { objects = created }) (Reference (Some (length s.world.objects)) ∷ values))
          (goes_here (Reference None ∷ values) (Handle tag ∷ stack) on (tt, h))
          (goes (record s.world { objects = created }) _ (Handle tag ∷ stack) after_new on
          (newest_tag, values_still tags (tags_of created) grown stack values h))

    -- ---- output and mutexes

    -- what changes no part of which types are known
    aside : (w : World) (values : List Value) (under : Stack) → w.slots ≡ s.world.slots → w.objects ≡ s.world.objects
        → w.globals ≡ s.world.globals → w.finish ≡ s.world.finish → On under → HaveTypes tags under values → Kept (goes_on s w values)
    aside w values under slots objects globals finish on h =
        goes w values under (after_aside w slots objects globals finish) on (subst (λ os. HaveTypes (tags_of os) under values) (sym objects) h)
      where
        after_aside : (w : World) → w.slots ≡ s.world.slots → w.objects ≡ s.world.objects → w.globals ≡ s.world.globals
            → w.finish ≡ s.world.finish → After w
        after_aside w slots objects globals finish = record {
          grows = no_more tags (tags_of w.objects) (ap tags_of objects);
          slots = subst (λ os. All (SlotTyped texts (tags_of os)) w.slots) (sym objects)
              (subst (All (SlotTyped texts tags)) (sym slots) (r.world.slots r.runs));
          objects = subst (λ os. All (ObjectTyped text (tags_of os)) os) (sym objects) r.world.objects;
          globals = λ name has.
              let type = global_type (definition text name) in
              subst (λ os. All (HasType (tags_of os) type) (cells_of w name)) (sym objects)
              (subst (λ gs. All (HasType tags type) (cells_in gs name)) (sym globals) (r.world.globals name has));
          finish = subst FinishTyped (sym finish) r.world.finish;
        }

    print_kept : (format : Bytes) (n : ℕ) (values : List Value) (stack : Stack) (ks : Option (List Kind))
        → PopsFormat ks n stack (λ under. On (int ∷ under)) → HaveTypes tags stack values → Kept (print s format n values)
    print_kept format n values stack None p h = absurd p
    print_kept format n values stack (Some ks) p h =
        let left = printed_left tags (reverse ks) stack (λ under. On (int ∷ under)) values p.1 h in
        aside _ (int_of 0 ∷ drop n values) (int ∷ left.under) refl refl refl refl left.holds
        (refl, subst (λ m. HaveTypes tags left.under (drop m values)) (length-reverse ks ∙ p.0) left.have)

    lock_kept : (name : Bytes) (values : List Value) (stack : Stack) (o : Option ℕ) → On (int ∷ stack) → HaveTypes tags stack values
        → Kept (lock s name values o)
    lock_kept name values stack None on h = aside _ (int_of 0 ∷ values) (int ∷ stack) refl refl refl refl on (refl, h)
    lock_kept name values stack (Some slot) on h = trapped Relock

    unlock_kept : (name : Bytes) (values : List Value) (stack : Stack) (o : Option ℕ) → On (int ∷ stack) → HaveTypes tags stack values
        → Kept (unlock s name values o)
    unlock_kept name values stack None on h = trapped NotHeld
    unlock_kept name values stack (Some slot) on h =
        either_way Stuck (WorldTyped texts) (slot == s.slot) (goes_on s (released name s.world) (int_of 0 ∷ values)) (traps s NotHeld)
        (aside _ (int_of 0 ∷ values) (int ∷ stack) refl refl refl refl on (refl, h)) (trapped NotHeld)

    initialise_kept : (values : List Value) (stack : Stack) (o : Option ℕ) → On (int ∷ stack) → HaveTypes tags stack values
        → Kept (initialise s values o)
    initialise_kept values stack None on h = goes_here (int_of 0 ∷ values) (int ∷ stack) on (refl, h)
    initialise_kept values stack (Some slot) on h = trapped MutexHeld

    -- ---- threads

    start_kept : (e : Enter) (values : List Value) (stack : Stack) (place : Option ℕ) → FramesTyped texts tags (Some e) []
        → On (ThreadType ∷ stack) → HaveTypes tags stack values → Kept (start_in s e values place)
    start_kept e values stack None due on h = goes_here (Started None ∷ values) (ThreadType ∷ stack) on (tt, h)
    start_kept e values stack (Some t) due on h =
        goes (with_thread t (started s.world.threads e) (record s.world { threads = suc s.world.threads })) _ (ThreadType ∷ stack)
        (record {
          grows = no_more tags tags refl;
          slots = All-set (SlotTyped texts tags) s.world.slots t (Live (started s.world.threads e)) due (r.world.slots r.runs);
          objects = r.world.objects;
          globals = r.world.globals;
          finish = r.world.finish;
        }) on (tt, h)

    spawn_kept : (name : Bytes) (values : List Value) (stack : Stack)
        → Top stack (λ t under. Runs (look name) t × On (ThreadType ∷ under)) → HaveTypes tags stack values → Kept (spawn s name values)
    spawn_kept name values stack =
        newest (spawn s name) _ stack values (λ t under v rest p h rest_have.
        start_kept (record { function = name; arguments = v ∷ []; version = s.frame.version }) rest under (position is_free s.world.slots) (
          record {
            known = r.known;
            function = p.0.0;
            arguments = subst (λ ts. HaveTypes tags ts (v ∷ [])) (sym p.0.1) (h, tt);
          },
          p.0.2,
        ) p.1 rest_have)

    join_slot_kept : (ref : ThreadRef) (values : List Value) (stack : Stack) (x : Slot) → in_slot s.world ref.slot ≡ x → On (int ∷ stack)
        → HaveTypes tags stack values → Kept (join_slot s ref values x)
    join_slot_kept ref values stack world.Free e on h = trapped NotJoined
    join_slot_kept ref values stack (Live th) e on h = trapped NotJoined
    join_slot_kept ref values stack (Over serial v) e on h =
        either_way Stuck (WorldTyped texts) (serial == ref.serial) (goes_on s (with_slot ref.slot world.Free s.world) (v ∷ values)) (traps s NotJoined)
        (goes (with_slot ref.slot world.Free s.world) (v ∷ values) (int ∷ stack)
        (record {
          grows = no_more tags tags refl;
          slots = All-set (SlotTyped texts tags) s.world.slots ref.slot world.Free tt (r.world.slots r.runs);
          objects = r.world.objects;
          globals = r.world.globals;
          finish = r.world.finish;
        }) on (subst (SlotTyped texts tags) e (slot_at texts tags s.world.slots ref.slot (r.world.slots r.runs)), h))
        (trapped NotJoined)

    join_kept : (values : List Value) (stack : Stack) → Top stack (λ t under. (t ≡ ThreadType) × On (int ∷ under)) → HaveTypes tags stack values
        → Kept (join s values)
    join_kept values stack =
        newest (join s) _ stack values (λ t under v rest p h rest_have.
        a_thread (λ x. join s (x ∷ rest)) v (λ o. by o under rest p.1 rest_have) (subst (λ u. HasType tags u v) p.0 h))
      where
        by : (o : Option ThreadRef) (under : Stack) (rest : List Value) → On (int ∷ under) → HaveTypes tags under rest
            → Kept (join s (Started o ∷ rest))
        by None under rest on h = trapped NotJoined
        by (Some ref) under rest on h = join_slot_kept ref rest under (in_slot s.world ref.slot) refl on h

    -- ---- calls and returns

    call_kept : (name : Bytes) (n : ℕ) (values : List Value) (stack : Stack) → IsFunction (look name) → length (parameter_types (look name)) ≡ n
        → Pops (reverse (parameter_types (look name))) stack (λ under. On (result_type (look name) ∷ under)) → HaveTypes tags stack values
        → Kept (call s name n values)
    call_kept name n values stack function count p h =
        let types = parameter_types (look name) in
        let both = taken_of tags (reverse types) stack (λ under. On (result_type (look name) ∷ under)) values p h in
        let long : length (reverse types) ≡ n = length-reverse types ∙ count in
        seated s.world _ here (
          record {
            known = r.known;
            function = function;
            arguments = subst (λ ts. HaveTypes tags ts (reverse (take n values))) (reverse-reverse types)
                (reversed_have tags (reverse types) (take n values)
                (subst (λ m. HaveTypes tags (reverse types) (take m values)) long both.taken));
          },
          (
            record {
              known = r.known;
              stack = both.left.under;
              env = r.env;
              typed = both.left.holds;
              values_have = subst (λ m. HaveTypes tags both.left.under (drop m values)) long both.left.have;
              scopes_have = r.scopes_have;
            },
            r.below,
          ),
        )

    finished : (v : Value) → HasType tags int v → FinishTyped (Some (world.Finished (number_of v)))
    finished (Number n) h = (n, h, refl)
    finished (Reference o) h = absurd h
    finished (Started o) h = absurd h

    finish_kept : (v : Value) (n : ℕ) → HasType tags int v → Kept (finish_thread s v n)
    finish_kept v zero h = record {
      slots = λ e. absurd (none-some (world.Finished (number_of v)) (sym e));
      objects = r.world.objects;
      globals = r.world.globals;
      finish = finished v h;
    }
    finish_kept v (suc t) h = record {
      slots = λ e. All-set (SlotTyped texts tags) s.world.slots s.slot (Over s.thread.serial v) h (r.world.slots r.runs);
      objects = r.world.objects;
      globals = r.world.globals;
      finish = r.world.finish;
    }

    return_to_kept : (v : Value) (below : List Frame) → Below texts tags result below → HasType tags result v → Kept (return_to s v below)
    return_to_kept v [] wait h = finish_kept v s.slot (subst (λ t. HasType tags t v) wait h)
    return_to_kept v (f ∷ fs) wait h =
        seated s.world (record s.thread { frames = record f { values = v ∷ f.values } ∷ fs }) here
        (subst (λ e. FramesTyped texts tags e (record f { values = v ∷ f.values } ∷ fs)) (sym r.entering) (
          record {
            known = wait.0.known;
            goes_on = record {
              stack = result ∷ wait.0.stack;
              env = wait.0.env;
              typed = wait.0.typed;
              values_have = (h, wait.0.values_have);
              scopes_have = wait.0.scopes_have;
            };
          },
          wait.1,
        ))

    return_kept : (values : List Value) (stack : Stack) → Top stack (λ t under. t ≡ result) → HaveTypes tags stack values → Kept (return s values)
    return_kept values stack =
        newest (return s) _ stack values (λ t under v rest p h rest_have.
        return_to_kept v s.below r.below (subst (λ u. HasType tags u v) p h))

    -- ---- transactions

    begin_kept : (values : List Value) (stack : Stack) (depth : ℕ) → On stack → HaveTypes tags stack values
        → Kept (begin_at s depth (gone_on s values))
    begin_kept values stack zero on h = seated s.world _ here (frames_on tags values stack (no_more tags tags refl) on h)
    begin_kept values stack (suc depth) on h = seated s.world _ here (frames_on tags values stack (no_more tags tags refl) on h)

    -- an end sticks outside each transaction
    end_kept : (values : List Value) (stack : Stack) (depth : ℕ) → (depth ≡ 0 → Stuck) → On stack → HaveTypes tags stack values
        → Kept (end_at s depth (gone_on s values))
    end_kept values stack zero stuck on h = stuck refl
    end_kept values stack (suc zero) stuck on h =
        seated (record s.world { closed = s.world.closed ++ record { slot = s.slot; uses = s.thread.uses } ∷ [] }) _
        (record {
          grows = no_more tags tags refl;
          slots = r.world.slots r.runs;
          objects = r.world.objects;
          globals = r.world.globals;
          finish = r.world.finish;
        }) (frames_on tags values stack (no_more tags tags refl) on h)
    end_kept values stack (suc (suc depth)) stuck on h = seated s.world _ here (frames_on tags values stack (no_more tags tags refl) on h)

    -- ---- each stop

    -- what is used of a name is the same now
    abbrev Same : Stop → Type 0
    Same x = (name : Bytes) → use_at x ≡ Some name → SameUse (look name) (definition text name)

    pub perform_kept : (x : Stop) (values : List Value) (stack : Stack) → (x ≡ End → s.thread.depth ≡ 0 → Stuck)
        → StopTyped look result x stack On → HaveTypes tags stack values → Same x → Outcome Stuck (WorldTyped texts) (perform x s values)
    perform_kept (ReadGlobal name) values stack stuck t h same = read_global_kept name values stack (same name refl) t.0 t.1 h
    perform_kept (WriteGlobal name) values stack stuck t h same = write_global_kept name values stack (same name refl) t.1 h
    perform_kept (ReadElement name) values stack stuck t h same = read_element_kept name values stack (same name refl) t.0 t.1 h
    perform_kept (WriteElement name) values stack stuck t h same = write_element_kept name values stack (same name refl) t.0 t.1 h
    perform_kept (ReadField tag name) values stack stuck t h same = read_field_kept tag name values stack (same (struct_name tag) refl) t.0 t.1 h
    perform_kept (WriteField tag name) values stack stuck t h same = write_field_kept tag name values stack (same (struct_name tag) refl) t.0 t.1 h
    perform_kept (New tag) values stack stuck t h same = allocate_kept tag values stack t.1 h
    perform_kept (Free tag) values stack stuck t h same = release_kept tag values stack t h
    perform_kept (Print format n) values stack stuck t h same = print_kept format n values stack (kinds Text format) t h
    perform_kept (InitMutex name) values stack stuck t h same = initialise_kept values stack (holder_of s.world name) t.1 h
    perform_kept (Lock name) values stack stuck t h same = lock_kept name values stack (holder_of s.world name) t.1 h
    perform_kept (Unlock name) values stack stuck t h same = unlock_kept name values stack (holder_of s.world name) t.1 h
    perform_kept (Spawn name) values stack stuck t h same = spawn_kept name values stack t h
    perform_kept Join values stack stuck t h same = join_kept values stack t h
    perform_kept (Call name n) values stack stuck t h same = call_kept name n values stack t.0 t.1 t.2 h
    perform_kept Return values stack stuck t h same = return_kept values stack t h
    perform_kept Back values stack stuck t h same = goes_here values stack t h
    perform_kept Begin values stack stuck t h same = begin_kept values stack s.thread.depth t h
    perform_kept End values stack stuck t h same = end_kept values stack s.thread.depth (stuck refl) t h
    perform_kept Update values stack stuck t h same = goes_here values stack t h

-- An install of an accepted text whose transformers have no fault leaves a typed world.
use Rattle.std.proofs.Common.{◌≡◌, ℕ, ◌≤◌, Bool, true, false, List, [], ◌∷◌, ◌++◌, map, length, Option, Some, None, All, refl, sym, ap, subst, ◌∙◌, arith, if◌then◌else◌}
use Rattle.std.specs.Prelude.{filter_map}
use Rattle.std.proofs.lemmas.List.Elements.{All-map, All-weaker}
use Rattle.c_tree.specs.BareExpr.{Bytes, BareType}
use Rattle.c_tree.specs.BareDef.{BareDef, Struct, Forward, Mutex, Function, Prototype, Global, Array, TransformStruct, TransformGlobal}
use Rattle.c_semantics.specs.Names.{struct_name}
use Rattle.c_semantics.specs.Texts.{definition, global_type, members_of, result_type}
use Rattle.c_semantics.specs.Changes.{same_interface}
use Rattle.c_semantics.specs.Values.{Value}
use Rattle.c_semantics.specs.Transformers.{transformed, transformed_global}
use Rattle.c_semantics.specs.SourceTexts.{Text}
use Rattle.c_semantics.specs.Threads.{Enter, Frame}
use Rattle.source_model.specs.Worlds.{World, Object, Slot, Free, Live, Over, cells_of}
use Rattle.source_model.specs.Installs.{brought, brought_by, carried, global_after, installed}
use Rattle.definition_laws.specs.EqualParts.{HaveEqualInterfaces}
use Rattle.definition_laws.proofs.SameDefinitions.{interface_equal_if_same}
use Rattle.version_laws.specs.Histories.{last_text}
use Rattle.version_laws.proofs.TableHistories.{last_is_next, one_longer, text_as_before}
use Rattle.world_laws.specs.Holdings.{HoldsGlobals}
use Rattle.world_laws.proofs.Found.{cells_found, cells_in, entry_of, found_defines, same_bytes}
use Rattle.frame_bodies.specs.AcceptedTexts.{looked_up}
use Rattle.typed_trees.specs.ValueTypes.{HasType, HaveTypes, ScopeHas}
use Rattle.typed_trees.specs.ExpressionTypes.{IsFunction, IsStruct, parameter_types}
use Rattle.typed_trees.specs.PieceTypes.{GoesOn, going}
use Rattle.typed_runs.specs.TypedFrames.{Below, EnterTyped, FrameTyped, FrameWaits, FramesTyped, result_in}
use Rattle.typed_runs.specs.TypedWorlds.{GlobalsTyped, ObjectTyped, SlotTyped, WorldTyped, tags_of}
use Rattle.typed_runs.proofs.FirstWorld.{initial_cells_typed}
use Rattle.typed_runs.proofs.MoreObjects.{Grows, globals_still, no_more, objects_still, slots_still}
use Rattle.typed_runs.proofs.Places.{zeros_have}
use Rattle.typed_runs.proofs.SameUses.{equal_uses}
use Rattle.typed_transformers.specs.TransformerTypes.{CellsAreTyped, CellsTyped, FieldsAreTyped, Follows, HasCells}

-- what transformers give, as `typed_transformers` has it
pub record Transforms : Type 0 where
  pub fields : FieldsAreTyped
  pub cells : CellsAreTyped

-- ---- frames of the versions so far

module _ (texts : List (List BareDef)) (q : List BareDef) (tags : List Bytes) where
  abbrev longer : List (List BareDef)
  longer = texts ++ q ∷ []

  still_known : (n : ℕ) → n ≤ length texts → n ≤ length longer
  still_known n h = let e = one_longer texts q in omega (arith, h, e)

  result_still : (n : ℕ) (f : Bytes) → n ≤ length texts → result_in texts n f ≡ result_in longer n f
  result_still n f h = ap (λ text. result_type (definition text f)) (sym (text_as_before texts q n h))

  frame_longer : (f : Frame) → FrameTyped texts tags f → FrameTyped longer tags f
  frame_longer f h = record {
    known = still_known f.version h.known;
    goes_on =
        subst (λ text. GoesOn (definition text) (result_type (definition text f.function)) tags f.pieces f.values f.scopes)
        (sym (text_as_before texts q f.version h.known)) h.goes_on;
  }

  waits_longer : (t : BareType) (f : Frame) → FrameWaits texts tags t f → FrameWaits longer tags t f
  waits_longer t f h = record {
    known = still_known f.version h.known;
    stack = h.stack;
    env = h.env;
    typed =
        subst (λ text. (going (definition text) (result_type (definition text f.function)) f.pieces).on (t ∷ h.stack) h.env)
        (sym (text_as_before texts q f.version h.known)) h.typed;
    values_have = h.values_have;
    scopes_have = h.scopes_have;
  }

  below_longer : (t : BareType) (fs : List Frame) → Below texts tags t fs → Below longer tags t fs
  below_longer t [] h = h
  below_longer t (f ∷ fs) h = (
    waits_longer t f h.0,
    subst (λ r. Below longer tags r fs) (result_still f.version f.function h.0.known) (below_longer (result_in texts f.version f.function) fs h.1),
  )

  enter_longer : (e : Enter) → EnterTyped texts tags e → EnterTyped longer tags e
  enter_longer e h = record {
    known = still_known e.version h.known;
    function = subst (λ text. IsFunction (definition text e.function)) (sym (text_as_before texts q e.version h.known)) h.function;
    arguments =
        subst (λ text. HaveTypes tags (parameter_types (definition text e.function)) e.arguments)
        (sym (text_as_before texts q e.version h.known)) h.arguments;
  }

  frames_longer : (e : Option Enter) (fs : List Frame) → FramesTyped texts tags e fs → FramesTyped longer tags e fs
  frames_longer (Some e) fs h = (
    enter_longer e h.0,
    subst (λ r. Below longer tags r fs) (result_still e.version e.function h.0.known) (below_longer (result_in texts e.version e.function) fs h.1),
  )
  frames_longer None [] h = absurd h
  frames_longer None (f ∷ fs) h = (
    frame_longer f h.0,
    subst (λ r. Below longer tags r fs) (result_still f.version f.function h.0.known) (below_longer (result_in texts f.version f.function) fs h.1),
  )

  slot_longer : (s : Slot) → SlotTyped texts tags s → SlotTyped longer tags s
  slot_longer Free h = tt
  slot_longer (Live th) h = frames_longer th.entering th.frames h
  slot_longer (Over serial v) h = h

-- ---- objects and globals

-- where the interface stays, what has cells had them, and what is a struct was one
struct_before : (a b : BareDef) → HaveEqualInterfaces a b → IsStruct (Some b) → IsStruct (Some a)
struct_before (Struct tag ms) b e h = tt
struct_before _ (Struct tag ms) e h = absurd e
struct_before _ _ e h = absurd h

cells_before : (a b : BareDef) → HaveEqualInterfaces a b → HasCells (Some b) → HasCells (Some a)
cells_before (Global d) b e h = tt
cells_before (Array t n k values) b e h = tt
cells_before _ (Global d) e h = absurd e
cells_before _ (Array t n k values) e h = absurd e
cells_before _ _ e h = absurd h

module _ (transforms : Transforms) (p q : Text) (follows : Follows p q) (tags : List Bytes) where
  abbrev old : List BareDef
  old = p.definitions

  abbrev new : List BareDef
  new = q.definitions

  brought_tag : (o : Object) → (brought old new o).tag ≡ o.tag
  brought_tag o = by (looked_up p (struct_name o.tag)) (looked_up q (struct_name o.tag))
    where
      by : (a b : Option BareDef) → (brought_by old new o a b).tag ≡ o.tag
      by a None = refl
      by None (Some d) = refl
      by (Some a) (Some b) = each (same_interface a b)
        where
          each : (s : Bool) → (if s then o else record o { fields = transformed old new o.tag o.fields }).tag ≡ o.tag
          each true = refl
          each false = refl

  object_brought : (o : Object) → ObjectTyped old tags o → ObjectTyped new tags (brought old new o)
  object_brought o h =
      subst (λ t. IsStruct (looked_up q (struct_name t)) → ScopeHas tags (members_of (looked_up q (struct_name t))) (brought old new o).fields)
      (sym (brought_tag o)) (by (looked_up p (struct_name o.tag)) (looked_up q (struct_name o.tag)) refl refl)
    where
      by : (a b : Option BareDef) → looked_up p (struct_name o.tag) ≡ a → looked_up q (struct_name o.tag) ≡ b → IsStruct b
          → ScopeHas tags (members_of b) (brought_by old new o a b).fields
      by a None was now struct = absurd struct
      by None (Some d) was now struct = zeros_have tags (members_of (Some d))
      by (Some a) (Some b) was now struct = each (same_interface a b) refl
        where
          each : (s : Bool) → same_interface a b ≡ s
              → ScopeHas tags (members_of (Some b)) (if s then o else record o { fields = transformed old new o.tag o.fields }).fields
          each true same =
              let equal = interface_equal_if_same a b same in
              subst (λ ms. ScopeHas tags ms o.fields) (equal_uses a b equal).members_are
              (subst (λ u. IsStruct u → ScopeHas tags (members_of u) o.fields) was h (struct_before a b equal struct))
          each false same =
              subst (λ u. ScopeHas tags (members_of u) (transformed old new o.tag o.fields)) now
              (transforms.fields p q tags o.tag o.fields follows (subst IsStruct (sym now) struct) h)

  pub objects_brought : (os : List Object) → All (ObjectTyped old tags) os → All (ObjectTyped new tags) (map (brought old new) os)
  objects_brought os h =
      All-map (ObjectTyped new tags) (brought old new) os
      (All-weaker (ObjectTyped old tags) (λ o. ObjectTyped new tags (brought old new o)) object_brought os h)

  pub brought_tags : (os : List Object) → tags_of (map (brought old new) os) ≡ tags_of os
  brought_tags [] = refl
  brought_tags (o ∷ os) = ap (λ t. t ∷ tags_of (map (brought old new) os)) (brought_tag o) ∙ ap (λ ts. o.tag ∷ ts) (brought_tags os)

  module _ (w : World) (text_is : w.text ≡ old) (typed : GlobalsTyped old tags w) (holds : HoldsGlobals w) where
    -- the cells of a name before
    old_cells : (name : Bytes) → CellsTyped tags (looked_up p name) (cells_of w name)
    old_cells name = record {
      typed = typed name;
      one = λ d e.
          let one = holds.variables name d (subst (λ t. definition t name ≡ Some (Global d)) (sym text_is) e) in (one.value, one.is);
    }

    carried_typed : (name : Bytes) (d : BareDef) → looked_up q name ≡ Some d → HasCells (Some d) → (o : Option BareDef) → looked_up p name ≡ o
        → All (HasType tags (global_type (Some d))) (carried w old new d name o)
    carried_typed name d now has None was = initial_cells_typed tags d has
    carried_typed name d now has (Some before) was = by (same_interface before d) refl
      where
        by : (s : Bool) → same_interface before d ≡ s
            → All (HasType tags (global_type (Some d))) (if s then cells_of w name else transformed_global old new name (cells_of w name))
        by true same =
            let equal = interface_equal_if_same before d same in
            subst (λ t. All (HasType tags t) (cells_of w name)) (equal_uses before d equal).global_is
            (subst (λ o. HasCells o → All (HasType tags (global_type o)) (cells_of w name)) was (typed name) (cells_before before d equal has))
        by false same =
            subst (λ o. All (HasType tags (global_type o)) (transformed_global old new name (cells_of w name))) now
            (transforms.cells p q tags name (cells_of w name) follows (old_cells name))

    -- the cells of each definition after the install
    abbrev cells_after : BareDef → List Value
    cells_after (Global d) = carried w old new (Global d) d.name (looked_up p d.name)
    cells_after (Array type name n values) = carried w old new (Array type name n values) name (looked_up p name)
    cells_after _ = []

    makes_after : (d : BareDef) → global_after w old new d ≡ entry_of cells_after d
    makes_after (Global d) = refl
    makes_after (Array type name n values) = refl
    makes_after (Struct tag members) = refl
    makes_after (Forward tag) = refl
    makes_after (Mutex name) = refl
    makes_after (Function r name ps body) = refl
    makes_after (Prototype r name ps) = refl
    makes_after (TransformStruct tag values) = refl
    makes_after (TransformGlobal name value) = refl

    -- under its name, which is its own
    found_cells : (name : Bytes) (o : Option BareDef) → looked_up q name ≡ o → HasCells o
        → All (HasType tags (global_type o)) (cells_in (filter_map (global_after w old new) new) name)
    found_cells name (Some (Global d)) e has =
        let own : name ≡ d.name = same_bytes name d.name (found_defines new name (Global d) e) in
        subst (All (HasType tags d.declared)) (sym (cells_found (global_after w old new) cells_after makes_after new name (Global d) refl e))
        (subst (λ n. All (HasType tags d.declared) (carried w old new (Global d) n (looked_up p n))) own
        (carried_typed name (Global d) e tt (looked_up p name) refl))
    found_cells name (Some (Array type own n values)) e has =
        let is : name ≡ own = same_bytes name own (found_defines new name (Array type own n values) e) in
        subst (All (HasType tags type)) (sym (cells_found (global_after w old new) cells_after makes_after new name (Array type own n values) refl e))
        (subst (λ x. All (HasType tags type) (carried w old new (Array type own n values) x (looked_up p x))) is
        (carried_typed name (Array type own n values) e tt (looked_up p name) refl))
    found_cells name _ e has = absurd has

    pub globals_carried : GlobalsTyped new tags (installed new w)
    globals_carried name has =
        subst (λ text. All (HasType tags (global_type (looked_up q name))) (cells_in (filter_map (global_after w text new) new) name)) (sym text_is)
        (found_cells name (looked_up q name) refl has)

-- ---- the world

module _ (transforms : Transforms) (texts : List (List BareDef)) (p q : Text) (w : World) (last : last_text texts ≡ p.definitions)
    (text : w.text ≡ last_text texts) (follows : Follows p q) (holds : HoldsGlobals w) (typed : WorldTyped texts w) where
  abbrev before : List BareDef
  before = p.definitions

  abbrev after : List BareDef
  after = q.definitions

  abbrev tags : List Bytes
  tags = tags_of w.objects

  abbrev more : List Bytes
  more = tags_of (map (brought w.text after) w.objects)

  text_is : w.text ≡ before
  text_is = text ∙ last

  same_tags : more ≡ tags
  same_tags =
      subst (λ t. tags_of (map (brought t after) w.objects) ≡ tags) (sym text_is)
      (brought_tags transforms p q follows tags w.objects)

  grows : Grows tags more
  grows = no_more tags more same_tags

  objects : All (ObjectTyped after tags) (installed after w).objects
  objects =
      subst (λ t. All (ObjectTyped after tags) (map (brought t after) w.objects)) (sym text_is)
      (objects_brought transforms p q follows tags w.objects (subst (λ t. All (ObjectTyped t tags) w.objects) last typed.objects))

  globals : GlobalsTyped after tags (installed after w)
  globals =
      globals_carried transforms p q follows tags w text_is (subst (λ t. GlobalsTyped t tags w) last typed.globals) holds

  pub installed_typed : WorldTyped (texts ++ after ∷ []) (installed after w)
  installed_typed = record {
    slots = λ e.
        All-weaker (SlotTyped texts more) (SlotTyped (texts ++ after ∷ []) more) (slot_longer texts after more) w.slots
        (slots_still tags more grows texts w.slots (typed.slots e));
    objects =
        subst (λ t. All (ObjectTyped t more) (installed after w).objects) (sym (last_is_next texts after))
        (objects_still tags more grows after (installed after w).objects objects);
    globals =
        subst (λ t. GlobalsTyped t more (installed after w)) (sym (last_is_next texts after))
        (globals_still tags more grows after (installed after w) globals);
    finish = typed.finish;
  }

-- What is typed stays so where there are more objects.
use Rattle.std.proofs.Common.{◌≡◌, ℕ, zero, suc, List, [], ◌∷◌, ◌++◌, length, Option, Some, None, All, refl, ap, ◌∙◌}
use Rattle.std.specs.Prelude.{slice_get}
use Rattle.std.proofs.lemmas.List.Elements.{All-weaker}
use Rattle.c_tree.specs.BareExpr.{Bytes, BareType, Integer, Handle, Thread}
use Rattle.c_tree.specs.BareDef.{BareBinding, BareDef}
use Rattle.c_semantics.specs.Names.{struct_name}
use Rattle.c_semantics.specs.Texts.{definition, global_type, int, members_of}
use Rattle.c_semantics.specs.Values.{Value, Number, Reference, Started}
use Rattle.c_semantics.specs.Pieces.{Variable, Scopes}
use Rattle.c_semantics.specs.Threads.{Enter, Frame}
use Rattle.source_model.specs.Worlds.{World, Object, Slot, Free, Live, Over, cells_of}
use Rattle.typed_trees.specs.ValueTypes.{Environment, HasType, HaveTypes, ScopeHas, ScopesHave}
use Rattle.typed_runs.specs.TypedFrames.{Below, EnterTyped, FrameTyped, FrameWaits, FramesTyped, result_in}
use Rattle.typed_runs.specs.TypedWorlds.{GlobalsTyped, ObjectTyped, SlotTyped}

-- each object keeps its number and its tag
abbrev pub Grows : List Bytes → List Bytes → Type 0
Grows tags more = (n : ℕ) (tag : Bytes) → slice_get tags n ≡ Some tag → slice_get more n ≡ Some tag

pub no_more : (tags more : List Bytes) → more ≡ tags → Grows tags more
no_more tags more e n tag h = ap (λ xs. slice_get xs n) e ∙ h

pub before_more : (tags more : List Bytes) → Grows tags (tags ++ more)
before_more [] more n tag e = cc
before_more (t ∷ tags) more zero tag e = e
before_more (t ∷ tags) more (suc n) tag e = before_more tags more n tag e

-- a new object has the next number
pub next_number : (tags : List Bytes) (tag : Bytes) → slice_get (tags ++ tag ∷ []) (length tags) ≡ Some tag
next_number [] tag = refl
next_number (t ∷ tags) tag = next_number tags tag

module _ (tags more : List Bytes) (grows : Grows tags more) where
  pub value_still : (t : BareType) (v : Value) → HasType tags t v → HasType more t v
  value_still (Integer k) (Number n) h = h
  value_still (Integer k) (Reference r) h = absurd h
  value_still (Integer k) (Started r) h = absurd h
  value_still (Handle tag) (Number n) h = absurd h
  value_still (Handle tag) (Reference None) h = tt
  value_still (Handle tag) (Reference (Some n)) h = grows n tag h
  value_still (Handle tag) (Started r) h = absurd h
  value_still Thread (Number n) h = absurd h
  value_still Thread (Reference r) h = absurd h
  value_still Thread (Started r) h = tt

  pub values_still : (ts : List BareType) (vs : List Value) → HaveTypes tags ts vs → HaveTypes more ts vs
  values_still [] [] h = tt
  values_still [] (v ∷ vs) h = absurd h
  values_still (t ∷ ts) [] h = absurd h
  values_still (t ∷ ts) (v ∷ vs) h = (value_still t v h.0, values_still ts vs h.1)

  pub scope_still : (bs : List BareBinding) (vs : List Variable) → ScopeHas tags bs vs → ScopeHas more bs vs
  scope_still [] [] h = tt
  scope_still [] (v ∷ vs) h = absurd h
  scope_still (b ∷ bs) [] h = absurd h
  scope_still (b ∷ bs) (v ∷ vs) h = (h.0, value_still b.declared v.value h.1, scope_still bs vs h.2)

  pub scopes_still : (env : Environment) (scopes : Scopes) → ScopesHave tags env scopes → ScopesHave more env scopes
  scopes_still [] [] h = tt
  scopes_still [] (vs ∷ scopes) h = absurd h
  scopes_still (bs ∷ env) [] h = absurd h
  scopes_still (bs ∷ env) (vs ∷ scopes) h = (scope_still bs vs h.0, scopes_still env scopes h.1)

  module _ (texts : List (List BareDef)) where
    pub frame_still : (f : Frame) → FrameTyped texts tags f → FrameTyped texts more f
    frame_still f h = record {
      known = h.known;
      goes_on = record {
        stack = h.goes_on.stack;
        env = h.goes_on.env;
        typed = h.goes_on.typed;
        values_have = values_still h.goes_on.stack f.values h.goes_on.values_have;
        scopes_have = scopes_still h.goes_on.env f.scopes h.goes_on.scopes_have;
      };
    }

    pub waits_still : (t : BareType) (f : Frame) → FrameWaits texts tags t f → FrameWaits texts more t f
    waits_still t f h = record {
      known = h.known;
      stack = h.stack;
      env = h.env;
      typed = h.typed;
      values_have = values_still h.stack f.values h.values_have;
      scopes_have = scopes_still h.env f.scopes h.scopes_have;
    }

    pub below_still : (t : BareType) (fs : List Frame) → Below texts tags t fs → Below texts more t fs
    below_still t [] h = h
    below_still t (f ∷ fs) h = (waits_still t f h.0, below_still (result_in texts f.version f.function) fs h.1)

    pub enter_still : (e : Enter) → EnterTyped texts tags e → EnterTyped texts more e
    enter_still e h = record {
      known = h.known;
      function = h.function;
      arguments = values_still _ e.arguments h.arguments;
    }

    pub frames_still : (e : Option Enter) (fs : List Frame) → FramesTyped texts tags e fs → FramesTyped texts more e fs
    frames_still (Some e) fs h = (enter_still e h.0, below_still (result_in texts e.version e.function) fs h.1)
    frames_still None [] h = absurd h
    frames_still None (f ∷ fs) h = (frame_still f h.0, below_still (result_in texts f.version f.function) fs h.1)

    pub slot_still : (s : Slot) → SlotTyped texts tags s → SlotTyped texts more s
    slot_still Free h = tt
    slot_still (Live th) h = frames_still th.entering th.frames h
    slot_still (Over serial v) h = value_still int v h

    pub slots_still : (slots : List Slot) → All (SlotTyped texts tags) slots → All (SlotTyped texts more) slots
    slots_still = All-weaker (SlotTyped texts tags) (SlotTyped texts more) slot_still

  module _ (text : List BareDef) where
    pub object_still : (o : Object) → ObjectTyped text tags o → ObjectTyped text more o
    object_still o h is = scope_still (members_of (definition text (struct_name o.tag))) o.fields (h is)

    pub objects_still : (os : List Object) → All (ObjectTyped text tags) os → All (ObjectTyped text more) os
    objects_still = All-weaker (ObjectTyped text tags) (ObjectTyped text more) object_still

    pub globals_still : (w : World) → GlobalsTyped text tags w → GlobalsTyped text more w
    globals_still w h name has =
        let t = global_type (definition text name) in
        All-weaker (HasType tags t) (HasType more t) (value_still t) (cells_of w name) (h name has)

-- Stops at objects: a handle leads to an object where the reference does, and its fields' words are those of their values.
use Rattle.std.proofs.Common.{◌≡◌, ℕ, zero, suc, ◌<◌, ◌==◌, Bool, true, false, cond, List, [], ◌∷◌, append-nil, map, length, get_or, set, slice_get, Option, Some, None, unwrap_or, is_some, refl, sym, ap, subst, ◌∙◌, if◌then◌else◌, arith}
use Rattle.std.specs.FinMap.{get}
use Rattle.std.proofs.lemmas.Bool.{ne_eqb}
use Rattle.std.proofs.lemmas.List.{length-map}
use Rattle.std.proofs.lemmas.Option.{none-some, slice_get_within}
use Rattle.run_types.specs.declared.trap.TrapKind.TheVariants.{Null, Stale}
use Rattle.c_tree.specs.BareExpr.{Bytes, BareType, Handle}
use Rattle.c_tree.specs.BareDef.{BareBinding, BareDef, Struct}
use Rattle.c_semantics.specs.Names.{struct_name}
use Rattle.c_semantics.specs.Texts.{bound, bound_type, int, members_of}
use Rattle.c_semantics.specs.Values.{Value, Reference, int_of}
use Rattle.c_semantics.specs.Stops.{Free, ReadField, Stop, WriteField}
use Rattle.c_semantics.specs.Pieces.{Variable}
use Rattle.c_semantics.specs.Evaluation.{in_scope, with_value}
use Rattle.source_model.specs.Worlds.{Object, World}
use Rattle.source_model.specs.Moves.{goes_on, on_live, perform, traps, with_object}
use Rattle.version_laws.specs.Histories.{last_text, text_in}
use Rattle.typed_trees.specs.ValueTypes.{HasType, HaveTypes, ScopeHas}
use Rattle.typed_trees.specs.ExpressionTypes.{IsStruct}
use Rattle.typed_trees.specs.PieceTypes.{HasField, Stack, field_type}
use Rattle.typed_runs.specs.TypedWorlds.{tags_of}
use Rattle.typed_runs.proofs.MoreObjects.{no_more, values_still}
use Rattle.typed_runs.proofs.Places.{field_has, field_written, object_at, tag_is, tags_kept}
use Rattle.typed_runs.proofs.SameUses.{SameUse}
use Rattle.bytecode.specs.Words.{word_of}
use Rattle.tree_code.specs.Ranges.{AllRanged, Ranged}
use Rattle.object_store.specs.declared.object.Object.{Object as Own}
use Rattle.object_store.specs.Naming.{IsNamed}
use Rattle.object_store.specs.Stores.{Store, with_object as with_own, without_object}
use Rattle.object_store.proofs.NamedObjects.{change_keeps_names, end_keeps_names, handles_are_apart}
use Rattle.code_runs.specs.CodeData.{field_number, field_word, with_field}
use Rattle.code_runs.specs.SharedStops.{Done, goes, on_live as on_live_word, on_object as on_object_word, release, traps as traps_with, with_objects, write_field}
use Rattle.code_runs.specs.Layouts.{AreFieldsIn, text_at, used_object}
use Rattle.code_run_laws.specs.DataMatches.{FieldsMatch, LivesAs, ObjectMatches, ObjectsMatch}
use Rattle.code_run_laws.proofs.AtStop.{AtStop, Comes, comes_as, goes_here, look_of, now_of, tags_at, traps_here, words_at}
use Rattle.code_run_laws.proofs.FieldWords.{field_read, field_set, read_ranged, write_ranged}
use Rattle.code_run_laws.proofs.MatchedObjects.{as_many, match_at, match_set}
use Rattle.code_run_laws.proofs.MoreNames.{no_more_named}
use Rattle.code_run_laws.proofs.BroughtFields.{newest_as_they_are}
use Rattle.code_run_laws.proofs.SharedAlike.{IsFresh}
use Rattle.code_run_laws.proofs.RangedValues.{zero_int}

-- a number of a list has something there
pub something_at : {X : Type 0} (xs : List X) (n : ℕ) (f : X → Bytes) (tag : Bytes) → slice_get (map f xs) n ≡ Some tag
    → (x : X) × (slice_get xs n ≡ Some x)
something_at [] n f tag e = absurd (none-some tag e)
something_at (x ∷ xs) zero f tag e = (x, refl)
something_at (x ∷ xs) (suc n) f tag e = something_at xs n f tag e

module _ (a : AtStop) where
  abbrev world : World
  world = a.standing.world

  -- an object by its number in the source machine, with what is under its handle
  record Found (tag : Bytes) (n : ℕ) : Type 0 where
    within : n < length a.objects
    object : Object
    at : slice_get a.standing.world.objects n ≡ Some object
    tag_of : tag ≡ object.tag
    matches : ObjectMatches a.names a.texts (tags_at a) a.naming object.live object (get_or a.objects n None)

  found : (tag : Bytes) (n : ℕ) → HasType (tags_at a) (Handle tag) (Reference (Some n)) → Found tag n
  found tag n h =
      let o = something_at world.objects n (λ (x : Object). x.tag) tag h in
      let there : n < length (tags_at a) = slice_get_within (tags_at a) n tag h in
      let tags : length (tags_at a) ≡ length world.objects = length-map world.objects (λ (x : Object). x.tag) in
      let many : length a.objects ≡ length world.objects = as_many a.names a.texts (tags_at a) a.naming world.objects a.objects a.matches.objects_match in
      record {
        within = omega (arith, there, tags, many);
        object = o.0;
        at = o.1;
        tag_of = tag_is world.objects n o.0 tag o.1 h;
        matches = match_at a.names a.texts (tags_at a) a.naming world.objects a.objects n o.0 a.matches.objects_match o.1;
      }

  not_null : (n : ℕ) → n < length a.objects → (a.naming.object n == 0) ≡ false
  not_null n within =
      let above : 0 < a.naming.object n = (handles_are_apart a.naming.object a.objects a.data_of.objects a.matches.named).1 n within in
      ne_eqb (a.naming.object n) 0 (λ e. omega (arith, e, above))

  led : (n : ℕ) → n < length a.objects → get a.data_of.objects.live (a.naming.object n) ≡ get_or a.objects n None
  led n within = a.matches.named.leads n within

  -- what is done with an object of which a handle is given
  led_on : (g : Own → Done) (n : ℕ) → n < length a.objects → on_object_word a.data_of (a.naming.object n) g ≡ on_live_word a.data_of g (get_or a.objects n None)
  led_on g n within =
      ap (λ b. cond b (traps_with a.data_of Null) (on_live_word a.data_of g (get a.data_of.objects.live (a.naming.object n)))) (not_null n within)
      ∙ ap (on_live_word a.data_of g) (led n within)

  -- the same is done with an object that lives, and a stop at another traps
  module _ (x : Stop) (values : List Value) (f : ℕ → Object → Option World) (g : Own → Done) where
    abbrev Lives : Bytes → ℕ → Type 0
    Lives tag n =
        (o : Object) (own : Own) → slice_get a.standing.world.objects n ≡ Some o → o.live ≡ true → tag ≡ o.tag
        → n < length a.objects → get_or a.objects n None ≡ Some own → LivesAs a.names a.texts (tags_at a) a.naming o own → perform x a.standing values ≡ f n o
        → Comes a x values (g own)

    at_object : (tag : Bytes) (n : ℕ) → Found tag n → Lives tag n → perform x a.standing values ≡ on_live a.standing (f n) (slice_get a.standing.world.objects n)
        → Comes a x values (on_live_word a.data_of g (get_or a.objects n None))
    at_object tag n o k performs = by o.object.live refl (get_or a.objects n None) refl o.matches
      where
        done_so : (b : Bool) → o.object.live ≡ b → perform x a.standing values ≡ (if b then f n o.object else traps a.standing Stale)
        done_so b is = performs ∙ ap (on_live a.standing (f n)) o.at ∙ ap (λ t. if t then f n o.object else traps a.standing Stale) is

        by : (b : Bool) → o.object.live ≡ b → (own : Option Own) → get_or a.objects n None ≡ own
            → ObjectMatches a.names a.texts (tags_at a) a.naming b o.object own → Comes a x values (on_live_word a.data_of g own)
        by true is (Some own) e h = k o.object own o.at is o.tag_of o.within e h (done_so true is)
        by true is None e h = absurd h
        by false is (Some own) e h = absurd h
        by false is None e h = traps_here a x values Stale (done_so false is)

    at_live : (tag : Bytes) (n : ℕ) (done : Done) → HasType (tags_at a) (Handle tag) (Reference (Some n)) → Lives tag n
        → perform x a.standing values ≡ on_live a.standing (f n) (slice_get a.standing.world.objects n)
        → done ≡ on_object_word a.data_of (a.naming.object n) g → Comes a x values done
    at_live tag n done h k performs e =
        let o = found tag n h in
        comes_as a x values done (on_live_word a.data_of g (get_or a.objects n None)) (e ∙ led_on g n o.within) (at_object tag n o k performs)

  -- ---- fields

  -- what has fields is a struct
  pub with_field_is : (o : Option BareDef) (name : Bytes) → (b : BareBinding) × (bound (members_of o) name ≡ Some b) → IsStruct o
  with_field_is (Some (Struct tag ms)) name h = tt
  with_field_is _ name h = absurd (none-some h.0 h.1)

  module _ (tag name : Bytes) (same : SameUse (look_of a (struct_name tag)) (now_of a (struct_name tag))) (field : HasField (look_of a) tag name) where
    abbrev members : List BareBinding
    members = members_of (now_of a (struct_name tag))

    is_struct : IsStruct (now_of a (struct_name tag))
    is_struct = same.struct (with_field_is (look_of a (struct_name tag)) name field)

    has_field : is_some (bound members name) ≡ true
    has_field = ap (λ ms. is_some (bound ms name)) (sym same.members_are) ∙ ap is_some field.1

    fields_have : (n : ℕ) (o : Object) → slice_get a.standing.world.objects n ≡ Some o → tag ≡ o.tag → ScopeHas (tags_at a) members o.fields
    fields_have n o at is =
        subst (λ g. IsStruct (now_of a (struct_name g)) → ScopeHas (tags_at a) (members_of (now_of a (struct_name g))) o.fields) (sym is)
        (object_at (last_text a.texts) (tags_at a) world.objects n o at a.ready.world.objects) is_struct

    -- the words of an object of the layout of the text in force are those of its fields
    field_of : (o : Object) (own : Own) → LivesAs a.names a.texts (tags_at a) a.naming o own → suc own.layout ≡ length a.texts
        → FieldsMatch a.naming o.fields own.fields
    field_of o own h newest =
        subst (λ fs. FieldsMatch a.naming fs own.fields) (sym (h.brought ∙ newest_as_they_are a.texts o.tag own.layout h.old newest)) h.words

    -- by its text it has the fields of its struct
    fits_now : (o : Object) (own : Own) (fields : List Variable) → tag ≡ o.tag → suc own.layout ≡ length a.texts
        → ScopeHas (tags_at a) members fields → AreFieldsIn (text_at a.texts own.layout) (tags_at a) o.tag fields
    fits_now o own fields is newest has =
        subst (λ n. AreFieldsIn (text_in a.texts n) (tags_at a) o.tag fields) (sym newest)
        (subst (λ g. AreFieldsIn (last_text a.texts) (tags_at a) g fields) is (is_struct, has))

    -- a stop with the handle of an object that lives finds it with the layout of the text in force
    found_fresh : (x : Stop) (stack : List ℕ) (n : ℕ) (own : Own) → IsFresh a.texts x stack a.data_of
        → used_object x stack ≡ Some (tag, a.naming.object n) → n < length a.objects → get_or a.objects n None ≡ Some own
        → suc own.layout ≡ length a.texts
    found_fresh x stack n own fresh used within there =
        fresh tag (a.naming.object n) own used ((handles_are_apart a.naming.object a.objects a.data_of.objects a.matches.named).1 n within)
        (led n within ∙ there)

    type_is : bound_type members name ≡ field_type (look_of a) tag name
    type_is = ap (λ ms. bound_type ms name) (sym same.members_are)

    pub read_field_alike : (r : Option ℕ) (values : List Value) (under : Stack) (done : Done)
        → IsFresh a.texts (ReadField tag name) (words_at a (Reference r ∷ values)) a.data_of → HasType (tags_at a) (Handle tag) (Reference r) → a.then_are (field_type (look_of a) tag name ∷ under)
        → HaveTypes (tags_at a) under values → AllRanged values
        → done ≡ on_object_word a.data_of (word_of a.naming (Reference r)) (λ o. goes a.data_of (field_word members name o ∷ words_at a values))
        → Comes a (ReadField tag name) (Reference r ∷ values) done
    read_field_alike None values under done fresh handle on h ranged e =
        comes_as a (ReadField tag name) (Reference None ∷ values) done (traps_with a.data_of Null) e
        (traps_here a (ReadField tag name) (Reference None ∷ values) Null refl)
    read_field_alike (Some m) values under done fresh handle on h ranged e =
        at_live (ReadField tag name) (Reference (Some m) ∷ values)
        (λ n o. goes_on a.standing a.standing.world (unwrap_or (in_scope o.fields name) (int_of 0) ∷ values))
        (λ o. goes a.data_of (field_word members name o ∷ words_at a values)) tag m done handle
        (λ o own at live is within there lives performs.
        let newest = found_fresh (ReadField tag name) (words_at a (Reference (Some m) ∷ values)) m own fresh refl within there in
        let f = field_of o own lives newest in
        let value = unwrap_or (in_scope o.fields name) (int_of 0) in
        let word : field_word members name own ≡ word_of a.naming value =
        ap (λ ws. get_or ws (field_number members name) 0) f.are
        ∙ field_read (tags_at a) a.naming members o.fields name f.others (fields_have m o at is) has_field in
        comes_as a (ReadField tag name) (Reference (Some m) ∷ values) (goes a.data_of (field_word members name own ∷ words_at a values))
        (goes a.data_of (words_at a (value ∷ values))) (ap (λ w. goes a.data_of (w ∷ words_at a values)) word)
        (goes_here a (ReadField tag name) (Reference (Some m) ∷ values) (value ∷ values) (field_type (look_of a) tag name ∷ under) performs on
        (subst (λ t. HasType (tags_at a) t value) type_is (field_has (tags_at a) members o.fields name (fields_have m o at is) has_field), h)
        (read_ranged o.fields name f.ranged, ranged)))
        refl e

  -- ---- an object that is changed or ended

  -- the frame goes on where another object is under a number, with its tag
  goes_changed : (x : Stop) (values after : List Value) (under : Stack) (n : ℕ) (o p : Object) (own : Option Own) (store : Store)
      → slice_get a.standing.world.objects n ≡ Some o → p.tag ≡ o.tag
      → ObjectMatches a.names a.texts (tags_at a) a.naming p.live p own
      → IsNamed a.naming.object (set a.objects n own) store → store.capacity ≡ a.data_of.objects.capacity
      → perform x a.standing values ≡ goes_on a.standing (with_object n p a.standing.world) after
      → a.then_are under → HaveTypes (tags_at a) under after → AllRanged after
      → Comes a x values (goes (with_objects a.data_of store) (words_at a after))
  goes_changed x values after under n o p own store at same match named capacity performs on have ranged =
      let kept : tags_of (set world.objects n p) ≡ tags_at a = tags_kept world.objects n o p at same in
      let grows = no_more (tags_at a) (tags_of (set world.objects n p)) kept in
      record {
        world = with_object n p a.standing.world;
        values_after = after;
        naming_after = a.naming;
        objects_after = set a.objects n own;
        types_after = under;
        performs = performs;
        shared = record {
          rows = a.matches.rows;
          cells = a.matches.cells;
          ranged = a.matches.ranged;
          named = named;
          objects_match = subst (λ ts. ObjectsMatch a.names a.texts ts a.naming (set world.objects n p) (set a.objects n own)) (sym kept)
              (match_set a.names a.texts (tags_at a) a.naming world.objects a.objects n p own a.matches.objects_match match);
          capacity = capacity ∙ a.matches.capacity;
          mutexes = a.matches.mutexes;
          holders = a.matches.holders;
          version = a.matches.version;
        };
        goes = on;
        have = values_still (tags_at a) (tags_of (set world.objects n p)) grows under after have;
        ranged = ranged;
        words = refl;
        output = sym (append-nil a.standing.world.output);
        slots = refl;
        threads = refl;
        finish = refl;
        misused = refl;
        grows = grows;
        more = no_more_named (length a.standing.world.objects) a.naming;
      }

  -- the words of a field that is written
  written_match : (tag name : Bytes) (same : SameUse (look_of a (struct_name tag)) (now_of a (struct_name tag))) (field : HasField (look_of a) tag name)
      (n : ℕ) (o : Object) (own : Own) (v : Value) → slice_get a.standing.world.objects n ≡ Some o → tag ≡ o.tag → Ranged v
      → HasType (tags_at a) (field_type (look_of a) tag name) v → suc own.layout ≡ length a.texts
      → LivesAs a.names a.texts (tags_at a) a.naming o own
      → LivesAs a.names a.texts (tags_at a) a.naming (record o { fields = with_value name v o.fields })
      (with_field (members tag name same field) name (word_of a.naming v) own)
  written_match tag name same field n o own v at is ranged typed newest lives =
      let ms = members tag name same field in
      let f = field_of tag name same field o own lives newest in
      let has = fields_have tag name same field n o at is in
      record {
        tag = lives.tag;
        known = lives.known;
        old = with_value name v o.fields;
        fits = fits_now tag name same field o own (with_value name v o.fields) is newest
            (field_written (tags_at a) ms o.fields name v has (subst (λ t. HasType (tags_at a) t v) (sym (type_is tag name same field)) typed));
        words = record {
          others = f.others;
          are =
              ap (λ ws. set ws (field_number ms name) (word_of a.naming v)) f.are
              ∙ field_set (tags_at a) a.naming ms o.fields name v f.others has (has_field tag name same field);
          ranged = write_ranged o.fields name v ranged f.ranged;
        };
        brought = sym (newest_as_they_are a.texts o.tag own.layout (with_value name v o.fields) newest);
      }

  pub write_field_alike : (tag name : Bytes) (same : SameUse (look_of a (struct_name tag)) (now_of a (struct_name tag)))
      (field : HasField (look_of a) tag name) (v : Value) (r : Option ℕ) (values : List Value) (t : BareType) (under : Stack) (done : Done)
      → IsFresh a.texts (WriteField tag name) (words_at a (v ∷ Reference r ∷ values)) a.data_of → t ≡ field_type (look_of a) tag name → HasType (tags_at a) t v → HasType (tags_at a) (Handle tag) (Reference r)
      → a.then_are (field_type (look_of a) tag name ∷ under) → HaveTypes (tags_at a) under values → AllRanged (v ∷ Reference r ∷ values)
      → done ≡ write_field a.data_of (members tag name same field) name (word_of a.naming (Reference r)) (word_of a.naming v) (words_at a values)
      → Comes a (WriteField tag name) (v ∷ Reference r ∷ values) done
  write_field_alike tag name same field v None values t under done fresh type own_has handle on h ranged e =
      comes_as a (WriteField tag name) (v ∷ Reference None ∷ values) done (traps_with a.data_of Null) e
      (traps_here a (WriteField tag name) (v ∷ Reference None ∷ values) Null refl)
  write_field_alike tag name same field v (Some n) values t under done fresh type own_has handle on h ranged e =
      let ms = members tag name same field in
      at_live (WriteField tag name) (v ∷ Reference (Some n) ∷ values)
      (λ m o. goes_on a.standing (with_object m (record o { fields = with_value name v o.fields }) a.standing.world) (v ∷ values))
      (λ o. goes (with_objects a.data_of (with_own a.data_of.objects (a.naming.object n) (with_field ms name (word_of a.naming v) o))) (words_at a (v ∷ values)))
      tag n done handle
      (λ o own at live is within there lives performs.
      let newest = found_fresh tag name same field (WriteField tag name) (words_at a (v ∷ Reference (Some n) ∷ values)) n own fresh refl within there in
      let v_has : HasType (tags_at a) (field_type (look_of a) tag name) v = subst (λ u. HasType (tags_at a) u v) type own_has in
      let new = with_field ms name (word_of a.naming v) own in
      let match = written_match tag name same field n o own v at is ranged.0 v_has newest lives in
      goes_changed (WriteField tag name) (v ∷ Reference (Some n) ∷ values) (v ∷ values) (field_type (look_of a) tag name ∷ under) n o
      (record o { fields = with_value name v o.fields }) (Some new) (with_own a.data_of.objects (a.naming.object n) new) at refl
      (subst (λ b. ObjectMatches a.names a.texts (tags_at a) a.naming b (record o { fields = with_value name v o.fields }) (Some new)) (sym live) match)
      (change_keeps_names a.naming.object a.objects a.data_of.objects new n a.matches.named (ap is_some there)) refl performs on (v_has, h) (ranged.0, ranged.1.1))
      refl e

  -- ---- ends

  pub release_alike : (tag : Bytes) (r : Option ℕ) (values : List Value) (under : Stack) (done : Done)
      → HasType (tags_at a) (Handle tag) (Reference r) → a.then_are (int ∷ under) → HaveTypes (tags_at a) under values → AllRanged values
      → done ≡ release a.data_of (word_of a.naming (Reference r)) (words_at a values) → Comes a (Free tag) (Reference r ∷ values) done
  release_alike tag None values under done handle on h ranged e =
      comes_as a (Free tag) (Reference None ∷ values) done (goes a.data_of (words_at a (int_of 0 ∷ values))) e
      (goes_here a (Free tag) (Reference None ∷ values) (int_of 0 ∷ values) (int ∷ under) refl on (refl, h) (zero_int, ranged))
  release_alike tag (Some n) values under done handle on h ranged e = by o.object.live refl (get_or a.objects n None) refl o.matches
    where
      o : Found tag n
      o = found tag n handle

      -- what it comes to by what is under the handle
      kept : Option Own → Done
      kept own =
          if is_some own
          then goes (with_objects a.data_of (without_object a.data_of.objects (a.naming.object n))) (words_at a (int_of 0 ∷ values))
          else traps_with a.data_of Stale

      known : (own : Option Own) → get_or a.objects n None ≡ own → done ≡ kept own
      known own is =
          e
          ∙ ap (λ b. cond b (goes a.data_of (words_at a (int_of 0 ∷ values))) (kept (get a.data_of.objects.live (a.naming.object n)))) (not_null n o.within)
          ∙ ap kept (led n o.within ∙ is)

      ended : Option World
      ended = goes_on a.standing (with_object n (record o.object { live = false }) a.standing.world) (int_of 0 ∷ values)

      done_so : (b : Bool) → o.object.live ≡ b → perform (Free tag) a.standing (Reference (Some n) ∷ values) ≡ (if b then ended else traps a.standing Stale)
      done_so b is =
          ap (on_live a.standing (λ x. goes_on a.standing (with_object n (record x { live = false }) a.standing.world) (int_of 0 ∷ values))) o.at
          ∙ ap (λ t. if t then ended else traps a.standing Stale) is

      by : (b : Bool) → o.object.live ≡ b → (own : Option Own) → get_or a.objects n None ≡ own
          → ObjectMatches a.names a.texts (tags_at a) a.naming b o.object own → Comes a (Free tag) (Reference (Some n) ∷ values) done
      by true is (Some own) there m =
          comes_as a (Free tag) (Reference (Some n) ∷ values) done (kept (Some own)) (known (Some own) there)
          (goes_changed (Free tag) (Reference (Some n) ∷ values) (int_of 0 ∷ values) (int ∷ under) n o.object (record o.object { live = false }) None
          (without_object a.data_of.objects (a.naming.object n)) o.at refl tt
          (end_keeps_names a.naming.object a.objects a.data_of.objects n a.matches.named o.within) refl (done_so true is) on (refl, h) (zero_int, ranged))
      by true is None there m = absurd m
      by false is (Some own) there m = absurd m
      by false is None there m =
          comes_as a (Free tag) (Reference (Some n) ∷ values) done (kept None) (known None there)
          (traps_here a (Free tag) (Reference (Some n) ∷ values) Stale (done_so false is))

-- The stop that creates an object: its handle is the word of its reference, and all others stay.
use Rattle.std.proofs.Common.{◌≡◌, ℕ, ◌+◌, ◌-◌, ◌<◌, ◌≤◌, ◌==◌, Bool, true, false, not, cond, List, [], ◌∷◌, ◌++◌, append-nil, map, length, replicate, slice_get, Option, Some, None, is_some, refl, sym, ap, ap₂, subst, ◌∙◌, if◌then◌else◌, arith}
use Rattle.std.proofs.lemmas.Bool.{eq-eqb, ne_eqb}
use Rattle.std.proofs.lemmas.List.{length-map, map-append, replicate-append-replicate}
use Rattle.c_tree.specs.BareExpr.{Bytes, Handle}
use Rattle.c_tree.specs.BareDef.{BareBinding}
use Rattle.c_semantics.specs.Names.{struct_name}
use Rattle.c_semantics.specs.Texts.{definition, global_type, members_of}
use Rattle.c_semantics.specs.Values.{Reference, Value}
use Rattle.c_semantics.specs.Stops.{New}
use Rattle.c_semantics.specs.Transformers.{zero_fields}
use Rattle.source_model.specs.Worlds.{Object, World, cells_of, live_objects, now}
use Rattle.source_model.specs.Moves.{goes_on, new_object}
use Rattle.version_laws.specs.Histories.{text_in}
use Rattle.version_laws.proofs.SameDefinitions.{members_alike}
use Rattle.version_laws.proofs.TableHistories.{last_as_current}
use Rattle.typed_transformers.specs.TransformerTypes.{HasCells}
use Rattle.typed_trees.specs.ValueTypes.{HaveTypes, ScopeHas}
use Rattle.typed_trees.specs.ExpressionTypes.{IsStruct}
use Rattle.typed_trees.specs.PieceTypes.{Stack}
use Rattle.typed_runs.specs.TypedWorlds.{tags_of}
use Rattle.typed_runs.proofs.MoreObjects.{Grows, before_more, next_number, values_still}
use Rattle.typed_runs.proofs.Places.{zeros_have}
use Rattle.bytecode.specs.Words.{Naming, word_of}
use Rattle.tree_code.specs.Ranges.{AllRanged}
use Rattle.object_store.specs.Naming.{extended}
use Rattle.object_store.specs.Stores.{Creates, Store}
use Rattle.object_store.proofs.NamedObjects.{creation_names}
use Rattle.store_laws.specs.HandleLaws.{with_handle}
use Rattle.store_laws.proofs.LiveObjects.{creations_fail_alike}
use Rattle.code_runs.specs.CodeData.{most_fields, number_of}
use Rattle.code_runs.specs.CodeData as own
use Rattle.code_runs.specs.SharedStops.{Done, goes, handle_word, with_objects}
use Rattle.code_runs.specs.Layouts.{AreFieldsIn}
use Rattle.code_run_laws.specs.DataMatches.{FieldsMatch, LivesAs}
use Rattle.code_run_laws.proofs.AtStop.{AtStop, Comes, comes_as, goes_here, now_of, numbers_now, tags_at, text_now, words_at}
use Rattle.code_run_laws.proofs.BroughtFields.{newest_as_they_are}
use Rattle.code_run_laws.proofs.FieldWords.{zero_words, zeros_ranged}
use Rattle.code_run_laws.proofs.MatchedObjects.{as_many, live_alike, match_push, objects_match_still}
use Rattle.code_run_laws.proofs.MoreNames.{cells_still, by_tags, words_still}
use Rattle.code_run_laws.proofs.SharedAlike.{MoreNamed}

module _ (a : AtStop) (tag : Bytes) where
  abbrev world : World
  world = a.standing.world

  abbrev made : Object
  made = new_object a.standing.world tag

  abbrev created : List Object
  created = a.standing.world.objects ++ new_object a.standing.world tag ∷ []

  count : length a.objects ≡ length world.objects
  count = as_many a.names a.texts (tags_at a) a.naming world.objects a.objects a.matches.objects_match

  -- ---- it is made where the machine makes it

  room : (handle : Option ℕ) (after : Store) → Creates a.data_of.objects (own.new_object (number_of a.names.tags tag) a.data_of.version) handle after
      → is_some handle ≡ not (live_objects world == world.capacity)
  room handle after made =
      creations_fail_alike a.naming.object a.objects world a.data_of.objects after (own.new_object (number_of a.names.tags tag) a.data_of.version) handle
      a.matches.named (live_alike a.names a.texts (tags_at a) a.naming world.objects a.objects a.matches.objects_match) a.matches.capacity made

  is_not : (b c : Bool) → b ≡ not c → c ≡ not b
  is_not b true e = ap not (sym e)
  is_not b false e = ap not (sym e)

  -- ---- its fields

  members_now : members_of (now world (struct_name tag)) ≡ members_of (now_of a (struct_name tag))
  members_now =
      members_alike (now world (struct_name tag)) (now_of a (struct_name tag))
      (last_as_current a.texts world.table a.ready.of.history (struct_name tag))

  few : length (members_of (now world (struct_name tag))) ≤ most_fields
  few =
      subst (λ ms. length ms ≤ most_fields) (sym members_now)
      (subst (λ t. length (members_of (definition t (struct_name tag))) ≤ most_fields) (text_now a) ((numbers_now a).fields tag))

  zeros_match : (naming : Naming) (ms : List BareBinding) → length ms ≤ most_fields → FieldsMatch naming (zero_fields ms) (replicate most_fields 0)
  zeros_match naming ms few =
      let sum : length ms + (16 - length ms) ≡ 16 = omega (arith, few) in
      record {
        others = replicate (16 - length ms) 0;
        are =
            ap (λ n. replicate n 0) (sym sum) ∙ sym (replicate-append-replicate (length ms) (16 - length ms) 0)
            ∙ ap (λ ws. ws ++ replicate (16 - length ms) 0) (sym (zero_words (tags_at a) naming ms));
        ranged = zeros_ranged ms;
      }

  -- it has the layout of the text in force
  new_lives : (naming : Naming) → IsStruct (now_of a (struct_name tag))
      → LivesAs a.names a.texts (tags_of created) naming made (own.new_object (number_of a.names.tags tag) a.data_of.version)
  new_lives naming struct =
      let fields = zero_fields (members_of (now world (struct_name tag))) in
      record {
        tag = refl;
        known = let is = a.matches.version in omega (arith, is);
        old = fields;
        fits =
            subst (λ n. AreFieldsIn (text_in a.texts n) (tags_of created) tag fields) (sym a.matches.version) (
              struct,
              subst (λ ms. ScopeHas (tags_of created) (members_of (now_of a (struct_name tag))) (zero_fields ms)) (sym members_now)
                  (zeros_have (tags_of created) (members_of (now_of a (struct_name tag)))),
            );
        words = zeros_match naming (members_of (now world (struct_name tag))) few;
        brought = sym (newest_as_they_are a.texts tag a.data_of.version fields a.matches.version);
      }

  -- ---- all others keep their words

  tags_more : tags_of created ≡ tags_at a ++ tag ∷ []
  tags_more = map-append (λ (o : Object). o.tag) world.objects (made ∷ [])

  grown : Grows (tags_at a) (tags_of created)
  grown n g e = ap (λ xs. slice_get xs n) tags_more ∙ before_more (tags_at a) (tag ∷ []) n g e

  newest_tag : slice_get (tags_of created) (length world.objects) ≡ Some tag
  newest_tag =
      ap (λ xs. slice_get xs (length world.objects)) tags_more
      ∙ ap (slice_get (tags_at a ++ tag ∷ [])) (sym (length-map world.objects (λ (o : Object). o.tag))) ∙ next_number (tags_at a) tag

  module _ (h : ℕ) where
    abbrev naming_more : Naming
    naming_more = with_handle a.naming (length a.objects) h

    before : (n : ℕ) → n < length a.objects → extended a.naming.object (length a.objects) h n ≡ a.naming.object n
    before n there = ap (λ b. cond b h (a.naming.object n)) (ne_eqb n (length a.objects) (λ e. omega (arith, e, there)))

    newest : extended a.naming.object (length a.objects) h (length world.objects) ≡ h
    newest = ap (λ b. cond b h (a.naming.object (length world.objects))) (eq-eqb (length world.objects) (length a.objects) (sym count))

    more : MoreNamed (length world.objects) a.naming naming_more
    more = record { objects = λ n there. before n (omega (arith, there, count)); threads = λ t. refl }

    more_tags : MoreNamed (length (tags_at a)) a.naming naming_more
    more_tags = by_tags world.objects a.naming naming_more more

    cells_kept : (name : Bytes) → HasCells (definition world.text name) → map (word_of naming_more) (cells_of world name) ≡ words_at a (cells_of world name)
    cells_kept name has =
        cells_still (tags_at a) a.naming naming_more more_tags (global_type (now_of a name)) (cells_of world name)
        (a.ready.world.globals name (subst (λ t. HasCells (definition t name)) (text_now a) has))

    made_alike : (after : Store) (values : List Value) (types : Stack) (done : Done) → IsStruct (now_of a (struct_name tag))
        → Creates a.data_of.objects (own.new_object (number_of a.names.tags tag) a.data_of.version) (Some h) after → a.then_are (Handle tag ∷ types)
        → HaveTypes (tags_at a) types values → AllRanged values
        → done ≡ goes (with_objects a.data_of after) (h ∷ words_at a values) → Comes a (New tag) values done
    made_alike after values types done struct made_so on have ranged e =
        let full : (live_objects world == world.capacity) ≡ false = is_not true (live_objects world == world.capacity) (room (Some h) after made_so) in
        comes_as a (New tag) values done (goes (with_objects a.data_of after) (h ∷ words_at a values)) e
        (record {
          world = record a.standing.world { objects = created };
          values_after = Reference (Some (length a.standing.world.objects)) ∷ values;
          naming_after = naming_more;
          objects_after = a.objects ++ Some (own.new_object (number_of a.names.tags tag) a.data_of.version) ∷ [];
          types_after = Handle tag ∷ types;
          performs =
              ap
              (λ b. if b then goes_on a.standing a.standing.world (Reference None ∷ values) else goes_on a.standing (record a.standing.world { objects = created }) (Reference (Some (length a.standing.world.objects)) ∷ values))
              full;
          shared = record {
            rows = a.matches.rows;
            cells = λ name has. a.matches.cells name has ∙ sym (cells_kept name has);
            ranged = a.matches.ranged;
            named = creation_names a.naming.object a.objects a.data_of.objects after (own.new_object (number_of a.names.tags tag) a.data_of.version) h a.matches.named made_so;
            objects_match = match_push a.names a.texts (tags_of created) naming_more world.objects a.objects made (Some (own.new_object (number_of a.names.tags tag) a.data_of.version))
                (objects_match_still a.names a.texts (tags_at a) (tags_of created) grown a.naming naming_more more_tags world.objects a.objects
                a.matches.objects_match)
                (new_lives naming_more struct);
            capacity = ap (λ (t : Store). t.capacity) made_so.2 ∙ a.matches.capacity;
            mutexes = a.matches.mutexes;
            holders = a.matches.holders;
            version = a.matches.version;
          };
          goes = on;
          have = (newest_tag, values_still (tags_at a) (tags_of created) grown types values have);
          ranged = (tt, ranged);
          words = ap₂ (◌∷◌) (sym newest) (sym (words_still (tags_at a) a.naming naming_more more_tags types values have));
          output = sym (append-nil a.standing.world.output);
          slots = refl;
          threads = refl;
          finish = refl;
          misused = refl;
          grows = grown;
          more = more;
        })

  pub create_alike : (handle : Option ℕ) (after : Store) (values : List Value) (types : Stack) (done : Done)
      → IsStruct (now_of a (struct_name tag)) → Creates a.data_of.objects (own.new_object (number_of a.names.tags tag) a.data_of.version) handle after → a.then_are (Handle tag ∷ types)
      → HaveTypes (tags_at a) types values → AllRanged values
      → done ≡ goes (with_objects a.data_of after) (handle_word handle ∷ words_at a values) → Comes a (New tag) values done
  create_alike None after values types done struct made_so on have ranged e =
      let full : (live_objects world == world.capacity) ≡ true = is_not false (live_objects world == world.capacity) (room None after made_so) in
      comes_as a (New tag) values done (goes a.data_of (words_at a (Reference None ∷ values)))
      (e ∙ ap (λ s. goes (with_objects a.data_of s) (words_at a (Reference None ∷ values))) made_so.1)
      (goes_here a (New tag) values (Reference None ∷ values) (Handle tag ∷ types)
      (ap
      (λ b. if b then goes_on a.standing a.standing.world (Reference None ∷ values) else goes_on a.standing (record a.standing.world { objects = created }) (Reference (Some (length a.standing.world.objects)) ∷ values))
      full) on (tt, have) (tt, ranged))
  create_alike (Some h) after values types done struct made_so on have ranged e =
      made_alike h after values types done struct made_so on have ranged e

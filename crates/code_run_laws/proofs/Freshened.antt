-- A stop brings the object that it uses to the layout of the text in force, and what is shared stands for the same world as before.
use Rattle.std.proofs.Common.{◌≡◌, ℕ, zero, suc, ◌-◌, ◌<◌, Bool, true, false, List, [], ◌∷◌, length, get_or, set, slice_get, Option, Some, None, is_some, refl, sym, ap, subst, ◌∙◌, arith}
use Rattle.std.specs.FinMap.{get, insert}
use Rattle.std.proofs.lemmas.List.{length-map}
use Rattle.std.proofs.lemmas.Option.{none-some, same_Some, slice_get_within}
use Rattle.c_tree.specs.BareExpr.{Bytes, Handle}
use Rattle.c_semantics.specs.Names.{struct_name}
use Rattle.c_semantics.specs.Values.{Value, Number, Reference, Started}
use Rattle.c_semantics.specs.Stops.{Stop, ReadField, WriteField}
use Rattle.source_model.specs.Worlds.{Object, World}
use Rattle.version_laws.specs.Histories.{last_text, text_in}
use Rattle.typed_trees.specs.ValueTypes.{HasType, HaveTypes}
use Rattle.typed_trees.specs.ExpressionTypes.{IsStruct}
use Rattle.typed_trees.specs.PieceTypes.{HasField, Stack, StopTyped}
use Rattle.typed_runs.specs.TypedFrames.{result_in}
use Rattle.typed_runs.proofs.Places.{object_at, tag_is}
use Rattle.typed_runs.proofs.SameUses.{SameUse}
use Rattle.bytecode.specs.Words.{Distinguishes, word_of}
use Rattle.object_store.specs.declared.object.Object.{Object as Own}
use Rattle.object_store.specs.Naming.{IsNamed, Objects}
use Rattle.object_store.specs.Stores.{with_object}
use Rattle.object_store.proofs.HandleMaps.{get_inserted}
use Rattle.object_store.proofs.NamedObjects.{change_keeps_names}
use Rattle.code_runs.specs.CodeData.{Data, number_of}
use Rattle.code_runs.specs.Layouts.{AreFieldsIn, BeginWith, Brings, FieldsRanged, Freshens, brings, newest, newest_fields, none_lives, null, one_text, text_at, used_object, uses_none}
use Rattle.code_run_laws.specs.DataMatches.{DataMatches, LivesAs, ObjectMatches}
use Rattle.code_run_laws.proofs.AtStop.{AtStop, look_of, now_of, tags_at, words_at}
use Rattle.code_run_laws.proofs.BroughtFields.{brought_ranged, newest_as_they_are}
use Rattle.code_run_laws.proofs.MatchedObjects.{as_many, match_again, match_at}
use Rattle.code_run_laws.proofs.SharedAlike.{IsFresh, IsSameNow}
use Rattle.code_run_laws.proofs.SharedObjects.{with_field_is}

-- something is at each number below the length
something_within : {X : Type 0} (xs : List X) (n : ℕ) → n < length xs → (x : X) × (slice_get xs n ≡ Some x)
something_within [] n h = absurd (omega (arith, h))
something_within (x ∷ xs) zero h = (x, refl)
something_within (x ∷ xs) (suc n) h = something_within xs n (omega (arith, h))

module _ (a : AtStop) (apart : Distinguishes (length (tags_at a)) a.naming) where
  abbrev world : World
  world = a.standing.world

  count : length a.objects ≡ length world.objects
  count = as_many a.names a.texts (tags_at a) a.naming world.objects a.objects a.matches.objects_match

  tag_count : length (tags_at a) ≡ length world.objects
  tag_count = length-map world.objects (λ (o : Object). o.tag)

  -- ---- the object under a handle

  record Lives (h : ℕ) (own : Own) : Type 0 where
    number : ℕ
    within : number < length world.objects
    handle : a.naming.object number ≡ h
    object : Object
    at : slice_get a.standing.world.objects number ≡ Some object
    live : object.live ≡ true
    led : get_or a.objects number None ≡ Some own
    lives : LivesAs a.names a.texts (tags_at a) a.naming object own

  lives_under : (h : ℕ) (own : Own) → get a.data_of.objects.live h ≡ Some own → Lives h own
  lives_under h own e =
      let n = a.matches.named.only h (ap is_some e) in
      let within : n.0 < length world.objects = subst (λ k. n.0 < k) count n.1.0 in
      let o = something_within world.objects n.0 within in
      let led : get_or a.objects n.0 None ≡ Some own =
      sym (a.matches.named.leads n.0 n.1.0) ∙ ap (get a.data_of.objects.live) n.1.1 ∙ e in
      by n.0 within n.1.1 o.0 o.1 led o.0.live refl
      (subst (ObjectMatches a.names a.texts (tags_at a) a.naming o.0.live o.0) led
      (match_at a.names a.texts (tags_at a) a.naming world.objects a.objects n.0 o.0 a.matches.objects_match o.1))
    where
      by : (n : ℕ) → n < length world.objects → a.naming.object n ≡ h → (o : Object) → slice_get a.standing.world.objects n ≡ Some o
          → get_or a.objects n None ≡ Some own → (b : Bool) → o.live ≡ b → ObjectMatches a.names a.texts (tags_at a) a.naming b o (Some own)
          → Lives h own
      by n within handle o at led true is m =
          record { number = n; within = within; handle = handle; object = o; at = at; live = is; led = led; lives = m }
      by n within handle o at led false is m = absurd m

  -- ---- what a stop uses

  -- the word of a handle, of a struct that is defined now
  record Uses (tag : Bytes) (h : ℕ) : Type 0 where
    struct : IsStruct (now_of a (struct_name tag))
    reference : Option ℕ
    has : HasType (tags_at a) (Handle tag) (Reference reference)
    word : word_of a.naming (Reference reference) ≡ h

  handle_used : (tag : Bytes) (v : Value) (g : Bytes) (h : ℕ) → IsStruct (now_of a (struct_name tag)) → HasType (tags_at a) (Handle tag) v
      → tag ≡ g → word_of a.naming v ≡ h → Uses g h
  handle_used tag (Number n) g h struct has is word = absurd has
  handle_used tag (Reference r) g h struct has is word = record {
    struct = subst (λ x. IsStruct (now_of a (struct_name x))) is struct;
    reference = r;
    has = subst (λ x. HasType (tags_at a) (Handle x) (Reference r)) is has;
    word = word;
  }
  handle_used tag (Started t) g h struct has is word = absurd has

  struct_now : (tag name : Bytes) → HasField (look_of a) tag name → SameUse (look_of a (struct_name tag)) (now_of a (struct_name tag))
      → IsStruct (now_of a (struct_name tag))
  struct_now tag name field same = same.struct (with_field_is a (look_of a (struct_name tag)) name field)

  uses_typed : (x : Stop) (values : List Value) (types : Stack)
      → StopTyped (look_of a) (result_in a.texts a.standing.frame.version a.standing.frame.function) x types a.then_are
      → HaveTypes (tags_at a) types values → IsSameNow a.texts a.standing x → (g : Bytes) (h : ℕ)
      → used_object x (words_at a values) ≡ Some (g, h) → Uses g h
  uses_typed (ReadField tag name) [] types t have same g h e = absurd (none-some (g, h) e)
  uses_typed (ReadField tag name) (v ∷ rest) [] t have same g h e = absurd have
  uses_typed (ReadField tag name) (v ∷ rest) (u ∷ under) t have same g h e =
      let one = same_Some (tag, word_of a.naming v) (g, h) e in
      handle_used tag v g h (struct_now tag name t.0 (same (struct_name tag) refl)) (subst (λ y. HasType (tags_at a) y v) t.1.0 have.0)
      (ap (λ p. p.0) one) (ap (λ p. p.1) one)
  uses_typed (WriteField tag name) [] types t have same g h e = absurd (none-some (g, h) e)
  uses_typed (WriteField tag name) (w ∷ []) types t have same g h e = absurd (none-some (g, h) e)
  uses_typed (WriteField tag name) (w ∷ v ∷ rest) [] t have same g h e = absurd have
  uses_typed (WriteField tag name) (w ∷ v ∷ rest) (y ∷ []) t have same g h e = absurd have.1
  uses_typed (WriteField tag name) (w ∷ v ∷ rest) (y ∷ u ∷ under) t have same g h e =
      let one = same_Some (tag, word_of a.naming v) (g, h) e in
      handle_used tag v g h (struct_now tag name t.0 (same (struct_name tag) refl)) (subst (λ z. HasType (tags_at a) z v) t.1.1.0 have.1.0)
      (ap (λ p. p.0) one) (ap (λ p. p.1) one)
  uses_typed x values types t have same g h e = absurd (none-some (g, h) e)

  -- the object is one of that struct
  one_of : (tag : Bytes) (h : ℕ) (own : Own) → Uses tag h → (l : Lives h own) → tag ≡ l.object.tag
  one_of tag h own u l = by u.reference u.has u.word
    where
      below : l.number < length (tags_at a)
      below = subst (λ k. l.number < k) (sym tag_count) l.within

      by : (r : Option ℕ) → HasType (tags_at a) (Handle tag) (Reference r) → word_of a.naming (Reference r) ≡ h → tag ≡ l.object.tag
      by None has word =
          let above : 0 < a.naming.object l.number = apart.no_null l.number below in
          let is : 0 ≡ a.naming.object l.number = word ∙ sym l.handle in absurd (omega (arith, above, is))
      by (Some m) has word =
          let is : m ≡ l.number = apart.apart m l.number (slice_get_within (tags_at a) m tag has) below (word ∙ sym l.handle) in
          tag_is world.objects l.number l.object tag l.at (subst (λ k. slice_get (tags_at a) k ≡ Some tag) is has)

  -- ---- what is shared then

  pub record Fresh (x : Stop) (stack : List ℕ) (d : Data) : Type 0 where
    pub objects_after : Objects
    pub shared : DataMatches a.texts a.names a.naming objects_after a.standing.world d
    pub fresh : IsFresh a.texts x stack d

  as_it_is : (x : Stop) (stack : List ℕ) → IsFresh a.texts x stack a.data_of → Fresh x stack a.data_of
  as_it_is x stack fresh = record { objects_after = a.objects; shared = a.matches; fresh = fresh }

  -- the words of an object that is brought are those of its fields
  lives_brought : (tag : Bytes) (h : ℕ) (old new : Own) (l : Lives h old) → IsStruct (now_of a (struct_name tag)) → tag ≡ l.object.tag
      → Brings a.texts tag old new → LivesAs a.names a.texts (tags_at a) a.naming l.object new
  lives_brought tag h old new l struct is made =
      let lives = l.lives in
      let words : BeginWith a.naming l.object.fields new.fields =
      subst (λ fs. BeginWith a.naming fs new.fields) (sym lives.brought)
      (subst (λ g. BeginWith a.naming (newest_fields a.texts g old.layout lives.old) new.fields) is
      (made.words a.naming (tags_at a) lives.old apart struct
      (subst (λ g. AreFieldsIn (text_at a.texts old.layout) (tags_at a) g lives.old) (sym is) lives.fits) lives.words.ranged
      (lives.words.others, lives.words.are))) in
      let struct_is : IsStruct (now_of a (struct_name l.object.tag)) = subst (λ g. IsStruct (now_of a (struct_name g))) is struct in
      record {
        tag = made.tag_stays ∙ lives.tag;
        known = let e = made.layout in omega (arith, e);
        old = l.object.fields;
        fits =
            subst (λ n. AreFieldsIn (text_in a.texts n) (tags_at a) l.object.tag l.object.fields) (sym made.layout)
            (struct_is, object_at (last_text a.texts) (tags_at a) world.objects l.number l.object l.at a.ready.world.objects struct_is);
        words = record {
          others = words.0;
          are = words.1;
          ranged =
              subst FieldsRanged (sym lives.brought)
              (brought_ranged a.texts l.object.tag old.layout (length a.texts - suc old.layout) lives.old lives.words.ranged);
        };
        brought = sym (newest_as_they_are a.texts l.object.tag new.layout l.object.fields made.layout);
      }

  data_brought : (tag : Bytes) (h : ℕ) (old new : Own) (l : Lives h old) → IsStruct (now_of a (struct_name tag)) → tag ≡ l.object.tag
      → Brings a.texts tag old new
      → DataMatches a.texts a.names a.naming (set a.objects l.number (Some new)) a.standing.world
      (record a.data_of { objects = with_object a.data_of.objects h new })
  data_brought tag h old new l struct is made = record {
    rows = a.matches.rows;
    cells = a.matches.cells;
    ranged = a.matches.ranged;
    named =
        subst (λ j. IsNamed a.naming.object (set a.objects l.number (Some new)) (with_object a.data_of.objects j new)) l.handle
        (change_keeps_names a.naming.object a.objects a.data_of.objects new l.number a.matches.named (ap is_some l.led));
    objects_match =
        match_again a.names a.texts (tags_at a) a.naming world.objects a.objects l.number l.object (Some new) a.matches.objects_match l.at
        (subst (λ b. ObjectMatches a.names a.texts (tags_at a) a.naming b l.object (Some new)) (sym l.live)
        (lives_brought tag h old new l struct is made));
    capacity = a.matches.capacity;
    mutexes = a.matches.mutexes;
    holders = a.matches.holders;
    version = a.matches.version;
  }

  -- a stop uses one object
  same_used : (x : Stop) (stack : List ℕ) (g tag : Bytes) (k h : ℕ) → used_object x stack ≡ Some (g, k) → used_object x stack ≡ Some (tag, h)
      → k ≡ h
  same_used x stack g tag k h e f = ap (λ q. q.1) (same_Some (g, k) (tag, h) (sym e ∙ f))

  pub freshened : (x : Stop) (values : List Value) (types : Stack) (d : Data)
      → StopTyped (look_of a) (result_in a.texts a.standing.frame.version a.standing.frame.function) x types a.then_are
      → HaveTypes (tags_at a) types values → IsSameNow a.texts a.standing x → Freshens a.texts a.names x (words_at a values) a.data_of d
      → Fresh x (words_at a values) d
  freshened x values types d t have same (one_text one) =
      as_it_is x (words_at a values) (λ tag h own used above led.
      let l = lives_under h own led in let known = l.lives.known in omega (arith, known, one))
  freshened x values types d t have same (uses_none none) =
      as_it_is x (words_at a values) (λ tag h own used above led. absurd (none-some (tag, h) (sym none ∙ used)))
  freshened x values types d t have same (null g e) =
      as_it_is x (words_at a values) (λ tag h own used above led.
      let is = same_used x (words_at a values) g tag 0 h e used in absurd (omega (arith, is, above)))
  freshened x values types d t have same (none_lives g k e none) =
      as_it_is x (words_at a values) (λ tag h own used above led.
      let is = same_used x (words_at a values) g tag k h e used in
      absurd (none-some own (sym none ∙ ap (get a.data_of.objects.live) is ∙ led)))
  freshened x values types d t have same (newest g k o e there now) =
      as_it_is x (words_at a values) (λ tag h own used above led.
      let is = same_used x (words_at a values) g tag k h e used in
      let one : o ≡ own = same_Some o own (sym there ∙ ap (get a.data_of.objects.live) is ∙ led) in
      ap (λ (y : Own). suc y.layout) (sym one) ∙ ap suc now ∙ a.matches.version)
  freshened x values types d t have same (brings g k old new e there makes) =
      let l = lives_under k old there in
      let u = uses_typed x values types t have same g k e in
      let is = one_of g k old u l in
      let made : Brings a.texts g old new = makes (l.lives.tag ∙ ap (number_of a.names.tags) (sym is)) in
      record {
        objects_after = set a.objects l.number (Some new);
        shared = data_brought g k old new l u.struct is made;
        fresh = λ tag h own used above led.
            let same_handle = same_used x (words_at a values) g tag k h e used in
            let one : new ≡ own =
            same_Some new own
            (sym (get_inserted a.data_of.objects.live k new) ∙ ap (get (insert a.data_of.objects.live k new)) same_handle ∙ led) in
            ap (λ (y : Own). suc y.layout) (sym one) ∙ made.layout;
      }

-- A stop that changes no other thread does to words what it does to values.
use Rattle.std.proofs.Common.{◌≡◌, ℕ, List, [], ◌∷◌, Option, None, refl, subst}
use Rattle.c_ints.specs.declared.int.Int.{Int}
use Rattle.c_tree.specs.BareExpr.{Bytes, BareType, Handle, Integer, Thread}
use Rattle.c_semantics.specs.Names.{struct_name}
use Rattle.c_semantics.specs.Texts.{global_type, int}
use Rattle.c_semantics.specs.Values.{Number, Reference, Started, Value}
use Rattle.c_semantics.specs.Stops.{Back, Begin, Call, End, Free, InitMutex, Join, Lock, New, Print, ReadElement, ReadField, ReadGlobal, Return, Spawn, Stop, Unlock, Update, WriteElement, WriteField, WriteGlobal}
use Rattle.source_model.specs.Waits.{at_stop}
use Rattle.version_laws.specs.Histories.{last_text}
use Rattle.typed_trees.specs.ValueTypes.{HasType, HaveTypes}
use Rattle.typed_trees.specs.ExpressionTypes.{IsArray, IsInteger, IsVariable}
use Rattle.typed_trees.specs.PieceTypes.{HasField, Stack, StopTyped, Top, field_type}
use Rattle.typed_runs.specs.TypedFrames.{result_in}
use Rattle.typed_runs.proofs.SameUses.{SameUse}
use Rattle.tree_code.specs.Ranges.{AllRanged}
use Rattle.code_runs.specs.SharedStops.{Does, Done, goes}
use Rattle.code_runs.specs.Layouts.{Freshens}
use Rattle.code_run_laws.proofs.AtStop.{AtStop, Comes, comes_as, goes_here, look_of, mutex_number, now_of, tags_at, words_at}
use Rattle.code_run_laws.proofs.Freshened.{freshened}
use Rattle.code_run_laws.proofs.SharedAlike.{IsFresh, IsSameNow, SharedStopsAlike}
use Rattle.code_run_laws.proofs.SharedCreations.{create_alike}
use Rattle.code_run_laws.proofs.SharedGlobals.{read_element_alike, read_global_alike, write_element_alike, write_global_alike}
use Rattle.code_run_laws.proofs.SharedMutexes.{init_alike, lock_alike, unlock_alike}
use Rattle.code_run_laws.proofs.SharedObjects.{read_field_alike, release_alike, write_field_alike}
use Rattle.code_run_laws.proofs.SharedPrints.{print_alike}

module _ (a : AtStop) where
  -- ---- the newest values, by their types

  newest : (Stopped : List Value → Type 0) (P : BareType → Stack → Type 0) (types : Stack) (values : List Value)
      → ((t : BareType) (under : Stack) (v : Value) (rest : List Value) → P t under → HasType (tags_at a) t v → HaveTypes (tags_at a) under rest
      → Stopped (v ∷ rest))
      → Top types P → HaveTypes (tags_at a) types values → Stopped values
  newest Stopped P [] values k p h = absurd p
  newest Stopped P (t ∷ under) [] k p h = absurd h
  newest Stopped P (t ∷ under) (v ∷ rest) k p h = k t under v rest p h.0 h.1

  a_number : (Stopped : Value → Type 0) (t : BareType) (v : Value) → ((n : Int) → Stopped (Number n)) → IsInteger t → HasType (tags_at a) t v → Stopped v
  a_number Stopped (Integer j) (Number n) k is h = k n
  a_number Stopped (Integer j) (Reference o) k is h = absurd h
  a_number Stopped (Integer j) (Started o) k is h = absurd h
  a_number Stopped (Handle tag) v k is h = absurd is
  a_number Stopped Thread v k is h = absurd is

  a_handle : (Stopped : Value → Type 0) (tag : Bytes) (v : Value)
      → ((r : Option ℕ) → HasType (tags_at a) (Handle tag) (Reference r) → Stopped (Reference r)) → HasType (tags_at a) (Handle tag) v → Stopped v
  a_handle Stopped tag (Number n) k h = absurd h
  a_handle Stopped tag (Reference r) k h = k r h
  a_handle Stopped tag (Started o) k h = absurd h

  -- ---- each stop, from values that have words

  -- what a stop comes to where it does this to the words
  abbrev Alike : Stop → List Value → Type 0
  Alike x values =
      (done : Done) → IsFresh a.texts x (words_at a values) a.data_of → AllRanged values → Does a.names (last_text a.texts) a.standing.slot x a.data_of (words_at a values) done → Comes a x values done

  write_global : (name : Bytes) (types : Stack) (values : List Value) → SameUse (look_of a name) (now_of a name) → IsVariable (look_of a name)
      → Top types (λ t under. (t ≡ global_type (look_of a name)) × a.then_are (global_type (look_of a name) ∷ under))
      → HaveTypes (tags_at a) types values → Alike (WriteGlobal name) values
  write_global name types values same is =
      newest (Alike (WriteGlobal name)) _ types values (λ t under v rest p h rest_have done fresh ranged e.
      write_global_alike a name v rest t under done same is p.0 p.1 (h, rest_have) ranged e)

  read_element : (name : Bytes) (types : Stack) (values : List Value) → SameUse (look_of a name) (now_of a name) → IsArray (look_of a name)
      → Top types (λ i under. IsInteger i × a.then_are (global_type (look_of a name) ∷ under))
      → HaveTypes (tags_at a) types values → Alike (ReadElement name) values
  read_element name types values same is =
      newest (Alike (ReadElement name)) _ types values (λ t under v rest p h rest_have.
      a_number (λ u. Alike (ReadElement name) (u ∷ rest)) t v (λ n done fresh ranged e.
      read_element_alike a name n rest under done same is p.1 rest_have ranged e) p.0 h)

  write_element : (name : Bytes) (types : Stack) (values : List Value) → SameUse (look_of a name) (now_of a name) → IsArray (look_of a name)
      → Top types (λ t below. (t ≡ global_type (look_of a name)) × Top below (λ i under. IsInteger i × a.then_are (global_type (look_of a name) ∷ under)))
      → HaveTypes (tags_at a) types values → Alike (WriteElement name) values
  write_element name types values same is =
      newest (Alike (WriteElement name)) _ types values (λ t below v more p h more_have.
      newest (λ vs. Alike (WriteElement name) (v ∷ vs)) _ below more (λ u under w rest q g rest_have.
      a_number (λ x. Alike (WriteElement name) (v ∷ x ∷ rest)) u w (λ n done fresh ranged e.
      write_element_alike a name v n rest t under done same is p.0 q.1 h rest_have ranged e) q.0 g) p.1 more_have)

  read_field : (tag name : Bytes) (types : Stack) (values : List Value) → SameUse (look_of a (struct_name tag)) (now_of a (struct_name tag))
      → HasField (look_of a) tag name → Top types (λ h under. (h ≡ Handle tag) × a.then_are (field_type (look_of a) tag name ∷ under))
      → HaveTypes (tags_at a) types values → Alike (ReadField tag name) values
  read_field tag name types values same field =
      newest (Alike (ReadField tag name)) _ types values (λ t under v rest p h rest_have.
      a_handle (λ u. Alike (ReadField tag name) (u ∷ rest)) tag v (λ r has done fresh ranged e.
      read_field_alike a tag name same field r rest under done fresh has p.1 rest_have ranged.1 e)
      (subst (λ u. HasType (tags_at a) u v) p.0 h))

  write_field : (tag name : Bytes) (types : Stack) (values : List Value) → SameUse (look_of a (struct_name tag)) (now_of a (struct_name tag))
      → HasField (look_of a) tag name
      → Top types (λ t below. (t ≡ field_type (look_of a) tag name) × Top below (λ h under. (h ≡ Handle tag) × a.then_are (field_type (look_of a) tag name ∷ under)))
      → HaveTypes (tags_at a) types values → Alike (WriteField tag name) values
  write_field tag name types values same field =
      newest (Alike (WriteField tag name)) _ types values (λ t below v more p h more_have.
      newest (λ vs. Alike (WriteField tag name) (v ∷ vs)) _ below more (λ u under w rest q g rest_have.
      a_handle (λ x. Alike (WriteField tag name) (v ∷ x ∷ rest)) tag w (λ r has done fresh ranged e.
      write_field_alike a tag name same field v r rest t under done fresh p.0 h has q.1 rest_have ranged e)
      (subst (λ x. HasType (tags_at a) x w) q.0 g)) p.1 more_have)

  release : (tag : Bytes) (types : Stack) (values : List Value) → Top types (λ h under. (h ≡ Handle tag) × a.then_are (int ∷ under))
      → HaveTypes (tags_at a) types values → Alike (Free tag) values
  release tag types values =
      newest (Alike (Free tag)) _ types values (λ t under v rest p h rest_have.
      a_handle (λ u. Alike (Free tag) (u ∷ rest)) tag v (λ r has done fresh ranged e.
      release_alike a tag r rest under done has p.1 rest_have ranged.1 e)
      (subst (λ u. HasType (tags_at a) u v) p.0 h))

  pub stop_alike : (x : Stop) (values : List Value) (types : Stack) (done : Done)
      → StopTyped (look_of a) (result_in a.texts a.standing.frame.version a.standing.frame.function) x types a.then_are
      → HaveTypes (tags_at a) types values → AllRanged values → IsSameNow a.texts a.standing x
      → at_stop x a.standing.world a.standing.slot values ≡ None → IsFresh a.texts x (words_at a values) a.data_of
      → Does a.names (last_text a.texts) a.standing.slot x a.data_of (words_at a values) done → Comes a x values done
  stop_alike (ReadGlobal name) values types done t h r same free fresh e = read_global_alike a name values types done (same name refl) t.0 t.1 h r e
  stop_alike (WriteGlobal name) values types done t h r same free fresh e = write_global name types values (same name refl) t.0 t.1 h done fresh r e
  stop_alike (ReadElement name) values types done t h r same free fresh e = read_element name types values (same name refl) t.0 t.1 h done fresh r e
  stop_alike (WriteElement name) values types done t h r same free fresh e = write_element name types values (same name refl) t.0 t.1 h done fresh r e
  stop_alike (ReadField tag name) values types done t h r same free fresh e = read_field tag name types values (same (struct_name tag) refl) t.0 t.1 h done fresh r e
  stop_alike (WriteField tag name) values types done t h r same free fresh e = write_field tag name types values (same (struct_name tag) refl) t.0 t.1 h done fresh r e
  stop_alike (New tag) values types done t h r same free fresh e = create_alike a tag e.0 e.1.0 values types done ((same (struct_name tag) refl).struct t.0) e.1.1.0 t.1 h r e.1.1.1
  stop_alike (Free tag) values types done t h r same free fresh e = release tag types values t h done fresh r e
  stop_alike (Print format n) values types done t h r same free fresh e = print_alike a format n values types done t h r e
  stop_alike (InitMutex name) values types done t h r same free fresh e = init_alike a name (mutex_number a name t.0) values types t.1 h r done e
  stop_alike (Lock name) values types done t h r same free fresh e = lock_alike a name (mutex_number a name t.0) values types t.1 h r done free e
  stop_alike (Unlock name) values types done t h r same free fresh e = unlock_alike a name (mutex_number a name t.0) values types t.1 h r done e
  stop_alike Back values types done t h r same free fresh e =
      comes_as a Back values done (goes a.data_of (words_at a values)) e (goes_here a Back values values types refl t h r)
  stop_alike Update values types done t h r same free fresh e =
      comes_as a Update values done (goes a.data_of (words_at a values)) e (goes_here a Update values values types refl t h r)
  stop_alike (Spawn name) values types done t h r same free fresh e = absurd e
  stop_alike Join values types done t h r same free fresh e = absurd e
  stop_alike (Call name n) values types done t h r same free fresh e = absurd e
  stop_alike Return values types done t h r same free fresh e = absurd e
  stop_alike Begin values types done t h r same free fresh e = absurd e
  stop_alike End values types done t h r same free fresh e = absurd e

pub shared_stops_alike : SharedStopsAlike
shared_stops_alike texts names s naming objects d fresh x values types then_are stack done ready numbers apart matches typed h r words same free freshens e =
    let before : AtStop = record {
      texts = texts;
      names = names;
      standing = s;
      naming = naming;
      objects = objects;
      data_of = d;
      then_are = then_are;
      ready = ready;
      numbers = numbers;
      matches = matches;
    } in
    let f = freshened before apart x values types fresh typed h same (subst (λ ws. Freshens texts names x ws d fresh) words freshens) in
    stop_alike (record before { objects = f.objects_after; data_of = fresh; matches = f.shared }) x values types done typed h r same free f.fresh
    (subst (λ ws. Does names (last_text texts) s.slot x fresh ws done) words e)

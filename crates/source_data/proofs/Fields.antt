-- Objects and their fields.
use Rattle.std.proofs.Common.{◌≡◌, ℕ, suc, ◌+◌, ◌<◌, true, false, if◌then◌else◌, List, [], ◌∷◌, ◌++◌, length, get_or, take, drop, set, Option, Some, None, bytes_eq, count_by, unwrap_or, refl, sym, ap, ◌∙◌, arith}
use Rattle.std.proofs.lemmas.List.{set_split, drop_more, map-append, map-set}
use Rattle.run_types.specs.declared.trap.TrapKind.{TrapKind}
use Rattle.c_tree.specs.BareExpr.{Bytes}
use Rattle.c_tree.specs.BareDef.{BareDef}
use Rattle.c_semantics.specs.Evaluation.{in_scope, with_value}
use Rattle.c_semantics.specs.Stops.{ReadField, WriteField, New}
use Rattle.c_semantics.specs.Names.{struct_name}
use Rattle.c_semantics.specs.Texts.{definition, members_of}
use Rattle.c_semantics.specs.Transformers.{zero_fields}
use Rattle.c_semantics.specs.Values.{Value as Seen, Reference, int_of}
use Rattle.source_model.specs.Worlds.{World}
use Rattle.source_model.specs.Worlds as world
use Rattle.source_model.specs.Moves.{Standing, goes_on, traps, on_object, with_object, read_field, write_field, release, new_object}
use Rattle.local_evaluation.specs.declared.value.ObjectId.{ObjectId}
use Rattle.local_evaluation.specs.declared.value.Value.{Value}
use Rattle.local_evaluation.specs.declared.value.Value.TheVariants.{Number, Reference as ReferenceIs, Started}
use Rattle.source_data.specs.declared.store.Field.{Field}
use Rattle.source_data.specs.declared.store.Object.{Object}
use Rattle.source_data.specs.declared.store.Store.{Store}
use Rattle.source_data.specs.declared.shared_stops.Did.TheVariants.{On, Trap, Nothing}
use Rattle.resolved_tree.specs.Nodes.{Table, word}
use Rattle.local_evaluation.specs.Values.{seen, seen_object}
use Rattle.source_data.specs.Stores.{Performs, standing_with, with_store, field_of, fields_of, object_of, objects_of}
use Rattle.local_evaluation.specs.Work.{newest}
use Rattle.source_data.proofs.Performing.{goes, other_number}

-- the first field of a name changed
pub field_changed : (t : Table) (fs : List Field) (i : ℕ) (d : Field) (name : Bytes) (value : Value) → i < length fs
    → bytes_eq name (word t (get_or fs i d).name) ≡ true
    → fields_of t (set fs i (record { name = (get_or fs i d).name; value = value }))
    ≡ fields_of t (take i fs) ++ with_value name (seen value) (fields_of t (drop i fs))
field_changed t fs i d name value within same =
    let g = get_or fs i d in
    let x : Field = record { name = g.name; value = value } in
    let n : i + 1 ≡ suc i = omega arith in
    let changed : with_value name (seen value) (fields_of t (drop i fs)) ≡ field_of t x ∷ fields_of t (drop (suc i) fs) =
    ap (λ l. with_value name (seen value) (fields_of t l)) (drop_more fs i d within)
    ∙ ap (λ b. if b then field_of t x ∷ fields_of t (drop (i + 1) fs) else field_of t g ∷ with_value name (seen value) (fields_of t (drop (i + 1) fs))) same
    ∙ ap (λ k. field_of t x ∷ fields_of t (drop k fs)) n
    in
    ap (fields_of t) (set_split fs i x within)
    ∙ map-append (field_of t) (take i fs) (x ∷ drop (suc i) fs)
    ∙ ap (λ l. fields_of t (take i fs) ++ l) (sym changed)

-- one of the items where there are some
pub an_item : {X : Type 0} (xs : List X) (n : ℕ) → n < length xs → X
an_item (x ∷ xs) n within = x
an_item [] n within = absurd (omega (arith, within))

-- an object changed
pub object_changed : (t : Table) (w : World) (list : List Object) (n : ℕ) (new : Object) (x : world.Object)
    → w.objects ≡ objects_of t list → object_of t new ≡ x
    → with_object n x w ≡ record w { objects = objects_of t (set list n new) }
object_changed t w list n new x is same =
    ap (λ os. record w { objects = set os n x }) is
    ∙ ap (λ o. record w { objects = set (objects_of t list) n o }) (sym same)
    ∙ ap (λ os. record w { objects = os }) (sym (map-set (object_of t) list n new))

-- a handle that isn't null is that of an object
pub releases : (s : Standing) (handle : Option ObjectId) (x : ObjectId) (rest : List Seen) → handle ≡ Some x
    → release s (Reference (seen_object handle) ∷ rest)
    ≡ on_object s (seen_object handle) (λ n o. goes_on s (with_object n (record o { live = false }) s.world) (int_of 0 ∷ rest))
releases s None x rest h = cc
releases s (Some y) x rest h = refl

-- ---- the stops

pub reads_field : (t : Table) (text : List BareDef) (slot : ℕ) (store : Store) (tag name : Bytes) (values after : List Value)
    (r : Option ℕ) (v : Seen) (rest : List Seen)
    → newest values ≡ Reference r ∷ rest
    → ((s : Standing) → on_object (standing_with t store s) r (λ n o. goes_on (standing_with t store s) (with_store t store s.world) (unwrap_or (in_scope o.fields name) (int_of 0) ∷ rest))
    ≡ goes_on (standing_with t store s) (with_store t store s.world) (v ∷ rest))
    → newest after ≡ v ∷ rest
    → Performs t text slot (ReadField tag name) store values On store after
reads_field t text slot store tag name values after r v rest is reads left =
    goes t text slot (ReadField tag name) store store values after (λ w. w) (v ∷ rest)
    (λ s at defined. ap (read_field (standing_with t store s) name) is ∙ reads s)
    (λ w defined. refl) left

-- a field of an object changed
abbrev pub with_field : ℕ → Bytes → Seen → world.Object → World → World
with_field n name v o w = with_object n (record o { fields = with_value name v o.fields }) w

pub writes_field : (t : Table) (text : List BareDef) (slot : ℕ) (old new : Store) (tag name : Bytes) (values after : List Value)
    (r : Option ℕ) (v : Seen) (rest : List Seen) (change : World → World)
    → newest values ≡ v ∷ Reference r ∷ rest
    → ((s : Standing) → on_object (standing_with t old s) r (λ n o. goes_on (standing_with t old s) (with_field n name v o (with_store t old s.world)) (v ∷ rest))
    ≡ goes_on (standing_with t old s) (change (with_store t old s.world)) (v ∷ rest))
    → ((w : World) → with_store t new w ≡ change (with_store t old w))
    → newest after ≡ v ∷ rest
    → Performs t text slot (WriteField tag name) old values On new after
writes_field t text slot old new tag name values after r v rest change is writes changed left =
    goes t text slot (WriteField tag name) old new values after change (v ∷ rest)
    (λ s at defined. ap (write_field (standing_with t old s) name) is ∙ writes s)
    (λ w defined. changed w) left

pub write_traps : (t : Table) (text : List BareDef) (slot : ℕ) (store : Store) (tag name : Bytes) (values : List Value)
    (r : Option ℕ) (v : Seen) (rest : List Seen) (kind : TrapKind)
    → newest values ≡ v ∷ Reference r ∷ rest
    → ((s : Standing) → on_object (standing_with t store s) r (λ n o. goes_on (standing_with t store s) (with_field n name v o (with_store t store s.world)) (v ∷ rest))
    ≡ traps (standing_with t store s) kind)
    → Performs t text slot (WriteField tag name) store values (Trap kind) store values
write_traps t text slot store tag name values r v rest kind is fails = λ s at defined.
    ap (write_field (standing_with t store s) name) is ∙ fails s

-- where the value under the newest one is no handle
pub write_nothing : (t : Table) (text : List BareDef) (slot : ℕ) (store : Store) (tag name : Bytes) (values : List Value)
    (under : Value) (v : Seen) (rest : List Seen)
    → newest values ≡ v ∷ seen under ∷ rest → ((r : Option ObjectId) → under ≡ ReferenceIs r → ⊥)
    → Performs t text slot (WriteField tag name) store values Nothing store values
write_nothing t text slot store tag name values (ReferenceIs r) v rest is other = λ s at defined. absurd (other r refl)
write_nothing t text slot store tag name values (Number i) v rest is other = λ s at defined. ap (write_field (standing_with t store s) name) is
write_nothing t text slot store tag name values (Started r) v rest is other = λ s at defined. ap (write_field (standing_with t store s) name) is

-- the object that is made of a struct of a text
abbrev pub made_object : List BareDef → Bytes → world.Object
made_object text tag = record { tag = tag; fields = zero_fields (members_of (definition text (struct_name tag))); live = true }

pub allocates : (t : Table) (text : List BareDef) (slot : ℕ) (old new : Store) (tag : Bytes) (values after : List Value)
    → (count_by (λ o. o.live) (objects_of t old.objects.all.items) ≡ old.capacity → ⊥)
    → objects_of t new.objects.all.items ≡ objects_of t old.objects.all.items ++ made_object text tag ∷ []
    → ((w : World) → with_store t new w ≡ record (with_store t old w) { objects = objects_of t new.objects.all.items })
    → newest after ≡ Reference (Some (length (objects_of t old.objects.all.items))) ∷ newest values
    → Performs t text slot (New tag) old values On new after
allocates t text slot old new tag values after room added changed left =
    let os = objects_of t old.objects.all.items in
    let more = Reference (Some (length os)) ∷ newest values in
    goes t text slot (New tag) old new values after (λ w. record w { objects = os ++ made_object text tag ∷ [] }) more
    (λ s at defined.
    let st = standing_with t old s in
    let w = with_store t old s.world in
    ap (λ b. if b then goes_on st w (Reference None ∷ newest values) else goes_on st (record w { objects = os ++ new_object w tag ∷ [] }) more)
    (other_number (count_by (λ o. o.live) os) old.capacity room)
    ∙ ap (λ ms. goes_on st (record w { objects = os ++ record { tag = tag; fields = zero_fields ms; live = true } ∷ [] }) more) (defined tag))
    (λ w defined. changed w ∙ ap (λ l. record (with_store t old w) { objects = l }) added)
    left

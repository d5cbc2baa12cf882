-- What a patch brings, by the texts of the versions.
use Rattle.std.proofs.Common.{◌≡◌, ℕ, suc, ◌+◌, add-one, Bool, true, false, not, ◌||◌, List, [], ◌∷◌, ◌++◌, All, filter, map, Contains, refl, sym, ap, subst, ◌∙◌, bytes_eq}
use Rattle.std.proofs.lemmas.List.Elements.{All-nil, All-cons, All-filter, Contains-append_left}
use Rattle.name_sets.specs.NameLists.{is_among, name_set}
use Rattle.name_sets.specs.Texts.{IsTable}
use Rattle.c_tree.specs.BareExpr.{Bytes}
use Rattle.c_tree.specs.BareDef.{BareDef}
use Rattle.c_tree.specs.Bare.{bare_def}
use Rattle.c_tree.specs.declared.def.Program.{Program}
use Rattle.c_semantics.specs.Changes.{agree, changed, interface, same_definition, same_interface}
use Rattle.c_semantics.specs.Texts.{definition, names}
use Rattle.c_semantics.specs.SourceTexts.{Text, text_of}
use Rattle.c_semantics.specs.Store.{brought_bodies, store}
use Rattle.source_model.specs.Patches.{is_full, all_names, last_definitions}
use Rattle.sorted_names.proofs.Order.{among_set, first_among}
use Rattle.code_store.specs.declared.body.StoredBody.{StoredBody}
use Rattle.code_store.specs.Limits.{are_too_many}
use Rattle.code_store.specs.Stored.{meant_body, IsNamed, IsNewTo, AreDistinct, IsStoreOf}
use Rattle.code_store.proofs.StoredBodies.{store_with_names}
use Rattle.brought_bodies.specs.Sets.{IsSetOf}
use Rattle.patch_build.specs.declared.patch.Versions.{Versions}
use Rattle.patch_build.specs.Versions.{AreVersions, IsTableOf, Extends}
use Rattle.patch_build.proofs.Tables.{among, among_with_texts, found, among_all, extends_with_texts, table_of_all}
use Rattle.patch_build.proofs.Stores.{bodies_are_new, store_with_bodies}
use Rattle.patch_build.proofs.Causes.{last_is, all_of}

-- what holds of each name of a list holds of its items
all_from : (F : Bytes → Type 0) (ns : List Bytes) → ((z : Bytes) → is_among ns z ≡ true → F z) → All F ns
all_from F [] h = All-nil F
all_from F (n ∷ ns) h = All-cons F n ns (h n (first_among n ns)) (all_from F ns (λ z e. h z (later (bytes_eq z n) (is_among ns z) e)))
  where
    later : (b c : Bool) → c ≡ true → (b || c) ≡ true
    later true c e = refl
    later false c e = e

or_right : (a b : Bool) → b ≡ true → (a || b) ≡ true
or_right true b e = refl
or_right false b e = e

-- old names keep their ids
pub keeps_ids : (v : Versions) (new : Program) (table : List Bytes) → table ≡ all_of v new → Extends v.names.now table
keeps_ids v new table is =
    subst (Extends v.names.now) (sym is) (extends_with_texts v.names.now (name_set (names (map bare_def new.definitions))))

-- the table has the names of the text
pub has_own : (v : Versions) (new : Program) (table : List Bytes) → table ≡ all_of v new
    → (name : Bytes) → Contains (names (map bare_def new.definitions)) name → Contains table name
has_own v new table is name there =
    let own = names (map bare_def new.definitions) in
    let in_own : is_among (name_set own) name ≡ true = among_set name own ∙ among own name there in
    let in_all : is_among (all_of v new) name ≡ true =
    among_with_texts v.names.now (name_set own) name ∙ or_right (is_among v.names.now name) (is_among (name_set own) name) in_own
    in
    subst (λ ns. Contains ns name) (sym is) (found (all_of v new) name in_all)

module _ (texts : List Text) (v : Versions) (new : Program) (are : AreVersions texts v) where
  abbrev P : List BareDef
  P = map bare_def v.last.now.definitions

  abbrev all : List Bytes
  all = all_of v new

  -- the names of the last version are in the table
  known : (z : Bytes) → is_among (name_set (names P)) z ≡ true → Contains all z
  known z e =
      let last : is_among (names P) z ≡ true = sym (among_set z (names P)) ∙ e in
      let there : is_among (all_names texts) z ≡ true =
      ap (λ ts. is_among (all_names ts) z) are.last_is ∙ among_all are.before (text_of v.last.now) z
      ∙ or_right (is_among (all_names are.before) z) (is_among (names P) z) last in
      let extends = extends_with_texts v.names.now (name_set (names (map bare_def new.definitions))) in
      subst (λ ns. Contains ns z) (sym extends.is)
      (Contains-append_left v.names.now extends.more z ((are.names_are.members z).1 (found (all_names texts) z there)))

  all_known : (test : Bytes → Bool) → All (Contains all) (filter test (name_set (names P)))
  all_known test = All-filter test (Contains all) (name_set (names P)) (all_from (Contains all) (name_set (names P)) known)

  -- so the ids of those that change are ids of them
  pub changed_ids : (table list : List Bytes) (set : ℕ) → table ≡ all → IsTable table → list ≡ changed P (map bare_def new.definitions)
      → (IsTable table → All (Contains table) list → IsSetOf table set list)
      → IsSetOf table set (changed P (map bare_def new.definitions))
  changed_ids table list set is t e ids =
      let q = map bare_def new.definitions in
      subst (IsSetOf table set) e
      (ids t (subst (All (Contains table)) (sym e)
      (subst (λ t. All (Contains t) (changed P q)) (sym is) (all_known (λ z. not (agree same_definition (definition P z) (definition q z)))))))

  pub interface_ids : (table list : List Bytes) (set : ℕ) → table ≡ all → IsTable table → list ≡ interface P (map bare_def new.definitions)
      → (IsTable table → All (Contains table) list → IsSetOf table set list)
      → IsSetOf table set (interface P (map bare_def new.definitions))
  interface_ids table list set is t e ids =
      let q = map bare_def new.definitions in
      subst (IsSetOf table set) e
      (ids t (subst (All (Contains table)) (sym e)
      (subst (λ t. All (Contains t) (interface P q)) (sym is) (all_known (λ z. not (agree same_interface (definition P z) (definition q z)))))))

  -- the new bodies are those of the text
  pub bodies_mean : (table changed_list interface_list : List Bytes) (changed_set interface_set : ℕ) (bodies : List StoredBody)
      → table ≡ all → IsTable table
      → changed_list ≡ changed P (map bare_def new.definitions)
      → (IsTable table → All (Contains table) changed_list → IsSetOf table changed_set changed_list)
      → interface_list ≡ interface P (map bare_def new.definitions)
      → (IsTable table → All (Contains table) interface_list → IsSetOf table interface_set interface_list)
      → (IsSetOf table changed_set (changed P (map bare_def new.definitions))
      → IsSetOf table interface_set (interface P (map bare_def new.definitions))
      → map (meant_body table) bodies ≡ brought_bodies (v.count + 1) P (text_of new))
      → map (meant_body table) bodies ≡ brought_bodies (suc v.count) P (text_of new)
  bodies_mean table changed_list interface_list changed_set interface_set bodies is t ec ids_c ei ids_i mean =
      mean (changed_ids table changed_list changed_set is t ec ids_c) (interface_ids table interface_list interface_set is t ei ids_i)
      ∙ ap (λ n. brought_bodies n P (text_of new)) (add-one v.count)

  -- the store so far, by the new table
  pub store_so_far : (table : List Bytes) → table ≡ all → IsTable table → IsStoreOf table (store texts) v.store.now
  store_so_far table is t =
      let extends = extends_with_texts v.names.now (name_set (names (map bare_def new.definitions))) in
      let more : table ≡ v.names.now ++ extends.more = is ∙ extends.is in
      subst (λ ns. IsStoreOf ns (store texts) v.store.now) (sym more)
      (store_with_names v.names.now extends.more (store texts) v.store.now are.store_is (subst IsTable more t))

  -- whether all bodies are too many
  pub full_is : (table : List Bytes) (bodies : List StoredBody) (r : Bool) → table ≡ all → IsTable table
      → map (meant_body table) bodies ≡ brought_bodies (suc v.count) P (text_of new)
      → r ≡ not (are_too_many (map (meant_body table) v.store.now ++ map (meant_body table) bodies))
      → r ≡ not (is_full (store texts ++ brought_bodies (suc v.count) P (text_of new)))
  full_is table bodies r is t meaning room =
      room
      ∙ ap (λ bs. not (is_full (bs ++ map (meant_body table) bodies))) (store_so_far table is t).meaning
      ∙ ap (λ bs. not (is_full (store texts ++ bs))) meaning

  -- the sets and the bodies by the definitions of the last of the texts
  pub changed_are : (table : List Bytes) (set : ℕ) → IsSetOf table set (changed P (map bare_def new.definitions))
      → IsSetOf table set (changed (last_definitions texts) (map bare_def new.definitions))
  changed_are table set h = subst (λ p. IsSetOf table set (changed p (map bare_def new.definitions))) (sym (last_is texts v are)) h

  pub interface_are : (table : List Bytes) (set : ℕ) → IsSetOf table set (interface P (map bare_def new.definitions))
      → IsSetOf table set (interface (last_definitions texts) (map bare_def new.definitions))
  interface_are table set h = subst (λ p. IsSetOf table set (interface p (map bare_def new.definitions))) (sym (last_is texts v are)) h

  pub bodies_are : (table : List Bytes) (bodies : List StoredBody)
      → map (meant_body table) bodies ≡ brought_bodies (suc v.count) P (text_of new)
      → map (meant_body table) bodies ≡ brought_bodies (suc v.count) (last_definitions texts) (text_of new)
  bodies_are table bodies meaning = meaning ∙ ap (λ p. brought_bodies (suc v.count) p (text_of new)) (sym (last_is texts v are))

  -- they are new to the store so far
  pub each_is_new : (bodies : List StoredBody) → All (λ b. b.generation ≡ v.count + 1) bodies
      → All (λ b. IsNewTo v.store.now b.function b.generation) bodies
  each_is_new bodies at =
      bodies_are_new v.names.now texts v.store.now bodies are.store_is
      (subst (λ n. All (λ b. b.generation ≡ n) bodies) (add-one v.count ∙ ap suc (sym are.count_is)) at)

  -- the store with them
  pub store_with : (table : List Bytes) (bodies : List StoredBody) → table ≡ all → IsTable table
      → map (meant_body table) bodies ≡ brought_bodies (suc v.count) P (text_of new)
      → All (IsNamed table) bodies → All (λ b. b.generation ≡ v.count + 1) bodies → AreDistinct bodies
      → IsStoreOf table (store (texts ++ text_of new ∷ [])) (v.store.now ++ bodies)
  store_with table bodies is t meaning named at distinct =
      store_with_bodies table texts (text_of new) v.store.now bodies (store_so_far table is t)
      (bodies_are table bodies meaning ∙ ap (λ n. brought_bodies (suc n) (last_definitions texts) (text_of new)) (sym are.count_is))
      named (subst (λ n. All (λ b. b.generation ≡ n) bodies) (add-one v.count ∙ ap suc (sym are.count_is)) at) distinct

  -- the names of all
  pub names_are : (table : List Bytes) → table ≡ all → IsTable table → IsTableOf (all_names (texts ++ text_of new ∷ [])) table
  names_are table is t =
      subst (IsTableOf (all_names (texts ++ text_of new ∷ []))) (sym is)
      (table_of_all texts (text_of new) v.names.now are.names_are (subst IsTable is t))

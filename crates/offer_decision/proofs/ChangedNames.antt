-- The names that change, by the table of the versions before the change.
use Rattle.std.proofs.Common.{◌≡◌, ℕ, ◌+◌, ◌<◌, Bool, true, false, not, ◌||◌, List, [], ◌∷◌, All, Contains, Some, length, refl, sym, ap, subst, ◌∙◌, arith, bytes_eq, length-append}
use Rattle.std.specs.Prelude.{slice_get}
use Rattle.std.proofs.lemmas.List.{get_or_append_left}
use Rattle.std.proofs.lemmas.List.Elements.{All-nil, All-cons, All-filter, All-contains}
use Rattle.std.proofs.lemmas.Option.{slice_get-get_or, slice_get_within, get_or_from_slice_get}
use Rattle.name_sets.specs.NameLists.{is_among, name_set}
use Rattle.name_sets.specs.Texts.{text_of}
use Rattle.c_tree.specs.BareExpr.{Bytes}
use Rattle.c_tree.specs.BareDef.{BareDef}
use Rattle.c_semantics.specs.Changes.{agree, changed, interface, same_definition, same_interface}
use Rattle.c_semantics.specs.SourceTexts.{Text}
use Rattle.c_semantics.specs.SourceTexts as source
use Rattle.c_semantics.specs.Texts.{definition, names}
use Rattle.con_freeness.specs.Decisions.{IsListOf}
use Rattle.con_freeness.specs.Rows.{Names}
use Rattle.source_model.specs.Patches.{all_names, last_definitions}
use Rattle.sorted_names.proofs.Order.{among_set, first_among}
use Rattle.brought_bodies.specs.Sets.{IsSetOf}
use Rattle.patch_build.specs.declared.patch.Versions.{Versions}
use Rattle.patch_build.specs.Versions.{AreVersions, Extends}
use Rattle.patch_build.proofs.Tables.{among, found, among_all}
use Rattle.patch_build.proofs.Stores.{last_definitions_are}

all_from : (F : Bytes → Type 0) (ns : Names) → ((z : Bytes) → is_among ns z ≡ true → F z) → All F ns
all_from F [] h = All-nil F
all_from F (n ∷ ns) h = All-cons F n ns (h n (first_among n ns)) (all_from F ns (λ z e. h z (later (bytes_eq z n) (is_among ns z) e)))
  where
    later : (b c : Bool) → c ≡ true → (b || c) ≡ true
    later true c e = refl
    later false c e = e

or_right : (a b : Bool) → b ≡ true → (a || b) ≡ true
or_right true b e = refl
or_right false b e = e

-- ---- the names of the last version are in the table

known : (texts : List Text) (v : Versions) (z : Bytes) → AreVersions texts v → is_among (name_set (names (last_definitions texts))) z ≡ true
    → Contains v.names.now z
known texts v z are e =
    let q = source.text_of v.last.now in
    let last : last_definitions texts ≡ q.definitions = ap last_definitions are.last_is ∙ last_definitions_are are.before q in
    let own : is_among (names q.definitions) z ≡ true =
    ap (λ ds. is_among (names ds) z) (sym last) ∙ sym (among_set z (names (last_definitions texts))) ∙ e in
    let there : is_among (all_names texts) z ≡ true =
    ap (λ ts. is_among (all_names ts) z) are.last_is ∙ among_all are.before q z
    ∙ or_right (is_among (all_names are.before) z) (is_among (names q.definitions) z) own in
    (are.names_are.members z).1 (found (all_names texts) z there)

pub changed_known : (texts : List Text) (v : Versions) (q : List BareDef) → AreVersions texts v
    → All (Contains v.names.now) (changed (last_definitions texts) q)
changed_known texts v q are =
    let p = last_definitions texts in
    All-filter (λ z. not (agree same_definition (definition p z) (definition q z))) (Contains v.names.now) (name_set (names p))
    (all_from (Contains v.names.now) (name_set (names p)) (λ z. known texts v z are))

pub interface_known : (texts : List Text) (v : Versions) (q : List BareDef) → AreVersions texts v
    → All (Contains v.names.now) (interface (last_definitions texts) q)
interface_known texts v q are =
    let p = last_definitions texts in
    All-filter (λ z. not (agree same_interface (definition p z) (definition q z))) (Contains v.names.now) (name_set (names p))
    (all_from (Contains v.names.now) (name_set (names p)) (λ z. known texts v z are))

-- ---- a set of names by a table, where a larger table has its ids

pub list_by_older : (old new : List Bytes) (set : ℕ) (list : Names) → Extends old new → All (Contains old) list → IsSetOf new set list
    → IsListOf old set list
list_by_older old new set list extends all is = record {
  same = λ z. (
    λ e.
        let there : Contains list z = found list z e in
        let own : Contains old z = All-contains (Contains old) list z all there in
        let at : slice_get old own.0 ≡ Some z = slice_get-get_or old own.0 z own.1 ∙ ap Some own.2 in
        (own.0, at, (is.members own.0 (longer own.0 own.1)).1 (subst (Contains list) (sym (text own.0 z at)) there)),
    λ c.
        let l = slice_get_within old c.0 z c.1 in
        among list z (subst (Contains list) (text c.0 z c.1) ((is.members c.0 (longer c.0 l)).0 c.2)),
  );
}
  where
    longer : (id : ℕ) → id < length old → id < length new
    longer id l =
        let n : length new ≡ length old + length extends.more = ap length extends.is ∙ length-append old extends.more in
        omega (arith, n, l)

    text : (id : ℕ) (z : Bytes) → slice_get old id ≡ Some z → text_of new id ≡ z
    text id z at =
        ap (λ ns. text_of ns id) extends.is ∙ get_or_append_left old extends.more [] id (slice_get_within old id z at)
        ∙ get_or_from_slice_get old id z [] at

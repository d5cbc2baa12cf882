-- The first version: the names of a text that follows no other, for which a table has room, and why a text has none.
use Rattle.std.proofs.Common.{◌≡◌, ◌<◌, ◌≤◌, Bool, true, false, not, List, [], ◌∷◌, Contains, map, length, refl, ap, sym, subst, ◌∙◌, arith}
use Rattle.std.proofs.lemmas.Bool.{false≢true}
use Rattle.std.proofs.lemmas.List.{append-nil}
use Rattle.std.proofs.lemmas.Option.{slice_get_within}
use Rattle.name_sets.specs.Limit.{most_names}
use Rattle.name_sets.specs.NameLists.{name_set}
use Rattle.name_sets.specs.Texts.{IsTable}
use Rattle.c_tree.specs.Bare.{bare_def}
use Rattle.c_tree.specs.BareExpr.{Bytes}
use Rattle.c_tree.specs.declared.def.Program.{Program}
use Rattle.c_types.specs.Definitions.{Types}
use Rattle.c_semantics.specs.Texts.{names}
use Rattle.c_semantics.specs.SourceTexts.{Text, text_of}
use Rattle.c_semantics.specs.Store.{Body, brought_bodies}
use Rattle.source_model.specs.Patches.{all_names}
use Rattle.code_store.specs.Limits.{are_too_many}
use Rattle.sorted_names.proofs.Order.{among_set}
use Rattle.patch_build.specs.Tables.{with_texts}
use Rattle.patch_build.specs.Versions.{IsTableOf}
use Rattle.accepted_bodies.proofs.DefinedUses.{accepted_texts_have_none}
use Rattle.accepted_bodies.proofs.RoomForBodies.{program_has_room}
use Rattle.brought_bodies.specs.Unknown.{HasUnknownFunction}
use Rattle.brought_bodies.specs.declared.fault.BodyFault.{BodyFault}
use Rattle.brought_bodies.specs.declared.fault.BodyFault.TheVariants as body
use Rattle.brought_bodies.proofs.FewNames.{few_names}
use Rattle.brought_bodies.proofs.NamesUsed.{among_decides}
use Rattle.brought_bodies.proofs.Undefined.{undefined_use}
use Rattle.patch_build.proofs.Tables.{number_of_all, table_of_all}
use Rattle.installed_versions.specs.declared.fault.FirstFault.{FirstFault}
use Rattle.installed_versions.specs.declared.fault.FirstFault.TheVariants.{UndefinedName, StoreFull, Memory}
use Rattle.installed_versions.specs.Firsts.{AcceptedProgramsStart, HasTooMany, IsFirstFault, IsStoreFault, fault_of}

no_texts : IsTable []
no_texts = record {
  few = omega arith;
  distinct = λ a b text one other. let within : a < 0 = slice_get_within [] a text one in absurd (omega arith);
}

no_names : IsTableOf (all_names []) []
no_names = record { table_is = no_texts; members = λ name. ((λ there. there), (λ there. there)) }

-- the names of the text, each once, are a table of all names
pub table_of_first : (q : Text) (table : List Bytes) → table ≡ with_texts [] (name_set (names q.definitions)) → IsTable table
    → IsTableOf (all_names (q ∷ [])) table
table_of_first q table is t =
    subst (IsTableOf (all_names (q ∷ []))) (sym is) (table_of_all [] q [] no_names (subst IsTable is t))

-- they are few, since the text's types are right
pub few_first : (p : Program) → Types p → length (with_texts [] (name_set (names (map bare_def p.definitions)))) ≤ most_names
few_first p types =
    let q = text_of p in
    let same = number_of_all [] q [] no_names in
    let all : length (all_names (q ∷ [])) ≡ length (name_set (names q.definitions)) =
    ap (λ ns. length (name_set ns)) (append-nil (names q.definitions))
    in
    let few = few_names p types in
    omega (arith, same, all, few)

-- ---- why a text has no first version

pub bodies_fault : (table : List Bytes) (p : Program) (fault : BodyFault)
    → (fault ≡ body.Unknown → HasUnknownFunction table (map bare_def p.definitions)) → IsStoreFault table p (fault_of fault)
bodies_fault table p body.Unknown unknown = unknown refl
bodies_fault table p body.Memory unknown = tt

true_where_not : (b : Bool) → not b ≡ false → b ≡ true
true_where_not true e = refl
true_where_not false e = cc

pub too_many : (p : Program) (bodies : List Body) (room : Bool) → room ≡ not (are_too_many bodies) → room ≡ false
    → bodies ≡ brought_bodies 1 [] (text_of p) → HasTooMany p
too_many p bodies room is none same =
    ap are_too_many (append-nil (brought_bodies 1 [] (text_of p)) ∙ sym same) ∙ true_where_not (are_too_many bodies) (sym is ∙ none)

-- the text's own names are among all
pub own_name : (q : Text) (name : Bytes) → Contains (names q.definitions) name → Contains (all_names (q ∷ [])) name
own_name q name there =
    let own = names q.definitions in
    subst (λ ns. Contains (name_set ns) name) (sym (append-nil own))
    ((among_decides (name_set own) name).0 (among_set name own ∙ (among_decides own name).1 there))

pub first_fault : (table : List Bytes) (p : Program) (fault : FirstFault) → IsTableOf (all_names (text_of p ∷ [])) table
    → IsStoreFault table p fault → IsFirstFault p fault
first_fault table p UndefinedName t unknown =
    undefined_use table (map bare_def p.definitions) (λ name there. (t.members name).1 (own_name (text_of p) name there)) unknown
first_fault table p StoreFull t many = many
first_fault table p Memory t lack = tt

pub accepted_programs_start : AcceptedProgramsStart
accepted_programs_start bytes p a UndefinedName undefined =
    absurd (accepted_texts_have_none (text_of p) (record { bytes = bytes; accepted = a; is = refl }) undefined)
accepted_programs_start bytes p a StoreFull many = absurd (false≢true (sym (program_has_room p bytes a) ∙ many))
accepted_programs_start bytes p a Memory lack = refl

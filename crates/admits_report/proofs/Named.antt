-- Sets of ids as lists of names: those of a row, and those that change.
use Rattle.std.proofs.Common.{◌≡◌, ℕ, ◌+◌, ◌<◌, not, List, [], ◌∷◌, ◌++◌, All, Contains, Some, length, refl, sym, ap, subst, ◌∙◌, arith, append-nil, length-append}
use Rattle.std.specs.Prelude.{slice_get, filter}
use Rattle.std.proofs.lemmas.List.{get_or_append_left}
use Rattle.std.proofs.lemmas.List.Elements.{All-filter, All-contains, All-contains_itself, All-weaker}
use Rattle.std.proofs.lemmas.Option.{same_Some, slice_get-get_or, slice_get_within, get_or_from_slice_get}
use Rattle.name_sets.specs.IdSet.{Holds}
use Rattle.name_sets.specs.NameLists.{is_among, name_set}
use Rattle.name_sets.specs.Texts.{text_of}
use Rattle.c_tree.specs.BareExpr.{Bytes}
use Rattle.c_tree.specs.BareDef.{BareDef}
use Rattle.c_semantics.specs.Changes.{agree, changed, interface, same_definition, same_interface}
use Rattle.c_semantics.specs.SourceTexts.{Text}
use Rattle.c_semantics.specs.Store.{Body, Mark}
use Rattle.c_semantics.specs.Texts.{definition}
use Rattle.c_semantics.specs.Texts.{names as names_of}
use Rattle.con_freeness.specs.declared.row.Row.{Row as RowOfIds}
use Rattle.con_freeness.specs.declared.refusal.Effect.{Effect as EffectOfIds}
use Rattle.std.specs.declared.option.Option.{Option}
use Rattle.std.specs.Prelude.{false}
use Rattle.con_freeness.specs.Decisions.{IsListOf, IsRowOf}
use Rattle.con_freeness.specs.Obstacles.{IsObstacle}
use Rattle.con_freeness.specs.Rows.{Names, Row}
use Rattle.effects.specs.Rows.{IsSet, InPrior, InFuture, InConcrete}
use Rattle.effects.specs.Rows as effects
use Rattle.effects.proofs.RowsExist.{each_has_a_row}
use Rattle.source_model.specs.Patches.{all_names}
use Rattle.contextual_effects.specs.Effects.{HasNames}
use Rattle.checkin_rows.specs.Rows.{IsRow}
use Rattle.brought_bodies.specs.Sets.{IsSetOf}
use Rattle.patch_build.specs.Versions.{IsTableOf, Extends}
use Rattle.patch_build.proofs.Tables.{among, found}
use Rattle.admits_report.specs.declared.admission.Admission.{Admission}
use Rattle.admits_report.specs.AdmitsText.{IsAnswer}
use Rattle.admits_report.specs.Answered.{IsAdmissionOver}
use Rattle.admits_report.specs.Known.{IsKnownPart}
use Rattle.admits_report.specs.Shown.{answer_shown}

-- ---- the sets of a row

list_of_family : (names : List Bytes) (set : ℕ) (list : Names) (In : Bytes → Type 0)
    → HasNames names set In → IsSet list In → IsListOf names set list
list_of_family names set list In has is = record {
  same = λ z. (
    λ e. has.all z ((is.same z).0 e),
    λ c. let own = has.only c.0 c.2 in (is.same z).1 (subst {A = Bytes} In (same_Some own.0 z (sym own.1 ∙ c.1)) own.2),
  );
}

row_has : (names : List Bytes) (bodies : List Body) (mark : Mark) (row : RowOfIds) (texts : Row)
    → IsRow names bodies mark row → effects.IsRowOf bodies mark texts → IsRowOf names row texts
row_has names bodies mark row texts ids is = record {
  prior = list_of_family names row.prior texts.prior (InPrior bodies mark) ids.prior is.prior;
  future = list_of_family names row.future texts.future (InFuture bodies mark) ids.future is.future;
  concrete = list_of_family names row.concrete texts.concrete (InConcrete bodies mark) ids.concrete is.concrete;
}

-- an answer by the row of ids of a mark is the answer of the mark's row
pub answer_is : (a : Admission) (bodies : List Body) (changed interface : Names) (mark : Mark) (row : RowOfIds) (answer : Option EffectOfIds)
    → IsAdmissionOver bodies changed interface a → IsRow a.names.now bodies mark row
    → IsObstacle a.names.now row false a.changed a.interface answer
    → IsAnswer bodies changed interface mark (answer_shown a.names.now answer)
answer_is a bodies changed interface mark row answer over is says =
    let own = each_has_a_row bodies mark in
    record {
      row = own.0;
      row_is = own.1;
      answer_is = says own.0 changed interface over.table (row_has a.names.now bodies mark row own.0 is own.1) over.changed_is over.interface_is;
    }

-- ---- the ids of a set that a table has

pub list_of_part : (names : List Bytes) (set ids : ℕ) (list : Names) → IsKnownPart names set ids → IsListOf names set list
    → IsListOf names ids list
list_of_part names set ids list part is = record {
  same = λ z. (
    λ e. let c = (is.same z).0 e in (c.0, c.1, (part c.0).1 (c.2, slice_get_within names c.0 z c.1)),
    λ c. (is.same z).1 (c.0, c.1, ((part c.0).0 c.2).0),
  );
}

-- ---- the names that change, by the table of the older text

known : (old : Text) (names : List Bytes) → IsTableOf (all_names (old ∷ [])) names → All (Contains names) (name_set (names_of old.definitions))
known old names table =
    let all : name_set (names_of old.definitions) ≡ all_names (old ∷ []) = ap name_set (sym (append-nil (names_of old.definitions))) in
    All-weaker (Contains (name_set (names_of old.definitions))) (Contains names)
    (λ z own. (table.members z).1 (subst {A = List Bytes} (λ ns. Contains ns z) all own))
    (name_set (names_of old.definitions)) (All-contains_itself (name_set (names_of old.definitions)))

-- a set of names by a table, where a larger table has its ids
list_by_older : (old new : List Bytes) (set : ℕ) (list : Names) → Extends old new → All (Contains old) list → IsSetOf new set list
    → IsListOf old set list
list_by_older old new set list extends all is = record {
  same = λ z. (
    λ e.
        let there : Contains list z = found list z e in
        let own : Contains old z = All-contains (Contains old) list z all there in
        let at : slice_get old own.0 ≡ Some z = slice_get-get_or old own.0 z own.1 ∙ ap Some own.2 in
        (own.0, at, (is.members own.0 (longer own.0 own.1)).1 (subst {A = Bytes} (Contains list) (sym (text own.0 z at)) there)),
    λ c.
        let l = slice_get_within old c.0 z c.1 in
        among list z (subst {A = Bytes} (Contains list) (text c.0 z c.1) ((is.members c.0 (longer c.0 l)).0 c.2)),
  );
}
  where
    longer : (id : ℕ) → id < length old → id < length new
    longer id l =
        let n : length new ≡ length old + length extends.more = ap length extends.is ∙ length-append old extends.more in
        omega (arith, n, l)

    text : (id : ℕ) (z : Bytes) → slice_get old id ≡ Some z → text_of new id ≡ z
    text id z at =
        ap (λ ns. text_of ns id) extends.is ∙ get_or_append_left old extends.more [] id (slice_get_within old id z at)
        ∙ get_or_from_slice_get old id z [] at

pub changed_is : (old : Text) (q : List BareDef) (names all : List Bytes) (set : ℕ) → IsTableOf (all_names (old ∷ [])) names → Extends names all
    → IsSetOf all set (changed old.definitions q) → IsListOf names set (changed old.definitions q)
changed_is old q names all set table extends is =
    list_by_older names all set (changed old.definitions q) extends
    (All-filter (λ z. not (agree same_definition (definition old.definitions z) (definition q z))) (Contains names)
    (name_set (names_of old.definitions)) (known old names table))
    is

pub interface_is : (old : Text) (q : List BareDef) (names all : List Bytes) (set : ℕ) → IsTableOf (all_names (old ∷ [])) names → Extends names all
    → IsSetOf all set (interface old.definitions q) → IsListOf names set (interface old.definitions q)
interface_is old q names all set table extends is =
    list_by_older names all set (interface old.definitions q) extends
    (All-filter (λ z. not (agree same_interface (definition old.definitions z) (definition q z))) (Contains names)
    (name_set (names_of old.definitions)) (known old names table))
    is

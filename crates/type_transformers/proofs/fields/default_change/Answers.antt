use Rattle.std.proofs.Common.{◌≡◌, ◌<◌, map, length, get_or, Some, None, true, false, ap, ◌∙◌, slice_index_or}
use Rattle.std.proofs.lemmas.List.{get_or-map}
use Rattle.c_tree.specs.Bare.{bare_type, bare_binding}
use Rattle.c_semantics.specs.Same.{same_type}
use Rattle.type_transformers.specs.Places.{place_in}
use Rattle.type_transformers.proofs.SameTypes.{type_test}
use Rattle.type_transformers.proofs.FieldChanges.{copied_is, zero_without_place, zero_of_other_type}
use Rattle.type_transformers.proofs.fields.default_change.Goals as goal

pub returns-in_default : goal.returns-in_default
returns-in_default c =
    let layout = map bare_binding c.args.old.now in
    let b = bare_binding c.args.field.now in
    let at : place_in layout b.name ≡ None = cc in
    rw c.kind_of.ensures (zero_without_place layout b at)

pub returns-then-same_type : goal.returns-then-same_type
returns-then-same_type c =
    let layout = map bare_binding c.args.old.now in
    let b = bare_binding c.args.field.now in
    let item = c.index-old-place.result in
    let place = c.in-Some.place in
    let at : place_in layout b.name ≡ Some place = cc in
    let within : place < length c.args.old.now = c.in-Some.ensures.within in
    let same : same_type (slice_index_or layout place (bare_binding item)).declared b.declared ≡ true =
    ap (λ x. same_type x.declared b.declared) (get_or-map bare_binding c.args.old.now place item (bare_binding item) within)
    ∙ type_test (bare_type (get_or c.args.old.now place item).declared) b.declared c.same_type.result c.same_type.ensures
    ∙ c.if-same_type.true
    in
    copied_is layout b place (bare_binding item) at same

pub returns-else-same_type : goal.returns-else-same_type
returns-else-same_type c =
    let layout = map bare_binding c.args.old.now in
    let b = bare_binding c.args.field.now in
    let item = c.index-old-place.result in
    let place = c.in-Some.place in
    let at : place_in layout b.name ≡ Some place = cc in
    let within : place < length c.args.old.now = c.in-Some.ensures.within in
    let differs : same_type (slice_index_or layout place (bare_binding item)).declared b.declared ≡ false =
    ap (λ x. same_type x.declared b.declared) (get_or-map bare_binding c.args.old.now place item (bare_binding item) within)
    ∙ type_test (bare_type (get_or c.args.old.now place item).declared) b.declared c.same_type.result c.same_type.ensures
    ∙ c.if-same_type.false
    in
    rw c.kind_of-else-same_type.ensures (zero_of_other_type layout b place (bare_binding item) at differs)

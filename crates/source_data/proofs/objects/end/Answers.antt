use Rattle.std.proofs.Common.{◌≡◌, ◌∷◌, get_or, false, sym, ap, ◌∙◌, refl}
use Rattle.c_semantics.specs.Values.{int_of}
use Rattle.source_model.specs.Moves.{goes_on, with_object}
use Rattle.source_data.specs.Stores.{object_of, objects_of}
use Rattle.source_data.proofs.Fields.{releases, object_changed}
use Rattle.source_data.proofs.objects.end.Goals as goal

pub returns-in-Ok-clause-ended : goal.returns-in-Ok-clause-ended
returns-in-Ok-clause-ended c = λ t s rest is.
    let list = c.args.objects.now.all.items in
    let n = c.in-Ok.number in
    let o = c.index_mut.result.now in
    let found : get_or c.as_slice.result.now n o ≡ o = ap (λ l. get_or l n o) c.as_slice.ensures.value ∙ sym c.index_mut.ensures.value in
    releases s c.args.handle c.in-Some.field-0 rest c.in-Some.is
    ∙ c.in-Ok.ensures.reached t s (λ n o. goes_on s (with_object n (record o { live = false }) s.world) (int_of 0 ∷ rest))
    (is ∙ ap (objects_of t) (sym c.as_slice.ensures.value)) o
    ∙ ap (λ x. goes_on s (with_object n (record (object_of t x) { live = false }) s.world) (int_of 0 ∷ rest)) found
    ∙ ap (λ w. goes_on s w (int_of 0 ∷ rest)) (object_changed t s.world list n (record o { live = false }) (record (object_of t o) { live = false }) is refl)

pub returns-in-Err-clause-ended : goal.returns-in-Err-clause-ended
returns-in-Err-clause-ended c = λ t s rest is.
    releases s c.args.handle c.in-Some.field-0 rest c.in-Some.is
    ∙ c.in-Err.ensures.reached t s (λ n o. goes_on s (with_object n (record o { live = false }) s.world) (int_of 0 ∷ rest))
    (is ∙ ap (objects_of t) (sym c.as_slice.ensures.value))

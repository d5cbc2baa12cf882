use Rattle.std.proofs.Common.{◌-◌, ◌∷◌, length, take, set, pos, refl, ap, ◌∙◌}
use Rattle.c_ints.specs.declared.int.Int.TheVariants.{I32}
use Rattle.c_semantics.specs.Stops.{Free}
use Rattle.c_semantics.specs.Values.{int_of}
use Rattle.source_model.specs.Moves.{release}
use Rattle.local_evaluation.specs.declared.value.Value.TheVariants.{Number}
use Rattle.source_data.specs.Stores.{standing_with, objects_of}
use Rattle.local_evaluation.specs.Work.{newest}
use Rattle.source_data.proofs.Newest.{newest_is, newest_set}
use Rattle.source_data.proofs.Performing.{goes}
use Rattle.source_data.proofs.objects.release.Goals as goal

pub returns-in-Ok-clause-made : goal.returns-in-Ok-clause-made
returns-in-Ok-clause-made c = λ t text slot tag.
    let old = c.args.store.now in
    let values = c.args.values.now in
    let zero = Number (I32 (pos 0)) in
    let rest = newest (take (length values - 1) values) in
    goes t text slot (Free tag) old (record old { objects = c.end.new.objects }) values (set values (length values - 1) zero)
    (λ w. record w { objects = objects_of t c.end.new.objects.all.items }) (int_of 0 ∷ rest)
    (λ s at defined. ap (release (standing_with t old s)) (newest_is values _ _ c.in-len1-up.len_at_least c.in-Reference.is)
    ∙ c.in-Ok.ensures.ended t (standing_with t old s) rest refl)
    (λ w defined. refl)
    (newest_set values zero c.in-len1-up.len_at_least)

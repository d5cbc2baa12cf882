use Rattle.store_laws.proofs.LiveObjects.{creations_fail_alike, leads_alike}
use Rattle.store_laws.proofs.laws.handles_are_words_of_objects.Goals as goal

pub returns-clause-full : goal.returns-clause-full
returns-clause-full c = creations_fail_alike

pub returns-clause-leads : goal.returns-clause-leads
returns-clause-leads c = leads_alike

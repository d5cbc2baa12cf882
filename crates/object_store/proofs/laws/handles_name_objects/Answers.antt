use Rattle.object_store.proofs.NamedObjects.{handles_are_apart, starts_named, creation_names, creation_fails, change_keeps_names, end_keeps_names}
use Rattle.object_store.proofs.laws.handles_name_objects.Goals as goal

pub returns-clause-apart : goal.returns-clause-apart
returns-clause-apart c = handles_are_apart

pub returns-clause-start : goal.returns-clause-start
returns-clause-start c = starts_named

pub returns-clause-created : goal.returns-clause-created
returns-clause-created c = creation_names

pub returns-clause-full : goal.returns-clause-full
returns-clause-full c = creation_fails

pub returns-clause-changed : goal.returns-clause-changed
returns-clause-changed c = change_keeps_names

pub returns-clause-ended : goal.returns-clause-ended
returns-clause-ended c = end_keeps_names

use Rattle.patch_faults.proofs.FoundValues.{objects_are_as_found, globals_are_as_found, objects_convert, globals_convert}
use Rattle.patch_faults.proofs.laws.faultless_values_have_their_types.Goals as goal

pub returns-clause-objects : goal.returns-clause-objects
returns-clause-objects c = objects_are_as_found

pub returns-clause-globals : goal.returns-clause-globals
returns-clause-globals c = globals_are_as_found

pub returns-clause-objects_convert : goal.returns-clause-objects_convert
returns-clause-objects_convert c = objects_convert

pub returns-clause-globals_convert : goal.returns-clause-globals_convert
returns-clause-globals_convert c = globals_convert

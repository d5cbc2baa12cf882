-- What the code keeps by reference, as the definitions see it.
use Rattle.c_definitions.specs.declared.lookup.Meaning.{Meaning as Kept}
use Rattle.c_definitions.specs.declared.lookup.Meaning.TheVariants.{Variable, Array, Function, Mutex}
use Rattle.c_definitions.specs.declared.lookup.Names.{Names as KeptNames}
use Rattle.c_definitions.specs.Lookup.{Meaning, Names, types_of}
use Rattle.c_definitions.specs.Lookup.Meaning.{AVariable, AnArray, AFunction, AMutex}

-- what a name stands for
abbrev pub meaning_seen : Kept → Meaning
meaning_seen (Variable t) = AVariable t.now
meaning_seen (Array t) = AnArray t.now
meaning_seen (Function f) = AFunction f.now.result (types_of f.now.parameters)
meaning_seen Mutex = AMutex

-- what names are looked up in
abbrev pub names_seen : KeptNames → Names
names_seen names = record { text = names.text.now; scopes = names.scopes.now; position = names.position }

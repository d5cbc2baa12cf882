-- What threads share, as the definitions have it.
use Rattle.std.specs.Prelude.{◌≡◌, ℕ, Bool, true, false, List, map, reverse, Option, None}
use Rattle.c_tree.specs.BareDef.{BareDef}
use Rattle.c_tree.specs.BareExpr.{Bytes}
use Rattle.c_semantics.specs.Names.{struct_name}
use Rattle.c_semantics.specs.Texts.{definition, members_of}
use Rattle.c_semantics.specs.Stops.{Stop, Spawn, Join, Call, Return, Begin, End}
use Rattle.c_semantics.specs.Values.{Value as Seen}
use Rattle.c_semantics.specs.Pieces.{Variable}
use Rattle.source_model.specs.Worlds.{World, now}
use Rattle.source_model.specs.Worlds as world
use Rattle.source_model.specs.Moves.{Standing, goes_on, traps, perform}
use Rattle.local_evaluation.specs.declared.value.Value.{Value}
use Rattle.source_data.specs.declared.store.Field.{Field}
use Rattle.source_data.specs.declared.store.Object.{Object}
use Rattle.source_data.specs.declared.store.Held.{Held}
use Rattle.source_data.specs.declared.store.Store.{Store}
use Rattle.source_data.specs.declared.shared_stops.Did.{Did}
use Rattle.source_data.specs.declared.shared_stops.Did.TheVariants.{On, Trap, Nothing}
use Rattle.resolved_tree.specs.Nodes.{Table, word}
use Rattle.local_evaluation.specs.Values.{seen}
use Rattle.local_evaluation.specs.Work.{newest}
use Rattle.source_programs.specs.Globals.{globals_of}

-- a field, an object, a mutex that is held
abbrev pub field_of : Table → Field → Variable
field_of t f = record { name = word t f.name; value = seen f.value }

abbrev pub fields_of : Table → List Field → List Variable
fields_of t fs = map (field_of t) fs

abbrev pub object_of : Table → Object → world.Object
object_of t o = record { tag = word t o.tag; fields = fields_of t o.fields.items; live = o.live }

abbrev pub held_of : Table → Held → world.Held
held_of t h = record { mutex = word t h.mutex; slot = h.slot }

-- objects, and mutexes, of which the last that is kept was taken last
abbrev pub objects_of : Table → List Object → List world.Object
objects_of t os = map (object_of t) os

abbrev pub holders_of : Table → List Held → List world.Held
holders_of t hs = map (held_of t) (reverse hs)

-- a world with what is shared
abbrev pub with_store : Table → Store → World → World
with_store t s w = record w {
  globals = globals_of s.globals.list.items;
  objects = objects_of t s.objects.all.items;
  capacity = s.capacity;
  holders = holders_of t s.holders.items;
  output = s.output.items;
}

-- a thread at a stop, with what is shared
abbrev pub standing_with : Table → Store → Standing → Standing
standing_with t store s = record s { world = with_store t store s.world }

-- what a stop came to
abbrev pub came_to : Did → Standing → List Seen → Option World
came_to On s values = goes_on s s.world values
came_to (Trap kind) s values = traps s kind
came_to Nothing s values = None

-- the structs have the fields that a text gives them
abbrev pub SeesLayouts : List BareDef → World → Type 0
SeesLayouts text w =
    (tag : Bytes) → members_of (now w (struct_name tag)) ≡ members_of (definition text (struct_name tag))

-- it is what the stop makes of a thread in that slot, whatever else there is
abbrev pub Performs : Table → List BareDef → ℕ → Stop → Store → List Value → Did → Store → List Value → Type 0
Performs t text slot stop old values did new after =
    (s : Standing) → s.slot ≡ slot → SeesLayouts text s.world
    → perform stop (standing_with t old s) (newest values) ≡ came_to did (standing_with t new s) (newest after)

-- where a stop can't be made nothing has changed
abbrev pub Kept : Did → Store → List Value → Store → List Value → Type 0
Kept On old values new after = Unit {0}
Kept (Trap kind) old values new after = Unit {0}
Kept Nothing old values new after = (new ≡ old) × (after ≡ values)

-- whether a stop changes threads
abbrev pub is_threads : Stop → Bool
is_threads (Spawn name) = true
is_threads Join = true
is_threads (Call name n) = true
is_threads Return = true
is_threads Begin = true
is_threads End = true
is_threads _ = false

-- The install of a newer text: all of it is there at once, and frames stay as they are.
use Rattle.std.specs.Prelude.{Bool, true, false, List, map, filter, filter_map, Option, Some, None, option_map, if◌then◌else◌}
use Rattle.c_tree.specs.BareExpr.{Bytes}
use Rattle.c_tree.specs.BareDef.{BareDef, Mutex, Global, Array}
use Rattle.c_semantics.specs.Names.{struct_name}
use Rattle.c_semantics.specs.Texts.{defined, definition, members_of}
use Rattle.c_semantics.specs.Values.{Value}
use Rattle.c_semantics.specs.Changes.{same_interface}
use Rattle.c_semantics.specs.Constants.{initial_cells}
use Rattle.c_semantics.specs.Transformers.{transformed, transformed_global, zero_fields}
use Rattle.source_model.specs.Versions.{current, next_table}
use Rattle.source_model.specs.Worlds.{World, Cells, Object, cells_of}

-- an object where text q follows text p: of a changed layout it is transformed; of a struct that is added, where one
-- of its name was there before, it becomes zero of the new layout
abbrev pub brought_by : List BareDef → List BareDef → Object → Option BareDef → Option BareDef → Object
brought_by p q o old None = o
brought_by p q o None (Some d) = record o { fields = zero_fields (members_of (Some d)) }
brought_by p q o (Some a) (Some b) =
    if same_interface a b then o else record o { fields = transformed p q o.tag o.fields }

abbrev pub brought : List BareDef → List BareDef → Object → Object
brought p q o = let name = struct_name o.tag in brought_by p q o (definition p name) (definition q name)

-- the cells of a global of text q: those that it has, where its type stays; transformed, where its type changes; its
-- initial ones, where it is added
abbrev pub carried : World → List BareDef → List BareDef → BareDef → Bytes → Option BareDef → List Value
carried w p q d name None = initial_cells d
carried w p q d name (Some old) =
    if same_interface old d then cells_of w name else transformed_global p q name (cells_of w name)

-- a definition that has cells
abbrev pub has_cells : BareDef → Bool
has_cells (Global d) = true
has_cells (Array type name n values) = true
has_cells _ = false

abbrev pub global_after : World → List BareDef → List BareDef → BareDef → Option Cells
global_after w p q d =
    if has_cells d
    then option_map (λ name. record { name = name; cells = carried w p q d name (definition p name) }) (defined d)
    else None

-- a mutex that is still there keeps its holder
abbrev pub is_mutex : Option BareDef → Bool
is_mutex (Some (Mutex name)) = true
is_mutex _ = false

-- the world where text q is installed
abbrev pub installed : List BareDef → World → World
installed q w =
    let p = w.text in
    record w {
      table = next_table (current w.table) p q w.table;
      text = q;
      globals = filter_map (global_after w p q) q;
      objects = map (brought p q) w.objects;
      holders = filter (λ h. is_mutex (definition q h.mutex)) w.holders;
    }

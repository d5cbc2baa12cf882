-- Objects fit the layouts of their structs, as the text of a world has them.
use Rattle.std.specs.Prelude.{◌≡◌, List, map, All, Some}
use Rattle.c_tree.specs.BareDef.{BareDef}
use Rattle.c_semantics.specs.Names.{struct_name}
use Rattle.c_semantics.specs.Texts.{definition, members_of}
use Rattle.source_model.specs.Worlds.{World, Object}

-- the fields of an object are those of its struct's layout, in order, where a text defines the struct's name; what isn't a
-- struct has no fields
abbrev pub Fits : List BareDef → Object → Type 0
Fits text o =
    (d : BareDef) → definition text (struct_name o.tag) ≡ Some d → map (λ f. f.name) o.fields ≡ map (λ b. b.name) (members_of (Some d))

-- each object of a world does
pub record ObjectsFit (w : World) : Type 0 where
  pub each : All (Fits w.text) w.objects

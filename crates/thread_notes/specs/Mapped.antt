-- The places of a function that notes show.
use Rattle.std.specs.Prelude.{◌≡◌}
use Rattle.c_tree.specs.declared.def.Function.{Function}
use Rattle.c_semantics.specs.Texts.{Definitions}
use Rattle.c_semantics.specs.Places.{places}
use Rattle.thread_notes.specs.declared.places.Mapped.{Mapped}

-- they are those of the function's points, under the definitions of its text
pub record IsMapped (look : Definitions) (function : Function) (mapped : Mapped) : Type 0 where
  pub named : mapped.function ≡ function.name.text
  pub places : mapped.places.items ≡ places look function

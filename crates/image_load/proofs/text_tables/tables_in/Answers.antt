use Rattle.std.proofs.Common.{◌≡◌, ℕ, List, map, Some, subst}
use Rattle.std.specs.Prelude.{IfErr, IfOk}
use Rattle.c_tree.specs.Bare.{bare_def}
use Rattle.c_tree.specs.BareDef.{BareDef}
use Rattle.c_tree.specs.declared.def.Def.{Def}
use Rattle.c_semantics.specs.Names.{struct_name}
use Rattle.c_semantics.specs.Texts.{definition}
use Rattle.code_runs.specs.CodeData.{Names}
use Rattle.accepted_stops.specs.FittingCode.{StructIsSmall}
use Rattle.image_load.specs.declared.fault.LoadFault.TheVariants.{Memory}
use Rattle.image_load.specs.Numbering.{AreTables}
use Rattle.image_load.specs.TextTables.{AreNamesOf, IsDataOf}
use Rattle.image_load.proofs.text_tables.tables_in.Goals as goal

pub returns-clause-tables : goal.returns-clause-tables
returns-clause-tables c =
    subst (λ (ds : List Def). IfOk c.known_tables.result (λ made.
    (names : Names) → AreTables names c.args.numbers.now → AreNamesOf names (map bare_def ds) → IsDataOf names (map bare_def ds) made))
    c.in_ok-known.ensures c.known_tables.ensures.tables

pub returns-clause-fault : goal.returns-clause-fault
returns-clause-fault c =
    subst (λ (ds : List Def). IfErr c.known_tables.result (λ fault.
    ((tag : List ℕ) (d : BareDef) → definition (map bare_def ds) (struct_name tag) ≡ Some d → StructIsSmall (map bare_def ds) tag d) → fault ≡ Memory))
    c.in_ok-known.ensures c.known_tables.ensures.fault

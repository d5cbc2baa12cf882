-- What the code lends, as the rules of types see it, for the contracts of private functions.
use Rattle.c_tree.specs.declared.name.CType.TheVariants.{Integer as IntegerType}
use Rattle.c_expr_types.specs.declared.fault.Fault.{Fault}
use Rattle.c_expr_types.specs.declared.fault.TypeKind.TheVariants as kind
use Rattle.c_expr_types.specs.declared.found.Found.{Found}
use Rattle.c_expr_types.specs.declared.found.Found.TheVariants as found
use Rattle.c_expr_types.specs.declared.found.Part.{Part}
use Rattle.c_expr_types.specs.Faults.{fault}
use Rattle.patch_faults.specs.TransformTypes.{Old, AnObject, AValue}
use Rattle.transformer_types.specs.declared.fault.ValueFault.{ValueFault}
use Rattle.transformer_types.specs.declared.fault.ValueFault.TheVariants.{WrongType, UnknownField}
use Rattle.transformer_types.specs.declared.found.Found.{Found as Lent}
use Rattle.transformer_types.specs.declared.found.Found.TheVariants.{Wrong, Of, Integer, Zero, Null, Object, Nothing}
use Rattle.transformer_types.specs.declared.found.Part.{Part as LentPart}
use Rattle.transformer_types.specs.declared.found.Old.{Old as LentOld}
use Rattle.transformer_types.specs.declared.found.Old.TheVariants as old

-- a fault of an expression
abbrev pub fault_seen : ValueFault → Fault
fault_seen (WrongType place) = fault kind.WrongType place
fault_seen (UnknownField place) = fault kind.UnknownField place

-- what an expression is found to be
abbrev pub found_seen : Lent → Found
found_seen (Wrong f) = found.Wrong (fault_seen f)
found_seen (Of t) = found.Value t.now
found_seen (Integer k) = found.Value (IntegerType k)
found_seen (Zero k) = found.Zero k
found_seen Null = found.Null
found_seen Object = found.Designator
found_seen Nothing = found.Nothing

-- an expression that another one is made of
abbrev pub part_seen : LentPart → Part
part_seen part = record { place = part.place; found = found_seen part.found }

-- what `old` is
abbrev pub old_seen : LentOld → Old
old_seen (old.Object fields) = AnObject fields.now
old_seen (old.Value t) = AValue t.now

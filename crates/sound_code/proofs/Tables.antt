-- Code under another table of names.
use Rattle.std.proofs.Common.{◌≡◌, ℕ, List, map, length, slice_get, Option, Some, None, option_map, refl, sym, ap, ◌∙◌, subst}
use Rattle.std.proofs.lemmas.List.{length-map}
use Rattle.std.proofs.lemmas.Option.{slice_get-map}
use Rattle.resolved_tree.specs.Nodes.{Table}
use Rattle.bytecode.specs.declared.instr.Instr.{Instr}
use Rattle.bytecode.specs.declared.instr.Instr.TheVariants.{Halt}
use Rattle.bytecode.specs.Instructions.{Instruction}
use Rattle.bytecode.specs.Seen.{code_of, instruction_of}
use Rattle.thread_state.specs.Heights.{HasHeight, IsSoundAt, Sound}
use Rattle.sound_code.proofs.Counts.{map_some}

-- the instructions at a place under two tables are those of one instruction
there : (t : Table) (code : List Instr) (p : ℕ) (i : Instruction) → slice_get (code_of t code) p ≡ Some i
    → (x : Instr) × (slice_get code p ≡ Some x) × (instruction_of t x ≡ i)
there t code p i e = map_some (instruction_of t) (slice_get code p) i (sym (slice_get-map (instruction_of t) code p) ∙ e)

pub seen_there : (t : Table) (code : List Instr) (p : ℕ) (x : Instr) → slice_get code p ≡ Some x → slice_get (code_of t code) p ≡ Some (instruction_of t x)
seen_there t code p x e = slice_get-map (instruction_of t) code p ∙ ap (option_map (instruction_of t)) e

-- names are in stops alone, which take no part in heights
like_sound : (s t : Table) (heights : List (Option ℕ)) (room : ℕ) (x : Instr) (p h : ℕ) → IsSoundAt heights room (instruction_of s x) p h
    → IsSoundAt heights room (instruction_of t x) p h
like_sound s t heights room (Halt stop n) p h at = record { takes = at.takes; uses = at.uses; goes = at.goes }
like_sound s t heights room _ p h at = at

pub names_do_not_matter : (s t : Table) (code : List Instr) (room : ℕ) (heights : List (Option ℕ)) → Sound (code_of s code) room heights → Sound (code_of t code) room heights
names_do_not_matter s t code room heights sound = record {
  whole = sound.whole ∙ length-map code (instruction_of s) ∙ sym (length-map code (instruction_of t));
  low = sound.low;
  each = λ p h i has e.
      let x = there t code p i e in
      subst (λ (j : Instruction). IsSoundAt heights room j p h) x.2
      (like_sound s t heights room x.0 p h (sound.each p h (instruction_of s x.0) has (seen_there s code p x.0 x.1)));
}

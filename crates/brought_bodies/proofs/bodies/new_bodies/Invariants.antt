use Rattle.std.proofs.Common.{◌≡◌, All, map, take}
use Rattle.std.specs.Prelude.{filter_map}
use Rattle.c_tree.specs.Bare.{bare_def}
use Rattle.c_semantics.specs.SourceTexts.{text_of}
use Rattle.c_semantics.specs.Store.{body_of}
use Rattle.code_store.specs.Stored.{meant_body, AreDistinct}
use Rattle.brought_bodies.specs.Patches.{HasSets}
use Rattle.brought_bodies.proofs.NewBodies.{IsAmong}
use Rattle.brought_bodies.proofs.bodies.new_bodies.Given as goal

-- the new bodies of the definitions so far
abbrev pub invariant-loop-one : goal.invariant-loop-one
invariant-loop-one l = record {
  bodies : HasSets l.patch → map (meant_body l.patch.names.now) l.bodies.items
      ≡ filter_map (body_of l.patch.version (map bare_def l.patch.old.now) (text_of l.program)) (map bare_def (take l.one-index l.program.definitions));
  among : All (IsAmong l.patch.names.now l.patch.version (take l.one-index l.program.definitions)) l.bodies.items;
  distinct : AreDistinct l.bodies.items;
}

use Rattle.std.proofs.Common.{◌≡◌, ◌≤◌, List, length}
use Rattle.c_tree.specs.BareDef.{BareDef}
use Rattle.version_spans.specs.Beginnings.{began_by, since}
use Rattle.version_spans.specs.Kept.{AreBeginnings, name_of}
use Rattle.version_spans.proofs.began.Began.since.Given as goal

-- no text after this version differs from the one before
abbrev pub invariant-loop-version : goal.invariant-loop-version
invariant-loop-version l = record {
  within : l.version ≤ length l.self.differences.items;
  began : (texts : List (List BareDef)) → AreBeginnings texts l.self → since texts (name_of l.form l.text) ≡ began_by texts (name_of l.form l.text) l.version;
}

abbrev pub decreases-loop-version : goal.decreases-loop-version
decreases-loop-version l = l.version

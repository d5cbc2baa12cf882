use Rattle.std.proofs.Common.{[], length, map, ap, arith}
use Rattle.std.specs.Prelude.{slice_index_or}
use Rattle.std.proofs.lemmas.List.{length-map}
use Rattle.source_programs.specs.Programs.{text_of}
use Rattle.source_programs.proofs.Numbered.{first_within}
use Rattle.source_programs.proofs.programs.Programs.load.Goals as goal

pub returns-clause-sound : goal.returns-clause-sound
returns-clause-sound c =
    let ready = c.in_ok-texts.texts.items in
    let installed = c.in_ok-installed.installed in
    let many = ap length c.in_ok-texts.ensures.texts in
    let one = ap length c.in_ok-installed.ensures in
    record {
      ready = c.in_ok-texts.ensures.ready;
      versions = first_within (length ready) installed c.in_ok-installed.ensures (omega (arith, c.requires, many, length-map ready (λ r. r.text)));
      some = omega (arith, one);
      main = c.in_ok-texts.ensures.main;
    }

pub returns-clause-first : goal.returns-clause-first
returns-clause-first c =
    ap (map (λ k. slice_index_or (map text_of c.in_ok-texts.texts.items) k [])) c.in_ok-installed.ensures

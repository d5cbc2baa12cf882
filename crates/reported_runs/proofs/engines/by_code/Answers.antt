use Rattle.std.proofs.Common.{◌≡◌, suc, true, List, [], ◌∷◌, ◌∙◌, length, map, refl, subst, sym, arith}
use Rattle.std.specs.Prelude.{◌==◌}
use Rattle.std.proofs.lemmas.Bool.{eqb-true}
use Rattle.c_tree.specs.declared.def.Program.{Program}
use Rattle.c_semantics.specs.SourceTexts.{text_of}
use Rattle.source_programs.specs.Programs.{text_in}
use Rattle.image_load.specs.Loaded.{HasFewNames}
use Rattle.reported_runs.proofs.engines.by_code.Goals as goal

none_there : (offers : List Program) → (length offers == 0) ≡ true → offers ≡ []
none_there [] none = refl
none_there (o ∷ os) none = let count : suc (length os) ≡ 0 = eqb-true (suc (length os)) 0 none in absurd (omega (arith, count))

pub returns-then-is_empty-clause-named : goal.returns-then-is_empty-clause-named
returns-then-is_empty-clause-named c = λ same.
    subst {A = List Program} (λ ps. HasFewNames (map text_in (c.args.program.now ∷ ps)))
    (sym (none_there c.args.offers.now (sym c.is_empty.ensures ∙ c.if-is_empty.true)))
    (c.accepted_text_has_few_names.ensures (text_of c.args.program.now) c.requires.accepted)

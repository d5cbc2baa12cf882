use Rattle.std.proofs.Common.{◌≡◌, ◌∙◌, ◌++◌, ◌∷◌, [], length, ap, arith}
use Rattle.c_expr_parser.proofs.TypeReading.{longer_means, more_words, no_more_words, words_end}
use Rattle.c_tree.specs.declared.name.CType.TheVariants.{Integer}
use Rattle.c_expr_parser.specs.Plans.{Words, read, typed, reads}
use Rattle.c_expr_parser.proofs.type_name.Words.rest_of_type.Goals as goal
use Rattle.c_expr_parser.proofs.type_name.Words.rest_of_type.Goals.{in-Some+in_default-longer, in_default}

pub loop-token-preserved : goal.loop-token-preserved
loop-token-preserved c = record {
  reads = λ words depth e k shallow.
      let held = c.loop-token.invariant.reads words depth e k shallow in
      let t = c.in-Some.token.now in
      let longer = c.in-Some-longer.ensures held.0 held.1 in (
        held.0 ++ t.text ∷ [],
        longer.1,
        longer_means held.0 t c.in-Some-longer.longer.1 longer.0,
        held.3 ∙ more_words depth held.0 c.loop-token.rest.now t c.in-Some.behind.now c.in-Some-longer.longer.1 c.in-Some.ensures.cases.0 longer.0 shallow,
      );
  within = omega (arith, ap length c.in-Some.ensures.cases.0);
}

pub returns-clause-reads : goal.returns-clause-reads
returns-clause-reads c words depth e k shallow =
    let held = c.loop-token.invariant.reads words depth e k shallow in
    let rest = c.loop-token.rest.now in
    let kind = c.loop-token.kind in
    let last : reads (Words depth held.0) rest ≡ read (typed (Integer kind)) rest
    = elim c.match-split_first.branch [
      | in-Some+in_default-longer w ↦ no_more_words depth held.0 rest w.in-Some.token.now w.in-Some.behind.now kind w.in-Some.ensures.cases.0 (w.in_default-longer.ensures held.0 held.1) held.2
      | in_default w ↦ words_end depth held.0 rest kind w.in_default.ensures.cases held.2
    ] in
    held.3 ∙ last

use Rattle.std.proofs.Common.{◌∙◌, ap, map, subst, sym}
use Rattle.source_model.specs.Answers.{answer_seen}
use Rattle.source_model.specs.Patches.{all_names}
use Rattle.patch_build.specs.Versions.{IsTableOf}
use Rattle.dsu_runs.proofs.Books.{answers_now}
use Rattle.plain_engine.proofs.engine.PlainEngine.into_parts.Goals as goal

pub returns-clause-answered : goal.returns-clause-answered
returns-clause-answered g c = λ setup x at.
    let s = c.args.self.state in
    ap (λ names. map (answer_seen names) c.into_parts-answers.result.0.items) c.into_parts-answers.ensures.names
    ∙ ap (map (answer_seen s.installed.names)) c.into_parts-answers.ensures.answers
    ∙ answers_now setup x s.installed.names s.book at.state.book

pub returns-clause-named : goal.returns-clause-named
returns-clause-named g c = λ setup x at.
    subst (IsTableOf (all_names x.versions)) (sym c.into_parts-answers.ensures.names) at.state.versions.installed.names_are

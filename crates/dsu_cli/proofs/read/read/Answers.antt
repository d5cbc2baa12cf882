use Rattle.std.proofs.Common.{◌∙◌, sym, ap, subst, List}
use Rattle.std.specs.Option.{option_map_or}
use Rattle.dsu_cli.specs.declared.job.Detail.TheVariants.{Plain}
use Rattle.dsu_cli.specs.Words.{Text, detail_of_items}
use Rattle.dsu_cli.specs.Sorted.{AreKnown}
use Rattle.dsu_cli.proofs.Jobs.{all_words, fitting, job_read}
use Rattle.dsu_cli.proofs.read.read.Goals as goal

pub sorted-requires : goal.sorted-requires
sorted-requires c =
    let words = all_words c.as_slice.result.now c.loop-word.texts.items c.args.words.now c.loop-word.word-index c.as_slice.ensures.value c.loop-word.invariant c.loop-word-test.false in
    let h = fitting c.args.command c.args.words.now c.requires in
    (h.its, subst (λ (ws : List Text). AreKnown ws h.its) (sym words) h.known)

pub job-requires : goal.job-requires
job-requires c =
    let words = all_words c.as_slice.result.now c.loop-word.texts.items c.args.words.now c.loop-word.word-index c.as_slice.ensures.value c.loop-word.invariant c.loop-word-test.false in
    let h = fitting c.args.command c.args.words.now c.requires in
    record { its = h.its; sorts = c.in_ok-matches.ensures h.its (subst (λ (ws : List Text). AreKnown ws h.its) (sym words) h.known); fit = h.fit }

pub returns-clause-job : goal.returns-clause-job
returns-clause-job c =
    let words = all_words c.as_slice.result.now c.loop-word.texts.items c.args.words.now c.loop-word.word-index c.as_slice.ensures.value c.loop-word.invariant c.loop-word-test.false in
    let h = fitting c.args.command c.args.words.now c.requires in
    let sorts = c.in_ok-matches.ensures h.its (subst (λ (ws : List Text). AreKnown ws h.its) (sym words) h.known) in
    job_read c.args.command c.args.words.now h.its _ h.known.are h.fit (c.in_ok-job.ensures h.its sorts h.fit)

pub returns-clause-detail : goal.returns-clause-detail
returns-clause-detail c =
    let words = all_words c.as_slice.result.now c.loop-word.texts.items c.args.words.now c.loop-word.word-index c.as_slice.ensures.value c.loop-word.invariant c.loop-word-test.false in
    let h = fitting c.args.command c.args.words.now c.requires in
    let sorts = c.in_ok-matches.ensures h.its (subst (λ (ws : List Text). AreKnown ws h.its) (sym words) h.known) in
    ap (λ o. option_map_or detail_of_items o Plain) h.known.are ∙ c.detail.ensures h.its sorts

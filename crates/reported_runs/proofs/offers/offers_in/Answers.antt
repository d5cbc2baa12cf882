use Rattle.std.proofs.Common.{◌≡◌, ◌⊎◌, ℕ, ◌+◌, List, drop, subst, sym}
use Rattle.input_files.specs.Files.{IsShort}
use Rattle.job_answers.specs.Jobs.{OfferStops, OutOfMemory}
use Rattle.reported_runs.proofs.Offered.{all_known, all_sources, begun, first_by, one_more, reading_all, reading_next, short_by, sources_length, stops}
use Rattle.job_answers.proofs.Reading.{is_answered, no_answer}
use Rattle.reported_runs.proofs.offers.offers_in.Goals as goal

pub loop-offer-init : goal.loop-offer-init
loop-offer-init g c =
    begun (g.F.Files.content c.args.files.now) (g.F.Files.faults c.args.files.now) c.args.offers.now c.no_offers-read.result
    c.no_offers-read.ensures.texts c.no_offers-read.ensures.programs c.no_offers-read.ensures.lines

pub loop-offer-preserved : goal.loop-offer-preserved
loop-offer-preserved g c =
    let content = g.F.Files.content c.args.files.now in
    let start = g.F.Files.faults c.args.files.now in
    let offers = c.args.offers.now in
    let mid = g.F.Files.content c.loop-offer.files in
    let at = g.F.Files.faults c.loop-offer.files in
    let i = c.loop-offer.offer-index in
    let o = c.offer-item.result in
    one_more content start offers o (drop (i + 1) offers) mid at c.loop-offer.read
    (reading_next content start offers mid at c.loop-offer.read i o c.loop-offer-test.true c.offer-item.is c.loop-offer.invariant)
    (g.F.Files.content c.read_offer.new.files) (g.F.Files.faults c.read_offer.new.files) c.read_offer.new.read
    c.in_default.ensures.read c.in_default.ensures.same c.in_default.ensures.none_failed c.in_default.ensures.complete
    (λ line wrong. no_answer c.in_default.field-0 line (c.in_default.ensures.first line wrong))

pub returns-in-Err-clause-fault : goal.returns-in-Err-clause-fault
returns-in-Err-clause-fault g c =
    let content = g.F.Files.content c.args.files.now in
    let start = g.F.Files.faults c.args.files.now in
    let offers = c.args.offers.now in
    let mid = g.F.Files.content c.loop-offer.files in
    let at = g.F.Files.faults c.loop-offer.files in
    let i = c.loop-offer.offer-index in
    let o = c.offer-item.result in
    let now = g.F.Files.faults c.read_offer.new.files in
    let line = c.in-Err.line in
    subst {A = List ℕ} (λ file. OutOfMemory start now line ⊎ OfferStops offers content start now line file) (sym c.as_str.ensures)
    (stops content start offers o (drop (i + 1) offers) mid at c.loop-offer.read
    (reading_next content start offers mid at c.loop-offer.read i o c.loop-offer-test.true c.offer-item.is c.loop-offer.invariant)
    now line c.in-Err.ensures.fault)

pub returns-in-Err-clause-complete : goal.returns-in-Err-clause-complete
returns-in-Err-clause-complete g c =
    let content = g.F.Files.content c.args.files.now in
    let start = g.F.Files.faults c.args.files.now in
    let offers = c.args.offers.now in
    let mid = g.F.Files.content c.loop-offer.files in
    let at = g.F.Files.faults c.loop-offer.files in
    let i = c.loop-offer.offer-index in
    let o = c.offer-item.result in
    short_by content start offers o (drop (i + 1) offers) mid at c.loop-offer.read
    (reading_next content start offers mid at c.loop-offer.read i o c.loop-offer-test.true c.offer-item.is c.loop-offer.invariant)
    (g.F.Files.faults c.read_offer.new.files) c.in-Err.line c.in-Err.ensures.complete

pub returns-in-Err-clause-first : goal.returns-in-Err-clause-first
returns-in-Err-clause-first g c = λ known named fault.
    let content = g.F.Files.content c.args.files.now in
    let start = g.F.Files.faults c.args.files.now in
    let offers = c.args.offers.now in
    let mid = g.F.Files.content c.loop-offer.files in
    let at = g.F.Files.faults c.loop-offer.files in
    let i = c.loop-offer.offer-index in
    let o = c.offer-item.result in
    let line = c.in-Err.line in
    subst {A = List ℕ} (λ file. ((line ≡ known) × (file ≡ named)) ⊎ IsShort line) (sym c.as_str.ensures)
    (first_by content start offers o (drop (i + 1) offers) mid at c.loop-offer.read
    (reading_next content start offers mid at c.loop-offer.read i o c.loop-offer-test.true c.offer-item.is c.loop-offer.invariant)
    (g.F.Files.faults c.read_offer.new.files) line c.in-Err.ensures.complete
    (λ other wrong. is_answered other line (c.in-Err.ensures.first other wrong)) known named fault)

pub returns-clause-each : goal.returns-clause-each
returns-clause-each g c =
    let content = g.F.Files.content c.args.files.now in
    let start = g.F.Files.faults c.args.files.now in
    let offers = c.args.offers.now in
    let mid = g.F.Files.content c.loop-offer.files in
    let at = g.F.Files.faults c.loop-offer.files in
    let read = c.loop-offer.read in
    sources_length content offers read.texts.items read.programs.items (all_sources content start offers mid at read
    (reading_all content start offers mid at read c.loop-offer.offer-index c.loop-offer-test.false c.loop-offer.invariant))

pub returns-clause-complete : goal.returns-clause-complete
returns-clause-complete g c =
    let content = g.F.Files.content c.args.files.now in
    let start = g.F.Files.faults c.args.files.now in
    let offers = c.args.offers.now in
    let mid = g.F.Files.content c.loop-offer.files in
    let at = g.F.Files.faults c.loop-offer.files in
    let read = c.loop-offer.read in
    all_known content start offers mid at read
    (reading_all content start offers mid at read c.loop-offer.offer-index c.loop-offer-test.false c.loop-offer.invariant)

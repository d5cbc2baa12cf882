use Rattle.std.proofs.Common.{List, ℕ, ◌++◌, subst}
use Rattle.std.specs.Prelude.{codes, slice_index}
use Rattle.std.specs.Io.KnownBytes.{Appends}
use Rattle.dsu_io.specs.Sinks.{AppendsFront}
use Rattle.std.proofs.lemmas.Result.{err_from_is_err_and}
use Rattle.effects_report.specs.EffectsText.{names_text}
use Rattle.effects_report.specs.Shown.{names_in}
use Rattle.effects_report.proofs.Putting.{four_put, front_first, front_second, front_third, put_failed}
use Rattle.effects_report.proofs.write.put_row.Goals as goal

-- the pieces of a row
abbrev prior_text : List (List ℕ) → ℕ → List ℕ
prior_text names set = codes " prior:" ++ names_text (names_in names set)

abbrev future_text : List (List ℕ) → ℕ → List ℕ
future_text names set = codes " future:" ++ names_text (names_in names set)

abbrev concrete_text : List (List ℕ) → ℕ → List ℕ
concrete_text names set = codes " concrete:" ++ names_text (names_in names set)

pub returns-in_err-put_set-clause-bytes : goal.returns-in_err-put_set-clause-bytes
returns-in_err-put_set-clause-bytes g c =
    let names = c.args.names.now in
    let e = c.args.effects.now in
    let p = prior_text names (slice_index e.prior c.args.at) in
    let f = future_text names (slice_index e.future c.args.at) in
    let n = concrete_text names (slice_index e.concrete c.args.at) in
    let p' = err_from_is_err_and c.from_residual.result c.from_residual.ensures.1 in
    put_failed _ _ _ _ p'.0 p'.1 (front_first _ _ p f n (codes "\n")
    (subst {A = ℕ} (λ set. AppendsFront (g.S.Sink.told c.args.sink.now) (g.S.Sink.told c.put_set.new.sink) (prior_text c.args.names.now set)) c.prior_at.ensures c.in_err-put_set.ensures.bytes))

pub returns-in_err-put_set-2-clause-bytes : goal.returns-in_err-put_set-2-clause-bytes
returns-in_err-put_set-2-clause-bytes g c =
    let names = c.args.names.now in
    let e = c.args.effects.now in
    let p = prior_text names (slice_index e.prior c.args.at) in
    let f = future_text names (slice_index e.future c.args.at) in
    let n = concrete_text names (slice_index e.concrete c.args.at) in
    let p' = err_from_is_err_and c.from_residual-in_err-put_set-2.result c.from_residual-in_err-put_set-2.ensures.1 in
    put_failed _ _ _ _ p'.0 p'.1 (front_second _ _ _ p f n (codes "\n")
    (subst {A = ℕ} (λ set. Appends (g.S.Sink.told c.args.sink.now) (g.S.Sink.told c.put_set.new.sink) (prior_text c.args.names.now set)) c.prior_at.ensures c.in_ok-put_set.ensures.bytes)
    (subst {A = ℕ} (λ set. AppendsFront (g.S.Sink.told c.put_set.new.sink) (g.S.Sink.told c.put_set-2.new.sink) (future_text c.args.names.now set)) c.future_at.ensures c.in_err-put_set-2.ensures.bytes))

pub returns-in_err-put_set-3-clause-bytes : goal.returns-in_err-put_set-3-clause-bytes
returns-in_err-put_set-3-clause-bytes g c =
    let names = c.args.names.now in
    let e = c.args.effects.now in
    let p = prior_text names (slice_index e.prior c.args.at) in
    let f = future_text names (slice_index e.future c.args.at) in
    let n = concrete_text names (slice_index e.concrete c.args.at) in
    let p' = err_from_is_err_and c.from_residual-in_err-put_set-3.result c.from_residual-in_err-put_set-3.ensures.1 in
    put_failed _ _ _ _ p'.0 p'.1 (front_third _ _ _ _ p f n (codes "\n")
    (subst {A = ℕ} (λ set. Appends (g.S.Sink.told c.args.sink.now) (g.S.Sink.told c.put_set.new.sink) (prior_text c.args.names.now set)) c.prior_at.ensures c.in_ok-put_set.ensures.bytes)
    (subst {A = ℕ} (λ set. Appends (g.S.Sink.told c.put_set.new.sink) (g.S.Sink.told c.put_set-2.new.sink) (future_text c.args.names.now set)) c.future_at.ensures c.in_ok-put_set-2.ensures.bytes)
    (subst {A = ℕ} (λ set. AppendsFront (g.S.Sink.told c.put_set-2.new.sink) (g.S.Sink.told c.put_set-3.new.sink) (concrete_text c.args.names.now set)) c.concrete_at.ensures c.in_err-put_set-3.ensures.bytes))

pub returns-clause-bytes : goal.returns-clause-bytes
returns-clause-bytes g c =
    let names = c.args.names.now in
    let e = c.args.effects.now in
    let p = prior_text names (slice_index e.prior c.args.at) in
    let f = future_text names (slice_index e.future c.args.at) in
    let n = concrete_text names (slice_index e.concrete c.args.at) in
    four_put _ _ _ _ _ p f n (codes "\n") _
    (subst {A = ℕ} (λ set. Appends (g.S.Sink.told c.args.sink.now) (g.S.Sink.told c.put_set.new.sink) (prior_text c.args.names.now set)) c.prior_at.ensures c.in_ok-put_set.ensures.bytes)
    (subst {A = ℕ} (λ set. Appends (g.S.Sink.told c.put_set.new.sink) (g.S.Sink.told c.put_set-2.new.sink) (future_text c.args.names.now set)) c.future_at.ensures c.in_ok-put_set-2.ensures.bytes)
    (subst {A = ℕ} (λ set. Appends (g.S.Sink.told c.put_set-2.new.sink) (g.S.Sink.told c.put_set-3.new.sink) (concrete_text c.args.names.now set)) c.concrete_at.ensures c.in_ok-put_set-3.ensures.bytes)
    c.put.ensures.bytes

use Rattle.std.proofs.Common.{ℕ, ◌++◌, subst}
use Rattle.std.specs.Prelude.{codes, slice_index}
use Rattle.std.specs.Io.KnownBytes.{Appends}
use Rattle.dsu_io.specs.Sinks.{AppendsFront}
use Rattle.std.proofs.lemmas.Result.{err_from_is_err_and}
use Rattle.effects_report.specs.EffectsText.{names_text}
use Rattle.name_sets.specs.Texts.{text_of}
use Rattle.effects_report.specs.Shown.{names_in}
use Rattle.effects_report.proofs.Putting.{four_put, front_first, front_second, front_third, put_failed}
use Rattle.effects_report.proofs.write.put_title.Goals as goal

pub returns-in_err-put-clause-bytes : goal.returns-in_err-put-clause-bytes
returns-in_err-put-clause-bytes g c =
    let names = c.args.names.now in
    let name = text_of names c.args.function in
    let set = codes ":" ++ names_text (names_in names (slice_index c.args.effects.now.standard c.args.function)) in
    let p' = err_from_is_err_and c.from_residual.result c.from_residual.ensures.1 in
    put_failed _ _ _ _ p'.0 p'.1 (front_first _ _ (codes "function ") name set (codes "\n") c.in_err-put.ensures.bytes)

pub returns-in_err-put_text-clause-bytes : goal.returns-in_err-put_text-clause-bytes
returns-in_err-put_text-clause-bytes g c =
    let names = c.args.names.now in
    let name = text_of names c.args.function in
    let set = codes ":" ++ names_text (names_in names (slice_index c.args.effects.now.standard c.args.function)) in
    let p' = err_from_is_err_and c.from_residual-in_err-put_text.result c.from_residual-in_err-put_text.ensures.1 in
    put_failed _ _ _ _ p'.0 p'.1 (front_second _ _ _ (codes "function ") name set (codes "\n") c.in_ok-put.ensures.bytes c.in_err-put_text.ensures.bytes)

pub returns-in_err-put_set-clause-bytes : goal.returns-in_err-put_set-clause-bytes
returns-in_err-put_set-clause-bytes g c =
    let names = c.args.names.now in
    let name = text_of names c.args.function in
    let set = codes ":" ++ names_text (names_in names (slice_index c.args.effects.now.standard c.args.function)) in
    let p' = err_from_is_err_and c.from_residual-in_err-put_set.result c.from_residual-in_err-put_set.ensures.1 in
    put_failed _ _ _ _ p'.0 p'.1 (front_third _ _ _ _ (codes "function ") name set (codes "\n") c.in_ok-put.ensures.bytes c.in_ok-put_text.ensures.bytes
    (subst {A = ℕ} (λ set. AppendsFront (g.S.Sink.told c.put_text.new.sink) (g.S.Sink.told c.put_set.new.sink) (codes ":" ++ names_text (names_in c.args.names.now set))) c.standard_at.ensures c.in_err-put_set.ensures.bytes))

pub returns-clause-bytes : goal.returns-clause-bytes
returns-clause-bytes g c =
    let names = c.args.names.now in
    let name = text_of names c.args.function in
    let set = codes ":" ++ names_text (names_in names (slice_index c.args.effects.now.standard c.args.function)) in
    four_put _ _ _ _ _ (codes "function ") name set (codes "\n") _ c.in_ok-put.ensures.bytes c.in_ok-put_text.ensures.bytes
    (subst {A = ℕ} (λ set. Appends (g.S.Sink.told c.put_text.new.sink) (g.S.Sink.told c.put_set.new.sink) (codes ":" ++ names_text (names_in c.args.names.now set))) c.standard_at.ensures c.in_ok-put_set.ensures.bytes) c.put-2.ensures.bytes

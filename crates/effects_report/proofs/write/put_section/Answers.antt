use Rattle.std.proofs.Common.{List, map, subst}
use Rattle.std.specs.List.{flat_map}
use Rattle.std.specs.Prelude.{slice_index}
use Rattle.name_sets.specs.Texts.{text_of}
use Rattle.std.proofs.lemmas.Result.{err_from_is_err_and}
use Rattle.dsu_io.specs.Sinks.{PutAppends}
use Rattle.check_in_places.specs.declared.section.Spot.{Spot}
use Rattle.effects_report.specs.EffectsText.{title_text, line_text}
use Rattle.effects_report.specs.Shown.{line_of, names_in}
use Rattle.dsu_journal.proofs.Pieces.{AppendsFront-first, PutAppends-then}
use Rattle.effects_report.proofs.Putting.{put_failed}
use Rattle.effects_report.proofs.write.put_section.Goals as goal

pub returns-in_err-put_title-clause-bytes : goal.returns-in_err-put_title-clause-bytes
returns-in_err-put_title-clause-bytes g c =
    let names = c.args.names.now in
    let sets = c.args.effects.now in
    let section = c.args.section.now in
    let p' = err_from_is_err_and c.from_residual.result c.from_residual.ensures.1 in
    put_failed _ _ _ _ p'.0 p'.1
    (AppendsFront-first _ _ (title_text (text_of names section.function) (names_in names (slice_index sets.standard section.function)))
    (flat_map (line_text c.args.lines.now.text.now) (map (line_of names sets) section.spots.items)) c.in_err-put_title.ensures.bytes)

pub returns-clause-bytes : goal.returns-clause-bytes
returns-clause-bytes g c =
    let names = c.args.names.now in
    let sets = c.args.effects.now in
    let section = c.args.section.now in
    PutAppends-then _ _ _ _ (title_text (text_of names section.function) (names_in names (slice_index sets.standard section.function)))
    (flat_map (line_text c.args.lines.now.text.now) (map (line_of names sets) section.spots.items))
    c.in_ok-put_title.ensures.bytes
    (subst {A = List Spot} (λ spots. PutAppends (g.S.Sink.told c.put_title.new.sink) (g.S.Sink.told c.put_lines.new.sink) c.put_lines.result
    (flat_map (line_text c.args.lines.now.text.now) (map (line_of names sets) spots))) c.as_slice.ensures.value c.put_lines.ensures.bytes)

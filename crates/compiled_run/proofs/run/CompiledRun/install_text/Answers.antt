use Rattle.std.proofs.Common.{◌≡◌, ℕ, List, ◌∷◌, [], ◌++◌, is_some, length, option_map, slice_get, slice_index_or, Some, refl, sym, ap, subst, ◌∙◌, arith}
use Rattle.std.proofs.lemmas.Option.{slice_get_read}
use Rattle.version_laws.specs.Histories.{last_text, versions_by}
use Rattle.code_runs.specs.CodeData.{Data}
use Rattle.word_installs.specs.NewRows.{AreNewRows}
use Rattle.word_installs.specs.Prepared.{ArePrepared}
use Rattle.code_image.specs.Images.{names_in}
use Rattle.code_machine.specs.Seen.{code_world, finish_of}
use Rattle.code_machine.specs.Versions.{texts_by, versions_of}
use Rattle.compiled_run.proofs.Asking.{map_some, none_if}
use Rattle.compiled_run.proofs.Installing.{changes_are, ended, few, no_text, old_table, on_err, past_there, prepared, runs_on, table_is, table_there, text_there, went}
use Rattle.compiled_run.proofs.RunsAfter.{unchanged}
use Rattle.compiled_run.proofs.run.CompiledRun.install_text.Goals as goal

pub returns-then-is_some-clause-made : goal.returns-then-is_some-clause-made
returns-then-is_some-clause-made c = λ texts limits moves h needs named are. (
  h,
  ended texts limits moves _ _ _ h c.args.number
      (ap is_some (sym c.finish.ensures) ∙ map_some finish_of c.finish.result ∙ sym c.is_some.ensures ∙ c.if-is_some.true),
)

pub returns-in_default-clause-made : goal.returns-in_default-clause-made
returns-in_default-clause-made c = λ texts limits moves h needs named are. (
  h,
  no_text texts limits moves _ _ _ h c.args.number
      (ap (λ ts. slice_get ts c.args.number) (sym c.as_slice-tables.ensures.value)
      ∙ past_there c.get.result c.as_slice-tables.result.now c.args.number _ c.in_default.not-Some c.get.ensures.lookup.3),
)

pub returns-in_default-get-clause-made : goal.returns-in_default-get-clause-made
returns-in_default-get-clause-made c = λ texts limits moves h needs named are.
    absurd (table_there texts limits moves _ _ _ h c.in_force.result _ (c.in_force.ensures texts h.machine_is)
    (ap (λ ts. slice_get ts c.in_force.result) (sym c.as_slice-tables.ensures.value)
    ∙ past_there c.get-2.result c.as_slice-tables.result.now c.in_force.result _ c.in_default-get.not-Some c.get-2.ensures.lookup.3))

pub returns-in_err-install-clause-stays : goal.returns-in_err-install-clause-stays
returns-in_err-install-clause-stays c =
    let failed = c.in_err-install.ensures in
    on_err c.from_residual-in_err-install.result _ (λ texts limits moves h.
    unchanged texts limits moves _ _ _ h c.install.new.self (failed.fault.2 texts h.machine_is) failed.fault.1 failed.fault.0 failed.output)

pub returns-in_err-install-clause-lasts : goal.returns-in_err-install-clause-lasts
returns-in_err-install-clause-lasts c = λ n l.
    let failed = c.in_err-install.ensures in
    let same = ap length failed.output in
    let short = l.spent.short in
    record {
      spent = record {
        moves = l.spent.moves;
        used = failed.used l.spent.moves l.spent.used;
        within = l.spent.within;
        short = omega (arith, short, same);
        works = l.spent.works;
      };
      emptied = failed.output ∙ l.emptied;
    }

pub returns-clause-made : goal.returns-clause-made
returns-clause-made c = λ texts limits moves h needs named are.
    let made = c.in_ok-install.ensures in
    let new = c.install.new.self in
    let m = c.args.self.now.machine in
    let tables = c.as_slice-tables.result.now in
    let k = c.args.number in
    let q = slice_index_or texts k [] in
    let lookup = c.in-Some.ensures.lookup in
    let at : slice_get c.args.self.now.tables.items k ≡ Some c.in-Some.new.now =
    ap (λ ts. slice_get ts k) (sym c.as_slice-tables.ensures.value)
    ∙ slice_get_read tables (length tables) k c.in-Some.new.now refl lookup.3.0 lookup.1 in
    let before = c.in-Some-get.ensures.lookup in
    let old_at : slice_get c.args.self.now.tables.items c.in_force.result ≡ Some c.in-Some-get.old.now =
    ap (λ ts. slice_get ts c.in_force.result) (sym c.as_slice-tables.ensures.value)
    ∙ slice_get_read tables (length tables) c.in_force.result c.in-Some-get.old.now refl before.3.0 before.1 in
    let there = text_there texts limits moves _ _ _ h k c.in-Some.new.now at in
    let is_text : c.in_ok-text.text ≡ k = c.in_ok-text.ensures in
    let there_too : slice_get texts c.in_ok-text.text ≡ Some q = ap (slice_get texts) is_text ∙ there in
    let new_table = table_is texts limits moves _ _ _ h k q c.in-Some.new.now there at in
    let prepared_so =
    c.in_ok-made.ensures (names_in texts) (last_text (versions_by texts moves)) q
    (old_table texts limits moves _ _ _ h c.in_force.result c.in-Some-get.old.now (c.in_force.ensures texts h.machine_is) old_at) new_table named are in
    let rows =
    subst (λ (d : Data). AreNewRows (names_in texts).cells (last_text (versions_by texts moves)) q d c.in_ok-made.made.rows.items) c.shared.ensures
    prepared_so.0 in
    let whole =
    subst (λ (gone : List ℕ). ArePrepared (texts_by texts (versions_of m)) (names_in texts) q (code_world m).shared c.in_ok-made.made.rows.items gone)
    (sym c.as_slice.ensures.value)
    (prepared texts limits moves _ _ _ h q c.in-Some.new.now new_table c.in_ok-made.made.rows.items rows) in
    let going =
    runs_on texts limits moves _ _ _ h
    (sym c.finish.ensures ∙ ap (option_map finish_of) (none_if c.finish.result (sym c.is_some.ensures ∙ c.if-is_some.false))) in
    let text_is = few texts limits moves _ _ _ h k q there refl going needs in
    went texts limits moves _ _ _ h k q there refl going needs c.code_moves_as_the_source_machine.ensures.installs
    c.accepted_texts_are_coded.ensures new
    (made.run texts q h.machine_is there_too text_is (changes_are texts limits moves _ _ _ h q c.in_ok-made.made.changes prepared_so.1))
    (made.versions ∙ ap (λ n. versions_of m ++ n ∷ []) is_text) made.output
    (made.installs texts q h.machine_is there_too whole)

pub returns-clause-lasts : goal.returns-clause-lasts
returns-clause-lasts c = λ n l.
    let made = c.in_ok-install.ensures in
    let same = ap length made.output in
    let short = l.spent.short in
    record {
      spent = record {
        moves = l.spent.moves;
        used = made.used l.spent.moves l.spent.used;
        within = l.spent.within;
        short = omega (arith, short, same);
        works = l.spent.works;
      };
      emptied = made.output ∙ l.emptied;
    }

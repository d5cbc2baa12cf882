use Rattle.std.proofs.Common.{◌≡◌, List, ◌∷◌, [], ◌+◌, length, length-append, take, sym, ap, subst, ◌∙◌}
use Rattle.std.proofs.lemmas.List.{take_all, take_more, length-map}
use Rattle.c_semantics.specs.Values.{Value}
use Rattle.versioned_structs.specs.Transforms.{new_value, new_values}
use Rattle.word_layouts.specs.Copies.{IsCopy}
use Rattle.word_layouts.proofs.Copying.{copies_more}
use Rattle.word_layouts.proofs.copies.copied.Goals as goal

pub loop-change-preserved : goal.loop-change-preserved
loop-change-preserved c =
    let changes = c.as_slice-changes.result.now in
    let copies = c.loop-change.copies.items in
    let i = c.loop-change.change-index in
    let change = c.change-item.result in
    let copy = c.in_ok-copy.copy in
    let before = c.loop-change.invariant in (
      ap length c.in_ok-push.ensures.items ∙ length-append copies (copy ∷ []) ∙ ap (λ n. n + 1) before.0,
      λ old.
          ap (λ l. new_values l old) c.in_ok-push.ensures.items
          ∙ copies_more changes copies i old copy change before.1 (subst (λ x. IsCopy x copy) c.change-item.is c.in_ok-copy.ensures)
          ∙ sym (ap (λ l. new_values l old) (take_more changes i change c.loop-change-test.true)),
    )

pub returns : goal.returns
returns c =
    let changes = c.as_slice-changes.result.now in
    let all : take c.loop-change.change-index changes ≡ c.args.transform.now =
    take_all c.loop-change.change-index changes c.loop-change-test.false ∙ c.as_slice-changes.ensures.changes
    in
    let same : (old : List Value) → new_values c.of.result old ≡ new_values c.args.transform.now old =
    λ old. ap (λ l. new_values l old) c.of.ensures ∙ c.loop-change.invariant.1 old ∙ ap (λ l. new_values l old) all
    in
    record {
      count = sym (length-map c.of.result (new_value [])) ∙ ap length (same []) ∙ length-map c.args.transform.now (new_value []);
      values = same;
    }

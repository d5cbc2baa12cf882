-- A copy of a table with one text more.
use Rattle.std.proofs.Common.{◌≡◌, ℕ, ◌+◌, ◌<◌, min, List, [], ◌∷◌, ◌++◌, take, length, get_or, Contains, Some, slice_get, sym, ap, ◌∙◌, arith, add-one}
use Rattle.std.proofs.Math.Seq.{take-suc}
use Rattle.std.proofs.lemmas.List.{length-take, get_or-take}
use Rattle.std.proofs.lemmas.Option.{slice_get-get_or, slice_get_within, get_or_from_slice_get}
use Rattle.name_sets.specs.Texts.{IsTable, with_text}
use Rattle.name_sets.proofs.TextLemmas.{with_text-absent}
use Rattle.c_tree.specs.BareExpr.{Bytes}

pub copied_more : (texts : List Bytes) (i : ℕ) (text : Bytes) → IsTable texts → slice_get texts i ≡ Some text
    → with_text (take i texts) text ≡ take (i + 1) texts
copied_more texts i text table here = with_text-absent (take i texts) text absent ∙ sym more
  where
    within : i < length texts
    within = slice_get_within texts i text here

    absent : Contains (take i texts) text → ⊥
    absent there =
        let j = there.0 in
        let short : j < length (take i texts) = there.1 in
        let l : length (take i texts) ≡ min i (length texts) = length-take i texts in
        let below : j < i = omega arith in
        let item : get_or texts j text ≡ text = sym (get_or-take i texts j text below) ∙ there.2 in
        let one : j ≡ i = table.distinct j i text (slice_get-get_or texts j text (omega arith) ∙ ap Some item) here in
        absurd (omega arith)

    more : take (i + 1) texts ≡ take i texts ++ text ∷ []
    more = ap (λ k. take k texts) (add-one i) ∙ take-suc texts i text within ∙ ap (λ t. take i texts ++ t ∷ []) (get_or_from_slice_get texts i text text here)

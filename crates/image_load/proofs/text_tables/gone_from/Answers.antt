use Rattle.std.proofs.Common.{◌≡◌, ◌≤◌, ◌+◌, ◌++◌, ◌∷◌, [], ℕ, Bool, List, map, not, length, Some, option_map, refl, sym, ap, subst, ◌∙◌, arith}
use Rattle.std.specs.Prelude.{slice_get, string_bytes}
use Rattle.std.proofs.lemmas.List.{length-map}
use Rattle.std.proofs.lemmas.Option.{slice_get-map, slice_get_read}
use Rattle.c_tree.specs.Bare.{bare_def}
use Rattle.c_tree.specs.BareExpr.{Bytes}
use Rattle.c_semantics.specs.Texts.{definition}
use Rattle.source_model.specs.Installs.{is_mutex}
use Rattle.image_load.proofs.Rows.{NumbersTo, all_numbers, number_in, number_out}
use Rattle.image_load.proofs.text_tables.gone_from.Goals.{then-not-has_mutex+in_ok-small+in_ok-push, else-not-has_mutex}
use Rattle.image_load.proofs.text_tables.gone_from.Goals as goal

pub loop-place-preserved : goal.loop-place-preserved
loop-place-preserved c =
    let test : Bytes → Bool = λ name. not (is_mutex (definition (map bare_def c.args.known.now) name)) in
    let names = map string_bytes c.args.names.now in
    let place = c.loop-place.place in
    let gone = c.loop-place.gone.items in
    let item = c.index-names-place.result in
    let own = string_bytes item in
    let here : slice_get names place ≡ Some own =
    slice_get-map string_bytes c.args.names.now place
    ∙ ap (option_map string_bytes) (slice_get_read c.args.names.now (length c.args.names.now) place item refl c.loop-place-test.true c.index-names-place.is) in
    let has : c.has_mutex.result ≡ is_mutex (definition (map bare_def c.args.known.now) own) =
    c.has_mutex.ensures ∙ ap (λ n. is_mutex (definition (map bare_def c.args.known.now) n)) c.as_str.ensures.value in
    elim c.if-not-has_mutex.branch [
      | then-not-has_mutex+in_ok-small+in_ok-push w ↦
          let pushed = ap (λ v. v.items) w.gone-is ∙ w.in_ok-push.ensures.items ∙ ap (λ (n : ℕ). gone ++ n ∷ []) w.in_ok-small.ensures in
          subst (λ (ns : List ℕ). NumbersTo test names (place + 1) ns) (sym pushed)
          (number_in test names place gone c.loop-place.invariant own here (ap not (sym has ∙ w.if-not-has_mutex.true)))
      | else-not-has_mutex w ↦
          subst (λ (ns : List ℕ). NumbersTo test names (place + 1) ns) (sym (ap (λ v. v.items) w.gone-is))
          (number_out test names place gone c.loop-place.invariant own here (ap not (sym has ∙ w.if-not-has_mutex.false)))
    ]

pub returns : goal.returns
returns c =
    let test : Bytes → Bool = λ name. not (is_mutex (definition (map bare_def c.args.known.now) name)) in
    let names = map string_bytes c.args.names.now in
    let past : length names ≤ c.loop-place.place = omega (arith, c.loop-place-test.false, length-map c.args.names.now string_bytes) in
    all_numbers test names c.loop-place.place c.loop-place.gone.items past c.loop-place.invariant

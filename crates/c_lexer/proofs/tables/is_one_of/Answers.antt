use Rattle.std.proofs.Common.{◌≡◌, ℕ, ◌+◌, true, false, ◌||◌, map, take, get_or, sym, ◌∙◌, List, [], ◌∷◌, ap, refl, Bor}
use Rattle.std.specs.List.{list_any}
use Rattle.std.specs.Str.{bytes_eq}
use Rattle.std.proofs.lemmas.List.Folds.{list_any_more, list_any_at}
use Rattle.c_lexer.specs.Words.{is_one_of}
use Rattle.c_lexer.proofs.tables.is_one_of.Goals as goal

-- a test of what the references point to
any_of : (text : List ℕ) (texts : List (Bor (List ℕ))) → is_one_of (map (λ t. t.now) texts) text ≡ list_any (λ t. bytes_eq text t.now) texts
any_of text [] = refl
any_of text (t ∷ texts) = ap (λ b. bytes_eq text t.now || b) (any_of text texts)

pub returns-then-eq : goal.returns-then-eq
returns-then-eq c =
    let at : true ≡ bytes_eq c.args.text.now (get_or c.args.texts.now c.loop-one.one-index (record { ref_ptr = (0, 0); now = [] })).now
    = c.if-eq.ensures ∙ ap (bytes_eq c.args.text.now) c.as_bytes.ensures.value in
    sym (any_of _ c.args.texts.now ∙ list_any_at (λ t. bytes_eq c.args.text.now t.now) c.args.texts.now c.loop-one.one-index _ c.loop-one-test.true (sym at))

pub loop-one-preserved : goal.loop-one-preserved
loop-one-preserved c =
    let at : false ≡ bytes_eq c.args.text.now (get_or c.args.texts.now c.loop-one.one-index (record { ref_ptr = (0, 0); now = [] })).now
    = c.if-eq.ensures ∙ ap (bytes_eq c.args.text.now) c.as_bytes.ensures.value in
    let before : list_any (λ t. bytes_eq c.args.text.now t.now) (take c.loop-one.one-index c.args.texts.now) ≡ false
    = sym (any_of _ (take c.loop-one.one-index c.args.texts.now)) ∙ c.loop-one.invariant in
    let more = list_any_more (λ t. bytes_eq c.args.text.now t.now) c.args.texts.now c.loop-one.one-index (record { ref_ptr = (0, 0); now = [] }) c.loop-one-test.true in
    any_of _ (take (c.loop-one.one-index + 1) c.args.texts.now) ∙ more ∙ ap (λ b. b || bytes_eq c.args.text.now (get_or c.args.texts.now c.loop-one.one-index (record { ref_ptr = (0, 0); now = [] })).now) before ∙ sym at

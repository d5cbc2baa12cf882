use Rattle.std.proofs.Common.{◌≡◌, ℕ, ◌+◌, true, false, ◌||◌, map, take, get_or, sym, ◌∙◌, List, [], ◌∷◌, ap, refl, Bor}
use Rattle.std.specs.List.{list_any}
use Rattle.std.proofs.lemmas.List.Folds.{list_any_more, list_any_at}
use Rattle.c_lexer.specs.Units.{names_header}
use Rattle.c_lexer.proofs.tables.is_some_header.Goals as goal

-- a test of what the references point to
any_of : (text : List ℕ) (names : List (Bor (List ℕ))) → list_any (names_header text) (map (λ t. t.now) names) ≡ list_any (λ t. names_header text t.now) names
any_of text [] = refl
any_of text (t ∷ names) = ap (λ b. names_header text t.now || b) (any_of text names)

pub returns-then-names_header : goal.returns-then-names_header
returns-then-names_header c =
    let at : true ≡ names_header c.args.text.now (get_or c.args.names.now c.loop-name.name-index (record { ref_ptr = (0, 0); now = [] })).now
    = c.if-names_header.ensures ∙ ap (names_header c.args.text.now) c.as_bytes.ensures.value in
    sym (any_of _ c.args.names.now ∙ list_any_at (λ t. names_header c.args.text.now t.now) c.args.names.now c.loop-name.name-index _ c.loop-name-test.true (sym at))

pub loop-name-preserved : goal.loop-name-preserved
loop-name-preserved c =
    let text = c.args.text.now in
    let names = c.args.names.now in
    let i = c.loop-name.name-index in
    let at : false ≡ names_header text (get_or names i (record { ref_ptr = (0, 0); now = [] })).now
    = c.if-names_header.ensures ∙ ap (names_header text) c.as_bytes.ensures.value in
    let before : list_any (λ t. names_header text t.now) (take i names) ≡ false = sym (any_of text (take i names)) ∙ c.loop-name.invariant in
    let more = list_any_more (λ t. names_header text t.now) names i (record { ref_ptr = (0, 0); now = [] }) c.loop-name-test.true in
    any_of text (take (i + 1) names) ∙ more ∙ ap (λ b. b || names_header text (get_or names i (record { ref_ptr = (0, 0); now = [] })).now) before ∙ sym at

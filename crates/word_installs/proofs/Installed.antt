-- What is shared after an install, number by number.
use Rattle.std.proofs.Common.{◌≡◌, ℕ, zero, suc, ◌+◌, ◌<◌, Bool, true, false, not, List, [], ◌∷◌, length, length-set, get_or, set, Option, None, arith, refl, sym, ap, subst, ◌∙◌, if◌then◌else◌}
use Rattle.std.specs.Prelude.{◌==◌, ◌||◌}
use Rattle.std.proofs.lemmas.Bool.{eqb-true, eqb-false}
use Rattle.std.proofs.lemmas.List.{get_or-set_same, get_or-set_other}
use Rattle.c_tree.specs.BareExpr.{Bytes}
use Rattle.c_tree.specs.BareDef.{BareDef}
use Rattle.c_semantics.specs.Texts.{definition}
use Rattle.source_model.specs.Installs.{is_mutex}
use Rattle.version_laws.specs.Histories.{last_text}
use Rattle.program_locks.specs.Locking.{holder_of}
use Rattle.code_runs.specs.CodeData.{Data, Names, number_of, row, with_row}
use Rattle.code_runs.specs.CodeThreads.{CodeWorld}
use Rattle.code_runs.specs.CodeInstalls.{Carries, Installs, holder_after}
use Rattle.code_runs.specs.SharedStops.{with_holders}
use Rattle.word_installs.specs.declared.rows.NewRow.{NewRow}
use Rattle.word_installs.specs.NewRows.{with_rows, words_after}
use Rattle.word_installs.specs.Prepared.{ArePrepared, has_number, installed, without_holders}

-- ---- an element after a change at some place

-- at a place within the list
set_within : {X : Type 0} (xs : List X) (m n : ℕ) (x y : X) → n < length xs → get_or (set xs m x) n y ≡ (if m == n then x else get_or xs n y)
set_within {X} xs m n x y inside = by (m == n) refl
  where
    by : (b : Bool) → (m == n) ≡ b → get_or (set xs m x) n y ≡ (if b then x else get_or xs n y)
    by true e =
        let same : m ≡ n = eqb-true m n e in
        ap (λ k. get_or (set xs k x) n y) same ∙ get_or-set_same xs n x y inside
    by false e = get_or-set_other xs m n x y (λ same. eqb-false m n e (sym same))

-- and of what is there at any place where nothing stands past the end
set_to_default : {X : Type 0} (xs : List X) (m n : ℕ) (x : X) → get_or (set xs m x) n x ≡ (if m == n then x else get_or xs n x)
set_to_default {X} xs m n x = by (m == n) refl
  where
    same_place : (ys : List X) (k : ℕ) → get_or (set ys k x) k x ≡ x
    same_place [] k = refl
    same_place (y ∷ ys) zero = refl
    same_place (y ∷ ys) (suc k) = same_place ys k

    by : (b : Bool) → (m == n) ≡ b → get_or (set xs m x) n x ≡ (if b then x else get_or xs n x)
    by true e = ap (λ k. get_or (set xs k x) n x) (eqb-true m n e) ∙ same_place xs n
    by false e = get_or-set_other xs m n x x (λ same. eqb-false m n e (sym same))

-- ---- rows in place

pub row_after : (rs : List NewRow) (d : Data) (n : ℕ) → n < length d.cells → row (with_rows rs d) n ≡ words_after rs n (row d n)
row_after [] d n inside = refl
row_after (r ∷ rs) d n inside =
    row_after rs (with_row d r.number r.words.items) n (subst (λ k. n < k) (sym (length-set d.cells r.number r.words.items)) inside)
    ∙ ap (words_after rs n) (set_within d.cells r.number n r.words.items [] inside)

rows_count : (rs : List NewRow) (d : Data) → length (with_rows rs d).cells ≡ length d.cells
rows_count [] d = refl
rows_count (r ∷ rs) d = rows_count rs (with_row d r.number r.words.items) ∙ length-set d.cells r.number r.words.items

-- all else stays
abbrev Others : Data → Data → Type 0
Others d e = (e.objects ≡ d.objects) × (e.holders ≡ d.holders) × (e.version ≡ d.version)

rows_alone : (rs : List NewRow) (d : Data) → Others d (with_rows rs d)
rows_alone [] d = (refl, refl, refl)
rows_alone (r ∷ rs) d = rows_alone rs (with_row d r.number r.words.items)

-- ---- mutexes that are gone

gone_after : (ns : List ℕ) (d : Data) (n : ℕ) → holder_of (without_holders ns d).holders n ≡ (if has_number ns n then None else holder_of d.holders n)
gone_after [] d n = refl
gone_after (m ∷ ns) d n =
    gone_after ns (with_holders d (set d.holders m None)) n
    ∙ ap (λ (o : Option ℕ). if has_number ns n then None else o) (set_to_default d.holders m n None)
    ∙ by (m == n) (has_number ns n)
  where
    by : (a b : Bool) → (if b then None else (if a then None else holder_of d.holders n)) ≡ (if a || b then None else holder_of d.holders n)
    by true true = refl
    by true false = refl
    by false true = refl
    by false false = refl

gone_count : (ns : List ℕ) (d : Data) → length (without_holders ns d).holders ≡ length d.holders
gone_count [] d = refl
gone_count (m ∷ ns) d = gone_count ns (with_holders d (set d.holders m None)) ∙ length-set d.holders m None

abbrev Rest : Data → Data → Type 0
Rest d e = (e.cells ≡ d.cells) × (e.objects ≡ d.objects) × (e.version ≡ d.version)

gone_alone : (ns : List ℕ) (d : Data) → Rest d (without_holders ns d)
gone_alone [] d = (refl, refl, refl)
gone_alone (m ∷ ns) d = gone_alone ns (with_holders d (set d.holders m None))

-- ---- the whole

-- the version, before it is counted
pub version_stays : (rs : List NewRow) (gone : List ℕ) (d : Data) → (without_holders gone (with_rows rs d)).version ≡ d.version
version_stays rs gone d = (gone_alone gone (with_rows rs d)).2 ∙ (rows_alone rs d).2

holder_kept : (q : List BareDef) (name : Bytes) (holder : Option ℕ) (b : Bool) → b ≡ not (is_mutex (definition q name))
    → (if b then None else holder) ≡ holder_after q name holder
holder_kept q name holder b e = ap (λ (c : Bool). if c then None else holder) e ∙ by (is_mutex (definition q name))
  where
    by : (c : Bool) → (if not c then None else holder) ≡ (if c then holder else None)
    by true = refl
    by false = refl

installs_in : (texts : List (List BareDef)) (names : Names) (q : List BareDef) (w : CodeWorld) (rs : List NewRow) (gone : List ℕ)
    → ArePrepared texts names q w.shared rs gone → Installs texts names q w (record w { shared = installed rs gone w.shared })
installs_in texts names q w rs gone prepared =
    let d = w.shared in
    let put = with_rows rs d in
    let cells = (gone_alone gone put).0 in
    record {
      rows = ap length cells ∙ rows_count rs d;
      cells = λ name own is has.
          let n = number_of names.cells name in
          let words : get_or (without_holders gone put).cells n [] ≡ words_after rs n (row d n) =
          ap (λ (l : List (List ℕ)). get_or l n []) cells ∙ row_after rs d n (prepared.places name own is has)
          in
          subst (Carries (last_text texts) q name own (definition (last_text texts) name) (row d n)) (sym words) (prepared.words name own is has);
      objects = (gone_alone gone put).1 ∙ (rows_alone rs d).0;
      mutexes = gone_count gone put ∙ ap length (rows_alone rs d).1;
      holders = λ name known.
          let n = number_of names.mutexes name in
          gone_after gone put n
          ∙ ap (λ (l : List (Option ℕ)). if has_number gone n then None else holder_of l n) (rows_alone rs d).1
          ∙ holder_kept q name (holder_of d.holders n) (has_number gone n) (prepared.mutexes name known);
      version =
          (let e : (without_holders gone put).version + 1 ≡ suc (without_holders gone put).version = omega arith in e)
          ∙ ap suc (version_stays rs gone d);
      slots = refl;
      threads = refl;
      finish = refl;
    }

pub installs : (texts : List (List BareDef)) (names : Names) (q : List BareDef) (w : CodeWorld) (d : Data) (rs : List NewRow) (gone : List ℕ)
    → w.shared ≡ d → ArePrepared texts names q d rs gone → Installs texts names q w (record w { shared = installed rs gone d })
installs texts names q w d rs gone is =
    subst (λ (e : Data). ArePrepared texts names q e rs gone → Installs texts names q w (record w { shared = installed rs gone e })) is
    (installs_in texts names q w rs gone)

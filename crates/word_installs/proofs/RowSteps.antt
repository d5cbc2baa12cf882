-- Rows that are made one after the other, by the numbers of names.
use Rattle.std.proofs.Common.{◌≡◌, ℕ, zero, suc, ◌+◌, ◌<◌, ◌≤◌, Bool, true, false, not, cond, List, [], ◌∷◌, ◌++◌, length, get_or, slice_get, Contains, Option, Some, None, refl, sym, ap, subst, ◌∙◌, bytes_eq, arith, if◌then◌else◌}
use Rattle.std.specs.Prelude.{◌==◌, IsTrue}
use Rattle.std.specs.Option.{option_flatten}
use Rattle.std.proofs.lemmas.Bool.{eqb-true, eqb-false, ne_eqb}
use Rattle.std.proofs.lemmas.Slice.Eq.{bytes_eq-Decides}
use Rattle.c_tree.specs.BareExpr.{Bytes}
use Rattle.c_tree.specs.BareDef.{BareDef}
use Rattle.c_semantics.specs.Texts.{definition}
use Rattle.source_model.specs.Installs.{has_cells}
use Rattle.code_runs.specs.CodeData.{Data, number_of, row}
use Rattle.code_runs.specs.CodeInstalls.{Carries}
use Rattle.word_installs.specs.declared.rows.NewRow.{NewRow}
use Rattle.word_installs.specs.declared.rows.TextRow.{TextRow}
use Rattle.word_installs.specs.TextRows.{AreRowsOf, row_of}
use Rattle.word_installs.specs.NewRows.{AddsWords, AreNewRows, GetsWords, words_after, words_or}

-- a name of a list has a number below the list's length
number_within : (names : List Bytes) (name : Bytes) → Contains names name → number_of names name < length names
number_within names name c = from names c.0 c.1 c.2
  where
    from : (ns : List Bytes) (k : ℕ) → k < length ns → get_or ns k name ≡ name → number_of ns name < length ns
    from [] k inside e = absurd (omega (arith, inside))
    from (x ∷ ns) k inside e = by (bytes_eq name x) refl k inside e (from ns)
      where
        by : (b : Bool) → bytes_eq name x ≡ b → (k : ℕ) → k < suc (length ns) → get_or (x ∷ ns) k name ≡ name
            → ((j : ℕ) → j < length ns → get_or ns j name ≡ name → number_of ns name < length ns)
            → cond (not b) (1 + number_of ns name) 0 < suc (length ns)
        by true is k inside e rest = omega arith
        by false is zero inside e rest =
            let same : bytes_eq name x ≡ true = (bytes_eq-Decides name x).1 (sym e) in absurd (let clash : true ≡ false = sym same ∙ is in cc)
        by false is (suc k) inside e rest = let within = rest k (omega (arith, inside)) e in omega (arith, within)

-- a row more at the end
words_pushed : (rs : List NewRow) (r : NewRow) (n : ℕ) (words : List ℕ)
    → words_after (rs ++ r ∷ []) n words ≡ (if r.number == n then r.words.items else words_after rs n words)
words_pushed [] r n words = refl
words_pushed (x ∷ rs) r n words = words_pushed rs r n (if x.number == n then x.words.items else words)

pub adds_row : (rs more : List NewRow) (r : NewRow) → more ≡ rs ++ r ∷ [] → AddsWords r.number (Some r.words.items) rs more
adds_row rs more r is = λ n words. ap (λ (l : List NewRow). words_after l n words) is ∙ words_pushed rs r n words

pub adds_none : (rs : List NewRow) (number : ℕ) → AddsWords number None rs rs
adds_none rs number = λ n words. by (number == n) (words_after rs n words)
  where
    by : (b : Bool) (words : List ℕ) → words ≡ (if b then words else words)
    by true words = refl
    by false words = refl

-- the rows of the names with smaller numbers are made, and no other ones
pub record Made (names : List Bytes) (p q : List BareDef) (old : Data) (rows : List NewRow) (n : ℕ) : Type 0 where
  pub words : (name : Bytes) (d : BareDef) → definition q name ≡ Some d → IsTrue (has_cells d) → number_of names name < n
      → Carries p q name d (definition p name) (row old (number_of names name))
      (words_after rows (number_of names name) (row old (number_of names name)))
  pub later : (m : ℕ) (words : List ℕ) → n ≤ m → words_after rows m words ≡ words

module _ (names : List Bytes) (p q : List BareDef) (before after : List (Option TextRow)) (was : AreRowsOf names p before)
    (is : AreRowsOf names q after) (old : Data) where
  pub none_made : Made names p q old [] 0
  none_made = record { words = λ name d e has below. absurd (omega (arith, below)); later = λ m words above. refl }

  -- one number more
  pub made_more : (rows more : List NewRow) (n next : ℕ) (made : Option (List ℕ)) → next ≡ n + 1 → Made names p q old rows n
      → GetsWords p q (option_flatten (slice_get before n)) (option_flatten (slice_get after n)) (row old n) made
      → AddsWords n made rows more → Made names p q old more next
  made_more rows more n next made next_is so_far gets adds = record {
    words = λ name d e has below.
        by name d e has (subst (λ k. number_of names name < k) next_is below) (n == number_of names name) refl;
    later = λ m words above.
        adds m words
        ∙ ap (λ b. if b then words_or made (words_after rows m words) else words_after rows m words) (ne_eqb n m (λ same. omega (arith, above, same, next_is)))
        ∙ so_far.later m words (omega (arith, above, next_is));
  }
    where
      by : (name : Bytes) (d : BareDef) → definition q name ≡ Some d → IsTrue (has_cells d) → number_of names name < n + 1
          → (b : Bool) → (n == number_of names name) ≡ b
          → Carries p q name d (definition p name) (row old (number_of names name))
          (words_after more (number_of names name) (row old (number_of names name)))
      by name d e has below true same =
          let k = number_of names name in
          let at : n ≡ k = eqb-true n k same in
          let known = is.numbered name d e has in
          let own = row old k in
          let gets_here : GetsWords p q (row_of before names name) (row_of after names name) own made =
          subst (λ i. GetsWords p q (option_flatten (slice_get before i)) (option_flatten (slice_get after i)) (row old i) made) at gets
          in
          let words : words_after more k own ≡ words_or made own =
          adds k own
          ∙ ap (λ b. if b then words_or made (words_after rows k own) else words_after rows k own) same
          ∙ ap (words_or made) (so_far.later k own (omega (arith, at)))
          in
          subst (Carries p q name d (definition p name) own) (sym words)
          (gets_here name d (was.each name known) (is.each name known) e has)
      by name d e has below false other =
          let k = number_of names name in
          let own = row old k in
          let apart : n ≡ k → ⊥ = eqb-false n k other in
          let words : words_after more k own ≡ words_after rows k own =
          adds k own ∙ ap (λ b. if b then words_or made (words_after rows k own) else words_after rows k own) other
          in
          subst (Carries p q name d (definition p name) own) (sym words) (so_far.words name d e has (less k n below apart))
        where
          less : (k n : ℕ) → k < n + 1 → (n ≡ k → ⊥) → k < n
          less k n below apart = omega (arith, below, apart)

  pub all_made : (rows : List NewRow) (n : ℕ) → length after ≤ n → Made names p q old rows n → AreNewRows names p q old rows
  all_made rows n all made = λ name d e has.
      let known = number_within names name (is.numbered name d e has) in
      let count = is.count in
      made.words name d e has (omega (arith, all, known, count))

-- What is kept of a record where a name is used.
use Rattle.std.proofs.Common.{◌≡◌, ℕ, ◌≤◌, ◌<◌, max, Bool, true, false, ◌&&◌, ◌||◌, List, [], ◌∷◌, ◌++◌, None, refl, sym, ap, ap₂, subst, ◌∙◌, bytes_eq, arith}
use Rattle.std.specs.Prelude.{nat_le, All}
use Rattle.std.specs.List.{list_all}
use Rattle.std.proofs.lemmas.Bool.Decides.{nat_tests}
use Rattle.std.proofs.lemmas.List.Elements.{All-push}
use Rattle.std.proofs.lemmas.List.Folds.{list_all-append}
use Rattle.c_tree.specs.BareExpr.{Bytes}
use Rattle.c_tree.specs.BareDef.{BareDef}
use Rattle.name_sets.specs.NameLists.{is_among}
use Rattle.c_semantics.specs.Threads.{Use, Record}
use Rattle.source_model.specs.Versions.{Table, current}
use Rattle.source_model.specs.Uses.{use_of}
use Rattle.source_model.specs.Spans.{has_version}
use Rattle.version_spans.specs.declared.names.NameForm.{NameForm as Form}
use Rattle.version_spans.specs.declared.names.NameSet.{NameSet}
use Rattle.version_spans.specs.declared.record.Record.{Record as Kept}
use Rattle.version_spans.specs.Beginnings.{IsTableOf, is_defined, is_entry, since}
use Rattle.version_spans.specs.Kept.{IsKept, last_of, name_of, names_in, texts_in, with_name}
use Rattle.version_spans.proofs.Numbers.{and_true}
use Rattle.version_spans.proofs.Beginning.{since_at_most}
use Rattle.version_spans.proofs.Tables.{entry_there}
use Rattle.version_spans.proofs.KeptNames.{used, in_names, names_with, used_with, there_already, repeated}

-- a test of all uses with one more
pub all_with : (f : Use → Bool) (uses : Record) (u : Use) → list_all f (uses ++ u ∷ []) ≡ (list_all f uses && f u)
all_with f uses u = list_all-append f uses (u ∷ []) ∙ ap (λ b. list_all f uses && b) (and_true (f u))

-- the current entry of a name is that of its use
pub current_pushed : (table : Table) (uses : Record) (name : Bytes) → All (λ u. u ≡ use_of table u.name) uses
    → All (λ u. u ≡ use_of table u.name) (uses ++ use_of table name ∷ [])
current_pushed table uses name h = All-push (λ (u : Use). u ≡ use_of table u.name) uses (use_of table name) h refl

-- a name that is there already
pub use_repeated : (texts : List (List BareDef)) (table : Table) (uses : Record) (r : Kept) (form : Form) (text : Bytes)
    → IsTableOf texts table → is_defined table (name_of form text) ≡ true → IsKept table uses r → r.last ≡ None
    → is_among (texts_in r.names form) text ≡ true → IsKept table (uses ++ use_of table (name_of form text) ∷ []) r
use_repeated texts table uses r form text h defined k none there = record {
  begins = k.begins;
  ended = k.ended;
  shared = λ v low high.
      all_with (has_version table v) uses (use_of table name) ∙ sym (repeated table (has_version table v) uses name (k.newest none) among)
      ∙ k.shared v low high;
  entries =
      all_with (is_entry table) uses (use_of table name) ∙ sym (repeated table (is_entry table) uses name (k.newest none) among) ∙ k.entries;
  newest = λ e. current_pushed table uses name (k.newest e);
  names = λ e x. k.names e x ∙ there_already (used uses) name x among ∙ sym (used_with uses (use_of table name) x);
}
  where
    name : Bytes
    name = name_of form text

    among : is_among (used uses) name ≡ true
    among = sym (k.names none name) ∙ in_names r.names form text there

-- a version is from both beginnings on where it is from the later on
later_begins : (f s v : ℕ) (b : Bool) → ((nat_le f v && b) && nat_le s v) ≡ (nat_le (max f s) v && b)
later_begins f s v b = by (nat_le f v) refl (nat_le s v) refl
  where
    le_true : (x : ℕ) → nat_le x v ≡ true → x ≤ v
    le_true x e = grind (arith, nat_tests, e)

    le_false : (x : ℕ) → nat_le x v ≡ false → v < x
    le_false x e = grind (arith, nat_tests, e)

    both : f ≤ v → s ≤ v → nat_le (max f s) v ≡ true
    both h i = let most : max f s ≤ v = omega (arith, h, i) in grind (arith, nat_tests, most)

    not_first : v < f → nat_le (max f s) v ≡ false
    not_first h = let more : v < max f s = omega (arith, h) in grind (arith, nat_tests, more)

    not_second : v < s → nat_le (max f s) v ≡ false
    not_second h = let more : v < max f s = omega (arith, h) in grind (arith, nat_tests, more)

    and_false : (x : Bool) → (x && false) ≡ false
    and_false true = refl
    and_false false = refl

    by : (x : Bool) → nat_le f v ≡ x → (y : Bool) → nat_le s v ≡ y → ((x && b) && y) ≡ (nat_le (max f s) v && b)
    by true e true i = and_true b ∙ sym (ap (λ z. z && b) (both (le_true f e) (le_true s i)))
    by true e false i = and_false b ∙ sym (ap (λ z. z && b) (not_second (le_false s i)))
    by false e y i = sym (ap (λ z. z && b) (not_first (le_false f e)))

-- the names of what is kept have the name too, as long as no entry has ended
abbrev pub HaveName : Kept → NameSet → Form → Bytes → Type 0
HaveName r names form text = r.last ≡ None → names ≡ with_name r.names form text

-- another name, or a use where an entry has ended
pub use_added : (texts : List (List BareDef)) (table : Table) (uses : Record) (r : Kept) (form : Form) (text : Bytes) (first : ℕ) (names : NameSet)
    → IsTableOf texts table → is_defined table (name_of form text) ≡ true → IsKept table uses r
    → first ≡ max r.first (since texts (name_of form text)) → HaveName r names form text
    → IsKept table (uses ++ use_of table (name_of form text) ∷ []) (record { first = first; last = r.last; names = names })
use_added texts table uses r form text first names h defined k first_is have = record {
  begins = begins;
  ended = k.ended;
  shared = λ v low high.
      all_with (has_version table v) uses (use_of table name)
      ∙ ap₂ (λ a b. a && b) (k.shared v low high) (h.entries name v defined high)
      ∙ later_begins r.first (since texts name) v (nat_le v (last_of r (current table)))
      ∙ ap (λ f. nat_le f v && nat_le v (last_of r (current table))) (sym first_is);
  entries =
      all_with (is_entry table) uses (use_of table name) ∙ ap₂ (λ a b. a && b) k.entries (entry_there table name defined);
  newest = λ e. current_pushed table uses name (k.newest e);
  names = λ e x.
      ap (λ s. is_among (names_in s) x) (have e) ∙ names_with r.names form text x ∙ ap (λ b. bytes_eq x name || b) (k.names e x)
      ∙ sym (used_with uses (use_of table name) x);
}
  where
    name : Bytes
    name = name_of form text

    most : since texts name ≤ current table
    most = subst (λ n. since texts name ≤ n) (sym h.history.count) (since_at_most texts name)

    begins : (1 ≤ first) × (first ≤ current table)
    begins = within r.first (since texts name) first (current table) k.begins.0 k.begins.1 most first_is
      where
        within : (f s new n : ℕ) → 1 ≤ f → f ≤ n → s ≤ n → new ≡ max f s → (1 ≤ new) × (new ≤ n)
        within f s new n a b c e = (omega (arith, a, e), omega (arith, b, c, e))

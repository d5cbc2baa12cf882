-- The lines of events that are put a page at a time.
use Rattle.std.proofs.Common.{◌≡◌, ℕ, List, [], ◌++◌, Option, refl, ap, sym, subst, ◌∙◌, append_assoc, append-nil}
use Rattle.std.specs.Io.KnownBytes.{Appends}
use Rattle.dsu_io.specs.Sinks.{AppendsFront}
use Rattle.dsu_io.proofs.Written.{Appends-then, AppendsFront-then}
use Rattle.journal_versions.proofs.Pieces.{Appends-nothing}

-- of all bytes those before the rest were appended
pub record Printed (old now : Option (List ℕ)) (all rest : List ℕ) : Type 0 where
  pub done : List ℕ
  pub is : all ≡ done ++ rest
  pub appended : Appends old now done

-- no page yet
pub none_printed : (old : Option (List ℕ)) (all : List ℕ) → Printed old old all all
none_printed old all = record { done = []; is = refl; appended = Appends-nothing old }

-- one more page
pub page_printed : (old mid new : Option (List ℕ)) (all rest page others : List ℕ) → Printed old mid all rest → rest ≡ page ++ others
    → Appends mid new page → Printed old new all others
page_printed old mid new all rest page others before parts put = record {
  done = before.done ++ page;
  is = before.is ∙ ap (λ r. before.done ++ r) parts ∙ sym (append_assoc before.done page others);
  appended = Appends-then old mid new before.done page before.appended put;
}

-- a shorter prefix of one more page
pub page_front : (old mid new : Option (List ℕ)) (all rest page others : List ℕ) → Printed old mid all rest → rest ≡ page ++ others
    → AppendsFront mid new page → AppendsFront old new all
page_front old mid new all rest page others before parts put =
    subst {A = List ℕ} (λ bytes. AppendsFront old new bytes) (sym (before.is ∙ ap (λ r. before.done ++ r) parts))
    (AppendsFront-then old mid new before.done page others before.appended put)

-- all pages
pub all_printed : (old new : Option (List ℕ)) (all : List ℕ) → Printed old new all [] → Appends old new all
all_printed old new all before = subst {A = List ℕ} (λ bytes. Appends old new bytes) (sym (before.is ∙ append-nil before.done)) before.appended

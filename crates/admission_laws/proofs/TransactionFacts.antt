-- The laws of transactions, from the lemmas on their parts.
use Rattle.std.proofs.Common.{◌≡◌, ℕ, suc, ◌<◌, true, false, Contains, is_some, arith}
use Rattle.std.proofs.lemmas.List.Elements.{All-weaker, All-contains, All-contains_itself}
use Rattle.c_semantics.specs.Changes.{changed}
use Rattle.c_semantics.specs.Texts.{definition}
use Rattle.name_sets.specs.NameLists.{is_among}
use Rattle.source_model.specs.Versions.{current, next_table}
use Rattle.source_model.specs.Uses.{HasVersion}
use Rattle.admission_laws.specs.TransactionLaws.{AheadIsFuture, DeepIsInside, KnownIsPrior, RecordsStayConsistent, LeftEntriesFollow, VersionedIsConsistent}
use Rattle.admission_laws.proofs.ClosureFacts.{ahead_is_future as ahead_future}
use Rattle.admission_laws.proofs.RecordedNames.{inside_by, prior_next}
use Rattle.admission_laws.proofs.EntryVersions.{version_stays, version_follows, stays_by}

positive : (n : ℕ) → 0 < suc n
positive n = omega arith

pub ahead_is_future : AheadIsFuture
ahead_is_future texts p below name stacked ahead = ahead_future texts p below name ahead stacked

pub deep_is_inside : DeepIsInside
deep_is_inside bodies p below n stacked depth = inside_by bodies p below (suc n) depth (positive n) stacked

pub known_is_prior : KnownIsPrior
known_is_prior bodies p q below name inside next known = prior_next bodies p q below name inside next known

pub records_stay_consistent : RecordsStayConsistent
records_stay_consistent p q table uses (v, all) = (
  v,
  All-weaker (HasVersion table v) (HasVersion (next_table (current table) p q table) v) (version_stays (current table) p q table v) uses all,
)

pub left_entries_follow : LeftEntriesFollow
left_entries_follow p q table uses defined left has =
    All-weaker (Contains uses) (HasVersion (next_table (current table) p q table) (suc (current table)))
    (λ u among.
    version_follows (current table) p q table u
    (stays_by p q u.name (All-contains (λ x. is_some (definition p x.name) ≡ true) uses u defined among)
    (All-contains (λ x. is_among (changed p q) x.name ≡ false) uses u left among))
    (All-contains (HasVersion table (current table)) uses u has among)) uses (All-contains_itself uses)

pub versioned_is_consistent : VersionedIsConsistent
versioned_is_consistent texts table false p below uses h = (current table, h)
versioned_is_consistent texts table true p below uses h = (h.version, h.recorded)

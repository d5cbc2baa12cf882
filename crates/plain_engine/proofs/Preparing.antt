-- What preparing an offer needs, and what was prepared for it.
use Rattle.std.proofs.Common.{◌≡◌, ℕ, ◌≤◌, List, [], ◌∷◌, ◌++◌, Some, map, slice_get, refl, sym, ◌∙◌, ap, subst, arith}
use Rattle.std.specs.Prelude.{option_copied}
use Rattle.std.specs.Arc.{arc_value}
use Rattle.std.specs.declared.alloc.Global.{Global}
use Rattle.std.specs.declared.sync.Arc.{Arc}
use Rattle.std.specs.Option.{ForSome}
use Rattle.std.proofs.lemmas.Option.{same_Some}
use Rattle.c_tree.specs.BareExpr.{Bytes}
use Rattle.c_tree.specs.declared.def.Program.{Program}
use Rattle.c_semantics.specs.SourceTexts.{Text, text_of}
use Rattle.c_semantics.specs.Store.{store}
use Rattle.code_store.specs.declared.body.StoredBody.{StoredBody}
use Rattle.code_store.specs.Stored.{IsStoreOf}
use Rattle.checkin_rows.specs.Rows.{Contents}
use Rattle.rows_in_force.specs.StoreRows.{AreRowsOver}
use Rattle.source_model.specs.Guards.{Guard, Offer, Setup}
use Rattle.source_model.specs.Patches.{all_names}
use Rattle.patch_build.specs.declared.patch.Patch.{Patch}
use Rattle.patch_build.specs.declared.patch.Versions.{Versions}
use Rattle.patch_build.specs.Versions.{AreVersions, IsTableOf}
use Rattle.installed_versions.specs.Installed.{HasItsRows as KeepsItsRows, IsInstalled, IsSeenAs}
use Rattle.installed_versions.specs.declared.installed.Installed.{Installed}
use Rattle.dsu_runs.specs.Books.{IsBook}
use Rattle.offer_decision.specs.declared.prepared.Found.TheVariants as found
use Rattle.offer_decision.specs.declared.prepared.Offered.{Offered}
use Rattle.offer_decision.specs.declared.prepared.Prepared.{Prepared}
use Rattle.offer_decision.specs.Prepared.{HasItsRows, IsFound, IsPrepared}
use Rattle.plain_engine.specs.Plain.{IsStateAt, ShownState}
use Rattle.offer_preparations.specs.declared.preparation.Preparation.{Preparation}
use Rattle.offer_preparations.specs.Preparations.{IsPreparation, IsPreparedOn, trees_of}
use Rattle.plain_engine.specs.Prepared.{AreVersionsAt, CanBePrepared, IsPreparationIn, IsPreparedAt, IsPreparedFor}

-- the versions of a state are those of a guard
pub are_versions : (setup : Setup) (g : Guard) (s : ShownState) (k : ℕ) (v : Versions) (next : Program) → IsStateAt setup g s
    → AreVersionsAt s k v next → AreVersions g.versions v
are_versions setup g s k v next at seen =
    seen.are g.versions at.versions.before at.versions.installed
    (at.versions.last_is
    ∙ ap (λ (p : Program). at.versions.before ++ text_of p ∷ [])
    (same_Some at.versions.tree seen.last (sym at.versions.numbered ∙ seen.last_at)))

-- an offer that is shown can be prepared
its_rows : (stored : List StoredBody) (i : Installed) (offered : Offered) → stored ≡ i.store → option_copied offered.rows ≡ i.rows
    → KeepsItsRows i → ForSome (option_copied offered.rows) (λ rows. AreRowsOver stored (arc_value rows))
its_rows stored i offered same rows kept =
    λ r there. subst (λ bodies. AreRowsOver bodies (arc_value r)) (sym same) (kept r (sym rows ∙ there))

pub can_be_prepared : (s : ShownState) (k : ℕ) (offered : Offered) → AreVersionsAt s k offered.versions offered.text.now
    → option_copied offered.rows ≡ s.installed.rows → KeepsItsRows s.installed → CanBePrepared s k offered
can_be_prepared s k offered at rows kept = record {
  rows = its_rows offered.versions.store.now s.installed offered at.same.bodies_are rows kept;
  at = at;
  fits = λ prepared is. record {
    early = let same : prepared.versions ≡ s.installed.count = is.count ∙ at.same.count_is in omega (arith, same);
    is = λ same. record { versions = offered.versions; next = offered.text.now; at = at; is = is };
  };
}

-- ---- rows that are kept

-- a fact of what versions have beside their rows
same_versions : (F : ℕ → List Bytes → List StoredBody → Type 0) (i j : Installed) → j.count ≡ i.count → j.names ≡ i.names
    → j.store ≡ i.store → F i.count i.names i.store → F j.count j.names j.store
same_versions F i j count names bodies f =
    subst (λ n. F n j.names j.store) (sym count)
    (subst (λ ns. F i.count ns j.store) (sym names) (subst (F i.count i.names) (sym bodies) f))

module _ (s : ShownState) (i : Installed) (count : i.count ≡ s.installed.count) (names : i.names ≡ s.installed.names)
    (bodies : i.store ≡ s.installed.store) where
  pub still_prepared : (k : ℕ) (p : Prepared) → IsPreparedAt s k p → IsPreparedAt (record s { installed = i }) k p
  still_prepared k p is = record {
    versions = is.versions;
    next = is.next;
    at = record {
      last = is.at.last;
      last_at = is.at.last_at;
      next_at = is.at.next_at;
      same = same_versions (IsSeenAs is.versions) s.installed i count names bodies is.at.same;
      are = same_versions (λ n ns bs. (texts before : List Text) → IsInstalled texts n ns bs → texts ≡ before ++ text_of is.at.last ∷ []
          → AreVersions texts is.versions) s.installed i count names bodies is.at.are;
    };
    is = is.is;
  }

  pub keeps_state : (setup : Setup) (g : Guard) → IsStateAt setup g s → KeepsItsRows i → IsStateAt setup g (record s { installed = i })
  keeps_state setup g at rows = record {
    run = at.run;
    seats = at.seats;
    versions = record {
      installed = same_versions (IsInstalled g.versions) s.installed i count names bodies at.versions.installed;
      before = at.versions.before;
      tree = at.versions.tree;
      numbered = at.versions.numbered;
      last_is = at.versions.last_is;
      rows = rows;
    };
    book = subst (λ ns. IsBook setup g ns s.book) (sym names) at.book;
    reached = at.reached;
    meets = at.meets;
  }

-- the rows of what was prepared for a state are those of its bodies
pub prepared_rows : (setup : Setup) (g : Guard) (s : ShownState) (k : ℕ) (p : Prepared) (patch : Patch) (rows : Arc Contents Global)
    → IsStateAt setup g s → IsPreparedAt s k p → p.found ≡ found.Patch patch rows → AreRowsOver s.installed.store (arc_value rows)
prepared_rows setup g s k p patch rows at is e =
    let says = is.is.found g.versions (are_versions setup g s k is.versions is.next at is.at) in
    let so = subst (IsFound g.versions is.versions is.next) e says in
    subst (λ bodies. AreRowsOver bodies (arc_value rows)) is.at.same.bodies_are so.2

-- ---- what was prepared elsewhere

trees_back : (ps : List Program) → map (λ (t : Text). t.tree) (map text_of ps) ≡ ps
trees_back [] = refl
trees_back (p ∷ ps) = ap (λ qs. p ∷ qs) (trees_back ps)

-- texts fix their trees
same_trees : (ps qs : List Program) → map text_of ps ≡ map text_of qs → ps ≡ qs
same_trees ps qs e = sym (trees_back ps) ∙ ap (map (λ (t : Text). t.tree)) e ∙ trees_back qs

seen_versions : (v : Versions) (i : Installed) (texts before : List Text) → IsSeenAs v i.count i.names i.store
    → IsInstalled texts i.count i.names i.store → texts ≡ before ++ text_of v.last.now ∷ [] → AreVersions texts v
seen_versions v i texts before seen are last = record {
  before = before;
  last_is = last;
  count_is = are.count_is ∙ sym seen.count_is;
  names_are = subst (IsTableOf (all_names texts)) (sym seen.names_are) are.names_are;
  store_is = subst (λ (names : List Bytes). IsStoreOf names (store texts) v.store.now) (sym seen.names_are)
      (subst (λ (bodies : List StoredBody). IsStoreOf i.names (store texts) bodies) (sym seen.bodies_are) are.store_is);
}

pub prepared_elsewhere : (setup : Setup) (g : Guard) (s : ShownState) (trees : List Program) (k : ℕ) (p : Prepared) → IsStateAt setup g s
    → map text_of trees ≡ setup.first ∷ map (λ (o : Offer). o.text) setup.offers
    → IsPreparedOn trees k s.last s.installed p → IsPreparedAt s k p
prepared_elsewhere setup g s trees k p at texts on =
    let same : trees ≡ s.run.trees = same_trees trees s.run.trees (texts ∙ sym at.run.trees) in
    record {
      versions = on.versions;
      next = on.next;
      at = record {
        last = on.versions.last.now;
        last_at = subst (λ (ts : List Program). slice_get ts s.last ≡ Some on.versions.last.now) same on.last_at;
        next_at = subst (λ (ts : List Program). slice_get ts k ≡ Some on.next) same on.next_at;
        same = on.seen;
        are = λ texts before are last. seen_versions on.versions s.installed texts before on.seen are last;
      };
      is = on.is;
    }

-- a preparation of an offer of a state shares the texts of the setup
pub preparation_in : (setup : Setup) (g : Guard) (s : ShownState) (p : Preparation) → IsStateAt setup g s
    → (KeepsItsRows s.installed → IsPreparation p) → trees_of p ≡ s.run.trees → IsPreparationIn setup p
preparation_in setup g s p at is trees = record {
  is = is at.versions.rows;
  texts = ap (map text_of) trees ∙ at.run.trees;
}

-- and once it has done its work
pub preparation_done : (setup : Setup) (old new : Preparation) → trees_of new ≡ trees_of old → (IsPreparation old → IsPreparation new)
    → IsPreparationIn setup old → IsPreparationIn setup new
preparation_done setup old new trees is of = record { is = is of.is; texts = ap (map text_of) trees ∙ of.texts }

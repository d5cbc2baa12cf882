-- After an install code stands for the world after it, whose objects were all brought to the newer text.
use Rattle.std.proofs.Common.{◌≡◌, suc, List, [], ◌∷◌, ◌++◌, length, map, sym, ap, subst, ◌∙◌}
use Rattle.std.proofs.lemmas.List.{map-append}
use Rattle.c_tree.specs.BareExpr.{Bytes}
use Rattle.c_tree.specs.BareDef.{BareDef}
use Rattle.c_semantics.specs.SourceTexts.{Text}
use Rattle.source_model.specs.Worlds.{World}
use Rattle.source_model.specs.Installs.{brought, installed}
use Rattle.version_laws.specs.Histories.{last_text}
use Rattle.version_laws.proofs.TableHistories.{one_longer}
use Rattle.world_laws.specs.Holdings.{HoldsGlobals}
use Rattle.frame_bodies.specs.AcceptedTexts.{definitions_of}
use Rattle.typed_runs.specs.TypedWorlds.{GlobalsTyped, tags_of}
use Rattle.bytecode.specs.Words.{Distinguishes}
use Rattle.object_store.specs.Naming.{IsNamed}
use Rattle.object_store.specs.Stores.{Store}
use Rattle.store_laws.specs.HandleLaws.{HandlesDistinguish}
use Rattle.code_runs.specs.CodeData.{Names}
use Rattle.code_runs.specs.CodeThreads.{CodeWorld}
use Rattle.code_runs.specs.CodeInstalls.{Installs}
use Rattle.code_run_laws.specs.DataMatches.{DataMatches, ObjectsMatch}
use Rattle.code_run_laws.specs.MoveLaws.{CodeInstallsAlike}
use Rattle.code_run_laws.specs.ThreadMatches.{SlotsMatch, SlotsStand}
use Rattle.code_run_laws.specs.WorldMatches.{WorldMatches}
use Rattle.code_run_laws.proofs.Between.{told_apart}
use Rattle.code_run_laws.proofs.InstalledCells.{holders_after, ranged_after, words_after}
use Rattle.code_run_laws.proofs.InstalledObjects.{objects_match_after, tags_after}
use Rattle.code_run_laws.proofs.LongerRuns.{slots_longer}

module _ (law : HandlesDistinguish) (texts : List (List BareDef)) (names : Names) (q : List BareDef) (w : World) (old new : CodeWorld)
    (m : WorldMatches texts names w old) (i : Installs texts names q old new) (text_is : w.text ≡ last_text texts)
    (typed : GlobalsTyped (last_text texts) (tags_of w.objects) w) (holds : HoldsGlobals w) where
  abbrev longer : List (List BareDef)
  longer = texts ++ q ∷ []

  abbrev tags : List Bytes
  tags = tags_of w.objects

  apart : Distinguishes (length (tags_of w.objects)) m.naming
  apart = told_apart law texts names m.naming m.objects w old.shared m.threads_named m.shared

  same_tags : tags_of (installed q w).objects ≡ tags_of w.objects
  same_tags = tags_after w.text q w.objects

  data_after : DataMatches longer names m.naming m.objects (installed q w) new.shared
  data_after = record {
    rows = i.rows ∙ m.shared.rows;
    cells = words_after texts names q w old new m.naming m.objects i m.shared text_is apart typed holds;
    ranged = ranged_after texts names q w old new m.naming m.objects i m.shared text_is apart typed holds;
    named = subst (IsNamed m.naming.object m.objects) (sym i.objects) m.shared.named;
    objects_match =
        subst (λ ts. ObjectsMatch names longer ts m.naming (map (brought w.text q) w.objects) m.objects) (sym same_tags)
        (subst (λ t. ObjectsMatch names longer tags m.naming (map (brought t q) w.objects) m.objects) (sym text_is)
        (objects_match_after texts q names tags m.naming w.objects m.objects m.shared.objects_match));
    capacity = ap (λ (s : Store). s.capacity) i.objects ∙ m.shared.capacity;
    mutexes = i.mutexes ∙ m.shared.mutexes;
    holders = holders_after texts names q w old new m.naming m.objects i m.shared text_is apart typed holds;
    version = ap suc i.version ∙ ap suc m.shared.version ∙ sym (one_longer texts q);
  }

  pub matches_after : WorldMatches longer names (installed q w) new
  matches_after = record {
    naming = m.naming;
    threads_named = m.threads_named;
    objects = m.objects;
    shared = data_after;
    count = ap length i.slots ∙ m.count;
    slots = λ going.
        subst (λ ts. SlotsMatch longer ts m.naming w.slots new.slots) (sym same_tags)
        (subst (SlotsMatch longer tags m.naming w.slots) (sym i.slots) (slots_longer texts q tags m.naming w.slots old.slots (m.slots going)));
    standing = subst (SlotsStand w.slots) (sym i.slots) m.standing;
    threads = i.threads ∙ m.threads;
    finish = i.finish ∙ m.finish;
    used_well = m.used_well;
  }

pub installs_alike_by : HandlesDistinguish → CodeInstallsAlike
installs_alike_by law texts q names w own new s i =
    subst (λ ts. WorldMatches ts names (installed q.definitions w) new) (sym (map-append (λ (t : Text). t.definitions) texts (q ∷ [])))
    (matches_after law (definitions_of texts) names q.definitions w own new s.matches i s.of.last s.typed.globals s.of.holds)

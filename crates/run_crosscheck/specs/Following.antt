-- What the private functions say that make the moves of a journal.
use Rattle.std.specs.Prelude.{◌≡◌, ◌≢◌, ◌++◌, ℕ, Bool, true, false, List, [], ◌∷◌, All, map, slice_get, Option, Some, None, Vec}
use Rattle.std.specs.declared.alloc.Global.{Global}
use Rattle.run_types.specs.declared.run.Event.{Event}
use Rattle.run_types.specs.declared.run.Event.TheVariants.{Move, CheckIn, Offer, Decide, Withdraw}
use Rattle.c_tree.specs.BareDef.{BareDef}
use Rattle.c_tree.specs.declared.def.Def.{Def}
use Rattle.c_tree.specs.declared.def.Program.{Program}
use Rattle.c_semantics.specs.SourceTexts.{Text, text_of}
use Rattle.patch_faults.specs.TransformFaults.{first_transform_fault}
use Rattle.source_model.specs.declared.answer.OfferAnswer.{OfferAnswer}
use Rattle.source_model.specs.declared.answer.OfferAnswer.TheVariants as ids
use Rattle.source_model.specs.Answers.{Answer, Installed}
use Rattle.source_model.specs.Guards.{Answered, Setup, offer_at}
use Rattle.source_model.specs.Guards as guard
use Rattle.source_model.specs.Journals.{answer_of, moves}
use Rattle.source_model.specs.JournalLaws.{texts_of}
use Rattle.source_model.specs.Worlds.{World}
use Rattle.version_laws.specs.Histories.{last_text, versions_by}
use Rattle.type_transformers.specs.declared.change.Change.{Change}
use Rattle.type_transformers.specs.Changes.{IsChange, changing, name_of}
use Rattle.source_programs.specs.Programs.{text_in}
use Rattle.source_runner.specs.declared.run.Stepped.{Stepped}
use Rattle.source_runner.specs.declared.run.Stepped.TheVariants.{Done, CannotMove}
use Rattle.source_runner.specs.SourceRuns.{trees_of, world_after}
use Rattle.recorded_runs.specs.RecordedRuns.{IsRecorded}
use Rattle.run_crosscheck.specs.declared.journal_run.JournalRun.{JournalRun}

-- whether an answer is that the offer was installed, as the definitions have it and with ids
abbrev pub is_install : Answer → Bool
is_install (Installed version) = true
is_install _ = false

abbrev pub says_installed : OfferAnswer → Bool
says_installed (ids.Installed version) = true
says_installed _ = false

-- by what was answered to an offer of text q, where p is in force: whether the transformers have no fault, and what is in force
-- after it
abbrev pub IsPatchIf : List Def → List Def → Answer → Type 0
IsPatchIf p q (Installed version) = first_transform_fault p q ≡ None
IsPatchIf p q _ = Unit {0}

abbrev pub in_force_after : List Def → List Def → Answer → List Def
in_force_after p q (Installed version) = q
in_force_after p q _ = p

-- each decision among some events is on an offer that is there, and what is installed has no fault over the text in force,
-- which is p before them
abbrev pub ArePatches : Setup → List Answered → List Def → List Event → Type 0
ArePatches setup given p [] = Unit {0}
ArePatches setup given p (Move t ∷ es) = ArePatches setup given p es
ArePatches setup given p (CheckIn t ∷ es) = ArePatches setup given p es
ArePatches setup given p (Offer k ∷ es) = ArePatches setup given p es
ArePatches setup given p (Withdraw k ∷ es) = ArePatches setup given p es
ArePatches setup given p (Decide k ∷ es) =
    (o : guard.Offer) × (offer_at setup k ≡ Some o) × IsPatchIf p o.text.tree.definitions (answer_of given k)
    × ArePatches setup given (in_force_after p o.text.tree.definitions (answer_of given k)) es

-- the run by some events, where this was answered, has the text with this number in force
pub record IsAt (setup : Setup) (given : List Answered) (es : List Event) (r : JournalRun) : Type 0 where
  pub recorded : IsRecorded (texts_of setup) setup.limits (moves given es) r.run
  pub trees : map text_of (trees_of r.run.run) ≡ setup.first ∷ map (λ o. o.text) setup.offers
  pub tree : Program
  pub numbered : slice_get (trees_of r.run.run) r.text ≡ Some tree
  pub in_force : last_text (versions_by (texts_of setup) (moves given es)) ≡ text_in tree

-- and the rest of the events can be followed
pub record IsFollowed (setup : Setup) (given : List Answered) (es rest : List Event) (r : JournalRun) : Type 0 where
  pub at : IsAt setup given es r
  pub patches : ArePatches setup given at.tree.definitions rest
  pub world : World
  pub whole : world_after (texts_of setup) setup.limits (moves given (es ++ rest)) ≡ Some world

-- so it is after events that could be followed; no other comes of a legal journal
abbrev pub HasFollowed : Setup → List Answered → List Event → List Event → JournalRun → Stepped → Type 0
HasFollowed setup given es rest r Done = IsFollowed setup given es rest r
HasFollowed setup given es rest r CannotMove = ⊥

-- the changes where text q follows text p; none where transformers have a fault
abbrev pub HasChanges : Program → Program → Option (Vec Change Global) → Type 0
HasChanges p q None = first_transform_fault p.definitions q.definitions ≢ None
HasChanges p q (Some changes) =
    (map name_of changes.items ≡ changing (text_in p) (text_in q)) × All (IsChange (text_in p) (text_in q)) changes.items

-- A thread at a stop, whose world has words: what is known there, and what goes on where no object is made.
use Rattle.std.proofs.Common.{◌≡◌, ℕ, zero, suc, ◌<◌, ◌≤◌, inl, inr, ◌⊎◌, List, [], ◌++◌, append-nil, map, length, get_or, All, Contains, Option, Some, None, refl, sym, ap, subst, arith}
use Rattle.std.proofs.lemmas.Bool.{cases_lt}
use Rattle.std.proofs.lemmas.List.{get_or_past}
use Rattle.std.proofs.lemmas.List.Elements.{All-get_or}
use Rattle.run_types.specs.declared.trap.TrapKind.{TrapKind}
use Rattle.c_tree.specs.BareExpr.{Bytes}
use Rattle.c_tree.specs.BareDef.{BareDef}
use Rattle.c_semantics.specs.Texts.{Definitions, definition}
use Rattle.c_semantics.specs.Values.{Value}
use Rattle.c_semantics.specs.Stops.{Stop}
use Rattle.source_model.specs.Worlds.{World}
use Rattle.source_model.specs.Moves.{Standing, goes_on, perform, traps}
use Rattle.version_laws.specs.Histories.{last_text, text_in}
use Rattle.typed_transformers.specs.TransformerTypes.{HasCells}
use Rattle.typed_trees.specs.ValueTypes.{HaveTypes}
use Rattle.typed_trees.specs.ExpressionTypes.{IsMutex}
use Rattle.typed_trees.specs.PieceTypes.{Stack}
use Rattle.typed_runs.specs.TypedFrames.{version_in}
use Rattle.typed_runs.specs.TypedWorlds.{tags_of}
use Rattle.typed_runs.proofs.MoreObjects.{no_more}
use Rattle.typed_runs.proofs.Stops.{Ready}
use Rattle.bytecode.specs.Words.{Naming, word_of}
use Rattle.tree_code.specs.Ranges.{AllRanged}
use Rattle.object_store.specs.Naming.{Objects}
use Rattle.code_runs.specs.CodeData.{Data, Names}
use Rattle.code_runs.specs.SharedStops.{Done, On, goes, traps as traps_with}
use Rattle.code_run_laws.specs.DataMatches.{DataMatches}
use Rattle.code_run_laws.proofs.NumberedTexts.{Numbered}
use Rattle.code_run_laws.proofs.SharedAlike.{ComesAlike}
use Rattle.code_run_laws.proofs.MoreNames.{no_more_named}

-- a text without definitions has all numbers
none_numbered : (names : Names) → Numbered names []
none_numbered names = record {
  cells = λ name h. absurd h;
  mutexes = λ name h. absurd h;
  fields = λ tag. omega arith;
  short = λ name own type n values e. absurd (none e);
}
  where
    none : {d : BareDef} → None ≡ Some d → ⊥
    none e = cc

-- each version's text has its numbers
numbered : (names : Names) (texts : List (List BareDef)) (n : ℕ) → All (Numbered names) texts → Numbered names (text_in texts n)
numbered names texts zero h = none_numbered names
numbered names texts (suc n) h = by (cases_lt n (length texts))
  where
    by : (n < length texts) ⊎ (length texts ≤ n) → Numbered names (get_or texts n [])
    by (inl within) = All-get_or (Numbered names) texts n [] within h
    by (inr past) = subst (Numbered names) (sym (get_or_past texts n [] past)) (none_numbered names)

-- a thread at a stop of a typed world, that has words, and from which types its frame goes on
pub record AtStop : Type 1 where
  pub texts : List (List BareDef)
  pub names : Names
  pub standing : Standing
  pub naming : Naming
  pub objects : Objects
  pub data_of : Data
  pub then_are : Stack → Type 0
  pub ready : Ready texts standing
  pub numbers : All (Numbered names) texts
  pub matches : DataMatches texts names naming objects standing.world data_of

abbrev pub world_of : AtStop → World
world_of a = a.standing.world

-- the tags of its objects
abbrev pub tags_at : AtStop → List Bytes
tags_at a = tags_of a.standing.world.objects

-- the definitions of the frame, and those of the version in force
abbrev pub look_of : AtStop → Definitions
look_of a = version_in a.texts a.standing.frame.version

abbrev pub now_of : AtStop → Definitions
now_of a = definition (last_text a.texts)

abbrev pub words_at : AtStop → List Value → List ℕ
words_at a = map (word_of a.naming)

-- what a stop comes to
abbrev pub Comes : AtStop → Stop → List Value → Done → Type 0
Comes a x values done = ComesAlike a.texts a.names a.standing a.naming a.then_are x values done done.came

module _ (a : AtStop) where
  pub text_now : a.standing.world.text ≡ last_text a.texts
  text_now = a.ready.of.last

  -- what holds of a definition now holds of it in the world's text
  pub has_now : (P : Option BareDef → Type 0) (name : Bytes) → P (now_of a name) → P (definition a.standing.world.text name)
  has_now P name h = subst (λ t. P (definition t name)) (sym text_now) h

  pub numbers_now : Numbered a.names a.standing.world.text
  numbers_now = subst (Numbered a.names) (sym text_now) (numbered a.names a.texts (length a.texts) a.numbers)

  pub mutex_number : (name : Bytes) → IsMutex (look_of a name) → Contains a.names.mutexes name
  mutex_number name is = (numbered a.names a.texts a.standing.frame.version a.numbers).mutexes name is

  pub cells_number : (name : Bytes) → HasCells (definition a.standing.world.text name) → Contains a.names.cells name
  cells_number name has = numbers_now.cells name has

  -- a world with other globals, mutexes or output
  pub record Beside (w : World) : Type 0 where
    pub objects : w.objects ≡ a.standing.world.objects
    pub slots : w.slots ≡ a.standing.world.slots
    pub threads : w.threads ≡ a.standing.world.threads
    pub finish : w.finish ≡ a.standing.world.finish
    pub misused : w.misused ≡ a.standing.world.misused

  -- the frame goes on in such a world
  pub goes_beside : (x : Stop) (values after : List Value) (under : Stack) (w : World) (new : Data) (printed : List ℕ) → Beside w
      → w.output ≡ a.standing.world.output ++ printed → perform x a.standing values ≡ goes_on a.standing w after
      → DataMatches a.texts a.names a.naming a.objects w new → a.then_are under → HaveTypes (tags_at a) under after → AllRanged after
      → Comes a x values (record { shared = new; printed = printed; came = On (words_at a after) })
  goes_beside x values after under w new printed beside output performs matches on have ranged = record {
    world = w;
    values_after = after;
    naming_after = a.naming;
    objects_after = a.objects;
    types_after = under;
    performs = performs;
    shared = matches;
    goes = on;
    have = subst (λ os. HaveTypes (tags_of os) under after) (sym beside.objects) have;
    ranged = ranged;
    words = refl;
    output = output;
    slots = beside.slots;
    threads = beside.threads;
    finish = beside.finish;
    misused = beside.misused;
    grows = no_more (tags_at a) (tags_of w.objects) (ap tags_of beside.objects);
    more = no_more_named (length a.standing.world.objects) a.naming;
  }

  -- it goes on in the same world
  pub goes_here : (x : Stop) (values after : List Value) (under : Stack) → perform x a.standing values ≡ goes_on a.standing a.standing.world after
      → a.then_are under → HaveTypes (tags_at a) under after → AllRanged after → Comes a x values (goes a.data_of (words_at a after))
  goes_here x values after under performs on have ranged =
      goes_beside x values after under a.standing.world a.data_of []
      (record { objects = refl; slots = refl; threads = refl; finish = refl; misused = refl })
      (sym (append-nil a.standing.world.output)) performs a.matches on have ranged

  -- it traps
  pub traps_here : (x : Stop) (values : List Value) (kind : TrapKind) → perform x a.standing values ≡ traps a.standing kind
      → Comes a x values (traps_with a.data_of kind)
  traps_here x values kind performs = record { objects_after = a.objects; performs = performs; shared = a.matches; silent = refl }

  -- what it comes to is known by an equation
  pub comes_as : (x : Stop) (values : List Value) (done known : Done) → done ≡ known → Comes a x values known → Comes a x values done
  comes_as x values done known e h = subst (Comes a x values) (sym e) h

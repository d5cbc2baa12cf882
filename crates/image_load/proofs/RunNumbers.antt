-- The names of a run have numbers.
use Rattle.std.proofs.Common.{◌≡◌, ◌≤◌, List, Contains, map, length, sym, ap, subst, ◌∙◌, arith}
use Rattle.std.specs.Prelude.{Vec, flat_map}
use Rattle.std.specs.declared.alloc.Global.{Global}
use Rattle.name_sets.specs.Limit.{most_names}
use Rattle.c_tree.specs.BareExpr.{Bytes}
use Rattle.resolved_tree.specs.Nodes.{word}
use Rattle.source_programs.specs.declared.places.Places.{Places}
use Rattle.text_code.specs.declared.body.Body.{Body}
use Rattle.code_image.specs.Images.{each_once, names_in}
use Rattle.accepted_stops.specs.StopNames.{function_names}
use Rattle.image_load.specs.declared.callees.Callees.{Callees}
use Rattle.image_load.specs.declared.names.Run.{Run}
use Rattle.image_load.specs.declared.numbers.Numbers.{Numbers}
use Rattle.image_load.specs.MadeTexts.{AreCallees, AreCompiled, body_names}
use Rattle.image_load.specs.Numbering.{AreDistinct, AreNumbers, AreTables, HasNumbers, callees_of, texts_of, words_of}
use Rattle.image_load.proofs.NameLists.{distinct_once, in_each, once_has}
use Rattle.image_load.proofs.NamesOfTexts.{counted}
use Rattle.image_load.proofs.Whole.{all_names, names_mapped}

-- where a run has the tables of all names, and the names of all its bodies
module _ (r : Run) (n : Numbers) (c : Callees) (bodies : List (Vec Body Global)) (tables : AreTables (names_in (texts_of r)) n)
    (callees : AreCallees (words_of r) (each_once (flat_map (λ v. body_names (words_of r) v.items) bodies)) c)
    (compiled : AreCompiled (words_of r) (texts_of r) (map (λ v. v.items) bodies)) (same : r.callees.now ≡ c.words.items) where
  abbrev names : List Bytes
  names = flat_map (λ v. body_names (words_of r) v.items) bodies

  are_once : callees_of r ≡ each_once names
  are_once = ap (map (word (words_of r))) same ∙ callees.same

  all : names ≡ flat_map function_names (texts_of r)
  all = names_mapped (body_names (words_of r)) (λ v. v.items) bodies ∙ all_names (words_of r) (texts_of r) (map (λ v. v.items) bodies) compiled

  pub are_numbers : length n.tags.names.items ≤ most_names → r.cells.now ≡ n.cells.places → r.mutexes.now ≡ n.mutexes.places
      → r.tags.now ≡ n.tags.places → r.functions.now ≡ c.numbers.places → AreNumbers r
  are_numbers few cells mutexes tags functions = record {
    cells = subst (λ (p : Places). HasNumbers p (names_in (texts_of r)).cells) (sym cells) tables.cells.numbers;
    mutexes = subst (λ (p : Places). HasNumbers p (names_in (texts_of r)).mutexes) (sym mutexes) tables.mutexes.numbers;
    tags = subst (λ (p : Places). HasNumbers p (names_in (texts_of r)).tags) (sym tags) tables.tags.numbers;
    functions =
        subst (λ (p : Places). HasNumbers p (callees_of r)) (sym functions)
        (subst (λ (ns : List Bytes). HasNumbers c.numbers.places ns) (sym are_once) callees.numbers.numbers);
    few_tags = omega (arith, few, counted (names_in (texts_of r)).tags n.tags tables.tags);
    distinct = subst AreDistinct (sym are_once) (distinct_once names);
    called = λ text name there own.
        subst (λ (ns : List Bytes). Contains ns name) (sym are_once)
        (once_has names name (subst (λ (ns : List Bytes). Contains ns name) (sym all) (in_each function_names (texts_of r) text name there own)));
  }

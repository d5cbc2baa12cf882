-- A verified body may be executed in bursts.
use Rattle.std.proofs.Common.{◌≡◌, ◌≢◌, ℕ, suc, ◌-◌, ◌≤◌, ◌<◌, List, map, length, slice_get, Option, Some, refl, sym, ap, ◌∙◌, subst}
use Rattle.resolved_tree.specs.Nodes.{Table}
use Rattle.c_semantics.specs.Stops.{Stop}
use Rattle.c_semantics.specs.Stops as stop
use Rattle.local_evaluation.specs.declared.piece.Stop.{Stop as StopNode}
use Rattle.local_evaluation.specs.declared.piece.Stop.TheVariants.{Join, Return}
use Rattle.local_evaluation.specs.Pieces.{stop_of}
use Rattle.skeletons.specs.Meaning.{check_in_of}
use Rattle.bytecode.specs.declared.instr.Instr.{Instr}
use Rattle.bytecode.specs.declared.instr.Instr.TheVariants.{Halt, Back, CheckIn}
use Rattle.bytecode.specs.Seen.{code_of, instruction_of}
use Rattle.code_kinds.specs.WellFormed.{FunctionCode}
use Rattle.code_verify.specs.declared.source.Source.{Source}
use Rattle.code_verify.specs.declared.source.Body.{Body}
use Rattle.code_verify.specs.Seen.{function_code, trees_of}
use Rattle.code_verify.specs.Verified.{IsVerified}
use Rattle.thread_state.specs.Heights.{HasHeight, Sound}
use Rattle.sound_code.specs.StopWords.{height_after_stop, stop_takes}
use Rattle.sound_code.specs.Executable.{IsExecutable}
use Rattle.sound_code.proofs.Tables.{names_do_not_matter, seen_there}
use Rattle.sound_code.proofs.Whole.{verified_is_sound}
use Rattle.sound_code.proofs.Between.{back_edges_lead_back, check_ins_lead_on, entry_leads_on, stops_lead_on}

-- how many words a stop takes and leaves doesn't depend on names
same_takes : (s t : Table) (x : StopNode) → stop_takes (stop_of s x) ≡ stop_takes (stop_of t x)
same_takes s t Join = refl
same_takes s t _ = refl

same_height_after : (s t : Table) (x : StopNode) (h : ℕ) → height_after_stop (stop_of s x) h ≡ height_after_stop (stop_of t x) h
same_height_after s t Join h = refl
same_height_after s t _ h = refl

no_return : (s : Table) (x : StopNode) → x ≢ Return → stop_of s x ≢ stop.Return
no_return s Return h = λ e. h refl
no_return s _ h = λ e. cc

pub executable : (source : Source) (body : Body) (heights : List (Option ℕ)) → IsVerified (function_code source body) heights → IsExecutable body heights
executable source body heights v =
    let u : FunctionCode = function_code source body in
    let s : Table = trees_of source in
    let code : List Instr = body.code.items in
    let begins = v.well_formed.begins in
    record {
      sound = λ t. names_do_not_matter s t code body.room heights (verified_is_sound u heights v);
      parameters = begins.parameters;
      room = begins.room;
      entry = (entry_leads_on u heights v).here;
      takes = λ t place height x n has is.
          subst (λ m. m ≤ height) (same_takes s t x)
          (stops_lead_on u heights v place height (stop_of s x) n has (seen_there s code place (Halt x n) is)).2.takes;
      leaves = λ t place height x n has is other.
          subst (λ m. HasHeight heights (suc place) m) (same_height_after s t x height)
          ((stops_lead_on u heights v place height (stop_of s x) n has (seen_there s code place (Halt x n) is)).2.goes (no_return s x other)).here;
      check_ins = λ place height kind n has is.
          check_ins_lead_on u heights v place height (check_in_of kind) n has (seen_there s code place (CheckIn kind n) is);
      before = λ place height d n w has is. (back_edges_lead_back u heights v place height d n w has (seen_there s code place (Back d n w) is)).0;
      back_edges = λ place height d n w has is. (back_edges_lead_back u heights v place height d n w has (seen_there s code place (Back d n w) is)).1;
    }

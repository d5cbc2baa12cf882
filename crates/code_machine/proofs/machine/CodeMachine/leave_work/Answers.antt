use Rattle.std.proofs.Common.{◌≤◌, ℕ, refl, ap, sym, subst}
use Rattle.std.specs.Prelude.{Vec, vec_capacity}
use Rattle.std.specs.declared.alloc.Global.{Global}
use Rattle.code_machine.specs.Keeping.{SameRun}
use Rattle.code_machine.proofs.machine.CodeMachine.leave_work.Goals as goal

pub invariant_of-self-clause-kept : goal.invariant_of-self-clause-kept
invariant_of-self-clause-kept c = (c.leave_work.ensures c.args.self.now.image.value c.args.self.now.kept).kept

pub invariant_of-self-clause-room : goal.invariant_of-self-clause-room
invariant_of-self-clause-room c =
    let m = c.args.self.now in
    subst (λ (v : Vec ℕ Global). m.image.value.longest_print ≤ vec_capacity v) (sym (c.leave_work.ensures m.image.value m.kept).output) m.room

pub returns : goal.returns
returns c =
    let m = c.args.self.now in
    let s : SameRun m.image.value m.run c.leave_work.new.self = c.leave_work.ensures m.image.value m.kept in
    record {
      same = record {
        image = refl;
        world = s.world;
        output = ap (λ (v : Vec ℕ Global). v.items) s.output;
        run = s.run;
        versions = ap (λ (v : Vec ℕ Global). v.items) s.same.versions;
        used = s.used;
      };
    }
